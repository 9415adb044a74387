use Rattle.std.proofs.Common.{◌∙◌, ne_eqb}
use Rattle.desk_lines.proofs.PieceFacts.{next-octet, piece-octet}
use Rattle.desk_lines.proofs.piece.take_piece.Goals as goal

pub loop-octets-preserved : goal.loop-octets-preserved
loop-octets-preserved g c =
    let kept = c.loop-octets.invariant in
    let next = c.in-Ok-Some.ensures in record {
      taking = piece-octet c.loop-octets.octets c.in-Ok-Some.octet c.args.room _ _ _ c.loop-octets.into c.keep.new.into kept.taking c.loop-octets-test.true (ne_eqb c.in-Ok-Some.octet 10 c.in-Ok-Some.octet-test.1) (next-octet _ _ c.in-Ok-Some.field-0 c.in-Ok-Some.octet c.in-Ok-Some.field-0-is next.octet) c.keep.ensures.inside c.keep.ensures.outside c.keep.auto.into;
      faults = next.cause.ok ∙ kept.faults;
      holds = next.holds ∙ kept.holds;
      missed = next.missed ∙ kept.missed;
      borrow = next.borrow ∙ kept.borrow;
    }
