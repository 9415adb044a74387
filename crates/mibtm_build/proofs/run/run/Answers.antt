use Rattle.std.proofs.Common.{◌≡◌, ◌∙◌, ◌+◌, refl, ap, subst, sym, arith}
use Rattle.desk_lines.specs.ToCome.{Reading}
use Rattle.mib_model.specs.declared.database.Database.{Database}
use Rattle.mibtm_build.proofs.RunFacts.{goes-more, goes-start, ran}
use Rattle.mibtm_build.specs.Runs.{Goes, Ran, standing_of}
use Rattle.mibtm_build.proofs.run.run.Goals as goal

pub loop-code-init : goal.loop-code-init
loop-code-init g c = record {
  number = let none : c.args.reader.now.lines ≡ 0 = ap (λ (r : Reading). r.lines) c.requires.start in omega (arith, none);
  line = c.requires.line;
  packet = c.requires.room;
  builder = refl;
  goes = goes-start c.args.builder.now (standing_of g.D.Source.left g.O.Sink.written c.args.reader.now c.args.out.now);
  asks = refl;
  output = refl;
  handed = refl;
  missed = refl;
  borrow = refl;
}

pub returns-in-Some-clause-ran : goal.returns-in-Some-clause-ran
returns-in-Some-clause-ran g c =
    let before = standing_of g.D.Source.left g.O.Sink.written c.args.reader.now c.args.out.now in
    let middle = standing_of g.D.Source.left g.O.Sink.written c.loop-code.reader c.loop-code.out in
    let after = standing_of g.D.Source.left g.O.Sink.written c.next_line.new.reader c.next_line.new.out in
    let inv = c.loop-code.invariant in
    subst (λ (db : Database). Ran c.in-Some.code db before.left after.left before.written after.written) inv.builder
    (ran c.loop-code.builder before middle after inv.goes c.requires.start c.in-Some.code c.in-Some.ensures.comes)

pub loop-code-preserved : goal.loop-code-preserved
loop-code-preserved g c =
    let before = standing_of g.D.Source.left g.O.Sink.written c.args.reader.now c.args.out.now in
    let middle = standing_of g.D.Source.left g.O.Sink.written c.loop-code.reader c.loop-code.out in
    let after = standing_of g.D.Source.left g.O.Sink.written c.next_line.new.reader c.next_line.new.out in
    let inv = c.loop-code.invariant in
    let h = c.in_default.ensures.comes in
    record {
      number = let more : c.next_line.new.reader.lines ≡ c.loop-code.reader.lines + 1 = ap (λ (r : Reading). r.lines) h.takes.counted in omega (arith, more, inv.number);
      line = c.next_line.auto.line ∙ inv.line;
      packet = c.next_line.auto.packet ∙ inv.packet;
      builder = c.next_line.ensures.kept ∙ inv.builder;
      goes = subst (λ (db : Database). Goes db before after) (sym c.next_line.ensures.kept) (goes-more c.loop-code.builder before middle after inv.goes h);
      asks = c.in_default.ensures.asks ∙ inv.asks;
      output = c.in_default.ensures.cause ∙ inv.output;
      handed = c.next_line.ensures.handed ∙ inv.handed;
      missed = c.next_line.ensures.missed ∙ inv.missed;
      borrow = c.next_line.ensures.borrow ∙ inv.borrow;
    }
