use Rattle.std.proofs.Common.{◌∙◌, ◌+◌, List, take, drop, length, sym, subst}
use Rattle.ident_plan.specs.declared.fast.kin.Kin.{Kin}
use Rattle.ident_plan.specs.Kins.{AreKins}
use Rattle.ident_plan.proofs.KinFacts.{further, written}
use Rattle.ident_plan.proofs.fast.kin.kins_of.Goals as goal

pub loop-row-preserved : goal.loop-row-preserved
loop-row-preserved c =
    let rows = take c.loop-row.row-index c.args.pids.now in
    let before : AreKins rows c.deref_mut.result.now = subst (λ (ks : List Kin). AreKins rows ks) (sym c.deref_mut.ensures.value) c.loop-row.invariant.kins in
    let whole = written c.loop-row.kins.len c.note.new.kins (drop (length c.note.new.kins) c.loop-row.kins.items) (sym (c.note.ensures.length ∙ c.deref_mut.ensures.len)) in
    record { kins = subst (λ (ks : List Kin). AreKins (take (c.loop-row.row-index + 1) c.args.pids.now) ks) (sym whole) (further c.args.pids.now c.loop-row.row-index _ c.note.new.kins c.loop-row-test.true (c.note.ensures.kins rows before)) }
