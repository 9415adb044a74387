use Rattle.std.proofs.Common.{◌≡◌, ◌∙◌, ap, sym, refl, take, arith}
use Rattle.std.proofs.lemmas.Int.{to_z-of_z}
use Rattle.mib_model.specs.declared.packet.Ended.TheVariants.{Whole}
use Rattle.decode_one.proofs.SoundFacts.{layout-there, structure-there, layout-values, walk-values, no-values}
use Rattle.decode_one.proofs.decoding.extract.Goals as goal
use mir.Val.{to_z, of_z}
use mir.Syntax.{w32}

pub fixed-requires-clause-layout : goal.fixed-requires-clause-layout
fixed-requires-clause-layout g c =
    let same : to_z w32 (of_z w32 c.in-Spid.tpsd) ≡ c.in-Spid.tpsd = grind (arith, to_z-of_z) in
    layout-there (g.P.Structures.tables c.args.plans.now) c.args.packet.now c.args.found.now _ _ _ _ _ c.in-Spid.is _ same c.requires.found c.if-tpsd-lt1.true

pub walked-requires-clause-there : goal.walked-requires-clause-there
walked-requires-clause-there g c =
    let same : to_z w32 (of_z w32 c.in-Spid.tpsd) ≡ c.in-Spid.tpsd = grind (arith, to_z-of_z) in
    structure-there (g.P.Structures.tables c.args.plans.now) c.args.packet.now c.args.found.now _ _ _ _ _ c.in-Spid.is _ same c.requires.sound c.requires.found c.if-tpsd-lt1.false

pub returns-then-tpsd-lt1-clause-values : goal.returns-then-tpsd-lt1-clause-values
returns-then-tpsd-lt1-clause-values g c =
    let same : to_z w32 (of_z w32 c.in-Spid.tpsd) ≡ c.in-Spid.tpsd = grind (arith, to_z-of_z) in
    layout-values (g.P.Structures.tables c.args.plans.now) c.args.packet.now c.args.found.now _ _ _ _ _ c.in-Spid.is _ same c.if-tpsd-lt1.true _ c.fixed.ensures.values

pub returns-else-tpsd-lt1-clause-values : goal.returns-else-tpsd-lt1-clause-values
returns-else-tpsd-lt1-clause-values g c =
    let same : to_z w32 (of_z w32 c.in-Spid.tpsd) ≡ c.in-Spid.tpsd = grind (arith, to_z-of_z) in
    walk-values (g.P.Structures.tables c.args.plans.now) c.args.packet.now c.args.found.now _ _ _ _ _ c.in-Spid.is _ same c.if-tpsd-lt1.false _ c.walked.ensures.values

pub returns-in_default : goal.returns-in_default
returns-in_default g c = record {
  values = ap (λ n. (take n c.args.values.now.slots.now, Whole)) c.requires.used ∙ sym (no-values (g.P.Structures.tables c.args.plans.now) c.args.packet.now c.args.found.now c.in_default.not-Spid);
  stays = record { slots = c.requires.slots; used = omega (arith, c.requires.used); borrow = refl };
}
