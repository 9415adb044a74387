use Rattle.std.proofs.Common.{◌≡◌, ◌∙◌, ◌+◌, ◌*◌, ℕ, ℤ, pos, nat_abs, Bool, false, not, List, take, Some, None, sym, ap, subst, arith}
use Rattle.std.proofs.lemmas.Int.{to_z-of_z}
use Rattle.mib_model.specs.declared.packet.Ended.TheVariants.{Whole}
use Rattle.mib_model.specs.declared.packet.Value.{Value}
use Rattle.mib_model.specs.Structures.{structure}
use Rattle.mib_model.specs.Walk.{walk_limit, walk_start}
use Rattle.bit_field.specs.Taken.{taken}
use Rattle.struct_plan.specs.declared.numbers.WalkEnd.TheVariants.{Ended}
use Rattle.struct_plan.specs.Courses.{Gives}
use Rattle.struct_plan.specs.Slices.{structure_found}
use Rattle.struct_plan.specs.Sources.{walked_by}
use Rattle.struct_plan.proofs.EndFacts.{walks_end}
use Rattle.tm_build.proofs.StructureFacts.{copied-none, positive, with-structure, without-structure}
use Rattle.tm_build.proofs.laying.lay_structure.Goals as goal
use mir.Val.{to_z, of_z}
use mir.Syntax.{w32, w128}

pub returns-then-is_none-clause-values : goal.returns-then-is_none-clause-values
returns-then-is_none-clause-values g c =
    let db = c.args.tables.now in
    let row = c.args.row.now in
    let short : to_z w32 (of_z w32 row.tpsd) ≡ row.tpsd = grind (arith, to_z-of_z, c.fits-row) in
    let wide : to_z w128 (of_z w128 c.from.result) ≡ c.from.result = grind (arith, to_z-of_z) in
    let tpsd : to_z w128 (of_z w128 c.from.result) ≡ row.tpsd = wide ∙ (c.from.ensures ∙ short) in
    let none = copied-none c.structure.result (c.is_none.ensures ∙ ap not c.if-is_none.true) in
    let missing : structure_found db row.tpsd ≡ None = ap (structure_found db) (sym tpsd) ∙ (sym c.structure.ensures.found ∙ none) in
    ap (λ (vs : List Value). (vs, Ended Whole)) (ap (λ (n : ℕ). take n c.args.values.now.slots.now) c.requires.used)
    ∙ without-structure db (g.N.Numbers.source c.args.numbers.now) row c.requires.structure missing

pub returns-clause-values : goal.returns-clause-values
returns-clause-values g c =
    let db = c.args.tables.now in
    let row = c.args.row.now in
    let source = g.N.Numbers.source c.args.numbers.now in
    let short : to_z w32 (of_z w32 row.tpsd) ≡ row.tpsd = grind (arith, to_z-of_z, c.fits-row) in
    let same : pos (nat_abs (to_z w32 (of_z w32 row.tpsd))) ≡ row.tpsd = ap (λ (z : ℤ). pos (nat_abs z)) short ∙ positive row.tpsd c.requires.structure in
    let (end, walks) = walks_end db c.walk_by.ensures.sound source row.tpsd row.dfhsize in
    c.walk_by.ensures.values row.dfhsize end (ap (λ (n : ℕ). 8 * (6 + n)) c.from-2.ensures)
    (subst (λ (z : ℤ). Gives db source end (walk_start db z row.dfhsize)) (sym same) (walk_limit db, walks))
    ∙ with-structure db source row end c.requires.structure walks
