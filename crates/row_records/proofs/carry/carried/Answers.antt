use Rattle.std.proofs.Common.{◌≡◌, ◌∙◌, inr, refl, List, ℕ, subst, take, arith}
use Rattle.std.proofs.lemmas.List.{take_all}
use Rattle.mib_model.specs.Kept.{Memory, nothing_kept}
use Rattle.row_interpreter.specs.Memories.{memory_of}
use Rattle.row_records.proofs.CarryFacts.{Carries, carries-all, carries-more, carries-none}
use Rattle.row_records.proofs.carry.carried.Goals as goal

pub loop-name-init : goal.loop-name-init
loop-name-init c = carries-none (memory_of c.args.memory.now) c.args.old.now c.args.new.now (memory_of c.new-carried.result) c.new-carried.ensures

pub loop-name-preserved : goal.loop-name-preserved
loop-name-preserved c =
    carries-more (memory_of c.args.memory.now) c.args.old.now c.args.new.now c.names-names.result.now c.loop-name.name-index c.name-item.result (memory_of c.loop-name.carried) (memory_of c.carry_name.new.carried)
    c.loop-name-test.true c.name-item.is c.in_ok-carry_name.ensures c.loop-name.invariant

pub returns : goal.returns
returns c =
    let all = take_all c.loop-name.name-index c.names-names.result.now (omega (arith, c.loop-name-test.false)) in
    carries-all (memory_of c.args.memory.now) c.args.old.now c.args.new.now c.names-names.result.now (memory_of c.loop-name.carried) c.names-names.ensures
    (subst (λ (names : List (List ℕ)). Carries (memory_of c.args.memory.now) c.args.old.now c.args.new.now names (memory_of c.loop-name.carried)) all c.loop-name.invariant)
