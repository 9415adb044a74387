use Rattle.std.proofs.Common.{◌≡◌, ◌∙◌, ◌+◌, ◌*◌, ◌∷◌, ◌++◌, [], ℕ, List, ap, append-nil, arith, length, sym}
use Rattle.std.specs.List.{flat_map}
use Rattle.mib_model.specs.Finish.{all_finished, finished}
use Rattle.mib_model.specs.Kept.{Memory}
use Rattle.mib_model.specs.Tails.{Told}
use Rattle.mib_model.specs.Texts.{told_text}
use Rattle.row_interpreter.specs.Memories.{memory_of}
use Rattle.row_records.proofs.ListFacts.{none-left, split-at}
use Rattle.row_records.proofs.TellFacts.{goes-all, goes-first, goes-on, text-more}
use Rattle.row_records.proofs.telling.tell_all.Goals as goal

pub loop-value-init : goal.loop-value-init
loop-value-init c = record {
  tolds = [];
  goes = goes-first c.args.rows.now (memory_of c.args.memory.now) c.args.values.now;
  text = sym (append-nil c.args.out.now);
  room = omega arith;
}

pub loop-value-preserved : goal.loop-value-preserved
loop-value-preserved c =
    let db = c.args.rows.now in
    let so = c.loop-value.invariant in
    let split = split-at c.args.values.now c.loop-value.value-index c.value-item.result c.loop-value-test.true c.value-item.is in
    let told = (finished db (memory_of c.loop-value.memory) c.value-item.result).1 in
    record {
      tolds = so.tolds ++ told ∷ [];
      goes = goes-on db (memory_of c.args.memory.now) (memory_of c.loop-value.memory) (memory_of c.tell_value.new.memory) c.args.values.now _ _ c.value-item.result so.tolds split c.in_ok-tell_value.ensures.memory so.goes;
      text = text-more c.args.packet.now c.args.out.now c.loop-value.out c.tell_value.new.out so.tolds told so.text c.in_ok-tell_value.ensures.text;
      room = omega (arith, so.room, c.in_ok-tell_value.ensures.room);
    }

pub returns-clause-memory : goal.returns-clause-memory
returns-clause-memory c =
    let none = none-left c.args.values.now c.loop-value.value-index (omega (arith, c.loop-value-test.false)) in
    let all = goes-all c.args.rows.now (memory_of c.args.memory.now) (memory_of c.loop-value.memory) c.args.values.now _ c.loop-value.invariant.tolds none c.loop-value.invariant.goes in
    sym (ap (λ (f : Memory × List Told). f.0) all)

pub returns-clause-text : goal.returns-clause-text
returns-clause-text c =
    let none = none-left c.args.values.now c.loop-value.value-index (omega (arith, c.loop-value-test.false)) in
    let all = goes-all c.args.rows.now (memory_of c.args.memory.now) (memory_of c.loop-value.memory) c.args.values.now _ c.loop-value.invariant.tolds none c.loop-value.invariant.goes in
    c.loop-value.invariant.text ∙ sym (ap (λ (f : Memory × List Told). c.args.out.now ++ flat_map (told_text c.args.packet.now) f.1) all)
