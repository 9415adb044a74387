use Rattle.std.proofs.Common.{◌≡◌, ◌≤◌, ◌^◌, to_z, of_z, arith}
use Rattle.std.specs.Prelude.{nat_abs}
use Rattle.std.specs.Int.{w64}
use Rattle.std.proofs.lemmas.Int.{ints}
use Rattle.dec_num.proofs.WordFacts.{word-advanced}
use Rattle.dec_num.proofs.fast.advance.Goals as goal

pub returns : goal.returns
returns c =
    let raw : to_z w64 (of_z w64 c.args.raw) ≡ c.args.raw = omega (arith, ints) in
    let power : to_z w64 (of_z w64 c.args.power) ≡ c.args.power = omega (arith, ints) in
    let total : to_z w64 (of_z w64 c.args.total) ≡ c.args.total = omega (arith, ints) in
    let coefficient : to_z w64 (of_z w64 c.args.coefficient) ≡ c.args.coefficient = omega (arith, ints) in
    let next : to_z w64 (of_z w64 c.in_ok-next.next) ≡ c.in_ok-next.next = omega (arith, ints) in
    let term : to_z w64 (of_z w64 c.in_ok-term.term) ≡ c.in_ok-term.term = omega (arith, ints) in
    let more : to_z w64 (of_z w64 c.in_ok-checked_add.field-0) ≡ c.in_ok-checked_add.field-0 = omega (arith, ints) in
    let one : nat_abs c.in_ok-next.next ≤ 2 ^ 63 = omega (arith, ints) in
    let two : nat_abs c.in_ok-term.term ≤ 2 ^ 63 = omega (arith, ints) in
    let three : nat_abs c.in_ok-checked_add.field-0 ≤ 2 ^ 63 = omega (arith, ints) in
    rw (next, more)
    (word-advanced c.args.raw c.args.power c.args.total c.args.coefficient c.in_ok-next.next c.in_ok-term.term c.in_ok-checked_add.field-0
    (rw (power, raw) at c.in_ok-next.ensures.1) (rw (coefficient, next) at c.in_ok-term.ensures.1) (rw (total, term) at c.in_ok-checked_add.ensures.1) one two three)
