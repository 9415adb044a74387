use Rattle.std.proofs.Common.{◌≡◌, ◌+◌, ◌-◌, ◌≤◌, decimal, find}
use Rattle.std.specs.List.{range_with_len}
use Rattle.std.specs.Str.{bytes_eq}
use Rattle.tm_audit.proofs.shown.edition_numbered.Given as goal

abbrev pub invariant-loop-edition : goal.invariant-loop-edition
invariant-loop-edition l = record {
  most : l.edition ≤ l.count + 1;
  rest : find (λ e. bytes_eq (decimal e) l.text) (range_with_len 1 l.count) ≡ find (λ e. bytes_eq (decimal e) l.text) (range_with_len l.edition (l.count + 1 - l.edition));
}
