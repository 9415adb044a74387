use Rattle.std.proofs.Common.{◌≡◌, ◌++◌, length, option_map}
use Rattle.build_rules.specs.Asks.{items_in}
use Rattle.build_asks.proofs.ask.add_items.Given as goal

abbrev pub invariant-loop-name : goal.invariant-loop-name
invariant-loop-name l = option_map (λ more. l.initial.items.items ++ more) (items_in l.initial.words) ≡ option_map (λ more. l.items.items ++ more) (items_in l.words)

abbrev pub decreases-loop-name : goal.decreases-loop-name
decreases-loop-name l = length l.words
