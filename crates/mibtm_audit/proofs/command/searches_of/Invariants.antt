use Rattle.std.proofs.Common.{◌≡◌, take}
use Rattle.mibtm_audit.proofs.command.searches_of.Given as goal

abbrev pub invariant-loop-book : goal.invariant-loop-book
invariant-loop-book l = l.searches.items ≡ take l.book-index l.books
