-- Seats before and behind the first lines of a desk.
use Rattle.std.proofs.Common.{◌≡◌, ◌∙◌, ℕ, ◌==◌, true, [], ◌++◌, length, length-append, Option, Some, sym, ap, subst, arith}
use Rattle.std.proofs.lemmas.List.{nil_from_length}
use Rattle.std.proofs.lemmas.List.Elements.{filter-append}
use Rattle.histories.specs.History.{StartsWith, moves_of}
use Rattle.live_desk.specs.declared.desk_end.DeskEnd.{DeskEnd}
use Rattle.live_desk.specs.Scripts.{Worked}
use Rattle.live_desk.specs.Standing.{Standing}
use Rattle.run_model.specs.RegisterHistories.{RegisterHistory}

-- what has no move of a seat has none at its front
pub none-in-front : (seat : ℕ) (front all : RegisterHistory) → StartsWith all front → moves_of seat all ≡ [] → moves_of seat front ≡ []
none-in-front seat front all later none =
    let parts : moves_of seat all ≡ moves_of seat front ++ moves_of seat later.0 = ap (moves_of seat) later.1 ∙ filter-append (λ m. m.seat == seat) front later.0 in
    let sum : length (moves_of seat front ++ moves_of seat later.0) ≡ 0 = ap (λ (l : RegisterHistory). length l) (sym parts ∙ none) in
    nil_from_length (moves_of seat front) (omega (arith, sum, length-append (moves_of seat front) (moves_of seat later.0)))

-- a standing with these moves
abbrev moved : Standing → RegisterHistory → Standing
moved standing own = record standing { held = record standing.held { own = own } }

-- a desk whose seats list the same moves did the same
pub worked-as : (number : ℕ) (end : Option DeskEnd) (old new : Standing) (before after : RegisterHistory) → before ≡ old.held.own → new.held.own ≡ after → Worked (Some number) true end (moved old before) new
    → Worked (Some number) true end old (moved new after)
worked-as number end old new before after first last worked =
    subst (λ (own : RegisterHistory). Worked (Some number) true end old (moved new own)) last
    (subst (λ (own : RegisterHistory). Worked (Some number) true end (moved old own) new) first worked)
