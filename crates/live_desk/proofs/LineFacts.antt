-- Lists of lines, of entries and of replies, in parts.
use Rattle.std.proofs.Common.{◌≡◌, ℕ, Bool, List, [], ◌∷◌, ◌++◌, Option, Some, None, refl, append-nil}
use Rattle.std.specs.List.{cons_option}
use Rattle.std.specs.Option.{option_to_list}
use Rattle.std.proofs.lemmas.Grind.{flat_map-append}
use Rattle.std.proofs.lemmas.List.{map-append}
use Rattle.desk.specs.Handling.{moves_at, run_with}
use Rattle.histories.specs.History.{move}
use Rattle.run_laws.proofs.DeskFacts.{joined}
use Rattle.run_model.specs.declared.register.Answer.{Answer}
use Rattle.run_model.specs.declared.register.Entry.{Entry}
use Rattle.run_model.specs.Desk.{DeskReply, DeskState}
use Rattle.run_model.specs.DeskRuns.{Calls, IsDesk, IsLine}
use Rattle.run_model.specs.Replies.{desk_line, desk_text}

abbrev pub Known : Type 0
Known = Option (List ℕ)

pub moves-append : (seat : ℕ) (cs ds : Calls) → moves_at seat (cs ++ ds) ≡ moves_at seat cs ++ moves_at seat ds
moves-append seat cs ds = map-append (λ (c : Entry × Answer). move seat c.0 c.1) cs ds

pub text-append : (number : Option ℕ) (rs qs : List DeskReply) → desk_text number (rs ++ qs) ≡ desk_text number rs ++ desk_text number qs
unfolding desk_text
text-append number rs qs = flat_map-append (desk_line number) rs qs

pub text-none : (number : Option ℕ) → desk_text number [] ≡ []
unfolding desk_text
text-none number = refl

-- ---- desks

pub desk-none : (several : Bool) (s : DeskState) → IsDesk several s [] [] [] s
desk-none several s = record { runs = []; of_lines = refl; chain = refl; in_calls = refl; in_replies = refl }

one-listed : (r : Option DeskReply) → cons_option r [] ≡ option_to_list r
one-listed None = refl
one-listed (Some r) = refl

pub desk-one : (several : Bool) (line : List ℕ) (old new : DeskState) (calls : Calls) (given : Option DeskReply) → IsLine several (run_with line old calls given new) → IsDesk several old (line ∷ []) calls (option_to_list given) new
desk-one several line old new calls given is = record {
  runs = run_with line old calls given new ∷ [];
  of_lines = refl;
  chain = (refl, is, refl);
  in_calls = append-nil calls;
  in_replies = one-listed given;
}

pub desk-append : (several : Bool) (s t u : DeskState) (xs ys : List (List ℕ)) (cs ds : Calls) (rs qs : List DeskReply) → IsDesk several s xs cs rs t → IsDesk several t ys ds qs u → IsDesk several s (xs ++ ys) (cs ++ ds) (rs ++ qs) u
desk-append several s t u xs ys cs ds rs qs front rest =
    joined several s xs ys (cs ++ ds) (rs ++ qs) u (record { middle = t; first_calls = cs; more_calls = ds; first_replies = rs; more_replies = qs; first = front; more = rest; in_calls = refl; in_replies = refl })
