-- What came of one line.
use Rattle.std.proofs.Common.{◌≡◌, ℕ, Bool, true, false, List, [], ◌∷◌, length, drop, take, nat_eq, nat_lt, codes, Option, Some, None, refl, sym, ap, ◌∙◌, subst, append-nil, inl, inr, if◌then◌else◌}
use Rattle.std.specs.Prelude.{OnErr, Result, Ok, Err, option_map}
use Rattle.std.specs.Option.{option_to_list}
use Rattle.std.specs.List.{starts_with}
use Rattle.std.specs.Str.{bytes_eq}
use Rattle.std.specs.Str.Lines.{strip_carriage_return}
use Rattle.tm_io.specs.Octets.{AppendsPrefix, WritesUnless}
use Rattle.std.proofs.lemmas.List.{take_at}
use Rattle.std.specs.Io.KnownBytes.{Appends}
use Rattle.desk.specs.Handling.{run_with}
use Rattle.desk_lines.specs.Gives.{TakesLine}
use Rattle.live_desk.specs.declared.desk_end.DeskEnd.TheVariants as end
use Rattle.live_desk.specs.declared.line.Came.{Came}
use Rattle.live_desk.specs.declared.line.Came.TheVariants as came
use Rattle.live_desk.specs.Lines.{Answers, Comes, Replied, line_text}
use Rattle.live_desk.specs.Operators.{Operates, is_several}
use Rattle.live_desk.specs.Standing.{DeskHeld, Standing}
use Rattle.live_desk.proofs.LineFacts.{Known}
use Rattle.run_model.specs.Desk.{DeskReply, DeskState}
use Rattle.run_model.specs.DeskLines.{Comment, Delete, Drop, Go, Put, Request, Save, Take, TooLong, is_comment, most_octets, or_bad_line, request_of, table_request, word_request, words_of}
use Rattle.run_model.specs.DeskRuns.{Calls, Follows, IsLine, LeavesLook, is_go, may_want}
use Rattle.run_model.specs.DeskWays.{way_of}
use Rattle.run_model.specs.Replies.{desk_line, desk_text}

pub on-err : {T E : Type 0} (r : Result T E) (P : Type 0) → P → OnErr r P
on-err (Ok v) P holds = tt
on-err (Err e) P holds = holds

-- all of a text is a first part of it
pub part-same : (text : List ℕ) (old new : Known) → Appends old new text → AppendsPrefix old new text
part-same text old new wrote = (length text, subst (Appends old new) (sym (ap (take (length text)) (sym (append-nil text)) ∙ take_at text [] (length text) refl)) wrote)

-- the text of one reply, where there is one
pub one-text : (number : Option ℕ) (given : Option DeskReply) → line_text (option_map (desk_line number) given) ≡ desk_text number (option_to_list given)
unfolding desk_text
one-text number None = refl
one-text number (Some r) = sym (append-nil (desk_line number r))

-- ---- a `go`

-- what is asked for by a word that only several desks know is no `go`
word-alike : (several : Bool) (words : List (List ℕ)) → is_go (or_bad_line (word_request false words)) ≡ is_go (or_bad_line (word_request several words))
word-alike false words = refl
word-alike true [] = refl
word-alike true (word ∷ []) =
    by (bytes_eq word (codes "save")) (bytes_eq word (codes "drop")) (bytes_eq word (codes "go")) (bytes_eq word (codes "take"))
  where
    by : (save drop go take : Bool)
        → is_go (or_bad_line (if save then Some Save else if drop then Some Drop else if go then Some Go else None))
        ≡ is_go (or_bad_line (if save then Some Save else if drop then Some Drop else if go then Some Go else if take then Some Take else None))
    by true drop go take = refl
    by false true go take = refl
    by false false true take = refl
    by false false false true = refl
    by false false false false = refl
word-alike true (word ∷ next ∷ words) = refl

-- what a line asks for, by whether it is a comment, is too long, and begins with `put` or `del`
abbrev asked-by : Bool → List ℕ → Bool → Bool → Bool → Bool → Request
asked-by several text comment long put del =
    if comment then Comment
    else if long then TooLong
    else if put then table_request Put (drop 4 text)
    else if del then table_request Delete (drop 4 text)
    else or_bad_line (word_request several (words_of text))

-- so a line is a `go` at a single desk and at each of several
pub go-alike : (several : Bool) (line : List ℕ) → is_go (request_of false line) ≡ is_go (request_of several line)
unfolding request_of
go-alike several line =
    let text = strip_carriage_return line in
    by (is_comment text) (nat_lt most_octets (length line)) (starts_with nat_eq text (codes "put ")) (starts_with nat_eq text (codes "del "))
  where
    by : (comment long put del : Bool) → is_go (asked-by false (strip_carriage_return line) comment long put del) ≡ is_go (asked-by several (strip_carriage_return line) comment long put del)
    by true long put del = refl
    by false true put del = refl
    by false false true del = refl
    by false false false true = refl
    by false false false false = word-alike several (words_of (strip_carriage_return line))

-- ---- a line that was handled

-- its reply was written, or in part where writing failed
pub replied-of : (number : Option ℕ) (failed go : Bool) (line : List ℕ) (before after : DeskHeld) (reply : Known) → Operates number line before.state before.own after.own reply after.state → go ≡ is_go (request_of false line)
    → WritesUnless failed before.written after.written (line_text reply) → Replied number failed go line before after
replied-of number failed go line before after reply o is wrote = record {
  given = o.given;
  handles = o.handles;
  is_go = is ∙ go-alike (is_several number) line;
  told = subst (WritesUnless failed before.written after.written) (ap line_text o.told ∙ one-text number o.given) wrote;
}

module _ (number : Option ℕ) where
  -- a line that was taken was handled
  pub comes-of : (before after : Standing) (c : Came) (line : List ℕ) → Answers number c line before.held after.held → TakesLine before.read after.read before.left after.left line → Comes number c before after
  comes-of before after (came.Handled go) line answers takes = record { line = line; takes = takes; replied = answers }
  comes-of before after (came.Ended end.Done) line answers takes = absurd answers
  comes-of before after (came.Ended end.Limit) line answers takes = absurd answers
  comes-of before after (came.Ended end.DeskFault) line answers takes = absurd answers
  comes-of before after (came.Ended end.ReplyFault) line (go, replied) takes = inl (go, record { line = line; takes = takes; replied = replied })

  -- ---- lines that ask for the same

  line-as : (front line : List ℕ) (old new : DeskState) (calls : Calls) (given : Option DeskReply) → request_of (is_several number) front ≡ request_of (is_several number) line → IsLine (is_several number) (run_with front old calls given new)
      → IsLine (is_several number) (run_with line old calls given new)
  line-as front line old new calls given asks (inl follows) = inl (subst (λ r. Follows (way_of (is_several number) old r) calls given new) asks follows)
  line-as front line old new calls given asks (inr wants) =
      inr (record { may = subst (λ (r : Request). may_want r ≡ true) asks wants.may; entries = subst (λ (r : Request). LeavesLook (is_several number) r calls) asks wants.entries; told = wants.told; kept = wants.kept })

  replied-as : (failed go : Bool) (front line : List ℕ) (before after : DeskHeld) → request_of (is_several number) front ≡ request_of (is_several number) line → Replied number failed go front before after → Replied number failed go line before after
  replied-as failed go front line before after asks r = record {
    given = r.given;
    handles = record { calls = r.handles.calls; own = r.handles.own; is_line = line-as front line before.state after.state r.handles.calls r.given asks r.handles.is_line };
    is_go = r.is_go ∙ ap is_go asks;
    told = r.told;
  }

  pub answers-as : (before after : DeskHeld) (c : Came) (front line : List ℕ) → request_of (is_several number) front ≡ request_of (is_several number) line → Answers number c front before after → Answers number c line before after
  answers-as before after (came.Handled go) front line asks answers = replied-as false go front line before after asks answers
  answers-as before after (came.Ended end.Done) front line asks answers = absurd answers
  answers-as before after (came.Ended end.Limit) front line asks answers = absurd answers
  answers-as before after (came.Ended end.DeskFault) front line asks answers = absurd answers
  answers-as before after (came.Ended end.ReplyFault) front line asks (go, replied) = (go, replied-as true go front line before after asks replied)
