-- What a reader answers, by the piece that was taken.
use Rattle.std.proofs.Common.{◌≡◌, ◌∙◌, ℕ, ◌+◌, ◌-◌, ◌<◌, ◌≤◌, false, List, [], ◌∷◌, length, take, Option, refl, sym, ap, inl, inr, arith, subst, nat_le, add-zero}
use Rattle.std.proofs.KnownBytes.{Consumes-nil}
use Rattle.std.proofs.lemmas.Bool.{cases_Bool}
use Rattle.std.proofs.lemmas.Bool.Decides.{nat_tests}
use Rattle.std.proofs.lemmas.List.{take_all}
use Rattle.std.proofs.lemmas.List.Elements.{All-nil}
use Rattle.std.specs.Io.KnownBytes.{Consumes}
use Rattle.mib_model.specs.Lines.{is_feed}
use Rattle.run_model.specs.Script.{most_script, most_lines}
use Rattle.desk_lines.specs.declared.next_line.NextLine.{NextLine}
use Rattle.desk_lines.specs.declared.next_line.NextLine.TheVariants as next_line
use Rattle.desk_lines.specs.declared.piece.ScriptPiece.{ScriptPiece}
use Rattle.desk_lines.specs.declared.piece.PieceEnd.TheVariants as end
use Rattle.desk_lines.specs.ToCome.{Reading}
use Rattle.desk_lines.specs.Gives.{Gives, HasLimit, HasNextCause, TakesLine, line_of}
use Rattle.desk_lines.specs.Pieces.{TakesPiece, Ends}
use Rattle.desk_lines.proofs.ToComeFacts.{line-feed, line-last, none-end, none-lines, none-octets}

-- the line that was taken stands in the buffer
gives-line : (piece : ScriptPiece) (room : ℕ) (was now : Reading) (old new : Option (List ℕ)) (buffer : List ℕ) → length buffer ≡ 4097 → (t : TakesPiece piece room old new buffer)
    → TakesLine was now old new t.part → Gives (line_of piece.octets) was now old new buffer
gives-line piece room was now old new buffer size t takes = elim (cases_Bool (nat_le 4097 piece.octets)) [
  | inl long ↦
      let past : 4097 ≤ piece.octets = grind (arith, nat_tests, long) in
      let front : buffer ≡ take 4097 t.part =
      sym (take_all piece.octets buffer (omega (arith, size, past))) ∙ sym t.front ∙ ap (λ n. take n t.part) size in
      rw long (t.part, omega (arith, t.count, past), front, takes)
  | inr not ↦
      let few : piece.octets ≤ 4096 = grind (arith, nat_tests, not) in
      let same : take piece.octets buffer ≡ t.part = sym t.front ∙ take_all (length buffer) t.part (omega (arith, t.count, few, size)) in
      rw (not, same) (few, t.count, takes)
]

-- the count of faults stays where a line is given
pub cause-line : (n before now : ℕ) → now ≡ before → HasNextCause (line_of n) before now
cause-line n before now same = elim (cases_Bool (nat_le 4097 n)) [
  | inl long ↦ rw long same
  | inr not ↦ rw not same
]

-- a line is no limit
pub limited-line : (n : ℕ) (answer : NextLine) (now : Reading) → answer ≡ line_of n → HasLimit answer now
limited-line n answer now told = elim (cases_Bool (nat_le 4097 n)) [
  | inl long ↦ rw (told, long) tt
  | inr not ↦ rw (told, not) tt
]

-- a piece ended with an LF
pub gives-feed : (lines taken further : ℕ) (piece : ScriptPiece) (answer : NextLine) (old new : Option (List ℕ)) (buffer : List ℕ) → length buffer ≡ 4097
    → lines < most_lines → taken ≤ most_script → TakesPiece piece (most_script - taken) old new buffer → piece.end ≡ end.Feed
    → further ≡ taken + piece.octets + 1 → answer ≡ line_of piece.octets
    → Gives answer (record { lines = lines; octets = taken }) (record { lines = lines + 1; octets = further }) old new buffer
gives-feed lines taken further piece answer old new buffer size few fits t is sum told =
    let ends : Ends end.Feed t.part (most_script - taken) old new = subst (λ e. Ends e t.part (most_script - taken) old new) is t.ends in
    let same : further ≡ taken + (length t.part + 1) = omega (arith, sum, t.count) in
    rw (told, same) (gives-line piece (most_script - taken) _ _ old new buffer size t (line-feed lines taken old new t.part t.no_feed few (omega (arith, fits, ends.0)) ends.1))

-- a piece ended with the script
pub gives-last : (lines taken further : ℕ) (piece : ScriptPiece) (answer : NextLine) (old new : Option (List ℕ)) (buffer : List ℕ) → length buffer ≡ 4097
    → lines < most_lines → taken ≤ most_script → TakesPiece piece (most_script - taken) old new buffer → piece.end ≡ end.Source
    → 0 < piece.octets → further ≡ taken + piece.octets → answer ≡ line_of piece.octets
    → Gives answer (record { lines = lines; octets = taken }) (record { lines = lines + 1; octets = further }) old new buffer
gives-last lines taken further piece answer old new buffer size few fits t is some sum told =
    let ends : Ends end.Source t.part (most_script - taken) old new = subst (λ e. Ends e t.part (most_script - taken) old new) is t.ends in
    let same : further ≡ taken + length t.part = omega (arith, sum, t.count) in
    rw (told, same) (gives-line piece (most_script - taken) _ _ old new buffer size t
    (line-last lines taken old new t.part t.no_feed few (omega (arith, fits, ends.0)) (omega (arith, some, t.count)) ends.1 ends.2))

-- nothing was left
pub gives-end : (lines taken further : ℕ) (piece : ScriptPiece) (old new : Option (List ℕ)) (buffer : List ℕ)
    → lines < most_lines → taken ≤ most_script → TakesPiece piece (most_script - taken) old new buffer → piece.end ≡ end.Source
    → piece.octets ≡ 0 → further ≡ taken + piece.octets
    → Gives next_line.End (record { lines = lines; octets = taken }) (record { lines = lines; octets = further }) old new buffer
gives-end lines taken further piece old new buffer few fits t is none sum =
    let ends : Ends end.Source t.part (most_script - taken) old new = subst (λ e. Ends e t.part (most_script - taken) old new) is t.ends in
    let same : further ≡ taken = omega (arith, sum, none) in
    let empty : t.part ≡ [] = nil_of t.part (t.count ∙ none) in
    let consumed : Consumes old new [] = subst (Consumes old new) empty ends.1 in
    rw same (consumed, ends.2, refl, none-end lines taken old new few (omega (arith, fits, ends.0)) consumed ends.2)
  where
    nil_of : (xs : List ℕ) → length xs ≡ 0 → xs ≡ []
    nil_of [] is = refl
    nil_of (x ∷ xs) is = absurd (omega (arith, is))

-- as many octets were taken as are taken of a script
pub gives-room : (lines taken further : ℕ) (piece : ScriptPiece) (old new : Option (List ℕ)) (buffer : List ℕ)
    → taken ≤ most_script → TakesPiece piece (most_script - taken) old new buffer → piece.end ≡ end.Room → further ≡ taken + piece.octets
    → Gives next_line.Limit (record { lines = lines; octets = taken }) (record { lines = lines; octets = further }) old new buffer
gives-room lines taken further piece old new buffer fits t is sum =
    let ends : Ends end.Room t.part (most_script - taken) old new = subst (λ e. Ends e t.part (most_script - taken) old new) is t.ends in
    let same : further ≡ taken + length t.part = omega (arith, sum, t.count) in
    rw same (
      record { part = t.part; no_feed = t.no_feed; consumed = ends.1; counted = refl },
      none-octets lines taken old new t.part t.no_feed (omega (arith, fits, ends.0)) ends.1,
    )

-- so all are read
pub limited-room : (taken further : ℕ) (piece : ScriptPiece) (old new : Option (List ℕ)) (buffer : List ℕ)
    → taken ≤ most_script → TakesPiece piece (most_script - taken) old new buffer → piece.end ≡ end.Room → further ≡ taken + piece.octets
    → further ≡ most_script
limited-room taken further piece old new buffer fits t is sum =
    let ends : Ends end.Room t.part (most_script - taken) old new = subst (λ e. Ends e t.part (most_script - taken) old new) is t.ends in
    omega (arith, sum, t.count, ends.0, fits)

-- as many lines were taken as are taken of a script
pub gives-limit : (lines taken : ℕ) (old : Option (List ℕ)) (buffer : List ℕ) → lines ≡ most_lines
    → Gives next_line.Limit (record { lines = lines; octets = taken }) (record { lines = lines; octets = taken }) old old buffer
gives-limit lines taken old buffer all = (
  record {
    part = [];
    no_feed = All-nil (λ octet. is_feed octet ≡ false);
    consumed = Consumes-nil old;
    counted = ap (λ n. record { lines = lines; octets = n }) (sym (add-zero taken));
  },
  none-lines lines taken old all,
)
