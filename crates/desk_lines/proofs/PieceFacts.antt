-- Octets that are taken for one line.
use Rattle.std.proofs.Common.{◌≡◌, ◌∙◌, ℕ, ◌+◌, ◌<◌, ◌≤◌, false, List, [], ◌∷◌, ◌++◌, length, take, set, Option, refl, sym, ap, inl, inr, arith, length-append, append-nil, Some, MatchOption, subst}
use Rattle.std.proofs.KnownBytes.{Consumes-nil, Consumes-trans}
use Rattle.std.proofs.lemmas.Bool.{cases_lt}
use Rattle.std.proofs.lemmas.List.{take_all, take_more_set, take-append-le}
use Rattle.std.proofs.lemmas.List.Elements.{All-append, All-cons, All-nil}
use Rattle.std.specs.Io.KnownBytes.{Consumes, IsAtEnd}
use Rattle.mib_model.specs.Lines.{is_feed}
use Rattle.desk_lines.specs.declared.piece.PieceEnd.TheVariants as end
use Rattle.desk_lines.specs.Pieces.{TakesPiece}

-- octets that were taken so far
abbrev pub Taking : ℕ → ℕ → Option (List ℕ) → Option (List ℕ) → List ℕ → Type 0
Taking octets room old new buffer = TakesPiece (record { octets = octets; end = end.Failed }) room old new buffer

pub piece-start : (room : ℕ) (old : Option (List ℕ)) (buffer : List ℕ) → Taking 0 room old old buffer
piece-start room old buffer = record {
  part = [];
  no_feed = All-nil (λ octet. is_feed octet ≡ false);
  count = refl;
  fits = omega arith;
  front = take_all (length buffer) [] (omega arith);
  ends = Consumes-nil old;
}

pub next-octet : (old new : Option (List ℕ)) (o : Option ℕ) (c : ℕ) → o ≡ Some c
    → MatchOption o (Consumes old new [] × IsAtEnd new) (λ d. Consumes old new (d ∷ [])) → Consumes old new (c ∷ [])
next-octet old new o c is taken = subst (λ p. MatchOption p (Consumes old new [] × IsAtEnd new) (λ d. Consumes old new (d ∷ []))) is taken

front-more : (n c : ℕ) (part buffer after : List ℕ) → length part ≡ n → take (length buffer) part ≡ take n buffer
    → (n < length buffer → after ≡ set buffer n c) → (length buffer ≤ n → after ≡ buffer) → length after ≡ length buffer
    → take (length after) (part ++ c ∷ []) ≡ take (n + 1) after
front-more n c part buffer after count front inside outside size = elim (cases_lt n (length buffer)) [
  | inl within ↦
      rw (size, inside within, take_all (length buffer) (part ++ c ∷ []) (omega (arith, length-append part (c ∷ []), count, within)), take_more_set buffer n c within, sym front, take_all (length buffer) part (omega (arith, count, within))) refl
  | inr past ↦
      rw (size, outside past, take-append-le (length buffer) part (c ∷ []) (omega (arith, count, past)), take_all (n + 1) buffer (omega (arith, past)), front) (take_all n buffer past)
]

pub piece-octet : (n c room : ℕ) (old mid new : Option (List ℕ)) (buffer after : List ℕ) → Taking n room old mid buffer → n < room → is_feed c ≡ false → Consumes mid new (c ∷ [])
    → (n < length buffer → after ≡ set buffer n c) → (length buffer ≤ n → after ≡ buffer) → length after ≡ length buffer → Taking (n + 1) room old new after
piece-octet n c room old mid new buffer after t less other consumed inside outside size = record {
  part = t.part ++ c ∷ [];
  no_feed = All-append (λ octet. is_feed octet ≡ false) t.part (c ∷ []) t.no_feed (All-cons (λ octet. is_feed octet ≡ false) c [] other (All-nil (λ octet. is_feed octet ≡ false)));
  count = length-append t.part (c ∷ []) ∙ ap (λ k. k + 1) t.count;
  fits = omega (arith, less);
  front = front-more n c t.part buffer after t.count t.front inside outside size;
  ends = Consumes-trans old mid new t.part (c ∷ []) t.ends consumed;
}

pub piece-feed : (n room : ℕ) (old mid new : Option (List ℕ)) (buffer : List ℕ) → Taking n room old mid buffer → n < room → Consumes mid new (10 ∷ [])
    → TakesPiece (record { octets = n; end = end.Feed }) room old new buffer
piece-feed n room old mid new buffer t less consumed = record {
  part = t.part;
  no_feed = t.no_feed;
  count = t.count;
  fits = t.fits;
  front = t.front;
  ends = (omega (arith, t.count, less), Consumes-trans old mid new t.part (10 ∷ []) t.ends consumed);
}

pub piece-end : (n room : ℕ) (old mid new : Option (List ℕ)) (buffer : List ℕ) → Taking n room old mid buffer → n < room → Consumes mid new [] → IsAtEnd new
    → TakesPiece (record { octets = n; end = end.Source }) room old new buffer
piece-end n room old mid new buffer t less consumed last = record {
  part = t.part;
  no_feed = t.no_feed;
  count = t.count;
  fits = t.fits;
  front = t.front;
  ends = (omega (arith, t.count, less), subst (Consumes old new) (append-nil t.part) (Consumes-trans old mid new t.part [] t.ends consumed), last);
}

pub piece-failed : (n room : ℕ) (old mid new : Option (List ℕ)) (buffer : List ℕ) → Taking n room old mid buffer → Consumes mid new [] → Taking n room old new buffer
piece-failed n room old mid new buffer t consumed = record {
  part = t.part;
  no_feed = t.no_feed;
  count = t.count;
  fits = t.fits;
  front = t.front;
  ends = subst (Consumes old new) (append-nil t.part) (Consumes-trans old mid new t.part [] t.ends consumed);
}

pub piece-room : (n room : ℕ) (old new : Option (List ℕ)) (buffer : List ℕ) → Taking n room old new buffer → room ≤ n
    → TakesPiece (record { octets = n; end = end.Room }) room old new buffer
piece-room n room old new buffer t full = record {
  part = t.part;
  no_feed = t.no_feed;
  count = t.count;
  fits = t.fits;
  front = t.front;
  ends = (omega (arith, t.count, t.fits, full), t.ends);
}
