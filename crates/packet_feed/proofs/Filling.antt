-- A buffer that is filled piece by piece.
use Rattle.std.proofs.Common.{◌≡◌, ◌≤◌, ◌+◌, ◌-◌, ℕ, List, ◌++◌, length, take, drop, arith, ◌∙◌, ap, length-append, length-take, length-drop}
use Rattle.std.proofs.Math.Seq.{take-add}
use Rattle.std.proofs.lemmas.List.{take-append-le, drop_at}
use Rattle.std.proofs.lemmas.Slice.{take-put_mid_below}
use borrow.Rule.Slice.PartMut.{put_mid, post_of}

-- the front of a buffer once some octets of a piece were put behind its first a octets
pub take-filled : (a count n : ℕ) (buffer piece : List ℕ) → a ≤ length buffer → count ≤ length piece
    → take (a + count) (put_mid a n buffer piece) ≡ take a buffer ++ take count piece
take-filled a count n buffer piece within fits =
    take-add a count (put_mid a n buffer piece)
    ∙ ap (λ front. front ++ take count (drop a (put_mid a n buffer piece))) (take-put_mid_below a n buffer piece a (omega arith) within)
    ∙ ap (λ rest. take a buffer ++ take count rest) (drop_at (take a buffer) (piece ++ post_of a n buffer) a (omega (arith, length-take a buffer)))
    ∙ ap (λ rest. take a buffer ++ rest) (take-append-le count piece (post_of a n buffer) fits)

-- a piece of the length of what it replaces leaves the length
pub length-filled : (a n : ℕ) (buffer piece : List ℕ) → a ≤ length buffer → length piece ≡ n → n ≡ length buffer - a
    → length (put_mid a n buffer piece) ≡ length buffer
length-filled a n buffer piece within size is = simp (length-append, length-take, length-drop) (omega (arith, within, size, is))
