-- What stands behind a text.
use Rattle.std.proofs.Common.{◌≡◌, ◌∙◌, ℕ, List, [], ◌++◌, length, drop, sym, ap, append-nil}
use Rattle.std.proofs.Math.Seq.{drop-append_seam}
use Rattle.line_marks.specs.Marks.{behind}

-- what stands behind a text to which a line was added
pub behind-is : (old new line : List ℕ) → new ≡ old ++ line → behind old new ≡ line
behind-is old new line added = ap (drop (length old)) added ∙ drop-append_seam old line

-- a text to which a line was added is it, and what stands behind it
pub behind-added : (old new line : List ℕ) → new ≡ old ++ line → new ≡ old ++ behind old new
behind-added old new line added = added ∙ ap (λ (octets : List ℕ). old ++ octets) (sym (behind-is old new line added))

-- nothing was added
pub behind-none : (old : List ℕ) → old ≡ old ++ behind old old
behind-none old = behind-added old old [] (sym (append-nil old))
