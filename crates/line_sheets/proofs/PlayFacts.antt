-- Pieces that are played in their order.
use Rattle.std.proofs.Common.{◌≡◌, ◌∙◌, ℕ, List, [], ◌∷◌, ◌++◌, refl, sym, ap, append_assoc, append-nil}
use Rattle.mib_model.specs.declared.database.Database.{Database}
use Rattle.mib_model.specs.Kept.{Memory}
use Rattle.line_sheets.specs.Pieces.{Piece, Played, Text, and_then, behind, played, played_one}

-- octets in front of octets in front of what is played
pub behind-behind : (one two : List ℕ) (p : Played) → behind one (behind two p) ≡ behind (one ++ two) p
behind-behind one two p = ap (λ (t : List ℕ). (p.0, t)) (sym (append_assoc one two p.1))

-- pieces behind pieces
pub played-append : (db : Database) (front others : List Piece) (memory : Memory) → played db (front ++ others) memory ≡ and_then (played db front memory) (played db others)
unfolding played
played-append db [] others memory = refl
played-append db (p ∷ front) others memory =
    let one = played_one db p memory in
    ap (behind one.1) (played-append db front others one.0) ∙ behind-behind one.1 (played db front one.0).1 (played db others (played db front one.0).0)

-- no pieces
pub played-none : (db : Database) (memory : Memory) → played db [] memory ≡ (memory, [])
unfolding played
played-none db memory = refl

-- one piece
pub played-one : (db : Database) (p : Piece) (memory : Memory) → played db (p ∷ []) memory ≡ played_one db p memory
unfolding played
played-one db p memory = ap (λ (t : List ℕ). ((played_one db p memory).0, t)) (append-nil (played_one db p memory).1)

-- a text in front of pieces
pub played-text : (db : Database) (text : List ℕ) (others : List Piece) (memory : Memory) → played db (Text text ∷ others) memory ≡ behind text (played db others memory)
unfolding played
played-text db text others memory = refl

-- what is known of the pieces in front
pub played-front : (db : Database) (front others : List Piece) (memory : Memory) (done : Played) → played db front memory ≡ done → played db (front ++ others) memory ≡ and_then done (played db others)
played-front db front others memory done is = played-append db front others memory ∙ ap (λ (p : Played). and_then p (played db others)) is

-- what is known of the pieces behind, whatever is kept
pub played-both : (db : Database) (front others : List Piece) (memory : Memory) (done : Played) (next : Memory → Played) → played db front memory ≡ done → ((m : Memory) → played db others m ≡ next m)
    → played db (front ++ others) memory ≡ and_then done next
played-both db front others memory done next is each = played-front db front others memory done is ∙ ap (behind done.1) (each done.0)
