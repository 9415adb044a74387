-- The sheet of packets, and of one more.
use Rattle.std.proofs.Common.{◌≡◌, ◌∙◌, ℕ, suc, ◌+◌, ◌<◌, Bool, List, [], ◌∷◌, ◌++◌, length, get_or, take, refl, sym, ap, subst, arith, append-nil}
use Rattle.std.proofs.lemmas.List.{length-take-le, take_more}
use Rattle.memory_laws.specs.Alike.{TellAlike}
use Rattle.mib_model.specs.declared.database.Database.{Database}
use Rattle.mib_model.specs.Interpreter.{StampedPacket}
use Rattle.mib_model.specs.Kept.{Memory}
use Rattle.mib_model.specs.Interpreter.{stamped_first, stamped_from}
use Rattle.line_sheets.specs.Pieces.{Played, and_then, behind, played}
use Rattle.line_sheets.specs.Sheets.{SheetView, no_sheet, pieces_of}
use Rattle.line_sheets.specs.Drawings.{AddsFor, IsSheetFor, packet_played, packets_played}
use Rattle.line_sheets.proofs.AskedFacts.{then-alike}
use Rattle.line_sheets.proofs.PlayFacts.{behind-behind}

-- packets, and one more
packets-more : (ss : List StampedPacket) (s : StampedPacket) (memory : Memory) → packets_played (ss ++ s ∷ []) memory ≡ and_then (packets_played ss memory) (packet_played s)
unfolding packets_played
packets-more [] s memory = ap (λ (t : List ℕ). ((packet_played s memory).0, t)) (append-nil (packet_played s memory).1)
packets-more (r ∷ ss) s memory =
    let one = packet_played r memory in
    let front = packets_played ss one.0 in
    ap (behind one.1) (packets-more ss s one.0) ∙ behind-behind one.1 front.1 (packet_played s front.0)

-- no packets
pub sheet-none : (asked : List ℕ → Bool) (db : Database) (names : List (List ℕ)) → IsSheetFor asked db names [] no_sheet
unfolding packets_played played
sheet-none asked db names = record { played = λ memory kept alike. (refl, alike); seated = λ k d below. absurd (omega (arith, below)) }

-- one more packet
pub sheet-more : (asked : List ℕ → Bool) (db : Database) (names : List (List ℕ)) (ss : List StampedPacket) (s : StampedPacket) (old new : SheetView) → IsSheetFor asked db names ss old
    → AddsFor asked db names old new (packet_played s) → IsSheetFor asked db names (ss ++ s ∷ []) new
sheet-more asked db names ss s old new is adds =
    let front = played db (pieces_of names old) in
    let both = then-alike asked (packets_played ss) front (packet_played s) adds.extra is.played adds.alike in
    record {
      played = λ memory kept alike.
          subst (λ (p : Played). TellAlike asked p (played db (pieces_of names new) kept)) (sym (packets-more ss s memory))
          (subst (TellAlike asked (and_then (packets_played ss memory) (packet_played s))) (sym (adds.adds.played kept)) (both memory kept alike));
      seated = adds.adds.seated is.seated;
    }

-- packets with their numbers, and one more
stamped-push : (db : Database) (number : ℕ) (packets : List (List ℕ)) (packet : List ℕ)
    → stamped_from db number (packets ++ packet ∷ []) ≡ stamped_from db number packets ++ stamped_first db (number + length packets, packet) ∷ []
unfolding stamped_from
stamped-push db number [] packet = ap (λ n. stamped_first db (n, packet) ∷ []) (let same : number ≡ number + 0 = omega arith in same)
stamped-push db number (p ∷ packets) packet =
    let same : number + 1 + length packets ≡ number + suc (length packets) = omega arith in
    ap (λ l. stamped_first db (number, p) ∷ l) (stamped-push db (number + 1) packets packet ∙ ap (λ n. stamped_from db (number + 1) packets ++ stamped_first db (n, packet) ∷ []) same)

-- the first packets with their numbers, and the next
pub stamped-next : (db : Database) (number : ℕ) (packets : List (List ℕ)) (k : ℕ) (packet : List ℕ) → k < length packets → packet ≡ get_or packets k packet
    → stamped_from db number (take (k + 1) packets) ≡ stamped_from db number (take k packets) ++ stamped_first db (number + k, packet) ∷ []
stamped-next db number packets k packet below is =
    let long : length (take k packets) ≡ k = length-take-le k packets (omega (arith, below)) in
    ap (stamped_from db number) (take_more packets k packet below ∙ ap (λ (p : List ℕ). take k packets ++ p ∷ []) (sym is)) ∙
    (stamped-push db number (take k packets) packet ∙ ap (λ (n : ℕ). stamped_from db number (take k packets) ++ stamped_first db (number + n, packet) ∷ []) long)

-- no packets with their numbers
pub stamped-none : (db : Database) (number : ℕ) → stamped_from db number [] ≡ []
unfolding stamped_from
stamped-none db number = refl
