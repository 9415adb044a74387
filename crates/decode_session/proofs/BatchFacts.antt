-- Packets as they are read.
use Rattle.std.proofs.Common.{◌≡◌, ◌≢◌, ◌<◌, ◌+◌, ◌≤◌, ℕ, suc, List, [], ◌∷◌, ◌++◌, Option, Some, None, length, take, refl, ap, ◌∙◌, append-nil, arith, subst}
use Rattle.std.specs.Prelude.{IfSome}
use Rattle.packet_feed.specs.Feed.{BeginsWithPacket, TookLast}
use Rattle.decode_session.specs.declared.batch.Filled.{Filled}
use Rattle.decode_session.specs.declared.batch.Filled.TheVariants as filled
use Rattle.decode_session.specs.Batches.{EndsFeed, EndsBatch}
use Rattle.mib_model.specs.declared.database.Database.{Database}
use Rattle.mib_model.specs.Interpreter.{stamped_first, stamped_from}
use Rattle.mib_model.specs.Packets.{IsPacket}

-- packets of two lists with their numbers
pub stamped-append : (db : Database) (number : ℕ) (packets others : List (List ℕ))
    → stamped_from db number (packets ++ others) ≡ stamped_from db number packets ++ stamped_from db (number + length packets) others
unfolding stamped_from
stamped-append db number [] others = ap (λ n. stamped_from db n others) (let same : number ≡ number + 0 = omega arith in same)
stamped-append db number (p ∷ packets) others =
    let same : number + 1 + length packets ≡ number + suc (length packets) = omega arith in
    ap (λ l. stamped_first db (number, p) ∷ l) (stamped-append db (number + 1) packets others ∙ ap (λ n. stamped_from db (number + 1) packets ++ stamped_from db n others) same)

pub stamped-one : (db : Database) (number : ℕ) (packet : List ℕ) → stamped_from db number (packet ∷ []) ≡ stamped_first db (number, packet) ∷ []
unfolding stamped_from
stamped-one db number packet = refl

pub stamped-none : (db : Database) (number : ℕ) → stamped_from db number [] ≡ []
unfolding stamped_from
stamped-none db number = refl

-- no rest is left where a packet is at hand
no-rest : (count : ℕ) (octets : List ℕ) (new : Option (List ℕ)) → BeginsWithPacket octets → TookLast count (Some octets) new → ⊥
no-rest count octets None begins took = took.4
no-rest count octets (Some left) (n, fits, packet) (rest, size, some, none, taken, end) =
    let same : octets ≡ rest = taken ∙ ap (λ l. rest ++ l) end ∙ append-nil rest in
    none n (subst (λ (l : List ℕ). n ≤ length l) same fits) (subst (λ l. IsPacket (take n l)) same packet)

rest-alone : (count : ℕ) (packets : List (List ℕ)) (old new : Option (List ℕ)) → TookLast count old new → (0 < length packets → IfSome old BeginsWithPacket) → IfSome old (λ octets. packets ≡ [])
rest-alone count packets None new took ahead = tt
rest-alone count [] (Some octets) new took ahead = refl
rest-alone count (c ∷ cs) (Some octets) new took ahead = absurd (no-rest count octets new (ahead (omega arith)) took)

-- a batch ends as the feed does
pub batch-ends : (f : Filled) (packets : List (List ℕ)) (old new : Option (List ℕ)) → EndsFeed f old new → (0 < length packets → IfSome old BeginsWithPacket) → EndsBatch f packets old new
batch-ends filled.Paused packets old new ends ahead = absurd ends
batch-ends filled.End packets old new ends ahead = ends
batch-ends (filled.Cut count) packets old new ends ahead = (ends, rest-alone count packets old new ends ahead)
batch-ends filled.Failed packets old new ends ahead = ends

-- a batch that doesn't end with a packet ends as the feed does
pub ends-of_feed : (f : Filled) (packets : List (List ℕ)) (old new : Option (List ℕ)) → EndsBatch f packets old new → f ≢ filled.Paused → EndsFeed f old new
ends-of_feed filled.Paused packets old new ends some = absurd (some refl)
ends-of_feed filled.End packets old new ends some = ends
ends-of_feed (filled.Cut count) packets old new ends some = ends.0
ends-of_feed filled.Failed packets old new ends some = ends

-- what holds, holds where something is told
pub guarded : (start : Option (List ℕ)) (P : Type 0) → P → IfSome start (λ octets. P)
guarded None P holds = tt
guarded (Some octets) P holds = holds
