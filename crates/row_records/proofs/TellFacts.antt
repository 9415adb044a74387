-- The values of a packet, finished one after the other.
use Rattle.std.proofs.Common.{◌≡◌, ◌∙◌, ℕ, ◌+◌, ◌<◌, List, [], ◌∷◌, ◌++◌, append_assoc, append-nil, drop, get_or, length, refl, sym, ap}
use Rattle.std.proofs.lemmas.Grind.{flat_map-append}
use Rattle.std.specs.List.{flat_map}
use Rattle.mib_model.specs.declared.database.Database.{Database}
use Rattle.mib_model.specs.declared.packet.Value.{Value}
use Rattle.mib_model.specs.Finish.{all_finished, finished, in_front}
use Rattle.mib_model.specs.Kept.{Memory}
use Rattle.mib_model.specs.Tails.{Told}
use Rattle.mib_model.specs.Texts.{told_text}

-- what is told so far, and what is kept before the other values
abbrev pub Goes : Database → Memory → List Value → Memory → List Value → List Told → Type 0
Goes db start all memory rest tolds = all_finished db start all ≡ ((all_finished db memory rest).0, tolds ++ (all_finished db memory rest).1)

pub goes-first : (db : Database) (start : Memory) (all : List Value) → Goes db start all start all []
goes-first db start all = refl

-- one value more
pub goes-on : (db : Database) (start memory after : Memory) (all rest more : List Value) (v : Value) (tolds : List Told) → rest ≡ v ∷ more
    → after ≡ (finished db memory v).0 → Goes db start all memory rest tolds → Goes db start all after more (tolds ++ (finished db memory v).1 ∷ [])
unfolding all_finished
goes-on db start memory after all rest more v tolds split is goes =
    goes ∙ (ap (λ (vs : List Value). ((all_finished db memory vs).0, tolds ++ (all_finished db memory vs).1)) split
    ∙ (ap (λ (m : Memory). ((all_finished db m more).0, tolds ++ (finished db memory v).1 ∷ (all_finished db m more).1)) (sym is)
    ∙ ap (λ (ts : List Told). ((all_finished db after more).0, ts)) (sym (append_assoc tolds ((finished db memory v).1 ∷ []) (all_finished db after more).1))))

-- all values
pub goes-all : (db : Database) (start memory : Memory) (all rest : List Value) (tolds : List Told) → rest ≡ [] → Goes db start all memory rest tolds
    → all_finished db start all ≡ (memory, tolds)
unfolding all_finished
goes-all db start memory all rest tolds none goes =
    goes ∙ (ap (λ (vs : List Value). ((all_finished db memory vs).0, tolds ++ (all_finished db memory vs).1)) none ∙ ap (λ (ts : List Told). (memory, ts)) (append-nil tolds))

-- the text of one value more
pub text-more : (packet before between after : List ℕ) (tolds : List Told) (told : Told) → between ≡ before ++ flat_map (told_text packet) tolds
    → after ≡ between ++ told_text packet told → after ≡ before ++ flat_map (told_text packet) (tolds ++ told ∷ [])
text-more packet before between after tolds told so is =
    is ∙ (ap (λ (b : List ℕ). b ++ told_text packet told) so ∙ (append_assoc before (flat_map (told_text packet) tolds) (told_text packet told)
    ∙ ap (λ (t : List ℕ). before ++ t) (ap (λ (t : List ℕ). flat_map (told_text packet) tolds ++ t) (sym (append-nil (told_text packet told)))
    ∙ sym (flat_map-append (told_text packet) tolds (told ∷ [])))))
