-- What stands behind a sheet, as far as names are asked.
use Rattle.std.proofs.Common.{◌≡◌, ◌++◌, ℕ, Bool, true, List, [], refl, subst}
use Rattle.std.specs.List.{flat_map}
use Rattle.param_state.specs.declared.demands.Demand.{Demand}
use Rattle.param_state.specs.Demands.{demand_at, entered_at}
use Rattle.memory_laws.specs.Alike.{CoversAll, TellAlike}
use Rattle.memory_laws.proofs.AlikeFacts.{all_finished-alike, entered-where}
use Rattle.mib_model.specs.declared.database.Database.{Database}
use Rattle.mib_model.specs.declared.packet.Value.{Value}
use Rattle.mib_model.specs.Kept.{Memory, entered}
use Rattle.mib_model.specs.Texts.{told_text}
use Rattle.line_sheets.specs.Pieces.{Played, and_then}
use Rattle.line_sheets.specs.Sheets.{SheetView, with_text}
use Rattle.line_sheets.specs.Drawings.{Adds, AddsFor, PlaysAlike, values_played}
use Rattle.line_sheets.proofs.AddFacts.{adds-text, adds-then, adds-to}

-- the lines of values
pub values-alike : (asked : List ℕ → Bool) (db : Database) (packet : List ℕ) (vs : List Value) → CoversAll asked db vs → PlaysAlike asked (values_played db packet vs) (values_played db packet vs)
values-alike asked db packet vs covers memory kept alike =
    let tells = all_finished-alike asked db memory kept vs covers alike in
    (λ i. flat_map (told_text packet) (tells.0 i), tells.1)

-- one, and then another from what the first has left
pub then-alike : (asked : List ℕ → Bool) (f g h k : Memory → Played) → PlaysAlike asked f g → PlaysAlike asked h k → PlaysAlike asked (λ memory. and_then (f memory) h) (λ memory. and_then (g memory) k)
then-alike asked f g h k first second memory kept alike =
    let one = first memory kept alike in
    let two = second (f memory).0 (g kept).0 one.1 in
    (λ i. one.0 i ++ two.0 i, two.1)

module _ (asked : List ℕ → Bool) (db : Database) (names : List (List ℕ)) (one two : SheetView) where
  -- what is played so, whatever is kept, and is alike where that is
  pub for-exact : (f : Memory → Played) → Adds db names one two f → PlaysAlike asked f f → AddsFor asked db names one two f
  for-exact f adds alike = record { extra = f; adds = adds; alike = alike }

  -- octets
  pub for-text : (octets : List ℕ) → two ≡ with_text one octets → AddsFor asked db names one two (λ memory. (memory, octets))
  for-text octets is = for-exact (λ memory. (memory, octets)) (adds-to db names one (with_text one octets) two (λ memory. (memory, octets)) is (adds-text db names one octets)) (λ memory kept alike. (refl, alike))

  -- a raw number, which is entered where that is noted at a place, as it is where its name is asked
  pub for-entered : (demands : List Demand) (at : ℕ) (v : Value) → (asked v.name ≡ true → (demand_at demands at).asked ≡ true) → Adds db names one two (λ memory. (entered_at demands at memory v, []))
      → AddsFor asked db names one two (λ memory. (entered memory v, []))
  for-entered demands at v noted adds = record {
    extra = λ memory. (entered_at demands at memory v, []);
    adds = adds;
    alike = λ memory kept alike. (refl, entered-where asked memory kept v (demand_at demands at).asked noted alike);
  }

  -- what is played alike
  pub for-same : (f g : Memory → Played) → AddsFor asked db names one two f → ((memory : Memory) → f memory ≡ g memory) → AddsFor asked db names one two g
  for-same f g adds same = record {
    extra = adds.extra;
    adds = adds.adds;
    alike = λ memory kept alike. subst (λ (p : Played). TellAlike asked p (adds.extra kept)) (same memory) (adds.alike memory kept alike);
  }

  -- more behind a sheet, and more behind that
  pub for-then : (three : SheetView) (f g : Memory → Played) → AddsFor asked db names one two f → AddsFor asked db names two three g → AddsFor asked db names one three (λ memory. and_then (f memory) g)
  for-then three f g first second = record {
    extra = λ memory. and_then (first.extra memory) second.extra;
    adds = adds-then db names one two three first.extra second.extra first.adds second.adds;
    alike = then-alike asked f first.extra g second.extra first.alike second.alike;
  }
