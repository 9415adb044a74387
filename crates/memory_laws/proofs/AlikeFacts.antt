-- Alike memories: what entering and finishing leave of them.
use Rattle.std.proofs.Common.{◌≡◌, ℕ, Bool, true, false, cond, List, [], ◌∷◌, Option, Some, None, option_map, refl, sym, ap, subst, ◌∙◌}
use Rattle.std.proofs.lemmas.Bool.{false≢true}
use Rattle.std.specs.Str.{bytes_eq}
use Rattle.mib_model.specs.declared.check.Change.{Change}
use Rattle.mib_model.specs.declared.database.Database.{Database}
use Rattle.mib_model.specs.declared.packet.Value.{Value}
use Rattle.mib_model.specs.declared.rows.OcfRow.{OcfRow}
use Rattle.mib_model.specs.declared.rows.PcfRow.{PcfRow}
use Rattle.mib_model.specs.Alarms.{Watch, alarm}
use Rattle.mib_model.specs.Calibrated.{Calibrated}
use Rattle.mib_model.specs.Carry.{check_of}
use Rattle.mib_model.specs.Checks.{Sample}
use Rattle.mib_model.specs.Curves.{calibration}
use Rattle.mib_model.specs.Finish.{CheckedValue, Finished, all_finished, checked_by, checked_sample, finished, finished_by, given_for, is_valid, previous_after, sample_for, tail_for, told, with_alarm}
use Rattle.mib_model.specs.Kept.{Kept, Memory, all_entered, entered, has_number, keeping}
use Rattle.mib_model.specs.Parameters.{parameter}
use Rattle.mib_model.specs.Tails.{Invalid, Tail}
use Rattle.mib_laws.proofs.SliceFacts.{same_octets}
use Rattle.memory_laws.specs.Alike.{AreAlike, Covers, IsAlike, TellAlike, asks, entered_if}
use Rattle.memory_laws.specs.Laws.{AlikeIsSame, AlikeServes, EnteredAlike, FinishedAlike}
use Rattle.memory_laws.proofs.AskedFacts.{class_of-same, curve_of-same, is_valid-same}

-- memories are alike to themselves, and by one between
pub alike-same : (asked : List ℕ → Bool) (m : Memory) → AreAlike asked m m
alike-same asked m name = record { latest = λ h. refl; spoken = refl; run = refl; previous = refl }

pub alike-through : (asked : List ℕ → Bool) (m n o : Memory) → AreAlike asked m n → AreAlike asked n o → AreAlike asked m o
alike-through asked m n o first second name = record {
  latest = λ h. (first name).latest h ∙ (second name).latest h;
  spoken = (first name).spoken ∙ (second name).spoken;
  run = (first name).run ∙ (second name).run;
  previous = (first name).previous ∙ (second name).previous;
}

pub alike-is-same : AlikeIsSame
alike-is-same asked m n all alike = λ i name. record {
  latest = (alike name).latest (all name) i;
  spoken = (alike name).spoken i;
  run = (alike name).run i;
  previous = (alike name).previous i;
}

module _ (asked : List ℕ → Bool) where
  -- something else is kept of one name
  keeping-alike : (m n : Memory) (name : List ℕ) (k l : Kept) → AreAlike asked m n → IsAlike (asked name) k l → AreAlike asked (keeping m name k) (keeping n name l)
  keeping-alike m n name k l alike own other = go (bytes_eq other name) refl where
    go : (b : Bool) → bytes_eq other name ≡ b → IsAlike (asked other) (cond b k (m other)) (cond b l (n other))
    go true is = subst (λ (x : List ℕ). IsAlike (asked x) k l) (sym (same_octets other name is)) own
    go false is = alike other

  choice-alike : (b : Bool) (m n o p : Memory) → AreAlike asked m n → AreAlike asked o p → AreAlike asked (cond b m o) (cond b n p)
  choice-alike true m n o p first second = first
  choice-alike false m n o p first second = second

  both-entered : (m n : Memory) (v : Value) → AreAlike asked m n → AreAlike asked (entered m v) (entered n v)
  both-entered m n v alike =
      choice-alike (has_number v.shape.sort) _ _ m n
      (keeping-alike m n v.name _ _ alike (record { latest = λ h. refl; spoken = (alike v.name).spoken; run = (alike v.name).run; previous = (alike v.name).previous })) alike

  -- the raw number of a name that isn't asked
  pub one-entered : (m n : Memory) (v : Value) → asked v.name ≡ false → AreAlike asked m n → AreAlike asked (entered m v) n
  one-entered m n v unasked alike = go (has_number v.shape.sort) where
    kept : AreAlike asked (keeping m v.name (record (m v.name) { latest = Some v.raw })) n
    kept other = by (bytes_eq other v.name) refl where
      by : (b : Bool) → bytes_eq other v.name ≡ b → IsAlike (asked other) (cond b (record (m v.name) { latest = Some v.raw }) (m other)) (n other)
      by true is = subst (λ (x : List ℕ). IsAlike (asked x) (record (m v.name) { latest = Some v.raw }) (n x)) (sym (same_octets other v.name is))
          (record { latest = λ h. absurd (false≢true (sym unasked ∙ h)); spoken = (alike v.name).spoken; run = (alike v.name).run; previous = (alike v.name).previous })
      by false is = alike other

    go : (b : Bool) → AreAlike asked (cond b (keeping m v.name (record (m v.name) { latest = Some v.raw })) m) n
    go true = kept
    go false = alike

all_entered-alike : (asked : List ℕ → Bool) (m n : Memory) (vs : List Value) → AreAlike asked m n → AreAlike asked (all_entered m vs) (all_entered n vs)
all_entered-alike asked m n [] alike = alike
all_entered-alike asked m n (v ∷ vs) alike = all_entered-alike asked (entered m v) (entered n v) vs (both-entered asked m n v alike)

-- one raw number, which is entered in one of them, and in the other at least where its name is asked
pub entered-where : (asked : List ℕ → Bool) (m n : Memory) (v : Value) (enters : Bool) → (asked v.name ≡ true → enters ≡ true) → AreAlike asked m n
    → AreAlike asked (entered m v) (cond enters (entered n v) n)
entered-where asked m n v true asks_it alike = both-entered asked m n v alike
entered-where asked m n v false asks_it alike = by (asked v.name) refl where
  by : (b : Bool) → asked v.name ≡ b → AreAlike asked (entered m v) n
  by true is = absurd (false≢true (asks_it is))
  by false is = one-entered asked m n v is alike

pub entered-alike : EnteredAlike
entered-alike asked m n [] alike = alike
entered-alike asked m n (v ∷ vs) alike = entered-alike asked (entered m v) (entered_if asked n v) vs (entered-where asked m n v (asked v.name) (λ h. h) alike)

-- one value: what is told is the same, and what is kept is alike
module _ (asked : List ℕ → Bool) (db : Database) (m n : Memory) (alike : AreAlike asked m n) where
  same : (name : List ℕ) → Covers asked db name → (other : List ℕ) → asks db name other ≡ true → (m other).latest ≡ (n other).latest
  same name covers other h = (alike other).latest (covers other h)

  given-same : (v : Value) (row : PcfRow) → Covers asked db v.name → parameter db.pcf v.name ≡ Some row → given_for db row m v ≡ given_for db row n v
  given-same v row covers is = λ i.
      cond (has_number v.shape.sort) (option_map (λ rows. calibration rows v.raw) (curve_of-same db m n v.name (same v.name covers) row is i)) None

  alarm-alike : (name : List ℕ) (sample : Sample) (s t : Watch × Option Change) → s ≡ t → TellAlike asked (with_alarm m name sample s) (with_alarm n name sample t)
  alarm-alike name sample s t is = (
    ap (λ (x : Watch × Option Change). x.1) is,
    keeping-alike asked m n name _ _ alike (record {
      latest = (alike name).latest;
      spoken = ap (λ (x : Watch × Option Change). x.0.0) is;
      run = ap (λ (x : Watch × Option Change). x.0.1) is;
      previous = ap (previous_after sample) (alike name).previous;
    }),
  )

  sample-alike : (name : List ℕ) (check : OcfRow) (sample : Option Sample) → Covers asked db name → TellAlike asked (checked_sample db m name check sample) (checked_sample db n name check sample)
  sample-alike name check None covers = (refl, alike)
  sample-alike name check (Some sample) covers = alarm-alike name sample _ _ (λ i.
      alarm ((alike name).spoken i, (alike name).run i) (class_of-same db m n name (same name covers) sample (m name).previous (n name).previous (alike name).previous i) check.nbchck)

  tell-choice : {T : Type 0} (b : Bool) (f g h k : Memory × T) → TellAlike asked f g → TellAlike asked h k → TellAlike asked (cond b f h) (cond b g k)
  tell-choice true f g h k first second = first
  tell-choice false f g h k first second = second

  checked-alike : (v : Value) (given : Option Calibrated) (check : Option OcfRow) → Covers asked db v.name → TellAlike asked (checked_by db m v given check) (checked_by db n v given check)
  checked-alike v given None covers = (refl, alike)
  checked-alike v given (Some check) covers =
      tell-choice (has_number v.shape.sort) _ _ (m, None) (n, None) (sample-alike v.name check (sample_for check v.raw given) covers) (refl, alike)

  told-alike : (v : Value) (tail : Tail) (f g : CheckedValue) → TellAlike asked f g → TellAlike asked (told v tail f) (told v tail g)
  told-alike v tail f g tells = (λ i. record { value = v; tail = tail; change = tells.0 i }, tells.1)

  valid-alike : (v : Value) (row : PcfRow) (given other : Option Calibrated) → Covers asked db v.name → given ≡ other
      → TellAlike asked (told v (tail_for row.decim given) (checked_by db m v given (check_of db v.name)))
      (told v (tail_for row.decim other) (checked_by db n v other (check_of db v.name)))
  valid-alike v row given other covers is =
      subst (λ (x : Option Calibrated). TellAlike asked (told v (tail_for row.decim given) (checked_by db m v given (check_of db v.name)))
      (told v (tail_for row.decim x) (checked_by db n v x (check_of db v.name)))) is
      (told-alike v (tail_for row.decim given) _ _ (checked-alike v given (check_of db v.name) covers))

  by-row : (v : Value) (o : Option PcfRow) → Covers asked db v.name → parameter db.pcf v.name ≡ o → TellAlike asked (finished_by db m v o) (finished_by db n v o)
  by-row v None covers is = (refl, alike)
  by-row v (Some row) covers is =
      subst (λ (b : Bool). TellAlike asked (finished_by db m v (Some row)) (cond b (valid n) (told v Invalid (n, None)))) (is_valid-same db m n v.name (same v.name covers) row is)
      (tell-choice (is_valid m row) (valid m) (valid n) (told v Invalid (m, None)) (told v Invalid (n, None))
      (valid-alike v row (given_for db row m v) (given_for db row n v) covers (given-same v row covers is)) (refl, alike)) where
        valid : Memory → Finished
        valid memory = told v (tail_for row.decim (given_for db row memory v)) (checked_by db memory v (given_for db row memory v) (check_of db v.name))

  finished-alike : (v : Value) → Covers asked db v.name → TellAlike asked (finished db m v) (finished db n v)
  unfolding finished
  finished-alike v covers = by-row v (parameter db.pcf v.name) covers refl

pub all_finished-alike : FinishedAlike
unfolding all_finished
all_finished-alike asked db m n [] covers alike = (refl, alike)
all_finished-alike asked db m n (v ∷ vs) covers alike =
    let first = finished-alike asked db m n alike v covers.0 in
    let others = all_finished-alike asked db (finished db m v).0 (finished db n v).0 vs covers.1 first.1 in
    (λ i. first.0 i ∷ others.0 i, others.1)

pub alike-serves : AlikeServes
alike-serves asked db m n after vs covers alike left =
    let tells = all_finished-alike asked db (all_entered m vs) (all_entered n vs) vs covers (all_entered-alike asked m n vs alike) in
    (tells.0, alike-through asked (all_finished db (all_entered m vs) vs).0 (all_finished db (all_entered n vs) vs).0 after tells.1 left)
