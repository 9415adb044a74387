-- Values of a packet by sound tables: those at places, and those of a walk.
use Rattle.std.proofs.Common.{◌≡◌, ◌∙◌, ℕ, zero, suc, ◌+◌, ◌*◌, ℤ, pos, negsuc, ◌+ℤ◌, nat_abs, nat_eq, int_lt, Bool, true, false, not, cond, ◌&&◌, ◌||◌, List, [], ◌∷◌, length, take, drop, filter, Option, Some, None, option_map, option_and_then, unwrap_or, All, refl, ap, subst, arith}
use Rattle.std.proofs.lemmas.Bool.{false≢true, ltb-false, le-leb}
use Rattle.std.proofs.lemmas.List.Elements.{All-nil, All-cons, All-head, All-tail, All-append, All-take, All-drop, All-map, All-filter, All-push}
use Rattle.std.proofs.lemmas.Option.{none-some}
use Rattle.std.proofs.lemmas.Slice.Eq.{bytes_eq-Decides}
use Rattle.std.specs.List.{find, flat_map, list_any, prefix_len, range_with_len, repeat, take_while}
use Rattle.std.specs.Str.{bytes_eq}
use Rattle.mib_model.specs.declared.database.Database.{Database}
use Rattle.mib_model.specs.declared.packet.Ended.TheVariants as ended
use Rattle.mib_model.specs.declared.packet.Found.{Found}
use Rattle.mib_model.specs.declared.packet.Found.TheVariants as found
use Rattle.mib_model.specs.declared.rows.PcfRow.{PcfRow}
use Rattle.mib_model.specs.declared.rows.PlfRow.{PlfRow}
use Rattle.mib_model.specs.declared.rows.VpdRow.{VpdRow}
use Rattle.mib_model.specs.Bits.{is_inside, raw_number}
use Rattle.mib_model.specs.Encodings.{Encoding, IsEncoding}
use Rattle.mib_model.specs.Fixed.{Place, fixed_values, holds_place, most_values, occurrence, occurrences, places, places_inside, value_at, values_at}
use Rattle.mib_model.specs.GroupFlaws.{is_unmeasured}
use Rattle.mib_model.specs.Interpreter.{values_of}
use Rattle.mib_model.specs.Match.{match_of}
use Rattle.mib_model.specs.Orders.{insert_by, sorted_by}
use Rattle.mib_model.specs.Parameters.{parameter, is_measured, measured_encoding, parameter_encoding, endian_of}
use Rattle.mib_model.specs.RowFlaws.{is_measured_deduced}
use Rattle.mib_model.specs.Soundness.{IsSound}
use Rattle.mib_model.specs.Structures.{structure, subject, deduced, is_deduced, is_yes, own_or_deduced, group_repeated, times, Typed, typed}
use Rattle.mib_model.specs.Walk.{Extracted, Walking, Step, Goes, Ends, step, step_from, on_row, on_subject, try_value, after_value, with_value, chosen, lies_outside, walked, on_step, walk_start, walk_limit, structure_values}
use Rattle.mib_laws.proofs.Choices.{choice}
use Rattle.decode_one.specs.Values.{is_planned, IsValueOf, SoundValues}
use Rattle.decode_one.proofs.NumberFacts.{raw-lies}
use Rattle.decode_one.proofs.SoundFacts.{plfs-have, vpds-have}

any-more : (a b : Bool) → b ≡ true → (a || b) ≡ true
any-more true b h = refl
any-more false b h = h

-- an item that is found and passes another test is among those that pass it
found-any : {X : Type 0} (p q : X → Bool) (xs : List X) (x : X) → find p xs ≡ Some x → q x ≡ true → list_any q xs ≡ true
found-any p q [] x is good = absurd (cc is)
found-any {X} p q (y ∷ ys) x is good = go (p y) refl (λ later. found-any p q ys x later good) where
  go : (b : Bool) → p y ≡ b → (find p ys ≡ Some x → list_any q ys ≡ true) → list_any q (y ∷ ys) ≡ true
  go true h others = let same : Some y ≡ Some x = rw h at is in let here : q y ≡ true = cc (same, good) in rw here refl
  go false h others = any-more (q y) (list_any q ys) (others (rw h at is))

found-passes : {X : Type 0} (p : X → Bool) (xs : List X) (x : X) → find p xs ≡ Some x → p x ≡ true
found-passes p [] x is = absurd (cc is)
found-passes {X} p (y ∷ ys) x is = go (p y) refl (found-passes p ys x) where
  go : (b : Bool) → p y ≡ b → (find p ys ≡ Some x → p x ≡ true) → p x ≡ true
  go true h others = let same : Some y ≡ Some x = rw h at is in cc (same, h)
  go false h others = others (rw h at is)

both-true : (a b c : Bool) → a ≡ true → b ≡ false → c ≡ true → ((a && not b) && c) ≡ true
both-true a b c h i j = rw (h, i, j) refl

-- a parameter that is measured and not deduced has a plan
planned-from : (db : Database) (name : List ℕ) (row : PcfRow) → parameter db.pcf name ≡ Some row → is_measured row ≡ true → is_deduced row ≡ false → list_any (is_planned name) db.pcf ≡ true
planned-from db name row is measured own =
    found-any (λ r. bytes_eq r.name name) (is_planned name) db.pcf row is
    (both-true (is_measured row) (is_deduced row) (bytes_eq row.name name) measured own (found-passes (λ r. bytes_eq r.name name) db.pcf row is))

-- a value at a place that is in the packet, by a known encoding of a parameter that has a plan
value-of : (db : Database) (packet : List ℕ) (place : Place) → IsEncoding place.shape → list_any (is_planned place.name) db.pcf ≡ true → holds_place packet place ≡ true → IsValueOf db packet (value_at packet place)
value-of db packet place encoding planned inside = record {
  inside = inside;
  number = raw-lies place.shape encoding packet place.at;
  planned = planned;
}

-- ---- values at places

-- a place of a parameter that has a plan
record IsPlaceOf (db : Database) (place : Place) : Type 0 where
  encoding : IsEncoding place.shape
  planned : list_any (is_planned place.name) db.pcf ≡ true

taken-pass : {X : Type 0} (p : X → Bool) (xs : List X) → All (λ x. p x ≡ true) (take_while p xs)
taken-pass p [] = All-nil (λ x. p x ≡ true)
taken-pass {X} p (x ∷ xs) = go (p x) refl (taken-pass p xs) where
  go : (b : Bool) → p x ≡ b → All (λ y. p y ≡ true) (take_while p xs) → All (λ y. p y ≡ true) (take_while p (x ∷ xs))
  go true h others = let count : 1 + prefix_len p xs ≡ suc (prefix_len p xs) = omega arith in let e : take_while p (x ∷ xs) ≡ x ∷ take_while p xs = rw (h, count) refl in rw e (All-cons (λ y. p y ≡ true) x (take_while p xs) h others)
  go false h others = let e : take_while p (x ∷ xs) ≡ [] = rw h refl in rw e (All-nil (λ y. p y ≡ true))

measured-part : (b : Bool) (o : Option Encoding) (shape : Encoding) → cond b o None ≡ Some shape → (b ≡ true) × (o ≡ Some shape)
measured-part true o shape is = (refl, is)
measured-part false o shape is = absurd (cc is)

not-deduced : (a b : Bool) → (a && b) ≡ false → a ≡ true → b ≡ false
not-deduced true b h is = h
not-deduced false b h is = absurd (false≢true is)

module _ (db : Database) where
  occurrence-of : (row : PlfRow) (p : Option PcfRow) (o : Option Encoding) → parameter db.pcf row.name ≡ p → measured_encoding p ≡ o → is_measured_deduced p ≡ false → All (IsPlaceOf db) (occurrences row o)
  occurrence-of row p None named is own = All-nil (IsPlaceOf db)
  occurrence-of row None (Some shape) named is own = absurd (cc is)
  occurrence-of row (Some r) (Some shape) named is own =
      let parts = measured-part (is_measured r) (parameter_encoding r) shape is in
      let planned = planned-from db row.name r named parts.0 (not-deduced (is_measured r) (is_deduced r) own parts.0) in
      All-map (IsPlaceOf db) (occurrence row shape) (range_with_len 0 row.nbocc)
      (λ k d below. record { encoding = (r.ptc, r.pfc, endian_of r.endian, parts.1); planned = planned })

  rows-of : (rows : List PlfRow) → All (λ row. is_measured_deduced (parameter db.pcf row.name) ≡ false) rows
      → All (IsPlaceOf db) (flat_map (λ row. occurrences row (measured_encoding (parameter db.pcf row.name))) rows)
  rows-of [] all = All-nil (IsPlaceOf db)
  rows-of (row ∷ rows) all =
      let here = occurrence-of row (parameter db.pcf row.name) (measured_encoding (parameter db.pcf row.name)) refl refl (All-head (λ (r : PlfRow). is_measured_deduced (parameter db.pcf r.name) ≡ false) row rows all) in
      let more = rows-of rows (All-tail (λ (r : PlfRow). is_measured_deduced (parameter db.pcf r.name) ≡ false) row rows all) in
      All-append (IsPlaceOf db) (occurrences row (measured_encoding (parameter db.pcf row.name))) (flat_map (λ row. occurrences row (measured_encoding (parameter db.pcf row.name))) rows) here more

  places-of : IsSound db → (spid : ℕ) → All (IsPlaceOf db) (places db spid)
  unfolding places
  places-of sound spid =
      rows-of (filter (λ row. nat_eq row.spid spid) db.plf)
      (All-filter (λ (row : PlfRow). nat_eq row.spid spid) (λ row. is_measured_deduced (parameter db.pcf row.name) ≡ false) db.plf (plfs-have db sound))

  taken-keep : {X : Type 0} (P : X → Type 0) (p : X → Bool) (xs : List X) → All P xs → All P (take_while p xs)
  taken-keep P p xs all = All-take P (prefix_len p xs) xs all

  pub fixed-of : IsSound db → (spid : ℕ) (packet : List ℕ) → All (IsValueOf db packet) (fixed_values db spid packet).0
  unfolding values_at places_inside
  fixed-of sound spid packet =
      let some : List Place = take most_values (places db spid) in
      let inside : List Place = take_while (holds_place packet) some in
      let pass = taken-pass (holds_place packet) some in
      let have = taken-keep (IsPlaceOf db) (holds_place packet) some (All-take (IsPlaceOf db) most_values (places db spid) (places-of sound spid)) in
      All-map (IsValueOf db packet) (value_at packet) inside
      (λ k d below. let p = have k d below in value-of db packet _ p.encoding p.planned (pass k d below))

-- ---- values of a walk

-- rows in order are the rows
all-insert : {A : Type 0} (P : A → Type 0) (before : A → A → Bool) (x : A) (ys : List A) → P x → All P ys → All P (insert_by before x ys)
all-insert P before x [] here all = All-cons P x [] here all
all-insert P before x (y ∷ ys) here all =
    choice (All P) (before x y) (x ∷ y ∷ ys) (y ∷ insert_by before x ys) (λ h. All-cons P x (y ∷ ys) here all)
    (λ h. All-cons P y (insert_by before x ys) (All-head P y ys all) (all-insert P before x ys here (All-tail P y ys all)))

all-sorted : {A : Type 0} (P : A → Type 0) (before : A → A → Bool) (xs : List A) → All P xs → All P (sorted_by before xs)
unfolding sorted_by
all-sorted P before [] all = all
all-sorted P before (x ∷ xs) all = all-insert P before x (sorted_by before xs) (All-head P x xs all) (all-sorted P before xs (All-tail P x xs all))

all-repeat : {A : Type 0} (P : A → Type 0) (n : ℕ) (xs : List A) → All P xs → All P (repeat n xs)
all-repeat P zero xs all = All-nil P
all-repeat P (suc n) xs all = All-append P xs (repeat n xs) all (all-repeat P n xs all)

module _ (db : Database) (sound : IsSound db) (packet : List ℕ) where
  -- a row of no parameter that isn't measured
  IsRowOf : VpdRow → Type 0
  IsRowOf row = is_unmeasured (parameter db.pcf row.name) ≡ false

  rows-sound : (tpsd : ℤ) → All IsRowOf (structure db tpsd)
  unfolding structure IsRowOf
  rows-sound tpsd = all-sorted IsRowOf _ _ (All-filter _ IsRowOf db.vpd (vpds-have db sound))

  all-group : (size n : ℕ) (rest : List VpdRow) → All IsRowOf rest → All IsRowOf (group_repeated size n rest)
  all-group size n rest all =
      All-append IsRowOf (repeat n (take size rest)) (drop size rest) (all-repeat IsRowOf n (take size rest) (All-take IsRowOf size rest all)) (All-drop IsRowOf size rest all)

  -- a walk over such rows with such values
  record IsWalkOf (w : Walking) : Type 0 where
    rows : All IsRowOf w.todo
    values : All (IsValueOf db packet) w.values

  Keeps : Step → Type 0
  Keeps (Goes on) = IsWalkOf on
  Keeps (Ends e values) = All (IsValueOf db packet) values

  -- a parameter that a row gives a value of
  record IsSubject (t : Typed) : Type 0 where
    encoding : IsEncoding t.1
    planned : list_any (is_planned t.0.name) db.pcf ≡ true

  Subject : Option Typed → Type 0
  Subject None = Unit {0}
  Subject (Some t) = IsSubject t

  typed-subject : (row : PcfRow) (o : Option Encoding) → parameter_encoding row ≡ o → list_any (is_planned row.name) db.pcf ≡ true → Subject (option_map (λ e. (row, e)) o)
  unfolding Subject
  typed-subject row None is planned = tt
  typed-subject row (Some e) is planned = record { encoding = (row.ptc, row.pfc, endian_of row.endian, is); planned = planned }

  chosen-keeps : (raw : ℤ) (rows : List VpdRow) (on : Walking) → All IsRowOf rows → IsWalkOf on → Keeps (chosen on raw rows)
  unfolding Keeps
  chosen-keeps raw [] on all w = w.values
  chosen-keeps raw (r ∷ rs) on all w = record { rows = all; values = w.values }

  after-keeps : (r : VpdRow) (rest : List VpdRow) (raw : ℤ) (on : Walking) → All IsRowOf rest → IsWalkOf on → Keeps (after_value db r rest raw on)
  unfolding Keeps
  after-keeps r rest raw on all w =
      choice Keeps (is_yes r.choice) (chosen on raw (structure db raw)) _ (λ h. chosen-keeps raw (structure db raw) on (rows-sound raw) w) (λ h.
      choice Keeps (not (nat_eq r.grpsize 0)) (Goes (record on { todo = group_repeated r.grpsize (times raw) rest })) _
      (λ i. record { rows = all-group r.grpsize (times raw) rest all; values = w.values }) (λ i.
      choice Keeps (is_yes r.pidref) (Goes (record on { last = raw })) (Goes on) (λ j. record { rows = w.rows; values = w.values }) (λ j. w)))

  inside-from : (cursor : ℤ) (width : ℕ) → lies_outside packet cursor width ≡ false → is_inside packet (nat_abs cursor) width ≡ true
  inside-from (pos at) width h = le-leb (at + width) (8 * length packet) (ltb-false (8 * length packet) (at + width) h)
  inside-from (negsuc n) width h = absurd (cc h)

  value-keeps : (r : VpdRow) (rest : List VpdRow) → All IsRowOf rest → (w : Walking) → All (IsValueOf db packet) w.values → (t : Typed) → IsSubject t → Keeps (try_value db packet r rest w t)
  unfolding Keeps
  value-keeps r rest all w values t known =
      choice Keeps (nat_eq (length w.values) most_values) (Ends ended.Many w.values) _ (λ h. values) (λ h.
      choice Keeps (lies_outside packet w.cursor t.1.width) (Ends (ended.Short t.0.name) w.values) _ (λ i. values) (λ i.
      let at = nat_abs w.cursor in
      let place : Place = record { name = t.0.name; at = at; shape = t.1 } in
      let value = value-of db packet place known.encoding known.planned (inside-from w.cursor t.1.width i) in
      after-keeps r rest (raw_number t.1 packet at) (with_value rest w (raw_number t.1 packet at) at t) all
      (record { rows = all; values = All-push (IsValueOf db packet) w.values (value_at packet place) values value })))

  subject-keeps : (r : VpdRow) (rest : List VpdRow) → All IsRowOf rest → (w : Walking) → All (IsValueOf db packet) w.values → (o : Option Typed) → Subject o → Keeps (on_subject db packet r rest w o)
  unfolding Keeps Subject
  subject-keeps r rest all w values None known = values
  subject-keeps r rest all w values (Some t) known = value-keeps r rest all w values t known

  -- a parameter that is found by its number
  first-true : (a b c : Bool) → ((a && not b) && c) ≡ true → (a ≡ true) × (b ≡ false)
  first-true true false c h = (refl, refl)
  first-true true true c h = absurd (cc h)
  first-true false b c h = absurd (cc h)

  deduced-planned : (last : ℤ) (row : PcfRow) → deduced db last ≡ Some row → list_any (is_planned row.name) db.pcf ≡ true
  unfolding deduced
  deduced-planned last row is =
      let passes = found-passes _ db.pcf row is in
      let parts = first-true (is_measured row) (is_deduced row) _ passes in
      found-any _ (is_planned row.name) db.pcf row is
      (both-true (is_measured row) (is_deduced row) (bytes_eq row.name row.name) parts.0 parts.1 ((bytes_eq-Decides row.name row.name).1 refl))

  deduced-subject : (last : ℤ) (o : Option PcfRow) → deduced db last ≡ o → Subject (option_and_then typed o)
  unfolding Subject
  deduced-subject last None is = tt
  deduced-subject last (Some row) is = typed-subject row (parameter_encoding row) refl (deduced-planned last row is)

  measured-here : (b : Bool) → not b ≡ false → b ≡ true
  measured-here true h = refl
  measured-here false h = absurd (cc h)

  own-subject : (last : ℤ) (name : List ℕ) (row : PcfRow) → parameter db.pcf name ≡ Some row → is_unmeasured (Some row) ≡ false → Subject (option_and_then typed (own_or_deduced db last row))
  own-subject last name row is measured = go (is_deduced row) refl where
    go : (b : Bool) → is_deduced row ≡ b → Subject (option_and_then typed (own_or_deduced db last row))
    go true h = rw h (deduced-subject last (deduced db last) refl)
    go false h =
        let named : row.name ≡ name = (bytes_eq-Decides row.name name).0 (found-passes (λ r. bytes_eq r.name name) db.pcf row is) in
        let here : parameter db.pcf row.name ≡ Some row = ap (parameter db.pcf) named ∙ is in
        rw h (typed-subject row (parameter_encoding row) refl (planned-from db row.name row here (measured-here (is_measured row) measured) h))

  row-subject : (last : ℤ) (name : List ℕ) (o : Option PcfRow) → parameter db.pcf name ≡ o → is_unmeasured o ≡ false → Subject (option_and_then typed (option_and_then (own_or_deduced db last) o))
  unfolding Subject
  row-subject last name None is measured = tt
  row-subject last name (Some row) is measured = own-subject last name row is measured

  row-keeps : (r : VpdRow) (rest : List VpdRow) → IsRowOf r → All IsRowOf rest → (w : Walking) → All (IsValueOf db packet) w.values → Keeps (on_row db packet r rest w)
  unfolding Keeps IsRowOf
  row-keeps r rest here all w values =
      choice Keeps (not (nat_eq r.fixrep 0)) (Goes (record w { todo = group_repeated r.grpsize r.fixrep rest })) _
      (λ h. record { rows = all-group r.grpsize r.fixrep rest all; values = values })
      (λ h. subject-keeps r rest all w values (option_and_then typed (subject db w.last r)) (row-subject w.last r.name (parameter db.pcf r.name) refl here))

  step-keeps : (w : Walking) (rows : List VpdRow) → All IsRowOf rows → All (IsValueOf db packet) w.values → Keeps (step_from db packet w rows)
  unfolding Keeps
  step-keeps w [] all values = values
  step-keeps w (r ∷ rest) all values = row-keeps r rest (All-head IsRowOf r rest all) (All-tail IsRowOf r rest all) (record w { cursor = w.cursor +ℤ r.offset }) values

  on-keeps : (k : ℕ) (e : Extracted) → ((on : Walking) → IsWalkOf on → walked db packet k on ≡ Some e → All (IsValueOf db packet) e.0)
      → (s : Step) → Keeps s → on_step (λ on. walked db packet k on) s ≡ Some e → All (IsValueOf db packet) e.0
  unfolding Keeps
  on-keeps k e more (Goes on) keeps h = more on keeps h
  on-keeps k e more (Ends ended values) keeps h = subst (λ (p : Extracted). All (IsValueOf db packet) p.0) (ap (λ (o : Option Extracted). unwrap_or o (values, ended)) h) keeps

  walked-keeps : (k : ℕ) (e : Extracted) (w : Walking) → IsWalkOf w → walked db packet k w ≡ Some e → All (IsValueOf db packet) e.0
  unfolding walked step
  walked-keeps zero e w keeps h = absurd (none-some e h)
  walked-keeps (suc k) e w keeps h = on-keeps k e (λ on. walked-keeps k e on) (step db packet w) (step-keeps w w.todo keeps.rows keeps.values) h

  -- what a walk gives, or nothing where it has no end
  given-keeps : (o : Option Extracted) → ((e : Extracted) → o ≡ Some e → All (IsValueOf db packet) e.0) → All (IsValueOf db packet) (unwrap_or o ([], ended.Whole)).0
  given-keeps None each = All-nil (IsValueOf db packet)
  given-keeps (Some e) each = each e refl

  structure-of : (tpsd : ℤ) (dfhsize : ℕ) → All (IsValueOf db packet) (structure_values db tpsd dfhsize packet).0
  unfolding structure_values
  structure-of tpsd dfhsize =
      let start = walk_start db tpsd dfhsize in
      given-keeps (walked db packet (walk_limit db) start) (λ e h.
      walked-keeps (walk_limit db) e start (record { rows = rows-sound tpsd; values = All-nil (IsValueOf db packet) }) h)

  found-of : (f : Found) → All (IsValueOf db packet) (values_of db packet f).0
  unfolding values_of
  found-of (found.Spid spid service subtype tpsd dfhsize) =
      choice (λ (e : Extracted). All (IsValueOf db packet) e.0) (int_lt tpsd (pos 1)) (fixed_values db spid packet) (structure_values db tpsd dfhsize packet)
      (λ h. fixed-of db sound spid packet) (λ h. structure-of tpsd dfhsize)
  found-of (found.Unknown service subtype) = All-nil (IsValueOf db packet)
  found-of found.Idle = All-nil (IsValueOf db packet)
  found-of (found.Bad why) = All-nil (IsValueOf db packet)

pub sound-values : SoundValues
sound-values db sound packet = found-of db sound packet (match_of db packet)
