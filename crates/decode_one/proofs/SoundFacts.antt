-- What soundness says of the rows of packets, of places and of structures.
use Rattle.std.proofs.Common.{◌≡◌, ◌≢◌, ◌∙◌, ℕ, ℤ, pos, int_lt, nat_eq, Bool, true, false, not, ◌||◌, List, [], ◌∷◌, ◌++◌, drop, filter, Option, Some, None, All, refl, sym, ap, subst}
use Rattle.std.proofs.lemmas.Bool.{false≢true}
use Rattle.std.proofs.lemmas.List.Elements.{All-nil, All-cons, All-head, All-tail}
use Rattle.std.specs.List.{find, flat_map, list_any}
use Rattle.std.specs.Option.{is_some}
use Rattle.std.specs.Ordering.{int_eq}
use Rattle.edition_plans.proofs.LayoutFacts.{found-layout}
use Rattle.edition_plans.specs.Layouts.{layout_of, HasLayout}
use Rattle.mib_model.specs.declared.database.Database.{Database}
use Rattle.mib_model.specs.declared.fault.MibCode.{MibCode}
use Rattle.mib_model.specs.declared.fault.MibCode.TheVariants.{BadType}
use Rattle.mib_model.specs.declared.kind.Kind.{Kind}
use Rattle.mib_model.specs.declared.kind.Kind.TheVariants as kind
use Rattle.mib_model.specs.declared.packet.Ended.TheVariants.{Whole}
use Rattle.mib_model.specs.declared.packet.Found.{Found}
use Rattle.mib_model.specs.declared.packet.Found.TheVariants as found
use Rattle.mib_model.specs.declared.rows.PidRow.{PidRow}
use Rattle.mib_model.specs.declared.rows.VpdRow.{VpdRow}
use Rattle.mib_model.specs.Fixed.{fixed_values, has_layout}
use Rattle.mib_model.specs.Flaws.{Rule, flaw_if, missing, table_flaws}
use Rattle.mib_model.specs.GroupFlaws.{is_unmeasured, vpd_rules}
use Rattle.mib_model.specs.Headers.{header_of}
use Rattle.mib_model.specs.Interpreter.{values_of}
use Rattle.mib_model.specs.Kinds.{kinds}
use Rattle.mib_model.specs.Match.{match_of, agrees, found_of, found_with, service_of, subtype_of, lacks_service, discriminants, criterion}
use Rattle.mib_model.specs.Orders.{insert_by, sorted_by}
use Rattle.mib_model.specs.Parameters.{parameter}
use Rattle.mib_model.specs.References.{has_structure}
use Rattle.mib_model.specs.RowFlaws.{is_measured_deduced, pid_rules, plf_rules}
use Rattle.mib_model.specs.Soundness.{IsSound, flaws, flaws_of}
use Rattle.mib_model.specs.Structures.{structure}
use Rattle.mib_model.specs.Walk.{Extracted, structure_values}
use Rattle.mib_laws.proofs.Choices.{choice}
use Rattle.mib_laws.proofs.SoundStructures.{append-none, rows-sound, EachRow, NoFlaw}
use Rattle.decode_one.specs.Values.{FoundStructuresExist}

-- the tables in which no rule finds a flaw
record Flawless (db : Database) : Type 0 where
  pids : table_flaws kind.Pid (pid_rules db) db.pid ≡ []
  plfs : table_flaws kind.Plf (plf_rules db) db.plf ≡ []
  vpds : table_flaws kind.Vpd (vpd_rules db) db.vpd ≡ []

flawless : (db : Database) → IsSound db → Flawless db
unfolding flaws
flawless db sound =
    let pcf = append-none (flaws_of db kind.Pcf) (flat_map (flaws_of db) (drop 1 kinds)) sound in
    let pid = append-none (flaws_of db kind.Pid) (flat_map (flaws_of db) (drop 2 kinds)) pcf.1 in
    let pic = append-none (flaws_of db kind.Pic) (flat_map (flaws_of db) (drop 3 kinds)) pid.1 in
    let tpcf = append-none (flaws_of db kind.Tpcf) (flat_map (flaws_of db) (drop 4 kinds)) pic.1 in
    let plf = append-none (flaws_of db kind.Plf) (flat_map (flaws_of db) (drop 5 kinds)) tpcf.1 in
    let vpd = append-none (flaws_of db kind.Vpd) (flat_map (flaws_of db) (drop 6 kinds)) plf.1 in
    record { pids = pid.0; plfs = plf.0; vpds = vpd.0 }

-- what holds of each row in which the rules find no flaw
module _ {R : Type 0} (rules : List (Rule R)) (P : R → Type 0) (has : (earlier : List R) (r : R) → NoFlaw rules earlier r → P r) where
  each-has : (earlier rows : List R) → EachRow (NoFlaw rules) earlier rows → All P rows
  unfolding EachRow
  each-has earlier [] each = All-nil P
  each-has earlier (r ∷ rs) each = All-cons P r rs (has earlier r each.0) (each-has (earlier ++ r ∷ []) rs each.1)

  rows-have : (table : Kind) (rows : List R) → table_flaws table rules rows ≡ [] → All P rows
  rows-have table rows none = each-has [] rows (rows-sound table rules rows none)

-- what holds of each row holds of one that is found
pub found-has : {R : Type 0} (P : R → Type 0) (p : R → Bool) (rows : List R) (row : R) → All P rows → find p rows ≡ Some row → P row
found-has P p [] row all is = absurd (cc is)
found-has {R} P p (r ∷ rs) row all is = go (p r) refl (found-has P p rs row (All-tail P r rs all)) where
  go : (b : Bool) → p r ≡ b → (find p rs ≡ Some row → P row) → P row
  go true h others = let same : Some r ≡ Some row = rw h at is in let e : r ≡ row = cc same in subst P e (All-head P r rs all)
  go false h others = others (rw h at is)

no-flaw : (code : MibCode) (b : Bool) → flaw_if code b ≡ None → b ≡ false
no-flaw code true h = absurd (cc h)
no-flaw code false h = refl

is-there : (column : ℕ) (b : Bool) → missing ((column, b) ∷ []) ≡ None → b ≡ true
is-there column true h = refl
is-there column false h = absurd (cc h)

-- a packet has a layout, or its structure has rows
abbrev HasForm : Database → PidRow → Type 0
HasForm db row = (has_layout row || has_structure db row.tpsd) ≡ true

pids-have : (db : Database) → IsSound db → All (HasForm db) db.pid
unfolding NoFlaw
pids-have db sound =
    rows-have (pid_rules db) (HasForm db) (λ earlier r none. is-there 9 (has_layout r || has_structure db r.tpsd) none.1.0) kind.Pid db.pid (flawless db sound).pids

-- a place is of no deduced parameter
pub plfs-have : (db : Database) → IsSound db → All (λ row. is_measured_deduced (parameter db.pcf row.name) ≡ false) db.plf
unfolding NoFlaw
plfs-have db sound =
    rows-have (plf_rules db) (λ row. is_measured_deduced (parameter db.pcf row.name) ≡ false)
    (λ earlier r none. no-flaw BadType (is_measured_deduced (parameter db.pcf r.name)) none.1.1.0) kind.Plf db.plf (flawless db sound).plfs

-- a row of a structure is of no parameter that isn't measured
pub vpds-have : (db : Database) → IsSound db → All (λ row. is_unmeasured (parameter db.pcf row.name) ≡ false) db.vpd
unfolding NoFlaw
vpds-have db sound =
    rows-have (vpd_rules db) (λ row. is_unmeasured (parameter db.pcf row.name) ≡ false)
    (λ earlier r none. no-flaw BadType (is_unmeasured (parameter db.pcf r.name)) none.1.1.0) kind.Vpd db.vpd (flawless db sound).vpds

-- rows in order are no fewer
insert-some : {A : Type 0} (before : A → A → Bool) (x : A) (ys : List A) → insert_by before x ys ≢ []
insert-some before x [] is = absurd (cc is)
insert-some before x (y ∷ ys) is = choice (λ (rows : List _). rows ≢ []) (before x y) (x ∷ y ∷ ys) (y ∷ insert_by before x ys) (λ h e. absurd (cc e)) (λ h e. absurd (cc e)) is

sorted-some : {A : Type 0} (before : A → A → Bool) (xs : List A) → sorted_by before xs ≡ [] → xs ≡ []
unfolding sorted_by
sorted-some before [] is = refl
sorted-some before (x ∷ xs) is = absurd (insert-some before x (sorted_by before xs) is)

filter-some : {A : Type 0} (test : A → Bool) (xs : List A) → list_any test xs ≡ true → filter test xs ≢ []
filter-some test [] any is = absurd (cc any)
filter-some {A} test (x ∷ xs) any is = go (test x) refl (filter-some test xs) where
  go : (b : Bool) → test x ≡ b → (list_any test xs ≡ true → filter test xs ≢ []) → ⊥
  go true h others = let some : x ∷ filter test xs ≡ [] = rw h at is in absurd (cc some)
  go false h others = others (rw h at any) (rw h at is)

-- a structure that is there has rows
structure-some : (db : Database) (tpsd : ℤ) → has_structure db tpsd ≡ true → structure db tpsd ≢ []
unfolding structure
structure-some db tpsd there is =
    let test : VpdRow → Bool = λ row. int_eq (pos row.tpsd) tpsd in
    filter-some test db.vpd there (sorted-some _ (filter test db.vpd) is)

or-second : (a b : Bool) → (a || b) ≡ true → a ≡ false → b ≡ true
or-second true b h fails = absurd (false≢true (sym fails))
or-second false b h fails = h

-- what a packet is names no structure but one that there is
HasStructure : Database → Found → Type 0
HasStructure db (found.Spid spid service subtype tpsd dfhsize) = int_lt tpsd (pos 1) ≡ false → structure db tpsd ≢ []
HasStructure db other = Unit {0}

module _ (db : Database) (sound : IsSound db) where
  of-row : (packet : List ℕ) (values : ℕ × ℕ) (o : Option PidRow) → find (agrees packet values) db.pid ≡ o → HasStructure db (found_of (service_of packet) (subtype_of packet) o)
  unfolding HasStructure
  of-row packet values None is = tt
  of-row packet values (Some row) is = λ some.
      structure-some db row.tpsd (or-second (has_layout row) (has_structure db row.tpsd) (found-has (HasForm db) (agrees packet values) db.pid row (pids-have db sound) is) some)

  of-values : (packet : List ℕ) (o : Option (ℕ × ℕ)) → HasStructure db (found_with db.pid packet o)
  unfolding HasStructure
  of-values packet None = tt
  of-values packet (Some values) = of-row packet values (find (agrees packet values) db.pid) refl

  of-match : (packet : List ℕ) → HasStructure db (match_of db packet)
  unfolding match_of HasStructure
  of-match packet =
      choice (HasStructure db) (not (nat_eq (header_of packet).version 0)) _ _ (λ h. tt) (λ h.
      choice (HasStructure db) (header_of packet).telecommand _ _ (λ h. tt) (λ h.
      choice (HasStructure db) (nat_eq (header_of packet).apid 2047) _ _ (λ h. tt) (λ h.
      choice (HasStructure db) (lacks_service packet) _ _ (λ h. tt) (λ h.
      of-values packet (discriminants packet (criterion db.pic packet))))))

pub found-structures : FoundStructuresExist
unfolding HasStructure
found-structures db sound packet spid service subtype tpsd dfhsize is = subst (HasStructure db) is (of-match db sound packet)

-- ---- the ways to a packet's values, by a number that is its TPSD

module _ (db : Database) (packet : List ℕ) (f : Found) (spid service subtype : ℕ) (tpsd : ℤ) (dfhsize : ℕ) (is : f ≡ found.Spid spid service subtype tpsd dfhsize) (z : ℤ) (same : z ≡ tpsd) where
  as_found : f ≡ found.Spid spid service subtype z dfhsize
  as_found = is ∙ ap (λ (t : ℤ). found.Spid spid service subtype t dfhsize) (sym same)

  -- a packet that is found and names no structure has a layout
  pub layout-there : f ≡ match_of db packet → int_lt z (pos 1) ≡ true → is_some (layout_of db spid) ≡ true
  unfolding HasLayout
  layout-there its fixed =
      let has : HasLayout db (found.Spid spid service subtype z dfhsize) = subst (HasLayout db) (sym its ∙ as_found) (found-layout db packet) in has fixed

  -- one that names a structure has that
  pub structure-there : IsSound db → f ≡ match_of db packet → int_lt z (pos 1) ≡ false → structure db z ≢ []
  structure-there sound its some = found-structures db sound packet spid service subtype z dfhsize (sym its ∙ as_found) some

  -- the values are those of the layout
  pub layout-values : int_lt z (pos 1) ≡ true → (e : Extracted) → e ≡ fixed_values db spid packet → e ≡ values_of db packet f
  unfolding values_of
  layout-values fixed e given = given ∙ sym (ap (values_of db packet) as_found ∙ rw fixed refl)

  -- or those of the structure
  pub walk-values : int_lt z (pos 1) ≡ false → (e : Extracted) → e ≡ structure_values db z dfhsize packet → e ≡ values_of db packet f
  unfolding values_of
  walk-values some e given = given ∙ sym (ap (values_of db packet) as_found ∙ rw some refl)

-- what isn't found has no values
pub no-values : (db : Database) (packet : List ℕ) (f : Found) → ((spid service subtype : ℕ) (tpsd : ℤ) (dfhsize : ℕ) → f ≡ found.Spid spid service subtype tpsd dfhsize → ⊥)
    → values_of db packet f ≡ ([], Whole)
unfolding values_of
no-values db packet (found.Spid spid service subtype tpsd dfhsize) not = absurd (not spid service subtype tpsd dfhsize refl)
no-values db packet (found.Unknown service subtype) not = refl
no-values db packet found.Idle not = refl
no-values db packet (found.Bad why) not = refl
