-- A sound database tells its packets apart.
use Rattle.std.proofs.Common.{◌≡◌, ◌∙◌, ℕ, ◌+◌, Bool, true, false, cond, ◌||◌, List, [], ◌∷◌, ◌++◌, drop, Some, None, refl, sym, ap, subst}
use Rattle.std.specs.Prelude.{◌==◌}
use Rattle.std.specs.List.{find, flat_map, list_any, position}
use Rattle.std.proofs.lemmas.Bool.{eqb-true, eq-eqb}
use Rattle.std.proofs.lemmas.List.Folds.{list_any-append}
use Rattle.mib_model.specs.declared.database.Database.{Database}
use Rattle.mib_model.specs.declared.fault.MibCode.TheVariants.{Twice}
use Rattle.mib_model.specs.declared.kind.Kind.TheVariants as kind
use Rattle.mib_model.specs.declared.rows.PidRow.{PidRow}
use Rattle.mib_model.specs.Flaws.{table_flaws, twice_by}
use Rattle.mib_model.specs.Kinds.{kinds}
use Rattle.mib_model.specs.RowFlaws.{pid_rules, same_packet}
use Rattle.mib_laws.proofs.Options.{option_map-none, or-false, position-none}
use Rattle.mib_laws.proofs.SoundStructures.{append-none, rows-sound, EachRow, NoFlaw}
use Rattle.mib_model.specs.Soundness.{IsSound, flaws, flaws_of}
use Rattle.std.specs.Prelude.{◌&&◌}

-- whether a row has an APID, types and discriminants
abbrev pub has_columns : ℕ → ℕ → ℕ → ℕ → ℕ → PidRow → Bool
has_columns apid service subtype first second row =
    (row.apid == apid) && (row.service == service) && (row.subtype == subtype) && (row.pi1_val == first) && (row.pi2_val == second)

-- what is found passes
found-if : {X : Type 0} (test : X → Bool) (x : X) (xs : List X) (y : X) (b : Bool) → test x ≡ b → (find test xs ≡ Some y → test y ≡ true) → cond b (Some x) (find test xs) ≡ Some y → test y ≡ true
found-if test x xs y true is more e = let same : x ≡ y = cc e in ap test (sym same) ∙ is
found-if test x xs y false is more e = more e

pub found-passes : {X : Type 0} (test : X → Bool) (xs : List X) (y : X) → find test xs ≡ Some y → test y ≡ true
found-passes test [] y e = absurd (cc e)
found-passes test (x ∷ xs) y e = found-if test x xs y (test x) refl (λ f. found-passes test xs y f) e

-- in a sound database no rule finds a flaw in the table of packets
pids-flawless : (db : Database) → IsSound db → table_flaws kind.Pid (pid_rules db) db.pid ≡ []
unfolding flaws
pids-flawless db sound =
    let pcf = append-none (flaws_of db kind.Pcf) (flat_map (flaws_of db) (drop 1 kinds)) sound in
    let pid = append-none (flaws_of db kind.Pid) (flat_map (flaws_of db) (drop 2 kinds)) pcf.1 in pid.0

not-twice : (earlier : List PidRow) (r : PidRow) → twice_by same_packet earlier r ≡ None → list_any (same_packet r) earlier ≡ false
not-twice earlier r h =
    position-none (same_packet r) earlier (option_map-none (λ i. record { code = Twice; column = 0; first = i + 1 }) (position (same_packet r) earlier) h)

-- rows with one another's columns are the same packet
equal-turned : (m n : ℕ) → (m == n) ≡ (n == m)
equal-turned m n = go (m == n) refl (n == m) refl where
  go : (a : Bool) → (m == n) ≡ a → (b : Bool) → (n == m) ≡ b → a ≡ b
  go true h true i = refl
  go false h false i = refl
  go true h false i = absurd (cc (sym i ∙ eq-eqb n m (sym (eqb-true m n h))))
  go false h true i = absurd (cc (sym h ∙ eq-eqb m n (sym (eqb-true n m i))))

or-true : (a b : Bool) → b ≡ true → (a || b) ≡ true
or-true true b h = refl
or-true false b h = h

columns-same : (row r : PidRow) → has_columns row.apid row.service row.subtype row.pi1_val row.pi2_val r ≡ true → same_packet row r ≡ true
columns-same row r has =
    or-true (row.spid == r.spid) _
    (rw (equal-turned row.apid r.apid, equal-turned row.service r.service, equal-turned row.subtype r.subtype, equal-turned row.pi1_val r.pi1_val, equal-turned row.pi2_val r.pi2_val) has)

self : (n : ℕ) → (n == n) ≡ true
self n = eq-eqb n n refl

columns-own : (row : PidRow) → has_columns row.apid row.service row.subtype row.pi1_val row.pi2_val row ≡ true
columns-own row = rw (self row.apid, self row.service, self row.subtype, self row.pi1_val, self row.pi2_val) refl

module _ (db : Database) (p : PidRow → Bool) (row : PidRow) where
  -- what is found is like no row before
  unlike : (earlier rows : List PidRow) → EachRow (NoFlaw (pid_rules db)) earlier rows → find p rows ≡ Some row → list_any (same_packet row) earlier ≡ false
  unfolding EachRow NoFlaw
  unlike earlier [] each is = absurd (cc is)
  unlike earlier (r ∷ rs) each is = go (p r) is (unlike (earlier ++ r ∷ []) rs each.1) where
    go : (b : Bool) → cond b (Some r) (find p rs) ≡ Some row → (find p rs ≡ Some row → list_any (same_packet row) (earlier ++ r ∷ []) ≡ false) → list_any (same_packet row) earlier ≡ false
    go true is others = let same : r ≡ row = cc is in subst (λ (x : PidRow). list_any (same_packet x) earlier ≡ false) same (not-twice earlier r each.0.0)
    go false is others = (or-false (list_any (same_packet row) earlier) (list_any (same_packet row) (r ∷ [])) (sym (list_any-append (same_packet row) earlier (r ∷ [])) ∙ others is)).0

  abbrev own : PidRow → Bool
  own = has_columns row.apid row.service row.subtype row.pi1_val row.pi2_val

  -- and the first with its columns
  first-own : (earlier rows : List PidRow) → EachRow (NoFlaw (pid_rules db)) earlier rows → find p rows ≡ Some row → find own rows ≡ Some row
  unfolding EachRow
  first-own earlier [] each is = absurd (cc is)
  first-own earlier (r ∷ rs) each is = go (p r) is (first-own (earlier ++ r ∷ []) rs each.1) (own r) refl where
    go : (b : Bool) → cond b (Some r) (find p rs) ≡ Some row → (find p rs ≡ Some row → find own rs ≡ Some row) → (c : Bool) → own r ≡ c → cond c (Some r) (find own rs) ≡ Some row
    go true is others true has = is
    go true is others false has = let same : r ≡ row = cc is in absurd (cc (sym (columns-own row) ∙ subst (λ (x : PidRow). own x ≡ false) same has))
    go false is others false has = others is
    go false is others true has =
        let none = unlike (earlier ++ r ∷ []) rs each.1 is in
        let last = (or-false (list_any (same_packet row) earlier) (list_any (same_packet row) (r ∷ [])) (sym (list_any-append (same_packet row) earlier (r ∷ [])) ∙ none)).1 in
        let other = (or-false (same_packet row r) false last).0 in
        absurd (cc (sym (columns-same row r has) ∙ other))

-- the row of a SPID is the first with its columns
pub tells-apart : (db : Database) → IsSound db → (spid : ℕ) (row : PidRow) → find (λ r. r.spid == spid) db.pid ≡ Some row
    → find (has_columns row.apid row.service row.subtype row.pi1_val row.pi2_val) db.pid ≡ Some row
tells-apart db sound spid row is = first-own db (λ r. r.spid == spid) row [] db.pid (rows-sound kind.Pid (pid_rules db) db.pid (pids-flawless db sound)) is
