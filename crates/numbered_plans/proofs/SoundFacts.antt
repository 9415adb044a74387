-- The packets of a sound database have different SPIDs.
use Rattle.std.proofs.Common.{◌≡◌, ℕ, zero, suc, ◌+◌, ◌<◌, nat_eq, Bool, true, false, cond, ◌||◌, List, [], ◌∷◌, ◌++◌, drop, take, length, get_or, Option, Some, None, option_map, refl, sym, ◌∙◌, subst, append_assoc, append-nil, arith}
use Rattle.std.proofs.lemmas.Option.{none-some}
use Rattle.std.specs.List.{flat_map, list_any, position}
use Rattle.numbered_plans.specs.Apart.{AreApart}
use Rattle.mib_index.proofs.PlaceFacts.{position-cons}
use Rattle.mib_laws.proofs.SoundStructures.{append-none, rows-sound, EachRow, NoFlaw}
use Rattle.mib_model.specs.declared.database.Database.{Database}
use Rattle.mib_model.specs.declared.kind.Kind.TheVariants as kind
use Rattle.mib_model.specs.declared.rows.PidRow.{PidRow}
use Rattle.mib_model.specs.Flaws.{table_flaws}
use Rattle.mib_model.specs.Kinds.{kinds}
use Rattle.mib_model.specs.RowFlaws.{pid_rules, same_packet}
use Rattle.mib_model.specs.Soundness.{IsSound, flaws, flaws_of}

-- none passes where no place is found
none-any : {X : Type 0} (p : X → Bool) (xs : List X) → position p xs ≡ None → list_any p xs ≡ false
none-any p [] h = refl
none-any {X} p (x ∷ xs) h = go (p x) (position p xs) refl (sym (position-cons p x xs) ∙ h) (none-any p xs) where
  go : (b : Bool) (o : Option ℕ) → position p xs ≡ o → cond b (Some 0) (option_map (λ i. i + 1) o) ≡ None → (position p xs ≡ None → list_any p xs ≡ false) → (b || list_any p xs) ≡ false
  go true o is h others = absurd (none-some 0 (sym h))
  go false (Some i) is h others = absurd (none-some (i + 1) (sym h))
  go false None is h others = others is

-- what holds of each row with those before it, at a place
each-at : {R : Type 0} (P : List R → R → Type 0) (earlier rows : List R) → EachRow P earlier rows → (i : ℕ) (row : R) → i < length rows → row ≡ get_or rows i row → P (earlier ++ take i rows) row
unfolding EachRow
each-at P earlier [] each i row below is = absurd (omega (arith, below))
each-at {R} P earlier (r ∷ rs) each zero row below is = subst (P (earlier ++ [])) (sym is) (subst (λ (rows : List R). P rows r) (sym (append-nil earlier)) each.0)
each-at {R} P earlier (r ∷ rs) each (suc i) row below is =
    subst (λ (rows : List R). P rows row) (append_assoc earlier (r ∷ []) (take i rs)) (each-at P (earlier ++ r ∷ []) rs each.1 i row (omega (arith, below)) is)

any-less : (row : PidRow) (rows : List PidRow) → list_any (same_packet row) rows ≡ false → list_any (λ r. nat_eq row.spid r.spid) rows ≡ false
any-less row [] h = refl
any-less row (r ∷ rs) h = go (nat_eq row.spid r.spid) refl (any-less row rs) where
  go : (b : Bool) → nat_eq row.spid r.spid ≡ b → (list_any (same_packet row) rs ≡ false → list_any (λ r. nat_eq row.spid r.spid) rs ≡ false) → (b || list_any (λ r. nat_eq row.spid r.spid) rs) ≡ false
  go true e others = absurd (let g = rw e at h in cc g)
  go false e others = others (behind (same_packet row r) (list_any (same_packet row) rs) h) where
    behind : (a b : Bool) → (a || b) ≡ false → b ≡ false
    behind true b h = absurd (cc h)
    behind false b h = h

pid-sound : (db : Database) → IsSound db → table_flaws kind.Pid (pid_rules db) db.pid ≡ []
unfolding flaws
pid-sound db sound =
    let pcf = append-none (flaws_of db kind.Pcf) (flat_map (flaws_of db) (drop 1 kinds)) sound in
    (append-none (flaws_of db kind.Pid) (flat_map (flaws_of db) (drop 2 kinds)) pcf.1).0

-- the packets of a sound database are apart
pub packets-apart : (db : Database) → IsSound db → AreApart db.pid
unfolding NoFlaw
packets-apart db sound = λ i row below is.
    let each = each-at (NoFlaw (pid_rules db)) [] db.pid (rows-sound kind.Pid (pid_rules db) db.pid (pid-sound db sound)) i row below is in
    any-less row (take i db.pid) (none-any (same_packet row) (take i db.pid) (mapped _ (position (same_packet row) (take i db.pid)) each.0)) where
      mapped : {A B : Type 0} (f : A → B) (o : Option A) → option_map f o ≡ None → o ≡ None
      mapped f None h = refl
      mapped f (Some x) h = absurd (none-some (f x) (sym h))
