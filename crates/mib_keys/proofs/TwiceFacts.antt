-- Places of rows that are like a row, before its own place.
use Rattle.std.proofs.Common.{◌≡◌, ℕ, ◌<◌, min, Bool, true, false, cond, List, [], ◌∷◌, take, Option, Some, None, unwrap_or, refl, sym, ap, ◌∙◌, nat_lt, arith}
use Rattle.std.proofs.lemmas.Bool.{ltb-true, ltb-false, lt-ltb, le-ltb}
use Rattle.std.specs.List.{position}
use Rattle.mib_model.specs.declared.key.Key.{Key}
use Rattle.mib_model.specs.declared.database.Database.{Database}
use Rattle.mib_model.specs.declared.rows.PidRow.{PidRow}
use Rattle.mib_model.specs.declared.rows.Row.{Row}
use Rattle.mib_model.specs.declared.rows.Row.TheVariants as row
use Rattle.mib_model.specs.Drafts.{rows_of}
use Rattle.mib_model.specs.RowTexts.{kind_in}
use Rattle.mib_model.specs.TypedRows.{as_pid}
use Rattle.mib_model.specs.Keys.{key_in}
use Rattle.mib_keys.specs.Alike.{AreKeyPlaces, are_of_a_kind, has_its_key, has_its_kind}
use Rattle.mib_keys.specs.Firsts.{least}
use Rattle.mib_index.proofs.PlaceFacts.{position-cons}
use Rattle.mib_tables.proofs.TableFacts.{position-map}
use Rattle.row_flaws.specs.Indexes.{cut}
use Rattle.packet_keys.specs.Keys.{packet_eq, packet_key}
use Rattle.row_flaws.specs.Rows.{IsFirst}
use Rattle.row_flaws.proofs.PointFacts.{position-take}

-- no place is before itself
pub cut-default : (n : ℕ) (o : Option ℕ) → cut n (Some (unwrap_or o n)) ≡ cut n o
cut-default n None = ap (λ b. cond b (Some n) None) (le-ltb n n (omega arith))
cut-default n (Some i) = refl

cut-again : (n : ℕ) (o : Option ℕ) → cut n (cut n o) ≡ cut n o
cut-again n None = refl
cut-again n (Some i) = go (nat_lt i n) refl where
  go : (b : Bool) → nat_lt i n ≡ b → cut n (cond b (Some i) None) ≡ cond b (Some i) None
  go true h = ap (λ b. cond b (Some i) None) h
  go false h = refl

-- the lesser of two places before another
pub cut-least : (n : ℕ) (o u : Option ℕ) → cut n (least o u) ≡ least (cut n o) (cut n u)
cut-least n None u = refl
cut-least n (Some i) None = go (nat_lt i n) where
  go : (b : Bool) → cond b (Some i) None ≡ least (cond b (Some i) None) None
  go true = refl
  go false = refl
cut-least n (Some i) (Some j) = go (nat_lt i n) (nat_lt j n) refl refl where
  within : (k : ℕ) → min i j ≡ k → k < n → cut n (Some (min i j)) ≡ Some k
  within k is below = ap (cut n) (ap Some is) ∙ ap (λ b. cond b (Some k) None) (lt-ltb k n below)

  go : (b c : Bool) → nat_lt i n ≡ b → nat_lt j n ≡ c → cut n (Some (min i j)) ≡ least (cond b (Some i) None) (cond c (Some j) None)
  go true true h k = within (min i j) refl (let l = ltb-true i n h in omega (arith, l))
  go true false h k = within i (let l = ltb-true i n h in let m = ltb-false j n k in omega (arith, l, m)) (ltb-true i n h)
  go false true h k = within j (let l = ltb-false i n h in let m = ltb-true j n k in omega (arith, l, m)) (ltb-true j n k)
  go false false h k = ap (λ b. cond b (Some (min i j)) None) (le-ltb (min i j) n (let l = ltb-false i n h in let m = ltb-false j n k in omega (arith, l, m)))

-- where neither of two places is there
pub none-left : (o u : Option ℕ) → least o u ≡ None → o ≡ None
none-left None u h = refl
none-left (Some i) None h = h
none-left (Some i) (Some j) h = absurd (cc h)

-- the place of the first row before one that has its key
pub own-place : (noted : Key → Option ℕ) (rows : List Row) (n : ℕ) (r : Row) → AreKeyPlaces noted (take n rows) → cut n (noted (key_in r)) ≡ cut n (position (has_its_key r) rows)
own-place noted rows n r are = ap (cut n) (are (key_in r) ∙ position-take (has_its_key r) n rows) ∙ cut-again n (position (has_its_key r) rows)

-- a row of vpd whose key no row before has is the first at its place
pub is-first : (db : Database) (n : ℕ) (r : Row) → cut n (position (has_its_key r) (rows_of db (kind_in r))) ≡ None → IsFirst db n r
unfolding rows_of
is-first db n (row.Vpd r) none = ap (cut n) (sym (position-map row.Vpd (has_its_key (row.Vpd r)) db.vpd)) ∙ none
is-first db n other none = tt

no-place : {X : Type 0} (p : X → Bool) → ((x : X) → p x ≡ false) → (xs : List X) → position p xs ≡ None
no-place p none [] = refl
no-place p none (x ∷ xs) = position-cons p x xs ∙ rw (none x, no-place p none xs) refl

-- a row that is no packet has the kind of no row
pub no-kind : (rows : List Row) (r : Row) → as_pid r ≡ None → position (has_its_kind r) rows ≡ None
no-kind rows r none = no-place (has_its_kind r) (λ (other : Row). ap (λ (p : Option PidRow). are_of_a_kind p (as_pid other)) none) rows

-- a packet has the kind of packets
pub own-kind : (db : Database) (r : Row) (p : PidRow) → as_pid r ≡ Some p → position (has_its_kind r) (rows_of db (kind_in r)) ≡ position (λ (o : PidRow). packet_eq (packet_key o) (packet_key p)) db.pid
unfolding rows_of
own-kind db (row.Pid q) p is = let same : q ≡ p = cc in position-map row.Pid (has_its_kind (row.Pid q)) db.pid ∙ ap (λ (k : PidRow). position (λ (o : PidRow). packet_eq (packet_key o) (packet_key k)) db.pid) same
own-kind db other p is = absurd (cc is)
