-- The fixed layouts of a database, beside those of another.
use Rattle.std.proofs.Common.{◌≡◌, ℕ, ◌≤◌, ◌<◌, zero, suc, ℤ, pos, nat_eq, Bool, true, false, cond, ◌&&◌, ◌||◌, not, List, [], ◌∷◌, take, length, get_or, filter, map, Some, None, option_map, refl, sym, ap, ◌∙◌, arith}
use Rattle.std.proofs.lemmas.Bool.{eq-eqb, eqb-false, ne_eqb}
use Rattle.std.proofs.lemmas.List.{length-map}
use Rattle.std.proofs.lemmas.List.Sums.{count_by-le-length, length-filter}
use Rattle.std.specs.List.{find, list_any}
use Rattle.std.specs.Option.{option_eq}
use Rattle.std.specs.Ordering.{int_eq}
use Rattle.edition_plans.specs.Layouts.{is_layout_row, layout_of, layout_slice}
use Rattle.mib_model.specs.declared.database.Database.{Database}
use Rattle.mib_model.specs.declared.rows.PidRow.{PidRow}
use Rattle.mib_model.specs.declared.rows.PlfRow.{PlfRow}
use Rattle.mib_model.specs.Fixed.{has_layout}
use Rattle.mib_model.specs.Plans.{distinct, layout_rows, type_item, type_items}
use Rattle.mib_model.specs.Soundness.{IsSound}
use Rattle.type_items.proofs.AlikeFacts.{items-alike}
use Rattle.numbered_plans.proofs.BuildingFacts.{whole}
use Rattle.numbered_plans.proofs.NumberFacts.{in_order}
use Rattle.numbered_plans.proofs.SoundFacts.{packets-apart}
use Rattle.numbered_plans.specs.Apart.{AreApart}
use Rattle.numbered_plans.specs.Layouts.{laid_out, laid_spids, layout_numbered, new_layouts, same_layout}
use Rattle.numbered_plans.specs.Numbered as Numbered
use Rattle.numbered_plans.specs.Numbered.{has_same, is_new_at}

-- a packet of fixed layout is found by its SPID, where no packet before it has that
own-found : (rows : List PidRow) (i : ℕ) (row : PidRow) → i < length rows → row ≡ get_or rows i row → list_any (λ r. nat_eq row.spid r.spid) (take i rows) ≡ false
    → has_layout row ≡ true → find (is_layout_row row.spid) rows ≡ Some row
own-found [] i row below is apart laid = absurd (omega (arith, below))
own-found (r ∷ rs) zero row below is apart laid =
    rw (← is) (rw (laid, eq-eqb row.spid row.spid refl) refl)
own-found (r ∷ rs) (suc i) row below is apart laid = go (nat_eq row.spid r.spid) refl (own-found rs i row (omega (arith, below)) is) where
  neither : (b : Bool) → (b && false) ≡ false
  neither true = refl
  neither false = refl

  go : (b : Bool) → nat_eq row.spid r.spid ≡ b → (list_any (λ r. nat_eq row.spid r.spid) (take i rs) ≡ false → has_layout row ≡ true → find (is_layout_row row.spid) rs ≡ Some row)
      → find (is_layout_row row.spid) (r ∷ rs) ≡ Some row
  go true e others = absurd (let g = rw e at apart in cc g)
  go false e others =
      let other : nat_eq r.spid row.spid ≡ false = ne_eqb r.spid row.spid (λ same. eqb-false row.spid r.spid e (sym same)) in
      rw (other, neither (has_layout r)) (others (rw e at apart) laid)

-- ---- layouts by number

keyed : (spid own : ℕ) (b : Bool) → option_eq int_eq (cond b (Some (pos own)) None) (Some (pos spid)) ≡ (b && nat_eq own spid)
keyed spid own true = whole own spid
keyed spid own false = refl

packet-found : (spid : ℕ) (rows : List PidRow) → find (λ row. option_eq int_eq (laid_out row) (Some (pos spid))) rows ≡ find (is_layout_row spid) rows
packet-found spid rows = λ i. find (λ row. keyed spid row.spid (has_layout row) i) rows

-- the layout of a SPID is found by the SPID as a number
pub numbered-spid : (db : Database) (spid : ℕ) → layout_numbered db (pos spid) ≡ layout_of db spid
unfolding layout_of
numbered-spid db spid = ap (option_map (layout_slice db)) (packet-found spid db.pid)

-- ---- layouts that are compiled

or-left : (a b : Bool) → (a || b) ≡ false → a ≡ false
or-left true b h = absurd (cc h)
or-left false b h = refl

or-right : (a b : Bool) → (a || b) ≡ false → b ≡ false
or-right true b h = absurd (cc h)
or-right false b h = h

none-behind : (spid : ℕ) (rows : List PidRow) → ((i : ℕ) (row : PidRow) → i < length rows → row ≡ get_or rows i row → nat_eq row.spid spid ≡ false)
    → list_any (λ m. nat_eq m spid) (laid_spids rows) ≡ false
none-behind spid [] other = refl
none-behind spid (r ∷ rs) other = go (has_layout r) (none-behind spid rs (λ i row below is. other (suc i) row (omega (arith, below)) is)) where
  go : (b : Bool) → list_any (λ m. nat_eq m spid) (laid_spids rs) ≡ false → list_any (λ m. nat_eq m spid) (map (λ row. row.spid) (cond b (r ∷ filter has_layout rs) (filter has_layout rs))) ≡ false
  go true others = rw (other 0 r (omega arith) refl) others
  go false others = others

-- packets that are apart have different SPIDs
distinct-laid : (rows : List PidRow) → AreApart rows → distinct (laid_spids rows) ≡ laid_spids rows
distinct-laid [] apart = refl
distinct-laid (r ∷ rs) apart =
    go (has_layout r) (distinct-laid rs (λ i row below is. or-right (nat_eq row.spid r.spid) _ (apart (suc i) row (omega (arith, below)) is))) where
      behind : list_any (λ m. nat_eq m r.spid) (laid_spids rs) ≡ false
      behind = none-behind r.spid rs (λ i row below is. or-left (nat_eq row.spid r.spid) _ (apart (suc i) row (omega (arith, below)) is))

      go : (b : Bool) → distinct (laid_spids rs) ≡ laid_spids rs
          → distinct (map (λ row. row.spid) (cond b (r ∷ filter has_layout rs) (filter has_layout rs))) ≡ map (λ row. row.spid) (cond b (r ∷ filter has_layout rs) (filter has_layout rs))
      go true others = ap (λ b. cond b (distinct (laid_spids rs)) (r.spid ∷ distinct (laid_spids rs))) behind ∙ ap (λ (ns : List ℕ). r.spid ∷ ns) others
      go false others = others

-- SPIDs that pass are those of packets that do
chosen : (p : ℕ → Bool) (q : PidRow → Bool) (rows : List PidRow) → ((i : ℕ) (row : PidRow) → i < length rows → row ≡ get_or rows i row → (has_layout row && p row.spid) ≡ q row)
    → filter p (laid_spids rows) ≡ map (λ row. row.spid) (filter q rows)
chosen p q [] agree = refl
chosen p q (r ∷ rs) agree =
    go (has_layout r) (agree 0 r (omega arith) refl) (chosen p q rs (λ i row below is. agree (suc i) row (omega (arith, below)) is)) where
      spids : List PidRow → List ℕ
      spids = map (λ row. row.spid)

      laid : (b c : Bool) → b ≡ c → filter p (laid_spids rs) ≡ spids (filter q rs)
          → cond b (r.spid ∷ filter p (laid_spids rs)) (filter p (laid_spids rs)) ≡ spids (cond c (r ∷ filter q rs) (filter q rs))
      laid true true same others = ap (λ (ns : List ℕ). r.spid ∷ ns) others
      laid true false same others = absurd (cc same)
      laid false true same others = absurd (cc same)
      laid false false same others = others

      go : (a : Bool) → (a && p r.spid) ≡ q r → filter p (laid_spids rs) ≡ spids (filter q rs)
          → filter p (spids (cond a (r ∷ filter has_layout rs) (filter has_layout rs))) ≡ spids (cond (q r) (r ∷ filter q rs) (filter q rs))
      go true same others = laid (p r.spid) (q r) same others
      go false same others = others ∙ ap (λ c. spids (cond c (r ∷ filter q rs) (filter q rs))) same

-- a packet of fixed layout whose layout the base lacks, or has of other rows or type items
abbrev pub is_new : Database → Database → PidRow → Bool
is_new base db row = has_layout row && not (has_same same_layout (layout_of base row.spid) (layout_slice db row))

module _ (base db : Database) (sound : IsSound db) where
  new-at : (i : ℕ) (row : PidRow) → i < length db.pid → row ≡ get_or db.pid i row
      → (has_layout row && is_new_at same_layout (layout_numbered base) (layout_numbered db) row.spid) ≡ is_new base db row
  unfolding layout_of
  new-at i row below is = go (has_layout row) refl where
    go : (b : Bool) → has_layout row ≡ b → (b && is_new_at same_layout (layout_numbered base) (layout_numbered db) row.spid) ≡ (b && not (has_same same_layout (layout_of base row.spid) (layout_slice db row)))
    go false laid = refl
    go true laid =
        let found : layout_numbered db (pos row.spid) ≡ Some (layout_slice db row) =
        numbered-spid db row.spid ∙ ap (option_map (layout_slice db)) (own-found db.pid i row below is (packets-apart db sound i row below is) laid) in
        ap (λ o. Numbered.is_new same_layout o (layout_numbered db (pos row.spid))) (numbered-spid base row.spid)
        ∙ ap (Numbered.is_new same_layout (layout_of base row.spid)) found

  -- the new layouts of a sound database are those of packets that are new
  pub new-is : new_layouts base db ≡ in_order (map (λ row. row.spid) (filter (is_new base db) db.pid))
  new-is =
      let made : ℕ → Bool = is_new_at same_layout (layout_numbered base) (layout_numbered db) in
      ap in_order (ap (filter made) (distinct-laid db.pid (packets-apart db sound)) ∙ chosen made (is_new base db) db.pid new-at)

-- no more packets have a fixed layout than there are
pub few-laid : (rows : List PidRow) → length (laid_spids rows) ≤ length rows
few-laid rows = omega (arith, length-map (filter has_layout rows) (λ (r : PidRow). r.spid), length-filter has_layout rows, count_by-le-length has_layout rows)

-- databases with the same packets, places and type items have the same layouts
module _ (old new : Database) (pid : old.pid ≡ new.pid) (plf : old.plf ≡ new.plf) (types : map type_item old.pcf ≡ map type_item new.pcf) where
  slice-alike : (row : PidRow) → layout_slice old row ≡ layout_slice new row
  slice-alike row =
      let rows : layout_rows old row.spid ≡ layout_rows new row.spid = ap (filter (λ (r : PlfRow). nat_eq r.spid row.spid)) plf in
      let items : type_items old (map (λ r. r.name) (layout_rows old row.spid)) ≡ type_items new (map (λ r. r.name) (layout_rows new row.spid)) =
      items-alike old.pcf new.pcf types (map (λ r. r.name) (layout_rows old row.spid)) ∙ ap (λ (rs : List PlfRow). type_items new (map (λ r. r.name) rs)) rows in
      λ i. record { pid = row; plfs = rows i; types = items i }

  pub layouts-alike : (q : ℤ) → layout_numbered old q ≡ layout_numbered new q
  layouts-alike q = λ i. option_map (λ row. slice-alike row i) (find (λ row. option_eq int_eq (laid_out row) (Some q)) (pid i))
