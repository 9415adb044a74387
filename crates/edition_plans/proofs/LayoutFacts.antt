-- What is found has a layout, and a layout has the places of its SPID.
use Rattle.std.proofs.Common.{◌≡◌, ℕ, nat_eq, Bool, true, false, not, cond, ◌&&◌, List, [], ◌∷◌, Option, Some, None, option_map, refl, ap, ◌∙◌, eq-eqb}
use Rattle.std.proofs.lemmas.Bool.{eqb-true}
use Rattle.std.proofs.lemmas.Option.{none-some}
use Rattle.std.specs.List.{find}
use Rattle.std.specs.Option.{is_some}
use Rattle.mib_model.specs.declared.database.Database.{Database}
use Rattle.mib_model.specs.declared.packet.Found.{Found}
use Rattle.mib_model.specs.declared.rows.PidRow.{PidRow}
use Rattle.mib_model.specs.Fixed.{has_layout, places}
use Rattle.mib_model.specs.Headers.{header_of}
use Rattle.mib_model.specs.Match.{match_of, agrees, found_of, found_with, service_of, subtype_of, lacks_service, discriminants, criterion}
use Rattle.mib_laws.proofs.SliceFacts.{slices-suffice}
use Rattle.edition_plans.specs.Layouts.{is_layout_row, layout_slice, layout_of, HasPlaces, HasLayout}

-- where one row passes both tests, some row passes the second
find-some : {R : Type 0} (p q : R → Bool) (rows : List R) (row : R) → find p rows ≡ Some row → q row ≡ true → is_some (find q rows) ≡ true
find-some p q [] row is good = absurd (none-some row is)
find-some {R} p q (r ∷ rs) row is good = go (q r) refl (p r) refl (λ later. find-some p q rs row later good) where
  go : (c : Bool) → q r ≡ c → (b : Bool) → p r ≡ b → (find p rs ≡ Some row → is_some (find q rs) ≡ true) → is_some (cond (q r) (Some r) (find q rs)) ≡ true
  go true h b g others = rw h refl
  go false h true g others =
      let same : Some r ≡ Some row = rw g at is in
      let bad : q r ≡ true = cc (same, good) in
      absurd (let both = rw h at bad in cc both)
  go false h false g others = rw h (others (rw g at is))

some-made : {A B : Type 0} (f : A → B) (o : Option A) → is_some (option_map f o) ≡ is_some o
some-made f None = refl
some-made f (Some x) = refl

choice : (P : Found → Type 0) (b : Bool) (x y : Found) → P x → P y → P (cond b x y)
choice P true x y holds others = holds
choice P false x y holds others = others

of-row : (db : Database) (packet : List ℕ) (values : ℕ × ℕ) (o : Option PidRow) → find (agrees packet values) db.pid ≡ o → HasLayout db (found_of (service_of packet) (subtype_of packet) o)
unfolding HasLayout layout_of
of-row db packet values None is = tt
of-row db packet values (Some row) is = λ fixed.
    let passes : is_layout_row row.spid row ≡ true = rw (fixed, eq-eqb row.spid row.spid refl) refl in
    some-made (layout_slice db) (find (is_layout_row row.spid) db.pid) ∙ find-some (agrees packet values) (is_layout_row row.spid) db.pid row is passes

of-values : (db : Database) (packet : List ℕ) (o : Option (ℕ × ℕ)) → HasLayout db (found_with db.pid packet o)
unfolding HasLayout
of-values db packet None = tt
of-values db packet (Some values) = of-row db packet values (find (agrees packet values) db.pid) refl

-- a packet that is found and is of no structure has a layout
pub found-layout : (db : Database) (packet : List ℕ) → HasLayout db (match_of db packet)
unfolding match_of HasLayout
found-layout db packet =
    choice (HasLayout db) (not (nat_eq (header_of packet).version 0)) _ _ tt
    (choice (HasLayout db) (header_of packet).telecommand _ _ tt
    (choice (HasLayout db) (nat_eq (header_of packet).apid 2047) _ _ tt
    (choice (HasLayout db) (lacks_service packet) _ _ tt
    (of-values db packet (discriminants packet (criterion db.pic packet))))))

-- what is found passes
find-passes : {R : Type 0} (p : R → Bool) (rows : List R) (row : R) → find p rows ≡ Some row → p row ≡ true
find-passes p [] row is = absurd (none-some row is)
find-passes {R} p (r ∷ rs) row is = go (p r) refl (find-passes p rs row) where
  go : (b : Bool) → p r ≡ b → (find p rs ≡ Some row → p row ≡ true) → p row ≡ true
  go true h others = let same : Some r ≡ Some row = rw h at is in cc (same, h)
  go false h others = others (rw h at is)

second : (a b : Bool) → (a && b) ≡ true → b ≡ true
second true b h = h
second false b h = absurd (cc h)

of-found : (db : Database) (spid : ℕ) (o : Option PidRow) → find (is_layout_row spid) db.pid ≡ o → HasPlaces db spid (option_map (layout_slice db) o)
of-found db spid None is = tt
of-found db spid (Some row) is =
    let same : row.spid ≡ spid = eqb-true row.spid spid (second (has_layout row) (nat_eq row.spid spid) (find-passes (is_layout_row spid) db.pid row is)) in
    slices-suffice db row.spid ∙ ap (places db) same

-- the layout of a SPID has the places of its values
pub layout-places : (db : Database) (spid : ℕ) → HasPlaces db spid (layout_of db spid)
unfolding layout_of
layout-places db spid = of-found db spid (find (is_layout_row spid) db.pid) refl
