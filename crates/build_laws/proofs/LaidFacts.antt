-- Items that are laid are read again from a packet that has their numbers at their places.
use Rattle.std.proofs.Common.{◌≡◌, ◌∙◌, ℕ, min, ◌+◌, ◌*◌, ◌^◌, ◌<◌, ◌≤◌, ℤ, pos, negsuc, Bool, true, false, cond, List, length, Option, Some, None, Result, Ok, Err, refl, sym, ap, subst, arith}
use Rattle.std.specs.Prelude.{slice_get}
use Rattle.std.specs.Str.{bytes_eq}
use Rattle.std.proofs.lemmas.Slice.Eq.{bytes_eq-Decides}
use Rattle.std.proofs.lemmas.Bool.{le-ltb}
use Rattle.mib_model.specs.declared.packet.Ended.TheVariants as ended
use Rattle.mib_model.specs.declared.packet.Value.{Value}
use Rattle.mib_model.specs.Attempts.{◌>>=◌}
use Rattle.mib_model.specs.Bits.{raw_number}
use Rattle.mib_model.specs.Encodings.{Encoding}
use Rattle.struct_plan.specs.declared.entry.ValueField.{ValueField}
use Rattle.struct_plan.specs.declared.numbers.WalkEnd.{WalkEnd}
use Rattle.struct_plan.specs.declared.numbers.WalkEnd.TheVariants.{Ended, Missing, Unfit}
use Rattle.struct_plan.specs.Sources.{of_packet}
use Rattle.build_rules.specs.declared.item.Item.{Item}
use Rattle.build_rules.specs.Laying.{fits, last_bit, of_items, raw_of, value_laid}
use Rattle.build_laws.specs.Laws.{item_of}

-- a value is read at its place in a packet
pub record IsRead (packet : List ℕ) (v : Value) : Type 0 where
  pub number : raw_number v.shape packet v.at ≡ v.raw
  pub inside : v.at + v.shape.width ≤ 8 * length packet

-- a value is of an item behind so many others, for a field: it has its name, and a number of its shape
pub record IsItem (items : List Item) (given : ℕ) (field : ValueField) (v : Value) : Type 0 where
  pub item : slice_get items given ≡ Some (item_of v)
  pub shape : field.shape ≡ v.shape
  pub fit : fits v.shape v.raw ≡ true

-- ---- one item

-- what an item gives at a cursor
pub record Given (items : List Item) (cursor : ℤ) (field : ValueField) (given : ℕ) (v : Value) : Type 0 where
  pub is_item : IsItem items given field v
  pub name : v.name ≡ field.name
  pub at : ℕ
  pub cursor_is : cursor ≡ pos at
  pub at_is : v.at ≡ min at last_bit

if-fit : (items : List Item) (cursor : ℤ) (field : ValueField) (given at : ℕ) (raw : ℤ) (v : Value) → cursor ≡ pos at → slice_get items given ≡ Some (record { name = field.name; raw = raw })
    → (b : Bool) → fits field.shape raw ≡ b → cond b (Ok (record { name = field.name; at = min at last_bit; raw = raw; shape = field.shape })) (Err Unfit) ≡ Ok v → Given items cursor field given v
if-fit items cursor field given at raw v stands has true fit is =
    let made : Value = record { name = field.name; at = min at last_bit; raw = raw; shape = field.shape } in
    let same : made ≡ v = cc is in
    subst (Given items cursor field given) same (record { is_item = record { item = has; shape = refl; fit = fit }; name = refl; at = at; cursor_is = stands; at_is = refl })
if-fit items cursor field given at raw v stands has false fit is = absurd (cc is)

at-cursor : (items : List Item) (cursor : ℤ) (field : ValueField) (given : ℕ) (raw : ℤ) (v : Value) → slice_get items given ≡ Some (record { name = field.name; raw = raw })
    → value_laid field.name field.shape cursor raw ≡ Ok v → Given items cursor field given v
at-cursor items (negsuc n) field given raw v has is = absurd (cc is)
at-cursor items (pos at) field given raw v has is = if-fit items (pos at) field given at raw v refl has (fits field.shape raw) refl is

by-item : (items : List Item) (cursor : ℤ) (field : ValueField) (given : ℕ) (o : Option Item) (v : Value) → slice_get items given ≡ o
    → (raw_of o field.name >>= value_laid field.name field.shape cursor) ≡ Ok v → Given items cursor field given v
by-item items cursor field given None v has is = absurd (cc is)
by-item items cursor field given (Some item) v has is = go (bytes_eq item.name field.name) refl is where
  go : (b : Bool) → bytes_eq item.name field.name ≡ b → (cond b (Ok item.raw) (Err Missing) >>= value_laid field.name field.shape cursor) ≡ Ok v → Given items cursor field given v
  go false named is = absurd (cc is)
  go true named is =
      let name : item.name ≡ field.name = (bytes_eq-Decides item.name field.name).0 named in
      at-cursor items cursor field given item.raw v (has ∙ ap (λ (n : List ℕ). Some (record { name = n; raw = item.raw })) name) is

pub item-given : (items : List Item) (cursor : ℤ) (field : ValueField) (given : ℕ) (v : Value) → of_items items cursor field given ≡ Ok v → Given items cursor field given v
item-given items cursor field given v is = by-item items cursor field given (slice_get items given) v refl is

-- an item never ends values whole
pub not-whole : (items : List Item) (cursor : ℤ) (field : ValueField) (given : ℕ) (why : WalkEnd) → of_items items cursor field given ≡ Err why → why ≡ Ended ended.Whole → ⊥
not-whole items cursor field given why is whole = by (slice_get items given) is where
  placed : (raw : ℤ) (c : ℤ) → value_laid field.name field.shape c raw ≡ Err why → ⊥
  placed raw (negsuc n) e = let same : Ended (ended.Short field.name) ≡ why = cc e in absurd (cc (same ∙ whole))
  placed raw (pos at) e = go (fits field.shape raw) e where
    go : (b : Bool) → cond {A = Result Value WalkEnd} b (Ok (record { name = field.name; at = min at last_bit; raw = raw; shape = field.shape })) (Err Unfit) ≡ Err why → ⊥
    go true e = absurd (cc e)
    go false e = let same : Unfit ≡ why = cc e in absurd (cc (same ∙ whole))

  by : (o : Option Item) → (raw_of o field.name >>= value_laid field.name field.shape cursor) ≡ Err why → ⊥
  by None e = let same : Missing ≡ why = cc e in absurd (cc (same ∙ whole))
  by (Some item) e = go (bytes_eq item.name field.name) e where
    go : (b : Bool) → (cond {A = Result ℤ WalkEnd} b (Ok item.raw) (Err Missing) >>= value_laid field.name field.shape cursor) ≡ Err why → ⊥
    go false e = let same : Missing ≡ why = cc e in absurd (cc (same ∙ whole))
    go true e = placed item.raw cursor e

module _ (packet : List ℕ) (short : length packet < 2 ^ 61) where
  -- the value at a place where it is read
  made : (v : Value) (name : List ℕ) (at : ℕ) (shape : Encoding) → v.name ≡ name → v.at ≡ at → shape ≡ v.shape → IsRead packet v
      → ◌≡◌ {A = Value} (record { name = name; at = at; raw = raw_number shape packet at; shape = shape }) v
  made v name at shape named stands shaped read =
      ap (λ (n : List ℕ). record { name = n; at = at; raw = raw_number shape packet at; shape = shape }) (sym named)
      ∙ (ap (λ (n : ℕ). record { name = v.name; at = n; raw = raw_number shape packet n; shape = shape }) (sym stands)
      ∙ (ap (λ (e : Encoding). record { name = v.name; at = v.at; raw = raw_number e packet v.at; shape = e }) shaped
      ∙ ap (λ (r : ℤ). record { name = v.name; at = v.at; raw = r; shape = v.shape }) read.number))

  read-at : (cursor : ℤ) (field : ValueField) (given at : ℕ) (v : Value) → cursor ≡ pos at → v.name ≡ field.name → v.at ≡ at → field.shape ≡ v.shape → IsRead packet v
      → of_packet packet cursor field given ≡ Ok v
  read-at cursor field given at v stands named same shaped read =
      let width : field.shape.width ≡ v.shape.width = ap (λ (e : Encoding). e.width) shaped in
      let inside : at + field.shape.width ≤ 8 * length packet = omega (arith, same, width, read.inside) in
      rw (stands, le-ltb (8 * length packet) (at + field.shape.width) inside) (ap (λ (x : Value). Ok x) (made v field.name at field.shape named same shaped read))

  pub item-read : (items : List Item) (cursor : ℤ) (field : ValueField) (given : ℕ) (v : Value) → of_items items cursor field given ≡ Ok v → IsRead packet v → of_packet packet cursor field given ≡ Ok v
  item-read items cursor field given v is read =
      let g = item-given items cursor field given v is in
      let at : v.at ≡ g.at = omega (arith, g.at_is, read.inside, short) in
      read-at cursor field given g.at v g.cursor_is g.name at g.is_item.shape read
