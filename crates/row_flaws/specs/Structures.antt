-- The rows of structures by POS, as they are noted. [SCOS-2000 Database Import ICD, vpd; this profile.]
use Rattle.std.specs.Prelude.{◌≡◌, ℕ, ◌+◌, ◌<◌, ◌≤◌, Bool, true, false, List, [], length, take, nat_le, nat_lt, nat_eq, filter, ◌&&◌, ◌||◌, Option, Some, None}
use Rattle.std.specs.HashMap.{get, HashMap}
use Rattle.std.specs.BTreeSet.{contains, BTreeSet}
use Rattle.std.specs.List.{list_any, enumerate_from, slice_index_or}
use Rattle.std.specs.List.Sorted.{IsNonDecreasingBy, IsStableByKey}
use Rattle.std.specs.Ordering.{nat_cmp}
use Rattle.mib_model.specs.declared.rows.VpdRow.{VpdRow}
use Rattle.row_flaws.specs.declared.structures.Spot.{Spot}

-- what the groups of a structure are told by
abbrev pub spot_of : VpdRow → Spot
spot_of r = record { tpsd = r.tpsd; pos = r.pos; grpsize = r.grpsize }

-- a spot of a structure
abbrev pub is_in : ℕ → Spot → Bool
is_in tpsd spot = nat_eq spot.tpsd tpsd

-- a row of the same structure at the same POS
abbrev pub is_same_place : VpdRow → VpdRow → Bool
is_same_place r o = nat_eq o.tpsd r.tpsd && nat_eq o.pos r.pos

-- the order by POS
abbrev pub by_pos : Spot → Spot → Bool
by_pos x y = nat_le x.pos y.pos

-- they stand by POS
abbrev pub RisesByPos : List Spot → Type 0
RisesByPos spots = IsNonDecreasingBy (λ (spot : Spot). spot.pos) spots

-- the rows in order, those of one POS as they stood before
pub record IsByPos (rows spots : List Spot) : Type 0 where
  pub rises : RisesByPos spots
  pub stable : IsStableByKey (λ (spot : Spot). spot.pos) nat_cmp rows spots

-- a group of so many rows behind a place passes the end of a group in which the place stands
abbrev pub passes : ℕ → ℕ → ℕ × Spot → Bool
passes place size outer = nat_le place (outer.0 + outer.1.grpsize) && nat_lt (outer.0 + outer.1.grpsize) (place + size)

-- it passes the end of some group in which its place stands
abbrev pub passes_some : List Spot → ℕ → ℕ → Bool
passes_some spots place size = list_any (passes place size) (enumerate_from 0 (take place spots))

-- the group of a row passes the last row, or the end of a group in which it stands
abbrev pub passes_spots : List Spot → VpdRow → Bool
passes_spots spots r =
    nat_lt (length spots) (length (filter (λ o. nat_lt o.pos r.pos) spots) + r.grpsize + 1) || passes_some spots (length (filter (λ o. nat_lt o.pos r.pos) spots)) r.grpsize

-- the group of the row at a place ends here
abbrev pub ends_at : ℕ → ℕ × Spot → Bool
ends_at end outer = nat_eq (outer.0 + outer.1.grpsize) end

-- an end that is there and before a bound
abbrev pub is_end_before : ℕ → Option ℕ → Bool
is_end_before bound None = false
is_end_before bound (Some end) = nat_lt end bound

-- the least of some ends from a place on
pub record IsLeast (ends : BTreeSet ℕ) (place end : ℕ) : Type 0 where
  pub behind : place ≤ end
  pub noted : contains nat_cmp ends end ≡ true
  pub least : (other : ℕ) → place ≤ other → contains nat_cmp ends other ≡ true → end ≤ other

-- the least end from a place on, if there is one
abbrev pub IsNearest : BTreeSet ℕ → ℕ → Option ℕ → Type 0
IsNearest ends place None = (other : ℕ) → place ≤ other → contains nat_cmp ends other ≡ false
IsNearest ends place (Some end) = IsLeast ends place end

-- the ends are those of the groups; for each place the nearest end tells whether a group passes one around it
pub record IsSwept (spots : List Spot) (nearest : List (Option ℕ)) (ends : BTreeSet ℕ) : Type 0 where
  pub all : length nearest ≡ length spots
  pub told : (place size : ℕ) → place < length spots → is_end_before (place + size) (slice_index_or nearest place None) ≡ passes_some spots place size
  pub noted : (end : ℕ) → contains nat_cmp ends end ≡ list_any (ends_at end) (enumerate_from 0 spots)

-- the spots of a structure, if there is one
abbrev pub spots_in : Option (List Spot) → List Spot
spots_in None = []
spots_in (Some spots) = spots

-- the spots that are noted of a structure
abbrev pub spots_at : {S : Type 0} → HashMap ℕ (List Spot) S → ℕ → List Spot
spots_at noted q = spots_in (get nat_eq noted q)
