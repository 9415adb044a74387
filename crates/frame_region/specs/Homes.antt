-- The pieces that are at home. [This project's own.]
use Rattle.std.specs.Prelude.{◌≡◌, ◌≤◌, ◌-◌, length, All, vec_len, vec_capacity}
use Rattle.frame_region.specs.Stocks.{Stock}
use Rattle.frame_region.specs.declared.region.Region.TheInside.{Inside}

-- the stock that a region is: what isn't at home is out
abbrev pub stock : {T : Type 0} → Inside T → Stock
stock region = record { pieces = region.pieces; size = region.size; out = region.pieces - vec_len region.home }

-- no more pieces are at home than there are, there is room for all, and each has the region's size
pub record IsHome {T : Type 0} (region : Inside T) : Type 0 where
  pub count : vec_len region.home ≤ region.pieces
  pub room : region.pieces ≤ vec_capacity region.home
  pub sizes : All (λ piece. length piece ≡ region.size) region.home.items
