-- Lines between two points, by the quotient of the rise and the numbers between them. [This profile.]
use Rattle.std.specs.Prelude.{◌≡◌, ◌<◌, ◌≤◌, ℕ, ℤ, ◌+◌, ◌*◌, ◌/◌, ◌^◌, pos, ◌+ℤ◌, ◌-ℤ◌, ◌<ℤ◌, ◌≤ℤ◌, neg_ℤ, nat_abs}
use Rattle.curve_plan.specs.declared.fast.slope.Slope.{Slope}
use Rattle.mib_model.specs.Decimals.{with_sign}
use Rattle.mib_model.specs.Points.{Knot}

-- the rise of a line
abbrev pub rise_of : Slope → ℕ
rise_of slope = slope.whole * slope.run + slope.rest

-- how far a line climbs in so many of the numbers between two points, rounded; a tie goes up
abbrev pub climbed : ℕ → ℕ → ℕ → ℕ
climbed numbers rise run = (2 * (numbers * rise) + run) / (2 * run)

-- a line whose numbers fit words: it rises by less than 2^63, to an engineering value of 64 bits
pub record IsLine (slope : Slope) : Type 0 where
  pub some : 0 < slope.run
  pub rest : slope.rest < slope.run
  pub short : slope.run < 2 ^ 32
  pub small : rise_of slope < 2 ^ 63
  pub low : neg_ℤ (pos (2 ^ 63)) ≤ℤ (slope.y +ℤ with_sign slope.falls (rise_of slope))
  pub high : (slope.y +ℤ with_sign slope.falls (rise_of slope)) <ℤ pos (2 ^ 63)

-- a count is that of a raw number on a line
pub record IsOnLine (slope : Slope) (raw count : ℤ) : Type 0 where
  pub low : slope.x ≤ℤ raw
  pub high : raw ≤ℤ (slope.x +ℤ pos slope.run)
  pub value : count ≡ slope.y +ℤ with_sign slope.falls (climbed (nat_abs (raw -ℤ slope.x)) (rise_of slope) slope.run)

-- the slope of the line from a point to another, whose numbers fit words
pub record IsSlope (p q : Knot) (slope : Slope) : Type 0 where
  pub line : IsLine slope
  pub x : p.x ≡ slope.x
  pub y : p.y ≡ slope.y
  pub run : q.x -ℤ p.x ≡ pos slope.run
  pub rise : q.y -ℤ p.y ≡ with_sign slope.falls (rise_of slope)
  pub word : nat_abs p.y ≤ 2 ^ 63
