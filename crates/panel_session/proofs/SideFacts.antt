-- What desks own and what is seen of their objects, one more or none.
use Rattle.std.proofs.Common.{◌≡◌, ◌∙◌, ℕ, zero, suc, List, [], ◌∷◌, ◌++◌, map, length, take, refl, sym, ap, subst, arith}
use Rattle.std.specs.List.{AllByRecursion}
use Rattle.run_model.specs.RegisterHistories.{RegisterHistory}
use Rattle.panel_session.specs.declared.side.DeskSide.{DeskSide}
use Rattle.panel_session.specs.Lanes.{AllBegin, AllGoOn, BeginsSo, GoesOn, HasRoom, Lane, Seen, lane_of, lanes}

-- one more at the end
pub all_more : {X : Type 0} (P : X → Type 0) (xs : List X) (x : X) → AllByRecursion P xs → P x → AllByRecursion P (xs ++ x ∷ [])
all_more P [] x all one = (one, tt)
all_more P (y ∷ ys) x all one = (all.0, all_more P ys x all.1 one)

-- as many elements as a list has, of the list and more
pub front_of : {X : Type 0} (xs more : List X) (n : ℕ) → length xs ≡ n → take n (xs ++ more) ≡ xs
front_of [] more zero same = refl
front_of (x ∷ xs) more (suc n) same = ap (λ l. x ∷ l) (front_of xs more n (omega (arith, same)))
front_of [] more (suc n) same = absurd (omega (arith, same))
front_of (x ∷ xs) more zero same = absurd (omega (arith, same))

no-lanes : (sides : List DeskSide) (seens : List Seen) → length sides ≡ 0 → lanes sides seens ≡ []
no-lanes [] seens none = refl
no-lanes (side ∷ sides) seens none = absurd (omega (arith, none))

-- without a desk none begins
pub begin_none : (number : ℕ) (sides : List DeskSide) (seens : List Seen) (now : RegisterHistory) → length sides ≡ 0 → AllBegin number (lanes sides seens) (lanes sides seens) now now
begin_none number sides seens now none = subst (λ (l : List Lane). AllBegin number l l now now) (sym (no-lanes sides seens none)) refl

-- nor goes on
pub go_none : (number : ℕ) (sides : List DeskSide) (seens : List Seen) → length sides ≡ 0 → AllGoOn number (lanes sides seens) (lanes sides seens)
go_none number sides seens none = subst (λ (l : List Lane). AllGoOn number l l) (sym (no-lanes sides seens none)) tt

-- nor needs room
pub room_none : (sides : List DeskSide) (seens : List Seen) → length sides ≡ 0 → AllByRecursion HasRoom (lanes sides seens)
room_none sides seens none = subst (AllByRecursion HasRoom) (sym (no-lanes sides seens none)) tt

module _ {S : Type 0} (seen : S → Seen) where
  more-lanes : (sides : List DeskSide) (stations : List S) (side : DeskSide) (station : S) (os : List DeskSide) (ss : List S)
      → sides ≡ side ∷ os → stations ≡ station ∷ ss → lanes sides (map seen stations) ≡ lane_of side (seen station) ∷ lanes os (map seen ss)
  more-lanes sides stations side station os ss a b = ap (λ l. lanes l (map seen stations)) a ∙ ap (λ l. lanes (side ∷ os) (map seen l)) b

  -- one desk that begins before the others
  pub begin_more : (number : ℕ) (sides : List DeskSide) (stations : List S) (side on : DeskSide) (station with : S) (os ns : List DeskSide) (ss ws : List S) (before middle now : RegisterHistory)
      → sides ≡ side ∷ os → stations ≡ station ∷ ss → BeginsSo number (lane_of side (seen station)) (lane_of on (seen with)) before middle
      → AllBegin (suc number) (lanes os (map seen ss)) (lanes ns (map seen ws)) middle now → AllBegin number (lanes sides (map seen stations)) (lanes (on ∷ ns) (map seen (with ∷ ws))) before now
  begin_more number sides stations side on station with os ns ss ws before middle now a b first rest =
      subst (λ (l : List Lane). AllBegin number l (lane_of on (seen with) ∷ lanes ns (map seen ws)) before now) (sym (more-lanes sides stations side station os ss a b)) (middle, first, rest)

  -- one desk that goes on beside the others
  pub go_more : (number : ℕ) (sides : List DeskSide) (stations : List S) (side on : DeskSide) (station with : S) (os ns : List DeskSide) (ss ws : List S)
      → sides ≡ side ∷ os → stations ≡ station ∷ ss → GoesOn number (lane_of side (seen station)) (lane_of on (seen with))
      → AllGoOn (suc number) (lanes os (map seen ss)) (lanes ns (map seen ws)) → AllGoOn number (lanes sides (map seen stations)) (lanes (on ∷ ns) (map seen (with ∷ ws)))
  go_more number sides stations side on station with os ns ss ws a b first rest =
      subst (λ (l : List Lane). AllGoOn number l (lane_of on (seen with) ∷ lanes ns (map seen ws))) (sym (more-lanes sides stations side station os ss a b)) (first, rest)
