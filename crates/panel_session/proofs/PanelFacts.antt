-- A whole run of a panel, by what its intake and its desks did and by the history at its end.
use Rattle.std.proofs.Common.{◌≡◌, ◌∙◌, ℕ, zero, suc, ◌+◌, ◌<◌, true, List, [], ◌∷◌, map, length, Result, refl, sym, ap, subst, arith}
use Rattle.std.specs.List.{AllByRecursion, AllZip, fold}
use Rattle.decode_session.specs.declared.ending.RunEnd.{RunEnd}
use Rattle.decode_session.specs.declared.ending.RunFault.{RunFault}
use Rattle.decode_session.specs.Causes.{HasOutCause}
use Rattle.edition_register.specs.Panels.{ListFrom}
use Rattle.histories.specs.History.{IsOfSeatsBelow, Permits, StartsWith, moves_of}
use Rattle.live_desk.specs.declared.desk_end.DeskEnd.{DeskEnd}
use Rattle.live_desk.specs.declared.desk_end.DeskEnd.TheVariants as end
use Rattle.live_desk.proofs.DeskFacts.{starts-more}
use Rattle.live_session.specs.Codes.{code_by}
use Rattle.live_session.specs.Live.{ending_of, object}
use Rattle.live_session.proofs.EndFacts.{Known, code-is}
use Rattle.live_session.proofs.LiveFacts.{prints-of}
use Rattle.live_session.proofs.PlanFacts.{MovesPlanned, desk-planned, planned-of}
use Rattle.run_model.specs.declared.code.Code.{Code}
use Rattle.mib_model.specs.declared.database.Database.{Database}
use Rattle.run_model.specs.Desk.{desk_start}
use Rattle.run_model.specs.Endings.{code_of_ending}
use Rattle.run_model.specs.RegisterHistories.{IsRegisterHistory, MayEnter, RegisterHistory}
use Rattle.packet_run.specs.Runs.{Runs, is_out_failed}
use Rattle.packet_run.specs.Told.{Member, begun}
use Rattle.panel_session.specs.declared.side.DeskSide.{DeskSide}
use Rattle.panel_session.specs.Codes.{gravest, with_end}
use Rattle.panel_session.specs.Lanes.{Lane, Ran, Seen, lanes}
use Rattle.panel_session.specs.Opened.{IsNewSide}
use Rattle.panel_session.specs.Panel.{AllKeep, Keeps, LivesAt, StandInOrder, Station}
use Rattle.panel_session.proofs.EndFacts.{code-gravest, gravest-same}
use Rattle.panel_session.proofs.LaneFacts.{AllOwn, AllWhole, EndAs, IsNewLane, all-whole, seen_of}
use Rattle.turn_cell.specs.Seats.{own_moves}

-- ---- lanes of sides and objects

-- each new
lanes-new : (first : Database) (sides : List DeskSide) (seens : List Seen) → AllByRecursion (λ seat. own_moves seat ≡ []) (map (λ side. side.seat) sides) → AllByRecursion (IsNewSide first) sides → AllByRecursion (IsNewLane first) (lanes sides seens)
lanes-new first [] seens unmoved new = tt
lanes-new first (side ∷ sides) [] unmoved new = tt
lanes-new first (side ∷ sides) (seen ∷ seens) unmoved new =
    (record { new = record { unread = new.0.unread; unused = unmoved.0; begins = new.0.draft }; going = new.0.going }, lanes-new first sides seens unmoved.1 new.1)

-- of as many objects
lanes-seen : (sides : List DeskSide) (seens : List Seen) → length sides ≡ length seens → seen_of (lanes sides seens) ≡ seens
lanes-seen [] [] same = refl
lanes-seen (side ∷ sides) (seen ∷ seens) same = ap (λ l. seen ∷ l) (lanes-seen sides seens (omega (arith, same)))
lanes-seen [] (seen ∷ seens) same = absurd (omega (arith, same))
lanes-seen (side ∷ sides) [] same = absurd (omega (arith, same))

-- with the ends of the sides
lanes-ends : (w : DeskEnd) (sides : List DeskSide) (seens : List Seen) → length sides ≡ length seens
    → fold (λ worst lane. with_end worst lane.end) w (lanes sides seens) ≡ fold (λ worst side. with_end worst side.end) w sides
lanes-ends w [] [] same = refl
lanes-ends w (side ∷ sides) (seen ∷ seens) same = lanes-ends (with_end w side.end) sides seens (omega (arith, same))
lanes-ends w [] (seen ∷ seens) same = absurd (omega (arith, same))
lanes-ends w (side ∷ sides) [] same = absurd (omega (arith, same))

-- as many as sides
lanes-count : (sides : List DeskSide) (seens : List Seen) → length sides ≡ length seens → length (lanes sides seens) ≡ length sides
lanes-count [] [] same = refl
lanes-count (side ∷ sides) (seen ∷ seens) same = ap suc (lanes-count sides seens (omega (arith, same)))
lanes-count [] (seen ∷ seens) same = absurd (omega (arith, same))
lanes-count (side ∷ sides) [] same = absurd (omega (arith, same))

-- with the moves of their seats
lanes-own : (number : ℕ) (history : RegisterHistory) (sides : List DeskSide) (seens : List Seen) → ListFrom number history (map (λ side. side.seat) sides) → AllOwn number history (lanes sides seens)
lanes-own number history [] seens list = tt
lanes-own number history (side ∷ sides) [] list = tt
lanes-own number history (side ∷ sides) (seen ∷ seens) list = (list.0, lanes-own (suc number) history sides seens list.2)

-- ---- plans

-- what each desk adds has its plans
stand-planned : (number : ℕ) (first : Database) (history before : RegisterHistory) (stations : List Station) → StandInOrder number first history before stations → (k : ℕ) → k < length stations → MovesPlanned (moves_of (number + k) history)
stand-planned number first history before [] stand k under = absurd (omega (arith, under))
stand-planned number first history before (s ∷ stations) (st, rest) zero under =
    let d = st.desked in
    subst (λ (n : ℕ). MovesPlanned (moves_of n history)) (omega arith)
    (desk-planned true number history d.early d.late (desk_start first) d.middle d.last _ _ d.early_replies d.late_replies d.entered d.at_first d.later)
stand-planned number first history before (s ∷ stations) (st, rest) (suc k) under =
    subst (λ (n : ℕ). MovesPlanned (moves_of n history)) (omega arith) (stand-planned (suc number) first history st.desked.front stations rest k (omega (arith, under)))

-- what stands behind something stands behind nothing
from-start : (number : ℕ) (first : Database) (history before : RegisterHistory) (stations : List Station) → StandInOrder number first history before stations → StandInOrder number first history [] stations
from-start number first history before [] stand = tt
from-start number first history before (s ∷ stations) (st, rest) =
    (record { desked = st.desked; behind = (st.desked.front, refl); unmoved = refl; desk_count = st.desk_count; replies_count = st.replies_count }, rest)

-- as many lanes as desks
ended-count : (news : List Lane) (stations : List Station) → EndAs news stations → length stations ≡ length news
ended-count [] [] ended = refl
ended-count (lane ∷ news) (s ∷ stations) ended = ap suc (ended-count news stations ended.1)
ended-count [] (s ∷ stations) ended = absurd ended
ended-count (lane ∷ news) [] ended = absurd ended

-- ---- the run

module _ {W : Type 0} (stands : W → List Member → Type 0) (watch watched : W) (ended : Result RunEnd RunFault) (first : Database) (history own : RegisterHistory) (legal : IsRegisterHistory first history) (permits : Permits MayEnter history) (is : moves_of 0 history ≡ own) where
  -- a run of a panel
  panel-of : (c : Code) (gravest : DeskEnd) (olds news : List Lane) (before now out_before out_now : ℕ) (l0 l1 w0 w1 : Known) → c ≡ code_by ended gravest → (before_all : RegisterHistory) (all : AllWhole 1 first history before_all olds news) → fold (λ worst lane. with_end worst lane.end) end.Done news ≡ gravest
      → IsOfSeatsBelow (suc (length all.stations)) history → HasOutCause ended out_before out_now → Runs stands ended (begun first watch w0) own before now l0 l1 watched w1
      → LivesAt c first history (object l0 l1 before now) (seen_of olds) (seen_of news) (object w0 w1 out_before out_now)
  unfolding prints-of
  panel-of c gravest olds news before now out_before out_now l0 l1 w0 w1 is_code before_all all worst below cause i = record {
    stations = all.stations;
    have = all.have;
    keep = all.keep;
    lives = record {
      is_history = record {
        legal = legal;
        permitted = permits;
        seats = below;
        plans = planned-of (length all.stations) history permits below
            (λ k under. subst (λ (n : ℕ). MovesPlanned (moves_of n history)) (omega arith) (stand-planned 1 first history before_all all.stations all.stand k under));
      };
      prints = prints-of stands watch watched ended first history own legal permits is before now out_before out_now l0 l1 w0 w1 cause i;
      stand = from-start 1 first history before_all all.stations all.stand;
      is_code = is_code ∙ code-is ended gravest i.feed_failed i.packets i.rest l0 l1 i.is_failed i.ends i.limit
          ∙ ap (λ e. code_of_ending (ending_of (is_out_failed ended) i.feed_failed e i.rest i.packets)) (sym worst ∙ gravest-same end.Done news all.stations all.ended)
          ∙ code-gravest (is_out_failed ended) i.feed_failed all.stations i.rest i.packets;
    };
  }

-- what desks owned and what was seen of their objects as a whole run was opened and at its end, and what was seen of the history
pub record Parts (first : Database) (history : RegisterHistory) : Type 0 where
  pub sides : List DeskSide
  pub end_sides : List DeskSide
  pub seens : List Seen
  pub end_seens : List Seen
  pub before : RegisterHistory
  pub last : RegisterHistory
  pub unmoved : AllByRecursion (λ seat. own_moves seat ≡ []) (map (λ side. side.seat) sides)
  pub new : AllByRecursion (IsNewSide first) sides
  pub ran : Ran 1 (lanes sides seens) (lanes end_sides end_seens) before last
  pub listed : ListFrom 1 history (map (λ side. side.seat) end_sides)
  pub whole : StartsWith history last
  pub same : length sides ≡ length seens
  pub end_same : length end_sides ≡ length end_seens

module _ (first : Database) (history : RegisterHistory) (r : Parts first history) where
  whole-run : AllWhole 1 first history r.before (lanes r.sides r.seens) (lanes r.end_sides r.end_seens)
  whole-run =
      all-whole 1 first history r.before r.ran.now (lanes r.sides r.seens) r.ran.begun (lanes r.end_sides r.end_seens) (starts-more r.ran.now r.last history r.ran.later r.whole)
      (lanes-new first r.sides r.seens r.unmoved r.new) r.ran.begin r.ran.go_on (lanes-own 1 history r.end_sides r.end_seens r.listed)

  module _ {W : Type 0} (stands : W → List Member → Type 0) (watch watched : W) (ended : Result RunEnd RunFault) (own : RegisterHistory) (legal : IsRegisterHistory first history) (permits : Permits MayEnter history) (is : moves_of 0 history ≡ own) where
    -- the run
    pub lives-of : (c : Code) (before now out_before out_now : ℕ) (l0 l1 w0 w1 : Known) → c ≡ code_by ended (gravest r.end_sides) → IsOfSeatsBelow (length r.end_sides + 1) history
        → HasOutCause ended out_before out_now → Runs stands ended (begun first watch w0) own before now l0 l1 watched w1 → LivesAt c first history (object l0 l1 before now) r.seens r.end_seens (object w0 w1 out_before out_now)
    lives-of c before now out_before out_now l0 l1 w0 w1 is_code below cause i =
        let olds = lanes r.sides r.seens in let news = lanes r.end_sides r.end_seens in
        let many : length r.end_sides + 1 ≡ suc (length whole-run.stations) = omega (arith, ended-count news whole-run.stations whole-run.ended, lanes-count r.end_sides r.end_seens r.end_same) in
        subst (λ (l : List Seen). LivesAt c first history (object l0 l1 before now) l r.end_seens (object w0 w1 out_before out_now)) (lanes-seen r.sides r.seens r.same)
        (subst (λ (l : List Seen). LivesAt c first history (object l0 l1 before now) (seen_of olds) l (object w0 w1 out_before out_now)) (lanes-seen r.end_sides r.end_seens r.end_same)
        (panel-of stands watch watched ended first history own legal permits is c (gravest r.end_sides) olds news before now out_before out_now l0 l1 w0 w1 is_code r.before whole-run
        (lanes-ends end.Done r.end_sides r.end_seens r.end_same) (subst (λ (n : ℕ). IsOfSeatsBelow n history) many below) cause i))

-- ---- stations

module _ {S : Type 0} (R : S → S → Type 0) where
  -- what holds of stations whose objects keep so
  pub zip-kept : (seen : S → Seen) (xs ys : List S) → ((s t : S) → Keeps (seen s) (seen t) → R s t) → AllKeep (map seen xs) (map seen ys) → AllZip R xs ys
  zip-kept seen [] [] each keep = tt
  zip-kept seen (x ∷ xs) (y ∷ ys) each keep = (each x y keep.0, zip-kept seen xs ys each keep.1)
  zip-kept seen [] (y ∷ ys) each keep = absurd keep
  zip-kept seen (x ∷ xs) [] each keep = absurd keep

  -- and of those that stay
  pub zip-same : (xs : List S) → ((s : S) → R s s) → AllZip R xs xs
  zip-same [] each = tt
  zip-same (x ∷ xs) each = (each x, zip-same xs each)
