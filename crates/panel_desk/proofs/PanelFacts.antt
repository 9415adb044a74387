-- What a desk among several does at the register.
use Rattle.std.proofs.Common.{◌≡◌, ◌∙◌, ℕ, ◌+◌, true, List, [], ◌∷◌, ◌++◌, length, Option, Some, Result, Ok, Err, refl, sym, ap, subst, append_assoc, length-append, arith, inl, inr}
use Rattle.std.proofs.lemmas.List.Elements.{filter_map-append}
use Rattle.std.proofs.Math.Seq.{get_or-append_seam}
use Rattle.std.specs.List.{IsAmong}
use Rattle.std.specs.Arc.{arc_value}
use Rattle.histories.specs.History.{move}
use Rattle.mib_model.specs.declared.database.Database.{Database}
use Rattle.run_model.specs.declared.register.Answer.{Answer}
use Rattle.run_model.specs.declared.register.Answer.TheVariants as answer
use Rattle.run_model.specs.declared.register.Entry.{Entry}
use Rattle.run_model.specs.declared.register.Entry.TheVariants as entry
use Rattle.run_model.specs.declared.reply.Reply.{Reply}
use Rattle.run_model.specs.declared.reply.Reply.TheVariants as reply
use Rattle.run_model.specs.Desk.{DeskState, Done, Ask, Plain, Took}
use Rattle.run_model.specs.DeskLines as Spec
use Rattle.run_model.specs.DeskLines.{Request}
use Rattle.run_model.specs.DeskRuns.{Follows, look_of, may_want}
use Rattle.run_model.specs.DeskWays.{looked, took, use_reply, way_of}
use Rattle.run_model.specs.RegisterHistories.{RegisterHistory}
use Rattle.turn_cell.specs.Seats.{own_moves}
use Rattle.edition_register.specs.declared.outcome.UseFault.{UseFault}
use Rattle.edition_register.specs.declared.start.Start.{Start}
use Rattle.edition_register.specs.Seats.{Moves, RegisterSeat, UsesAt, refused_by}
use Rattle.edition_register.specs.Starts.{IsStart}
use Rattle.edition_register.specs.Panels.{IsShown}
use Rattle.edition_register.specs.Shown.{Shows, editions_shown, shown_by}
use Rattle.fold_state.specs.Boards.{Slots, is_made_for}
use Rattle.desk.specs.Drafts.{Drafted, drafted_from, state_by}
use Rattle.desk.specs.Handling.{HandlesAt}
use Rattle.desk.specs.Using.{used_reply}
use Rattle.desk.proofs.HandlingFacts.{handled-one, way-take}
use Rattle.panel_desk.specs.Using.{LooksFor}

-- a look shows its edition
pub shown-last : (number : ℕ) (first : Database) (own : RegisterHistory) (e : ℕ) (tables : Database) → Shows first (own ++ move number (entry.Look e) (answer.Drawn e tables) ∷ []) e tables
shown-last number first own e tables =
    let before = editions_shown first own in
    let parts : editions_shown first (own ++ move number (entry.Look e) (answer.Drawn e tables) ∷ []) ≡ before ++ (e, tables) ∷ [] =
    ap (λ (l : List (ℕ × Database)). (1, first) ∷ l) (filter_map-append (λ m. shown_by m.entry m.reply) own (move number (entry.Look e) (answer.Drawn e tables) ∷ [])) in
    subst (λ (l : List (ℕ × Database)). IsAmong l (e, tables)) (sym parts)
    (length before, (omega (arith, length-append before ((e, tables) ∷ [])), sym (get_or-append_seam before (e, tables) [] (e, tables))))

module _ (number : ℕ) (request : Request) (s : DeskState) where
  -- want of memory behind a look
  pub handled-look : (before after : RegisterHistory) (e : Entry) (a : Answer) → may_want request ≡ true → look_of request ≡ Some e → after ≡ before ++ move number e a ∷ []
      → HandlesAt true number request s before after (Some (Plain reply.Want)) s
  handled-look before after e a may looks grows = record {
    calls = (e, a) ∷ [];
    own = grows;
    is_done = inr record { may = may; entries = (refl, looks); told = refl; kept = refl };
  }

  -- an activation behind a look
  handled-use : (before middle after : RegisterHistory) (edition : ℕ) (tables : Database) (e : Entry) (a : Answer) (told : Reply)
      → way_of true s request ≡ Ask (entry.Look edition) (looked s edition e) → middle ≡ before ++ move number (entry.Look edition) (answer.Drawn edition tables) ∷ []
      → after ≡ middle ++ move number e a ∷ [] → told ≡ use_reply edition a → HandlesAt true number request s before after (Some (Plain told)) s
  handled-use before middle after edition tables e a told is looks uses same = record {
    calls = (entry.Look edition, answer.Drawn edition tables) ∷ (e, a) ∷ [];
    own = uses ∙ ap (λ (l : RegisterHistory). l ++ move number e a ∷ []) looks ∙ append_assoc before (move number (entry.Look edition) (answer.Drawn edition tables) ∷ []) (move number e a ∷ []);
    is_done = inl (subst (λ w. Follows w ((entry.Look edition, answer.Drawn edition tables) ∷ (e, a) ∷ []) (Some (Plain told)) s) (sym is)
        (refl, (refl, (refl, ap (λ r. Some (Plain r)) same, refl))));
  }

module _ {P : Type 0} (number : ℕ) (request : Request) (s : DeskState) (first : Database) (old new : RegisterSeat P) (edition : ℕ) (e : Entry) where
  -- a look that gave no start
  pub looked-none : (told : Reply) → may_want request ≡ true → look_of request ≡ Some (entry.Look edition) → way_of true s request ≡ Ask (entry.Look edition) (looked s edition e)
      → LooksFor number first old new edition (Err told) → HandlesAt true number request s (own_moves old) (own_moves new) (Some (Plain told)) s
  looked-none (reply.NoEdition count) may looks is moves =
      handled-one true number request s (own_moves old) (own_moves new) (entry.Look edition) (answer.NoEdition count) (looked s edition e) (Plain (reply.NoEdition count)) s is moves.own refl
  looked-none reply.Want may looks is moves = handled-look number request s (own_moves old) (own_moves new) (entry.Look edition) (answer.Drawn edition moves.0) may looks moves.1.own
  looked-none other may looks is moves = absurd moves

  module _ {E B : Type 0} where
    -- an edition that was looked at and used
    pub looked-used : (middle : RegisterSeat P) (tables : Database) (start : Option (Start E B)) (given : Result ℕ (UseFault E B)) (told : Reply) → way_of true s request ≡ Ask (entry.Look edition) (looked s edition e)
        → Moves number first old middle (entry.Look edition) (answer.Drawn edition tables) → UsesAt number first middle new e start given → told ≡ used_reply edition given
        → HandlesAt true number request s (own_moves old) (own_moves new) (Some (Plain told)) s
    looked-used middle tables start (Ok from) told is looks uses same =
        handled-use number request s (own_moves old) (own_moves middle) (own_moves new) edition tables e (answer.Used from) told is looks.own uses.own same
    looked-used middle tables start (Err refused) told is looks uses same =
        handled-use number request s (own_moves old) (own_moves middle) (own_moves new) edition tables e (refused_by refused).0 told is looks.own uses.0.own same

-- an activation is one move
pub used-one : {E B P : Type 0} (number : ℕ) (first : Database) (old new : RegisterSeat P) (e : Entry) (start : Option (Start E B)) (given : Result ℕ (UseFault E B)) → UsesAt number first old new e start given
    → length (own_moves new) ≡ length (own_moves old) + 1
used-one number first old new e start (Ok from) uses = ap length uses.own ∙ length-append (own_moves old) (move number e (answer.Used from) ∷ [])
used-one number first old new e start (Err refused) uses = ap length uses.0.own ∙ length-append (own_moves old) (move number e (refused_by refused).0 ∷ [])

-- a look that gave a start
pub looks-start : {P : Type 0} (number : ℕ) (first : Database) (old new : RegisterSeat P) (edition : ℕ) (tables : Database) (start : Start Database Slots) → Moves number first old new (entry.Look edition) (answer.Drawn edition tables)
    → IsStart (λ e. e) is_made_for tables start → LooksFor number first old new edition (Ok start)
looks-start number first old new edition tables start moves is =
    subst (λ (t : Database). Moves number first old new (entry.Look edition) (answer.Drawn edition t) × (is_made_for t start.board ≡ true)) (sym is.0) (moves, is.1)

-- the look before an activation shows what is activated
pub looks-shown : {P : Type 0} (number : ℕ) (first : Database) (old new : RegisterSeat P) (edition : ℕ) (start : Start Database Slots) → LooksFor number first old new edition (Ok start)
    → IsShown (λ e. e) is_made_for first (own_moves new) edition start
looks-shown number first old new edition start looks =
    (subst (λ (l : RegisterHistory). Shows first l edition (arc_value start.handle)) (sym looks.0.own) (shown-last number first (own_moves old) edition (arc_value start.handle)), looks.1)

module _ {P : Type 0} (number : ℕ) (s : DeskState) (first : Database) (old new : RegisterSeat P) (edition : ℕ) (tables : Database) (m : Moves number first old new entry.Newest (answer.Drawn edition tables)) where
  -- a draft of the newest edition
  pub took-handled : (draft : Drafted) → draft ≡ drafted_from tables → HandlesAt true number Spec.Take s (own_moves old) (own_moves new) (Some (Took edition)) (state_by edition draft)
  took-handled draft is =
      handled-one true number Spec.Take s (own_moves old) (own_moves new) entry.Newest (answer.Drawn edition tables) (took s) (Took edition) (state_by edition draft) (way-take s) m.own
      (ap (λ (d : Drafted). Done (Some (Took edition)) (state_by edition d)) (sym is))

  -- want of memory behind the newest edition
  pub took-none : HandlesAt true number Spec.Take s (own_moves old) (own_moves new) (Some (Plain reply.Want)) s
  took-none = handled-look number Spec.Take s (own_moves old) (own_moves new) entry.Newest (answer.Drawn edition tables) refl refl m.own
