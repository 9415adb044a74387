-- What a desk of a panel did in a whole run.
use Rattle.std.proofs.Common.{◌≡◌, ◌∙◌, ℕ, false, [], ◌∷◌, map, Some, None, refl, sym, ap, subst}
use Rattle.desk.specs.Handling.{moves_at}
use Rattle.desk_lines.specs.ToCome.{reading_start}
use Rattle.histories.specs.History.{StartsWith, calls_of, moves_of}
use Rattle.live_desk.specs.declared.desk_end.DeskEnd.{DeskEnd}
use Rattle.live_desk.specs.DeskEnds.{is_desk_fault, is_reply_fault}
use Rattle.live_desk.specs.Scripts.{DeskedAt, DeskedFrom, EndsEarly}
use Rattle.live_desk.specs.Standing.{Standing}
use Rattle.live_desk.proofs.DeskFacts.{desked-both, desked-early}
use Rattle.live_session.specs.Live.{object}
use Rattle.mib_model.specs.declared.database.Database.{Database}
use Rattle.run_model.specs.Desk.{desk_start}
use Rattle.run_model.specs.DeskRuns.{Calls}
use Rattle.run_model.specs.RegisterHistories.{RegisterHistory}
use Rattle.panel_session.specs.Begun.{Begins}
use Rattle.panel_session.specs.Panel.{Stands, Station}
use Rattle.tm_io.specs.Causes.{RisesWhere}

calls-back : (seat : ℕ) (calls : Calls) → map (λ m. (m.entry, m.reply)) (moves_at seat calls) ≡ calls
calls-back seat [] = refl
calls-back seat (c ∷ cs) = ap (λ l. c ∷ l) (calls-back seat cs)

-- a desk that has read nothing, and whose draft is edition 1
pub record IsNew (first : Database) (s : Standing) : Type 0 where
  pub unread : s.read ≡ reading_start
  pub unused : s.held.own ≡ []
  pub begins : s.held.state ≡ desk_start first

-- a desk of a panel whose objects had these counts of faults
abbrev pub station_of : DeskEnd → Standing → Standing → (ℕ × ℕ) → (ℕ × ℕ) → Station
station_of e old new script replies =
    record { end = e; script = object old.left new.left script.0 script.1; replies = object old.held.written new.held.written replies.0 replies.1 }

module _ (number : ℕ) (first : Database) (history before now : RegisterHistory) (whole : StartsWith history now) where
  -- what it did, by its moves in the history
  stands-from : (e : DeskEnd) (old new : Standing) (script replies : ℕ × ℕ) → moves_of number history ≡ new.held.own → StartsWith now before → moves_of number before ≡ []
      → RisesWhere (is_desk_fault e) script.0 script.1 → RisesWhere (is_reply_fault e) replies.0 replies.1 → (d : DeskedFrom (Some number) e first history old new) × (d.2.front ≡ now)
      → (s : Stands number first history before (station_of e old new script replies)) × (s.desked.front ≡ now)
  stands-from e old new script replies own behind unmoved asked replied (d, is) =
      let calls : calls_of number history ≡ d.0 = ap (λ (ms : RegisterHistory). map (λ m. (m.entry, m.reply)) ms) (own ∙ d.1) ∙ calls-back number d.0 in
      let told = subst (λ (cs : Calls). (x : DeskedAt (Some number) e first cs history old.left new.left old.held.written new.held.written) × (x.front ≡ now)) (sym calls) (d.2, is) in
      (record { desked = told.0; behind = subst (λ (f : RegisterHistory). StartsWith f before) (sym told.1) behind; unmoved = unmoved; desk_count = asked; replies_count = replied }, told.1)

  -- a desk whose script ended before a `go`
  pub stands-early : (e : DeskEnd) (old new : Standing) (script replies : ℕ × ℕ) → IsNew first old → Begins number (Some e) old new before now → moves_of number history ≡ new.held.own
      → RisesWhere (is_desk_fault e) script.0 script.1 → RisesWhere (is_reply_fault e) replies.0 replies.1
      → (s : Stands number first history before (station_of e old new script replies)) × (s.desked.front ≡ now)
  stands-early e old new script replies fresh b own asked replied =
      stands-from e old new script replies own b.behind b.unmoved asked replied
      (desked-early (Some number) e first history now b.seen whole b.no_stamp b.shown old new b.entered fresh.unread fresh.unused fresh.begins b.worked)

  -- a desk that handled its other lines behind a `go`
  pub stands-both : (e : DeskEnd) (old middle new : Standing) (script replies : ℕ × ℕ) → IsNew first old → Begins number None old middle before now → EndsEarly (Some number) false e middle new
      → moves_of number history ≡ new.held.own → RisesWhere (is_desk_fault e) script.0 script.1 → RisesWhere (is_reply_fault e) replies.0 replies.1
      → (s : Stands number first history before (station_of e old new script replies)) × (s.desked.front ≡ now)
  stands-both e old middle new script replies fresh b rest own asked replied =
      stands-from e old new script replies own b.behind b.unmoved asked replied
      (desked-both (Some number) e first history now b.seen whole b.no_stamp b.shown old middle new b.entered fresh.unread fresh.unused fresh.begins b.worked rest)
