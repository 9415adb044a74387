-- What a machine's state, its entries and its replies are in the words of the register. [This profile.]
use Rattle.std.specs.Prelude.{◌≡◌, ◌<◌, ◌==◌, ℕ, Bool, true, false, List, ◌∷◌, map, Option, None, is_some, IfSome, IfOk, ⊤, MatchOption}
use Rattle.std.specs.Arc.{arc_value}
use Rattle.std.specs.List.{list_any}
use Rattle.mib_model.specs.declared.meaning.MadeFor as MadeFor
use Rattle.mib_model.specs.declared.meaning.Rows as Rows
use Rattle.mib_model.specs.declared.plan.Plan.{Plan}
use Rattle.run_model.specs.declared.register.Answer as seen_answer
use Rattle.run_model.specs.declared.register.Answer.TheVariants as answer
use Rattle.run_model.specs.declared.register.Entry as seen_entry
use Rattle.run_model.specs.declared.register.Entry.TheVariants as event
use Rattle.run_model.specs.declared.register.Register.{Register}
use Rattle.mib_model.specs.declared.database.Database.{Database}
use Rattle.run_model.specs.Register.{answer_to, has_edition, tables_of}
use Rattle.edition_register.specs.declared.editions.Editions.{Editions}
use Rattle.edition_register.specs.declared.entry.Entry.{Entry}
use Rattle.edition_register.specs.declared.entry.Entry.TheVariants as entry
use Rattle.edition_register.specs.declared.entry.Reply.{Reply}
use Rattle.edition_register.specs.declared.entry.Reply.TheVariants as reply
use Rattle.edition_register.specs.declared.start.Start.{Start}
use Rattle.edition_register.specs.Bounded.{bounded_after}
use Rattle.edition_register.specs.Starts.{IsStart, pair_of}

-- whether an activation begins with the next packet
abbrev pub begins : Register → Bool
begins s = list_any (λ pair. pair.from == s.next) s.schedule

module _ {E B : Type 0} {rows : Rows.Ghosts E} {boards : MadeFor.Ghosts B} where
  -- the register that a machine's state is
  abbrev pub state_of : Editions E B rows boards → Register
  state_of s = record {
    next = s.next;
    editions = map (λ a. rows.tables (arc_value a)) s.handles.items;
    schedule = record { from = s.from; edition = s.edition } ∷ map pair_of s.waiting.items;
  }

module _ {E B : Type 0} (tables : E → Database) (plans : E → List Plan) where
  -- an entry without what it hands in
  abbrev pub event_of : Entry E B → seen_entry.Entry
  event_of entry.Stamp = event.Stamp
  event_of (entry.Add payload) = event.Add (tables (arc_value payload)) (plans (arc_value payload))
  event_of (entry.AddOn base payload) = event.AddOn base (tables (arc_value payload)) (plans (arc_value payload))
  event_of (entry.Use e start) = event.Use e
  event_of (entry.UseFrom e k start) = event.UseFrom e k
  event_of entry.Newest = event.Newest
  event_of (entry.Look e) = event.Look e

module _ {E B : Type 0} (tables : E → Database) where
  -- a reply without what it hands out or back
  abbrev pub answer_of : Reply E B → seen_answer.Answer
  answer_of (reply.Stamped n e t start) = answer.Stamped n e (tables t.value)
  answer_of (reply.Added e) = answer.Added e
  answer_of (reply.FullEditions payload) = answer.FullEditions
  answer_of (reply.Stale newest payload) = answer.Stale newest
  answer_of (reply.Used k) = answer.Used k
  answer_of (reply.NoEdition count start) = answer.NoEdition count
  answer_of (reply.Late next start) = answer.Late next
  answer_of (reply.Disorder last start) = answer.Disorder last
  answer_of (reply.FullPending start) = answer.FullPending
  answer_of (reply.Drawn e t handle) = answer.Drawn e (tables t.value)

module _ {E B : Type 0} (tables : E → Database) (made_for : Database → B → Bool) where
  -- with an edition that stands comes a start for it, and with no other
  abbrev pub FitsUse : Register → ℕ → Option (Start E B) → Type 0
  FitsUse s e start = MatchOption start (has_edition s e ≡ false) (λ x. (has_edition s e ≡ true) × IsStart tables made_for (tables_of s e) x)

  -- a number is left for a stamp, and a start is handed in with each edition that stands
  abbrev pub Fits : Register → Entry E B → Type 0
  Fits s entry.Stamp = s.next < 18446744073709551615
  Fits s (entry.Use e start) = FitsUse s e start
  Fits s (entry.UseFrom e k start) = FitsUse s e start
  Fits s other = ⊤

module _ {E B : Type 0} where
  -- an activation is taken, or the start that was handed in comes back
  abbrev pub GivesUse : Option (Start E B) → Reply E B → Type 0
  GivesUse start (reply.Used k) = ⊤
  GivesUse start (reply.NoEdition count back) = back ≡ start
  GivesUse start (reply.Late next back) = back ≡ start
  GivesUse start (reply.Disorder last back) = back ≡ start
  GivesUse start (reply.FullPending back) = back ≡ start
  GivesUse start other = ⊥

module _ {E B : Type 0} (tables : E → Database) (made_for : Database → B → Bool) where
  -- a start comes with the packet that begins an activation, a refusal gives back what was handed in, and a handle has its edition's tables
  abbrev pub Gives : Register → Entry E B → Reply E B → Type 0
  Gives s entry.Stamp (reply.Stamped n e t start) = (is_some start ≡ begins s) × IfSome start (λ x. IsStart tables made_for (tables t.value) x)
  Gives s (entry.Add payload) (reply.Added e) = ⊤
  Gives s (entry.Add payload) (reply.FullEditions back) = back ≡ payload
  Gives s (entry.AddOn base payload) (reply.Added e) = ⊤
  Gives s (entry.AddOn base payload) (reply.FullEditions back) = back ≡ payload
  Gives s (entry.AddOn base payload) (reply.Stale newest back) = back ≡ payload
  Gives s (entry.Use e start) given = GivesUse start given
  Gives s (entry.UseFrom e k start) given = GivesUse start given
  Gives s entry.Newest (reply.Drawn e t handle) = IfOk handle (λ a. tables (arc_value a) ≡ tables t.value)
  Gives s (entry.Look e) (reply.Drawn same t handle) = IfOk handle (λ a. tables (arc_value a) ≡ tables t.value)
  Gives s (entry.Look e) (reply.NoEdition count back) = back ≡ None
  Gives s other given = ⊥

module _ {E B : Type 0} (tables : E → Database) (plans : E → List Plan) (made_for : Database → B → Bool) where
  -- a machine does what the bounded register does, and gives what its entry calls for
  pub record Does (s : Register) (e : Entry E B) (given : Reply E B) (t : Register) : Type 0 where
    pub gives : Gives tables made_for s e given
    pub reply : answer_of tables given ≡ answer_to s (event_of tables plans e)
    pub after : t ≡ bounded_after s (event_of tables plans e)
