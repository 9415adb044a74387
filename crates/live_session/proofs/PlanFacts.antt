-- Each edition that a history adds has the plans of its tables, where each of its desks went from a state to a state.
use Rattle.std.proofs.Common.{◌≡◌, ℕ, zero, suc, ◌<◌, ◌==◌, Bool, true, false, List, [], ◌∷◌, ◌++◌, map, Option, Some, None, Result, Ok, Err, refl, sym, subst, arith, inl, inr}
use Rattle.std.proofs.lemmas.Bool.{false≢true}
use Rattle.std.proofs.lemmas.Bool.Decides.{nat_tests}
use Rattle.std.proofs.lemmas.List.Elements.{All-from_recursion}
use Rattle.std.specs.Prelude.{MatchOption, if◌then◌else◌}
use Rattle.std.specs.List.{AllByRecursion, flat_map}
use Rattle.histories.specs.History.{IsOfSeatsBelow, Permits, calls_of, move, moves_of}
use Rattle.histories.specs.declared.history.Move.{Move}
use Rattle.mib_model.specs.declared.fault.MibFault.{MibFault}
use Rattle.mib_model.specs.declared.key.Key.{Key}
use Rattle.mib_model.specs.declared.kind.Kind.{Kind}
use Rattle.run_model.specs.declared.register.Answer.{Answer}
use Rattle.run_model.specs.declared.register.Answer.TheVariants as answer
use Rattle.run_model.specs.declared.register.Entry.{Entry}
use Rattle.run_model.specs.declared.register.Entry.TheVariants as entry
use Rattle.mib_model.specs.declared.rows.Row.{Row}
use Rattle.run_model.specs.Desk.{DeskReply, DeskState, Done, Ask}
use Rattle.run_model.specs.DeskLines.{Request, Comment, TooLong, BadLine, BadTable, Put, Delete, Save, Drop, Use, UseFrom, Take, Go, request_of}
use Rattle.run_model.specs.DeskRuns.{Calls, Follows, IsChain, IsDesk, IsLine, LeavesLook, LineRun, look_of}
use Rattle.run_model.specs.DeskWays.{delete_way, looked, put_way, save_entry, save_way, saved, took, use_by, use_way, way_of}
use Rattle.mib_model.specs.Drafts.{is_held, rows_of}
use Rattle.mib_model.specs.Reading.{key_read, row_read}
use Rattle.run_model.specs.RegisterHistories.{AddsItsPlans, HasItsPlans, MayEnter, RegisterHistory}
use Rattle.mib_model.specs.Soundness.{first_flaw}

-- each of these entries that adds an edition names the plans of its tables
abbrev Planned : Calls → Type 0
Planned calls = AllByRecursion (λ c. HasItsPlans c.0) calls

planned-append : (cs ds : Calls) → Planned cs → Planned ds → Planned (cs ++ ds)
planned-append [] ds front rest = rest
planned-append (c ∷ cs) ds front rest = (front.0, planned-append cs ds front.1 rest)

-- ---- the way of a request

module _ (given : Option DeskReply) (new : DeskState) where
  done-plans : (r : Option DeskReply) (s : DeskState) (calls : Calls) → Follows (Done r s) calls given new → Planned calls
  done-plans r s calls gone = subst Planned (sym gone.0) tt

  put-plans : (s : DeskState) (table : Kind) (read : Result Row MibFault) (calls : Calls) → Follows (put_way s table read) calls given new → Planned calls
  put-plans s table (Ok row) calls gone = subst Planned (sym gone.0) tt
  put-plans s table (Err fault) calls gone = subst Planned (sym gone.0) tt

  either-plans : (b : Bool) (r q : Option DeskReply) (s t : DeskState) (calls : Calls) → Follows (if b then Done r s else Done q t) calls given new → Planned calls
  either-plans true r q s t calls gone = subst Planned (sym gone.0) tt
  either-plans false r q s t calls gone = subst Planned (sym gone.0) tt

  delete-plans : (s : DeskState) (table : Kind) (read : Result Key MibFault) (calls : Calls) → Follows (delete_way s table read) calls given new → Planned calls
  delete-plans s table (Ok key) calls gone = either-plans (is_held key (rows_of s.draft table)) _ _ _ _ calls gone
  delete-plans s table (Err fault) calls gone = subst Planned (sym gone.0) tt

  saved-plans : (s : DeskState) (a : Answer) (calls : Calls) → Follows (saved s a) calls given new → Planned calls
  saved-plans s (answer.Added e) calls gone = subst Planned (sym gone.0) tt
  saved-plans s (answer.Stale newest) calls gone = subst Planned (sym gone.0) tt
  saved-plans s other calls gone = subst Planned (sym gone.0) tt

  entry-plans : (several : Bool) (s : DeskState) → HasItsPlans (save_entry several s)
  entry-plans true s = refl
  entry-plans false s = refl

  save-plans : (several : Bool) (s : DeskState) (flaw : Option MibFault) (calls : Calls) → Follows (save_way several s flaw) calls given new → Planned calls
  save-plans several s (Some fault) calls gone = subst Planned (sym gone.0) tt
  save-plans several s None [] gone = absurd gone
  save-plans several s None (call ∷ calls) gone = (subst HasItsPlans (sym gone.0) (entry-plans several s), saved-plans s call.1 calls gone.1)

  took-plans : (s : DeskState) (a : Answer) (calls : Calls) → Follows (took s a) calls given new → Planned calls
  took-plans s (answer.Drawn e tables) calls gone = subst Planned (sym gone.0) tt
  took-plans s other calls gone = subst Planned (sym gone.0) tt

  use-plans : (s : DeskState) (e : ℕ) (activation : Entry) (calls : Calls) → HasItsPlans activation → Follows (use_way s e activation) calls given new → Planned calls
  use-plans s e activation [] has gone = absurd gone
  use-plans s e activation (call ∷ calls) has (is, went) = (subst HasItsPlans (sym is) has, done-plans _ _ calls went)

  looked-plans : (s : DeskState) (e : ℕ) (activation : Entry) (a : Answer) (calls : Calls) → HasItsPlans activation → Follows (looked s e activation a) calls given new → Planned calls
  looked-plans s e activation (answer.NoEdition count) calls has gone = done-plans _ _ calls gone
  looked-plans s e activation other calls has gone = use-plans s e activation calls has gone

  by-plans : (several : Bool) (s : DeskState) (e : ℕ) (activation : Entry) (calls : Calls) → HasItsPlans activation → Follows (use_by several s e activation) calls given new → Planned calls
  by-plans false s e activation calls has gone = use-plans s e activation calls has gone
  by-plans true s e activation [] has gone = absurd gone
  by-plans true s e activation (call ∷ calls) has (is, went) = (subst HasItsPlans (sym is) tt, looked-plans s e activation call.1 calls has went)

  newest-plans : (s : DeskState) (calls : Calls) → Follows (Ask entry.Newest (took s)) calls given new → Planned calls
  newest-plans s [] gone = absurd gone
  newest-plans s (call ∷ calls) gone = (subst HasItsPlans (sym gone.0) tt, took-plans s call.1 calls gone.1)

  way-plans : (several : Bool) (s : DeskState) (request : Request) (calls : Calls) → Follows (way_of several s request) calls given new → Planned calls
  unfolding way_of
  way-plans several s Comment calls gone = subst Planned (sym gone.0) tt
  way-plans several s TooLong calls gone = subst Planned (sym gone.0) tt
  way-plans several s BadLine calls gone = subst Planned (sym gone.0) tt
  way-plans several s BadTable calls gone = subst Planned (sym gone.0) tt
  way-plans several s (Put table row) calls gone = put-plans s table (row_read table row) calls gone
  way-plans several s (Delete table key) calls gone = delete-plans s table (key_read table key) calls gone
  way-plans several s Save calls gone = save-plans several s (first_flaw s.draft) calls gone
  way-plans several s Drop calls gone = subst Planned (sym gone.0) tt
  way-plans several s (Use e) calls gone = by-plans several s e (entry.Use e) calls tt gone
  way-plans several s (UseFrom e k) calls gone = by-plans several s e (entry.UseFrom e k) calls tt gone
  way-plans several s Take calls gone = newest-plans s calls gone
  way-plans several s Go calls gone = subst Planned (sym gone.0) tt

-- ---- lines

look-entry : (request : Request) (e : Entry) → look_of request ≡ Some e → HasItsPlans e
look-entry Take e is = subst (λ (o : Option Entry). MatchOption o (Unit {0}) HasItsPlans) is tt
look-entry (Use k) e is = subst (λ (o : Option Entry). MatchOption o (Unit {0}) HasItsPlans) is tt
look-entry (UseFrom k from) e is = subst (λ (o : Option Entry). MatchOption o (Unit {0}) HasItsPlans) is tt
look-entry other e is = subst (λ (o : Option Entry). MatchOption o (Unit {0}) HasItsPlans) is tt

-- want of memory leaves no entry that adds an edition
look-plans : (several : Bool) (request : Request) (calls : Calls) → LeavesLook several request calls → Planned calls
look-plans several request [] leaves = tt
look-plans several request (call ∷ []) leaves = (look-entry request call.0 leaves.1, tt)
look-plans several request (call ∷ next ∷ calls) leaves = absurd leaves

line-plans : (several : Bool) (run : LineRun) → IsLine several run → Planned run.calls
line-plans several run (inl gone) = way-plans run.reply run.new several run.old (request_of several run.line) run.calls gone
line-plans several run (inr wants) = look-plans several (request_of several run.line) run.calls wants.entries

chain-plans : (several : Bool) (old new : DeskState) (runs : List LineRun) → IsChain several old runs new → Planned (flat_map (λ run. run.calls) runs)
chain-plans several old new [] chain = tt
chain-plans several old new (run ∷ runs) chain =
    planned-append run.calls (flat_map (λ r. r.calls) runs) (line-plans several run chain.1) (chain-plans several run.new new runs chain.2)

desk-plans : (several : Bool) (old new : DeskState) (lines : List (List ℕ)) (calls : Calls) (replies : List DeskReply) → IsDesk several old lines calls replies new → Planned calls
desk-plans several old new lines calls replies d = subst Planned d.in_calls (chain-plans several old new d.runs d.chain)

-- ---- a history

abbrev pub MovesPlanned : RegisterHistory → Type 0
MovesPlanned moves = AllByRecursion (λ m. HasItsPlans m.entry) moves

stamp-planned : (e : Entry) → MayEnter 0 e → HasItsPlans e
stamp-planned entry.Stamp may = tt
stamp-planned (entry.Add tables plans) may = absurd (false≢true may)
stamp-planned (entry.AddOn base tables plans) may = absurd (false≢true may)
stamp-planned (entry.Use e) may = tt
stamp-planned (entry.UseFrom e k) may = tt
stamp-planned entry.Newest may = tt
stamp-planned (entry.Look e) may = tt

head-planned : (b : Bool) (m : Move Entry Answer) (ms : RegisterHistory) → b ≡ true → MovesPlanned (if b then m ∷ ms else ms) → HasItsPlans m.entry
head-planned true m ms is all = all.0
head-planned false m ms is all = absurd (false≢true is)

tail-planned : (b : Bool) (m : Move Entry Answer) (ms : RegisterHistory) → MovesPlanned (if b then m ∷ ms else ms) → MovesPlanned ms
tail-planned true m ms all = all.1
tail-planned false m ms all = all

-- each of so many desks has such moves
abbrev pub DesksPlanned : ℕ → RegisterHistory → Type 0
DesksPlanned desks history = (k : ℕ) → k < desks → MovesPlanned (moves_of (suc k) history)

move-planned : (desks seat : ℕ) (e : Entry) (a : Answer) (ms : RegisterHistory) → MayEnter seat e → seat < suc desks → DesksPlanned desks (move seat e a ∷ ms) → HasItsPlans e
move-planned desks zero e a ms may below all = stamp-planned e may
move-planned desks (suc k) e a ms may below all =
    head-planned (suc k == suc k) (move (suc k) e a) (moves_of (suc k) ms) (grind (arith, nat_tests)) (all k (omega (arith, below)))

-- the desks add all editions
history-planned : (desks : ℕ) (history : RegisterHistory) → Permits MayEnter history → IsOfSeatsBelow (suc desks) history → DesksPlanned desks history → MovesPlanned history
history-planned desks [] permits below all = tt
history-planned desks (m ∷ ms) permits below all = (
  move-planned desks m.seat m.entry m.reply ms permits.0 below.0 all,
  history-planned desks ms permits.1 below.1 (λ k under. tail-planned (m.seat == suc k) m (moves_of (suc k) ms) (all k under)),
)

-- each edition that a history adds has the plans of its tables, where those that each desk adds have
pub planned-of : (desks : ℕ) (history : RegisterHistory) → Permits MayEnter history → IsOfSeatsBelow (suc desks) history → DesksPlanned desks history → AddsItsPlans history
planned-of desks history permits below all = All-from_recursion (λ m. HasItsPlans m.entry) history (history-planned desks history permits below all)

planned-back : (moves : RegisterHistory) → Planned (map (λ m. (m.entry, m.reply)) moves) → MovesPlanned moves
planned-back [] all = tt
planned-back (m ∷ ms) all = (all.0, planned-back ms all.1)

-- the moves of a desk that went from a state to a state and to another
pub desk-planned : (several : Bool) (seat : ℕ) (history : RegisterHistory) (early late : Calls) (first middle last : DeskState) (lines more : List (List ℕ)) (told others : List DeskReply) → calls_of seat history ≡ early ++ late
    → IsDesk several first lines early told middle → IsDesk several middle more late others last → MovesPlanned (moves_of seat history)
desk-planned several seat history early late first middle last lines more told others own front rest =
    planned-back (moves_of seat history)
    (subst Planned (sym own) (planned-append early late (desk-plans several first middle lines early told front) (desk-plans several middle last more late others rest)))

-- and so with one desk
pub plans-of : (history : RegisterHistory) (early late : Calls) (first middle last : DeskState) (lines more : List (List ℕ)) (told others : List DeskReply) → Permits MayEnter history → IsOfSeatsBelow 2 history → calls_of 1 history ≡ early ++ late
    → IsDesk false first lines early told middle → IsDesk false middle more late others last → AddsItsPlans history
plans-of history early late first middle last lines more told others permits below own front rest = planned-of 1 history permits below one where
  one : DesksPlanned 1 history
  one zero under = desk-planned false 1 history early late first middle last lines more told others own front rest
  one (suc k) under = absurd (omega (arith, under))
