-- Requests that are handled.
use Rattle.std.proofs.Common.{◌≡◌, ◌∙◌, ℕ, Bool, true, false, List, [], ◌∷◌, ◌++◌, Option, Some, None, option_map, Result, Ok, Err, refl, sym, ap, subst, inl, inr, append-nil, length}
use Rattle.std.specs.Prelude.{if◌then◌else◌}
use Rattle.std.proofs.lemmas.Bool.{false≢true}
use Rattle.histories.specs.History.{move}
use Rattle.mib_model.specs.declared.fault.MibFault.{MibFault}
use Rattle.mib_model.specs.declared.key.Key.{Key}
use Rattle.mib_model.specs.declared.kind.Kind.{Kind}
use Rattle.run_model.specs.declared.register.Answer.{Answer}
use Rattle.run_model.specs.declared.register.Entry.{Entry}
use Rattle.run_model.specs.declared.register.Entry.TheVariants as entry
use Rattle.run_model.specs.declared.reply.Reply.{Reply}
use Rattle.run_model.specs.declared.reply.Reply.TheVariants as reply
use Rattle.mib_model.specs.declared.rows.Row.{Row}
use Rattle.run_model.specs.Desk.{DeskReply, DeskState, Plain, Way, Done, Ask, says}
use Rattle.run_model.specs.DeskLines as Spec
use Rattle.run_model.specs.DeskLines.{Request, request_of}
use Rattle.run_model.specs.DeskRuns.{Calls, Follows, LeavesLook, may_want}
use Rattle.run_model.specs.DeskWays.{way_of, put_way, delete_way, save_entry, save_way, saved, took, use_by}
use Rattle.mib_model.specs.Plans.{plans}
use Rattle.mib_model.specs.Touched.{touched}
use Rattle.run_model.specs.declared.register.Answer.TheVariants as answer
use Rattle.mib_model.specs.Points.{first_of}
use Rattle.mib_model.specs.Reading.{row_read, key_read}
use Rattle.run_model.specs.RegisterHistories.{RegisterHistory}
use Rattle.mib_model.specs.Soundness.{IsSound, first_flaw}
use Rattle.mib_model.specs.declared.database.Database.{Database}
use Rattle.mib_model.specs.Drafts.{is_held, put_in, rows_of, with_rows, without_key}
use Rattle.run_model.specs.DeskWays.{put_reply}
use Rattle.mib_model.specs.Keys.{key_in}
use Rattle.mib_model.specs.RowTexts.{kind_in}
use Rattle.mib_tables.specs.declared.table.Put.{Put}
use Rattle.mib_tables.specs.declared.table.Put.TheVariants as put_row
use Rattle.mib_tables.specs.Kinds.{kind_of_key}
use Rattle.mib_tables.specs.Puts.{put_made}
use Rattle.mib_rows.specs.Answers.{Fails}
use Rattle.mib_rows.specs.declared.read_fault.ReadFault.{ReadFault}
use Rattle.mib_rows.specs.declared.read_fault.ReadFault.TheVariants as faults
use Rattle.row_laws.proofs.RowFitFacts.{read_fits}
use Rattle.desk.specs.Refusals.{refusal_of}
use Rattle.desk.specs.Drafts.{Drafted, drafted_from, state_by}
use Rattle.desk.specs.Handling.{Edits, HandlesAt, HandlesLineAt, IsDone, Ticks, enters, run_of}
use Rattle.desk.specs.Saving.{IsNoEdition}
use Rattle.desk.proofs.KeyFacts.{key-of-table}

-- ---- requests by the entries that they make

-- a request that is done at once
done : (several : Bool) (request : Request) (s : DeskState) (given : Option Reply) (t : DeskState) → way_of several s request ≡ Done (option_map Plain given) t → IsDone several request (run_of [] s [] given t)
done several request s given t is = inl (subst (λ w. Follows w [] (option_map Plain given) t) (sym is) (refl, refl, refl))

-- a request that want of memory refused before any entry
wanted : (several : Bool) (request : Request) (s : DeskState) → may_want request ≡ true → IsDone several request (run_of [] s [] (Some reply.Want) s)
wanted several request s may = inr record { may = may; entries = tt; told = refl; kept = refl }

module _ (several : Bool) (seat : ℕ) (request : Request) (s : DeskState) (before after : RegisterHistory) where
  pub handled-none : (given : Option Reply) (t : DeskState) → after ≡ before → IsDone several request (run_of [] s [] given t) → HandlesAt several seat request s before after (option_map Plain given) t
  handled-none given t same is = record { calls = []; own = same ∙ sym (append-nil before); is_done = is }

  pub handled-one : (e : Entry) (a : Answer) (on : Answer → Way) (given : DeskReply) (t : DeskState)
      → way_of several s request ≡ Ask e on → after ≡ before ++ move seat e a ∷ [] → on a ≡ Done (Some given) t → HandlesAt several seat request s before after (Some given) t
  handled-one e a on given t is grows ends = record {
    calls = (e, a) ∷ [];
    own = grows;
    is_done = inl (subst (λ w. Follows w ((e, a) ∷ []) (Some given) t) (sym is) (refl, subst (λ w. Follows w [] (Some given) t) (sym ends) (refl, refl, refl)));
  }

-- a request that makes no entry
pub handled-edit : (several : Bool) (seat : ℕ) (request : Request) (edition : ℕ) (old new : Drafted) (own : RegisterHistory) (given : Option Reply) → Edits request old given new
    → HandlesAt several seat request (state_by edition old) own own (option_map Plain given) (state_by edition new)
handled-edit several seat request edition old new own given edits = handled-none several seat request (state_by edition old) own own given (state_by edition new) refl (edits several edition)

pub ticks-none : (request : Request) (given : Option DeskReply) (steps : ℕ) → enters request ≡ false → Ticks request given steps steps
ticks-none Spec.Comment given steps none = refl
ticks-none Spec.TooLong given steps none = refl
ticks-none Spec.BadLine given steps none = refl
ticks-none Spec.BadTable given steps none = refl
ticks-none (Spec.Put table row) given steps none = refl
ticks-none (Spec.Delete table key) given steps none = refl
ticks-none Spec.Save given steps none = absurd (false≢true (sym none))
ticks-none Spec.Drop given steps none = refl
ticks-none (Spec.Use edition) given steps none = refl
ticks-none (Spec.UseFrom edition from) given steps none = refl
ticks-none Spec.Take given steps none = refl
ticks-none Spec.Go given steps none = refl

-- what want of memory leaves of a request it leaves of its line
leaves-as : (several : Bool) (request other : Request) (calls : Calls) → request ≡ other → LeavesLook several request calls → LeavesLook several other calls
leaves-as several request other calls is leaves = subst (λ r. LeavesLook several r calls) is leaves

-- a line is handled where its request is
pub handled-line : (several : Bool) (seat : ℕ) (request : Request) (line : List ℕ) (s : DeskState) (before after : RegisterHistory) (given : Option DeskReply) (t : DeskState)
    → request ≡ request_of several line → HandlesAt several seat request s before after given t → HandlesLineAt several seat line s before after given t
handled-line several seat request line s before after given t is h = record {
  calls = h.calls;
  own = h.own;
  is_line = elim h.is_done [
    | inl went ↦ inl (subst (λ r. Follows (way_of several s r) h.calls given t) is went)
    | inr want ↦ inr record { may = ap may_want (sym is) ∙ want.may; entries = leaves-as several request (request_of several line) h.calls is want.entries; told = want.told; kept = want.kept }
  ];
}

-- ---- ways

way-put : (several : Bool) (s : DeskState) (table : Kind) (row : List ℕ) (read : Result Row MibFault) → row_read table row ≡ read → way_of several s (Spec.Put table row) ≡ put_way s table read
unfolding way_of
way-put several s table row read is = ap (put_way s table) is

way-delete : (several : Bool) (s : DeskState) (table : Kind) (key : List ℕ) (read : Result Key MibFault) → key_read table key ≡ read → way_of several s (Spec.Delete table key) ≡ delete_way s table read
unfolding way_of
way-delete several s table key read is = ap (delete_way s table) is

way-drop : (several : Bool) (s : DeskState) → way_of several s Spec.Drop ≡ says (record s { draft = s.base }) reply.Dropped
unfolding way_of
way-drop several s = refl

way-unsound : (several : Bool) (s : DeskState) (flaw : MibFault) → first_flaw s.draft ≡ Some flaw → way_of several s Spec.Save ≡ says s (reply.Unsound flaw)
unfolding way_of
way-unsound several s flaw is = ap (save_way several s) is

way-save : (several : Bool) (s : DeskState) → IsSound s.draft → way_of several s Spec.Save ≡ Ask (save_entry several s) (saved s)
unfolding way_of
way-save several s sound = ap (λ flaws. save_way several s (first_of flaws)) sound

pub way-use : (several : Bool) (s : DeskState) (e : ℕ) → way_of several s (Spec.Use e) ≡ use_by several s e (entry.Use e)
unfolding way_of
way-use several s e = refl

pub way-use_from : (several : Bool) (s : DeskState) (e k : ℕ) → way_of several s (Spec.UseFrom e k) ≡ use_by several s e (entry.UseFrom e k)
unfolding way_of
way-use_from several s e k = refl

pub way-take : (s : DeskState) → way_of true s Spec.Take ≡ Ask entry.Newest (took s)
unfolding way_of
way-take s = refl

-- ---- requests that are done at once

pub edits-comment : (d : Drafted) → Edits Spec.Comment d None d
unfolding way_of
edits-comment d = λ several edition. done several Spec.Comment (state_by edition d) None (state_by edition d) refl

pub edits-too_long : (d : Drafted) → Edits Spec.TooLong d (Some reply.TooLong) d
unfolding way_of
edits-too_long d = λ several edition. done several Spec.TooLong (state_by edition d) (Some reply.TooLong) (state_by edition d) refl

pub edits-bad_line : (d : Drafted) → Edits Spec.BadLine d (Some reply.BadLine) d
unfolding way_of
edits-bad_line d = λ several edition. done several Spec.BadLine (state_by edition d) (Some reply.BadLine) (state_by edition d) refl

pub edits-bad_table : (d : Drafted) → Edits Spec.BadTable d (Some reply.BadTable) d
unfolding way_of
edits-bad_table d = λ several edition. done several Spec.BadTable (state_by edition d) (Some reply.BadTable) (state_by edition d) refl

pub edits-go : (d : Drafted) → Edits Spec.Go d (Some reply.Go) d
unfolding way_of
edits-go d = λ several edition. done several Spec.Go (state_by edition d) (Some reply.Go) (state_by edition d) refl

-- ---- edits of the draft

pub want-edits : (request : Request) (d : Drafted) → may_want request ≡ true → Edits request d (Some reply.Want) d
want-edits request d may = λ several edition. wanted several request (state_by edition d) may

-- a row that isn't read is refused
pub put-refused : (d : Drafted) (table : Kind) (row : List ℕ) (told : ReadFault) → Fails told (row_read table row) → Edits (Spec.Put table row) d (Some (refusal_of told)) d
put-refused d table row (faults.Mib fault) fails = λ several edition.
    done several (Spec.Put table row) (state_by edition d) (Some (reply.BadRow fault.code fault.column)) (state_by edition d) (way-put several (state_by edition d) table row (Err fault) fails)
put-refused d table row faults.Memory fails = want-edits (Spec.Put table row) d refl

-- a key that isn't read is refused
pub delete-refused : (d : Drafted) (table : Kind) (key : List ℕ) (told : ReadFault) → Fails told (key_read table key) → Edits (Spec.Delete table key) d (Some (refusal_of told)) d
delete-refused d table key (faults.Mib fault) fails = λ several edition.
    done several (Spec.Delete table key) (state_by edition d) (Some (reply.BadRow fault.code fault.column)) (state_by edition d) (way-delete several (state_by edition d) table key (Err fault) fails)
delete-refused d table key faults.Memory fails = want-edits (Spec.Delete table key) d refl

-- the reply to what was done with a row
abbrev pub put_reply_of : Put → Reply
put_reply_of put_row.Added = reply.Added
put_reply_of put_row.Replaced = reply.Replaced

-- it is that by whether a row was held
put-told : (made : Put) (held : Bool) → made ≡ put_made held → put_reply_of made ≡ put_reply held
put-told made true is = ap put_reply_of is
put-told made false is = ap put_reply_of is

-- a draft whose base is kept
with-base : (several : Bool) (request : Request) (edition : ℕ) (old new : Drafted) (given : Reply) → new.base ≡ old.base
    → way_of several (state_by edition old) request ≡ says (record (state_by edition old) { draft = new.book }) given → IsDone several request (run_of [] (state_by edition old) [] (Some given) (state_by edition new))
with-base several request edition old new given kept is =
    done several request (state_by edition old) (Some given) (state_by edition new) (is ∙ ap (λ (b : Database). says (record { draft = new.book; base = b; edition = edition }) given) (sym kept))

pub put-edits : (old new : Drafted) (table : Kind) (row : List ℕ) (r : Row) (made : Put) → row_read table row ≡ Ok r
    → new.book ≡ with_rows old.book (kind_in r) (put_in r (rows_of old.book (kind_in r))) → made ≡ put_made (is_held (key_in r) (rows_of old.book (kind_in r))) → new.base ≡ old.base
    → Edits (Spec.Put table row) old (Some (put_reply_of made)) new
put-edits old new table row r made reads grows is kept = λ several edition.
    let s = state_by edition old in
    let of : kind_in r ≡ table = (read_fits table row r reads).1 in
    let told = put-told made (is_held (key_in r) (rows_of old.book (kind_in r))) is in
    with-base several (Spec.Put table row) edition old new (put_reply_of made) kept
    (way-put several s table row (Ok r) reads ∙ ap (λ k. says (record s { draft = with_rows s.draft k (put_in r (rows_of s.draft k)) }) (put_reply (is_held (key_in r) (rows_of s.draft k)))) (sym of)
    ∙ (λ i. says (record s { draft = sym grows i }) (sym told i)))

pub delete-edits : (old new : Drafted) (table : Kind) (line : List ℕ) (key : Key) → key_read table line ≡ Ok key
    → true ≡ is_held key (rows_of old.book (kind_of_key key)) → new.book ≡ with_rows old.book (kind_of_key key) (without_key key (rows_of old.book (kind_of_key key))) → new.base ≡ old.base
    → Edits (Spec.Delete table line) old (Some reply.Deleted) new
delete-edits old new table line key reads held less kept = λ several edition.
    let s = state_by edition old in
    let of : kind_of_key key ≡ table = key-of-table table line key reads in
    let there : is_held key (rows_of old.book table) ≡ true = ap (λ k. is_held key (rows_of old.book k)) (sym of) ∙ sym held in
    with-base several (Spec.Delete table line) edition old new reply.Deleted kept
    (way-delete several s table line (Ok key) reads ∙ rw there (ap (λ k. says (record s { draft = with_rows s.draft k (without_key key (rows_of s.draft k)) }) reply.Deleted) (sym of)
    ∙ ap (λ d. says (record s { draft = d }) reply.Deleted) (sym less)))

pub delete-none : (old : Drafted) (table : Kind) (line : List ℕ) (key : Key) → key_read table line ≡ Ok key → false ≡ is_held key (rows_of old.book (kind_of_key key))
    → Edits (Spec.Delete table line) old (Some reply.NoRow) old
delete-none old table line key reads held = λ several edition.
    let s = state_by edition old in
    let of : kind_of_key key ≡ table = key-of-table table line key reads in
    let gone : is_held key (rows_of old.book table) ≡ false = ap (λ k. is_held key (rows_of old.book k)) (sym of) ∙ sym held in
    done several (Spec.Delete table line) s (Some reply.NoRow) s (way-delete several s table line (Ok key) reads ∙ rw gone refl)

pub drop-edits : (old new : Drafted) → new ≡ drafted_from old.base → Edits Spec.Drop old (Some reply.Dropped) new
drop-edits old new is = λ several edition. subst (λ (d : Drafted). IsDone several Spec.Drop (run_of [] (state_by edition old) [] (Some reply.Dropped) (state_by edition d))) (sym is)
    (done several Spec.Drop (state_by edition old) (Some reply.Dropped) (state_by edition (drafted_from old.base)) (way-drop several (state_by edition old)))

-- ---- saves

module _ (several : Bool) (seat : ℕ) (s : DeskState) where
  pub save-none : (own : RegisterHistory) (given : Reply) → IsNoEdition s.draft given → HandlesAt several seat Spec.Save s own own (Some (Plain given)) s
  save-none own (reply.Unsound flaw) is = handled-none several seat Spec.Save s own own (Some (reply.Unsound flaw)) s refl (done several Spec.Save s (Some (reply.Unsound flaw)) s (way-unsound several s flaw is))
  save-none own reply.Want is = handled-none several seat Spec.Save s own own (Some reply.Want) s refl (wanted several Spec.Save s refl)
  save-none own other is = absurd is

  -- the entry of a draft, by the tables that were added
  save-entry : (payload : Database) → payload ≡ s.draft → (if several then entry.AddOn s.edition payload (plans payload) else entry.Add payload (plans payload)) ≡ save_entry several s
  save-entry payload same = ap (λ db. if several then entry.AddOn s.edition db (plans db) else entry.Add db (plans db)) same

  pub save-added : (before after : RegisterHistory) (payload base : Database) (e plans_made : ℕ) → IsSound s.draft → payload ≡ s.draft → base ≡ s.draft
      → plans_made ≡ length (touched s.base s.draft) → after ≡ before ++ move seat (if several then entry.AddOn s.edition payload (plans payload) else entry.Add payload (plans payload)) (answer.Added e) ∷ []
      → HandlesAt several seat Spec.Save s before after (Some (Plain (reply.Saved e plans_made))) (record { draft = s.draft; base = base; edition = e })
  save-added before after payload base e plans_made sound same based count grows =
      handled-one several seat Spec.Save s before after (save_entry several s) (answer.Added e) (saved s) (Plain (reply.Saved e plans_made)) (record { draft = s.draft; base = base; edition = e })
      (way-save several s sound) (grows ∙ ap (λ x. before ++ move seat x (answer.Added e) ∷ []) (save-entry payload same))
      (λ i. Done (Some (Plain (reply.Saved e (sym count i)))) (record { draft = s.draft; base = sym based i; edition = e }))

  -- the register refused the draft
  pub save-refused : (before after : RegisterHistory) (payload : Database) (a : Answer) (given : DeskReply) → IsSound s.draft → payload ≡ s.draft → saved s a ≡ Done (Some given) s
      → after ≡ before ++ move seat (if several then entry.AddOn s.edition payload (plans payload) else entry.Add payload (plans payload)) a ∷ []
      → HandlesAt several seat Spec.Save s before after (Some given) s
  save-refused before after payload a given sound same told grows =
      handled-one several seat Spec.Save s before after (save_entry several s) a (saved s) given s
      (way-save several s sound) (grows ∙ ap (λ x. before ++ move seat x a ∷ []) (save-entry payload same)) told
