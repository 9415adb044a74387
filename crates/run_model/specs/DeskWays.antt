-- What a desk does with a request: its way to a reply. [This profile.]
use Rattle.std.specs.Prelude.{ℕ, Bool, length, Option, Some, None, Result, Ok, Err, if◌then◌else◌}
use Rattle.mib_model.specs.declared.fault.MibFault.{MibFault}
use Rattle.mib_model.specs.declared.key.Key.{Key}
use Rattle.mib_model.specs.declared.kind.Kind.{Kind}
use Rattle.run_model.specs.declared.register.Answer.{Answer}
use Rattle.run_model.specs.declared.register.Answer.TheVariants as answer
use Rattle.run_model.specs.declared.register.Entry.{Entry}
use Rattle.run_model.specs.declared.register.Entry.TheVariants as entry
use Rattle.run_model.specs.declared.reply.Reply.{Reply}
use Rattle.run_model.specs.declared.reply.Reply.TheVariants as reply
use Rattle.mib_model.specs.declared.rows.Row.{Row}
use Rattle.run_model.specs.Desk.{Stale, Took, DeskState, Way, Done, Ask, says}
use Rattle.run_model.specs.DeskLines.{Request, Comment, TooLong, BadLine, BadTable, Put, Delete, Save, Drop, Use, UseFrom, Take, Go}
use Rattle.mib_model.specs.Drafts.{rows_of, with_rows, is_held, put_in, without_key}
use Rattle.mib_model.specs.Keys.{key_in}
use Rattle.mib_model.specs.Plans.{plans}
use Rattle.mib_model.specs.Reading.{row_read, key_read}
use Rattle.mib_model.specs.Soundness.{first_flaw}
use Rattle.mib_model.specs.Touched.{touched}

-- ---- put: a row in place of that with its key, or at the end of its table

-- the reply to `put`, by whether a row with the key was held
abbrev pub put_reply : Bool → Reply
put_reply held = if held then reply.Replaced else reply.Added

-- the way of `put`, by the row that was read
abbrev pub put_way : DeskState → Kind → Result Row MibFault → Way
put_way s table (Err f) = says s (reply.BadRow f.code f.column)
put_way s table (Ok r) =
    says (record s { draft = with_rows s.draft table (put_in r (rows_of s.draft table)) })
    (put_reply (is_held (key_in r) (rows_of s.draft table)))

-- ---- del: the first row with the key goes

-- the way of `del`, by the key that was read
abbrev pub delete_way : DeskState → Kind → Result Key MibFault → Way
delete_way s table (Err f) = says s (reply.BadRow f.code f.column)
delete_way s table (Ok key) =
    if is_held key (rows_of s.draft table)
    then says (record s { draft = with_rows s.draft table (without_key key (rows_of s.draft table)) }) reply.Deleted
    else says s reply.NoRow

-- ---- save: a sound draft is added as an edition; one of several desks adds it on its own base

-- the way of `save` by the answer: where the draft was added it is from then on made from that edition
abbrev pub saved : DeskState → Answer → Way
saved s (answer.Added e) = says (record { draft = s.draft; base = s.draft; edition = e }) (reply.Saved e (length (touched s.base s.draft)))
saved s (answer.Stale newest) = Done (Some (Stale newest)) s
saved s other = says s reply.FullEditions

-- the entry of `save`: the draft with its plans
abbrev pub save_entry : Bool → DeskState → Entry
save_entry several s = if several then entry.AddOn s.edition s.draft (plans s.draft) else entry.Add s.draft (plans s.draft)

-- the way of `save`, by the first flaw of the draft
abbrev pub save_way : Bool → DeskState → Option MibFault → Way
save_way several s (Some f) = says s (reply.Unsound f)
save_way several s None = Ask (save_entry several s) (saved s)

-- ---- use: an activation; one of several desks looks at the edition first

-- the reply to `use`, by the answer to the activation
abbrev pub use_reply : ℕ → Answer → Reply
use_reply e (answer.Used k) = reply.Used e k
use_reply e (answer.NoEdition count) = reply.NoEdition count
use_reply e (answer.Late next) = reply.Late next
use_reply e (answer.Disorder last) = reply.Disorder last
use_reply e other = reply.FullPending

-- the way of an activation
abbrev pub use_way : DeskState → ℕ → Entry → Way
use_way s e activation = Ask activation (λ a. says s (use_reply e a))

-- the way of `use` once the edition was looked at
abbrev pub looked : DeskState → ℕ → Entry → Answer → Way
looked s e activation (answer.NoEdition count) = says s (reply.NoEdition count)
looked s e activation other = use_way s e activation

-- the way of `use` at a single desk and at one of several
abbrev pub use_by : Bool → DeskState → ℕ → Entry → Way
use_by several s e activation = if several then Ask (entry.Look e) (looked s e activation) else use_way s e activation

-- ---- take, and all requests

-- the way of `take` by the answer: the draft becomes the newest edition
abbrev pub took : DeskState → Answer → Way
took s (answer.Drawn e tables) = Done (Some (Took e)) (record { draft = tables; base = tables; edition = e })
took s other = Done None s

-- the way of a request
unfoldable pub way_of : Bool → DeskState → Request → Way
way_of several s Comment = Done None s
way_of several s TooLong = says s reply.TooLong
way_of several s BadLine = says s reply.BadLine
way_of several s BadTable = says s reply.BadTable
way_of several s (Put table row) = put_way s table (row_read table row)
way_of several s (Delete table key) = delete_way s table (key_read table key)
way_of several s Save = save_way several s (first_flaw s.draft)
way_of several s Drop = says (record s { draft = s.base }) reply.Dropped
way_of several s (Use e) = use_by several s e (entry.Use e)
way_of several s (UseFrom e k) = use_by several s e (entry.UseFrom e k)
way_of several s Take = Ask entry.Newest (took s)
way_of several s Go = says s reply.Go
