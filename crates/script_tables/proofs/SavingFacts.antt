-- What lines make of a draft and of the tables that were saved.
use Rattle.std.proofs.Common.{◌≡◌, ◌∙◌, ℕ, ◌+◌, ◌-◌, ◌<◌, ◌≤◌, Bool, true, false, List, [], ◌∷◌, ◌++◌, length, length-append, nat_le, get_or, Option, Some, None, Result, Ok, Err, refl, sym, ap, subst, arith}
use Rattle.std.proofs.lemmas.Bool.{le-leb, leb-true}
use Rattle.mib_model.specs.declared.database.Database.{Database}
use Rattle.mib_model.specs.Database.{no_rows}
use Rattle.mib_model.specs.declared.fault.MibFault.{MibFault}
use Rattle.mib_model.specs.declared.key.Key.{Key}
use Rattle.mib_model.specs.declared.kind.Kind.{Kind}
use Rattle.run_model.specs.declared.register.Answer.{Answer}
use Rattle.run_model.specs.declared.register.Answer.TheVariants as answer
use Rattle.run_model.specs.declared.register.Entry.{Entry}
use Rattle.run_model.specs.declared.register.Entry.TheVariants as entry
use Rattle.run_model.specs.declared.register.Register.{Register}
use Rattle.run_model.specs.declared.register.Scheduled.{Scheduled}
use Rattle.run_model.specs.declared.reply.Reply.{Reply}
use Rattle.run_model.specs.declared.reply.Reply.TheVariants as reply
use Rattle.mib_model.specs.declared.rows.Row.{Row}
use Rattle.run_model.specs.Desk.{DeskState, Plain, Way, Done, Ask, says}
use Rattle.run_model.specs.DeskLines as Lines
use Rattle.run_model.specs.DeskLines.{Request}
use Rattle.run_model.specs.DeskWays.{way_of, put_way, delete_way, save_way, saved, use_way, use_reply, put_reply}
use Rattle.mib_model.specs.Drafts.{is_held, put_in, rows_of, with_rows, without_key}
use Rattle.mib_model.specs.Keys.{key_in}
use Rattle.mib_model.specs.Plans.{plans}
use Rattle.mib_model.specs.Points.{first_of}
use Rattle.mib_model.specs.Reading.{row_read, key_read}
use Rattle.run_model.specs.Register.{added, after, answer_to, with_activation, with_tables}
use Rattle.mib_model.specs.RowTexts.{kind_in}
use Rattle.mib_model.specs.Soundness.{IsSound, first_flaw}
use Rattle.mib_tables.specs.Kinds.{kind_of_key}
use Rattle.tm_audit.specs.Saved.{Desked, led}
use Rattle.script_tables.proofs.KeyFacts.{key-of-table}
use Rattle.script_tables.specs.Savings.{IsDesked, Makes, Saving, newest}

-- a desk whose line is done with this state
done : (old new : Saving) (request : Request) → ((d : Desked) → IsDesked old d → (given : Option _) × (s : DeskState) × (way_of false d.desk request ≡ Done given s)
    × IsDesked new (record { register = d.register; desk = s })) → Makes request old new
unfolding led
done old new request does d is =
    let (given, s, way, stands) = does d is in
    subst (λ (w : Way). IsDesked new (led d.register w)) (sym way) stands

-- nothing changes
stays : (old : Saving) (request : Request) → ((s : DeskState) → (given : Option _) × (way_of false s request ≡ Done given s)) → Makes request old old
stays old request does = done old old request (λ d is. let (given, way) = does d.desk in (given, d.desk, way, is))

pub stays-bad_row : (old : Saving) (table : Kind) (row : List ℕ) (fault : MibFault) → row_read table row ≡ Err fault → Makes (Lines.Put table row) old old
unfolding way_of
stays-bad_row old table row fault reads = stays old (Lines.Put table row) (λ s. (Some (Plain (reply.BadRow fault.code fault.column)), ap (put_way s table) reads))

pub stays-bad_key : (old : Saving) (table : Kind) (key : List ℕ) (fault : MibFault) → key_read table key ≡ Err fault → Makes (Lines.Delete table key) old old
unfolding way_of
stays-bad_key old table key fault reads = stays old (Lines.Delete table key) (λ s. (Some (Plain (reply.BadRow fault.code fault.column)), ap (delete_way s table) reads))

-- a row is put
pub puts : (old new : Saving) (table : Kind) (line : List ℕ) (row : Row) → row_read table line ≡ Ok row → kind_in row ≡ table
    → new.draft ≡ with_rows old.draft (kind_in row) (put_in row (rows_of old.draft (kind_in row))) → new.saved ≡ old.saved → Makes (Lines.Put table line) old new
unfolding way_of
puts old new table line row reads of draft saved = done old new (Lines.Put table line) (λ d is. (
  Some (Plain (put_reply (is_held (key_in row) (rows_of d.desk.draft table)))),
  record (d.desk) { draft = with_rows d.desk.draft table (put_in row (rows_of d.desk.draft table)) },
  ap (put_way d.desk table) reads,
  record {
    draft = ap (λ (db : Database). with_rows db table (put_in row (rows_of db table))) is.draft
        ∙ (ap (λ (k : Kind). with_rows old.draft k (put_in row (rows_of old.draft k))) (sym of) ∙ sym draft);
    base = is.base ∙ ap (λ (dbs : List Database). newest (record { draft = old.draft; saved = dbs })) (sym saved);
    editions = is.editions ∙ sym saved;
  },
))

held-way : (s : DeskState) (table : Kind) (line : List ℕ) (key : Key) → key_read table line ≡ Ok key → is_held key (rows_of s.draft table) ≡ true
    → way_of false s (Lines.Delete table line) ≡ says (record s { draft = with_rows s.draft table (without_key key (rows_of s.draft table)) }) reply.Deleted
unfolding way_of
held-way s table line key reads held = ap (delete_way s table) reads ∙ rw held refl

none-way : (s : DeskState) (table : Kind) (line : List ℕ) (key : Key) → key_read table line ≡ Ok key → is_held key (rows_of s.draft table) ≡ false
    → way_of false s (Lines.Delete table line) ≡ says s reply.NoRow
unfolding way_of
none-way s table line key reads held = ap (delete_way s table) reads ∙ rw held refl

-- the first row with a key is taken out
pub deletes : (old new : Saving) (table : Kind) (line : List ℕ) (key : Key) → key_read table line ≡ Ok key → is_held key (rows_of old.draft (kind_of_key key)) ≡ true
    → new.draft ≡ with_rows old.draft (kind_of_key key) (without_key key (rows_of old.draft (kind_of_key key))) → new.saved ≡ old.saved → Makes (Lines.Delete table line) old new
deletes old new table line key reads held draft saved =
    let of : kind_of_key key ≡ table = key-of-table table line key reads in
    let there : is_held key (rows_of old.draft table) ≡ true = ap (λ (k : Kind). is_held key (rows_of old.draft k)) (sym of) ∙ held in
    done old new (Lines.Delete table line) (λ d is. (
      Some (Plain reply.Deleted),
      record (d.desk) { draft = with_rows d.desk.draft table (without_key key (rows_of d.desk.draft table)) },
      held-way d.desk table line key reads (ap (λ (db : Database). is_held key (rows_of db table)) is.draft ∙ there),
      record {
        draft = ap (λ (db : Database). with_rows db table (without_key key (rows_of db table))) is.draft
            ∙ (ap (λ (k : Kind). with_rows old.draft k (without_key key (rows_of old.draft k))) (sym of) ∙ sym draft);
        base = is.base ∙ ap (λ (dbs : List Database). newest (record { draft = old.draft; saved = dbs })) (sym saved);
        editions = is.editions ∙ sym saved;
      },
    ))

pub stays-no_row : (old new : Saving) (table : Kind) (line : List ℕ) (key : Key) → key_read table line ≡ Ok key → is_held key (rows_of old.draft (kind_of_key key)) ≡ false
    → new ≡ old → Makes (Lines.Delete table line) old new
stays-no_row old new table line key reads held same =
    let of : kind_of_key key ≡ table = key-of-table table line key reads in
    let none : is_held key (rows_of old.draft table) ≡ false = ap (λ (k : Kind). is_held key (rows_of old.draft k)) (sym of) ∙ held in
    subst (λ (s : Saving). Makes (Lines.Delete table line) old s) (sym same)
    (done old old (Lines.Delete table line) (λ d is. (Some (Plain reply.NoRow), d.desk, none-way d.desk table line key reads (ap (λ (db : Database). is_held key (rows_of db table)) is.draft ∙ none), is)))

-- the draft becomes the newest edition
pub drops : (old new : Saving) → new.draft ≡ newest old → new.saved ≡ old.saved → Makes Lines.Drop old new
unfolding way_of
drops old new draft saved = done old new Lines.Drop (λ d is. (
  Some (Plain reply.Dropped),
  record (d.desk) { draft = d.desk.base },
  refl,
  record {
    draft = is.base ∙ sym draft;
    base = is.base ∙ ap (λ (dbs : List Database). newest (record { draft = old.draft; saved = dbs })) (sym saved);
    editions = is.editions ∙ sym saved;
  },
))

-- ---- saves

at-end : (dbs : List Database) (db d : Database) → get_or (dbs ++ db ∷ []) (length dbs) d ≡ db
at-end [] db d = refl
at-end (x ∷ dbs) db d = at-end dbs db d

pub stays-unsound : (old : Saving) (flaw : MibFault) → first_flaw old.draft ≡ Some flaw → Makes Lines.Save old old
unfolding way_of
stays-unsound old flaw first =
    done old old Lines.Save (λ d is. (Some (Plain (reply.Unsound flaw)), d.desk, ap (save_way false d.desk) (ap first_flaw is.draft ∙ first), is))

way-save : (s : DeskState) → IsSound s.draft → way_of false s Lines.Save ≡ Ask (entry.Add s.draft (plans s.draft)) (saved s)
unfolding way_of
way-save s sound = ap (λ flaws. save_way false s (first_of flaws)) sound

led-add : (r : Register) (s : DeskState) (a : Answer) → added r ≡ a → led r (Ask (entry.Add s.draft (plans s.draft)) (saved s)) ≡ led (with_tables r s.draft a) (saved s a)
unfolding led after answer_to
led-add r s a is = ap (λ (a : Answer). led (with_tables r s.draft a) (saved s a)) is

full-led : (r : Register) (s : DeskState) → 64 ≤ length r.editions → led r (Ask (entry.Add s.draft (plans s.draft)) (saved s)) ≡ record { register = r; desk = s }
unfolding led
full-led r s full = led-add r s answer.FullEditions (rw (le-leb 64 (length r.editions) full) refl)

room-led : (r : Register) (s : DeskState) → length r.editions < 64
    → led r (Ask (entry.Add s.draft (plans s.draft)) (saved s))
    ≡ record { register = record r { editions = r.editions ++ s.draft ∷ [] }; desk = record { draft = s.draft; base = s.draft; edition = length r.editions + 1 } }
unfolding led
room-led r s room = led-add r s (answer.Added (length r.editions + 1)) (rw (not-full (nat_le 64 (length r.editions)) refl) refl) where
  not-full : (b : Bool) → nat_le 64 (length r.editions) ≡ b → nat_le 64 (length r.editions) ≡ false
  not-full true e = absurd (omega (arith, room, leb-true 64 (length r.editions) e))
  not-full false e = e

-- a sound draft is saved, where not all editions stand
pub saves : (old new : Saving) → IsSound old.draft → length old.saved < 64 → new.draft ≡ old.draft → new.saved ≡ old.saved ++ old.draft ∷ [] → Makes Lines.Save old new
saves old new sound room draft saved d is =
    let sound' : IsSound d.desk.draft = subst IsSound (sym is.draft) sound in
    let few : length d.register.editions < 64 = omega (arith, room, ap (λ (dbs : List Database). length dbs) is.editions) in
    subst (λ (e : Desked). IsDesked new e) (sym (ap (led d.register) (way-save d.desk sound') ∙ room-led d.register d.desk few)) record {
      draft = is.draft ∙ sym draft;
      base = is.draft ∙ (sym (last-is old.saved old.draft) ∙ ap (λ (dbs : List Database). newest (record { draft = old.draft; saved = dbs })) (sym saved));
      editions = ap (λ (dbs : List Database). dbs ++ d.desk.draft ∷ []) is.editions ∙ (ap (λ (db : Database). old.saved ++ db ∷ []) is.draft ∙ sym saved);
    } where
      last-is : (dbs : List Database) (db : Database) → newest (record { draft = old.draft; saved = dbs ++ db ∷ [] }) ≡ db
      last-is dbs db =
          let place : length (dbs ++ db ∷ []) - 1 ≡ length dbs = omega (arith, length-append dbs (db ∷ [])) in
          ap (λ (n : ℕ). get_or (dbs ++ db ∷ []) n no_rows) place ∙ at-end dbs db no_rows

pub stays-full : (old new : Saving) → IsSound old.draft → 64 ≤ length old.saved → new ≡ old → Makes Lines.Save old new
stays-full old new sound full same = subst (λ (s : Saving). Makes Lines.Save old s) (sym same) (λ d is.
    let sound' : IsSound d.desk.draft = subst IsSound (sym is.draft) sound in
    let many : 64 ≤ length d.register.editions = omega (arith, full, ap (λ (dbs : List Database). length dbs) is.editions) in
    subst (λ (e : Desked). IsDesked old e) (sym (ap (led d.register) (way-save d.desk sound') ∙ full-led d.register d.desk many)) is)

-- ---- all other lines

stays-used : (old : Saving) (request : Request) (e : ℕ) (activation : Entry) → ((s : DeskState) → way_of false s request ≡ use_way s e activation)
    → ((r : Register) → (after r activation).editions ≡ r.editions) → Makes request old old
unfolding led
stays-used old request e activation way keeps d is =
    subst (λ (w : Way). IsDesked old (led d.register w)) (sym (way d.desk))
    (record { draft = is.draft; base = is.base; editions = keeps d.register ∙ is.editions })

activation-keeps : (r : Register) (stay : List Scheduled) (e : ℕ) (a : Answer) → (with_activation r stay e a).editions ≡ r.editions
activation-keeps r stay e (answer.Stamped n edition tables) = refl
activation-keeps r stay e (answer.Added n) = refl
activation-keeps r stay e answer.FullEditions = refl
activation-keeps r stay e (answer.Stale n) = refl
activation-keeps r stay e (answer.Used n) = refl
activation-keeps r stay e (answer.NoEdition n) = refl
activation-keeps r stay e (answer.Late n) = refl
activation-keeps r stay e (answer.Disorder n) = refl
activation-keeps r stay e answer.FullPending = refl
activation-keeps r stay e (answer.Drawn n tables) = refl

pub stays-use : (old : Saving) (e : ℕ) → Makes (Lines.Use e) old old
unfolding way_of after
stays-use old e = stays-used old (Lines.Use e) e (entry.Use e) (λ s. refl) (λ r. activation-keeps r _ e (answer_to r (entry.Use e)))

pub stays-use_from : (old : Saving) (e k : ℕ) → Makes (Lines.UseFrom e k) old old
unfolding way_of after
stays-use_from old e k = stays-used old (Lines.UseFrom e k) e (entry.UseFrom e k) (λ s. refl) (λ r. activation-keeps r _ e (answer_to r (entry.UseFrom e k)))

pub stays-comment : (old : Saving) → Makes Lines.Comment old old
unfolding way_of
stays-comment old = stays old Lines.Comment (λ s. (None, refl))

pub stays-too_long : (old : Saving) → Makes Lines.TooLong old old
unfolding way_of
stays-too_long old = stays old Lines.TooLong (λ s. (Some (Plain reply.TooLong), refl))

pub stays-bad_line : (old : Saving) → Makes Lines.BadLine old old
unfolding way_of
stays-bad_line old = stays old Lines.BadLine (λ s. (Some (Plain reply.BadLine), refl))

pub stays-bad_table : (old : Saving) → Makes Lines.BadTable old old
unfolding way_of
stays-bad_table old = stays old Lines.BadTable (λ s. (Some (Plain reply.BadTable), refl))

pub stays-go : (old : Saving) → Makes Lines.Go old old
unfolding way_of
stays-go old = stays old Lines.Go (λ s. (Some (Plain reply.Go), refl))
