-- Where nothing fails, a call decodes the feed whole.
use Rattle.std.proofs.Common.{◌≡◌, ℕ, List, [], ◌++◌, Option, Some, None, Result, Ok, Err, IfSome, IsOkAnd, IsSomeAnd, inl, inr, refl, ap, ◌∙◌, append-nil, append_assoc, subst}
use Rattle.std.specs.List.{concat}
use Rattle.run_model.specs.declared.code.Code.{Code}
use Rattle.run_model.specs.declared.code.Code.TheVariants as code
use Rattle.mib_model.specs.declared.database.Database.{Database}
use Rattle.mib_model.specs.Packets.{IsCut}
use Rattle.run_model.specs.declared.code.Input.TheVariants as input
use Rattle.mib_model.specs.declared.fault.MibFault.{MibFault}
use Rattle.mib_model.specs.Summaries.{summary}
use Rattle.session.specs.Sources.{Files}
use Rattle.std.specs.Io.KnownBytes.{Appends}
use Rattle.tool_objects.proofs.CalmFacts.{not-failed}
use Rattle.tool_objects.specs.Calm.{IsCalm}
use Rattle.tool_objects.specs.Objects.{ShelfView, SinkView, Took}
use Rattle.decode_session.specs.Run.{Ran, Says, EndsWhole, EndsCut, EndsAtLimit}
use Rattle.tool_objects.specs.Sources.{sound_in}
use Rattle.mibtm_tool.specs.Statement.{BySound, Checked, Decoded, Drilled, RanBy}
use Rattle.mibtm_tool.specs.Tool.{Completes, CompletesCheck, CompletesDrill, PrintsWhole, PrintsCut, PrintsMost}

-- all that was read is all that there was
whole-cut : (octets read left rest : List ℕ) (packets : List (List ℕ)) → octets ≡ read ++ left → left ≡ [] → IsCut read packets rest → IsCut octets packets rest
whole-cut octets read left rest packets whole end cut = rw (whole ∙ ap (λ l. read ++ l) end ∙ append-nil read) cut

-- what a run that ended well has printed
ok-completes : (db : Database) (octets : List ℕ) (left old new : Option (List ℕ)) → Ran EndsWhole db (Some octets) left old new → PrintsWhole db octets old new
ok-completes db octets None old new ran = absurd ran.3
ok-completes db octets (Some left) old new (read, packets, rest, whole, cut, (none, end, few, wrote)) =
    (packets, rw none at (whole-cut octets read left rest packets whole end cut), few, wrote)

cut-completes : (db : Database) (octets : List ℕ) (count : ℕ) (left old new : Option (List ℕ)) → Ran (EndsCut count) db (Some octets) left old new
    → PrintsCut count db octets old new
cut-completes db octets count None old new ran = absurd ran.3
cut-completes db octets count (Some left) old new (read, packets, rest, whole, cut, (size, some, end, few, wrote)) =
    (packets, rest, whole-cut octets read left rest packets whole end cut, size, some, few, wrote)

limit-completes : (db : Database) (octets : List ℕ) (left old new : Option (List ℕ)) → Ran EndsAtLimit db (Some octets) left old new
    → PrintsMost db octets old new
limit-completes db octets None old new ran = absurd ran.3
limit-completes db octets (Some left) old new (read, packets, rest, whole, cut, (none, all, wrote)) =
    (packets, rest ++ left, whole ∙ ap (λ l. l ++ left) cut.whole ∙ append_assoc (concat packets) rest left, cut.each, all, wrote)

-- what is said of the database and the feed that there are
pub told : (holds : Option Files) (read : Files → Result Database MibFault) (files : Files) (db : Database) (P : Database → Type 0) → holds ≡ Some files → read files ≡ Ok db
    → IfSome holds (λ f. IsOkAnd (read f) P) → P db
told None read files db P is read_as said = cc is
told (Some f) read files db P is read_as said = ok (read files) read_as (subst (λ (x : Option Files). IfSome x (λ g. IsOkAnd (read g) P)) is said)
  where
    ok : (r : Result Database MibFault) → r ≡ Ok db → IsOkAnd r P → P db
    ok (Ok other) same s = subst (λ (x : Result Database MibFault). IsOkAnd x P) same s
    ok (Err fault) same s = cc same

pub held : (holds : Option Files) (files : Files) (name octets : List ℕ) (P : List ℕ → Type 0) → holds ≡ Some files → files name ≡ Some octets → IfSome holds (λ f. IsSomeAnd (f name) P) → P octets
held None files name octets P is found said = cc is
held (Some f) files name octets P is found said =
    subst (λ (x : Option (List ℕ)). IsSomeAnd x P) found (subst (λ (x : Option Files). IfSome x (λ g. IsSomeAnd (g name) P)) is said)

-- the tables that there are are the one database that they are told to be
same-tables : (holds : Option Files) (read : Files → Result Database MibFault) (files : Files) (db first : Database) → holds ≡ Some files → read files ≡ Ok db → IfSome holds (λ f. read f ≡ Ok first)
    → first ≡ db
same-tables holds read files db first is read_as said =
    let found : read files ≡ Ok first = subst (λ (x : Option Files). IfSome x (λ f. read f ≡ Ok first)) is said in cc (found, read_as)

module _ {T F O : Type 0} (folder name octets : List ℕ) (files feeds : Files) (db : Database) (tables : ShelfView T) (feed : ShelfView F) (out : SinkView O)
    (is_told : tables.holds tables.before ≡ Some files) (is_read : sound_in files folder ≡ Ok db) (is_held : feed.holds feed.before ≡ Some feeds) (is_found : feeds name ≡ Some octets) where
  ran : (says : Says) → BySound folder tables (λ d. RanBy says d name feed out) → Took out (Ran says db (Some octets) (feed.left feed.now))
  ran says (first, sound, run) =
      let one = same-tables (tables.holds tables.before) (λ f. sound_in f folder) files db first is_told is_read sound.of_tables in
      let whole = held (feed.holds feed.before) feeds name octets (λ o. run.octets ≡ Some o) is_held is_found run.of_feed in
      subst (λ (x : Database × Option (List ℕ)). Took out (Ran says x.0 x.1 (feed.left feed.now))) (λ i. (one i, whole i)) run.ran

  all-decoded : (c : Code) → Decoded c folder name tables feed out → IsCalm (tables.faults tables.before) (tables.faults tables.now) → IsCalm (feed.faults feed.before) (feed.faults feed.now)
      → IsCalm (out.faults out.before) (out.faults out.now) → Completes c db octets out
  all-decoded code.Ok (read, handed, printed) t f o = inl (refl, ok-completes db octets (feed.left feed.now) _ _ (ran EndsWhole printed))
  all-decoded (code.Cut count) (read, handed, printed) t f o = inr (inl (count, refl, cut-completes db octets count (feed.left feed.now) _ _ (ran (EndsCut count) printed)))
  all-decoded code.Limit (read, handed, printed) t f o = inr (inr (inl (refl, limit-completes db octets (feed.left feed.now) _ _ (ran EndsAtLimit printed))))
  all-decoded code.Want said t f o = inr (inr (inr refl))
  all-decoded (code.BadMib fault) (stood, uncalled, same, refused) t f o = absurd (no-refusal refused)
    where
      no-refusal : IfSome (tables.holds tables.before) (λ f. sound_in f folder ≡ Err fault) → ⊥
      no-refusal said = (let bad : sound_in files folder ≡ Err fault = subst (λ (x : Option Files). IfSome x (λ g. sound_in g folder ≡ Err fault)) is_told said in cc (bad, is_read))
  all-decoded (code.NoFile input.Feed) (stood, read, same, missing) t f o = absurd (no-feed missing)
    where
      no-feed : IfSome (tables.holds tables.before) (λ f. IsOkAnd (sound_in f folder) (λ d. IfSome (feed.holds feed.before) (λ g. g name ≡ None))) → ⊥
      no-feed said =
          let here = told (tables.holds tables.before) (λ f. sound_in f folder) files db (λ d. IfSome (feed.holds feed.before) (λ g. g name ≡ None)) is_told is_read said in
          let bad : feeds name ≡ None = subst (λ (x : Option Files). IfSome x (λ g. g name ≡ None)) is_held here in cc (bad, is_found)
  all-decoded code.TablesFault (failed, uncalled, same) t f o = absurd (not-failed _ _ t failed)
  all-decoded code.FeedFault (failed, handed, faulty) t f o = absurd (not-failed _ _ f failed)
  all-decoded code.OutFault (read, failed, printed) t f o = absurd (not-failed _ _ o failed)
  all-decoded (code.Usage misuse) said t f o = absurd said
  all-decoded (code.NoFile input.Desk) said t f o = absurd said
  all-decoded code.DeskFault said t f o = absurd said
  all-decoded code.ReplyFault said t f o = absurd said

pub completes : {T F O : Type 0} (c : Code) (folder name octets : List ℕ) (files feeds : Files) (db : Database) (tables : ShelfView T) (feed : ShelfView F) (out : SinkView O)
    → tables.holds tables.before ≡ Some files → sound_in files folder ≡ Ok db → feed.holds feed.before ≡ Some feeds → feeds name ≡ Some octets
    → Decoded c folder name tables feed out
    → IsCalm (tables.faults tables.before) (tables.faults tables.now) → IsCalm (feed.faults feed.before) (feed.faults feed.now) → IsCalm (out.faults out.before) (out.faults out.now)
    → Completes c db octets out
completes c folder name octets files feeds db tables feed out is_told is_read is_held is_found said t f o =
    all-decoded folder name octets files feeds db tables feed out is_told is_read is_held is_found c said t f o

-- of a check that nothing hinders
pub completes_check : {T O : Type 0} (c : Code) (folder : List ℕ) (files : Files) (db : Database) (tables : ShelfView T) (out : SinkView O)
    → tables.holds tables.before ≡ Some files → sound_in files folder ≡ Ok db → Checked c folder tables out
    → IsCalm (tables.faults tables.before) (tables.faults tables.now) → IsCalm (out.faults out.before) (out.faults out.now)
    → CompletesCheck c db out
completes_check code.Ok folder files db tables out is_told is_read (handed, (first, sound, wrote)) t o =
    inl (refl, subst (λ d. Took out (λ old new. Appends old new (summary d))) (same-tables (tables.holds tables.before) (λ f. sound_in f folder) files db first is_told is_read sound.of_tables) wrote)
completes_check code.Want folder files db tables out is_told is_read said t o = inr refl
completes_check (code.BadMib fault) folder files db tables out is_told is_read (stood, same, refused) t o =
    let bad : sound_in files folder ≡ Err fault = subst (λ (x : Option Files). IfSome x (λ g. sound_in g folder ≡ Err fault)) is_told refused in cc (bad, is_read)
completes_check code.TablesFault folder files db tables out is_told is_read (failed, same) t o = absurd (not-failed _ _ t failed)
completes_check code.OutFault folder files db tables out is_told is_read (failed, wrote) t o = absurd (not-failed _ _ o failed)
completes_check (code.Cut count) folder files db tables out is_told is_read said t o = absurd said
completes_check code.Limit folder files db tables out is_told is_read said t o = absurd said
completes_check (code.Usage misuse) folder files db tables out is_told is_read said t o = absurd said
completes_check (code.NoFile i) folder files db tables out is_told is_read said t o = absurd said
completes_check code.FeedFault folder files db tables out is_told is_read said t o = absurd said
completes_check code.DeskFault folder files db tables out is_told is_read said t o = absurd said
completes_check code.ReplyFault folder files db tables out is_told is_read said t o = absurd said

-- of a drill that nothing hinders
pub completes_drill : {O : Type 0} (c : Code) (seed : ℕ) (out : SinkView O) → Drilled c seed out → IsCalm (out.faults out.before) (out.faults out.now) → CompletesDrill c seed out
completes_drill code.Ok seed out (handed, wrote) o = inl (refl, wrote)
completes_drill code.Want seed out said o = inr refl
completes_drill code.OutFault seed out (failed, wrote) o = absurd (not-failed _ _ o failed)
completes_drill (code.BadMib fault) seed out said o = absurd said
completes_drill code.TablesFault seed out said o = absurd said
completes_drill (code.Cut count) seed out said o = absurd said
completes_drill code.Limit seed out said o = absurd said
completes_drill (code.Usage misuse) seed out said o = absurd said
completes_drill (code.NoFile i) seed out said o = absurd said
completes_drill code.FeedFault seed out said o = absurd said
completes_drill code.DeskFault seed out said o = absurd said
completes_drill code.ReplyFault seed out said o = absurd said
