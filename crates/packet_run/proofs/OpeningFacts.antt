-- Stamps, as an edition comes into use.
use Rattle.packet_run.proofs.Common.{[], ℕ, ◌++◌, ◌-◌, ◌∙◌, ◌∷◌, ◌≡◌, AllByRecursion, ap, Database, drop-append_seam, HasItsTables, IsRegisterHistory, last_stamped, length, List, move, register_after, RegisterHistory, slice_index_or, stamped_by, subst, sym, take-append_seam}
use Rattle.edition_register.proofs.RegisterFacts.{editions-of}
use Rattle.mib_model.specs.Database.{no_rows}
use Rattle.run_model.specs.Register.{opening}
use Rattle.run_model.specs.declared.register.Answer.{Answer}
use Rattle.std.proofs.ByRecursion
use Rattle.run_model.specs.declared.register.Answer.TheVariants as answer
use Rattle.run_model.specs.declared.register.Entry.TheVariants as entry

-- the last of moves that have their tables has its tables too
last-has : (editions : List Database) (p : ℕ × Database) (ms : RegisterHistory) → p.1 ≡ slice_index_or editions (p.0 - 1) no_rows
    → AllByRecursion (λ m. HasItsTables editions m.reply) ms
    → (last_stamped p ms).1 ≡ slice_index_or editions ((last_stamped p ms).0 - 1) no_rows
last-has editions p [] has all = has
last-has editions p (m ∷ ms) has all = last-has editions (stamped_by p m.reply) ms (step m.reply all.0) all.1
  where
    step : (a : Answer) → HasItsTables editions a → (stamped_by p a).1 ≡ slice_index_or editions ((stamped_by p a).0 - 1) no_rows
    step (answer.Stamped n e tables) is = is
    step other is = has

first-stands : (first : Database) (before : RegisterHistory) → IsRegisterHistory first before
    → first ≡ slice_index_or (register_after first before).editions 0 no_rows
first-stands first before legal = sym (ap (λ es. slice_index_or es 0 no_rows) (editions-of (opening first) before legal))

-- one edition has the same tables in the stamp before and in this one
pub same-tables : (first : Database) (before own after : RegisterHistory) (n e : ℕ) (shown : Database) → IsRegisterHistory first before
    → after ≡ own ++ move 0 entry.Stamp (answer.Stamped n e shown) ∷ []
    → AllByRecursion (λ m. HasItsTables (register_after first before).editions m.reply) after → e ≡ (last_stamped (1, first) own).0
    → shown ≡ (last_stamped (1, first) own).1
same-tables first before own after n e shown legal grows all is =
    let editions = (register_after first before).editions in let ms = move 0 entry.Stamp (answer.Stamped n e shown) ∷ [] in
    let has : RegisterHistory → Type 0 = AllByRecursion (λ m. HasItsTables editions m.reply) in let whole = subst has grows all in
    let front = subst has (take-append_seam own ms) (ByRecursion.All-take (λ m. HasItsTables editions m.reply) (length own) (own ++ ms) whole) in
    let last = subst has (drop-append_seam own ms) (ByRecursion.All-drop (λ m. HasItsTables editions m.reply) (length own) (own ++ ms) whole) in
    last.0 ∙ ap (λ (k : ℕ). slice_index_or editions (k - 1) no_rows) is ∙ sym (last-has editions (1, first) own (first-stands first before legal) front)
