-- From what was read to what is accepted: a fault ends it.
use Rattle.std.proofs.Common.{◌≡◌, ℕ, List, Option, Some, None, Result, Ok, Err, IfSome, IfOk, IfErr, ap}
use Rattle.folder_tables.specs.declared.folder.Refusal.{Refusal}
use Rattle.folder_tables.specs.declared.folder.Refusal.TheVariants as refusal
use Rattle.folder_tables.specs.Refusals.{Refuses}
use Rattle.mib_model.specs.declared.database.Database.{Database}
use Rattle.mib_model.specs.declared.fault.MibFault.{MibFault}
use Rattle.mib_model.specs.Attempts.{◌>>=◌}
use Rattle.session.specs.Sources.{Files, database_in}
use Rattle.tool_objects.specs.Sources.{if_sound, sound_in}

-- a fault that ends the first step ends all
refuses-first : {A B : Type 0} (r : Refusal) (read : Result A MibFault) (next : A → Result B MibFault) → Refuses r read → Refuses r (read >>= next)
refuses-first (refusal.Mib fault) read next refused = ap (λ r. r >>= next) refused
refuses-first refusal.Failed read next refused = tt
refuses-first refusal.Memory read next refused = tt

pub refused_unread : (holds : Option Files) (folder : List ℕ) (c : Refusal) → IfSome holds (λ files. Refuses c (database_in files folder)) → IfSome holds (λ files. Refuses c (sound_in files folder))
unfolding sound_in
refused_unread None folder c refused = tt
refused_unread (Some files) folder c refused = refuses-first c (database_in files folder) if_sound refused

-- what is said of the second step is said of both, where the first gave its database
second_sound : (P : Result Database MibFault → Type 0) (holds : Option Files) (folder : List ℕ) (db : Database) → IfSome holds (λ files. database_in files folder ≡ Ok db)
    → P (if_sound db) → IfSome holds (λ files. P (sound_in files folder))
unfolding sound_in
second_sound P None folder db read said = tt
second_sound P (Some files) folder db read said = rw read said

-- the answers of the second step
pub told_sound : (holds : Option Files) (folder : List ℕ) (db : Database) (result : Result Database Refusal) → IfSome holds (λ files. database_in files folder ≡ Ok db)
    → IfOk result (λ kept. if_sound db ≡ Ok kept) → IfOk result (λ kept. IfSome holds (λ files. sound_in files folder ≡ Ok kept))
told_sound holds folder db (Ok kept) read told = second_sound (λ r. r ≡ Ok kept) holds folder db read told
told_sound holds folder db (Err c) read told = tt

pub refused_sound : {A : Type 0} (holds : Option Files) (folder : List ℕ) (db : Database) (result : Result A Refusal) → IfSome holds (λ files. database_in files folder ≡ Ok db)
    → IfErr result (λ c. Refuses c (if_sound db)) → IfErr result (λ c. IfSome holds (λ files. Refuses c (sound_in files folder)))
refused_sound holds folder db (Ok kept) read refused = tt
refused_sound holds folder db (Err c) read refused = second_sound (Refuses c) holds folder db read refused
