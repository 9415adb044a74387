-- A book that is filled table by table is the database that was read.
use Rattle.std.proofs.Common.{◌≡◌, ℕ, List, [], ◌∷◌, Option, Some, None, Result, Ok, Err, IfSome, refl, sym, ap, ◌∙◌, subst, ◌<◌, ◌+◌, drop, get_or}
use Rattle.std.proofs.lemmas.List.{drop_more}
use Rattle.mib_model.specs.declared.database.Database.{Database}
use Rattle.mib_model.specs.declared.fault.MibFault.{MibFault}
use Rattle.mib_model.specs.declared.kind.Kind.{Kind}
use Rattle.mib_model.specs.declared.kind.Kind.TheVariants as kind
use Rattle.mib_model.specs.declared.rows.Row.{Row}
use Rattle.mib_model.specs.Database.{no_rows}
use Rattle.mib_model.specs.DatabaseTexts.{database_read, first_fault, rows_in}
use Rattle.mib_model.specs.TypedRows.{database_by}
use Rattle.mib_model.specs.Drafts.{with_rows}
use Rattle.mib_model.specs.Kinds.{kinds}
use Rattle.mib_model.specs.Reading.{table_of}
use Rattle.session.specs.declared.load_fault.LoadFault.{LoadFault}
use Rattle.session.specs.declared.load_fault.LoadFault.TheVariants as faults
use Rattle.session.specs.Sources.{Files, Fills, Refuses, database_in, read_in, table_text}

-- tables that are read
abbrev pub Reading : Type 0
Reading = Kind → Result (List Row) MibFault

-- a database whose tables, one after the other, were given the rows that were read of them
pub filled : Reading → List Kind → Database → Database
filled read [] db = db
filled read (k ∷ ks) db = filled read ks (with_rows db k (rows_in (read k)))

-- all 15 tables filled are the database that was read
all-filled : (read : Reading) → filled read kinds no_rows ≡ database_by (λ k. rows_in (read k))
unfolding filled
all-filled read = refl

-- the tables that are still to be filled of a database
pub record Left (read : Reading) (ks : List Kind) (db : Database) : Type 0 where
  pub rows : filled read ks db ≡ filled read kinds no_rows
  pub faults : first_fault read ks ≡ first_fault read kinds

pub all-left : (read : Reading) → Left read kinds no_rows
all-left read = record { rows = refl; faults = refl }

-- one table more was filled
pub next-left : (read : Reading) (k : Kind) (ks : List Kind) (db : Database) (rows : List Row) → Left read (k ∷ ks) db → read k ≡ Ok rows → Left read ks (with_rows db k rows)
unfolding filled
next-left read k ks db rows left is = record {
  rows = ap (λ r. filled read ks (with_rows db k (rows_in r))) (sym is) ∙ left.rows;
  faults = ap (λ r. elim r [ Ok rs ↦ first_fault read ks | Err f ↦ Some f ]) (sym is) ∙ left.faults;
}

-- the database of texts
abbrev pub texts_in : (Kind → List ℕ) → Reading
texts_in texts k = table_of k (texts k)

read-whole : (texts : Kind → List ℕ) (db : Database) → Left (texts_in texts) [] db → database_read texts ≡ Ok db
unfolding database_read filled
read-whole texts db left =
    ap (λ o. elim o as (λ x. Result Database MibFault) [ None ↦ Ok (database_by (λ k. rows_in (texts_in texts k))) | Some f ↦ Err f ]) (sym left.faults)
    ∙ ap Ok (sym (left.rows ∙ all-filled (texts_in texts)))

-- the first fault refuses the database
read-refused : (texts : Kind → List ℕ) (k : Kind) (ks : List Kind) (db : Database) (fault : MibFault) → Left (texts_in texts) (k ∷ ks) db → texts_in texts k ≡ Err fault → database_read texts ≡ Err fault
unfolding database_read
read-refused texts k ks db fault left is =
    let first : first_fault (texts_in texts) kinds ≡ Some fault = sym left.faults ∙ ap (λ r. elim r [ Ok rs ↦ first_fault (texts_in texts) ks | Err f ↦ Some f ]) is in
    ap (λ o. elim o as (λ x. Result Database MibFault) [ None ↦ Ok (database_by (λ k. rows_in (texts_in texts k))) | Some f ↦ Err f ]) first

-- the tables from a place on, of which the first was filled
pub filled_at : (read : Reading) (i : ℕ) (old new : Database) → i < 15 → Left read (drop i kinds) old → Fills (get_or kinds i kind.Pcf) (read (get_or kinds i kind.Pcf)) old new → Left read (drop (i + 1) kinds) new
filled_at read i old new within left (rows, is, same) =
    let k : Kind = get_or kinds i kind.Pcf in
    let here : Left read (k ∷ drop (i + 1) kinds) old = subst (λ (ks : List Kind). Left read ks old) (drop_more kinds i kind.Pcf within) left in
    subst (Left read (drop (i + 1) kinds)) (sym same) (next-left read k (drop (i + 1) kinds) old rows here is)

-- all 15 tables were filled
pub loaded : (files : Files) (folder : List ℕ) (i : ℕ) (db : Database) → i ≡ 15 → Left (texts_in (table_text files folder)) (drop i kinds) db → database_in files folder ≡ Ok db
unfolding database_in
loaded files folder i db end left =
    read-whole (table_text files folder) db (subst (λ (n : ℕ). Left (texts_in (table_text files folder)) (drop n kinds) db) end left)

-- the table at a place refuses the database
pub refused_at : (files : Files) (folder : List ℕ) (i : ℕ) (db : Database) (fault : LoadFault) → i < 15 → Left (texts_in (table_text files folder)) (drop i kinds) db
    → Refuses fault (read_in files folder (get_or kinds i kind.Pcf)) → Refuses fault (database_in files folder)
unfolding database_in
refused_at files folder i db (faults.Mib fault) within left refused =
    let k : Kind = get_or kinds i kind.Pcf in
    let here = subst (λ (ks : List Kind). Left (texts_in (table_text files folder)) ks db) (drop_more kinds i kind.Pcf within) left in
    read-refused (table_text files folder) k (drop (i + 1) kinds) db fault here refused
refused_at files folder i db faults.Failed within left refused = tt
refused_at files folder i db faults.Memory within left refused = tt

-- what is said of files that are told is said where they aren't
pub each_of : {A : Type 0} (holds : Option A) (P Q R : A → Type 0) → ((files : A) → P files → Q files → R files) → IfSome holds P → IfSome holds Q → IfSome holds R
each_of None P Q R both p q = tt
each_of (Some files) P Q R both p q = both files p q
