-- The names of rows in which two databases differ. [This profile.]
use Rattle.std.specs.Prelude.{◌≡◌, ℕ, Bool, false, List, Option, Some, None, filter}
use Rattle.std.specs.List.{list_any}
use Rattle.std.specs.Str.{bytes_eq}
use Rattle.mib_model.specs.declared.rows.CurRow.{CurRow}
use Rattle.mib_model.specs.declared.database.Database.{Database}
use Rattle.param_changes.specs.declared.changed.Changed.{Changed}

-- whether a name is among some
abbrev pub has_name : List (List ℕ) → List ℕ → Bool
has_name names name = list_any (λ n. bytes_eq n name) names

-- whether a curve that a parameter may take has one of these names: that of CURTX, else those of its selections
abbrev pub takes_any : List (List ℕ) → Option (List ℕ) → List CurRow → Bool
takes_any names (Some name) curs = has_name names name
takes_any names None curs = list_any (λ cur. has_name names cur.curve) curs

-- the rows of a name
abbrev pub rows_named : {R : Type 0} → (R → List ℕ) → List ℕ → List R → List R
rows_named name_of name rows = filter (λ row. bytes_eq (name_of row) name) rows

-- names became more names, and each that isn't among these has the same rows in two lists
abbrev pub Notes : {R : Type 0} → (R → List ℕ) → List (List ℕ) → List (List ℕ) → List R → List R → Type 0
Notes name_of before after olds news =
    (name : List ℕ) → has_name after name ≡ false → (has_name before name ≡ false) × (rows_named name_of name olds ≡ rows_named name_of name news)

-- a parameter of a name has the same rows in two databases
pub record AreRowsKept (old new : Database) (name : List ℕ) : Type 0 where
  pub pcf : rows_named (λ row. row.name) name old.pcf ≡ rows_named (λ row. row.name) name new.pcf
  pub cur : rows_named (λ row. row.pname) name old.cur ≡ rows_named (λ row. row.pname) name new.cur
  pub ocf : rows_named (λ row. row.name) name old.ocf ≡ rows_named (λ row. row.name) name new.ocf
  pub ocp : rows_named (λ row. row.name) name old.ocp ≡ rows_named (λ row. row.name) name new.ocp

-- curves of a name have the same rows in two databases
pub record AreCurvesKept (old new : Database) (name : List ℕ) : Type 0 where
  pub caf : rows_named (λ row. row.numbr) name old.caf ≡ rows_named (λ row. row.numbr) name new.caf
  pub cap : rows_named (λ row. row.numbr) name old.cap ≡ rows_named (λ row. row.numbr) name new.cap
  pub txf : rows_named (λ row. row.numbr) name old.txf ≡ rows_named (λ row. row.numbr) name new.txf
  pub txp : rows_named (λ row. row.numbr) name old.txp ≡ rows_named (λ row. row.numbr) name new.txp
  pub mcf : rows_named (λ row. row.ident) name old.mcf ≡ rows_named (λ row. row.ident) name new.mcf
  pub lgf : rows_named (λ row. row.ident) name old.lgf ≡ rows_named (λ row. row.ident) name new.lgf

-- each name that has other rows in one database than in another is among those that changed
pub record AreChanged (changed : Changed) (old new : Database) : Type 0 where
  pub parameters : (name : List ℕ) → has_name changed.parameters.items name ≡ false → AreRowsKept old new name
  pub curves : (name : List ℕ) → has_name changed.curves.items name ≡ false → AreCurvesKept old new name
