-- A key that is read is one of its table.
use Rattle.std.proofs.Common.{◌≡◌, ◌∙◌, ℕ, ◌+◌, List, [], ◌∷◌, Result, Ok, Err, refl, ap, subst, inl, inr, length, nat_lt}
use Rattle.std.proofs.lemmas.Bool.{cases_Bool}
use Rattle.mib_model.specs.declared.key.Key.{Key}
use Rattle.mib_model.specs.declared.key.Key.TheVariants as key
use Rattle.mib_model.specs.declared.kind.Kind.{Kind}
use Rattle.mib_model.specs.declared.kind.Kind.TheVariants as kind
use Rattle.mib_model.specs.declared.line_fault.LineFault.{LineFault}
use Rattle.mib_model.specs.ColumnRows.{key_by, key_made_by, musts}
use Rattle.mib_model.specs.Columns.{Column, Cells, cell_of}
use Rattle.mib_model.specs.Attempts.{◌>>=◌}
use Rattle.mib_model.specs.Lines.{field_at, fields}
use Rattle.mib_model.specs.Reading.{key_read, in_row}
use Rattle.mib_model.specs.RowTexts.{key_of}
use Rattle.mib_model.specs.PacketTables.{pid_key, pic_key, tpcf_key}
use Rattle.mib_model.specs.LayoutTables.{plf_key, vpd_key}
use Rattle.mib_model.specs.TextTables.{cur_key, txf_key, txp_key}
use Rattle.mib_model.specs.CurveTables.{caf_key, cap_key, mcf_key, lgf_key}
use Rattle.mib_model.specs.ParameterTables.{pcf_key, ocf_key, ocp_key}
use Rattle.mib_tables.specs.Kinds.{kind_of_key}

ok_is : {A E : Type 0} (x y : A) → ◌≡◌ {A = Result A E} (Ok x) (Ok y) → x ≡ y
ok_is x y same = cc same

-- a step that came to its end gave a value to the next
step : {A B : Type 0} (read : Result A LineFault) (next : A → Result B LineFault) (end : B) (P : Type 0) → (read >>= next) ≡ Ok end → ((cell : A) → next cell ≡ Ok end → P) → P
step (Ok cell) next end P is then = then cell is
step (Err fault) next end P is then = absurd (err_is_not_ok fault end is) where
  err_is_not_ok : {B : Type 0} (f : LineFault) (x : B) → ◌≡◌ {A = Result B LineFault} (Err f) (Ok x) → ⊥
  err_is_not_ok f x same = cc same

-- a key that fields make is of a table, where each that they can make is
key-by : (table : Kind) (columns : List Column) (make : Cells columns → Key) (place : ℕ) (row : List (List ℕ)) (k : Key) → ((cells : Cells columns) → kind_of_key (make cells) ≡ table)
    → key_by columns make place row ≡ Ok k → kind_of_key k ≡ table
key-by table [] make place row k each reads = subst (λ x. kind_of_key x ≡ table) (ok_is (make tt) k reads) (each tt)
key-by table (column ∷ columns) make place row k each reads =
    step (cell_of column (field_at row place)) (λ cell. key_by columns (λ cells. make (cell, cells)) (place + 1) row) k (kind_of_key k ≡ table) reads
    (λ cell is. key-by table columns (λ cells. make (cell, cells)) (place + 1) row k (λ cells. each (cell, cells)) is)

key-made : (table : Kind) (columns : List Column) (make : Cells columns → Key) (row : List (List ℕ)) (k : Key) → ((cells : Cells columns) → kind_of_key (make cells) ≡ table)
    → key_made_by columns make row ≡ Ok k → kind_of_key k ≡ table
key-made table columns make row k each reads = elim (cases_Bool (nat_lt (length row) (musts columns))) [
  | inl few ↦ cc (rw few at reads)
  | inr not ↦ key-by table columns make 1 row k each (rw not at reads)
]

made-of-table : (table : Kind) (fields : List (List ℕ)) (k : Key) → key_of table fields ≡ Ok k → kind_of_key k ≡ table
unfolding key_of
made-of-table kind.Pcf fields k reads = key-made kind.Pcf pcf_key (λ (name, end). key.Pcf name) fields k (λ (name, end). refl) reads
made-of-table kind.Pid fields k reads = key-made kind.Pid pid_key (λ (spid, end). key.Pid spid) fields k (λ (spid, end). refl) reads
made-of-table kind.Pic fields k reads = key-made kind.Pic pic_key (λ (service, (subtype, (apid, end))). key.Pic service subtype apid) fields k (λ (service, (subtype, (apid, end))). refl) reads
made-of-table kind.Tpcf fields k reads = key-made kind.Tpcf tpcf_key (λ (spid, end). key.Tpcf spid) fields k (λ (spid, end). refl) reads
made-of-table kind.Plf fields k reads = key-made kind.Plf plf_key (λ (name, (spid, end)). key.Plf name spid) fields k (λ (name, (spid, end)). refl) reads
made-of-table kind.Vpd fields k reads = key-made kind.Vpd vpd_key (λ (tpsd, (place, end)). key.Vpd tpsd place) fields k (λ (tpsd, (place, end)). refl) reads
made-of-table kind.Cur fields k reads = key-made kind.Cur cur_key (λ (pname, (place, end)). key.Cur pname place) fields k (λ (pname, (place, end)). refl) reads
made-of-table kind.Caf fields k reads = key-made kind.Caf caf_key (λ (numbr, end). key.Caf numbr) fields k (λ (numbr, end). refl) reads
made-of-table kind.Cap fields k reads = key-made kind.Cap cap_key (λ (numbr, (xvals, end)). key.Cap numbr xvals) fields k (λ (numbr, (xvals, end)). refl) reads
made-of-table kind.Txf fields k reads = key-made kind.Txf txf_key (λ (numbr, end). key.Txf numbr) fields k (λ (numbr, end). refl) reads
made-of-table kind.Txp fields k reads = key-made kind.Txp txp_key (λ (numbr, (low, end)). key.Txp numbr low) fields k (λ (numbr, (low, end)). refl) reads
made-of-table kind.Mcf fields k reads = key-made kind.Mcf mcf_key (λ (ident, end). key.Mcf ident) fields k (λ (ident, end). refl) reads
made-of-table kind.Lgf fields k reads = key-made kind.Lgf lgf_key (λ (ident, end). key.Lgf ident) fields k (λ (ident, end). refl) reads
made-of-table kind.Ocf fields k reads = key-made kind.Ocf ocf_key (λ (name, end). key.Ocf name) fields k (λ (name, end). refl) reads
made-of-table kind.Ocp fields k reads = key-made kind.Ocp ocp_key (λ (name, (place, end)). key.Ocp name place) fields k (λ (name, (place, end)). refl) reads

pub key-of-table : (table : Kind) (line : List ℕ) (k : Key) → key_read table line ≡ Ok k → kind_of_key k ≡ table
unfolding key_read
key-of-table table line k reads = go (key_of table (fields line)) refl reads where
  go : (read : Result Key LineFault) → key_of table (fields line) ≡ read → in_row table 0 read ≡ Ok k → kind_of_key k ≡ table
  go (Ok made) of is = made-of-table table (fields line) k (of ∙ ap (λ x. Ok x) (ok_is made k is))
  go (Err fault) of is = cc is
