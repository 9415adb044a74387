-- The rows of each table fit where they are read of a line.
use Rattle.std.proofs.Common.{◌≡◌, ℕ, Bool, true, false, List, [], ◌∷◌, Ok, codes, refl, sym, ap, subst, ◌∙◌, rules, eqb}
use Rattle.std.specs.Prelude.{Result, Err}
use Rattle.mib_model.specs.declared.line_fault.LineFault.{LineFault}
use Rattle.mib_model.specs.Reading.{row_read, in_row}
use Rattle.row_laws.specs.Reads.{ReadFits}
use Rattle.std.specs.List.{list_any}
use Rattle.mib_model.specs.declared.fault.MibCode.TheVariants.{BadCode}
use Rattle.mib_model.specs.declared.kind.Kind.{Kind}
use Rattle.mib_model.specs.declared.kind.Kind.TheVariants as kind
use Rattle.mib_model.specs.declared.rows.Row.{Row}
use Rattle.mib_model.specs.declared.rows.Row.TheVariants as row
use Rattle.mib_model.specs.declared.rows.OcpRow.{OcpRow}
use Rattle.mib_model.specs.Columns.{Column, Must, Cells, cell_of}
use Rattle.mib_model.specs.Forms.{Letter, fault_in, content_of}
use Rattle.mib_model.specs.ColumnRows.{made_by}
use Rattle.mib_model.specs.PacketTables.{pid, pid_row, pid_cells, pic, pic_row, pic_cells, tpcf, tpcf_row, tpcf_cells}
use Rattle.mib_model.specs.LayoutTables.{plf, plf_row, plf_cells, vpd, vpd_row, vpd_cells}
use Rattle.mib_model.specs.TextTables.{cur, cur_row, cur_cells, txf, txf_row, txf_cells, txp, txp_row, txp_cells}
use Rattle.mib_model.specs.CurveTables.{caf, caf_row, caf_cells, cap, cap_row, cap_cells, mcf, mcf_row, mcf_cells, lgf, lgf_row, lgf_cells}
use Rattle.mib_model.specs.ParameterTables.{pcf, pcf_row, pcf_cells, ocf, ocf_row, ocf_cells, ocp, ocp_row, ocp_cells}
use Rattle.mib_model.specs.Fitting.{FitsRow, FitsCells}
use Rattle.mib_model.specs.Lines.{fields, field_at, trimmed}
use Rattle.mib_model.specs.Numbers.{code_of}
use Rattle.mib_model.specs.RowTexts.{row_of, kind_in, has_states, is_of_states, names_states}
use Rattle.row_laws.proofs.FitFacts.{made_into-ok, made_by-fits, DefaultsFit, letter_is, ok_of}
use Rattle.row_laws.proofs.DecimalFacts.{zero_decimal_fits}
use Rattle.mib_model.specs.Attempts.{made_into}
use Rattle.mib_rows.proofs.RowAgainFacts.{IsTable}
use Rattle.mib_rows.proofs.RowFacts.{pcf_IsTable, pid_IsTable, pic_IsTable, tpcf_IsTable, plf_IsTable, vpd_IsTable, cur_IsTable, caf_IsTable, cap_IsTable, txf_IsTable, txp_IsTable, mcf_IsTable, lgf_IsTable, ocf_IsTable, ocp_IsTable}

in_row-ok : (table : Kind) (number : ℕ) (read : Result Row LineFault) (r : Row) → in_row table number read ≡ Ok r → read ≡ Ok r
in_row-ok table number (Ok x) r reads = cc
in_row-ok table number (Err fault) r reads = cc

-- a row that a line can be, and of this table
pub record IsOf (table : Kind) (r : Row) : Type 0 where
  pub fits : FitsRow r
  pub kind : kind_in r ≡ table

-- a letter that is read of the third field is all of it
third_letter : (row : List (List ℕ)) (letter : ℕ) → cell_of (Must 3 (Letter (codes "SHDCE"))) (field_at row 3) ≡ Ok letter → is_of_states letter ≡ has_states row
unfolding cell_of content_of
third_letter row letter reads =
    let octets = trimmed (field_at row 3) in
    let one : octets ≡ letter ∷ [] = letter_is (λ c. list_any (λ one. eqb one c) (codes "SHDCE")) octets letter (ok_of (code_of (codes "SHDCE") octets) letter (fault_in 3 BadCode) reads) in
    ap names_states (sym one)

ocp_states : (states : Bool) (line : List ℕ) (r : OcpRow) → states ≡ has_states (fields line) → made_by (ocp states) (ocp_row states) (fields line) ≡ Ok r
    → FitsCells (ocp (is_of_states r.sort)) (ocp_cells (is_of_states r.sort) r)
ocp_states states line r is reads =
    let made = made_by-fits (ocp states) (ocp_row states) line r (ocp_IsTable states).are (ocp_defaults states) reads in
    let fit : FitsCells (ocp states) (ocp_cells states r) = subst (λ (x : OcpRow). FitsCells (ocp states) (ocp_cells states x)) made.is made.fit in
    let letter : is_of_states r.sort ≡ has_states (fields line) = ap (λ (x : OcpRow). is_of_states x.sort) (sym made.is) ∙ third_letter (fields line) made.values.1.1.0 made.are_read.1.1.0 in
    subst (λ (s : Bool). FitsCells (ocp s) (ocp_cells s r)) (is ∙ sym letter) fit
  where
    ocp_defaults : (states : Bool) → DefaultsFit (ocp states)
    ocp_defaults true = search rules
    ocp_defaults false = search rules

-- a row that is read by the columns of its table fits
module _ {R : Type 0} (table : Kind) (as_row : R → Row) (columns : List Column) (make : Cells columns → R) (cells : R → Cells columns) where
  fits-by : IsTable columns → DefaultsFit columns → ((x : R) → FitsCells columns (cells x) → IsOf table (as_row x)) → ((v : Cells columns) → cells (make v) ≡ v)
      → (line : List ℕ) (r : Row) → made_into as_row (made_by columns make (fields line)) ≡ Ok r → IsOf table r
  fits-by are defaults of back line r reads =
      let q = made_into-ok as_row (made_by columns make (fields line)) r reads in
      let made = made_by-fits columns make line q.0 are.are defaults q.1 in
      let fit : FitsCells columns (cells q.0) = subst (FitsCells columns) (sym (back made.values) ∙ ap cells made.is) made.fit in
      subst (IsOf table) q.2 (of q.0 fit)

pub row-fits : (table : Kind) (line : List ℕ) (r : Row) → row_of table (fields line) ≡ Ok r → IsOf table r
unfolding row_of FitsRow
row-fits kind.Pcf line r reads = fits-by kind.Pcf row.Pcf pcf pcf_row pcf_cells pcf_IsTable (search rules) (λ x fit. record { fits = fit; kind = refl }) (λ v. refl) line r reads
row-fits kind.Pid line r reads = fits-by kind.Pid row.Pid pid pid_row pid_cells pid_IsTable (search rules) (λ x fit. record { fits = fit; kind = refl }) (λ v. refl) line r reads
row-fits kind.Pic line r reads = fits-by kind.Pic row.Pic pic pic_row pic_cells pic_IsTable (search rules) (λ x fit. record { fits = fit; kind = refl }) (λ v. refl) line r reads
row-fits kind.Tpcf line r reads = fits-by kind.Tpcf row.Tpcf tpcf tpcf_row tpcf_cells tpcf_IsTable (search rules) (λ x fit. record { fits = fit; kind = refl }) (λ v. refl) line r reads
row-fits kind.Plf line r reads = fits-by kind.Plf row.Plf plf plf_row plf_cells plf_IsTable (search rules) (λ x fit. record { fits = fit; kind = refl }) (λ v. refl) line r reads
row-fits kind.Vpd line r reads = fits-by kind.Vpd row.Vpd vpd vpd_row vpd_cells vpd_IsTable (search rules) (λ x fit. record { fits = fit; kind = refl }) (λ v. refl) line r reads
row-fits kind.Cur line r reads = fits-by kind.Cur row.Cur cur cur_row cur_cells cur_IsTable (search rules) (λ x fit. record { fits = fit; kind = refl }) (λ v. refl) line r reads
row-fits kind.Caf line r reads = fits-by kind.Caf row.Caf caf caf_row caf_cells caf_IsTable (search rules) (λ x fit. record { fits = fit; kind = refl }) (λ v. refl) line r reads
row-fits kind.Cap line r reads = fits-by kind.Cap row.Cap cap cap_row cap_cells cap_IsTable (search rules) (λ x fit. record { fits = fit; kind = refl }) (λ v. refl) line r reads
row-fits kind.Txf line r reads = fits-by kind.Txf row.Txf txf txf_row txf_cells txf_IsTable (search rules) (λ x fit. record { fits = fit; kind = refl }) (λ v. refl) line r reads
row-fits kind.Txp line r reads = fits-by kind.Txp row.Txp txp txp_row txp_cells txp_IsTable (search rules) (λ x fit. record { fits = fit; kind = refl }) (λ v. refl) line r reads
row-fits kind.Mcf line r reads = fits-by kind.Mcf row.Mcf mcf mcf_row mcf_cells mcf_IsTable (tt, (tt, (zero_decimal_fits, (zero_decimal_fits, (zero_decimal_fits, (zero_decimal_fits, tt)))))) (λ x fit. record { fits = fit; kind = refl }) (λ v. refl) line r reads
row-fits kind.Lgf line r reads = fits-by kind.Lgf row.Lgf lgf lgf_row lgf_cells lgf_IsTable (search rules) (λ x fit. record { fits = fit; kind = refl }) (λ v. refl) line r reads
row-fits kind.Ocf line r reads = fits-by kind.Ocf row.Ocf ocf ocf_row ocf_cells ocf_IsTable (search rules) (λ x fit. record { fits = fit; kind = refl }) (λ v. refl) line r reads
row-fits kind.Ocp line r reads =
    let states = has_states (fields line) in
    let q = made_into-ok row.Ocp (made_by (ocp states) (ocp_row states) (fields line)) r reads in
    subst (IsOf kind.Ocp) q.2 (record { fits = ocp_states states line q.0 refl q.1; kind = refl })

pub read_fits : ReadFits
unfolding row_read
read_fits table line r reads =
    let p = row-fits table line r (in_row-ok table 0 (row_of table (fields line)) r reads) in
    (p.fits, p.kind)
