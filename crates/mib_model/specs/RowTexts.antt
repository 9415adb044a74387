-- The rows of all tables: read from the fields of a line, keyed, and written. [SCOS-2000 Database Import ICD; this profile.]
use Rattle.std.specs.Prelude.{ℕ, Bool, false, List, [], ◌∷◌, Result, ◌==◌, ◌||◌}
use Rattle.mib_model.specs.declared.key.Key.{Key}
use Rattle.mib_model.specs.declared.key.Key.TheVariants as key
use Rattle.mib_model.specs.declared.kind.Kind.{Kind}
use Rattle.mib_model.specs.declared.kind.Kind.TheVariants as kind
use Rattle.mib_model.specs.declared.line_fault.LineFault.{LineFault}
use Rattle.mib_model.specs.declared.rows.Row.{Row}
use Rattle.mib_model.specs.declared.rows.Row.TheVariants as row
use Rattle.mib_model.specs.Attempts.{made_into}
use Rattle.mib_model.specs.ColumnRows.{made_by, key_made_by}
use Rattle.mib_model.specs.PacketTables.{pid, pid_row, pid_cells, pid_key, pic, pic_row, pic_cells, pic_key, tpcf, tpcf_row, tpcf_cells, tpcf_key}
use Rattle.mib_model.specs.LayoutTables.{plf, plf_row, plf_cells, plf_key, vpd, vpd_row, vpd_cells, vpd_key}
use Rattle.mib_model.specs.TextTables.{cur, cur_row, cur_cells, cur_key, txf, txf_row, txf_cells, txf_key, txp, txp_row, txp_cells, txp_key}
use Rattle.mib_model.specs.CurveTables.{caf, caf_row, caf_cells, caf_key, cap, cap_row, cap_cells, cap_key, mcf, mcf_row, mcf_cells, mcf_key, lgf, lgf_row, lgf_cells, lgf_key}
use Rattle.mib_model.specs.ParameterTables.{pcf, pcf_row, pcf_cells, pcf_key, ocf, ocf_row, ocf_cells, ocf_key, ocp, ocp_row, ocp_cells, ocp_key}
use Rattle.mib_model.specs.Lines.{field_at, trimmed}
use Rattle.mib_model.specs.Writing.{line_by}

-- whether a letter of OCP_TYPE is that of a check of states
abbrev pub is_of_states : ℕ → Bool
is_of_states letter = (letter == 0x43) || (letter == 0x45)

-- whether the octets of a field are the letter of a check of states
abbrev pub names_states : List ℕ → Bool
names_states (letter ∷ []) = is_of_states letter
names_states other = false

-- whether the bounds of a line are states, by its third field
abbrev pub has_states : List (List ℕ) → Bool
has_states fields = names_states (trimmed (field_at fields 3))

-- the row of a table that the fields of a line are, or the first fault
unfoldable pub row_of : Kind → List (List ℕ) → Result Row LineFault
row_of kind.Pcf fields = made_into row.Pcf (made_by pcf pcf_row fields)
row_of kind.Pid fields = made_into row.Pid (made_by pid pid_row fields)
row_of kind.Pic fields = made_into row.Pic (made_by pic pic_row fields)
row_of kind.Tpcf fields = made_into row.Tpcf (made_by tpcf tpcf_row fields)
row_of kind.Plf fields = made_into row.Plf (made_by plf plf_row fields)
row_of kind.Vpd fields = made_into row.Vpd (made_by vpd vpd_row fields)
row_of kind.Cur fields = made_into row.Cur (made_by cur cur_row fields)
row_of kind.Caf fields = made_into row.Caf (made_by caf caf_row fields)
row_of kind.Cap fields = made_into row.Cap (made_by cap cap_row fields)
row_of kind.Txf fields = made_into row.Txf (made_by txf txf_row fields)
row_of kind.Txp fields = made_into row.Txp (made_by txp txp_row fields)
row_of kind.Mcf fields = made_into row.Mcf (made_by mcf mcf_row fields)
row_of kind.Lgf fields = made_into row.Lgf (made_by lgf lgf_row fields)
row_of kind.Ocf fields = made_into row.Ocf (made_by ocf ocf_row fields)
row_of kind.Ocp fields = made_into row.Ocp (made_by (ocp (has_states fields)) (ocp_row (has_states fields)) fields)

-- the key of a table that these fields are, in the order of its columns, or the first fault
unfoldable pub key_of : Kind → List (List ℕ) → Result Key LineFault
key_of kind.Pcf fields = key_made_by pcf_key (λ (name, end). key.Pcf name) fields
key_of kind.Pid fields = key_made_by pid_key (λ (spid, end). key.Pid spid) fields
key_of kind.Pic fields = key_made_by pic_key (λ (service, (subtype, (apid, end))). key.Pic service subtype apid) fields
key_of kind.Tpcf fields = key_made_by tpcf_key (λ (spid, end). key.Tpcf spid) fields
key_of kind.Plf fields = key_made_by plf_key (λ (name, (spid, end)). key.Plf name spid) fields
key_of kind.Vpd fields = key_made_by vpd_key (λ (tpsd, (place, end)). key.Vpd tpsd place) fields
key_of kind.Cur fields = key_made_by cur_key (λ (pname, (place, end)). key.Cur pname place) fields
key_of kind.Caf fields = key_made_by caf_key (λ (numbr, end). key.Caf numbr) fields
key_of kind.Cap fields = key_made_by cap_key (λ (numbr, (xvals, end)). key.Cap numbr xvals) fields
key_of kind.Txf fields = key_made_by txf_key (λ (numbr, end). key.Txf numbr) fields
key_of kind.Txp fields = key_made_by txp_key (λ (numbr, (low, end)). key.Txp numbr low) fields
key_of kind.Mcf fields = key_made_by mcf_key (λ (ident, end). key.Mcf ident) fields
key_of kind.Lgf fields = key_made_by lgf_key (λ (ident, end). key.Lgf ident) fields
key_of kind.Ocf fields = key_made_by ocf_key (λ (name, end). key.Ocf name) fields
key_of kind.Ocp fields = key_made_by ocp_key (λ (name, (place, end)). key.Ocp name place) fields

-- the line of a row
unfoldable pub line_of : Row → List ℕ
line_of (row.Pcf r) = line_by pcf (pcf_cells r)
line_of (row.Pid r) = line_by pid (pid_cells r)
line_of (row.Pic r) = line_by pic (pic_cells r)
line_of (row.Tpcf r) = line_by tpcf (tpcf_cells r)
line_of (row.Plf r) = line_by plf (plf_cells r)
line_of (row.Vpd r) = line_by vpd (vpd_cells r)
line_of (row.Cur r) = line_by cur (cur_cells r)
line_of (row.Caf r) = line_by caf (caf_cells r)
line_of (row.Cap r) = line_by cap (cap_cells r)
line_of (row.Txf r) = line_by txf (txf_cells r)
line_of (row.Txp r) = line_by txp (txp_cells r)
line_of (row.Mcf r) = line_by mcf (mcf_cells r)
line_of (row.Lgf r) = line_by lgf (lgf_cells r)
line_of (row.Ocf r) = line_by ocf (ocf_cells r)
line_of (row.Ocp r) = line_by (ocp (is_of_states r.sort)) (ocp_cells (is_of_states r.sort) r)

-- the table of a row
abbrev pub kind_in : Row → Kind
kind_in (row.Pcf r) = kind.Pcf
kind_in (row.Pid r) = kind.Pid
kind_in (row.Pic r) = kind.Pic
kind_in (row.Tpcf r) = kind.Tpcf
kind_in (row.Plf r) = kind.Plf
kind_in (row.Vpd r) = kind.Vpd
kind_in (row.Cur r) = kind.Cur
kind_in (row.Caf r) = kind.Caf
kind_in (row.Cap r) = kind.Cap
kind_in (row.Txf r) = kind.Txf
kind_in (row.Txp r) = kind.Txp
kind_in (row.Mcf r) = kind.Mcf
kind_in (row.Lgf r) = kind.Lgf
kind_in (row.Ocf r) = kind.Ocf
kind_in (row.Ocp r) = kind.Ocp
