-- The draft of a desk, table by table: rows put and taken out by their keys. [This profile.]
use Rattle.std.specs.Prelude.{ℕ, Bool, List, [], ◌∷◌, ◌++◌, map, Option, Some, None, filter_map, position, set, remove, if◌then◌else◌}
use Rattle.std.specs.List.{list_any}
use Rattle.std.specs.Str.{bytes_eq}
use Rattle.mib_model.specs.declared.key.Key.{Key}
use Rattle.mib_model.specs.declared.kind.Kind.{Kind}
use Rattle.mib_model.specs.declared.kind.Kind.TheVariants as kind
use Rattle.mib_model.specs.declared.rows.Row.{Row}
use Rattle.mib_model.specs.declared.rows.Row.TheVariants as row
use Rattle.mib_model.specs.Database.{Database}
use Rattle.mib_model.specs.TypedRows.{as_pcf, as_pid, as_pic, as_tpcf, as_plf, as_vpd, as_cur, as_caf, as_cap, as_txf, as_txp, as_mcf, as_lgf, as_ocf, as_ocp}
use Rattle.mib_model.specs.Keys.{has_key, key_in}
use Rattle.mib_model.specs.Kinds.{kind_name}

-- the rows of a table
unfoldable pub rows_of : Database → Kind → List Row
rows_of db kind.Pcf = map row.Pcf db.pcf
rows_of db kind.Pid = map row.Pid db.pid
rows_of db kind.Pic = map row.Pic db.pic
rows_of db kind.Tpcf = map row.Tpcf db.tpcf
rows_of db kind.Plf = map row.Plf db.plf
rows_of db kind.Vpd = map row.Vpd db.vpd
rows_of db kind.Cur = map row.Cur db.cur
rows_of db kind.Caf = map row.Caf db.caf
rows_of db kind.Cap = map row.Cap db.cap
rows_of db kind.Txf = map row.Txf db.txf
rows_of db kind.Txp = map row.Txp db.txp
rows_of db kind.Mcf = map row.Mcf db.mcf
rows_of db kind.Lgf = map row.Lgf db.lgf
rows_of db kind.Ocf = map row.Ocf db.ocf
rows_of db kind.Ocp = map row.Ocp db.ocp

-- whether a row has a key
abbrev pub is_held : Key → List Row → Bool
is_held key rows = list_any (has_key key) rows

-- a row in the place of the first of some, or behind all where there is none
abbrev pub put_at : Row → List Row → Option ℕ → List Row
put_at r rows None = rows ++ r ∷ []
put_at r rows (Some i) = set rows i r

-- the rows with a row put: in place of the first with its key, else at the end
unfoldable pub put_in : Row → List Row → List Row
put_in r rows = put_at r rows (position (has_key (key_in r)) rows)

-- the rows without the one at a place, if there is a place
abbrev pub taken_at : List Row → Option ℕ → List Row
taken_at rows None = rows
taken_at rows (Some i) = remove rows i

-- the rows without the first that has a key
unfoldable pub without_key : Key → List Row → List Row
without_key key rows = taken_at rows (position (has_key key) rows)

-- whether two tables are the same
abbrev pub same_kind : Kind → Kind → Bool
same_kind x y = bytes_eq (kind_name x) (kind_name y)

-- the rows of a table: those among other rows that are its own, where they are given to it
abbrev pub given_to : {R : Type 0} → Kind → Kind → (Row → Option R) → List Row → List R → List R
given_to own table own_row rows old = if same_kind own table then filter_map own_row rows else old

-- the database with other rows in one table
abbrev pub with_rows : Database → Kind → List Row → Database
with_rows db table rows = record {
  pcf = given_to kind.Pcf table as_pcf rows db.pcf;
  pid = given_to kind.Pid table as_pid rows db.pid;
  pic = given_to kind.Pic table as_pic rows db.pic;
  tpcf = given_to kind.Tpcf table as_tpcf rows db.tpcf;
  plf = given_to kind.Plf table as_plf rows db.plf;
  vpd = given_to kind.Vpd table as_vpd rows db.vpd;
  cur = given_to kind.Cur table as_cur rows db.cur;
  caf = given_to kind.Caf table as_caf rows db.caf;
  cap = given_to kind.Cap table as_cap rows db.cap;
  txf = given_to kind.Txf table as_txf rows db.txf;
  txp = given_to kind.Txp table as_txp rows db.txp;
  mcf = given_to kind.Mcf table as_mcf rows db.mcf;
  lgf = given_to kind.Lgf table as_lgf rows db.lgf;
  ocf = given_to kind.Ocf table as_ocf rows db.ocf;
  ocp = given_to kind.Ocp table as_ocp rows db.ocp;
}
