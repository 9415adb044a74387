-- The key of a row: the key columns of its table. [SCOS-2000 Database Import ICD, keys of the tables.]
use Rattle.std.specs.Prelude.{Bool, false, nat_eq, ◌==◌, ◌&&◌}
use Rattle.std.specs.Option.{option_eq}
use Rattle.std.specs.Str.{bytes_eq}
use Rattle.mib_model.specs.declared.rows.Row.{Row}
use Rattle.mib_model.specs.declared.rows.Row.TheVariants as row
use Rattle.mib_model.specs.declared.key.Key.{Key}
use Rattle.mib_model.specs.declared.key.Key.TheVariants as key

-- the key of a row
abbrev pub key_in : Row → Key
key_in (row.Pcf r) = key.Pcf r.name
key_in (row.Pid r) = key.Pid r.spid
key_in (row.Pic r) = key.Pic r.service r.subtype r.apid
key_in (row.Tpcf r) = key.Tpcf r.spid
key_in (row.Plf r) = key.Plf r.name r.spid
key_in (row.Vpd r) = key.Vpd r.tpsd r.pos
key_in (row.Cur r) = key.Cur r.pname r.pos
key_in (row.Caf r) = key.Caf r.numbr
key_in (row.Cap r) = key.Cap r.numbr r.xvals
key_in (row.Txf r) = key.Txf r.numbr
key_in (row.Txp r) = key.Txp r.numbr r.low
key_in (row.Mcf r) = key.Mcf r.ident
key_in (row.Lgf r) = key.Lgf r.ident
key_in (row.Ocf r) = key.Ocf r.name
key_in (row.Ocp r) = key.Ocp r.name r.pos

-- whether two keys are of one table and equal in each column: numbers by value, names and texts by octets
unfoldable pub same_key : Key → Key → Bool
same_key (key.Pcf x) (key.Pcf y) = bytes_eq x y
same_key (key.Pid x) (key.Pid y) = x == y
same_key (key.Pic x s a) (key.Pic y t b) = (x == y) && (s == t) && option_eq nat_eq a b
same_key (key.Tpcf x) (key.Tpcf y) = x == y
same_key (key.Plf x s) (key.Plf y t) = bytes_eq x y && (s == t)
same_key (key.Vpd x s) (key.Vpd y t) = (x == y) && (s == t)
same_key (key.Cur x s) (key.Cur y t) = bytes_eq x y && (s == t)
same_key (key.Caf x) (key.Caf y) = bytes_eq x y
same_key (key.Cap x s) (key.Cap y t) = bytes_eq x y && bytes_eq s t
same_key (key.Txf x) (key.Txf y) = bytes_eq x y
same_key (key.Txp x s) (key.Txp y t) = bytes_eq x y && bytes_eq s t
same_key (key.Mcf x) (key.Mcf y) = bytes_eq x y
same_key (key.Lgf x) (key.Lgf y) = bytes_eq x y
same_key (key.Ocf x) (key.Ocf y) = bytes_eq x y
same_key (key.Ocp x s) (key.Ocp y t) = bytes_eq x y && (s == t)
same_key x y = false

-- whether a row has a key
abbrev pub has_key : Key → Row → Bool
has_key k r = same_key (key_in r) k
