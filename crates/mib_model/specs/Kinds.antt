-- The 15 monitoring tables and their names. [SCOS-2000 Database Import ICD, monitoring tables; the order is this profile's.]
use Rattle.std.specs.Prelude.{ℕ, List, [], ◌∷◌, codes, Option}
use Rattle.std.specs.List.{find}
use Rattle.std.specs.Str.{bytes_eq}
use Rattle.mib_model.specs.declared.kind.Kind.{Kind}
use Rattle.mib_model.specs.declared.kind.Kind.TheVariants as kind

-- the tables in their order
abbrev pub kinds : List Kind
kinds =
    kind.Pcf ∷ kind.Pid ∷ kind.Pic ∷ kind.Tpcf ∷ kind.Plf ∷ kind.Vpd ∷ kind.Cur ∷ kind.Caf ∷
    kind.Cap ∷ kind.Txf ∷ kind.Txp ∷ kind.Mcf ∷ kind.Lgf ∷ kind.Ocf ∷ kind.Ocp ∷ []

-- the name of a table
abbrev pub kind_name : Kind → List ℕ
kind_name kind.Pcf = codes "pcf"
kind_name kind.Pid = codes "pid"
kind_name kind.Pic = codes "pic"
kind_name kind.Tpcf = codes "tpcf"
kind_name kind.Plf = codes "plf"
kind_name kind.Vpd = codes "vpd"
kind_name kind.Cur = codes "cur"
kind_name kind.Caf = codes "caf"
kind_name kind.Cap = codes "cap"
kind_name kind.Txf = codes "txf"
kind_name kind.Txp = codes "txp"
kind_name kind.Mcf = codes "mcf"
kind_name kind.Lgf = codes "lgf"
kind_name kind.Ocf = codes "ocf"
kind_name kind.Ocp = codes "ocp"

-- the table that has a name, if one has it
abbrev pub kind_named : List ℕ → Option Kind
kind_named name = find (λ k. bytes_eq (kind_name k) name) kinds
