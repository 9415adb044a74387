-- The table of a key. [SCOS-2000 Database Import ICD, keys of the tables.]
use Rattle.mib_model.specs.declared.key.Key.{Key}
use Rattle.mib_model.specs.declared.key.Key.TheVariants as key
use Rattle.mib_model.specs.declared.kind.Kind.{Kind}
use Rattle.mib_model.specs.declared.kind.Kind.TheVariants as kind

-- the table of a key
abbrev pub kind_of_key : Key → Kind
kind_of_key (key.Pcf name) = kind.Pcf
kind_of_key (key.Pid spid) = kind.Pid
kind_of_key (key.Pic service subtype apid) = kind.Pic
kind_of_key (key.Tpcf spid) = kind.Tpcf
kind_of_key (key.Plf name spid) = kind.Plf
kind_of_key (key.Vpd tpsd pos) = kind.Vpd
kind_of_key (key.Cur pname pos) = kind.Cur
kind_of_key (key.Caf numbr) = kind.Caf
kind_of_key (key.Cap numbr xvals) = kind.Cap
kind_of_key (key.Txf numbr) = kind.Txf
kind_of_key (key.Txp numbr low) = kind.Txp
kind_of_key (key.Mcf ident) = kind.Mcf
kind_of_key (key.Lgf ident) = kind.Lgf
kind_of_key (key.Ocf name) = kind.Ocf
kind_of_key (key.Ocp name pos) = kind.Ocp
