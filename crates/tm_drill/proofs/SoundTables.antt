-- The tables of a run are sound. Computed, table by table.
use Rattle.std.proofs.Common.{◌≡◌, [], refl}
use Rattle.std.specs.Fmt.{digits}
use Rattle.mib_model.specs.declared.kind.Kind.TheVariants as kind
use Rattle.mib_model.specs.Decimals.{dec_of}
use Rattle.mib_model.specs.Encodings.{type_of, encoding_of}
use Rattle.mib_model.specs.Flaws.{table_flaws}
use Rattle.mib_model.specs.Keys.{same_key}
use Rattle.mib_model.specs.Lines.{trimmed}
use Rattle.mib_model.specs.Soundness.{IsSound, flaws, flaws_of}
use Rattle.mib_model.specs.WholeNumbers.{decimal_whole, whole_number}
use Rattle.tm_drill.specs.Tables.{parameter_name, drill_database}

pcf_sound : flaws_of drill_database kind.Pcf ≡ []
unfolding digits type_of encoding_of table_flaws same_key parameter_name drill_database
pcf_sound = refl

pid_sound : flaws_of drill_database kind.Pid ≡ []
unfolding table_flaws drill_database
pid_sound = refl

plf_sound : flaws_of drill_database kind.Plf ≡ []
unfolding digits table_flaws same_key parameter_name drill_database
plf_sound = refl

caf_sound : flaws_of drill_database kind.Caf ≡ []
unfolding table_flaws same_key drill_database
caf_sound = refl

cap_sound : flaws_of drill_database kind.Cap ≡ []
unfolding trimmed dec_of table_flaws same_key decimal_whole whole_number drill_database
cap_sound = refl

ocf_sound : flaws_of drill_database kind.Ocf ≡ []
unfolding digits table_flaws same_key parameter_name drill_database
ocf_sound = refl

ocp_sound : flaws_of drill_database kind.Ocp ≡ []
unfolding digits table_flaws same_key parameter_name drill_database
ocp_sound = refl

pub tables_are_sound : IsSound drill_database
unfolding flaws table_flaws drill_database
tables_are_sound = rw (pcf_sound, pid_sound, plf_sound, caf_sound, cap_sound, ocf_sound, ocp_sound) refl
