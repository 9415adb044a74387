-- Parameters by their names. [SCOS-2000 Database Import ICD, pcf.]
use Rattle.std.specs.Prelude.{ℕ, Bool, List, Option, Some, None, ◌==◌, if◌then◌else◌}
use Rattle.std.specs.List.{find}
use Rattle.std.specs.Str.{bytes_eq}
use Rattle.mib_model.specs.declared.rows.PcfRow.{PcfRow}
use Rattle.mib_model.specs.declared.shape.Endian.{Endian}
use Rattle.mib_model.specs.declared.shape.Endian.TheVariants as endian
use Rattle.mib_model.specs.Letters.{letter}
use Rattle.mib_model.specs.Encodings.{Encoding, encoding_of}

-- the first parameter of a name
abbrev pub parameter : List PcfRow → List ℕ → Option PcfRow
parameter pcfs name = find (λ row. bytes_eq row.name name) pcfs

-- the nature of a measured parameter: `R`
abbrev pub is_measured_nature : ℕ → Bool
is_measured_nature natur = natur == letter "R"

-- a parameter that is measured
abbrev pub is_measured : PcfRow → Bool
is_measured row = is_measured_nature row.natur

-- the octet order that a letter asks for: `L` is Little
abbrev pub endian_of : ℕ → Endian
endian_of octet = if octet == letter "L" then endian.L else endian.B

-- what the bits of a parameter's values are, if its type is known
abbrev pub parameter_encoding : PcfRow → Option Encoding
parameter_encoding row = encoding_of row.ptc row.pfc (endian_of row.endian)

-- what the bits of a measured parameter's values are; of another parameter there are none
abbrev pub measured_encoding : Option PcfRow → Option Encoding
measured_encoding None = None
measured_encoding (Some row) = if is_measured row then parameter_encoding row else None
