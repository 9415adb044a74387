-- The tables of a generated run. [SCOS-2000 Database Import ICD, the columns of each table; the rows are this profile's.]
use Rattle.std.specs.Prelude.{ℕ, ◌+◌, ◌/◌, ◌%◌, ◌==◌, List, [], ◌∷◌, ◌++◌, map, codes, decimal, Some, None, if◌then◌else◌, pos, negsuc}
use Rattle.std.specs.List.{range_with_len}
use Rattle.mib_model.specs.declared.database.Database.{Database}
use Rattle.mib_model.specs.declared.number.Dec.{Dec}
use Rattle.mib_model.specs.declared.rows.Bound.TheVariants as bound
use Rattle.mib_model.specs.declared.rows.CafRow.{CafRow}
use Rattle.mib_model.specs.declared.rows.CapRow.{CapRow}
use Rattle.mib_model.specs.declared.rows.OcfRow.{OcfRow}
use Rattle.mib_model.specs.declared.rows.OcpRow.{OcpRow}
use Rattle.mib_model.specs.declared.rows.PcfRow.{PcfRow}
use Rattle.mib_model.specs.declared.rows.PidRow.{PidRow}
use Rattle.mib_model.specs.declared.rows.PlfRow.{PlfRow}
use Rattle.mib_model.specs.Database.{no_rows}
use Rattle.mib_model.specs.Letters.{letter}
use Rattle.tm_drill.specs.declared.tables.TheConstants.{PARAMETERS, KINDS}

-- the name of a parameter: D and its number
unfoldable pub parameter_name : ℕ → List ℕ
parameter_name number = codes "D" ++ decimal number

-- the name of the curve
abbrev pub curve_name : List ℕ
curve_name = codes "CV"

-- a decimal of one digit and an exponent
abbrev pub decimal_by : ℕ → ℕ → Dec
decimal_by digit exponent = record { m = pos digit; e = pos exponent }

-- a parameter: 16 bits without a sign, calibrated by the curve where its number is even
abbrev pub parameter : ℕ → PcfRow
parameter number = record {
  name = parameter_name number;
  pid = None;
  ptc = 3;
  pfc = 12;
  width = 0;
  valid = None;
  categ = letter "N";
  natur = letter "R";
  curtx = if number % 2 == 0 then Some curve_name else None;
  decim = 0;
  valpar = pos 1;
  endian = letter "B";
}

-- the curve: of raw numbers without a sign, with real results, and no results outside its points
abbrev pub curve : CafRow
curve = record { numbr = curve_name; engfmt = letter "R"; rawfmt = letter "U"; radix = letter "D"; inter = letter "F" }

-- its points: 0 at 0, and 1000 at 65535
abbrev pub points : List CapRow
points =
    record { numbr = curve_name; xvals = codes "0"; yvals = decimal_by 0 0 } ∷
    record { numbr = curve_name; xvals = codes "65535"; yvals = decimal_by 1 3 } ∷
    []

-- a packet, by its SPID
abbrev pub packet : ℕ → PidRow
packet spid = record { service = 3; subtype = 25; apid = 99 + spid; pi1_val = 0; pi2_val = 0; spid = spid; tpsd = negsuc 0; dfhsize = 0 }

-- the place of a parameter: two parameters stand in each packet, at the octets 10 and 12
abbrev pub place : ℕ → PlfRow
place number = record {
  name = parameter_name number;
  spid = number / 2 + 1;
  offby = if number % 2 == 0 then 10 else 12;
  offbi = 0;
  nbocc = 1;
  lgocc = 0;
}

-- the check of a parameter: of raw numbers, told at the second violation
abbrev pub check : ℕ → OcfRow
check number = record { name = parameter_name number; nbchck = 2; inter = letter "U"; codin = letter "R" }

-- the soft limits of a parameter: 1000 to 60000
abbrev pub limits : ℕ → OcpRow
limits number = record {
  name = parameter_name number;
  pos = 1;
  sort = letter "S";
  lvalu = bound.Number (decimal_by 1 3);
  hvalu = bound.Number (decimal_by 6 4);
  rlchk = None;
  valpar = pos 1;
}

-- the tables of a run
unfoldable pub drill_database : Database
drill_database = record no_rows {
  pcf = map parameter (range_with_len 0 PARAMETERS);
  pid = map packet (range_with_len 1 KINDS);
  plf = map place (range_with_len 0 PARAMETERS);
  caf = curve ∷ [];
  cap = points;
  ocf = map check (range_with_len 0 PARAMETERS);
  ocp = map limits (range_with_len 0 PARAMETERS);
}
