-- The printed lines of a packet's record, each with its line feed. [This profile.]
use Rattle.std.specs.Prelude.{ℕ, List, [], ◌∷◌, ◌++◌, length, codes, decimal, Option, Some, None, Bool, if◌then◌else◌}
use Rattle.std.specs.Fmt.{signed_decimal}
use Rattle.std.specs.List.{flat_map}
use Rattle.mib_model.specs.declared.packet.BadWhy.{BadWhy}
use Rattle.mib_model.specs.declared.packet.BadWhy.TheVariants as why
use Rattle.mib_model.specs.declared.packet.Ended.{Ended}
use Rattle.mib_model.specs.declared.packet.Ended.TheVariants as ended
use Rattle.mib_model.specs.declared.packet.Found.{Found}
use Rattle.mib_model.specs.declared.packet.Found.TheVariants as found
use Rattle.mib_model.specs.declared.packet.Header.{Header}
use Rattle.mib_model.specs.declared.packet.Value.{Value}
use Rattle.mib_model.specs.AlarmTexts.{change_text_of}
use Rattle.mib_model.specs.Calibrated.{Calibrated, Counted, StatusText, NoText, Outside, TooLarge, LogCurve, RealCurve}
use Rattle.mib_model.specs.Counts.{count_text}
use Rattle.mib_model.specs.Headers.{header_of}
use Rattle.mib_model.specs.RawTexts.{quoted, raw_text}
use Rattle.mib_model.specs.Tails.{Tail, Plain, Given, Invalid, Told, Record}

-- the service type and subtype
abbrev pub type_text : ℕ → ℕ → List ℕ
type_text service subtype = codes " TYPE " ++ decimal service ++ codes "/" ++ decimal subtype

-- why a packet is bad
abbrev pub why_text : BadWhy → List ℕ
why_text why.Version = codes " BAD VERSION"
why_text why.Telecommand = codes " BAD TELECOMMAND"
why_text why.Short = codes " BAD SHORT"

-- the name of a packet, where there is one that isn't empty
abbrev pub title_text : Option (List ℕ) → List ℕ
title_text None = []
title_text (Some []) = []
title_text (Some (c ∷ cs)) = codes " NAME " ++ quoted (c ∷ cs)

-- what a packet is
abbrev pub found_text : Found → Option (List ℕ) → List ℕ
found_text (found.Spid spid service subtype tpsd dfhsize) title =
    type_text service subtype ++ codes " SPID " ++ decimal spid ++ title_text title
found_text (found.Unknown service subtype) title = type_text service subtype ++ codes " UNKNOWN"
found_text found.Idle title = codes " IDLE"
found_text (found.Bad why) title = why_text why

-- the head of a record
unfoldable pub head_text : ℕ → Header → Found → Option (List ℕ) → List ℕ
head_text number header f title =
    codes "PKT " ++ decimal number ++ codes " APID " ++ decimal header.apid ++ codes " COUNT " ++ decimal header.count ++
    found_text f title ++ codes "\n"

-- what stands behind a raw value
abbrev pub given_text : Calibrated → ℕ → List ℕ
given_text (Counted count) decimals = codes " = " ++ count_text count decimals
given_text (StatusText text) decimals = codes " = " ++ quoted text
given_text NoText decimals = codes " ! NOTEXT"
given_text Outside decimals = codes " ! OUTSIDE"
given_text TooLarge decimals = codes " ! OVER"
given_text LogCurve decimals = codes " ! LOGCURVE"
given_text RealCurve decimals = codes " ! REALCURVE"

-- the text of a tail
abbrev pub tail_text : Tail → List ℕ
tail_text Plain = []
tail_text (Given given decimals) = given_text given decimals
tail_text Invalid = codes " ? INVALID"

-- the line of a value
unfoldable pub value_text : Value → List ℕ → Tail → List ℕ
value_text v packet tail = codes "  " ++ v.name ++ codes " " ++ raw_text v packet ++ tail_text tail ++ codes "\n"

-- how values end that aren't whole
abbrev pub ended_text : Ended → List ℕ
ended_text ended.Whole = []
ended_text (ended.Short name) = codes "  SHORT " ++ name ++ codes "\n"
ended_text ended.Many = codes "  MANY\n"
ended_text (ended.NoStructure tpsd) = codes "  NOSTRUCTURE " ++ signed_decimal tpsd ++ codes "\n"
ended_text (ended.NoParameter pid) = codes "  NOPARAMETER " ++ signed_decimal pid ++ codes "\n"

-- an edition that differs from the one before
abbrev pub edition_text : ℕ → List ℕ
edition_text edition = codes "EDITION " ++ decimal edition ++ codes "\n"

-- the line of an edition, where it is told
abbrev pub edition_text_of : Option ℕ → List ℕ
edition_text_of None = []
edition_text_of (Some edition) = edition_text edition

-- a value and what is told with it
abbrev pub told_text : List ℕ → Told → List ℕ
told_text packet told = value_text told.value packet told.tail ++ change_text_of told.value.name told.change

-- the record of a packet without its edition
unfoldable pub record_body : Record → List ℕ
record_body r =
    head_text r.number (header_of r.packet) r.found r.title ++ flat_map (told_text r.packet) r.values ++ ended_text r.ended

-- the record of a packet, its edition first
unfoldable pub record_text : Record → List ℕ
record_text r = edition_text_of r.edition ++ record_body r

-- the line of a feed that ends inside a packet, of which so many octets are there
abbrev pub cut_text : ℕ → List ℕ
cut_text octets = codes "CUT " ++ decimal octets ++ codes "\n"

-- the line of a feed's rest: none where the feed ends with a packet
abbrev pub rest_text : List ℕ → List ℕ
rest_text [] = []
rest_text (b ∷ rest) = cut_text (length (b ∷ rest))

-- the line of a feed's rest, unless the feed failed there
abbrev pub rest_unless : Bool → List ℕ → List ℕ
rest_unless failed rest = if failed then [] else rest_text rest
