-- The primary header of a space packet, the most significant bit first. [CCSDS 133.0-B, packet primary header.]
use Rattle.std.specs.Prelude.{ℕ, ◌+◌, ◌*◌, ◌/◌, ◌%◌, ◌==◌, List, slice_index}
use Rattle.mib_model.specs.declared.packet.Header.{Header}

-- the number in two octets from a place on
abbrev pub word : List ℕ → ℕ → ℕ
word octets i = slice_index octets i * 256 + slice_index octets (i + 1)

-- version 3 bits, type 1, secondary header flag 1, APID 11, sequence flags 2, sequence count 14, data length 16
abbrev pub header_of : List ℕ → Header
header_of octets = record {
  version = word octets 0 / 8192;
  telecommand = word octets 0 / 4096 % 2 == 1;
  secondary = word octets 0 / 2048 % 2 == 1;
  apid = word octets 0 % 2048;
  flags = word octets 2 / 16384;
  count = word octets 2 % 16384;
  length = word octets 4;
}
