-- Packets that are built. Computed.
use Rattle.std.proofs.Common.{refl}
use Rattle.std.specs.Fmt.{digits}
use Rattle.mib_model.specs.Columns.{cell_of}
use Rattle.mib_model.specs.DatabaseTexts.{database_read}
use Rattle.mib_model.specs.Decimals.{dec_of}
use Rattle.mib_model.specs.Encodings.{type_of, encoding_of}
use Rattle.mib_model.specs.Fixed.{places}
use Rattle.mib_model.specs.Forms.{content_of}
use Rattle.mib_model.specs.Lines.{lines_of, trimmed}
use Rattle.mib_model.specs.Orders.{sorted_by}
use Rattle.mib_model.specs.Reading.{row_at, rows_from, table_of, row_read}
use Rattle.mib_model.specs.RowTexts.{row_of}
use Rattle.mib_model.specs.Structures.{structure, deduced}
use Rattle.bit_writer.specs.Writes.{first_clash, number_of, octets_left}
use Rattle.struct_plan.specs.Sources.{move, walked_by}
use Rattle.build_rules.specs.Laying.{values_by, values_from}
use Rattle.build_rules.specs.Building.{built}
use Rattle.build_rules.specs.Asks.{answered, asked_in}
use Rattle.mib_examples.specs.Given.{database}
use Rattle.build_examples.specs.AskExamples.{AskExamples, FaultExamples, PacketExamples, PlaceExamples, counted, plain}

pub packet_examples : PacketExamples
unfolding database plain counted digits cell_of database_read dec_of type_of encoding_of places content_of lines_of trimmed sorted_by row_at rows_from table_of row_read row_of structure deduced first_clash number_of octets_left move walked_by values_by values_from built answered asked_in
packet_examples = record { plain = refl; little = refl; signed = refl; structure = refl; discriminant = refl }

pub place_examples : PlaceExamples
unfolding database plain counted digits cell_of database_read dec_of type_of encoding_of places content_of lines_of trimmed sorted_by row_at rows_from table_of row_read row_of structure deduced first_clash number_of octets_left move walked_by values_by values_from built answered asked_in
place_examples = record { none = refl; agreeing = refl; on_the_header = refl; deduced = refl; chosen = refl }

pub fault_examples : FaultExamples
unfolding database plain counted digits cell_of database_read dec_of type_of encoding_of places content_of lines_of trimmed sorted_by row_at rows_from table_of row_read row_of structure deduced first_clash number_of octets_left move walked_by values_by values_from built answered asked_in
fault_examples = record {
  no_spid = refl;
  idle = refl;
  no_criterion = refl;
  wide = refl;
  missing = refl;
  named_otherwise = refl;
  left_over = refl;
  range = refl;
  below = refl;
  no_number = refl;
  no_structure = refl;
  no_parameter = refl;
  before = refl;
  long = refl;
  clash = refl;
}

pub ask_examples : AskExamples
unfolding database plain counted digits cell_of database_read dec_of type_of encoding_of places content_of lines_of trimmed sorted_by row_at rows_from table_of row_read row_of structure deduced first_clash number_of octets_left move walked_by values_by values_from built answered asked_in
ask_examples = record {
  passed_over = refl;
  no_count = refl;
  count = refl;
  no_word = refl;
  no_item = refl;
  no_name = refl;
  digits = refl;
  many_digits = refl;
  zero = refl;
  far_spid = refl;
  told = refl;
}
