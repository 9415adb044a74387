-- The pages, computed.
use Rattle.std.proofs.Common.{refl}
use Rattle.std.specs.Fmt.{digits}
use Rattle.mib_model.specs.Alarms.{alarm}
use Rattle.mib_model.specs.Bits.{bits, little_bits, raw_number}
use Rattle.mib_model.specs.Carry.{is_carried, carry}
use Rattle.mib_model.specs.Checks.{checks_of, class_of}
use Rattle.mib_model.specs.Forms.{content_of}
use Rattle.mib_model.specs.Columns.{cell_of}
use Rattle.mib_model.specs.Curves.{calibration, curve_named, selections, curve_of}
use Rattle.mib_model.specs.DatabaseTexts.{database_read}
use Rattle.mib_model.specs.Decimals.{dec_of}
use Rattle.mib_model.specs.Counts.{half, count_of, count_text}
use Rattle.mib_model.specs.Encodings.{type_of, encoding_of}
use Rattle.mib_model.specs.Finish.{finished, all_finished}
use Rattle.mib_model.specs.Fixed.{places, places_inside, values_at}
use Rattle.mib_model.specs.Interpreter.{values_of, title_of, record_for, course_after, interpret, course_after_all}
use Rattle.mib_model.specs.Keys.{same_key}
use Rattle.mib_model.specs.Lines.{lines_of, trimmed}
use Rattle.mib_model.specs.Match.{criterion, match_of}
use Rattle.mib_model.specs.Orders.{sorted_by}
use Rattle.mib_model.specs.Reading.{row_at, rows_from, table_of, row_read, key_read}
use Rattle.mib_model.specs.RowTexts.{row_of, key_of, line_of}
use Rattle.mib_model.specs.Sameness.{same_cells}
use Rattle.mib_model.specs.Structures.{structure, deduced}
use Rattle.mib_model.specs.Walk.{step, walked, structure_values}
use Rattle.mib_model.specs.WholeNumbers.{decimal_whole, whole_number}
use Rattle.mib_examples.specs.Given.{database}
use Rattle.page_examples.specs.PageExamples.{PageExamples, limited}

pub page_examples : PageExamples
unfolding database limited digits alarm bits little_bits raw_number is_carried carry checks_of class_of content_of cell_of calibration curve_named selections curve_of database_read dec_of half count_of count_text type_of encoding_of finished all_finished places places_inside values_at values_of title_of record_for course_after course_after_all same_key lines_of trimmed criterion match_of sorted_by row_at rows_from table_of row_read key_read row_of key_of line_of same_cells structure deduced step walked structure_values decimal_whole whole_number
page_examples = record { before = refl; spoken = refl; cleared = refl }
