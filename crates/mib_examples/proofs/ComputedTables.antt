-- Lines, fields, rows, keys and first faults. Computed.
use Rattle.std.proofs.Common.{refl}
use Rattle.std.specs.Fmt.{digits}
use Rattle.mib_model.specs.declared.tables.Tables.{Tables}
use Rattle.mib_model.specs.Alarms.{alarm}
use Rattle.mib_model.specs.Bits.{bits, little_bits, raw_number}
use Rattle.mib_model.specs.Carry.{is_carried, carry}
use Rattle.mib_model.specs.Checks.{checks_of, class_of}
use Rattle.mib_model.specs.Forms.{content_of}
use Rattle.mib_model.specs.Columns.{cell_of}
use Rattle.mib_model.specs.Curves.{calibration, curve_named, selections, curve_of}
use Rattle.mib_model.specs.DatabaseTexts.{database_read}
use Rattle.mib_model.specs.Decimals.{dec_of}
use Rattle.mib_model.specs.Counts.{half, count_of, count_text}
use Rattle.run_model.specs.DeskWays.{way_of}
use Rattle.run_model.specs.DeskLines.{request_of}
use Rattle.mib_model.specs.Drafts.{rows_of, put_in, without_key}
use Rattle.mib_model.specs.Encodings.{type_of, encoding_of}
use Rattle.run_model.specs.Endings.{code_of_ending}
use Rattle.run_model.specs.Faults.{fault_text, code_line}
use Rattle.mib_model.specs.Finish.{finished, all_finished}
use Rattle.mib_model.specs.Fixed.{places, places_inside, values_at}
use Rattle.mib_model.specs.Flaws.{table_flaws}
use Rattle.mib_model.specs.Interpreter.{values_of, title_of, record_for, course_after, interpret, course_after_all}
use Rattle.mib_model.specs.Keys.{same_key}
use Rattle.mib_model.specs.Lines.{lines_of, trimmed}
use Rattle.mib_model.specs.Match.{criterion, match_of}
use Rattle.mib_model.specs.Orders.{sorted_by}
use Rattle.run_model.specs.Output.{stamped_by, output, output_of_one}
use Rattle.mib_model.specs.Interpreter.{stamped_from}
use Rattle.mib_model.specs.Plans.{param_plans, layout_plans, structure_plans, plans}
use Rattle.mib_model.specs.Points.{knots, interpolated, by_points}
use Rattle.mib_model.specs.Polynomials.{polynomial}
use Rattle.mib_model.specs.RawTexts.{quoted, raw_text}
use Rattle.mib_model.specs.Reading.{row_at, rows_from, table_of, row_read, key_read}
use Rattle.run_model.specs.Register.{answer_to, after}
use Rattle.run_model.specs.Replies.{reply_words, desk_text}
use Rattle.mib_model.specs.RowTexts.{row_of, key_of, line_of}
use Rattle.mib_model.specs.Sameness.{same_cells}
use Rattle.run_model.specs.Script.{script, reaches_limit}
use Rattle.mib_model.specs.Soundness.{flaws}
use Rattle.mib_model.specs.Structures.{structure, deduced}
use Rattle.mib_model.specs.Texts.{head_text, value_text, record_body, record_text}
use Rattle.mib_model.specs.Touched.{same_slice, touched}
use Rattle.mib_model.specs.Walk.{step, walked, structure_values}
use Rattle.mib_model.specs.WholeNumbers.{decimal_whole, whole_number}
use Rattle.run_model.specs.Words.{parted, command_of}
use Rattle.mib_model.specs.Writing.{decimal_text}
use Rattle.mib_examples.specs.Given.{decoded, database, first_fault}
use Rattle.mib_examples.specs.TableExamples.{DatabaseExamples, TextExamples, RowExamples, FirstFaultExamples}

pub text_examples : TextExamples
unfolding decoded database first_fault digits alarm bits little_bits raw_number is_carried carry checks_of class_of content_of cell_of calibration curve_named selections curve_of database_read dec_of half count_of count_text way_of request_of rows_of put_in without_key type_of encoding_of code_of_ending fault_text code_line finished all_finished places places_inside values_at table_flaws values_of title_of record_for course_after interpret course_after_all same_key lines_of trimmed criterion match_of sorted_by stamped_by output stamped_from output_of_one param_plans layout_plans structure_plans plans knots interpolated by_points polynomial quoted raw_text row_at rows_from table_of row_read key_read answer_to after reply_words desk_text row_of key_of line_of same_cells script reaches_limit flaws structure deduced head_text value_text record_body record_text same_slice touched step walked structure_values decimal_whole whole_number parted command_of decimal_text
text_examples = record { lines = refl; fields = refl; trimmed = refl; name = refl; no_name = refl; empty_text = refl; kind = refl; no_kind = refl }

pub row_examples : RowExamples
unfolding decoded database first_fault digits alarm bits little_bits raw_number is_carried carry checks_of class_of content_of cell_of calibration curve_named selections curve_of database_read dec_of half count_of count_text way_of request_of rows_of put_in without_key type_of encoding_of code_of_ending fault_text code_line finished all_finished places places_inside values_at table_flaws values_of title_of record_for course_after interpret course_after_all same_key lines_of trimmed criterion match_of sorted_by stamped_by output stamped_from output_of_one param_plans layout_plans structure_plans plans knots interpolated by_points polynomial quoted raw_text row_at rows_from table_of row_read key_read answer_to after reply_words desk_text row_of key_of line_of same_cells script reaches_limit flaws structure deduced head_text value_text record_body record_text same_slice touched step walked structure_values decimal_whole whole_number parted command_of decimal_text
row_examples = record { place = refl; too_few = refl; number = refl; packet_key = refl; key_column = refl; keys_by_value = refl; keys_by_table = refl; line = refl }

pub first_fault_examples : FirstFaultExamples
unfolding decoded database first_fault digits alarm bits little_bits raw_number is_carried carry checks_of class_of content_of cell_of calibration curve_named selections curve_of database_read dec_of half count_of count_text way_of request_of rows_of put_in without_key type_of encoding_of code_of_ending fault_text code_line finished all_finished places places_inside values_at table_flaws values_of title_of record_for course_after interpret course_after_all same_key lines_of trimmed criterion match_of sorted_by stamped_by output stamped_from output_of_one param_plans layout_plans structure_plans plans knots interpolated by_points polynomial quoted raw_text row_at rows_from table_of row_read key_read answer_to after reply_words desk_text row_of key_of line_of same_cells script reaches_limit flaws structure deduced head_text value_text record_body record_text same_slice touched step walked structure_values decimal_whole whole_number parted command_of decimal_text
first_fault_examples = record { none = refl; mark = refl; number = refl; few_fields = refl; letter = refl; reference = refl; type_of = refl; points = refl; packet_twice = refl; name_twice = refl; width = refl; both = refl; group = refl; inner_group = refl }

pub database_examples : (t : Tables) → DatabaseExamples t
unfolding rows_of
database_examples t = record { curves = refl; points = refl; texts = refl }
