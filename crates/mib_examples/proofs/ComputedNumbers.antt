-- Decimals, counts, whole numbers, encodings and bits. Computed.
use Rattle.std.proofs.Common.{refl}
use Rattle.std.specs.Fmt.{digits}
use Rattle.mib_model.specs.declared.shape.Endian.TheVariants as endian
use Rattle.mib_model.specs.Alarms.{alarm}
use Rattle.mib_model.specs.Bits.{bits, little_bits, raw_number}
use Rattle.mib_model.specs.Carry.{is_carried, carry}
use Rattle.mib_model.specs.Checks.{checks_of, class_of}
use Rattle.mib_model.specs.Forms.{content_of}
use Rattle.mib_model.specs.Columns.{cell_of}
use Rattle.mib_model.specs.Curves.{calibration, curve_named, selections, curve_of}
use Rattle.mib_model.specs.DatabaseTexts.{database_read}
use Rattle.mib_model.specs.Decimals.{dec_of}
use Rattle.mib_model.specs.Counts.{half, count_of, count_text}
use Rattle.run_model.specs.DeskWays.{way_of}
use Rattle.run_model.specs.DeskLines.{request_of}
use Rattle.mib_model.specs.Drafts.{rows_of, put_in, without_key}
use Rattle.mib_model.specs.Encodings.{type_of, encoding_of}
use Rattle.run_model.specs.Endings.{code_of_ending}
use Rattle.run_model.specs.Faults.{fault_text, code_line}
use Rattle.mib_model.specs.Finish.{finished, all_finished}
use Rattle.mib_model.specs.Fixed.{places, places_inside, values_at}
use Rattle.mib_model.specs.Flaws.{table_flaws}
use Rattle.mib_model.specs.Interpreter.{values_of, title_of, record_for, course_after, interpret, course_after_all}
use Rattle.mib_model.specs.Keys.{same_key}
use Rattle.mib_model.specs.Lines.{lines_of, trimmed}
use Rattle.mib_model.specs.Match.{criterion, match_of}
use Rattle.mib_model.specs.Orders.{sorted_by}
use Rattle.run_model.specs.Output.{stamped_by, output, output_of_one}
use Rattle.mib_model.specs.Interpreter.{stamped_from}
use Rattle.mib_model.specs.Plans.{param_plans, layout_plans, structure_plans, plans}
use Rattle.mib_model.specs.Points.{knots, interpolated, by_points}
use Rattle.mib_model.specs.Polynomials.{polynomial}
use Rattle.mib_model.specs.RawTexts.{quoted, raw_text}
use Rattle.mib_model.specs.Reading.{row_at, rows_from, table_of, row_read, key_read}
use Rattle.run_model.specs.Register.{answer_to, after}
use Rattle.run_model.specs.Replies.{reply_words, desk_text}
use Rattle.mib_model.specs.RowTexts.{row_of, key_of, line_of}
use Rattle.mib_model.specs.Sameness.{same_cells}
use Rattle.run_model.specs.Script.{script, reaches_limit}
use Rattle.mib_model.specs.Soundness.{flaws}
use Rattle.mib_model.specs.Structures.{structure, deduced}
use Rattle.mib_model.specs.Texts.{head_text, value_text, record_body, record_text}
use Rattle.mib_model.specs.Touched.{same_slice, touched}
use Rattle.mib_model.specs.Walk.{step, walked, structure_values}
use Rattle.mib_model.specs.WholeNumbers.{decimal_whole, whole_number}
use Rattle.run_model.specs.Words.{parted, command_of}
use Rattle.mib_model.specs.Writing.{decimal_text}
use Rattle.mib_examples.specs.Given.{decoded, database, first_fault}
use Rattle.mib_examples.specs.NumberExamples.{DecimalExamples, CountExamples, WholeNumberExamples, EncodingExamples, BitExamples}

pub decimal_examples : DecimalExamples
unfolding decoded database first_fault digits alarm bits little_bits raw_number is_carried carry checks_of class_of content_of cell_of calibration curve_named selections curve_of database_read dec_of half count_of count_text way_of request_of rows_of put_in without_key type_of encoding_of code_of_ending fault_text code_line finished all_finished places places_inside values_at table_flaws values_of title_of record_for course_after interpret course_after_all same_key lines_of trimmed criterion match_of sorted_by stamped_by output stamped_from output_of_one param_plans layout_plans structure_plans plans knots interpolated by_points polynomial quoted raw_text row_at rows_from table_of row_read key_read answer_to after reply_words desk_text row_of key_of line_of same_cells script reaches_limit flaws structure deduced head_text value_text record_body record_text same_slice touched step walked structure_values decimal_whole whole_number parted command_of decimal_text
decimal_examples = record { exponent = refl; point_first = refl; zero = refl; trailing_zeros = refl; zero_before_exponent = refl; raised = refl; empty = refl; no_exponent = refl; point_alone = refl; space = refl; digits = refl; large = refl; raised_too_far = refl }

pub count_examples : CountExamples
unfolding decoded database first_fault digits alarm bits little_bits raw_number is_carried carry checks_of class_of content_of cell_of calibration curve_named selections curve_of database_read dec_of half count_of count_text way_of request_of rows_of put_in without_key type_of encoding_of code_of_ending fault_text code_line finished all_finished places places_inside values_at table_flaws values_of title_of record_for course_after interpret course_after_all same_key lines_of trimmed criterion match_of sorted_by stamped_by output stamped_from output_of_one param_plans layout_plans structure_plans plans knots interpolated by_points polynomial quoted raw_text row_at rows_from table_of row_read key_read answer_to after reply_words desk_text row_of key_of line_of same_cells script reaches_limit flaws structure deduced head_text value_text record_body record_text same_slice touched step walked structure_values decimal_whole whole_number parted command_of decimal_text
count_examples = record { tie = refl; tie_below_zero = refl; third = refl; one = refl; held = refl; two_decimals = refl; no_minus = refl; whole = refl; twelve_at_most = refl }

pub whole_number_examples : WholeNumberExamples
unfolding decoded database first_fault digits alarm bits little_bits raw_number is_carried carry checks_of class_of content_of cell_of calibration curve_named selections curve_of database_read dec_of half count_of count_text way_of request_of rows_of put_in without_key type_of encoding_of code_of_ending fault_text code_line finished all_finished places places_inside values_at table_flaws values_of title_of record_for course_after interpret course_after_all same_key lines_of trimmed criterion match_of sorted_by stamped_by output stamped_from output_of_one param_plans layout_plans structure_plans plans knots interpolated by_points polynomial quoted raw_text row_at rows_from table_of row_read key_read answer_to after reply_words desk_text row_of key_of line_of same_cells script reaches_limit flaws structure deduced head_text value_text record_body record_text same_slice touched step walked structure_values decimal_whole whole_number parted command_of decimal_text
whole_number_examples = record { decimal = refl; fraction = refl; hexadecimal = refl; signed_hexadecimal = refl; octal = refl; large_octal = refl }

pub encoding_examples : EncodingExamples
unfolding decoded database first_fault digits alarm bits little_bits raw_number is_carried carry checks_of class_of content_of cell_of calibration curve_named selections curve_of database_read dec_of half count_of count_text way_of request_of rows_of put_in without_key type_of encoding_of code_of_ending fault_text code_line finished all_finished places places_inside values_at table_flaws values_of title_of record_for course_after interpret course_after_all same_key lines_of trimmed criterion match_of sorted_by stamped_by output stamped_from output_of_one param_plans layout_plans structure_plans plans knots interpolated by_points polynomial quoted raw_text row_at rows_from table_of row_read key_read answer_to after reply_words desk_text row_of key_of line_of same_cells script reaches_limit flaws structure deduced head_text value_text record_body record_text same_slice touched step walked structure_values decimal_whole whole_number parted command_of decimal_text
encoding_examples = record { sixteen_bits = refl; little = refl; odd_little = refl; time = refl; outside = refl; no_segmented_time = refl; is_one = (3, 12, endian.L, refl) }

pub bit_examples : BitExamples
unfolding decoded database first_fault digits alarm bits little_bits raw_number is_carried carry checks_of class_of content_of cell_of calibration curve_named selections curve_of database_read dec_of half count_of count_text way_of request_of rows_of put_in without_key type_of encoding_of code_of_ending fault_text code_line finished all_finished places places_inside values_at table_flaws values_of title_of record_for course_after interpret course_after_all same_key lines_of trimmed criterion match_of sorted_by stamped_by output stamped_from output_of_one param_plans layout_plans structure_plans plans knots interpolated by_points polynomial quoted raw_text row_at rows_from table_of row_read key_read answer_to after reply_words desk_text row_of key_of line_of same_cells script reaches_limit flaws structure deduced head_text value_text record_body record_text same_slice touched step walked structure_values decimal_whole whole_number parted command_of decimal_text
bit_examples = record { unaligned = refl; little_octets = refl; minus_one = refl; greatest = refl; past_the_end = refl; in_order = refl }
