-- The runs, computed.
use Rattle.std.proofs.Common.{refl}
use Rattle.std.specs.Fmt.{digits}
use Rattle.mib_model.specs.Alarms.{alarm}
use Rattle.mib_model.specs.Bits.{bits, little_bits, raw_number}
use Rattle.mib_model.specs.Carry.{is_carried, carry}
use Rattle.mib_model.specs.Checks.{checks_of, class_of}
use Rattle.mib_model.specs.Forms.{content_of}
use Rattle.mib_model.specs.Columns.{cell_of}
use Rattle.mib_model.specs.Curves.{calibration, curve_named, selections, curve_of}
use Rattle.mib_model.specs.DatabaseTexts.{database_read}
use Rattle.mib_model.specs.Decimals.{dec_of}
use Rattle.mib_model.specs.Counts.{half, count_of, count_text}
use Rattle.mib_model.specs.Encodings.{type_of, encoding_of}
use Rattle.mib_model.specs.Finish.{finished, all_finished}
use Rattle.mib_model.specs.Fixed.{places, places_inside, values_at}
use Rattle.mib_model.specs.Interpreter.{values_of, title_of, record_for, course_after, interpret, course_after_all}
use Rattle.mib_model.specs.Keys.{same_key}
use Rattle.mib_model.specs.Lines.{lines_of, trimmed}
use Rattle.mib_model.specs.Match.{criterion, match_of}
use Rattle.mib_model.specs.Orders.{sorted_by}
use Rattle.run_model.specs.Output.{stamped_by, output, output_of_one}
use Rattle.mib_model.specs.Interpreter.{stamped_from}
use Rattle.mib_model.specs.Points.{knots, interpolated, by_points}
use Rattle.mib_model.specs.Polynomials.{polynomial}
use Rattle.mib_model.specs.RawTexts.{quoted, raw_text}
use Rattle.mib_model.specs.Reading.{row_at, rows_from, table_of, row_read, key_read}
use Rattle.run_model.specs.Register.{after}
use Rattle.mib_model.specs.RowTexts.{row_of, key_of, line_of}
use Rattle.mib_model.specs.Sameness.{same_cells}
use Rattle.mib_model.specs.Texts.{head_text, value_text, record_body, record_text}
use Rattle.mib_model.specs.Structures.{structure, deduced}
use Rattle.mib_model.specs.Walk.{step, walked, structure_values}
use Rattle.mib_model.specs.WholeNumbers.{decimal_whole, whole_number}
use Rattle.mib_examples.specs.Given.{decoded}
use Rattle.mib_examples.specs.LayoutsRuns.{LayoutsRuns}
use Rattle.mib_examples.specs.StructuresRuns.{StructuresRuns}
use Rattle.mib_examples.specs.CalibrationsRuns.{CalibrationsRuns}
use Rattle.mib_examples.specs.ChecksRuns.{ChecksRuns}
use Rattle.mib_examples.specs.PlacesRuns.{PlacesRuns}
use Rattle.mib_examples.specs.LimitsRuns.{LimitsRuns}
use Rattle.mib_examples.specs.CurvesRuns.{CurvesRuns}

pub layouts_runs : LayoutsRuns
unfolding decoded after digits alarm bits little_bits raw_number is_carried carry checks_of class_of content_of cell_of calibration curve_named selections curve_of database_read dec_of half count_of count_text type_of encoding_of finished all_finished places places_inside values_at values_of title_of record_for course_after interpret course_after_all same_key lines_of trimmed criterion match_of sorted_by stamped_by output stamped_from output_of_one knots interpolated by_points polynomial quoted raw_text row_at rows_from table_of row_read key_read row_of key_of line_of same_cells head_text value_text record_body record_text structure deduced step walked structure_values decimal_whole whole_number
layouts_runs = record { one_packet = refl; unknown = refl; idle_and_bad = refl; discriminants = refl; lacks_discriminant = refl; wide_discriminant = refl; signed_values = refl; occurrences = refl; all_sorts = refl; little_unsigned = refl; little_signed = refl; usual = refl }

pub structures_runs : StructuresRuns
unfolding decoded after digits alarm bits little_bits raw_number is_carried carry checks_of class_of content_of cell_of calibration curve_named selections curve_of database_read dec_of half count_of count_text type_of encoding_of finished all_finished places places_inside values_at values_of title_of record_for course_after interpret course_after_all same_key lines_of trimmed criterion match_of sorted_by stamped_by output stamped_from output_of_one knots interpolated by_points polynomial quoted raw_text row_at rows_from table_of row_read key_read row_of key_of line_of same_cells head_text value_text record_body record_text structure deduced step walked structure_values decimal_whole whole_number
structures_runs = record { no_repetition = refl; nested_groups = refl; missing_structure = refl; deduced = refl; missing_parameter = refl }

pub calibrations_runs : CalibrationsRuns
unfolding decoded after digits alarm bits little_bits raw_number is_carried carry checks_of class_of content_of cell_of calibration curve_named selections curve_of database_read dec_of half count_of count_text type_of encoding_of finished all_finished places places_inside values_at values_of title_of record_for course_after interpret course_after_all same_key lines_of trimmed criterion match_of sorted_by stamped_by output stamped_from output_of_one knots interpolated by_points polynomial quoted raw_text row_at rows_from table_of row_read key_read row_of key_of line_of same_cells head_text value_text record_body record_text structure deduced step walked structure_values decimal_whole whole_number
calibrations_runs = record { between_points = refl; beyond_points = refl; rounded = refl; polynomial = refl; too_large = refl; rounded_up = refl; rounded_down = refl; status_text = refl; no_text = refl; logarithm = refl; real_curve = refl; selected = refl }

pub checks_runs : ChecksRuns
unfolding decoded after digits alarm bits little_bits raw_number is_carried carry checks_of class_of content_of cell_of calibration curve_named selections curve_of database_read dec_of half count_of count_text type_of encoding_of finished all_finished places places_inside values_at values_of title_of record_for course_after interpret course_after_all same_key lines_of trimmed criterion match_of sorted_by stamped_by output stamped_from output_of_one knots interpolated by_points polynomial quoted raw_text row_at rows_from table_of row_read key_read row_of key_of line_of same_cells head_text value_text record_body record_text structure deduced step walked structure_values decimal_whole whole_number
checks_runs = record { validity = refl; repeats = refl; states = refl; deltas = refl }

pub curves_runs : CurvesRuns
unfolding decoded after digits alarm bits little_bits raw_number is_carried carry checks_of class_of content_of cell_of calibration curve_named selections curve_of database_read dec_of half count_of count_text type_of encoding_of finished all_finished places places_inside values_at values_of title_of record_for course_after interpret course_after_all same_key lines_of trimmed criterion match_of sorted_by stamped_by output stamped_from output_of_one knots interpolated by_points polynomial quoted raw_text row_at rows_from table_of row_read key_read row_of key_of line_of same_cells head_text value_text record_body record_text structure deduced step walked structure_values decimal_whole whole_number
curves_runs = record { right_line = refl; below_least = refl; outer_lines = refl; points_over = refl; radix = refl; scales = refl; category_t = refl; first_text = refl; text_between = refl; real_texts = refl }

pub limits_runs : LimitsRuns
unfolding decoded after digits alarm bits little_bits raw_number is_carried carry checks_of class_of content_of cell_of calibration curve_named selections curve_of database_read dec_of half count_of count_text type_of encoding_of finished all_finished places places_inside values_at values_of title_of record_for course_after interpret course_after_all same_key lines_of trimmed criterion match_of sorted_by stamped_by output stamped_from output_of_one knots interpolated by_points polynomial quoted raw_text row_at rows_from table_of row_read key_read row_of key_of line_of same_cells head_text value_text record_body record_text structure deduced step walked structure_values decimal_whole whole_number
limits_runs = record { selection = refl; classes = refl; calibrated = refl; raw = refl; invalid = refl }

pub places_runs : PlacesRuns
unfolding decoded after digits alarm bits little_bits raw_number is_carried carry checks_of class_of content_of cell_of calibration curve_named selections curve_of database_read dec_of half count_of count_text type_of encoding_of finished all_finished places places_inside values_at values_of title_of record_for course_after interpret course_after_all same_key lines_of trimmed criterion match_of sorted_by stamped_by output stamped_from output_of_one knots interpolated by_points polynomial quoted raw_text row_at rows_from table_of row_read key_read row_of key_of line_of same_cells head_text value_text record_body record_text structure deduced step walked structure_values decimal_whole whole_number
places_runs = record { identified = refl; last_occurrence = refl; before_bit_0 = refl; choice = refl; offsets = refl; sorts = refl }
