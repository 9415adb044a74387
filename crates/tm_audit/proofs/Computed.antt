-- Audits and ends, computed.
use Rattle.std.proofs.Common.{refl}
use Rattle.std.specs.Fmt.{digits}
use Rattle.mib_model.specs.Alarms.{alarm}
use Rattle.mib_model.specs.Bits.{bits, little_bits, raw_number}
use Rattle.mib_model.specs.Carry.{is_carried, carry}
use Rattle.mib_model.specs.Checks.{checks_of, class_of}
use Rattle.mib_model.specs.Forms.{content_of}
use Rattle.mib_model.specs.Columns.{cell_of}
use Rattle.mib_model.specs.Curves.{calibration, curve_named, selections, curve_of}
use Rattle.mib_model.specs.DatabaseTexts.{database_read}
use Rattle.mib_model.specs.Decimals.{dec_of}
use Rattle.mib_model.specs.Counts.{half, count_of, count_text}
use Rattle.run_model.specs.DeskWays.{way_of}
use Rattle.run_model.specs.DeskLines.{request_of}
use Rattle.mib_model.specs.Drafts.{rows_of, put_in, without_key}
use Rattle.mib_model.specs.Encodings.{type_of, encoding_of}
use Rattle.run_model.specs.Endings.{code_of_ending}
use Rattle.run_model.specs.Faults.{fault_text, code_line}
use Rattle.mib_model.specs.Finish.{finished, all_finished}
use Rattle.mib_model.specs.Fixed.{places, places_inside, values_at}
use Rattle.mib_model.specs.Flaws.{table_flaws}
use Rattle.mib_model.specs.Interpreter.{values_of, title_of, record_for, course_after, interpret, course_after_all}
use Rattle.mib_model.specs.Keys.{same_key}
use Rattle.mib_model.specs.Lines.{lines_of, trimmed}
use Rattle.mib_model.specs.Match.{criterion, match_of}
use Rattle.mib_model.specs.Orders.{sorted_by}
use Rattle.run_model.specs.Output.{stamped_by, output, output_of_one}
use Rattle.mib_model.specs.Interpreter.{stamped_from}
use Rattle.mib_model.specs.Plans.{param_plans, layout_plans, structure_plans, plans}
use Rattle.mib_model.specs.Points.{knots, interpolated, by_points}
use Rattle.mib_model.specs.Polynomials.{polynomial}
use Rattle.mib_model.specs.RawTexts.{quoted, raw_text}
use Rattle.mib_model.specs.Reading.{row_at, rows_from, table_of, row_read, key_read}
use Rattle.run_model.specs.Register.{answer_to, after}
use Rattle.run_model.specs.Replies.{reply_words, desk_text}
use Rattle.mib_model.specs.RowTexts.{row_of, key_of, line_of}
use Rattle.mib_model.specs.Sameness.{same_cells}
use Rattle.run_model.specs.Script.{script, reaches_limit}
use Rattle.mib_model.specs.Soundness.{flaws}
use Rattle.mib_model.specs.Structures.{structure, deduced}
use Rattle.mib_model.specs.Texts.{head_text, value_text, record_body, record_text}
use Rattle.mib_model.specs.Touched.{same_slice, touched}
use Rattle.mib_model.specs.Walk.{step, walked, structure_values}
use Rattle.mib_model.specs.WholeNumbers.{decimal_whole, whole_number}
use Rattle.run_model.specs.Words.{parted, command_of}
use Rattle.mib_model.specs.Writing.{decimal_text}
use Rattle.tm_audit.specs.Audit.{audited, text_as}
use Rattle.tm_audit.specs.CodeExamples.{CodeExamples}
use Rattle.tm_audit.specs.Codes.{audit_line, audit_number, finding_text}
use Rattle.tm_audit.specs.Examples.{AuditExamples}
use Rattle.tm_audit.specs.Given.{audit_of, calibrated}
use Rattle.tm_audit.specs.Saved.{led, saved_tables}
use Rattle.tm_audit.specs.Shown.{editions_shown, first_unknown}
use Rattle.tm_audit.specs.TextLines.{first_apart, text_lines}

pub audit_examples : AuditExamples
unfolding audit_of calibrated audited text_as saved_tables led editions_shown first_unknown text_lines first_apart digits alarm bits little_bits raw_number is_carried carry checks_of class_of content_of cell_of calibration curve_named selections curve_of database_read dec_of half count_of count_text way_of request_of rows_of put_in without_key type_of encoding_of code_of_ending fault_text code_line finished all_finished places places_inside values_at table_flaws values_of title_of record_for course_after interpret course_after_all same_key lines_of trimmed criterion match_of sorted_by stamped_by output stamped_from output_of_one param_plans layout_plans structure_plans plans knots interpolated by_points polynomial quoted raw_text row_at rows_from table_of row_read key_read answer_to after reply_words desk_text row_of key_of line_of same_cells script reaches_limit flaws structure deduced head_text value_text record_body record_text same_slice touched step walked structure_values decimal_whole whole_number parted command_of decimal_text
audit_examples = record { same = refl; one_edition = refl; dropped = refl; doubled = refl; unsaved = refl; padded = refl; unnumbered = refl; short = refl; unended = refl; long = refl; empty = refl }

pub code_examples : CodeExamples
unfolding audit_line audit_number finding_text digits alarm bits little_bits raw_number is_carried carry checks_of class_of content_of cell_of calibration curve_named selections curve_of database_read dec_of half count_of count_text way_of request_of rows_of put_in without_key type_of encoding_of code_of_ending fault_text code_line finished all_finished places places_inside values_at table_flaws values_of title_of record_for course_after interpret course_after_all same_key lines_of trimmed criterion match_of sorted_by stamped_by output stamped_from output_of_one param_plans layout_plans structure_plans plans knots interpolated by_points polynomial quoted raw_text row_at rows_from table_of row_read key_read answer_to after reply_words desk_text row_of key_of line_of same_cells script reaches_limit flaws structure deduced head_text value_text record_body record_text same_slice touched step walked structure_values decimal_whole whole_number parted command_of decimal_text
code_examples = record { same = refl; differs = refl; no_edition = refl; large = refl; no_text = refl; no_feed = refl; text_fault = refl; words = refl; quiet = refl; same_number = refl; differs_number = refl; no_edition_number = refl; text_fault_number = refl; large_number = refl; no_text_number = refl; want_number = refl }
