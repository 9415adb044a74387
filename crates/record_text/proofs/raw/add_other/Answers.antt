use Rattle.std.proofs.Common.{◌+◌, ◌*◌, length, sym, ◌∙◌, arith}
use Rattle.std.proofs.lemmas.Bool.{leb-true}
use Rattle.record_text.proofs.ShapeFacts.{width-most, day_time-least, octet_time-width}
use Rattle.record_text.proofs.raw.add_other.Goals as goal

pub add_hex_field-requires-clause-count : goal.add_hex_field-requires-clause-count
add_hex_field-requires-clause-count c = let most = width-most c.args.value.now.shape c.width-width.ensures.encoding in omega arith

pub add_quoted_field-requires-clause-count : goal.add_quoted_field-requires-clause-count
add_quoted_field-requires-clause-count c = let most = width-most c.args.value.now.shape c.width-width.ensures.encoding in omega arith

pub add_day_time-requires-clause-width : goal.add_day_time-requires-clause-width
add_day_time-requires-clause-width c = let least = day_time-least c.args.value.now.shape c.width-width.ensures.encoding (sym c.sort.ensures ∙ c.in-Cds.is) in omega arith

pub add_octet_time-requires-clause-coarse : goal.add_octet_time-requires-clause-coarse
add_octet_time-requires-clause-coarse c =
    let width = octet_time-width c.args.value.now.shape c.in-Cuc.coarse c.in-Cuc.fine c.width-width.ensures.encoding (sym c.sort.ensures ∙ c.in-Cuc.is) in omega arith

pub add_octet_time-requires-clause-fine : goal.add_octet_time-requires-clause-fine
add_octet_time-requires-clause-fine c =
    let width = octet_time-width c.args.value.now.shape c.in-Cuc.coarse c.in-Cuc.fine c.width-width.ensures.encoding (sym c.sort.ensures ∙ c.in-Cuc.is) in omega arith

pub add_octet_time-requires-clause-inside : goal.add_octet_time-requires-clause-inside
add_octet_time-requires-clause-inside c =
    let width = octet_time-width c.args.value.now.shape c.in-Cuc.coarse c.in-Cuc.fine c.width-width.ensures.encoding (sym c.sort.ensures ∙ c.in-Cuc.is) in
    let inside = leb-true (c.args.value.now.at + c.args.value.now.shape.width) (8 * length c.args.packet.now) c.requires.inside in
    omega arith
