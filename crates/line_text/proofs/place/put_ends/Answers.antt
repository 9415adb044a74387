use Rattle.std.proofs.Common.{◌+◌, ◌-◌, ◌++◌, List, ℕ, take, length, ap, ◌∙◌}
use Rattle.line_text.proofs.PlaceFacts.{both_ends}
use Rattle.line_text.proofs.place.put_ends.Goals as goal

pub returns-clause-text : goal.returns-clause-text
returns-clause-text g c =
    let text = c.args.text.now in
    let first = c.put.ensures.text ∙ ap (λ (part : List ℕ). take c.args.at c.args.octets.now ++ part) c.part-first.ensures in
    let last = c.put-2.ensures.text ∙ ap (λ (part : List ℕ). take (c.args.at + (length text - g.row.N)) c.put.new.octets ++ part) c.part-last.ensures in
    both_ends c.args.octets.now c.put.new.octets c.put-2.new.octets text c.args.at g.row.N first last
    c.put.ensures.kept c.requires.fits c.requires.some c.requires.few
