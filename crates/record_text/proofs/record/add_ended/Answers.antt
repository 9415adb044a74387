use Rattle.std.proofs.Common.{append_assoc, rules}
use Rattle.std.proofs.lemmas.Int.{to_z-of_z}
use mir.Val.{SFits}
use mir.Syntax.{w128}
use Rattle.record_text.proofs.record.add_ended.Goals as goal

pub returns-in-NoStructure-clause-text : goal.returns-in-NoStructure-clause-text
returns-in-NoStructure-clause-text c =
    let fits : SFits w128 c.in-NoStructure.tpsd = search rules in
    let text = simp (to_z-of_z, append_assoc) at c.add_numbered.ensures.text in
    rw c.in-NoStructure.is text

pub returns-in-NoParameter-clause-text : goal.returns-in-NoParameter-clause-text
returns-in-NoParameter-clause-text c =
    let fits : SFits w128 c.in-NoParameter.pid = search rules in
    let text = simp (to_z-of_z, append_assoc) at c.add_numbered-in-NoParameter.ensures.text in
    rw c.in-NoParameter.is text
