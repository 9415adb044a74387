use Rattle.std.proofs.Common.{◌∙◌, sym, false, map, string_bytes}
use Rattle.mibtm_audit.specs.Operands.{without}
use Rattle.mibtm_audit.proofs.OperandFacts.{four-words, shared-words}
use Rattle.mibtm_audit.proofs.inputs.inputs_at.Goals as goal

pub returns-then-is_shared : goal.returns-then-is_shared
returns-then-is_shared c =
    sym (shared-words (without c.args.end (map string_bytes c.args.words.now)) c.operand-feed.result.now c.operand-desk.result.now c.operand-text.result.now c.requires.four
    c.operand-feed.ensures c.operand-desk.ensures c.operand-text.ensures (sym c.is_shared.ensures ∙ c.if-is_shared.true))

pub returns : goal.returns
returns c =
    sym (four-words (without c.args.end (map string_bytes c.args.words.now)) c.operand.result.now c.operand-feed.result.now c.operand-desk.result.now c.operand-text.result.now false c.requires.four
    c.operand.ensures c.operand-feed.ensures c.operand-desk.ensures c.operand-text.ensures (sym c.is_shared.ensures ∙ c.if-is_shared.false))
