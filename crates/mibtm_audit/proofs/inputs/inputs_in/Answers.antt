use Rattle.std.proofs.Common.{◌∙◌, sym, refl, true, false, Some, None}
use Rattle.mibtm_audit.proofs.OperandFacts.{command-of, no-words-command}
use Rattle.mibtm_audit.specs.Operands.{named}
use Rattle.mibtm_audit.proofs.inputs.inputs_in.Goals as goal

pub returns-in-empty : goal.returns-in-empty
returns-in-empty c = sym (no-words-command c.args.words.now c.in-empty.len_below)

pub returns-in-Some : goal.returns-in-Some
returns-in-Some c =
    sym (command-of c.args.words.now c.command-item.result c.as_str.result.now true (Some (named c.in-Some.inputs)) c.in-len1-up.len_at_least c.command-item.is c.as_str.ensures.value
    (sym c.eq.ensures ∙ c.if-eq.true) (sym c.in-Some.ensures))

pub returns-in-None : goal.returns-in-None
returns-in-None c =
    sym (command-of c.args.words.now c.command-item.result c.as_str.result.now true None c.in-len1-up.len_at_least c.command-item.is c.as_str.ensures.value
    (sym c.eq.ensures ∙ c.if-eq.true) (sym c.in-None.ensures))

pub returns-else-eq : goal.returns-else-eq
returns-else-eq c =
    sym (command-of c.args.words.now c.command-item.result c.as_str.result.now false _ c.in-len1-up.len_at_least c.command-item.is c.as_str.ensures.value
    (sym c.eq.ensures ∙ c.if-eq.false) refl)
