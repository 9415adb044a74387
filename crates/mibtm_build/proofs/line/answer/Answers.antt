use Rattle.std.proofs.Common.{◌∙◌, sym}
use Rattle.mibtm_build.proofs.AnswerFacts.{asked-for, passed-over}
use Rattle.mibtm_build.proofs.line.answer.Goals as goal

pub returns-then-is_passed_over-clause-answers : goal.returns-then-is_passed_over-clause-answers
returns-then-is_passed_over-clause-answers c = passed-over c.args.builder.now c.args.line.now c.args.into.now (sym c.is_passed_over.ensures ∙ c.if-is_passed_over.true)

pub returns-clause-answers : goal.returns-clause-answers
returns-clause-answers c =
    asked-for c.args.builder.now c.args.line.now c.build_line.new.into c.build_line.result (sym c.is_passed_over.ensures ∙ c.if-is_passed_over.false) c.build_line.ensures.built
