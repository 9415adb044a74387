use Rattle.std.proofs.Common.{subst, ℕ}
use Rattle.mibtm_build.proofs.AnswerFacts.{long-comes-of}
use Rattle.mibtm_build.specs.Runs.{Handles, standing_of}
use Rattle.mibtm_build.proofs.run.next_line.Goals as goal

pub returns-in-TooLong-clause-comes : goal.returns-in-TooLong-clause-comes
returns-in-TooLong-clause-comes g c =
    let (line, long, front, takes) = c.in-TooLong.ensures.gives in
    let before = standing_of g.D.Source.left g.O.Sink.written c.args.reader.now c.args.out.now in
    let after = standing_of g.D.Source.left g.O.Sink.written c.next.new.self c.handle-in-TooLong.new.out in
    long-comes-of c.args.builder.now before after c.handle-in-TooLong.result c.next.new.into line long front takes
    (subst (λ (n : ℕ). Handles c.handle-in-TooLong.result c.args.builder.now n c.next.new.into before.written after.written) c.requires.number c.handle-in-TooLong.ensures.handles)
