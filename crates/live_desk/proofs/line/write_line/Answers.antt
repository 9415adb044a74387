use Rattle.std.proofs.Common.{List, ℕ, sym, subst}
use Rattle.std.specs.Io.KnownBytes.{Appends}
use Rattle.live_desk.proofs.ComesFacts.{on-err, part-same}
use Rattle.live_desk.proofs.line.write_line.Goals as goal

pub returns-clause-part : goal.returns-clause-part
returns-clause-part g c =
    on-err c.flush.result _ (part-same c.args.line.now (g.P.Sink.written c.args.replies.now) (g.P.Sink.written c.flush.new.self)
    (subst (λ w. Appends (g.P.Sink.written c.args.replies.now) w c.args.line.now) (sym c.flush.ensures.bytes)
    (subst (λ (t : List ℕ). Appends (g.P.Sink.written c.args.replies.now) (g.P.Sink.written c.write_all.new.out) t) c.bytes.ensures.bytes c.in_ok-write_all.ensures.all)))
