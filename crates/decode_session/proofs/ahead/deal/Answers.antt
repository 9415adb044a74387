use Rattle.std.proofs.Common.{◌≡◌, ◌-◌, ◌++◌, length, take, drop, sym, subst, ap, ◌∙◌, take-append-drop, length-set, arith}
use Rattle.std.specs.List.{concat}
use Rattle.std.proofs.lemmas.List.{take_more_set, take_rest}
use Rattle.decode_session.specs.Ahead.{AreJobs, packets_of}
use Rattle.decode_session.proofs.AheadFacts.{count-push, jobs-push, octets-push}
use Rattle.decode_session.proofs.ahead.deal.Goals as goal

pub loop-job-preserved : goal.loop-job-preserved
loop-job-preserved c =
    let i = c.loop-job.job-index in
    let jobs = c.loop-job.jobs in
    let v = c.take-taken.new.self in
    let taken = c.take-taken.result in
    let inv = c.loop-job.invariant in
    let below = c.loop-job-test.true in
    let more = take_more_set jobs i v (omega (arith, below, inv.length)) in
    let left = c.loop-job.left.now in
    let behind = take (length left - taken) (drop taken left) in
    let rest : left ≡ concat v.stretch.packets ++ behind =
    sym (take-append-drop taken left) ∙ (λ k. sym c.take-taken.ensures.octets k ++ sym (take_rest left taken) k) in
    record {
      jobs = λ db. subst (AreJobs db c.args.number) (sym more) (jobs-push db c.args.number (take i jobs) v (inv.jobs db) (c.take-taken.ensures.number ∙ inv.next) (c.take-taken.ensures.job db));
      octets = subst (λ js. c.args.octets.now ≡ concat (packets_of js) ++ behind) (sym more) (octets-push (take i jobs) v c.args.octets.now left behind inv.octets rest);
      next = let count = ap (λ js. length (packets_of js)) more ∙ count-push (take i jobs) v in let one = c.len.ensures in omega (arith, count, one, inv.next);
      low = let few = v.few in let one = c.len.ensures in omega (arith, few, one, inv.low);
      length = length-set jobs i v ∙ inv.length;
    }
