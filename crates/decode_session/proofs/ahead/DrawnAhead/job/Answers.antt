use Rattle.std.proofs.Common.{◌<◌, length, arith}
use Rattle.decode_session.proofs.AheadFacts.{found-come, found-job}
use Rattle.decode_session.proofs.ahead.DrawnAhead.job.Goals as goal

pub returns-then-job-gt0-clause-job : goal.returns-then-job-gt0-clause-job
returns-then-job-gt0-clause-job c = λ db dealt.
    let jobs = c.args.self.now.jobs in
    let below : c.args.self.now.next < length jobs.items = let within = c.if-self-len.false in let count = c.len.ensures in omega (arith, jobs.ok.0) in
    found-job db c.args.number jobs.items c.args.self.now.next c.index-job.result.now below c.index-job.ensures dealt

pub returns-then-job-gt0-clause-come : goal.returns-then-job-gt0-clause-come
returns-then-job-gt0-clause-come c = λ db left dealt come.
    let jobs = c.args.self.now.jobs in
    let below : c.args.self.now.next < length jobs.items = let within = c.if-self-len.false in let count = c.len.ensures in omega (arith, jobs.ok.0) in
    found-come db c.args.number jobs.items c.args.self.now.next c.index-job.result.now below c.index-job.ensures dealt left c.if-job-number.true come
