use Rattle.packet_run.proofs.Common.{[], ◌∙◌, ◌∷◌, ◌≡◌, Account, account_of, ap, inr, joined_jobs, joined_results, List, Pass, Ready, reverse, reverse-append, subst, sym}
use Rattle.packet_run.proofs.beside.join_all.Goals as goal

pub loop-taken-preserved : goal.loop-taken-preserved
loop-taken-preserved g c =
    let rest = reverse c.pop-in-Some.new.self.items in let i = c.loop-taken.invariant in
    let rev : reverse c.loop-taken.passes.items ≡ c.in-Some.taken ∷ c.in-Some-pop.given ∷ rest =
    ap reverse c.in-Some.ensures.items ∙ reverse-append c.pop.new.self.items (c.in-Some.taken ∷ [])
    ∙ ap (λ l. c.in-Some.taken ∷ l) (ap reverse c.in-Some-pop.ensures.items ∙ reverse-append c.pop-in-Some.new.self.items (c.in-Some-pop.given ∷ [])) in
    record {
      own = (c.join.ensures.pass, c.join-in-Some.ensures.pass);
      ready = (subst (λ (l : List (Pass _)). Ready c.args.crew.now.jobs c.args.crew.now.results l) rev i.ready).2;
      jobs = ap (λ (a : Account _). joined_jobs a rest) c.join.ensures.account ∙ sym (ap (joined_jobs (account_of c.loop-taken.first)) rev) ∙ i.jobs;
      results = ap (λ (a : Account _). joined_results a rest) c.join-in-Some.ensures.account ∙ sym (ap (joined_results (account_of c.loop-taken.second)) rev)
          ∙ i.results;
      told = inr (c.join.ensures.balance, c.join-in-Some.ensures.balance);
    }
