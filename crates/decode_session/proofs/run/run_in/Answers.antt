use Rattle.std.proofs.Common.{◌≢◌, ◌≤◌, ℕ, refl, sym, subst, ap, ◌∙◌, arith}
use Rattle.std.specs.Prelude.{IfSome}
use Rattle.decode_session.specs.declared.batch.Filled.TheVariants as filled
use Rattle.decode_session.specs.Ahead.{AreDealt, Come, packets_from}
use Rattle.decode_session.specs.Batches.{Reads}
use Rattle.decode_session.specs.Causes.{HasFillCause}
use Rattle.decode_session.proofs.AheadFacts.{come-next, dealt-next, under, unused-come, unused-dealt}
use Rattle.decode_session.proofs.RunSteps.{going-paused, going-start, going-same, ran-unhanded, ran-whole, ran-fault, ran-cut, ran-stopped_at_rest, ran-limit}
use Rattle.decode_session.proofs.TurnFacts.{err-of, going-next, ok-of, stopped-next}
use Rattle.decode_session.proofs.run.run_in.Goals as goal
use Rattle.edition_plans.specs.Params.{param_slices}
use Rattle.fold_state.specs.Boards.{memory_of}
use Rattle.param_state.specs.Demands.{asked_in}
use Rattle.memory_laws.proofs.AlikeFacts.{alike-same}
use Rattle.packet_feed.specs.Feed.{source_of}

pub loop-number-init : goal.loop-number-init
loop-number-init g c =
    let db = g.P.Structures.tables c.args.plans.now in
    let left = g.S.Source.left (source_of c.args.feed.now) in
    let memory = memory_of c.args.stock.now.board in
    record {
      stock = c.requires.stock;
      limit = omega arith;
      dealt = unused-dealt db c.args.stock.now.ahead.jobs.items c.requires.unused;
      come = unused-come db c.args.stock.now.ahead.jobs.items left c.requires.unused;
      going = (memory, alike-same (asked_in (param_slices db)) memory, going-start db memory left (g.O.Sink.written c.args.out.now) c.requires.memory);
      feed = refl;
      stays = (refl, refl, refl);
      out = refl;
    }

pub returns-in_default-clause-ran : goal.returns-in_default-clause-ran
returns-in_default-clause-ran g c =
    let db = g.P.Structures.tables c.args.plans.now in
    ran-unhanded db c.loop-number.number _ _ c.loop-number.invariant.going.0 _ _ _ _ c.loop-number-test.true
    (going-same db c.loop-number.number c.loop-number.invariant.going.0 _ _ _ _ _ c.hand_on_before_wait.ensures.written c.loop-number.invariant.going.2)

pub returns-then-is_err-clause-ran : goal.returns-then-is_err-clause-ran
returns-then-is_err-clause-ran g c =
    let db = g.P.Structures.tables c.args.plans.now in
    let start = g.S.Source.left (source_of c.args.feed.now) in
    let n = c.loop-number.number in
    let m = c.loop-number.invariant.going.0 in
    let so_far = going-same db n m _ _ _ _ _ c.hand_on_before_wait.ensures.written c.loop-number.invariant.going.2 in
    let come = under start _ _ c.draw.ensures.come c.loop-number.invariant.come in
    let stopped = err-of c.print_next-next.result.2 _ (sym c.is_err.ensures.value ∙ c.if-is_err.true) c.print_next-next.ensures.part in
    let (packets, reads, part) = stopped start m come c.loop-number.invariant.going.1 in
    stopped-next db n c.print_next-next.result.1 c.print_next-next.result.0 m packets start _ _ _ _ _ reads so_far
    (g.S.Source.faults (source_of c.args.feed.now)) (g.S.Source.faults (source_of c.print_next-next.new.feed)) c.print_next-next.ensures.few.0 c.print_next-next.ensures.few.1
    (subst (λ (k : ℕ). HasFillCause c.print_next-next.result.1 k (g.S.Source.faults (source_of c.print_next-next.new.feed))) c.loop-number.invariant.feed c.print_next-next.ensures.cause) part

pub loop-number-preserved : goal.loop-number-preserved
loop-number-preserved g c =
    let db = g.P.Structures.tables c.args.plans.now in
    let start = g.S.Source.left (source_of c.args.feed.now) in
    let n = c.loop-number.number in
    let m = c.loop-number.invariant.going.0 in
    let so_far = going-same db n m _ _ _ _ _ c.hand_on_before_wait.ensures.written c.loop-number.invariant.going.2 in
    let come = under start _ _ c.draw.ensures.come c.loop-number.invariant.come in
    let done = ok-of c.print_next-next.result.2 _ (sym c.is_err.ensures.value ∙ c.if-is_err.false) c.print_next-next.ensures.done in
    let (after, still, (packets, reads, prints)) = done start come m c.loop-number.invariant.going.1 in
    let jobs = c.draw.new.self.jobs.items in
    let next = c.print_next-next.result.0 in
    let left = g.S.Source.left (source_of c.loop-number.feed) in
    let new = g.S.Source.left (source_of c.print_next-next.new.feed) in
    let paused = subst (λ f. Reads f start n next packets left new) c.in-Paused.is reads in
    let same = ap (λ v. v.items) c.print_next-next.ensures.stock.1 in
    record {
      stock = c.print_next-next.ensures.stock.0;
      limit = c.print_next-next.ensures.few.1;
      dealt = subst (AreDealt db next) (sym same) (dealt-next db n next jobs (omega (arith, paused.count)) c.draw.ensures.dealt);
      come = subst (λ js. IfSome start (λ octets. Come (packets_from next js) new)) (sym same) (come-next db n next jobs packets start left new c.draw.ensures.dealt paused come);
      going = (after, still, going-paused db next after packets start paused.middle new _ _ paused.ends (going-next db n filled.Paused next m packets start left new _ _ _ paused so_far after prints));
      feed = subst (λ f. HasFillCause f (g.S.Source.faults (source_of c.loop-number.feed)) (g.S.Source.faults (source_of c.print_next-next.new.feed))) c.in-Paused.is c.print_next-next.ensures.cause ∙ c.loop-number.invariant.feed;
      stays = (c.print_next-next.ensures.kept.0 ∙ c.loop-number.invariant.stays.0, c.print_next-next.ensures.kept.1 ∙ c.loop-number.invariant.stays.1, c.print_next-next.ensures.kept.2 ∙ c.loop-number.invariant.stays.2);
      out = ok-of c.print_next-next.result.2 _ (sym c.is_err.ensures.value ∙ c.if-is_err.false) c.print_next-next.ensures.out.ok ∙ c.in-Ok.ensures.cause.ok ∙ c.loop-number.invariant.out;
    }

pub returns-in-End-clause-ran : goal.returns-in-End-clause-ran
returns-in-End-clause-ran g c =
    let db = g.P.Structures.tables c.args.plans.now in
    let start = g.S.Source.left (source_of c.args.feed.now) in
    let n = c.loop-number.number in
    let m = c.loop-number.invariant.going.0 in
    let so_far = going-same db n m _ _ _ _ _ c.hand_on_before_wait.ensures.written c.loop-number.invariant.going.2 in
    let come = under start _ _ c.draw.ensures.come c.loop-number.invariant.come in
    let done = ok-of c.print_next-next.result.2 _ (sym c.is_err.ensures.value ∙ c.if-is_err.false) c.print_next-next.ensures.done in
    let (after, still, (packets, reads, prints)) = done start come m c.loop-number.invariant.going.1 in
    let ended = subst (λ f. Reads f start n c.print_next-next.result.0 packets (g.S.Source.left (source_of c.loop-number.feed)) (g.S.Source.left (source_of c.print_next-next.new.feed))) c.in-End.is reads in
    ran-whole db c.print_next-next.result.0 after start ended.middle _ _ _ (subst (λ f. f ≢ filled.Paused → c.print_next-next.result.0 ≤ 1000000000) c.in-End.is c.print_next-next.ensures.below (λ e. cc)) (ended.of_feed (λ e. cc))
    (going-next db n filled.End c.print_next-next.result.0 m packets start _ _ _ _ _ ended so_far after prints)

pub returns-in-Ok-write_cut-clause-ran : goal.returns-in-Ok-write_cut-clause-ran
returns-in-Ok-write_cut-clause-ran g c =
    let db = g.P.Structures.tables c.args.plans.now in
    let start = g.S.Source.left (source_of c.args.feed.now) in
    let n = c.loop-number.number in
    let m = c.loop-number.invariant.going.0 in
    let so_far = going-same db n m _ _ _ _ _ c.hand_on_before_wait.ensures.written c.loop-number.invariant.going.2 in
    let come = under start _ _ c.draw.ensures.come c.loop-number.invariant.come in
    let done = ok-of c.print_next-next.result.2 _ (sym c.is_err.ensures.value ∙ c.if-is_err.false) c.print_next-next.ensures.done in
    let (after, still, (packets, reads, prints)) = done start come m c.loop-number.invariant.going.1 in
    let ended = subst (λ f. Reads f start n c.print_next-next.result.0 packets (g.S.Source.left (source_of c.loop-number.feed)) (g.S.Source.left (source_of c.print_next-next.new.feed))) c.in-Cut.is reads in
    ran-cut db c.print_next-next.result.0 c.in-Cut.octets after start ended.middle _ _ _ _ (subst (λ f. f ≢ filled.Paused → c.print_next-next.result.0 ≤ 1000000000) c.in-Cut.is c.print_next-next.ensures.below (λ e. cc))
    (ended.of_feed (λ e. cc)) c.in-Ok-write_cut.ensures.all
    (going-next db n (filled.Cut c.in-Cut.octets) c.print_next-next.result.0 m packets start _ _ _ _ _ ended so_far after prints)

pub returns-in-Err-clause-ran : goal.returns-in-Err-clause-ran
returns-in-Err-clause-ran g c =
    let db = g.P.Structures.tables c.args.plans.now in
    let start = g.S.Source.left (source_of c.args.feed.now) in
    let n = c.loop-number.number in
    let m = c.loop-number.invariant.going.0 in
    let so_far = going-same db n m _ _ _ _ _ c.hand_on_before_wait.ensures.written c.loop-number.invariant.going.2 in
    let come = under start _ _ c.draw.ensures.come c.loop-number.invariant.come in
    let done = ok-of c.print_next-next.result.2 _ (sym c.is_err.ensures.value ∙ c.if-is_err.false) c.print_next-next.ensures.done in
    let (after, still, (packets, reads, prints)) = done start come m c.loop-number.invariant.going.1 in
    let ended = subst (λ f. Reads f start n c.print_next-next.result.0 packets (g.S.Source.left (source_of c.loop-number.feed)) (g.S.Source.left (source_of c.print_next-next.new.feed))) c.in-Cut.is reads in
    ran-stopped_at_rest db c.print_next-next.result.0 c.in-Cut.octets _ _ after start ended.middle _ _ _ _ (subst (λ f. f ≢ filled.Paused → c.print_next-next.result.0 ≤ 1000000000) c.in-Cut.is c.print_next-next.ensures.below (λ e. cc))
    (ended.of_feed (λ e. cc))
    (subst (λ f. HasFillCause f (g.S.Source.faults (source_of c.loop-number.feed)) (g.S.Source.faults (source_of c.print_next-next.new.feed))) c.in-Cut.is c.print_next-next.ensures.cause ∙ c.loop-number.invariant.feed) c.in-Err.ensures.part
    (going-next db n (filled.Cut c.in-Cut.octets) c.print_next-next.result.0 m packets start _ _ _ _ _ ended so_far after prints)

pub returns-in-Failed-clause-ran : goal.returns-in-Failed-clause-ran
returns-in-Failed-clause-ran g c =
    let db = g.P.Structures.tables c.args.plans.now in
    let start = g.S.Source.left (source_of c.args.feed.now) in
    let n = c.loop-number.number in
    let m = c.loop-number.invariant.going.0 in
    let so_far = going-same db n m _ _ _ _ _ c.hand_on_before_wait.ensures.written c.loop-number.invariant.going.2 in
    let come = under start _ _ c.draw.ensures.come c.loop-number.invariant.come in
    let done = ok-of c.print_next-next.result.2 _ (sym c.is_err.ensures.value ∙ c.if-is_err.false) c.print_next-next.ensures.done in
    let (after, still, (packets, reads, prints)) = done start come m c.loop-number.invariant.going.1 in
    let ended = subst (λ f. Reads f start n c.print_next-next.result.0 packets (g.S.Source.left (source_of c.loop-number.feed)) (g.S.Source.left (source_of c.print_next-next.new.feed))) c.in-Failed.is reads in
    ran-fault db c.print_next-next.result.0 after start ended.middle _ _ _ (subst (λ f. f ≢ filled.Paused → c.print_next-next.result.0 ≤ 1000000000) c.in-Failed.is c.print_next-next.ensures.below (λ e. cc)) (ended.of_feed (λ e. cc))
    (going-next db n filled.Failed c.print_next-next.result.0 m packets start _ _ _ _ _ ended so_far after prints)

pub returns-clause-ran : goal.returns-clause-ran
returns-clause-ran g c =
    let last = c.loop-number-test.false in let limit = c.loop-number.invariant.limit in
    ran-limit (g.P.Structures.tables c.args.plans.now) c.loop-number.number c.loop-number.invariant.going.0 _ _ _ _ (omega arith) c.loop-number.invariant.going.2

pub loop-number-smaller : goal.loop-number-smaller
loop-number-smaller g c = let more = c.print_next-next.ensures.some c.in-Paused.is in let below = c.loop-number-test.true in omega arith
