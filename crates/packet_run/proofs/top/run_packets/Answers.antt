use Rattle.packet_run.proofs.Common.{◌∙◌, ◌≡◌, arc_value, Database, is_made_for, subst, sym, true}
use Rattle.packet_jobs.proofs.BoardFacts.{made-names}
use Rattle.packet_run.proofs.SettleFacts.{all_right}
use Rattle.packet_run.proofs.top.run_packets.Goals as goal

pub at_first-in_use-requires : goal.at_first-in_use-requires
at_first-in_use-requires g c =
    let db = g.P.Structures.tables (arc_value c.args.first) in
    let same = sym c.requires.first ∙ c.requires.same (arc_value c.args.first) in
    record { made = made-names db c.args.board (subst (λ (d : Database). is_made_for d c.args.board ≡ true) same c.requires.board.0) }

pub returns-clause-runs : goal.returns-clause-runs
returns-clause-runs g c =
    let e = c.run_beside-ended.ensures in let d = e.drove in let stock = c.deal.new.self in
    d.runs (all_right g.P.Structures.tables stock.crew.jobs stock.crew.results stock.passes.items _ stock.pipeline _ d.stamped d.made d.limit
    c.deal.ensures.dealt.stocked c.deal.ensures.dealt.unused.given e.pipeline.1 d.holds d.puts e.serves.0
    c.join_all.ensures.jobs c.join_all.ensures.results)
