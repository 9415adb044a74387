use Rattle.std.specs.Str.{bytes_eq}
use Rattle.param_state.proofs.DemandFacts.{notes-all, notes-next}
use Rattle.param_state.proofs.demands.Noting.note_selections.Goals as goal

pub loop-cur-preserved : goal.loop-cur-preserved
loop-cur-preserved c =
    notes-next (λ name row. bytes_eq row.rlchk name) c.args.params.now c.args.curs.now c.loop-cur.cur-index c.cur-item.result c.args.self.now.demands.items c.loop-cur.self.demands.items
    c.note.new.self.demands.items c.loop-cur-test.true c.cur-item.is c.loop-cur.invariant c.note.ensures

pub returns : goal.returns
returns c =
    notes-all (λ name row. bytes_eq row.rlchk name) c.args.params.now c.args.curs.now c.loop-cur.cur-index c.args.self.now.demands.items c.loop-cur.self.demands.items c.loop-cur-test.false c.loop-cur.invariant
