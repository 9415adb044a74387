use Rattle.first_rows.proofs.first_rows.numbered_firsts.Goals as goal

pub loop-row-preserved : goal.loop-row-preserved
loop-row-preserved g c = c.put_first.ensures c.args.rows.now c.requires c.loop-row.invariant
