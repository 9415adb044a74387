use Rattle.std.proofs.Common.{◌≡◌, ◌+◌, ◌-◌, ◌∷◌, [], ℕ, replicate, append_assoc, arith}
use Rattle.std.proofs.lemmas.List.{replicate-append-replicate}
use Rattle.mib_rows.proofs.line_writer.LineWriter.go.Goals as goal

pub loop-i-preserved : goal.loop-i-preserved
loop-i-preserved c =
    let start = c.args.self.now.at in
    let count : c.loop-i.i + 1 - start ≡ c.loop-i.i - start + 1 = omega arith in
    let more = replicate-append-replicate {A = ℕ} (c.loop-i.i - start) 1 9 in
    record {
      tabs = rw (c.in_ok-push.ensures.items, c.loop-i.invariant.tabs, count, ← more) (append_assoc c.args.self.now.line.items (replicate (c.loop-i.i - start) 9) (9 ∷ []));
      still = c.loop-i.invariant.still;
    }
