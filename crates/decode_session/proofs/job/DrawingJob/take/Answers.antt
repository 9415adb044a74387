use Rattle.std.proofs.Common.{◌≡◌, ◌++◌, ◌∷◌, [], List, ℕ, length, take, drop, ap, sym, subst, ◌∙◌, append-nil, take-add, length-take, length-drop, arith}
use Rattle.std.specs.List.{All, concat}
use Rattle.std.proofs.lemmas.List.{take_rest}
use Rattle.std.proofs.lemmas.List.Elements.{All-push}
use Rattle.std.proofs.lemmas.List.Folds.{concat-append}
use Rattle.decode_session.proofs.job.DrawingJob.take.Goals as goal
use Rattle.mib_model.specs.Packets.{IsPacket}

pub loop-at-preserved : goal.loop-at-preserved
loop-at-preserved c =
    let inv = c.loop-at.invariant in
    let octets = c.args.octets.now in
    let at = c.loop-at.at in
    let packet = c.in-Some.packet.now in
    let before = c.loop-at.self.stretch.packets in
    let more = ap (λ s. s.packets) c.add.ensures in
    let front : take (length packet) (drop at octets) ≡ packet = subst (λ l. take (length packet) l ≡ packet) (take_rest octets at) c.in-Some.ensures.front in
    record {
      number = inv.number;
      drawn = inv.drawn;
      are_packets = subst (All IsPacket) (sym more) (All-push IsPacket before packet inv.are_packets c.in-Some.ensures.whole);
      within = omega (arith, ap (λ (l : List ℕ). length l) front, length-take (length packet) (drop at octets), length-drop at octets, inv.within);
      octets = ap concat more ∙ concat-append before (packet ∷ []) ∙ (λ i. inv.octets i ++ append-nil packet i) ∙ sym (take-add at (length packet) octets ∙ ap (λ l. take at octets ++ l) front);
    }
