use Rattle.std.proofs.Common.{◌≡◌, ◌≤◌, ◌-◌, length, take}
use Rattle.std.specs.List.{All, concat}
use Rattle.decode_session.proofs.job.DrawingJob.take.Given as goal
use Rattle.mib_model.specs.Packets.{IsPacket}

abbrev pub invariant-loop-at : goal.invariant-loop-at
invariant-loop-at l = record {
  number : l.self.number ≡ l.number;
  drawn : l.self.drawn ≡ 0;
  are_packets : All IsPacket l.self.stretch.packets;
  within : l.at ≤ length l.octets;
  octets : concat l.self.stretch.packets ≡ take l.at l.octets;
}

abbrev pub decreases-loop-at : goal.decreases-loop-at
decreases-loop-at l = 64 - length l.self.stretch.packets
