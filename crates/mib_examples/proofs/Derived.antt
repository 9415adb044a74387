-- Examples of relations, derived.
use Rattle.std.proofs.Common.{ℕ, zero, suc, ◌<◌, List, [], ◌∷◌, ◌++◌, length, codes, Some, None, refl, inl, false, length-take, arith}
use Rattle.std.specs.List.{All}
use Rattle.run_model.specs.declared.register.Answer.TheVariants as answer
use Rattle.run_model.specs.declared.register.Entry.TheVariants as entry
use Rattle.run_model.specs.declared.reply.Reply.TheVariants as reply
use Rattle.mib_model.specs.Database.{no_rows}
use Rattle.run_model.specs.Desk.{Plain, desk_start}
use Rattle.run_model.specs.DeskWays.{way_of}
use Rattle.run_model.specs.DeskLines.{request_of}
use Rattle.run_model.specs.DeskRuns.{IsDesk}
use Rattle.mib_model.specs.Packets.{IsPacket, IsCut, BeginsNoPacket}
use Rattle.mib_examples.specs.Given.{packet_a}
use Rattle.mib_examples.specs.PacketExamples.{begun}

-- fewer than seven octets begin no packet
short-rest : (rest : List ℕ) → length rest < 7 → BeginsNoPacket rest
short-rest rest short n le packet = omega (arith, short, packet, length-take n rest)

one : All IsPacket (packet_a ∷ [])
one zero d lt = refl
one (suc k) d lt = absurd (omega (arith, lt))

pub cut : IsCut (packet_a ++ begun) (packet_a ∷ []) begun
cut = record { whole = refl; each = one; begins_none = short-rest begun (omega arith) }

pub desk :
    IsDesk false (desk_start no_rows) (codes "use 9" ∷ codes "# and then" ∷ codes "go" ∷ [])
    ((entry.Use 9, answer.NoEdition 1) ∷ []) (Plain (reply.NoEdition 1) ∷ Plain reply.Go ∷ []) (desk_start no_rows)
unfolding way_of request_of
desk = record {
  runs =
      record { line = codes "use 9"; old = desk_start no_rows; calls = (entry.Use 9, answer.NoEdition 1) ∷ []; reply = Some (Plain (reply.NoEdition 1)); new = desk_start no_rows } ∷
      record { line = codes "# and then"; old = desk_start no_rows; calls = []; reply = None; new = desk_start no_rows } ∷
      record { line = codes "go"; old = desk_start no_rows; calls = []; reply = Some (Plain reply.Go); new = desk_start no_rows } ∷ [];
  of_lines = refl;
  chain = (refl, inl (refl, (refl, refl, refl)), (refl, inl (refl, refl, refl), (refl, inl (refl, refl, refl), refl)));
  in_calls = refl;
  in_replies = refl;
}
