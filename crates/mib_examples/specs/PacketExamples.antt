-- Packets and their cut, what is kept, alarms, a desk's run and the end of a run. [CCSDS 133.0-B for the header; else this profile.]
use Rattle.std.specs.Prelude.{◌≡◌, ℕ, List, [], ◌∷◌, ◌++◌, codes, Some, None, true, false, pos}
use Rattle.mib_model.specs.declared.check.Change.TheVariants.{Alarm, Clear}
use Rattle.mib_model.specs.declared.check.Class.TheVariants.{Nominal, Hard, Soft}
use Rattle.run_model.specs.declared.code.Code.TheVariants as code
use Rattle.mib_model.specs.declared.packet.Value.{Value}
use Rattle.run_model.specs.declared.register.Answer.TheVariants as answer
use Rattle.run_model.specs.declared.register.Entry.TheVariants as entry
use Rattle.run_model.specs.declared.reply.Reply.TheVariants as reply
use Rattle.mib_model.specs.declared.shape.Order.TheVariants.{Big}
use Rattle.mib_model.specs.declared.shape.Sort.TheVariants.{Unsigned}
use Rattle.mib_model.specs.Alarms.{alarm}
use Rattle.mib_model.specs.Database.{no_rows}
use Rattle.run_model.specs.Desk.{Plain, desk_start}
use Rattle.run_model.specs.DeskRuns.{IsDesk}
use Rattle.run_model.specs.Endings.{code_of_ending}
use Rattle.mib_model.specs.Headers.{header_of}
use Rattle.mib_model.specs.Kept.{empty_memory, entered, holds}
use Rattle.mib_model.specs.Packets.{IsPacket, IsCut}
use Rattle.mib_examples.specs.Given.{database, packet_a, shared}

-- the value 7 of a parameter of 8 bits
abbrev pub seven : Value
seven = record { name = codes "P"; at = 80; raw = pos 7; shape = record { sort = Unsigned; width = 8; order = Big } }

-- a packet, and four octets of a further one
abbrev pub begun : List ℕ
begun = 0x08 ∷ 0x64 ∷ 0xC0 ∷ 0x01 ∷ []

-- a header, a packet and a cut
pub record PacketExamples : Type 0 where
  pub header : header_of packet_a ≡ record { version = 0; telecommand = false; secondary = true; apid = 100; flags = 3; count = 0; length = 5 }
  pub packet : IsPacket packet_a
  pub cut : IsCut (packet_a ++ begun) (packet_a ∷ []) begun

-- what is kept, and steps of the alarm
pub record StateExamples : Type 0 where
  pub latest : holds (entered empty_memory seven) (codes "P") (pos 7) ≡ true
  pub not_seen : holds empty_memory (codes "P") (pos 0) ≡ false
  pub told : alarm (None, 1) Soft 2 ≡ ((Some Soft, 2), Some (Alarm Soft))
  pub not_yet : alarm (None, 0) Soft 2 ≡ ((None, 1), None)
  pub changed : alarm (Some Soft, 2) Hard 2 ≡ ((Some Hard, 2), Some (Alarm Hard))
  pub cleared : alarm (Some Soft, 2) Nominal 2 ≡ ((None, 0), Some (Clear Soft))

-- how runs end, and a desk of three lines
pub record EndExamples : Type 0 where
  pub first_fault :
      code_of_ending (record { out_failed = false; replies_failed = true; feed_failed = true; desk_failed = false; rest = 3; is_limit = false })
      ≡ code.ReplyFault
  pub rest :
      code_of_ending (record { out_failed = false; replies_failed = false; feed_failed = false; desk_failed = false; rest = 11; is_limit = false })
      ≡ code.Cut 11
  pub limit :
      code_of_ending (record { out_failed = false; replies_failed = false; feed_failed = false; desk_failed = false; rest = 0; is_limit = true })
      ≡ code.Limit
  pub desk :
      IsDesk false (desk_start no_rows) (codes "use 9" ∷ codes "# and then" ∷ codes "go" ∷ [])
      ((entry.Use 9, answer.NoEdition 1) ∷ []) (Plain (reply.NoEdition 1) ∷ Plain reply.Go ∷ []) (desk_start no_rows)
