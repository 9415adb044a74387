-- The reply to a row or a key that isn't read. [This profile.]
use Rattle.run_model.specs.declared.reply.Reply.{Reply}
use Rattle.run_model.specs.declared.reply.Reply.TheVariants as reply
use Rattle.mib_rows.specs.declared.read_fault.ReadFault.{ReadFault}
use Rattle.mib_rows.specs.declared.read_fault.ReadFault.TheVariants as faults

-- the reply by why it isn't read: its fault, or want of memory
abbrev pub refusal_of : ReadFault → Reply
refusal_of (faults.Mib fault) = reply.BadRow fault.code fault.column
refusal_of faults.Memory = reply.Want
