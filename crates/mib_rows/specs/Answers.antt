-- What a read answers: what the definition gives, unless memory runs out.
use Rattle.std.specs.Prelude.{◌≡◌, Result, Ok, Err, ⊤}
use Rattle.mib_model.specs.declared.fault.MibFault.{MibFault}
use Rattle.mib_rows.specs.declared.read_fault.ReadFault.{ReadFault}
use Rattle.mib_rows.specs.declared.read_fault.ReadFault.TheVariants as faults

-- the fault of an answer is the definition's; want of memory says nothing
abbrev pub Fails : {Made : Type 0} → ReadFault → Result Made MibFault → Type 0
Fails faults.Memory read = ⊤
Fails (faults.Mib fault) read = read ≡ Err fault

-- the value of an answer, as contracts see it, is the definition's, and so is its fault
abbrev pub Gives : {X Made : Type 0} → (X → Made) → Result X ReadFault → Result Made MibFault → Type 0
Gives view (Ok value) read = read ≡ Ok (view value)
Gives view (Err fault) read = Fails fault read
