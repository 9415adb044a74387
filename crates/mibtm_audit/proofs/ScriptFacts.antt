-- A script that was turned to and read.
use Rattle.std.proofs.Common.{◌≡◌, ◌∙◌, ℕ, Bool, true, false, List, Option, Some, None, Result, Ok, Err, IfOk, IfSome, IsSomeAnd, OnOk, is_some, sym}
use Rattle.mib_model.specs.declared.database.Database.{Database}
use Rattle.session.specs.Sources.{Files}
use Rattle.tm_audit.specs.Saved.{saved_tables}
use Rattle.tm_audit.specs.declared.code.AuditCode.{AuditCode}
use Rattle.tool_objects.specs.Objects.{ShelfView}
use Rattle.mibtm_audit.specs.Statement.{Scripted}
use Rattle.mibtm_audit.specs.declared.command.Saved.{Saved}

-- what is left of a file that is held
held-file : (file left : Option (List ℕ)) → true ≡ is_some file → IfSome file (λ octets. left ≡ Some octets) → IsSomeAnd file (λ octets. left ≡ Some octets)
held-file None left there is = absurd (let bad : true ≡ false = there in cc bad)
held-file (Some octets) left there is = is

held-left : (holds : Option Files) (name : List ℕ) (held : Bool) (left : Option (List ℕ)) → held ≡ true → IfSome holds (λ files. held ≡ is_some (files name))
    → IfSome holds (λ files. IfSome (files name) (λ octets. left ≡ Some octets)) → IfSome holds (λ files. IsSomeAnd (files name) (λ octets. left ≡ Some octets))
held-left None name held left is told stood = tt
held-left (Some files) name held left is told stood = held-file (files name) left (sym is ∙ told) stood

pub scripted : {D : Type 0} (first : Database) (name : List ℕ) (desk : ShelfView D) (mid : D) (held : Bool) (result : Result Saved AuditCode)
    → held ≡ true → IfSome (desk.holds desk.before) (λ files. held ≡ is_some (files name))
    → IfSome (desk.holds desk.before) (λ files. IfSome (files name) (λ octets. desk.left mid ≡ Some octets))
    → desk.faults mid ≡ desk.faults desk.before → desk.missed mid ≡ desk.missed desk.before → OnOk result (desk.faults desk.now ≡ desk.faults mid) → desk.missed desk.now ≡ desk.missed mid
    → IfOk result (λ saved. IfSome (desk.left mid) (λ script. saved.editions.items ≡ saved_tables first script)) → IfOk result (λ saved. Scripted first saved.editions.items name desk)
scripted first name desk mid held (Ok saved) is told left stood turned ok missed saves = record {
  stood = ok ∙ stood;
  turned = missed ∙ turned;
  octets = desk.left mid;
  of_desk = held-left (desk.holds desk.before) name held (desk.left mid) is told left;
  saves = saves;
}
scripted first name desk mid held (Err code) is told left stood turned ok missed saves = tt
