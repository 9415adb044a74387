use Rattle.std.proofs.Common.{◌≡◌, ◌∙◌, Bool, List, [], ◌∷◌, get_or, Some, None, if◌then◌else◌, sym, ap, subst}
use Rattle.std.specs.List.{filter, find}
use Rattle.mib_model.specs.declared.rows.PidRow.{PidRow}
use Rattle.ident_plan.specs.declared.fast.kin.Kin.{Kin}
use Rattle.ident_plan.specs.declared.fast.kin.Kin.TheVariants.{Empty, One, More}
use Rattle.packet_keys.specs.declared.keys.PacketKey.{PacketKey}
use Rattle.ident_plan.specs.Kins.{is_of, IsKin}
use Rattle.ident_plan.specs.Rows.{IdentRows}
use Rattle.ident_plan.proofs.KeyFacts.{rest_of, same, whole_of}
use Rattle.ident_plan.proofs.KinFacts.{none-of, one-of}
use Rattle.ident_plan.proofs.ident.Ident.row_of_pid.Goals as goal

pub returns-in-Some-Empty : goal.returns-in-Some-Empty
returns-in-Some-Empty c =
    let key : PacketKey = c.args.key in
    let here : get_or c.self.inside.kins.items key.apid More ≡ Empty =
    ap (λ (ks : List Kin). get_or ks key.apid More) (sym c.deref.ensures.value) ∙ (sym c.in-Some-Empty.ensures ∙ c.in-Some-Empty.field-0-is) in
    let none : filter (is_of key.apid) c.self.inside.pids ≡ [] = subst (λ (k : Kin). IsKin (filter (is_of key.apid) c.self.inside.pids) k) here (c.self.invariant.1 key.apid) in
    none-of c.self.inside.pids key.apid (whole_of key) (rest_of key) (same key) none
    ∙ ap (λ (rows : IdentRows). find (whole_of key) rows.pids) c.self.view_is

pub returns-in-Some-One : goal.returns-in-Some-One
returns-in-Some-One c =
    let key : PacketKey = c.args.key in
    let row : PidRow = c.in-Some-One.row in
    let here : get_or c.self.inside.kins.items key.apid More ≡ One row =
    ap (λ (ks : List Kin). get_or ks key.apid More) (sym c.deref.ensures.value) ∙ (sym c.in-Some-One.ensures ∙ c.in-Some-One.field-0-is) in
    let one : filter (is_of key.apid) c.self.inside.pids ≡ row ∷ [] = subst (λ (k : Kin). IsKin (filter (is_of key.apid) c.self.inside.pids) k) here (c.self.invariant.1 key.apid) in
    c.row_if.ensures
    ∙ (ap (λ (holds : Bool). if holds then Some row else None) c.agrees.ensures
    ∙ (one-of c.self.inside.pids key.apid (whole_of key) (rest_of key) row (same key) one
    ∙ ap (λ (rows : IdentRows). find (whole_of key) rows.pids) c.self.view_is))
