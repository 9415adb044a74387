use Rattle.std.proofs.Common.{◌≡◌, ◌∙◌, Bool, List, [], ◌∷◌, get_or, Some, None, if◌then◌else◌, sym, ap, subst, true}
use Rattle.std.specs.List.{filter, find}
use Rattle.mib_model.specs.declared.rows.PidRow.{PidRow}
use Rattle.ident_plan.specs.declared.fast.kin.Kin.{Kin}
use Rattle.ident_plan.specs.declared.fast.kin.Kin.TheVariants.{One, More}
use Rattle.packet_keys.specs.declared.keys.PacketKey.{PacketKey}
use Rattle.ident_plan.specs.Kins.{is_of, IsKin}
use Rattle.ident_plan.specs.Rows.{IdentRows}
use Rattle.ident_plan.proofs.KeyFacts.{rest_of, same, whole_of}
use Rattle.ident_plan.proofs.KinFacts.{one-of}
use Rattle.ident_plan.proofs.ident.Ident.lone_row.Goals as goal

pub returns-in-Some-One : goal.returns-in-Some-One
returns-in-Some-One c =
    let key : PacketKey = c.args.key in
    let row : PidRow = c.in-Some-One.row in
    let here : get_or c.self.inside.kins.items key.apid More ≡ One row =
    ap (λ (ks : List Kin). get_or ks key.apid More) (sym c.deref.ensures.value) ∙ (sym c.in-Some-One.ensures ∙ c.in-Some-One.field-0-is) in
    let one : filter (is_of key.apid) c.self.inside.pids ≡ row ∷ [] = subst (λ (k : Kin). IsKin (filter (is_of key.apid) c.self.inside.pids) k) here (c.self.invariant.1 key.apid) in
    let agreed : true ≡ rest_of key row = sym c.if-agrees.true ∙ c.agrees.ensures in
    ap (λ (holds : Bool). if holds then Some row else None) agreed
    ∙ (one-of c.self.inside.pids key.apid (whole_of key) (rest_of key) row (same key) one
    ∙ ap (λ (rows : IdentRows). find (whole_of key) rows.pids) c.self.view_is)
