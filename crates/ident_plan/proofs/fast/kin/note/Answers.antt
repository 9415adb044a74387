use Rattle.std.proofs.Common.{subst, refl}
use Rattle.std.proofs.lemmas.List.{get_or_default}
use Rattle.ident_plan.specs.declared.fast.kin.Kin.{Kin}
use Rattle.ident_plan.specs.declared.fast.kin.Kin.TheVariants.{More}
use Rattle.ident_plan.specs.Kins.{is_of, IsKin}
use Rattle.ident_plan.proofs.KinFacts.{noted}
use Rattle.ident_plan.proofs.fast.kin.note.Goals as goal

pub returns-then-apid-kins-clause-kins : goal.returns-then-apid-kins-clause-kins
returns-then-apid-kins-clause-kins c = λ pids old apid. noted pids c.args.row.now c.args.kins.now c.from-apid.result c.with.result c.from-apid.ensures c.if-apid-kins.true (λ rows kin. c.with.ensures rows (subst (λ (k : Kin). IsKin rows k) (get_or_default c.args.kins.now c.from-apid.result More _ c.if-apid-kins.true) kin)) old apid (is_of apid c.args.row.now) refl
