use Rattle.std.proofs.Common.{sym, ◌∙◌}
use Rattle.mib_model.specs.Touched.{same_type_item}
use Rattle.type_items.proofs.SameFacts.{equal-items, equal-lists}
use Rattle.type_items.proofs.same.same_items.Goals as goal

pub returns-clause-equal : goal.returns-clause-equal
returns-clause-equal c = λ holds. equal-lists same_type_item equal-items c.args.old.now c.args.new.now (sym c.are_same.ensures ∙ holds)
