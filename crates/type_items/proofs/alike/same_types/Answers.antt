use Rattle.std.proofs.Common.{◌∙◌, map, sym}
use Rattle.mib_model.specs.Plans.{type_item}
use Rattle.mib_model.specs.Touched.{same_type_item}
use Rattle.type_items.proofs.SameFacts.{equal-items, equal-lists}
use Rattle.type_items.proofs.alike.same_types.Goals as goal

pub returns-clause-equal : goal.returns-clause-equal
returns-clause-equal c = λ holds. equal-lists same_type_item equal-items (map type_item c.args.old.now) (map type_item c.args.new.now) (sym c.are_alike.ensures ∙ holds)
