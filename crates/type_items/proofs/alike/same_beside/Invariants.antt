use Rattle.std.proofs.Common.{◌≡◌, length, map, drop}
use Rattle.std.specs.Cmp.Lexicographic.{pointwise}
use Rattle.mib_model.specs.Plans.{type_item}
use Rattle.mib_model.specs.Touched.{same_type_item}
use Rattle.type_items.proofs.alike.same_beside.Given as goal

abbrev pub invariant-loop-old : goal.invariant-loop-old
invariant-loop-old l =
    pointwise same_type_item (map type_item l.fn.old) (map type_item l.fn.new)
    ≡ pointwise same_type_item (map type_item (drop (length l.yielded) l.fn.old)) (map type_item (drop (length l.yielded) l.fn.new))
