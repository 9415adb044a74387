use Rattle.std.proofs.Common.{◌≡◌, length, map, option_map, drop}
use Rattle.std.specs.Cmp.Lexicographic.{pointwise}
use Rattle.std.specs.Option.{option_eq}
use Rattle.std.specs.Arc.{arc_value}
use Rattle.mib_model.specs.Touched.{same_curve}
use Rattle.param_set.proofs.same.same_beside.Given as goal

abbrev pub invariant-loop-old : goal.invariant-loop-old
invariant-loop-old l =
    pointwise (option_eq same_curve) (map (option_map arc_value) l.fn.old) (map (option_map arc_value) l.fn.new)
    ≡ pointwise (option_eq same_curve) (map (option_map arc_value) (drop (length l.yielded) l.fn.old)) (map (option_map arc_value) (drop (length l.yielded) l.fn.new))
