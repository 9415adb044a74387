use Rattle.std.proofs.Common.{◌≡◌, map, option_map, take}
use Rattle.std.specs.Arc.{arc_value}
use Rattle.mib_model.specs.Curves.{curve_named}
use Rattle.param_set.proofs.sources.ParamSources.selected.Given as goal

abbrev pub invariant-loop-cur : goal.invariant-loop-cur
invariant-loop-cur l = map (option_map arc_value) l.curves.items ≡ map (curve_named l.self l.categ) (map (λ cur. cur.curve) (take l.cur-index l.curs))
