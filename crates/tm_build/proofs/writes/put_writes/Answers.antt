use Rattle.std.proofs.Common.{◌++◌, List, map, subst, sym}
use Rattle.std.specs.Option.{option_copied}
use Rattle.std.proofs.lemmas.Result.{on_ok_weaker}
use Rattle.bit_writer.specs.declared.write.Write.{Write}
use Rattle.build_rules.specs.Building as Spec
use Rattle.tm_build.specs.Builds.{PacksAs, writes_with}
use Rattle.tm_build.proofs.HeaderFacts.{packs-joined}
use Rattle.tm_build.proofs.writes.put_writes.Goals as goal

pub returns : goal.returns
returns c =
    let row = c.args.row.now in
    let rest : List Write = Spec.both_discriminants row (option_copied c.args.criterion) ++ map Spec.value_write c.args.values.now in
    on_ok_weaker c.put_joined.result
    (λ is. subst (λ (ws : List Write). PacksAs row ws (writes_with row (option_copied c.args.criterion) c.args.count c.args.values.now)) (sym is)
    (packs-joined row c.args.count c.requires.count c.requires.apid c.requires.types.0 c.requires.types.1 rest))
    c.put_joined.ensures
