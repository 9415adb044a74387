use Rattle.std.proofs.Common.{◌≡◌, ◌∙◌, ap, [], Some, rules, codes, ◌++◌, arith}
use Rattle.std.specs.Prelude.{decimal}
use Rattle.mib_model.specs.Names.{name_of}
use Rattle.tm_drill.specs.Tables.{parameter_name}
use Rattle.tm_drill.proofs.NameFacts.{parameter-named}
use Rattle.tm_drill.proofs.tables.parameter_name.Goals as goal

pub unwrap-requires : goal.unwrap-requires
unwrap-requires c =
    let text : c.bytes.result.now ≡ [] ++ codes "D" ++ decimal c.args.number = search rules in
    let named : c.new.result ≡ Some (parameter_name c.args.number) = c.new.ensures ∙ (ap name_of text ∙ parameter-named c.args.number (omega arith)) in search rules

pub returns : goal.returns
returns c =
    let text : c.bytes.result.now ≡ [] ++ codes "D" ++ decimal c.args.number = search rules in
    let named : c.new.result ≡ Some (parameter_name c.args.number) = c.new.ensures ∙ (ap name_of text ∙ parameter-named c.args.number (omega arith)) in search rules
