use Rattle.std.proofs.Common.{◌≡◌, ◌∙◌, ap, subst}
use Rattle.mib_keys.proofs.KnownFacts.{all-known, same-known}
use Rattle.mib_keys.specs.Kept.{AreSameIn, HasAllSame, others}
use Rattle.mib_model.specs.declared.database.Database.{Database}
use Rattle.mib_tables.specs.declared.table_set.TableSet.{TableSet}
use Rattle.mib_tables.specs.Parts.{part_of}
use Rattle.mib_keys.proofs.known.same_beside.Goals as goal

pub returns : goal.returns
returns c =
    let set = c.same_tables.result in
    let before : c.in_ok-old.old ≡ part_of (others c.args.known) c.args.old.now = c.in_ok-old.ensures ∙ ap (λ (s : TableSet). part_of s c.args.old.now) c.others-compared.ensures in
    let after : c.in_ok-new.new ≡ part_of (others c.args.known) c.args.new.now = c.in_ok-new.ensures ∙ ap (λ (s : TableSet). part_of s c.args.new.now) c.others-compared.ensures in
    record {
      same = same-known c.args.known set c.args.old.now c.args.new.now c.requires (subst (λ (db : Database). AreSameIn set db (part_of (others c.args.known) c.args.new.now)) before (subst (λ (db : Database). AreSameIn set c.in_ok-old.old db) after c.same_tables.ensures.same));
      all = all-known c.args.known set c.args.old.now c.args.new.now (subst (λ (db : Database). HasAllSame set db (part_of (others c.args.known) c.args.new.now)) before (subst (λ (db : Database). HasAllSame set c.in_ok-old.old db) after c.same_tables.ensures.all));
    }
