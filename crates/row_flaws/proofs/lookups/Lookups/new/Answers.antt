use Rattle.std.proofs.Common.{ap, ◌∙◌, List, filter, map}
use Rattle.mib_model.specs.declared.database.Database.{Database}
use Rattle.mib_model.specs.declared.rows.VpdRow.{VpdRow}
use Rattle.mib_model.specs.Orders.{sorted_by}
use Rattle.row_flaws.specs.Structures.{spot_of, by_pos, is_in}
use Rattle.row_flaws.proofs.GroupFacts.{spots-structure}
use Rattle.row_flaws.proofs.lookups.Lookups.new.Goals as goal

pub invariant_of-result : goal.invariant_of-result
invariant_of-result c =
    let book = c.book-book.ensures in
    record {
      packets = c.in_ok-mapped.ensures ∙ (c.pid.ensures.rows ∙ ap (λ (db : Database). db.pid) book);
      packet_kinds = c.in_ok-mapped-2.ensures ∙ (c.pid-2.ensures.rows ∙ ap (λ (db : Database). db.pid) book);
      point_places = λ q. c.in_ok-point_places.ensures q;
      structures = λ q. c.in_ok-structures.ensures q ∙ (ap (λ (rows : List VpdRow). sorted_by by_pos (filter (is_in q) (map spot_of rows))) (c.vpd.ensures.rows ∙ ap (λ (db : Database). db.vpd) book) ∙ spots-structure c.args.index.now q);
    }
