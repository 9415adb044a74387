use Rattle.std.proofs.Common.{◌≡◌, ◌+◌, ◌*◌, ℕ, List, pos, sym, ap, subst}
use Rattle.mib_model.specs.Walk.{structure_values, walk_start}
use Rattle.bit_field.specs.Taken.{taken}
use Rattle.struct_plan.specs.Courses.{Gives}
use Rattle.struct_plan.specs.Sources.{Walked, of_packet}
use Rattle.struct_plan.proofs.SourceFacts.{as-extracted, as_walked, packet-ends, packet-gives}
use Rattle.struct_plan.proofs.walks.walk.Goals as goal
use Rattle.struct_plan.proofs.walks.walk.Given as given

-- what the walk came to is what the packet gives
module _ (g : given.Over) (c : goal.In-Ended g) where
  came : (taken c.walk_by.new.values, c.walk_by.result) ≡ as_walked (structure_values (g.S.Structures.tables c.args.all.now) (pos c.args.tpsd) c.args.dfhsize c.args.packet.now)
  came =
      let db = g.S.Structures.tables c.args.all.now in
      let end : Walked = as_walked (structure_values db (pos c.args.tpsd) c.args.dfhsize c.args.packet.now) in
      c.walk_by.ensures.values c.args.dfhsize end (ap (λ (n : ℕ). 8 * (6 + n)) c.from.ensures)
      (subst (λ (octets : List ℕ). Gives db (of_packet octets) end (walk_start db (pos c.args.tpsd) c.args.dfhsize)) (sym c.new.ensures)
      (packet-gives db c.args.packet.now c.walk_by.ensures.sound (pos c.args.tpsd) c.args.dfhsize))

pub returns-in-Ended-clause-values : goal.returns-in-Ended-clause-values
returns-in-Ended-clause-values g c =
    as-extracted (taken c.walk_by.new.values) c.walk_by.result c.in-Ended.ended (structure_values (g.S.Structures.tables c.args.all.now) (pos c.args.tpsd) c.args.dfhsize c.args.packet.now) (came g c) c.in-Ended.is

pub returns-in-Missing : goal.returns-in-Missing
returns-in-Missing g c =
    let db = g.S.Structures.tables c.args.all.now in
    let end : Walked = as_walked (structure_values db (pos c.args.tpsd) c.args.dfhsize c.args.packet.now) in
    record {
      values = absurd (packet-ends (taken c.walk_by.new.values) c.walk_by.result (structure_values db (pos c.args.tpsd) c.args.dfhsize c.args.packet.now)
          (c.walk_by.ensures.values c.args.dfhsize end (ap (λ (n : ℕ). 8 * (6 + n)) c.from.ensures)
          (subst (λ (octets : List ℕ). Gives db (of_packet octets) end (walk_start db (pos c.args.tpsd) c.args.dfhsize)) (sym c.new.ensures)
          (packet-gives db c.args.packet.now c.walk_by.ensures.sound (pos c.args.tpsd) c.args.dfhsize)))
          c.in-Missing.is);
      stays = c.walk_by.ensures.stays;
    }
