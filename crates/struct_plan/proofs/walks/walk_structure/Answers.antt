use Rattle.std.proofs.Common.{◌≡◌, ◌∙◌, length, None, refl, sym, subst, arith}
use Rattle.mib_model.specs.Fixed.{most_values}
use Rattle.bit_field.specs.Taken.{taken}
use Rattle.struct_plan.specs.declared.place.RowPlace.{RowPlace}
use Rattle.struct_plan.specs.Courses.{Gives, IsInReach, walking}
use Rattle.struct_plan.specs.Groups.{still_to_walk}
use Rattle.struct_plan.specs.Places.{groups, IsAmong}
use Rattle.struct_plan.specs.Stacks.{IsWithin}
use Rattle.struct_plan.proofs.PlaceFacts.{gives-whole, fewer-left, later}
use Rattle.struct_plan.proofs.walks.walk_structure.Goals as goal

pub loop-place-init : goal.loop-place-init
loop-place-init g c =
    let db = g.S.Structures.tables c.args.all.now in
    let rows = c.args.structure.now.vpds in
    let values = c.args.values.now in
    let course = c.args.course.now in
    let first : RowPlace = record { at = 0; inner = None; stack = record { top = most_values; single = None; count = 0 } } in
    let there : first ≡ c.new-place.result = sym c.new-place.ensures in
    let within : IsWithin values first.stack = record { low = c.requires.slots.used; high = omega arith; count = omega arith; whole = omega arith } in
    let among : IsAmong rows values first = record { kept = record { within = within; alone = λ none. refl }; around = omega arith; ahead = omega arith } in
    record {
      gives = λ end gives. subst (λ (p : RowPlace). Gives db (g.N.Numbers.source c.args.numbers.now) end (walking (still_to_walk rows p.at (groups values p)) course (taken values))) there gives;
      among = subst (IsAmong rows values) there among;
      reach = subst (λ (p : RowPlace). IsInReach course.cursor p.at) there c.requires.reach;
      more = omega arith;
      used = c.requires.slots.used;
      slots = c.requires.slots.slots;
      borrow = refl;
    }

pub returns-in-Some-clause-comes : goal.returns-in-Some-clause-comes
returns-in-Some-clause-comes g c = λ end gives. c.in-Some.ensures.goes end (c.loop-place.invariant.gives end gives)

pub loop-place-smaller : goal.loop-place-smaller
loop-place-smaller g c =
    fewer-left most_values c.loop-place.values.used c.walk_row.new.values.used c.loop-place.place.at c.walk_row.new.place.at (length c.args.structure.now.vpds)
    (c.in_default.ensures.further refl) c.walk_row.ensures.stays.used (omega arith)

pub loop-place-preserved : goal.loop-place-preserved
loop-place-preserved g c =
    record {
      gives = λ end gives. c.in_default.ensures.goes end (c.loop-place.invariant.gives end gives);
      among = c.in_default.ensures.among refl;
      reach = c.in_default.ensures.reach refl;
      more = later c.loop-place.invariant.more (c.in_default.ensures.further refl);
      used = c.walk_row.ensures.stays.used;
      slots = c.walk_row.ensures.stays.slots;
      borrow = c.walk_row.ensures.stays.borrow ∙ c.loop-place.invariant.borrow;
    }

pub returns-clause-comes : goal.returns-clause-comes
returns-clause-comes g c = λ end gives.
    let inv = c.loop-place.invariant in
    gives-whole (g.S.Structures.tables c.args.all.now) (g.N.Numbers.source c.args.numbers.now) end c.args.structure.now.vpds c.loop-place.course (taken c.loop-place.values) c.loop-place.place.at (groups c.loop-place.values c.loop-place.place)
    inv.among.around inv.among.ahead (omega arith) (inv.gives end gives)
