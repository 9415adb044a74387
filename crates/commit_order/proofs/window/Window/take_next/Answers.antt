use Rattle.std.proofs.Common.{rules}
use Rattle.commit_order.proofs.PlaceFacts.{numbered_after, waits_after}
use Rattle.commit_order.proofs.window.Window.take_next.Goals as goal

pub invariant_of-self : goal.invariant_of-self
invariant_of-self g c = record {
  numbered = numbered_after c.args.self.now.next _ _ _ _ c.in-Some-Some-pop_front.ensures.items c.push_back_reserved.ensures.items c.args.self.now.numbered;
  reserved = search rules;
}

pub returns-clause-after : goal.returns-clause-after
returns-clause-after g c = record {
  next = search rules;
  room = search rules;
  waits = waits_after c.args.self.now.next _ _ _ _ c.in-Some-Some-pop_front.ensures.items c.push_back_reserved.ensures.items;
}
