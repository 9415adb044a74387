use Rattle.std.proofs.Common.{rules}
use Rattle.commit_order.proofs.PlaceFacts.{numbered_after, waits_after}
use Rattle.commit_order.proofs.window.Window.pass_by.Goals as goal

pub invariant_of-self-2 : goal.invariant_of-self-2
invariant_of-self-2 g c = record {
  numbered = numbered_after c.args.self.now.next _ _ _ _ c.in-Some.ensures.items c.push_back_reserved.ensures.items c.args.self.now.numbered;
  reserved = search rules;
}

pub returns : goal.returns
returns g c = record {
  next = search rules;
  room = search rules;
  waits = waits_after c.args.self.now.next _ _ _ _ c.in-Some.ensures.items c.push_back_reserved.ensures.items;
}
