use Rattle.commit_order.proofs.PlaceFacts.{none_numbered}
use Rattle.commit_order.proofs.window.Window.new.Goals as goal

pub invariant_of-result : goal.invariant_of-result
invariant_of-result g c = record {
  numbered = none_numbered 1 c.loop.places.items c.loop.invariant.none;
  reserved = c.loop.invariant.reserved;
}
