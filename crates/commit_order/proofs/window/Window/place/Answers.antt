use Rattle.std.proofs.Common.{◌+◌, ◌-◌, ◌<◌, ◌^◌, arith}
use Rattle.commit_order.proofs.PlaceFacts.{numbered_set}
use Rattle.commit_order.proofs.window.Window.place.Goals as goal

pub invariant_of-self : goal.invariant_of-self
invariant_of-self g c =
    let fits : c.args.self.now.next + (c.from-n.result - c.args.self.now.next) < 2 ^ 64 = omega (arith, c.if-n-self.false, c.from-n.ensures, c.ranges.n.fits) in
    record {
      numbered = numbered_set c.args.self.now.next c.args.self.now.places.items _ c.args.value fits c.args.self.now.numbered;
      reserved = c.args.self.now.reserved;
    }
