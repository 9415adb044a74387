-- Records of packets in parts.
use Rattle.std.proofs.Common.{◌≡◌, List, [], ◌∷◌, ◌++◌, refl, ap}
use Rattle.mib_model.specs.Interpreter.{Course, StampedPacket, record_for, course_after, course_after_all, interpret}

pub interpret-append : (c : Course) (first others : List StampedPacket) → interpret c (first ++ others) ≡ interpret c first ++ interpret (course_after_all c first) others
unfolding interpret course_after_all
interpret-append c [] others = refl
interpret-append c (s ∷ first) others = ap (λ records. record_for c s ∷ records) (interpret-append (course_after c s) first others)
