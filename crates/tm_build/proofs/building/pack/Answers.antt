use Rattle.std.proofs.Common.{◌≡◌, ◌∙◌, ℕ, ◌+◌, ◌*◌, ◌≤◌, List, [], ◌∷◌, ◌++◌, take, length, sym, ap, subst, arith}
use Rattle.std.proofs.lemmas.List.{length-take-le}
use Rattle.std.specs.List.{All}
use Rattle.bit_writer.specs.declared.write.Write.{Write}
use Rattle.bit_writer.specs.Writes.{octets_for}
use Rattle.build_rules.specs.Building.{length_write}
use Rattle.tm_build.proofs.OctetFacts.{all-inside, least-octets, one-more-inside}
use Rattle.tm_build.proofs.building.pack.Goals as goal

pub add_length-requires : goal.add_length-requires
add_length-requires c =
    let more = least-octets c.max-least.result c.deref.result.now in omega (arith, c.octets_for-octets.ensures, more, c.max-least.ensures)

pub write_all-requires-clause-inside : goal.write_all-requires-clause-inside
write_all-requires-clause-inside c =
    let n : ℕ = c.octets_for-octets.result in
    let old : List Write = c.args.writes.now.items in
    let more = least-octets c.max-least.result c.deref.result.now in
    let long : length (take n c.args.into.now) ≡ n = length-take-le n c.args.into.now (omega (arith, c.requires.into, c.if-octets-gt-OCTETS_MOST.false)) in
    let items : c.deref-2.result.now ≡ old ++ length_write n ∷ [] = c.deref-2.ensures.value ∙ c.in-Ok.ensures in
    let size : n ≡ octets_for c.max-least.result old = c.octets_for-octets.ensures ∙ ap (octets_for c.max-least.result) c.deref.ensures.value in
    let first : All (λ w. w.at + w.width ≤ 8 * n) old = subst (λ (m : ℕ). All (λ w. w.at + w.width ≤ 8 * m) old) (sym size) (all-inside c.max-least.result old) in
    let all = one-more-inside n old (length_write n) first (omega (arith, c.octets_for-octets.ensures, more, c.max-least.ensures)) in
    subst (λ (m : ℕ). All (λ w. w.at + w.width ≤ 8 * m) c.deref-2.result.now) (sym long) (subst (λ (ws : List Write). All (λ w. w.at + w.width ≤ 8 * n) ws) (sym items) all)
