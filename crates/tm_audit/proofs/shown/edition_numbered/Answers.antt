use Rattle.std.proofs.Common.{◌∙◌, ◌+◌, ◌-◌, ℕ, Bool, Some, cond, decimal, find, sym, ap, arith}
use Rattle.std.specs.List.{range_with_len}
use Rattle.std.specs.Str.{bytes_eq}
use Rattle.tm_audit.proofs.LineFacts.{find-from, find-past}
use Rattle.tm_audit.proofs.shown.edition_numbered.Goals as goal

pub loop-edition-init : goal.loop-edition-init
loop-edition-init c = record {
  most = omega arith;
  rest = ap (λ (n : ℕ). find (λ e. bytes_eq (decimal e) c.args.text.now) (range_with_len 1 n)) (omega arith);
}

pub returns-then-is_number_of : goal.returns-then-is_number_of
returns-then-is_number_of c =
    let e = c.loop-edition.edition in
    let is = c.is_number_of.ensures in
    let yes = sym is ∙ c.if-is_number_of.true in
    sym (c.loop-edition.invariant.rest ∙ (find-from (λ e. bytes_eq (decimal e) c.args.text.now) e (c.args.count + 1) c.loop-edition-test.true
    ∙ ap (λ (b : Bool). cond b (Some e) (find (λ e. bytes_eq (decimal e) c.args.text.now) (range_with_len (e + 1) (c.args.count + 1 - (e + 1))))) yes))

pub loop-edition-preserved : goal.loop-edition-preserved
loop-edition-preserved c =
    let e = c.loop-edition.edition in
    let is = c.is_number_of.ensures in
    let no = sym is ∙ c.if-is_number_of.false in
    record {
      most = omega (arith, c.loop-edition-test.true);
      rest = c.loop-edition.invariant.rest ∙ (find-from (λ e. bytes_eq (decimal e) c.args.text.now) e (c.args.count + 1) c.loop-edition-test.true
          ∙ ap (λ (b : Bool). cond b (Some e) (find (λ e. bytes_eq (decimal e) c.args.text.now) (range_with_len (e + 1) (c.args.count + 1 - (e + 1))))) no);
    }

pub returns : goal.returns
returns c = sym (c.loop-edition.invariant.rest ∙ find-past (λ e. bytes_eq (decimal e) c.args.text.now) c.loop-edition.edition (c.args.count + 1) (omega (arith, c.loop-edition-test.false)))
