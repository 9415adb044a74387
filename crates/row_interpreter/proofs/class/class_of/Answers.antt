use Rattle.std.proofs.Common.{◌≡◌, ◌∙◌, Bool, true, false, refl, sym}
use Rattle.mib_model.specs.declared.check.Class.{Class}
use Rattle.mib_model.specs.declared.check.Class.TheVariants.{Nominal, Hard, Status, Delta, Soft}
use Rattle.row_interpreter.proofs.ClassFacts.{class-is, first_class}
use Rattle.row_interpreter.specs.Memories.{memory_of}
use Rattle.row_interpreter.specs.Samples.{sample_as}
use Rattle.row_interpreter.proofs.class.class_of.Goals as goal

-- the class by the first test that holds
hard : (h s d f : Bool) → h ≡ true → Hard ≡ first_class h s d f
hard h s d f e = λ i. first_class (sym e i) s d f

status : (h s d f : Bool) → h ≡ false → s ≡ true → Status ≡ first_class h s d f
status h s d f e g = λ i. first_class (sym e i) (sym g i) d f

delta : (h s d f : Bool) → h ≡ false → s ≡ false → d ≡ true → Delta ≡ first_class h s d f
delta h s d f e g k = λ i. first_class (sym e i) (sym g i) (sym k i) f

soft : (h s d f b : Bool) (c : Class) → h ≡ false → s ≡ false → d ≡ false → f ≡ b → c ≡ first_class false false false b → c ≡ first_class h s d f
soft h s d f b c e g k m is = is ∙ (λ i. first_class (sym e i) (sym g i) (sym k i) (sym m i))

pub returns-then-any_limit : goal.returns-then-any_limit
returns-then-any_limit c =
    let h = c.any_limit.ensures in
    hard _ _ _ _ (sym h ∙ c.if-any_limit.true) ∙ class-is c.args.rows.now (sample_as c.args.sample) c.args.previous (memory_of c.args.memory.now)

pub returns-then-is_unexpected : goal.returns-then-is_unexpected
returns-then-is_unexpected c =
    let h = c.any_limit.ensures in
    let s = c.is_unexpected.ensures in
    status _ _ _ _ (sym h ∙ c.if-any_limit.false) (sym s ∙ c.if-is_unexpected.true) ∙ class-is c.args.rows.now (sample_as c.args.sample) c.args.previous (memory_of c.args.memory.now)

pub returns-then-any_delta : goal.returns-then-any_delta
returns-then-any_delta c =
    let h = c.any_limit.ensures in
    let s = c.is_unexpected.ensures in
    let d = c.any_delta.ensures in
    delta _ _ _ _ (sym h ∙ c.if-any_limit.false) (sym s ∙ c.if-is_unexpected.false) (sym d ∙ c.if-any_delta.true) ∙ class-is c.args.rows.now (sample_as c.args.sample) c.args.previous (memory_of c.args.memory.now)

pub returns-then-any_limit-2 : goal.returns-then-any_limit-2
returns-then-any_limit-2 c =
    let h = c.any_limit.ensures in
    let s = c.is_unexpected.ensures in
    let d = c.any_delta.ensures in
    let f = c.any_limit-else-any_delta.ensures in
    soft _ _ _ _ true Soft (sym h ∙ c.if-any_limit.false) (sym s ∙ c.if-is_unexpected.false) (sym d ∙ c.if-any_delta.false) (sym f ∙ c.if-any_limit-2.true) refl
    ∙ class-is c.args.rows.now (sample_as c.args.sample) c.args.previous (memory_of c.args.memory.now)

pub returns-else-any_limit-2 : goal.returns-else-any_limit-2
returns-else-any_limit-2 c =
    let h = c.any_limit.ensures in
    let s = c.is_unexpected.ensures in
    let d = c.any_delta.ensures in
    let f = c.any_limit-else-any_delta.ensures in
    soft _ _ _ _ false Nominal (sym h ∙ c.if-any_limit.false) (sym s ∙ c.if-is_unexpected.false) (sym d ∙ c.if-any_delta.false) (sym f ∙ c.if-any_limit-2.false) refl
    ∙ class-is c.args.rows.now (sample_as c.args.sample) c.args.previous (memory_of c.args.memory.now)
