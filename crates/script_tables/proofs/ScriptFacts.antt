-- Lines that are followed, one after the other.
use Rattle.std.proofs.Common.{◌≡◌, ◌∙◌, ℕ, ◌+◌, ◌<◌, Bool, true, false, List, [], ◌∷◌, fold, length, take, Option, Some, None, IfSome, IsSomeAnd, refl, sym, ap, subst}
use Rattle.std.specs.Io.KnownBytes.{Consumes}
use Rattle.desk_lines.specs.ToCome.{Reading, reading_start, still}
use Rattle.desk_lines.specs.Gives.{TakesLine}
use Rattle.mib_model.specs.declared.database.Database.{Database}
use Rattle.run_model.specs.DeskLines.{Request, request_of}
use Rattle.run_model.specs.Script.{script}
use Rattle.tm_audit.specs.Saved.{Desked, after_line, before_lines, saved_tables}
use Rattle.script_tables.specs.Savings.{FollowsAll, GoesOn, IsDesked, Makes, Saving, StepsOn, saving_start}

-- a line that asks for this
pub steps : (was now : Reading) (before after : Option (List ℕ)) (line : List ℕ) (request : Request) (old new : Saving) → TakesLine was now before after line
    → request ≡ request_of false line → Makes request old new → StepsOn true before after was now old new
steps was now before after line request old new takes asks makes = (ap (λ (r : Reading). r.lines) takes.counted, go before after takes.consumed takes.first) where
  go : (before after : Option (List ℕ)) → Consumes before after takes.taken → IfSome before (λ left. IfSome after (λ behind. still was left ≡ line ∷ still now behind))
      → IfSome before (λ left. IsSomeAnd after (λ behind. GoesOn was left old now behind new))
  go None after consumed first = tt
  go (Some left) None consumed first = absurd consumed
  go (Some left) (Some behind) consumed first = λ d is. (after_line d line, subst (λ (r : Request). Makes r old new) asks makes d is, ap (fold after_line d) first)

-- ---- all lines

-- the lines that are still to come behind some
abbrev pub Follows : Option (List ℕ) → Option (List ℕ) → Reading → Reading → Saving → Saving → Type 0
Follows before after was now old new = IfSome before (λ left. IsSomeAnd after (λ behind. GoesOn was left old now behind new))

pub follows-none : (left : Option (List ℕ)) (was : Reading) (s : Saving) → Follows left left was was s s
follows-none None was s = tt
follows-none (Some left) was s = λ d is. (d, is, refl)

pub follows-more : (before between after : Option (List ℕ)) (was mid now : Reading) (old some new : Saving) → Follows before between was mid old some → StepsOn true between after mid now some new
    → Follows before after was now old new
follows-more None between after was mid now old some new follows more = tt
follows-more (Some left) None after was mid now old some new follows more = absurd follows
follows-more (Some left) (Some behind) None was mid now old some new follows more = absurd more.1
follows-more (Some left) (Some behind) (Some others) was mid now old some new follows more = λ d is.
    let (e, stands, same) = follows d is in
    let (f, then, after) = more.1 e stands in
    (f, then, same ∙ after)

pub follows-all : (before after : Option (List ℕ)) (was now : Reading) (old new : Saving) → Follows before after was now old new → IfSome after (λ behind. still now behind ≡ [])
    → IfSome before (FollowsAll was old new)
follows-all None after was now old new follows none = tt
follows-all (Some left) None was now old new follows none = absurd follows
follows-all (Some left) (Some behind) was now old new follows none = λ d is.
    let (e, stands, same) = follows d is in
    subst (λ (f : Desked). IsDesked new f) (sym (same ∙ ap (fold after_line e) none)) stands

-- one line more was followed, or none was left
pub stepped : (b : Bool) (before after : Option (List ℕ)) (was now : Reading) (old new : Saving) → b ≡ true → StepsOn b before after was now old new → StepsOn true before after was now old new
stepped b before after was now old new is steps = subst (λ (b : Bool). StepsOn b before after was now old new) is steps

pub follows-end : (b : Bool) (before between after : Option (List ℕ)) (was mid now : Reading) (old some new : Saving) → b ≡ false → Follows before between was mid old some
    → StepsOn b between after mid now some new → IfSome before (FollowsAll was old new)
follows-end b before between after was mid now old some new is follows steps =
    let ends : StepsOn false between after mid now some new = subst (λ (b : Bool). StepsOn b between after mid now some new) is steps in
    subst (λ (s : Saving). IfSome before (FollowsAll was old s)) (sym ends.0) (follows-all before between was mid old some follows ends.1)

-- all lines of a script
pub script-saved : (left : Option (List ℕ)) (first : Database) (old new : Saving) (was : Reading) (items : List Database) → old ≡ saving_start first → was ≡ reading_start
    → ((octets : List ℕ) → still reading_start octets ≡ script octets) → items ≡ new.saved → IfSome left (FollowsAll was old new) → IfSome left (λ octets. items ≡ saved_tables first octets)
unfolding saved_tables
script-saved None first old new was items starts reads lines are all = tt
script-saved (Some octets) first old new was items starts reads lines are all =
    let begins : IsDesked old (before_lines first) = subst (λ (s : Saving). IsDesked s (before_lines first)) (sym starts) (record { draft = refl; base = refl; editions = refl }) in
    are ∙ (sym (all (before_lines first) begins).editions
    ∙ ap (λ (ls : List (List ℕ)). (fold after_line (before_lines first) ls).register.editions) (ap (λ (r : Reading). still r octets) reads ∙ lines octets))
