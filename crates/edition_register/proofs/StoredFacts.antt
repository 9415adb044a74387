-- What is ready stays ready, and the tables of a handle.
use Rattle.std.proofs.Common.{◌≡◌, ℕ, ◌+◌, ◌-◌, ◌<◌, Bool, true, false, List, [], ◌∷◌, ◌++◌, map, length, Option, Some, None, IfOk, Result, Ok, Err, sym, refl, ap, subst, ◌∙◌, arith, nat_eq, zero, suc, option_map, length-append}
use Rattle.std.proofs.lemmas.List.{get_or_append_left, get_or-map}
use Rattle.std.proofs.lemmas.Bool.{false≢true}
use Rattle.std.proofs.lemmas.Bool.Decides.{nat_tests}
use Rattle.std.specs.Arc.{arc_value}
use Rattle.std.specs.declared.alloc.AllocError.{AllocError}
use Rattle.std.specs.declared.alloc.Global.{Global}
use Rattle.std.specs.declared.sync.Arc.{Arc}
use Rattle.std.specs.List.{last_or, slice_index_or}
use Rattle.mib_model.specs.declared.database.Database.{Database}
use Rattle.run_model.specs.declared.register.Scheduled.{Scheduled}
use Rattle.mib_model.specs.Database.{no_rows}
use Rattle.run_model.specs.declared.register.Register.{Register}
use Rattle.edition_register.specs.declared.entry.Entry.TheVariants as entry
use Rattle.edition_register.specs.declared.entry.Reply.{Reply}
use Rattle.edition_register.specs.declared.entry.Reply.TheVariants as reply
use Rattle.edition_register.specs.Stored.{Gives}
use Rattle.edition_register.specs.declared.start.Pending.{Pending}
use Rattle.edition_register.specs.Starts.{AllReady, IsReady, IsStart, pair_of}
use Rattle.edition_register.proofs.KeptFacts.{first_begins}

module _ {E B : Type 0} (tables : E → Database) (made_for : Database → B → Bool) where
  one-more : (editions : List Database) (t : Database) (p : Pending E B) → IsReady tables made_for editions p → IsReady tables made_for (editions ++ t ∷ []) p
  one-more editions t p ready =
      let low = ready.0.0 in let high = ready.0.1 in let l = length-append editions (t ∷ []) in (
        (low, omega arith),
        subst (λ (u : Database). IsStart tables made_for u p.start) (sym (get_or_append_left editions (t ∷ []) no_rows (p.edition - 1) (omega arith))) ready.1,
      )

  pub ready-more : (editions : List Database) (t : Database) (waiting : List (Pending E B)) → AllReady tables made_for editions waiting → AllReady tables made_for (editions ++ t ∷ []) waiting
  ready-more editions t [] ready = tt
  ready-more editions t (p ∷ ps) ready = (one-more editions t p ready.0, ready-more editions t ps ready.1)

  pub ready-one : (editions : List Database) (waiting : List (Pending E B)) (p : Pending E B) → AllReady tables made_for editions waiting → IsReady tables made_for editions p → AllReady tables made_for editions (waiting ++ p ∷ [])
  ready-one editions [] p ready one = (one, tt)
  ready-one editions (q ∷ qs) p ready one = (ready.0, ready-one editions qs p ready.1 one)

module _ {E B : Type 0} where
  pub first-is : (n : ℕ) (waiting : List (Pending E B)) (x : Pending E B) → 0 < length waiting → x ≡ slice_index_or waiting 0 x → nat_eq x.from n ≡ first_begins n (map pair_of waiting)
  first-is n [] x some is = absurd (omega arith)
  first-is n (p ∷ ps) x some is = ap (λ (q : Pending E B). nat_eq q.from n) is

-- the tables of a handle at a place where one stands
pub tables-at : {X : Type 0} (f : X → Database) (xs : List X) (i : ℕ) (x : X) → i < length xs → x ≡ slice_index_or xs i x → f x ≡ slice_index_or (map f xs) i no_rows
tables-at f xs i x lt is = ap f is ∙ sym (get_or-map f xs i x no_rows lt)

-- an item behind the first
get_or-later : {X : Type 0} (k : ℕ) (x : X) (xs : List X) (d : X) → slice_index_or (x ∷ xs) (k + 1) d ≡ slice_index_or xs k d
get_or-later k x xs d = ap (λ n. slice_index_or (x ∷ xs) n d) (let e : k + 1 ≡ suc k = omega arith in e)

-- the last of them
pub last-is : {E B : Type 0} (waiting : List (Pending E B)) (o : Option Scheduled) (i : ℕ) (x : Pending E B) → i + 1 ≡ length waiting → x ≡ slice_index_or waiting i x → Some x.from ≡ option_map (λ (q : Scheduled). q.from) (last_or o (map pair_of waiting))
last-is [] o i x count is = absurd (omega arith)
last-is (p ∷ []) o i x count is =
    let zero_place : i ≡ 0 = omega arith in
    ap (λ (q : Pending _ _). Some q.from) (is ∙ ap (λ k. slice_index_or (p ∷ []) k x) zero_place)
last-is (p ∷ q ∷ qs) o i x count is =
    let later : i ≡ (i - 1) + 1 = omega arith in
    last-is (q ∷ qs) (Some (pair_of p)) (i - 1) x (omega arith) (is ∙ ap (λ k. slice_index_or (p ∷ q ∷ qs) k x) later ∙ get_or-later (i - 1) p (q ∷ qs) x)

pub last-none : {E B : Type 0} (waiting : List (Pending E B)) → length waiting ≡ 0 → last_or None (map pair_of waiting) ≡ None
last-none [] none = refl
last-none (p ∷ ps) none = absurd (omega arith)

pub first-none : {E B : Type 0} (n : ℕ) (waiting : List (Pending E B)) → length waiting ≡ 0 → false ≡ first_begins n (map pair_of waiting)
first-none n [] none = refl
first-none n (p ∷ ps) none = absurd (omega arith)

-- numbers that differ
pub differ : (a b : ℕ) → (a ≡ b → ⊥) → nat_eq a b ≡ false
differ a b other = grind (arith, nat_tests)

module _ {E : Type 0} (tables : E → Database) where
  -- a copy of a handle has its tables
  pub copied : (copy : Result (Arc E Global) AllocError) (t : Database) (handle : Arc E Global) → tables (arc_value handle) ≡ t → IfOk copy (λ a. arc_value a ≡ arc_value handle) → IfOk copy (λ a. tables (arc_value a) ≡ t)
  copied (Ok a) t handle shown same = ap tables same ∙ shown
  copied (Err e) t handle shown same = tt

module _ {E B : Type 0} (tables : E → Database) (made_for : Database → B → Bool) where
  -- what an addition gives, it gives upon a base
  pub added-on : (s : Register) (base : ℕ) (payload : Arc E Global) (given : Reply E B) → Gives tables made_for s (entry.Add payload) given → Gives tables made_for s (entry.AddOn base payload) given
  added-on s base payload (reply.Stamped n e t start) gives = absurd gives
  added-on s base payload (reply.Added e) gives = tt
  added-on s base payload (reply.FullEditions back) gives = gives
  added-on s base payload (reply.Stale newest back) gives = absurd gives
  added-on s base payload (reply.Used k) gives = absurd gives
  added-on s base payload (reply.NoEdition count start) gives = absurd gives
  added-on s base payload (reply.Late next start) gives = absurd gives
  added-on s base payload (reply.Disorder last start) gives = absurd gives
  added-on s base payload (reply.FullPending start) gives = absurd gives
  added-on s base payload (reply.Drawn e t handle) gives = absurd gives

pub zero-is : (n : ℕ) → (0 < n → false ≡ true) → n ≡ 0
zero-is zero none = refl
zero-is (suc n) none = absurd (false≢true (none (omega arith)))
