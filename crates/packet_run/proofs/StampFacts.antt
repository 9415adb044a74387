-- Stamped packets, one by one.
use Rattle.packet_run.proofs.Common.{[], ◌++◌, ◌+◌, ◌<◌, ◌∙◌, ◌∷◌, ◌≡◌, All, All-head, ap, append-nil, append_assoc, arith, Contains, Course, Database, drop, drop_more, Extends, flat_map, get_or, IsNumberedFrom, length, length-append, List, member, record_for, records_text, refl, StampedPacket, start, subst, suc, sym, take, take-add, take-append-drop, zero, ℕ}
use Rattle.decode_session.specs.Finishing.{standing}
use Rattle.mib_laws.proofs.RunFacts.{interpret-append}
use Rattle.mib_model.specs.Interpreter.{course_after, course_after_all, interpret}
use Rattle.mib_model.specs.Headers.{header_of}
use Rattle.mib_model.specs.Tails.{Record}
use Rattle.mib_model.specs.Texts.{edition_text_of, ended_text, head_text, record_body, record_text, told_text}
use Rattle.std.proofs.lemmas.Grind.{flat_map-append}
use Rattle.std.proofs.lemmas.List.{length-take-le}
use Rattle.packet_run.specs.Stamped.{EndsInNext, text_of}
use Rattle.packet_run.specs.Told.{members_from}

-- ---- lists

-- the item behind the first ones is taken too
pub take_one : {X : Type 0} (xs : List X) (n : ℕ) (s : X) (rest : List X) → drop n xs ≡ s ∷ rest → take (n + 1) xs ≡ take n xs ++ s ∷ []
take_one xs n s rest is = take-add n 1 xs ∙ ap (λ l. take n xs ++ take 1 l) is

-- there is an item behind fewer than all
first-of : {X : Type 0} (xs : List X) (n : ℕ) → n < length xs → (x : X) × (rest : List X) × (drop n xs ≡ x ∷ rest)
first-of [] n lt = absurd (omega (arith, lt))
first-of (x ∷ xs) zero lt = (x, xs, refl)
first-of (x ∷ xs) (suc n) lt = first-of xs n (omega (arith, lt))

-- an item behind the first ones is among those of which something holds
pub use_at : {X : Type 0} (Q : X → Type 0) (xs more : List X) (n : ℕ) (s : X) (rest : List X) → drop n (xs ++ more) ≡ s ∷ rest
    → n < length xs → All Q (drop n xs) → Q s
use_at Q [] more n s rest is lt all = absurd (omega (arith, lt))
use_at Q (x ∷ xs) more zero s rest is lt all = subst Q (cc is) (All-head Q x xs all)
use_at Q (x ∷ xs) more (suc n) s rest is lt all = use_at Q xs more n s rest is (omega (arith, lt)) all

-- ---- numbers

number_at : (k : ℕ) (all : List StampedPacket) (i : ℕ) (d : StampedPacket) → IsNumberedFrom k all → i < length all → (get_or all i d).number ≡ k + i
number_at k [] i d numbered lt = absurd (omega (arith, lt))
number_at k (x ∷ all) zero d numbered lt = let e = numbered.0 in omega (arith, e)
number_at k (x ∷ all) (suc i) d numbered lt = let e = number_at (k + 1) all i d numbered.1 (omega (arith, lt)) in omega (arith, e)

-- the packet of a number stands at its place
pub at_place : (all : List StampedPacket) (n : ℕ) (s : StampedPacket) → IsNumberedFrom 1 all → Contains all s → s.number ≡ n + 1
    → (rest : List StampedPacket) × (drop n all ≡ s ∷ rest)
at_place all n s numbered (i, lt, at) is =
    let e = number_at 1 all i s numbered lt in
    let number = ap (λ (y : StampedPacket). y.number) at in
    let same : n ≡ i = omega (arith, e, is, number) in
    (drop (i + 1) all, ap (λ k. drop k all) same ∙ drop_more all i s lt ∙ ap (λ y. y ∷ drop (i + 1) all) at)

pub numbered_push : (k : ℕ) (all : List StampedPacket) (s : StampedPacket) → IsNumberedFrom k all → s.number ≡ k + length all → IsNumberedFrom k (all ++ s ∷ [])
numbered_push k [] s numbered is = (omega (arith, is), tt)
numbered_push k (x ∷ all) s numbered is = (numbered.0, numbered_push (k + 1) all s numbered.1 (omega (arith, is)))

-- packets that begin with these and one more begin with these
pub extends_less : (stamped all : List StampedPacket) (s : StampedPacket) → Extends (stamped ++ s ∷ []) all → Extends stamped all
extends_less stamped all s e = record { more = s ∷ e.more; parts = e.parts ∙ append_assoc stamped (s ∷ []) e.more; numbered = e.numbered }

pub extends_same : (stamped : List StampedPacket) → IsNumberedFrom 1 stamped → Extends stamped stamped
extends_same stamped numbered = record { more = []; parts = sym (append-nil stamped); numbered = numbered }

-- ---- texts, places of the interpreter, and what a watch is told

records-append : (c : Course) (first others : List StampedPacket)
    → records_text (interpret c (first ++ others)) ≡ records_text (interpret c first) ++ records_text (interpret (course_after_all c first) others)
records-append c first others =
    ap records_text (interpret-append c first others) ∙ flat_map-append record_text (interpret c first) (interpret (course_after_all c first) others)

course-append : (c : Course) (first others : List StampedPacket) → course_after_all c (first ++ others) ≡ course_after_all (course_after_all c first) others
unfolding course_after_all
course-append c [] others = refl
course-append c (s ∷ first) others = course-append (course_after c s) first others

members-append : (c : Course) (first others : List StampedPacket)
    → members_from c (first ++ others) ≡ members_from c first ++ members_from (course_after_all c first) others
unfolding course_after_all members_from
members-append c [] others = refl
members-append c (s ∷ first) others =
    ap (λ l. member s.number s.edition (course_after c s).memory ∷ l) (members-append (course_after c s) first others)

pub course-is : (c : Course) (s : StampedPacket) → course_after c s ≡ standing s.edition s.tables (course_after c s).memory
unfolding course_after
course-is c s = refl

module _ (first : Database) (stamped : List StampedPacket) (s : StampedPacket) where
  pub text-next : text_of first (stamped ++ s ∷ []) ≡ text_of first stamped ++ record_text (record_for (course_after_all (start first) stamped) s)
  unfolding text_of interpret
  text-next = records-append (start first) stamped (s ∷ []) ∙ ap (λ t. text_of first stamped ++ t) (append-nil (record_text (record_for _ s)))

  pub course-next : course_after_all (start first) (stamped ++ s ∷ []) ≡ course_after (course_after_all (start first) stamped) s
  unfolding course_after_all
  course-next = course-append (start first) stamped (s ∷ [])

  pub members-next : members_from (start first) (stamped ++ s ∷ [])
      ≡ members_from (start first) stamped ++ member s.number s.edition (course_after (course_after_all (start first) stamped) s).memory ∷ []
  unfolding members_from
  members-next = members-append (start first) stamped (s ∷ [])

-- the record of a packet has octets
some-record : (r : Record) → 0 < length (record_text r)
unfolding record_text record_body head_text
some-record r =
    let whole = length-append (edition_text_of r.edition) (record_body r) in
    let body = length-append (head_text r.number (header_of r.packet) r.found r.title) (flat_map (told_text r.packet) r.values ++ ended_text r.ended) in
    omega (arith, whole, body)

-- a first part of the next record ends before it
pub in-next : (first : Database) (all : List StampedPacket) (n k : ℕ) (s : StampedPacket) (rest : List StampedPacket) → drop n all ≡ s ∷ rest
    → k < length (record_text (record_for (course_after_all (start first) (take n all)) s))
    → EndsInNext first all n (take k (record_text (record_for (course_after_all (start first) (take n all)) s)))
in-next first all n k s rest at part some =
    let front = take n all in
    let record' = record_text (record_for (course_after_all (start first) front) s) in
    let next : text_of first (take (n + 1) all) ≡ text_of first front ++ record' = ap (text_of first) (take_one all n s rest at) ∙ text-next first front s in
    let longer = ap (λ (t : List ℕ). length t) next ∙ length-append (text_of first front) record' in
    let shorter = length-append (text_of first front) (take k record') in
    let taken = length-take-le k record' (omega (arith, part)) in
    omega (arith, longer, shorter, taken, part)

-- and so does nothing of it
pub none-in-next : (first : Database) (all : List StampedPacket) (n : ℕ) → EndsInNext first all n []
none-in-next first all n some =
    let d = first-of all n some in
    in-next first all n 0 d.0 d.1 d.2 (some-record (record_for (course_after_all (start first) (take n all)) d.0)) some

-- the text of the first packets is a first part of the text of all
pub text-front : (first : Database) (n : ℕ) (all : List StampedPacket) → (more : List ℕ) × (text_of first all ≡ text_of first (take n all) ++ more)
unfolding text_of
text-front first n all = (_, ap (text_of first) (sym (take-append-drop n all)) ∙ records-append (start first) (take n all) (drop n all))
