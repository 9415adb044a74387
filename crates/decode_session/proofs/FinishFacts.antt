-- Records of packets of one edition, in parts.
use Rattle.std.proofs.Common.{◌≡◌, ◌+◌, ℕ, Bool, zero, suc, List, [], ◌∷◌, ◌++◌, Option, Some, None, true, cond, ◌==◌, length, take, refl, sym, ap, ◌∙◌, append-nil, zero-add, arith, subst}
use Rattle.std.specs.List.{All}
use Rattle.std.proofs.lemmas.List.Elements.{All-cons, All-nil}
use Rattle.std.proofs.lemmas.Grind.{flat_map-append}
use Rattle.std.proofs.KnownBytes.{Appends-trans}
use Rattle.std.specs.Io.KnownBytes.{Appends}
use Rattle.tm_io.specs.Octets.{AppendsPrefix}
use Rattle.decode_one.specs.Steps.{ComesTo, ComeTo, HasStepped, HasSteppedFor, IsOf}
use Rattle.decode_session.specs.Finishing.{standing, next_text, batch_text, Leaves, LeavesAfter}
use Rattle.mib_laws.proofs.RunFacts.{interpret-append}
use Rattle.mib_model.specs.declared.database.Database.{Database}
use Rattle.mib_model.specs.Interpreter.{Course, StampedPacket, record_for, course_after, interpret, course_after_all, records_text}
use Rattle.mib_model.specs.Kept.{Memory}
use Rattle.mib_model.specs.Interpreter.{stamped_first, stamped_from}
use Rattle.mib_model.specs.Texts.{edition_text_of, record_text, record_body}

-- ---- one packet

-- the step leaves just where it stands
pub exactly : {asked : List ℕ → Bool} {c : Course} {s : StampedPacket} {kept : Memory} {old new : List ℕ} → HasSteppedFor asked c s kept old new
    → HasStepped c s (course_after c s).memory old new
exactly step = record { text = step.text; memory = refl }

same-edition : (edition : ℕ) → (edition == edition) ≡ true
same-edition edition = search arith

-- a packet with its number, of an edition with these tables
abbrev numbered : ℕ → Database → ℕ → List ℕ → StampedPacket
numbered edition db number packet = record { number = number; packet = packet; edition = edition; tables = db }

module _ (edition : ℕ) (db : Database) (memory : Memory) where
  -- the interpreter comes to a packet
  pub comes-to : (number : ℕ) (packet octets : List ℕ) → octets ≡ packet → ComesTo (standing edition db memory) (numbered edition db number packet) number octets db memory
  comes-to number packet octets is = record { number = refl; packet = sym is; tables = refl; memory = rw (same-edition edition) refl }

  -- a packet of the edition in use has no line of its edition
  body-text : (number : ℕ) (packet : List ℕ) → next_text edition db memory (numbered edition db number packet) ≡ record_body (record_for (standing edition db memory) (numbered edition db number packet))
  unfolding record_text record_for
  body-text number packet = ap (λ b. edition_text_of (cond b None (Some edition)) ++ record_body (record_for (standing edition db memory) (numbered edition db number packet))) (same-edition edition)

  pub step-text : (after : Memory) (number : ℕ) (packet old new : List ℕ)
      → HasStepped (standing edition db memory) (numbered edition db number packet) after old new → new ≡ old ++ next_text edition db memory (numbered edition db number packet)
  step-text after number packet old new step = step.text ∙ ap (λ t. old ++ t) (sym (body-text number packet))

  pub step-leaves : (after : Memory) (number : ℕ) (packet old new : List ℕ)
      → HasStepped (standing edition db memory) (numbered edition db number packet) after old new → Leaves edition db memory (numbered edition db number packet) after
  unfolding course_after
  step-leaves after number packet old new step = ap (standing edition db) (sym step.memory)

-- ---- packets

pub text-none : (edition : ℕ) (db : Database) (memory : Memory) → batch_text edition db memory [] ≡ []
unfolding interpret
text-none edition db memory = refl

pub leaves-none : (edition : ℕ) (db : Database) (memory : Memory) → LeavesAfter edition db memory [] memory
unfolding course_after_all
leaves-none edition db memory = refl

pub text-one : (edition : ℕ) (db : Database) (memory : Memory) (s : StampedPacket) → batch_text edition db memory (s ∷ []) ≡ next_text edition db memory s
unfolding interpret
text-one edition db memory s = append-nil (next_text edition db memory s)

pub leaves-one : (edition : ℕ) (db : Database) (memory after : Memory) (s : StampedPacket) → Leaves edition db memory s after → LeavesAfter edition db memory (s ∷ []) after
unfolding course_after_all
leaves-one edition db memory after s leaves = leaves

pub text-append : (edition : ℕ) (db : Database) (memory middle : Memory) (first others : List StampedPacket) → LeavesAfter edition db memory first middle
    → batch_text edition db memory (first ++ others) ≡ batch_text edition db memory first ++ batch_text edition db middle others
text-append edition db memory middle first others leaves =
    ap records_text (interpret-append (standing edition db memory) first others)
    ∙ flat_map-append record_text (interpret (standing edition db memory) first) (interpret (course_after_all (standing edition db memory) first) others)
    ∙ ap (λ (c : Course). batch_text edition db memory first ++ records_text (interpret c others)) (sym leaves)

course-append : (c : Course) (first others : List StampedPacket) → course_after_all c (first ++ others) ≡ course_after_all (course_after_all c first) others
unfolding course_after_all
course-append c [] others = refl
course-append c (s ∷ first) others = course-append (course_after c s) first others

pub leaves-append : (edition : ℕ) (db : Database) (memory middle after : Memory) (first others : List StampedPacket) → LeavesAfter edition db memory first middle → LeavesAfter edition db middle others after
    → LeavesAfter edition db memory (first ++ others) after
leaves-append edition db memory middle after first others leaves more =
    more ∙ ap (λ (c : Course). course_after_all c others) leaves ∙ sym (course-append (standing edition db memory) first others)

-- what is kept after packets that come there is known
pub leaves-run : (db : Database) (number : ℕ) (packets : List (List ℕ)) (memory : Memory)
    → LeavesAfter 1 db memory (stamped_from db number packets) (course_after_all (standing 1 db memory) (stamped_from db number packets)).memory
unfolding stamped_from course_after_all course_after
leaves-run db number [] memory = refl
leaves-run db number (p ∷ ps) memory = leaves-run db (number + 1) ps (course_after (standing 1 db memory) (stamped_first db (number, p))).memory

stamped-of : (db : Database) (number : ℕ) (packets : List (List ℕ)) → All (IsOf 1 db) (stamped_from db number packets)
unfolding stamped_from
stamped-of db number [] = All-nil (IsOf 1 db)
stamped-of db number (p ∷ ps) = All-cons (IsOf 1 db) (stamped_first db (number, p)) (stamped_from db (number + 1) ps) (record { edition = refl; tables = refl }) (stamped-of db (number + 1) ps)

-- the interpreter comes to packets
pub come-to : (db : Database) (number : ℕ) (packets : List (List ℕ)) (memory : Memory) → ComeTo (standing 1 db memory) (stamped_from db number packets) db memory
come-to db number packets memory = record { tables = refl; memory = refl; packets = stamped-of db number packets }

-- ---- a first part of a text

take-less : (xs ys : List ℕ) (n : ℕ) → (k : ℕ) × (take k (xs ++ ys) ≡ take n xs)
take-less xs ys zero = (0, refl)
take-less [] ys (suc n) = (0, refl)
take-less (x ∷ xs) ys (suc n) = let (k, is) = take-less xs ys n in (suc k, ap (λ l. x ∷ l) is)

-- a first part of a text is one of a longer text
pub part-longer : (xs ys : List ℕ) (old new : Option (List ℕ)) → AppendsPrefix old new xs → AppendsPrefix old new (xs ++ ys)
part-longer xs ys old new (n, wrote) = let (k, is) = take-less xs ys n in (k, subst (Appends old new) (sym is) wrote)

-- a first part of a text behind another
pub part-behind : (text tail : List ℕ) (old mid new : Option (List ℕ)) → Appends old mid text → AppendsPrefix mid new tail → AppendsPrefix old new (text ++ tail)
part-behind text tail old mid new wrote (count, printed) =
    (length text + count, subst (Appends old new) (sym (take-behind text tail count)) (Appends-trans old mid new text (take count tail) wrote printed))
  where
    take-behind : (xs ys : List ℕ) (n : ℕ) → take (length xs + n) (xs ++ ys) ≡ xs ++ take n ys
    take-behind [] ys n = ap (λ k. take k ys) (zero-add n)
    take-behind (x ∷ xs) ys n = let next : suc (length xs) + n ≡ suc (length xs + n) = omega arith in rw next (ap (λ t. x ∷ t) (take-behind xs ys n))
