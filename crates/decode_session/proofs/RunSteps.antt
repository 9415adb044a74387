-- A run, step by step.
use Rattle.std.proofs.Common.{◌≡◌, ◌≢◌, ◌<◌, ◌≤◌, ◌+◌, ℕ, zero, suc, List, [], ◌∷◌, ◌++◌, Option, Some, None, Result, Ok, Err, length, take, refl, sym, ap, ◌∙◌, append-nil, length-append, arith, subst, ◌⊎◌, inl, inr}
use Rattle.std.specs.Prelude.{IfSome}
use Rattle.std.specs.List.{All, concat}
use Rattle.std.proofs.lemmas.List.{take_at}
use Rattle.std.proofs.lemmas.List.Elements.{All-append, All-nil}
use Rattle.std.proofs.lemmas.List.Folds.{concat-append}
use Rattle.std.proofs.KnownBytes.{Appends-trans, Appends-nil, Consumes-nil, Consumes-trans}
use Rattle.std.specs.Io.KnownBytes.{Appends, Consumes, IsAtEnd}
use Rattle.tm_io.specs.Causes.{Rose}
use Rattle.tm_io.specs.Octets.{AppendsPrefix}
use Rattle.packet_feed.specs.Feed.{TookRest, TookLast}
use Rattle.decode_session.specs.declared.batch.Filled.{Filled}
use Rattle.decode_session.specs.declared.batch.Filled.TheVariants as filled
use Rattle.decode_session.specs.declared.ending.RunEnd.{RunEnd}
use Rattle.decode_session.specs.declared.ending.RunEnd.TheVariants as end
use Rattle.decode_session.specs.declared.ending.RunFault.{RunFault}
use Rattle.decode_session.specs.declared.ending.RunFault.TheVariants as fault
use Rattle.decode_session.specs.declared.ending.Stop.TheVariants as stop
use Rattle.decode_session.specs.Batches.{EndsBatch}
use Rattle.decode_session.specs.Causes.{HasFillCause, HasFeedCause}
use Rattle.decode_session.specs.Finishing.{batch_text, LeavesAfter, Going}
use Rattle.decode_session.specs.Run.{Ran, EndsBy, EndsWhole, EndsCut, EndsAtLimit, EndsUnread, EndsUnwritten, EndsWanting, Writes, WritesPart, WritesOver, ReadsNoFurther, StopsWriting}
use Rattle.decode_session.proofs.BatchFacts.{guarded, stamped-append}
use Rattle.decode_session.proofs.FinishFacts.{text-none, leaves-none, text-append, leaves-append, part-longer, part-behind}
use Rattle.run_laws.proofs.OneEdition.{output-one}
use Rattle.mib_model.specs.declared.database.Database.{Database}
use Rattle.mib_model.specs.Kept.{Memory, empty_memory}
use Rattle.run_model.specs.Output.{output_of_one}
use Rattle.mib_model.specs.Interpreter.{stamped_from}
use Rattle.mib_model.specs.Packets.{IsPacket, BeginsNoPacket, IsCut}
use Rattle.mib_model.specs.Texts.{cut_text, rest_text}

-- ---- the text of packets

-- the records of packets
abbrev text_of : Database → List (List ℕ) → List ℕ
text_of db packets = batch_text 1 db empty_memory (stamped_from db 1 packets)

output-text : (db : Database) (packets : List (List ℕ)) → output_of_one db packets [] ≡ text_of db packets
output-text db packets = output-one db packets [] ∙ append-nil (text_of db packets)

-- a tail behind the text
output-tail : (db : Database) (packets : List (List ℕ)) (tail : List ℕ) → output_of_one db packets tail ≡ output_of_one db packets [] ++ tail
output-tail db packets tail = output-one db packets tail ∙ ap (λ t. t ++ tail) (sym (output-text db packets))

stamped-none : (db : Database) (number : ℕ) → stamped_from db number [] ≡ []
unfolding stamped_from
stamped-none db number = refl

output-none : (db : Database) → output_of_one db [] [] ≡ []
output-none db = output-text db [] ∙ ap (batch_text 1 db empty_memory) (stamped-none db 1) ∙ text-none 1 db empty_memory

-- this is kept after packets
abbrev Kept : Database → List (List ℕ) → Memory → Type 0
Kept db packets memory = LeavesAfter 1 db empty_memory (stamped_from db 1 packets) memory

-- packets more
output-more : (db : Database) (packets more : List (List ℕ)) (number : ℕ) (memory : Memory) → Kept db packets memory → length packets + 1 ≡ number
    → output_of_one db (packets ++ more) [] ≡ output_of_one db packets [] ++ batch_text 1 db memory (stamped_from db number more)
output-more db packets more number memory kept count =
    let place : 1 + length packets ≡ number = omega (arith, count) in
    output-text db (packets ++ more) ∙ ap (batch_text 1 db empty_memory) (stamped-append db 1 packets more)
    ∙ text-append 1 db empty_memory memory (stamped_from db 1 packets) (stamped_from db (1 + length packets) more) kept
    ∙ ap (λ t. t ++ batch_text 1 db memory (stamped_from db (1 + length packets) more)) (sym (output-text db packets))
    ∙ ap (λ n. output_of_one db packets [] ++ batch_text 1 db memory (stamped_from db n more)) place

kept-more : (db : Database) (packets more : List (List ℕ)) (number : ℕ) (memory after : Memory) → Kept db packets memory → length packets + 1 ≡ number
    → LeavesAfter 1 db memory (stamped_from db number more) after → Kept db (packets ++ more) after
kept-more db packets more number memory after kept count leaves =
    let place : number ≡ 1 + length packets = omega (arith, count) in
    subst (λ s. LeavesAfter 1 db empty_memory s after) (sym (stamped-append db 1 packets more))
    (leaves-append 1 db empty_memory memory after (stamped_from db 1 packets) (stamped_from db (1 + length packets) more) kept (subst (λ n. LeavesAfter 1 db memory (stamped_from db n more) after) place leaves))

-- ---- what was written

-- a tail behind the text that was written
writes-tail : (db : Database) (packets : List (List ℕ)) (tail : List ℕ) (old mid new : Option (List ℕ)) → Writes db packets [] old mid → Appends mid new tail → Writes db packets tail old new
writes-tail db packets tail old mid new wrote printed =
    subst (Appends old new) (sym (output-tail db packets tail)) (Appends-trans old mid new (output_of_one db packets []) tail wrote printed)

-- what was written whole is a first part of itself with more behind it
part-whole : (text tail : List ℕ) (old new : Option (List ℕ)) → Appends old new text → AppendsPrefix old new (text ++ tail)
part-whole text tail old new wrote = (length text, subst (Appends old new) (sym (take_at text tail (length text) refl)) wrote)

part-tail : (db : Database) (packets : List (List ℕ)) (tail : List ℕ) (old new : Option (List ℕ)) → Writes db packets [] old new → WritesPart db packets tail old new
part-tail db packets tail old new wrote = subst (AppendsPrefix old new) (sym (output-tail db packets tail)) (part-whole (output_of_one db packets []) tail old new wrote)

part-same : (db : Database) (packets : List (List ℕ)) (tail : List ℕ) (old new : Option (List ℕ)) → Writes db packets tail old new → WritesPart db packets tail old new
part-same db packets tail old new wrote =
    subst (AppendsPrefix old new) (append-nil (output_of_one db packets tail)) (part-whole (output_of_one db packets tail) [] old new wrote)

over-same : (db : Database) (packets : List (List ℕ)) (old new : Option (List ℕ)) → Writes db packets [] old new → WritesOver db packets old new
over-same db packets old new wrote = ([], subst (Appends old new) (sym (append-nil (output_of_one db packets []))) wrote)

over-tail : (db : Database) (packets : List (List ℕ)) (tail : List ℕ) (old new : Option (List ℕ)) → Writes db packets tail old new → WritesOver db packets old new
over-tail db packets tail old new wrote = (tail, subst (Appends old new) (output-tail db packets tail) wrote)

-- the text of packets, and a first part of more behind it
over-part : (db : Database) (packets : List (List ℕ)) (tail : List ℕ) (old mid new : Option (List ℕ)) → Writes db packets [] old mid → AppendsPrefix mid new tail → WritesOver db packets old new
over-part db packets tail old mid new wrote (count, printed) = (take count tail, Appends-trans old mid new (output_of_one db packets []) (take count tail) wrote printed)

-- ---- what was read

reads_all : (packets : List (List ℕ)) (rest : List ℕ) (before now : ℕ) → ReadsNoFurther packets packets rest before now
reads_all packets rest before now = record { more = []; parted = sym (append-nil packets); few = omega arith; last = inl (λ some. absurd (omega (arith, some))) }

-- nothing begins no packet
none-begins_none : BeginsNoPacket []
none-begins_none zero fits packet = absurd (omega (arith, packet))
none-begins_none (suc n) fits packet = absurd (omega (arith, packet))

-- octets that were read behind others
consumes-more : (start left after : Option (List ℕ)) (front more : List ℕ) → Consumes start left front → IfSome start (λ octets. Consumes left after more) → Consumes start after (front ++ more)
consumes-more None left after front more taken next = tt
consumes-more (Some octets) left after front more taken next = Consumes-trans (Some octets) left after front more taken next

-- a feed that was at its end is at its end where nothing was read
at-end : (start left after : Option (List ℕ)) (front : List ℕ) → Consumes start left front → IsAtEnd left → Consumes left after [] → IfSome start (λ octets. IsAtEnd after)
at-end None left after front taken end none = tt
at-end (Some octets) None after front taken end none = absurd taken
at-end (Some octets) (Some left) None front taken end none = absurd none
at-end (Some octets) (Some left) (Some after) front taken end none = sym none ∙ end

-- whole packets are cut into themselves
packets-cut : (packets : List (List ℕ)) → All IsPacket packets → IsCut (concat packets) packets []
packets-cut packets each = record { whole = sym (append-nil (concat packets)); each = each; begins_none = none-begins_none }

-- packets and a rest that begins none
rest-cut : (packets : List (List ℕ)) (rest : List ℕ) → All IsPacket packets → BeginsNoPacket rest → IsCut (concat packets ++ rest) packets rest
rest-cut packets rest each none = record { whole = refl; each = each; begins_none = none }

-- packets more
read-more : (start left after : Option (List ℕ)) (packets more : List (List ℕ)) → Consumes start left (concat packets) → IfSome start (λ octets. Consumes left after (concat more))
    → Consumes start after (concat (packets ++ more))
read-more start left after packets more front next =
    subst (Consumes start after) (sym (concat-append packets more)) (consumes-more start left after (concat packets) (concat more) front next)

-- the line of a rest that isn't empty
rest_text-some : (rest : List ℕ) (cut : ℕ) → length rest ≡ cut → 0 < cut → rest_text rest ≡ cut_text cut
rest_text-some [] cut size some = absurd (omega (arith, size, some))
rest_text-some (b ∷ rest) cut size some = ap cut_text size

-- ---- a run that goes on

pub going-start : (db : Database) (memory : Memory) (left old : Option (List ℕ)) → memory ≡ empty_memory → Going db 1 memory left left old old
going-start db memory left old none =
    ([], Consumes-nil left, All-nil IsPacket, refl, subst (Appends old old) (sym (output-none db)) (Appends-nil old), subst (λ m. Kept db [] m) (sym none) (subst (λ s. LeavesAfter 1 db empty_memory s empty_memory) (sym (stamped-none db 1)) (leaves-none 1 db empty_memory)))

-- nothing more was written
pub going-same : (db : Database) (number : ℕ) (memory : Memory) (start left old mid new : Option (List ℕ)) → new ≡ mid → Going db number memory start left old mid → Going db number memory start left old new
going-same db number memory start left old mid new same so_far = rw same so_far

-- nothing was read behind packets
pub going-paused : (db : Database) (number : ℕ) (memory : Memory) (packets : List (List ℕ)) (start left after old new : Option (List ℕ)) → IfSome start (λ octets. EndsBatch filled.Paused packets left after)
    → Going db number memory start left old new → Going db number memory start after old new
going-paused db number memory packets None left after old new ends (before, taken, each, count, wrote, kept) = (before, tt, each, count, wrote, kept)
going-paused db number memory packets (Some octets) left after old new ends so_far = subst (λ l. Going db number memory (Some octets) l old new) (sym ends.0) so_far

module _ (db : Database) (number : ℕ) (memory : Memory) where
  -- packets more
  pub going-more : (more : List (List ℕ)) (after : Memory) (start left middle old mid new : Option (List ℕ)) → All IsPacket more → IfSome start (λ octets. Consumes left middle (concat more))
      → Appends mid new (batch_text 1 db memory (stamped_from db number more)) → LeavesAfter 1 db memory (stamped_from db number more) after
      → Going db number memory start left old mid → Going db (number + length more) after start middle old new
  going-more more after start left middle old mid new are taken printed leaves (packets, front, each, count, wrote, kept) = (
    packets ++ more,
    read-more start left middle packets more front taken,
    All-append IsPacket packets more each are,
    omega (arith, count, length-append packets more),
    subst (Appends old new) (sym (output-more db packets more number memory kept count))
        (Appends-trans old mid new (output_of_one db packets []) (batch_text 1 db memory (stamped_from db number more)) wrote printed),
    kept-more db packets more number memory after kept count leaves,
  )

-- ---- a run that ends

stops-with : (db : Database) (packets printed : List (List ℕ)) (rest : List ℕ) (before now : ℕ) (old new : Option (List ℕ))
    → ((tail : List ℕ) → WritesPart db packets tail old new) → ReadsNoFurther packets printed rest before now → WritesOver db printed old new → StopsWriting db packets rest before now old new
stops-with db packets printed rest before now old new part reads least =
    record { whole = λ same. part (rest_text rest); fault = λ more. part []; printed = printed; reads = reads; least = least }

-- the output failed before a packet was read
pub ran-unhanded : (db : Database) (number before now : ℕ) (memory : Memory) (start left old new : Option (List ℕ)) → number ≤ 1000000000
    → Going db number memory start left old new → Ran (EndsUnwritten before now) db start left old new
ran-unhanded db number before now memory start left old new few (packets, front, each, count, wrote, kept) = (
  concat packets,
  packets,
  [],
  front,
  packets-cut packets each,
  (omega (arith, count, few), stops-with db packets packets [] before now old new (λ tail. part-tail db packets tail old new wrote) (reads_all packets [] before now) (over-same db packets old new wrote)),
)

pub ran-whole : (db : Database) (number : ℕ) (memory : Memory) (start left after old new : Option (List ℕ)) → number ≤ 1000000000
    → IsAtEnd left × Consumes left after [] → Going db number memory start left old new → Ran EndsWhole db start after old new
ran-whole db number memory start left after old new few (end, none) (packets, front, each, count, wrote, kept) = (
  concat packets,
  packets,
  [],
  subst (Consumes start after) (append-nil (concat packets)) (Consumes-trans start left after (concat packets) [] front none),
  packets-cut packets each,
  (refl, at-end start left after (concat packets) front end none, omega (arith, count, few), wrote),
)

pub ran-limit : (db : Database) (number : ℕ) (memory : Memory) (start left old new : Option (List ℕ)) → number ≡ 1000000001
    → Going db number memory start left old new → Ran EndsAtLimit db start left old new
ran-limit db number memory start left old new last (packets, front, each, count, wrote, kept) =
    (concat packets, packets, [], front, packets-cut packets each, (refl, omega (arith, count, last), wrote))

pub ran-fault : (db : Database) (number : ℕ) (memory : Memory) (start left after old new : Option (List ℕ)) → number ≤ 1000000000
    → TookRest left after → Going db number memory start left old new → Ran EndsUnread db start after old new
ran-fault db number memory start left after old new few (rest, none, taken) (packets, front, each, count, wrote, kept) =
    (concat packets ++ rest, packets, rest, Consumes-trans start left after (concat packets) rest front taken, rest-cut packets rest each none, (omega (arith, count, few), wrote))

pub ran-cut : (db : Database) (number cut : ℕ) (memory : Memory) (start left after old mid new : Option (List ℕ)) → number ≤ 1000000000
    → TookLast cut left after → Appends mid new (cut_text cut) → Going db number memory start left old mid → Ran (EndsCut cut) db start after old new
ran-cut db number cut memory start left after old mid new few (rest, size, some, none, taken, end) printed (packets, front, each, count, wrote, kept) = (
  concat packets ++ rest,
  packets,
  rest,
  Consumes-trans start left after (concat packets) rest front taken,
  rest-cut packets rest each none,
  (size, some, guarded start (IsAtEnd after) end, omega (arith, count, few), writes-tail db packets (cut_text cut) old mid new wrote printed),
)

-- writing stopped in the line of the rest
pub ran-stopped_at_rest : (db : Database) (number cut before now : ℕ) (memory : Memory) (start left after old mid new : Option (List ℕ)) → number ≤ 1000000000
    → TookLast cut left after → now ≡ before → AppendsPrefix mid new (cut_text cut) → Going db number memory start left old mid → Ran (EndsUnwritten before now) db start after old new
ran-stopped_at_rest db number cut before now memory start left after old mid new few (rest, size, some, none, taken, end) same stopped (packets, front, each, count, wrote, kept) =
    let part = part-behind (output_of_one db packets []) (cut_text cut) old mid new wrote stopped in (
      concat packets ++ rest,
      packets,
      rest,
      Consumes-trans start left after (concat packets) rest front taken,
      rest-cut packets rest each none,
      (
        omega (arith, count, few),
        record {
          whole = λ e. subst (AppendsPrefix old new) (sym (output-tail db packets (rest_text rest) ∙ ap (λ t. output_of_one db packets [] ++ t) (rest_text-some rest cut size some))) part;
          fault = λ more. absurd (omega (arith, more, same));
          printed = packets;
          reads = reads_all packets rest before now;
          least = over-part db packets (cut_text cut) old mid new wrote stopped;
        },
      ),
    )

-- what a batch read behind its packets, where the feed told its octets; and else this is nothing
record Rests (start : Option (List ℕ)) (some : ℕ) (middle after : Option (List ℕ)) (before now : ℕ) : Type 0 where
  rest : List ℕ
  taken : IfSome start (λ octets. Consumes middle after rest)
  none : BeginsNoPacket rest
  last : (0 < some → rest ≡ []) ⊎ Rose before now

rests-none : (start : Option (List ℕ)) (some : ℕ) (middle after : Option (List ℕ)) (before now : ℕ) → IfSome start (λ octets. Consumes middle after []) → Rests start some middle after before now
rests-none start some middle after before now taken = record { rest = []; taken = taken; none = none-begins_none; last = inl (λ more. refl) }

batch-rests : (f : Filled) (cells : List (List ℕ)) (start middle after : Option (List ℕ)) (front : List ℕ) (before now : ℕ) → Consumes start middle front → IfSome start (λ octets. EndsBatch f cells middle after) → HasFillCause f before now
    → Rests start (length cells) middle after before now
batch-rests f cells None middle after front before now read ends cause = rests-none None (length cells) middle after before now tt
batch-rests f cells (Some octets) None after front before now read ends cause = absurd read
batch-rests filled.Paused cells (Some octets) (Some middle) after front before now read (same, some) cause =
    rests-none (Some octets) (length cells) (Some middle) after before now (subst (λ a. Consumes (Some middle) a []) (sym same) (Consumes-nil (Some middle)))
batch-rests filled.End cells (Some octets) (Some middle) after front before now read (end, taken) cause = rests-none (Some octets) (length cells) (Some middle) after before now taken
batch-rests (filled.Cut count) cells (Some octets) (Some middle) after front before now read (took, alone) cause =
    let (rest, size, some, none, taken, end) = took in
    let none_waits = ap (λ cs. length cs) alone in
    record { rest = rest; taken = taken; none = none; last = inl (λ more. absurd (omega (arith, more, none_waits))) }
batch-rests filled.Failed cells (Some octets) (Some middle) after front before now read took cause =
    let (rest, none, taken) = took in
    record { rest = rest; taken = taken; none = none; last = inr cause.1 }

module _ (db : Database) (number : ℕ) (memory : Memory) (more : List (List ℕ)) (f : Filled) (before now : ℕ) (few : length more ≤ 64) (limit : number + length more ≤ 1000000001) (cause : HasFillCause f before now) where
  -- writing stopped in the records of packets
  pub ran-stopped_within : (start left middle after old mid new : Option (List ℕ)) → All IsPacket more → IfSome start (λ octets. Consumes left middle (concat more)) → IfSome start (λ octets. EndsBatch f more middle after)
      → AppendsPrefix mid new (batch_text 1 db memory (stamped_from db number more)) → Going db number memory start left old mid → Ran (EndsUnwritten before now) db start after old new
  ran-stopped_within start left middle after old mid new are taken ends stop (packets, front, each, count, wrote, kept) =
      let all = packets ++ more in
      let read = read-more start left middle packets more front taken in
      let r = batch-rests f more start middle after (concat all) before now read ends cause in
      let text = batch_text 1 db memory (stamped_from db number more) in
      let part : (tail : List ℕ) → WritesPart db all tail old new = λ tail.
      subst (AppendsPrefix old new) (sym (output-tail db all tail ∙ ap (λ t. t ++ tail) (output-more db packets more number memory kept count)))
      (part-longer (output_of_one db packets [] ++ text) tail old new (part-behind (output_of_one db packets []) text old mid new wrote stop)) in (
        concat all ++ r.rest,
        all,
        r.rest,
        consumes-more start middle after (concat all) r.rest read r.taken,
        rest-cut all r.rest (All-append IsPacket packets more each are) r.none,
        (
          omega (arith, count, limit, length-append packets more),
          stops-with db all packets r.rest before now old new part
              (record { more = more; parted = refl; few = few; last = r.last })
              (over-part db packets text old mid new wrote stop),
        ),
      )

-- ---- the run whole

-- nothing was read and nothing written
pub ran_nothing : (db : Database) (left old : Option (List ℕ)) → Ran EndsWanting db left left old old
ran_nothing db left old = ([], [], [], Consumes-nil left, packets-cut [] (All-nil IsPacket), (refl, refl, refl))

-- a run whose output fails at its end
ends-unflushed : (r : Result RunEnd RunFault) (db : Database) (packets : List (List ℕ)) (rest : List ℕ) (before now : ℕ) (start left old new : Option (List ℕ)) → r ≢ Err (fault.Print stop.Memory)
    → HasFeedCause r before now → EndsBy r before now db packets rest start left old new → EndsUnwritten before now db packets rest start left old new
ends-unflushed (Ok end.Whole) db packets rest before now start left old new some cause (none, end, few, wrote) =
    (omega (arith, few), stops-with db packets packets rest before now old new (λ tail. part-tail db packets tail old new wrote) (reads_all packets rest before now) (over-same db packets old new wrote))
ends-unflushed (Ok (end.Cut cut)) db packets rest before now start left old new some cause (size, more, end, few, wrote) = (
  omega (arith, few),
  record {
    whole = λ same. subst (λ (tail : List ℕ). WritesPart db packets tail old new) (sym (rest_text-some rest cut size more)) (part-same db packets (cut_text cut) old new wrote);
    fault = λ rose. absurd (omega (arith, rose, cause));
    printed = packets;
    reads = reads_all packets rest before now;
    least = over-tail db packets (cut_text cut) old new wrote;
  },
)
ends-unflushed (Ok end.Limit) db packets rest before now start left old new some cause (none, all, wrote) =
    (omega (arith, all), stops-with db packets packets rest before now old new (λ tail. part-tail db packets tail old new wrote) (reads_all packets rest before now) (over-same db packets old new wrote))
ends-unflushed (Err fault.Feed) db packets rest before now start left old new some cause (few, wrote) =
    (omega (arith, few), stops-with db packets packets rest before now old new (λ tail. part-tail db packets tail old new wrote) (reads_all packets rest before now) (over-same db packets old new wrote))
ends-unflushed (Err (fault.Print stop.Out)) db packets rest before now start left old new some cause ends = ends
ends-unflushed (Err (fault.Print stop.Memory)) db packets rest before now start left old new some cause ends = absurd (some refl)

pub ran_unflushed : (r : Result RunEnd RunFault) (db : Database) (before now : ℕ) (start after old mid new : Option (List ℕ)) → new ≡ mid → r ≢ Err (fault.Print stop.Memory) → HasFeedCause r before now
    → Ran (EndsBy r before now) db start after old mid → Ran (EndsUnwritten before now) db start after old new
ran_unflushed r db before now start after old mid new same some cause (read, packets, rest, taken, cut, ends) =
    (read, packets, rest, taken, cut, ends-unflushed r db packets rest before now start after old new some cause (subst (λ n. EndsBy r before now db packets rest start after old n) (sym same) ends))
