-- Packets that are read and printed.
use Rattle.std.proofs.Common.{◌≡◌, ◌<◌, ◌≤◌, ◌+◌, ℕ, List, [], ◌∷◌, ◌++◌, Option, Result, Ok, Err, length, take, drop, get_or, take-append-drop, length-take, sym, ap, ◌∙◌, append-nil, append_assoc, arith, subst}
use Rattle.std.specs.Prelude.{OnErr, OnOk, is_err, true, false}
use Rattle.std.specs.List.{concat}
use Rattle.std.specs.Io.KnownBytes.{Appends, Consumes}
use Rattle.tm_io.specs.Octets.{AppendsPrefix}
use Rattle.std.proofs.KnownBytes.{Appends-nil, Appends-trans, Consumes-trans, Consumes-nil}
use Rattle.std.proofs.lemmas.List.{take_more, take-take}
use Rattle.std.proofs.lemmas.List.Elements.{All-append, All-nil, All-cons}
use Rattle.std.proofs.lemmas.List.Folds.{concat-append}
use Rattle.decode_one.specs.Steps.{HasStepped}
use Rattle.decode_session.specs.declared.batch.Filled.{Filled}
use Rattle.decode_session.specs.Batches.{EndsBatch, Reads}
use Rattle.decode_session.specs.Causes.{HasFillCause}
use Rattle.decode_session.specs.Finishing.{standing, batch_text, Finishes, LeavesAfter, Going}
use Rattle.decode_session.specs.Run.{Ran, EndsUnwritten}
use Rattle.decode_session.specs.Turns.{Adds, AddsBatch, Prints, PrintsNext, PrintsPart, StopsNext}
use Rattle.decode_session.proofs.BatchFacts.{ends-of_feed, guarded, stamped-append, stamped-one, stamped-none}
use Rattle.decode_session.proofs.FinishFacts.{text-none, leaves-none, text-one, leaves-one, text-append, leaves-append, leaves-run, part-behind, part-longer, step-text, step-leaves}
use Rattle.decode_session.proofs.RunSteps.{going-more, ran-stopped_within}
use Rattle.mib_model.specs.declared.database.Database.{Database}
use Rattle.mib_model.specs.Interpreter.{course_after_all}
use Rattle.mib_model.specs.Kept.{Memory}
use Rattle.mib_model.specs.Interpreter.{stamped_first, stamped_from}
use Rattle.mib_model.specs.Packets.{IsPacket}

module _ (db : Database) (number : ℕ) where
  -- no packet yet
  pub adds-none : (left : Option (List ℕ)) (memory : Memory) (text : List ℕ) → text ≡ [] → Adds db number [] left left memory memory [] text
  adds-none left memory text none =
      record {
        are_packets = All-nil IsPacket;
        taken = Consumes-nil left;
        leaves = subst (λ s. LeavesAfter 1 db memory s memory) (sym (stamped-none db number)) (leaves-none 1 db memory);
        appended = none ∙ sym (ap (batch_text 1 db memory) (stamped-none db number) ∙ text-none 1 db memory);
      }

  -- one packet
  pub adds-one : (packet : List ℕ) (old new : Option (List ℕ)) (memory after : Memory) (text longer : List ℕ) → IsPacket packet → Consumes old new packet
      → HasStepped (standing 1 db memory) (stamped_first db (number, packet)) after text longer → Adds db number (packet ∷ []) old new memory after text longer
  adds-one packet old new memory after text longer is taken step =
      let s = stamped_first db (number, packet) in
      record {
        are_packets = All-cons IsPacket packet [] is (All-nil IsPacket);
        taken = subst (Consumes old new) (sym (append-nil packet)) taken;
        leaves = subst (λ l. LeavesAfter 1 db memory l after) (sym (stamped-one db number packet)) (leaves-one 1 db memory after s (step-leaves 1 db memory after number packet text longer step));
        appended = step-text 1 db memory after number packet text longer step
            ∙ ap (λ t. text ++ t) (sym (ap (batch_text 1 db memory) (stamped-one db number packet) ∙ text-one 1 db memory s));
      }

  -- packets more
  pub adds-more : (place : ℕ) (packets more : List (List ℕ)) (old mid new : Option (List ℕ)) (memory middle after : Memory) (text longer longest : List ℕ) → place ≡ number + length packets
      → Adds db number packets old mid memory middle text longer → Adds db place more mid new middle after longer longest → Adds db number (packets ++ more) old new memory after text longest
  adds-more place packets more old mid new memory middle after text longer longest is first next =
      let both = stamped-append db number packets more in
      let later = subst (λ n. LeavesAfter 1 db middle (stamped_from db n more) after) is next.leaves in
      let behind = stamped_from db (number + length packets) more in
      record {
        are_packets = All-append IsPacket packets more first.are_packets next.are_packets;
        taken = subst (Consumes old new) (sym (concat-append packets more)) (Consumes-trans old mid new (concat packets) (concat more) first.taken next.taken);
        leaves = subst (λ s. LeavesAfter 1 db memory s after) (sym both) (leaves-append 1 db memory middle after (stamped_from db number packets) behind first.leaves later);
        appended = next.appended ∙ ap (λ t. t ++ batch_text 1 db middle (stamped_from db place more)) first.appended
            ∙ append_assoc text (batch_text 1 db memory (stamped_from db number packets)) (batch_text 1 db middle (stamped_from db place more))
            ∙ ap (λ n. text ++ (batch_text 1 db memory (stamped_from db number packets) ++ batch_text 1 db middle (stamped_from db n more))) is
            ∙ ap (λ t. text ++ t) (sym (ap (batch_text 1 db memory) both ∙ text-append 1 db memory middle (stamped_from db number packets) behind first.leaves));
      }

  -- the same is kept, and the text is the same
  pub adds-same : (packets : List (List ℕ)) (old new : Option (List ℕ)) (memory after later : Memory) (text longer same : List ℕ) → later ≡ after → same ≡ longer
      → Adds db number packets old new memory after text longer → Adds db number packets old new memory later text same
  adds-same packets old new memory after later text longer same kept is adds =
      record {
        are_packets = adds.are_packets;
        taken = adds.taken;
        leaves = subst (λ m. LeavesAfter 1 db memory (stamped_from db number packets) m) (sym kept) adds.leaves;
        appended = is ∙ adds.appended;
      }

  -- ---- packets that are printed

  abbrev text_of : Memory → List (List ℕ) → List ℕ
  text_of memory packets = batch_text 1 db memory (stamped_from db number packets)

  pub prints-none : (memory : Memory) (old : Option (List ℕ)) → Prints db number [] memory memory old old
  prints-none memory old =
      record {
        leaves = subst (λ s. LeavesAfter 1 db memory s memory) (sym (stamped-none db number)) (leaves-none 1 db memory);
        wrote = subst (Appends old old) (sym (ap (batch_text 1 db memory) (stamped-none db number) ∙ text-none 1 db memory)) (Appends-nil old);
      }

  module _ (packets : List (List ℕ)) (k place : ℕ) (packet : List ℕ) (memory middle after : Memory) (text : List ℕ) (old mid new : Option (List ℕ)) (below : k < length packets) (at : place ≡ number + k) (is : packet ≡ get_or packets k [])
      (first : Prints db number (take k packets) memory middle old mid) (next : Finishes 1 db (stamped_first db (place, packet)) [] text middle after) where
    both : stamped_from db number (take (k + 1) packets) ≡ stamped_from db number (take k packets) ++ stamped_first db (place, packet) ∷ []
    both =
        let count : number + length (take k packets) ≡ place = omega (arith, at, below, length-take k packets) in
        ap (stamped_from db number) (take_more packets k [] below) ∙ stamped-append db number (take k packets) (get_or packets k [] ∷ [])
        ∙ ap (λ s. stamped_from db number (take k packets) ++ s) (stamped-one db (number + length (take k packets)) (get_or packets k []))
        ∙ (λ i. stamped_from db number (take k packets) ++ stamped_first db (count i, sym is i) ∷ [])

    longer : text_of memory (take (k + 1) packets) ≡ text_of memory (take k packets) ++ text
    longer =
        ap (batch_text 1 db memory) both ∙ text-append 1 db memory middle (stamped_from db number (take k packets)) (stamped_first db (place, packet) ∷ []) first.leaves
        ∙ ap (λ t. text_of memory (take k packets) ++ t) (text-one 1 db middle (stamped_first db (place, packet)) ∙ sym next.text)

    -- one packet more
    pub prints-more : Appends mid new text → Prints db number (take (k + 1) packets) memory after old new
    prints-more wrote =
        record {
          leaves = subst (λ s. LeavesAfter 1 db memory s after) (sym both)
              (leaves-append 1 db memory middle after (stamped_from db number (take k packets)) (stamped_first db (place, packet) ∷ []) first.leaves (leaves-one 1 db middle after (stamped_first db (place, packet)) next.leaves));
          wrote = subst (Appends old new) (sym longer) (Appends-trans old mid new (text_of memory (take k packets)) text first.wrote wrote);
        }

    -- writing stopped in its record
    pub prints-stopped : (count : ℕ) → k < count → AppendsPrefix mid new text → PrintsPart db number (take count packets) memory old new
    prints-stopped count more stopped =
        let all = take count packets in
        let here = take (k + 1) packets in
        let others = drop (k + 1) all in
        let parted : stamped_from db number all ≡ stamped_from db number here ++ stamped_from db (number + length here) others =
        ap (stamped_from db number) (sym (take-append-drop (k + 1) all) ∙ ap (λ l. l ++ others) (take-take (k + 1) count packets (omega (arith, more)))) ∙ stamped-append db number here others in
        let left = (course_after_all (standing 1 db memory) (stamped_from db number here)).memory in
        let whole : text_of memory all ≡ text_of memory here ++ batch_text 1 db left (stamped_from db (number + length here) others) =
        ap (batch_text 1 db memory) parted ∙ text-append 1 db memory left (stamped_from db number here) (stamped_from db (number + length here) others) (leaves-run db number here memory) in
        subst (AppendsPrefix old new) (sym whole)
        (part-longer (text_of memory here) (batch_text 1 db left (stamped_from db (number + length here) others)) old new
        (subst (AppendsPrefix old new) (sym longer) (part-behind (text_of memory (take k packets)) text old mid new first.wrote stopped)))

  -- the records of packets that were read were written
  module _ (f : Filled) (next : ℕ) (memory : Memory) (packets : List (List ℕ)) (start left behind old mid new : Option (List ℕ)) (reads : Reads f start number next packets left behind) (so_far : Going db number memory start left old mid) where
    pub going-next : (after : Memory) → Prints db number packets memory after mid new → Going db next after start reads.middle old new
    going-next after prints =
        subst (λ n. Going db n after start reads.middle old new) (sym reads.count)
        (going-more db number memory packets after start left reads.middle old mid new reads.are_packets reads.taken prints.wrote prints.leaves so_far)

    -- writing stopped in them
    pub stopped-next : (before now : ℕ) → next ≤ number + 64 → next ≤ 1000000001 → HasFillCause f before now → PrintsPart db number packets memory mid new → Ran (EndsUnwritten before now) db start behind old new
    stopped-next before now few limit cause stopped =
        ran-stopped_within db number memory packets f before now (omega (arith, few, reads.count)) (omega (arith, limit, reads.count)) cause start left reads.middle behind old mid new
        reads.are_packets reads.taken reads.ends stopped so_far

-- ---- what follows from what follows where a call succeeds, or fails

pub on-ok : {T E : Type 0} (r : Result T E) (P Q : Type 0) → (P → Q) → OnOk r P → OnOk r Q
on-ok (Ok v) P Q then holds = then holds
on-ok (Err e) P Q then holds = tt

pub on-err : {T E : Type 0} (r : Result T E) (P Q : Type 0) → (P → Q) → OnErr r P → OnErr r Q
on-err (Ok v) P Q then holds = tt
on-err (Err e) P Q then holds = then holds

-- what holds where a call succeeded, and where it failed
pub ok-of : {T E : Type 0} (r : Result T E) (P : Type 0) → is_err r ≡ false → OnOk r P → P
ok-of (Ok v) P is holds = holds
ok-of (Err e) P is holds = absurd (cc is)

pub err-of : {T E : Type 0} (r : Result T E) (P : Type 0) → is_err r ≡ true → OnErr r P → P
err-of (Ok v) P is holds = absurd (cc is)
err-of (Err e) P is holds = holds

module _ (f : Filled) (db : Database) (number next : ℕ) (start left behind old new : Option (List ℕ)) (memory after : Memory) (text : List ℕ) (batch : AddsBatch f db number next left behind memory after text) where
  batch-reads : Reads f start number next batch.0 left behind
  batch-reads =
      record {
        middle = batch.1;
        are_packets = batch.2.are_packets;
        taken = guarded start (Consumes left batch.1 (concat batch.0)) batch.2.taken;
        count = batch.3;
        ends = guarded start (EndsBatch f batch.0 batch.1 behind) batch.4;
        of_feed = ends-of_feed f batch.0 batch.1 behind batch.4;
      }

  -- the text of packets that were read one by one was written
  pub batch-prints : Appends old new text → PrintsNext f db start number next left behind memory after old new
  batch-prints wrote = (batch.0, batch-reads, record { leaves = batch.2.leaves; wrote = subst (Appends old new) batch.2.appended wrote })

  -- writing stopped in it
  pub batch-stops : AppendsPrefix old new text → StopsNext f db start number next left behind memory old new
  batch-stops stopped = (batch.0, batch-reads, subst (AppendsPrefix old new) batch.2.appended stopped)
