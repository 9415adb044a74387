-- Packets that come behind those of the edition in use.
use Rattle.packet_run.proofs.Common.{[], ℕ, ◌++◌, ◌+◌, ◌∙◌, ◌∷◌, ◌≡◌, ◌≤◌, ap, arc_value, arith, ComesBehind, Database, From, Ghosts, InUse, is_made_for, IsFirst, IsOfInUse, IsStamped, Keeps, Known, last_stamped, length, List, MatchOption, Member, None, Option, packet_in, Pipeline, Piping, put_by, Reads, refl, RegisterHistory, Slots, stamped_as, StampedPacket, StaysInUse, Stopped, subst, sym, Takes}
use Rattle.edition_register.specs.Starts.{IsStart}
use Rattle.edition_register.specs.declared.start.Start.{Start}
use Rattle.packet_run.proofs.PipingFacts.{piping_keeps}
use Rattle.packet_run.proofs.ReadingFacts.{last-read, reads-more, reads-none}
use Rattle.packet_run.specs.Feeding.{EndsUntil, Fed, PipesUntil}
use Rattle.packet_run.specs.declared.reading.StampedCell.{StampedCell}
use Rattle.packet_run.specs.declared.until.Until.{Until}
use Rattle.packet_run.specs.declared.until.Until.TheVariants as until

unstarted : {P : Type 0} (rows : P → Database) (start : Option (Start P Slots)) (A : Type 0) (shown : Database) → start ≡ None
    → MatchOption start A (λ x. IsStart rows is_made_for shown x) → A
unstarted rows start A shown none begins = subst (λ o. MatchOption o A (λ x. IsStart rows is_made_for shown x)) none begins

module _ {P : Type 0} {plans : Ghosts P} {tables rows : P → Database} where
  -- without a start it is of the edition in use
  pub of_use : {u : InUse P plans} {s : StampedPacket} {start : Option (Start P Slots)} → start ≡ None → ComesBehind tables rows u s.edition s.tables start
      → IsOfInUse tables u s
  of_use {u} {s} {start} none comes =
      let e = unstarted rows start _ s.tables none comes.begins in
      record { edition = ap (λ (p : ℕ × Database). p.0) e; shown = ap (λ (p : ℕ × Database). p.1) e }

  -- the edition in use stays, so it still comes behind it
  pub comes_still : {u v : InUse P plans} {edition : ℕ} {shown : Database} {start : Option (Start P Slots)} → StaysInUse u v
      → ComesBehind tables rows u edition shown start → ComesBehind tables rows v edition shown start
  comes_still {u} {v} {edition} {shown} {start} stays comes = record {
    same = λ e. comes.same (e ∙ stays.edition) ∙ ap (λ h. tables (arc_value h)) (sym stays.handle);
    begins = subst (λ (l : ℕ × Database). MatchOption start ((edition, shown) ≡ l) (λ x. IsStart rows is_made_for shown x))
        (λ i. (sym stays.edition i, tables (arc_value (sym stays.handle i)))) comes.begins;
  }

module _ {P : Type 0} {plans : Ghosts P} (tables : P → Database) {W : Type 0} (stands : W → List Member → Type 0) (from : From W) where
  -- packets were read, each stamped by one of these moves, and are in work or committed
  pub record Feeding (own : RegisterHistory) (p : Pipeline P plans) (u : InUse P plans) (w : W) (old left written : Known) : Type 0 where
    pub stamped : List StampedPacket
    pub packets : List (List ℕ)
    pub reads : Reads own stamped packets old left
    pub last : last_stamped (1, from.first) own ≡ (u.edition, tables (arc_value u.handle))
    pub piping : Piping tables stands from stamped p u w written

module _ {P : Type 0} {plans : Ghosts P} {tables : P → Database} {W : Type 0} {stands : W → List Member → Type 0} {from : From W} where
  pub feeding_start : {own : RegisterHistory} {p : Pipeline P plans} {u : InUse P plans} {w : W} {left written : Known} → own ≡ [] → IsFirst tables from.first u
      → Piping tables stands from [] p u w written → Feeding tables stands from own p u w left left written
  feeding_start {left = left} none first piping = record {
    stamped = [];
    packets = [];
    reads = rw none (reads-none left);
    last = ap (last_stamped (1, from.first)) none ∙ (λ i. (sym first.edition i, sym first.shown i));
    piping = piping;
  }

  -- packets were committed, and the edition in use stays
  pub feeding_on : {own : RegisterHistory} {p q r : Pipeline P plans} {u v : InUse P plans} {w w' : W} {old left x y : Known}
      → Feeding tables stands from own p u w old left x → StaysInUse u v
      → ((stamped : List StampedPacket) → Piping tables stands from stamped p u w x → Piping tables stands from stamped q v w' y)
      → Keeps tables q r → put_by r ≡ put_by q → r.done ≡ q.done → r.read ≡ q.read → Feeding tables stands from own r v w' old left y
  feeding_on f stays on k put done read = record {
    stamped = f.stamped;
    packets = f.packets;
    reads = f.reads;
    last = f.last ∙ (λ i. (sym stays.edition i, tables (arc_value (sym stays.handle i))));
    piping = piping_keeps k put done read (on f.stamped f.piping);
  }

  -- no packet more is read
  pub fed : (u : Until) {own : RegisterHistory} {p : Pipeline P plans} {v : InUse P plans} {w : W} {old left new x : Known} {stamped : List StampedPacket}
      {packets : List (List ℕ)} → Reads own stamped packets old left
      → EndsUntil u (length own) left new → p.read ≤ p.done + 32 → PipesUntil tables stands u from stamped p v w x
      → Fed tables stands u from own p v w old new x
  fed u {left = left} {stamped = stamped} {packets = packets} reads ends ahead pipes =
      record { stamped = stamped; packets = packets; left = left; reads = reads; ends = ends; ahead = ahead; pipes = pipes }

module _ {P : Type 0} {plans : Ghosts P} {tables rows : P → Database} {W : Type 0} {stands : W → List Member → Type 0} {from : From W} {first : Database}
    {own after : RegisterHistory} {p : Pipeline P plans} {u : InUse P plans} {w : W} {old left new x : Known} {read : StampedCell P}
    (f : Feeding tables stands from own p u w old left x) (e : from.first ≡ first)
    (is : IsStamped rows (last_stamped (1, first) own) read own after left new) (count : length own ≡ p.read) where
  -- one packet more was read: it comes behind those of the edition in use, and its number is the next
  one_more : (Goes : List StampedPacket → StampedPacket → Type 0)
      → ((stamped : List StampedPacket) (shown : Database) → ComesBehind tables rows u read.edition shown read.start
      → read.cell.number ≡ length stamped + 1 → Piping tables stands from stamped p u w x → Goes stamped (stamped_as read shown))
      → Goes f.stamped (stamped_as read is.shown)
  one_more Goes goes =
      let at = ap (λ (d : Database). last_stamped (1, d) own) (sym e) ∙ f.last in let n = is.number in let r = f.piping.work.read in
      goes f.stamped is.shown (record {
        same = subst (λ (l : ℕ × Database). read.edition ≡ l.0 → is.shown ≡ l.1) at is.same;
        begins = subst (λ (l : ℕ × Database). MatchOption read.start ((read.edition, is.shown) ≡ l) (λ x. IsStart rows is_made_for is.shown x)) at is.begins;
      }) (omega (arith, n, r, count)) f.piping

  pub feeding_more : {q : Pipeline P plans} {v : InUse P plans} {w' : W} {y : Known}
      → ((stamped : List StampedPacket) (shown : Database) → ComesBehind tables rows u read.edition shown read.start
      → read.cell.number ≡ length stamped + 1 → Piping tables stands from stamped p u w x → Takes tables stands from stamped (stamped_as read shown) q v w' y)
      → Feeding tables stands from after q v w' old new y
  feeding_more {q} {v} {w'} {y} goes =
      let takes = one_more (λ stamped s. Takes tables stands from stamped s q v w' y) goes in record {
        stamped = f.stamped ++ stamped_as read is.shown ∷ [];
        packets = f.packets ++ packet_in read.cell ∷ [];
        reads = reads-more is f.reads;
        last = last-read (1, from.first) own after (stamped_as read is.shown) is.own ∙ (λ i. (sym takes.edition i, sym takes.shown i));
        piping = takes.piping;
      }

  -- the output failed in its record
  pub fed_stopped : {q : Pipeline P plans} {v : InUse P plans} {w' : W} {y : Known}
      → ((stamped : List StampedPacket) (shown : Database) → ComesBehind tables rows u read.edition shown read.start
      → read.cell.number ≡ length stamped + 1 → Piping tables stands from stamped p u w x
      → Stopped tables stands from (stamped ++ stamped_as read shown ∷ []) q w' y)
      → length after ≤ 1000000000 → q.read ≤ q.done + 32 → Fed tables stands until.OutFault from after q v w' old new y
  fed_stopped {q} {w' = w'} {y} goes few ahead =
      fed until.OutFault (reads-more is f.reads) (refl, few) ahead (one_more (λ stamped s. Stopped tables stands from (stamped ++ s ∷ []) q w' y) goes)
