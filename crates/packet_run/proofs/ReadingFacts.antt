-- A packet that is read and stamped.
use Rattle.packet_run.proofs.Common.{[], ℕ, ◌++◌, ◌+◌, ◌==◌, ◌∙◌, ◌∷◌, ◌≡◌, All-nil, All-push, ap, append-nil, append_assoc, arith, concat, Consumes, Consumes-nil, Consumes-trans, Database, filter-append, IsRegisterHistory, IsStamped, Known, last_stamped, length, length-append, List, MayEnter, move, moves_of, packet_in, Permits, Reads, refl, register_after, RegisterHistory, stamp_of, stamped_as, stamped_by, stamped_by_moves, stamped_with, StampedPacket, subst, sym}
use Rattle.edition_register.proofs.RegisterFacts.{intake-counts}
use Rattle.mib_model.specs.Packets.{IsPacket}
use Rattle.run_model.specs.Register.{answer_to}
use Rattle.std.proofs.lemmas.List.Folds.{concat-append}
use Rattle.packet_run.specs.declared.reading.StampedCell.{StampedCell}
use Rattle.run_model.specs.declared.register.Answer.TheVariants as answer
use Rattle.run_model.specs.declared.register.Entry.TheVariants as entry

next-is : (first : Database) (before : RegisterHistory) (n e : ℕ) (shown : Database)
    → answer.Stamped n e shown ≡ answer_to (register_after first before) entry.Stamp → n ≡ (register_after first before).next
unfolding answer_to
next-is first before n e shown is = cc

-- a stamp's number is one more than the intake had moves
pub number-next : (first : Database) (before own after seen : RegisterHistory) (n e : ℕ) (shown : Database) → IsRegisterHistory first before
    → Permits MayEnter before
    → answer.Stamped n e shown ≡ answer_to (register_after first before) entry.Stamp → seen ≡ before ++ move 0 entry.Stamp (answer.Stamped n e shown) ∷ []
    → after ≡ own ++ move 0 entry.Stamp (answer.Stamped n e shown) ∷ [] → moves_of 0 seen ≡ after → n ≡ length own + 1
number-next first before own after seen n e shown legal permits answers saw grows listed =
    let m = move 0 entry.Stamp (answer.Stamped n e shown) in
    let at = next-is first before n e shown answers in
    let next = intake-counts first before legal permits in
    let split : moves_of 0 seen ≡ moves_of 0 before ++ m ∷ [] = ap (λ (l : RegisterHistory). moves_of 0 l) saw
    ∙ filter-append (λ (x : _). x.seat == 0) before (m ∷ []) in
    let a : length (moves_of 0 before) + 1 ≡ length own + 1 =
    sym (length-append (moves_of 0 before) (m ∷ [])) ∙ ap (λ (l : RegisterHistory). length l) (sym split ∙ listed ∙ grows) ∙ length-append own (m ∷ []) in
    omega (arith, at, next, a)

stamped-append : (ms ns : RegisterHistory) (ps qs : List (List ℕ)) → length ps ≡ length ms
    → stamped_by_moves (ms ++ ns) (ps ++ qs) ≡ stamped_by_moves ms ps ++ stamped_by_moves ns qs
stamped-append [] ns [] qs same = refl
stamped-append [] ns (p ∷ ps) qs same = absurd (omega arith)
stamped-append (m ∷ ms) ns [] qs same = absurd (omega arith)
stamped-append (m ∷ ms) ns (p ∷ ps) qs same =
    ap (λ l. stamped_with m.reply p ++ l) (stamped-append ms ns ps qs (omega arith))
    ∙ sym (append_assoc (stamped_with m.reply p) (stamped_by_moves ms ps) (stamped_by_moves ns qs))

last-append : (p : ℕ × Database) (ms ns : RegisterHistory) → last_stamped p (ms ++ ns) ≡ last_stamped (last_stamped p ms) ns
last-append p [] ns = refl
last-append p (m ∷ ms) ns = last-append (stamped_by p m.reply) ms ns

-- the packet that was stamped is the last
pub last-read : (p : ℕ × Database) (own after : RegisterHistory) (s : StampedPacket) → after ≡ own ++ stamp_of s ∷ []
    → last_stamped p after ≡ (s.edition, s.tables)
last-read p own after s grows = ap (last_stamped p) grows ∙ last-append p own (stamp_of s ∷ [])

pub reads-none : (left : Known) → Reads [] [] [] left left
reads-none left = record { many = refl; are_packets = All-nil IsPacket; taken = Consumes-nil left; are_stamped = refl }

pub more_moves : {P : Type 0} {rows : P → Database} {last : ℕ × Database} {read : StampedCell P} {own after : RegisterHistory} {left new : Known}
    → IsStamped rows last read own after left new → length after ≡ length own + 1
more_moves {own = own} is = ap (λ (l : RegisterHistory). length l) is.own ∙ length-append own (_ ∷ [])

-- one packet more was read
pub reads-more : {P : Type 0} {rows : P → Database} {last : ℕ × Database} {read : StampedCell P} {own after : RegisterHistory} {stamped : List StampedPacket}
    {packets : List (List ℕ)} {old left new : Known}
    → (is : IsStamped rows last read own after left new) → Reads own stamped packets old left
    → Reads after (stamped ++ stamped_as read is.shown ∷ []) (packets ++ packet_in read.cell ∷ []) old new
reads-more {read = read} {own} {after} {stamped} {packets} {old} {left} {new} is r =
    let s = stamped_as read is.shown in record {
      many = let e = more_moves is in omega (arith, e, r.many, length-append packets (s.packet ∷ []));
      are_packets = All-push IsPacket packets s.packet r.are_packets is.is_packet;
      taken = subst (Consumes old new) (ap (λ l. concat packets ++ l) (sym (append-nil s.packet)) ∙ sym (concat-append packets (s.packet ∷ [])))
          (Consumes-trans old left new (concat packets) s.packet r.taken is.taken);
      are_stamped = ap (λ l. l ++ s ∷ []) r.are_stamped ∙ sym (stamped-append own (stamp_of s ∷ []) packets (s.packet ∷ []) r.many)
          ∙ ap (λ (ms : RegisterHistory). stamped_by_moves ms (packets ++ s.packet ∷ [])) (sym is.own);
    }
