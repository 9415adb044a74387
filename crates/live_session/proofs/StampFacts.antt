-- The packets of a live run by the stamps of its history.
use Rattle.std.proofs.Common.{◌≡◌, ℕ, zero, suc, ◌+◌, ◌≤◌, ◌==◌, false, cond, List, [], ◌∷◌, ◌++◌, map, length, take, drop, Option, refl, sym, ap, ◌∙◌, subst, append-nil, arith}
use Rattle.std.proofs.lemmas.Bool.{false≢true}
use Rattle.std.proofs.lemmas.List.{drop_all, length-drop, take-append-drop}
use Rattle.std.specs.Io.KnownBytes.{Appends}
use Rattle.std.specs.List.{AllByRecursion, cons_option, filter_map, zip}
use Rattle.decode_session.specs.Run.{most_in_flight}
use Rattle.edition_register.specs.Shown.{HasItsTables}
use Rattle.edition_register.proofs.RegisterFacts.{all-filter, tables-stay}
use Rattle.histories.specs.declared.history.Move.{Move}
use Rattle.histories.specs.History.{IsLegal, Permits, move, moves_of}
use Rattle.live_session.specs.Live.{ReadsAhead, members_by, object}
use Rattle.run_laws.proofs.RegisterFacts.{seats-show}
use Rattle.mib_model.specs.declared.database.Database.{Database}
use Rattle.run_model.specs.declared.register.Answer.{Answer}
use Rattle.run_model.specs.declared.register.Answer.TheVariants.{Stamped}
use Rattle.run_model.specs.declared.register.Entry.{Entry}
use Rattle.run_model.specs.declared.register.Entry.TheVariants.{Stamp, Add, AddOn, Use, UseFrom, Newest, Look}
use Rattle.run_model.specs.declared.register.Register.{Register}
use Rattle.mib_model.specs.Interpreter.{StampedPacket, interpret, records_text, start}
use Rattle.run_model.specs.Output as Output
use Rattle.run_model.specs.Output.{output, stamped_in}
use Rattle.run_model.specs.Register.{answer_to, after, opening}
use Rattle.run_model.specs.RegisterHistories.{IsRegisterHistory, MayEnter, RegisterHistory, register_after, stamp_in, stamps}
use Rattle.packet_run.proofs.StampFacts.{take_one}
use Rattle.packet_run.specs.Stamped.{EndsInNext, stamped_by_moves, stamped_with, text_of}
use Rattle.packet_run.specs.Told.{Member, members_from}

-- a reply is a stamp
abbrev IsStamp : Answer → Type 0
IsStamp (Stamped number edition tables) = Unit {0}
IsStamp other = ⊥

stamp-replies : (s : Register) (e : Entry) → MayEnter 0 e → IsStamp (answer_to s e)
unfolding answer_to
stamp-replies s Stamp may = tt
stamp-replies s (Add tables plans) may = absurd (false≢true may)
stamp-replies s (AddOn base tables plans) may = absurd (false≢true may)
stamp-replies s (Use e) may = absurd (false≢true may)
stamp-replies s (UseFrom e k) may = absurd (false≢true may)
stamp-replies s Newest may = absurd (false≢true may)
stamp-replies s (Look e) may = absurd (false≢true may)

abbrev AllStamps : RegisterHistory → Type 0
AllStamps moves = AllByRecursion (λ m. IsStamp m.reply) moves

stamps-step : (s : Register) (seat : ℕ) (e : Entry) (a : Answer) (ms : RegisterHistory) → a ≡ answer_to s e → MayEnter seat e → AllStamps (moves_of 0 ms) → AllStamps (moves_of 0 (move seat e a ∷ ms))
stamps-step s zero e a ms is may rest = (subst IsStamp (sym is) (stamp-replies s e may), rest)
stamps-step s (suc n) e a ms is may rest =
    let other : (suc n == 0) ≡ false = search arith in
    subst AllStamps (sym (ap (λ b. cond b (move (suc n) e a ∷ moves_of 0 ms) (moves_of 0 ms)) other)) rest

-- the replies to the intake are stamps
all-stamps : (s : Register) (history : RegisterHistory) → IsLegal answer_to after s history → Permits MayEnter history → AllStamps (moves_of 0 history)
all-stamps s [] legal permits = tt
all-stamps s (m ∷ ms) legal permits = stamps-step s m.seat m.entry m.reply ms legal.0 permits.0 (all-stamps (after s m.entry) ms legal.1 permits.1)

-- ---- the stamps that moves show

abbrev shown : RegisterHistory → List (ℕ × ℕ)
shown moves = filter_map (λ (call : Entry × Answer). stamp_in call.1) (map (λ (m : Move Entry Answer). (m.entry, m.reply)) moves)

shown-step : (a : Answer) (rest : List (ℕ × ℕ)) → IsStamp a → length (cons_option (stamp_in a) rest) ≡ suc (length rest)
shown-step (Stamped n e t) rest is = refl
shown-step other rest is = absurd is

shown-count : (moves : RegisterHistory) → AllStamps moves → length (shown moves) ≡ length moves
shown-count [] all = refl
shown-count (m ∷ ms) all = shown-step m.reply (shown ms) all.0 ∙ ap suc (shown-count ms all.1)

zip-none : (xs : List (ℕ × ℕ)) (s : Register) → [] ≡ map (stamped_in s) (zip xs [])
zip-none [] s = refl
zip-none (x ∷ xs) s = refl

abbrev no-packets : List (List ℕ)
no-packets = []

zip-nil : (xs : List (ℕ × ℕ)) → zip xs no-packets ≡ []
zip-nil [] = refl
zip-nil (x ∷ xs) = refl

-- the first of packets with their stamps
taken : (f : (ℕ × ℕ) × List ℕ → StampedPacket) (n : ℕ) (xs : List (ℕ × ℕ)) (ps : List (List ℕ)) → take n (map f (zip xs ps)) ≡ map f (zip xs (take n ps))
taken f zero xs ps = sym (ap (λ l. map f l) (zip-nil xs))
taken f (suc n) [] ps = refl
taken f (suc n) (x ∷ xs) [] = refl
taken f (suc n) (x ∷ xs) (p ∷ ps) = ap (λ l. f (x, p) ∷ l) (taken f n xs ps)

zipped-count : (f : (ℕ × ℕ) × List ℕ → StampedPacket) (xs : List (ℕ × ℕ)) (ps : List (List ℕ)) → length xs ≡ length ps → length (map f (zip xs ps)) ≡ length ps
zipped-count f [] [] same = refl
zipped-count f [] (p ∷ ps) same = absurd (omega (arith, same))
zipped-count f (x ∷ xs) [] same = absurd (omega (arith, same))
zipped-count f (x ∷ xs) (p ∷ ps) same = ap suc (zipped-count f xs ps (omega (arith, same)))

-- the packets with their stamps, by the moves and by the register at the end
abbrev by_moves : RegisterHistory → List (List ℕ) → List StampedPacket
by_moves moves packets = stamped_by_moves moves packets

same-step : (s : Register) (a : Answer) (xs : List (ℕ × ℕ)) (p : List ℕ) (ps : List (List ℕ)) (rest : List StampedPacket) → IsStamp a → HasItsTables s.editions a → rest ≡ map (stamped_in s) (zip xs ps)
    → stamped_with a p ++ rest ≡ map (stamped_in s) (zip (cons_option (stamp_in a) xs) (p ∷ ps))
same-step s (Stamped n e t) xs p ps rest is has same = λ i. record { number = n; packet = p; edition = e; tables = has i } ∷ same i
same-step s other xs p ps rest is has same = absurd is

same-stamped : (s : Register) (moves : RegisterHistory) (packets : List (List ℕ)) → AllStamps moves → AllByRecursion (λ m. HasItsTables s.editions m.reply) moves → by_moves moves packets ≡ map (stamped_in s) (zip (shown moves) packets)
same-stamped s [] packets all has = refl
same-stamped s (m ∷ ms) [] all has = zip-none (shown (m ∷ ms)) s
same-stamped s (m ∷ ms) (p ∷ ps) all has = same-step s m.reply (shown ms) p ps (by_moves ms ps) all.0 has.0 (same-stamped s ms ps all.1 has.1)

-- ---- a history

module _ (first : Database) (history own : RegisterHistory) (legal : IsRegisterHistory first history) (permits : Permits MayEnter history) (is : moves_of 0 history ≡ own) where
  own-stamps : AllStamps own
  own-stamps = subst AllStamps is (all-stamps (opening first) history legal permits)

  stamps-shown : stamps history ≡ shown own
  stamps-shown = seats-show first history legal permits ∙ ap (λ (ms : RegisterHistory). shown ms) is

  -- as many stamps as moves
  pub stamps-count : length (stamps history) ≡ length own
  stamps-count = ap (λ (l : List (ℕ × ℕ)). length l) stamps-shown ∙ shown-count own own-stamps

  own-tables : AllByRecursion (λ m. HasItsTables (register_after first history).editions m.reply) own
  own-tables =
      let P = λ (m : Move Entry Answer). HasItsTables (register_after first history).editions m.reply in
      subst (λ ms. AllByRecursion P ms) is (all-filter P (λ m. m.seat == 0) history (tables-stay first history legal))

  -- packets have the stamps of the history
  stamped-same : (packets : List (List ℕ)) → by_moves own packets ≡ Output.stamped_by first history packets
  unfolding Output.stamped_by
  stamped-same packets = same-stamped (register_after first history) own packets own-stamps own-tables ∙ ap (λ xs. map (stamped_in (register_after first history)) (zip xs packets)) (sym stamps-shown)

  -- and their text is the output
  pub text-same : (packets : List (List ℕ)) (tail : List ℕ) → text_of first (stamped_by_moves own packets) ++ tail ≡ output first packets history tail
  unfolding text_of output
  text-same packets tail = ap (λ l. records_text (interpret (start first) l) ++ tail) (stamped-same packets)

  -- the packets of the first stamps
  pub first-stamped : (n : ℕ) (packets : List (List ℕ)) → take n (by_moves own packets) ≡ by_moves own (take n packets)
  unfolding Output.stamped_by
  first-stamped n packets =
      ap (λ ss. take n ss) (stamped-same packets) ∙ taken (stamped_in (register_after first history)) n (stamps history) packets ∙ sym (stamped-same (take n packets))

  -- as many as the packets
  pub stamped-count : (packets : List (List ℕ)) → length packets ≡ length own → length (by_moves own packets) ≡ length packets
  unfolding Output.stamped_by
  stamped-count packets many =
      ap (λ (ss : List StampedPacket). length ss) (stamped-same packets) ∙ zipped-count (stamped_in (register_after first history)) (stamps history) packets (stamps-count ∙ sym many)

  -- what a watch is told of the first packets
  pub members-same : (n : ℕ) (packets : List (List ℕ)) → members_from (start first) (take n (by_moves own packets)) ≡ members_by first history (take n packets)
  members-same n packets = ap (λ (ss : List StampedPacket). members_from (start first) ss) (first-stamped n packets ∙ stamped-same (take n packets))

  -- behind as many packets as are stamped none is left
  pub none-left : (n : ℕ) (packets : List (List ℕ)) → length packets ≡ length own → n ≡ length (by_moves own packets) → drop n packets ≡ []
  none-left n packets many all = drop_all n packets (let s = stamped-count packets many in omega (arith, s, all))

  -- the text of the first stamps is the output of the first packets
  pub text-taken : (n : ℕ) (packets : List (List ℕ)) → text_of first (take n (by_moves own packets)) ≡ output first (take n packets) history []
  text-taken n packets =
      ap (λ ss. text_of first ss) (first-stamped n packets) ∙ sym (append-nil (text_of first (by_moves own (take n packets)))) ∙ text-same (take n packets) []

  -- where so many records were written whole and no other, no more packets were read behind them than may be in flight
  unfoldable pub reads-ahead : (packets : List (List ℕ)) (count : ℕ) (more : List ℕ) (old new : Option (List ℕ)) (before now : ℕ) → length packets ≡ length own
      → length (by_moves own packets) ≤ count + most_in_flight → Appends old new (text_of first (take count (by_moves own packets)) ++ more)
      → EndsInNext first (by_moves own packets) count more → ReadsAhead first history packets (object old new before now)
  reads-ahead packets count more old new before now many few least in_next = record {
    printed = take count packets;
    others = drop count packets;
    parted = sym (take-append-drop count packets);
    few = (let l = length-drop count packets in let s = stamped-count packets many in omega (arith, l, s, few));
    more = more;
    least = subst (λ text. Appends old new (text ++ more)) (text-taken count packets) least;
    in_next = λ next rest is.
        let one = ap (λ ps. output first ps history []) (take_one packets count next rest is) in
        let here = ap (λ text. length (text ++ more)) (text-taken count packets) in
        let there = ap (λ (text : List ℕ). length text) (text-taken (count + 1) packets ∙ one) in
        let left = length-drop count packets in let some = ap (λ (ps : List (List ℕ)). length ps) is in let s = stamped-count packets many in
        let ends = in_next (omega (arith, left, some, s)) in
        omega (arith, here, there, ends);
  }
