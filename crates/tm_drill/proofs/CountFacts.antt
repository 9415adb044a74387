-- What is counted of lines, one by one.
use Rattle.std.proofs.Common.{◌≡◌, ℕ, ◌+◌, ◌<◌, nat_eq, Bool, true, cond, ◌&&◌, List, [], ◌∷◌, ◌++◌, length, map, get_or, ap, sym, ◌∙◌, arith, codes, count_by}
use Rattle.std.specs.Prelude.{decimal}
use Rattle.std.specs.List.{concat, ends_with, range_with_len}
use Rattle.std.proofs.lemmas.Fmt.{decimal_digit}
use Rattle.std.proofs.lemmas.List.FromFn.{fill_by_all, get_or-map-range_with_len, map-range_with_len_more}
use Rattle.std.proofs.lemmas.List.Folds.{concat-append}
use Rattle.std.proofs.lemmas.List.{append-nil}
use Rattle.std.proofs.lemmas.List.Sums.{sum_by_push}
use Rattle.tm_drill.specs.declared.counts.Counts.{Counts}
use Rattle.tm_drill.specs.declared.tables.TheConstants.{KINDS}
use Rattle.tm_drill.specs.Counts.{is_head, is_packet, is_unknown, is_alarm, is_clear, counts_in, packet_line, packet_lines}

-- the test of a packet's SPID of one digit
pub packet-tested : (line : List ℕ) (spid : ℕ) (ends : Bool) → spid < 10 → is_head line ≡ true → ends ≡ ends_with nat_eq line (codes " SPID " ++ (48 + spid) ∷ []) → ends ≡ is_packet spid line
unfolding is_packet
packet-tested line spid ends few head is = is ∙ (ap (λ digits. ends_with nat_eq line (codes " SPID " ++ digits)) (sym (decimal_digit spid few)) ∙ ap (λ b. b && ends_with nat_eq line (codes " SPID " ++ decimal spid)) (sym head))

-- one line more
count-more : (p : List ℕ → Bool) (lines : List (List ℕ)) (line : List ℕ) → count_by p (lines ++ line ∷ []) ≡ count_by p lines + cond (p line) 1 0
count-more p lines line = sum_by_push (λ l. cond (p l) 1 0) lines line

same : (p q : List ℕ) (u v a b c d : ℕ) → p ≡ q → u ≡ v → a ≡ b → c ≡ d → ◌≡◌ {A = Counts} (record { packets = p; unknown = u; alarms = a; clears = c }) (record { packets = q; unknown = v; alarms = b; clears = d })
same p q u v a b c d e f g h = cc

packets-more : (lines : List (List ℕ)) (line : List ℕ) (old new : List ℕ) → old ≡ (counts_in lines).packets → length new ≡ KINDS → ((k : ℕ) → k < KINDS → get_or new k 0 ≡ get_or old k 0 + cond (is_packet (k + 1) line) 1 0) → new ≡ (counts_in (lines ++ line ∷ [])).packets
unfolding counts_in
packets-more lines line old new is long more =
    let of = λ (k : ℕ). count_by (is_packet (k + 1)) lines in
    fill_by_all (λ k. count_by (is_packet (k + 1)) (lines ++ line ∷ [])) new KINDS 0 long
    (λ k h. more k h ∙ (ap (λ n. n + cond (is_packet (k + 1) line) 1 0) (ap (λ counts. get_or counts k 0) is ∙ get_or-map-range_with_len of 0 KINDS k k 0 h (omega arith)) ∙ sym (count-more (is_packet (k + 1)) lines line)))

-- the counts with a line more
pub counted-more : (lines : List (List ℕ)) (line : List ℕ) (old : Counts) (packets : List ℕ) (unknown alarms clears : ℕ) → length packets ≡ KINDS
    → ((k : ℕ) → k < KINDS → get_or packets k 0 ≡ get_or old.packets k 0 + cond (is_packet (k + 1) line) 1 0)
    → unknown ≡ old.unknown + cond (is_unknown line) 1 0 → alarms ≡ old.alarms + cond (is_alarm line) 1 0 → clears ≡ old.clears + cond (is_clear line) 1 0
    → old ≡ counts_in lines → ◌≡◌ {A = Counts} (record { packets = packets; unknown = unknown; alarms = alarms; clears = clears }) (counts_in (lines ++ line ∷ []))
unfolding counts_in
counted-more lines line old packets unknown alarms clears long each u a c is =
    same _ _ _ _ _ _ _ _ (packets-more lines line old.packets packets (ap (λ (c : Counts). c.packets) is) long each)
    (u ∙ (ap (λ (c : Counts). c.unknown + cond (is_unknown line) 1 0) is ∙ sym (count-more is_unknown lines line)))
    (a ∙ (ap (λ (c : Counts). c.alarms + cond (is_alarm line) 1 0) is ∙ sym (count-more is_alarm lines line)))
    (c ∙ (ap (λ (c : Counts). c.clears + cond (is_clear line) 1 0) is ∙ sym (count-more is_clear lines line)))

-- the line of one packet more
pub packet-lines-more : (counts : List ℕ) (n : ℕ) → packet_lines counts (n + 1) ≡ packet_lines counts n ++ packet_line (n + 1) (get_or counts n 0)
packet-lines-more counts n =
    let line : ℕ → List ℕ = λ place. packet_line (place + 1) (get_or counts place 0) in
    ap concat (map-range_with_len_more line 0 n n (omega arith)) ∙ (concat-append (map line (range_with_len 0 n)) (line n ∷ []) ∙ ap (λ l. packet_lines counts n ++ l) (append-nil (line n)))
