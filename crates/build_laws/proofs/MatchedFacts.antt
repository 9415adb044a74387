-- A packet of values is told apart as its row's.
use Rattle.std.proofs.Common.{◌≡◌, ◌∙◌, ℕ, zero, suc, ◌+◌, ◌*◌, ◌/◌, ◌%◌, ◌^◌, ◌<◌, ◌≤◌, nat_lt, Bool, true, false, not, cond, List, [], ◌∷◌, ◌++◌, length, get_or, map, Option, Some, None, Ok, refl, sym, ap, subst, inl, inr, arith}
use Rattle.std.specs.Prelude.{◌==◌, ◌&&◌}
use Rattle.std.specs.List.{find, range_with_len}
use Rattle.std.specs.Option.{option_or}
use Rattle.std.proofs.Math.Nat.{pow-succ'}
use Rattle.std.proofs.lemmas.Bool.{eq-eqb, ne_eqb, le-ltb, ltb-true, ltb-false}
use Rattle.std.proofs.lemmas.List.FromFn.{get_or-map-range_with_len, length-map-range_with_len}
use Rattle.mib_model.specs.declared.database.Database.{Database}
use Rattle.mib_model.specs.declared.packet.Found.TheVariants.{Spid}
use Rattle.mib_model.specs.declared.packet.TheConstants.{IDLE_APID}
use Rattle.mib_model.specs.declared.packet.Value.{Value}
use Rattle.mib_model.specs.declared.rows.PicRow.{PicRow}
use Rattle.mib_model.specs.declared.rows.PidRow.{PidRow}
use Rattle.mib_model.specs.Bits.{bits}
use Rattle.mib_model.specs.Headers.{word}
use Rattle.mib_model.specs.Match.{criterion, discriminants, found_of, found_with, is_criterion, lacks_service, match_of, service_of, subtype_of}
use Rattle.bit_writer.specs.declared.write.Write.{Write}
use Rattle.bit_writer.specs.Writes.{bit_left, number_of, octet_left, octets_left}
use Rattle.bit_writer.proofs.OctetFacts.{left-below}
use Rattle.build_rules.specs.Building.{big, both_discriminants, criterion_of, header_writes, lacking, length_write, packed, packet_size, packet_writes, value_write}
use Rattle.build_laws.proofs.ApartFacts.{has_columns}
use Rattle.build_laws.proofs.MatchingFacts.{bits-octet, both-discriminants, by-tests, first-word}
use Rattle.build_laws.proofs.PackedFacts.{Among, all_writes, among-left, field-read, packed-is}

-- ---- octets that writes leave

number-below : (b : ℕ → ℕ) → ((i : ℕ) → b i < 2) → (n : ℕ) → number_of b n < 2 ^ n
unfolding number_of
number-below b small zero = omega arith
number-below b small (suc n) = omega (arith, pow-succ' 2 n, number-below b small n, small n)

past-end : (l : List ℕ) (k : ℕ) → length l ≤ k → get_or l k 0 ≡ 0
past-end [] k le = refl
past-end (x ∷ l) zero le = absurd (omega (arith, le))
past-end (x ∷ l) (suc k) le = past-end l k (omega (arith, le))

octets-small : (writes : List Write) (n k : ℕ) → get_or (octets_left writes n) k 0 < 256
unfolding octets_left
octets-small writes n k = by-place (nat_lt k n) refl
  where
    by-place : (b : Bool) → nat_lt k n ≡ b → get_or (octets_left writes n) k 0 < 256
    by-place true is =
        let same : get_or (map (octet_left writes) (range_with_len 0 n)) k 0 ≡ octet_left writes k = get_or-map-range_with_len (octet_left writes) 0 n k k 0 (ltb-true k n is) (omega arith) in
        let low : octet_left writes k < 256 = number-below (λ i. bit_left writes (8 * k + i)) (λ i. left-below writes (8 * k + i)) 8 in
        subst (λ (o : ℕ). o < 256) (sym same) low
    by-place false is =
        let far : n ≤ k = ltb-false k n is in
        let long : length (map (octet_left writes) (range_with_len 0 n)) ≡ n = length-map-range_with_len (octet_left writes) 0 n in
        let nothing = past-end (map (octet_left writes) (range_with_len 0 n)) k (omega (arith, far, long)) in
        subst (λ (o : ℕ). o < 256) (sym nothing) (omega arith)

-- ---- what a packet is

-- a row is the first with its columns, its types are octets, its packets aren't idle, and its discriminants have room
pub record CanMatch (db : Database) (row : PidRow) : Type 0 where
  pub first : find (has_columns row.apid row.service row.subtype row.pi1_val row.pi2_val) db.pid ≡ Some row
  pub apid : row.apid < 2047
  pub service : row.service < 2 ^ 8
  pub subtype : row.subtype < 2 ^ 8
  pub room : lacking row (criterion_of db.pic row) ≡ None

module _ (db : Database) (row : PidRow) (count : ℕ) (can : CanMatch db row) (p : List ℕ) (all : List Write) (long : 9 ≤ length p)
    (small : (k : ℕ) → get_or p k 0 < 256)
    (reads : (at width number : ℕ) → Among (big at width number) all → number < 2 ^ width → bits p at width ≡ number)
    (inside : (w : Write) → Among w all → w.at + w.width ≤ 8 * length p)
    (heads : (w : Write) → Among w (header_writes row count) → Among w all)
    (tells : (w : Write) → Among w (both_discriminants row (criterion_of db.pic row)) → Among w all) where
  the-word : word p 0 ≡ 2048 + row.apid
  the-word = first-word p small row.apid
      (reads 0 3 0 (heads (big 0 3 0) (inl refl)) (omega arith))
      (reads 3 1 0 (heads (big 3 1 0) (inr (inl refl))) (omega arith))
      (reads 4 1 1 (heads (big 4 1 1) (inr (inr (inl refl)))) (omega arith))
      (reads 5 11 row.apid (heads (big 5 11 row.apid) (inr (inr (inr (inl refl))))) (omega (arith, can.apid)))

  the-apid : word p 0 % 2048 ≡ row.apid
  the-apid = omega (arith, the-word, can.apid)

  second : (word p 0 / 2048 % 2 == 1) ≡ true
  second = let one : word p 0 / 2048 % 2 ≡ 1 = omega (arith, the-word, can.apid) in eq-eqb (word p 0 / 2048 % 2) 1 one

  the-service : service_of p ≡ row.service
  the-service =
      ap (λ (b : Bool). cond b (get_or p 7 0) 0) second
      ∙ (sym (bits-octet p 7 (small 7)) ∙ reads 56 8 row.service (heads (big 56 8 row.service) (inr (inr (inr (inr (inr (inr (inr (inl refl))))))))) can.service)

  the-subtype : subtype_of p ≡ row.subtype
  the-subtype =
      ap (λ (b : Bool). cond b (get_or p 8 0) 0) second
      ∙ (sym (bits-octet p 8 (small 8)) ∙ reads 64 8 row.subtype (heads (big 64 8 row.subtype) (inr (inr (inr (inr (inr (inr (inr (inr (inl refl)))))))))) can.subtype)

  no-version : not (word p 0 / 8192 == 0) ≡ false
  no-version = let none : word p 0 / 8192 ≡ 0 = omega (arith, the-word, can.apid) in ap not (eq-eqb (word p 0 / 8192) 0 none)

  no-command : (word p 0 / 4096 % 2 == 1) ≡ false
  no-command = let none : word p 0 / 4096 % 2 ≡ 0 = omega (arith, the-word, can.apid) in ap (λ (n : ℕ). n == 1) none

  not-idle : (word p 0 % 2048 == IDLE_APID) ≡ false
  not-idle = ne_eqb (word p 0 % 2048) IDLE_APID (λ e. omega (arith, e, the-apid, can.apid))

  has-service : lacks_service p ≡ false
  has-service = ap (λ (b : Bool). b && nat_lt (length p) 9) second ∙ le-ltb (length p) 9 long

  the-criterion : criterion db.pic p ≡ criterion_of db.pic row
  unfolding criterion
  the-criterion =
      ap (λ (s : ℕ). option_or (find (is_criterion s (subtype_of p) (Some (word p 0 % 2048))) db.pic) (find (is_criterion s (subtype_of p) None) db.pic)) the-service
      ∙ (ap (λ (t : ℕ). option_or (find (is_criterion row.service t (Some (word p 0 % 2048))) db.pic) (find (is_criterion row.service t None) db.pic)) the-subtype
      ∙ ap (λ (a : ℕ). option_or (find (is_criterion row.service row.subtype (Some a)) db.pic) (find (is_criterion row.service row.subtype None) db.pic)) the-apid)

  matched : match_of db p ≡ Spid row.spid row.service row.subtype row.tpsd row.dfhsize
  unfolding match_of
  matched =
      by-tests p small (not (word p 0 / 8192 == 0)) (word p 0 / 4096 % 2 == 1) (word p 0 % 2048 == IDLE_APID) (lacks_service p) _ _ _ _ _ no-version no-command not-idle has-service
      ∙ (ap (λ (o : Option PicRow). found_with db.pid p (discriminants p o)) the-criterion
      ∙ (ap (λ (o : Option (ℕ × ℕ)). found_with db.pid p o) (both-discriminants p small all reads inside row (criterion_of db.pic row) can.room tells)
      ∙ (ap (λ (a : ℕ). found_of (service_of p) (subtype_of p) (find (has_columns a (service_of p) (subtype_of p) row.pi1_val row.pi2_val) db.pid)) the-apid
      ∙ (ap (λ (s : ℕ). found_of s (subtype_of p) (find (has_columns row.apid s (subtype_of p) row.pi1_val row.pi2_val) db.pid)) the-service
      ∙ (ap (λ (t : ℕ). found_of row.service t (find (has_columns row.apid row.service t row.pi1_val row.pi2_val) db.pid)) the-subtype
      ∙ ap (λ (o : Option PidRow). found_of row.service row.subtype o) can.first)))))

pub packed-matches : (db : Database) (row : PidRow) (count : ℕ) (values : List Value) (packet : List ℕ) → CanMatch db row → packed db row count values ≡ Ok packet
    → match_of db packet ≡ Spid row.spid row.service row.subtype row.tpsd row.dfhsize
packed-matches db row count values packet can is =
    let all = all_writes db row count values in
    let p = packed-is db row count values packet is in
    let front = header_writes row count in
    let middle = both_discriminants row (criterion_of db.pic row) in
    let last = length_write (packet_size row (packet_writes db row count values)) ∷ [] in
    matched db row count can packet all
    (subst (λ (n : ℕ). 9 ≤ n) (sym p.long) p.enough)
    (λ k. subst (λ (q : List ℕ). get_or q k 0 < 256) p.is (octets-small all p.octets k))
    (λ at width number a low. field-read all packet p (big at width number) a (record { number = low; whole = λ little. absurd (cc little) }))
    (λ w a. subst (λ (n : ℕ). w.at + w.width ≤ 8 * n) (sym p.long) (p.inside w a))
    (λ w a. among-left w (packet_writes db row count values) last (among-left w front (middle ++ map value_write values) a))
    (λ w a. among-left w (packet_writes db row count values) last (among-middle w front middle (map value_write values) a))
  where
    among-middle : (w : Write) (xs ys zs : List Write) → Among w ys → Among w (xs ++ (ys ++ zs))
    among-middle w [] ys zs a = among-left w ys zs a
    among-middle w (x ∷ xs) ys zs a = inr (among-middle w xs ys zs a)
