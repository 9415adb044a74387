-- What is written into a packet is read there.
use Rattle.std.proofs.Common.{◌≡◌, ◌∙◌, ℕ, zero, suc, max, ◌+◌, ◌-◌, ◌*◌, ◌/◌, ◌^◌, ◌<◌, ◌≤◌, ℤ, pos, negsuc, neg_ℤ, ◌≤ℤ◌, ◌<ℤ◌, int_le, int_lt, nat_lt, Bool, true, false, cond, T, List, [], ◌∷◌, ◌++◌, length, map, Option, Some, None, Result, Ok, Err, refl, sym, ap, subst, ⊎_elim, inl, inr, ◌⊎◌, le_trans, arith}
use Rattle.std.specs.Prelude.{◌&&◌, ◌-ℤ◌}
use Rattle.std.specs.List.{AllByRecursion, Contains}
use Rattle.std.specs.Ordering.{int_eq}
use Rattle.std.specs.Int.Signed.{le_z_yes, lt_z_yes}
use Rattle.std.proofs.Math.Nat.{pow-succ'}
use Rattle.std.proofs.lemmas.Bool.{le-leb, lt-leb, ltb-false}
use Rattle.std.proofs.lemmas.Bool.Decides.{Decides-int_eq}
use Rattle.std.proofs.lemmas.Int.{ints}
use Rattle.std.proofs.lemmas.List.FromFn.{length-map-range_with_len}
use Rattle.bit_field.specs.Numbers.{has_number}
use Rattle.bit_field.proofs.EncodingFacts.{encoding_facts}
use Rattle.mib_model.specs.declared.database.Database.{Database}
use Rattle.mib_model.specs.declared.packet.Value.{Value}
use Rattle.mib_model.specs.declared.rows.PidRow.{PidRow}
use Rattle.mib_model.specs.declared.shape.Sort.{Sort}
use Rattle.mib_model.specs.declared.shape.Sort.TheVariants as sort
use Rattle.mib_model.specs.Bits.{field_number, number_of_sort, raw_number}
use Rattle.bit_writer.specs.declared.write.Write.{Write}
use Rattle.bit_writer.specs.Laws.{HasRoom}
use Rattle.bit_writer.specs.Writes.{first_clash, octet_left, octets_for, octets_left, octets_to}
use Rattle.bit_writer.proofs.ReadFacts.{written_is_read}
use Rattle.build_rules.specs.declared.fault.BuildFault.{BuildFault}
use Rattle.build_rules.specs.declared.fault.BuildFault.TheVariants.{Long}
use Rattle.build_rules.specs.Building.{length_write, octets_most, packed, packet_size, packet_writes, pattern, unless_clash, value_write}
use Rattle.build_rules.specs.Laying.{fits_sort, lies_from_to}
use Rattle.build_laws.proofs.GoodFacts.{IsLaid}
use Rattle.build_laws.proofs.LaidFacts.{IsRead}

-- ---- lists

-- an item of a list
abbrev pub Among : {X : Type 0} → X → List X → Type 0
Among x [] = ⊥
Among x (y ∷ ys) = (y ≡ x) ⊎ Among x ys

among-at : {X : Type 0} (x : X) (xs : List X) → Among x xs → Contains xs x
among-at x [] a = absurd a
among-at x (y ∷ ys) (inl same) = (0, omega arith, same)
among-at x (y ∷ ys) (inr more) = let (k, low, is) = among-at x ys more in (suc k, omega (arith, low), is)

pub among-left : {X : Type 0} (x : X) (xs ys : List X) → Among x xs → Among x (xs ++ ys)
among-left x [] ys a = absurd a
among-left x (z ∷ xs) ys (inl same) = inl same
among-left x (z ∷ xs) ys (inr more) = inr (among-left x xs ys more)

pub among-right : {X : Type 0} (x : X) (xs ys : List X) → Among x ys → Among x (xs ++ ys)
among-right x [] ys a = a
among-right x (z ∷ xs) ys a = inr (among-right x xs ys a)

among-parts : {X : Type 0} (x : X) (xs ys : List X) → Among x (xs ++ ys) → Among x xs ⊎ Among x ys
among-parts x [] ys a = inr a
among-parts x (z ∷ xs) ys (inl same) = inl (inl same)
among-parts x (z ∷ xs) ys (inr more) = by (among-parts x xs ys more) where
  by : Among x xs ⊎ Among x ys → Among x (z ∷ xs) ⊎ Among x ys
  by (inl front) = inl (inr front)
  by (inr back) = inr back

-- ---- room

grown : (n : ℕ) (ws : List Write) → n ≤ octets_for n ws
grown n [] = omega arith
grown n (w ∷ ws) = let one : n ≤ max n (octets_to w) = omega arith in le_trans one (grown (max n (octets_to w)) ws)

room : (n : ℕ) (ws : List Write) (w : Write) → Among w ws → octets_to w ≤ octets_for n ws
room n [] w a = absurd a
room n (x ∷ ws) w (inl same) =
    subst (λ (z : Write). octets_to z ≤ octets_for n (x ∷ ws)) same
    (let one : octets_to x ≤ max n (octets_to x) = omega arith in le_trans one (grown (max n (octets_to x)) ws))
room n (x ∷ ws) w (inr more) = room (max n (octets_to x)) ws w more

inside-of : (n octets : ℕ) → (n + 7) / 8 ≤ octets → n ≤ 8 * octets
inside-of n octets le = omega (arith, le)

-- ---- the number of a value

both : (a b : Bool) → (a && b) ≡ true → (a ≡ true) × (b ≡ true)
both true b h = (refl, h)
both false b h = absurd (cc h)

lies : (least bound n : ℤ) → lies_from_to least bound n ≡ true → (least ≤ℤ n) × (n <ℤ bound)
lies least bound n h =
    let (low, high) = both (int_le least n) (int_lt n bound) h in (le_z_yes (subst (λ (b : Bool). T b) (sym low) tt), lt_z_yes (subst (λ (b : Bool). T b) (sym high) tt))

half-twice : (width : ℕ) → 0 < width → 2 ^ width ≡ 2 * 2 ^ (width - 1)
half-twice width some =
    let more : width ≡ suc (width - 1) = omega (arith, some) in
    ap (λ (k : ℕ). 2 ^ k) more ∙ pow-succ' 2 (width - 1)

power-some : (n : ℕ) → 0 < 2 ^ n
power-some zero = omega arith
power-some (suc n) = omega (arith, pow-succ' 2 n, power-some n)

-- a number has its bits, and they are read as it
record Fitting (s : Sort) (width : ℕ) (raw : ℤ) : Type 0 where
  small : pattern width raw < 2 ^ width
  number : number_of_sort s width (pattern width raw) ≡ raw

unsigned-fits : (width : ℕ) (raw : ℤ) → fits_sort sort.Unsigned width raw ≡ true → Fitting sort.Unsigned width raw
unsigned-fits width (pos n) fit = let (low, high) = lies (pos 0) (pos (2 ^ width)) (pos n) fit in record { small = omega (arith, ints, high); number = refl }
unsigned-fits width (negsuc n) fit = let (low, high) = lies (pos 0) (pos (2 ^ width)) (negsuc n) fit in absurd (omega (arith, ints, low))

signed-fits : (width : ℕ) (raw : ℤ) → 0 < width → fits_sort sort.Signed width raw ≡ true → Fitting sort.Signed width raw
signed-fits width (pos n) some fit =
    let (low, high) = lies (neg_ℤ (pos (2 ^ (width - 1)))) (pos (2 ^ (width - 1))) (pos n) fit in
    let small : n < 2 ^ (width - 1) = omega (arith, ints, high) in
    record { small = omega (arith, half-twice width some, small); number = ap (λ (b : Bool). cond b (pos n -ℤ pos (2 ^ width)) (pos n)) (lt-leb (2 ^ (width - 1)) n small) }
signed-fits width (negsuc n) some fit =
    let (low, high) = lies (neg_ℤ (pos (2 ^ (width - 1)))) (pos (2 ^ (width - 1))) (negsuc n) fit in
    let small : suc n ≤ 2 ^ (width - 1) = omega (arith, ints, low) in
    let twice = half-twice width some in
    let number : ℕ = 2 ^ width - suc n in
    let great : 2 ^ (width - 1) ≤ number = omega (arith, twice, small) in
    let back : pos number -ℤ pos (2 ^ width) ≡ negsuc n = omega (arith, ints, twice, small) in
    record { small = omega (arith, twice, small); number = ap (λ (b : Bool). cond b (pos number -ℤ pos (2 ^ width)) (pos number)) (le-leb (2 ^ (width - 1)) number great) ∙ back }

zero-fits : (s : Sort) (width : ℕ) → ((n : ℕ) → number_of_sort s width n ≡ pos 0) → (raw : ℤ) → int_eq raw (pos 0) ≡ true → Fitting s width raw
zero-fits s width zeros raw fit =
    let is : raw ≡ pos 0 = (Decides-int_eq raw (pos 0)).0 fit in record {
      small = subst (λ (r : ℤ). pattern width r < 2 ^ width) (sym is) (power-some width);
      number = zeros (pattern width raw) ∙ sym is;
    }

sort-fits : (s : Sort) (width : ℕ) (raw : ℤ) → (has_number s ≡ true → (0 < width) × (width ≤ 64)) → fits_sort s width raw ≡ true → Fitting s width raw
sort-fits sort.Unsigned width raw some fit = unsigned-fits width raw fit
sort-fits sort.Signed width raw some fit = signed-fits width raw (some refl).0 fit
sort-fits sort.Real width raw some fit = zero-fits sort.Real width (λ n. refl) raw fit
sort-fits sort.Octets width raw some fit = zero-fits sort.Octets width (λ n. refl) raw fit
sort-fits sort.Chars width raw some fit = zero-fits sort.Chars width (λ n. refl) raw fit
sort-fits sort.Cds width raw some fit = zero-fits sort.Cds width (λ n. refl) raw fit
sort-fits (sort.Cuc coarse fine) width raw some fit = zero-fits (sort.Cuc coarse fine) width (λ n. refl) raw fit
sort-fits sort.Deduced width raw some fit = zero-fits sort.Deduced width (λ n. refl) raw fit

-- ---- the octets of a packet

-- what a packet of writes is: they don't clash, and it has room for each
pub record IsPacket (all : List Write) (packet : List ℕ) : Type 0 where
  pub octets : ℕ
  pub enough : 9 ≤ octets
  pub few : octets ≤ octets_most
  pub none : first_clash all octets ≡ None
  pub is : octets_left all octets ≡ packet
  pub long : length packet ≡ octets
  pub inside : (w : Write) → Among w all → w.at + w.width ≤ 8 * octets

no-clash : (writes : List Write) (octets : ℕ) (o : Option ℕ) (packet : List ℕ) → unless_clash writes octets o ≡ Ok packet → (o ≡ None) × (octets_left writes octets ≡ packet)
no-clash writes octets None packet is = (refl, cc is)
no-clash writes octets (Some j) packet is = absurd (cc is)

not-long : (b : Bool) (r : Result (List ℕ) BuildFault) (packet : List ℕ) → cond b (Err Long) r ≡ Ok packet → (b ≡ false) × (r ≡ Ok packet)
not-long true r packet is = absurd (cc is)
not-long false r packet is = (refl, is)

-- all that is written into a packet of values
abbrev pub all_writes : Database → PidRow → ℕ → List Value → List Write
all_writes db row count values = packet_writes db row count values ++ length_write (packet_size row (packet_writes db row count values)) ∷ []

pub packed-is : (db : Database) (row : PidRow) (count : ℕ) (values : List Value) (packet : List ℕ) → packed db row count values ≡ Ok packet → IsPacket (all_writes db row count values) packet
unfolding octets_left
packed-is db row count values packet is =
    let ws = packet_writes db row count values in
    let octets = packet_size row ws in
    let all = all_writes db row count values in
    let short = not-long (nat_lt octets_most octets) (unless_clash all octets (first_clash all octets)) packet is in
    let two = no-clash all octets (first_clash all octets) packet short.1 in
    let enough : 9 ≤ octets = (let least : 9 ≤ max 9 (6 + row.dfhsize) = omega arith in le_trans least (grown (max 9 (6 + row.dfhsize)) ws)) in record {
      octets = octets;
      enough = enough;
      few = ltb-false octets_most octets short.0;
      none = two.0;
      is = two.1;
      long = ap length (sym two.1) ∙ length-map-range_with_len (octet_left all) 0 octets;
      inside = λ w a. ⊎_elim
          (λ (more : Among w ws). inside-of (w.at + w.width) octets (room (max 9 (6 + row.dfhsize)) ws w more))
          (λ (last : Among w (length_write octets ∷ [])). by-last w octets enough last)
          (among-parts w ws (length_write octets ∷ []) a);
    }
  where
    by-last : (w : Write) (octets : ℕ) → 9 ≤ octets → Among w (length_write octets ∷ []) → w.at + w.width ≤ 8 * octets
    by-last w octets enough (inl same) = subst (λ (z : Write). z.at + z.width ≤ 8 * octets) same (omega (arith, enough))
    by-last w octets enough (inr none) = absurd none

module _ (all : List Write) (packet : List ℕ) (p : IsPacket all packet) where
  -- a number that has room is read from its field
  pub field-read : (w : Write) → Among w all → HasRoom w → field_number w.order packet w.at w.width ≡ w.number
  field-read w a has =
      subst (λ (q : List ℕ). field_number w.order q w.at w.width ≡ w.number) p.is (written_is_read all p.octets w p.none (among-at w all a) has (p.inside w a))

  value-read : (v : Value) → IsLaid v → Among (value_write v) all → IsRead packet v
  unfolding raw_number
  value-read v laid a =
      let (numbers, whole) = encoding_facts v.shape laid.has in
      let fitting = sort-fits v.shape.sort v.shape.width v.raw numbers laid.fit in record {
        number =
            ap (λ (n : ℕ). number_of_sort v.shape.sort v.shape.width n) (field-read (value_write v) a (record { number = fitting.small; whole = whole })) ∙ fitting.number;
        inside = let fits = p.inside (value_write v) a in omega (arith, fits, p.long);
      }

  pub values-read : (values : List Value) → AllByRecursion IsLaid values → ((w : Write) → Among w (map value_write values) → Among w all) → AllByRecursion (IsRead packet) values
  values-read [] laid among = tt
  values-read (v ∷ vs) laid among = (value-read v laid.0 (among (value_write v) (inl refl)), values-read vs laid.1 (λ w a. among w (inr a)))

  pub packet-short : length packet < 2 ^ 61
  packet-short = omega (arith, p.long, p.few)
