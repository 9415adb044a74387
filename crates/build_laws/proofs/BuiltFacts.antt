-- A packet that is built gives back its SPID and its items.
use Rattle.std.proofs.Common.{◌≡◌, ◌∙◌, ℕ, ◌<◌, ◌≤◌, Bool, true, false, cond, nat_le, List, [], ◌∷◌, ◌++◌, ◌+◌, ◌^◌, length, map, Option, Some, None, Result, Ok, Err, refl, sym, ap, subst, inr}
use Rattle.std.specs.Prelude.{◌==◌, unwrap_or, option_map}
use Rattle.std.specs.List.{AllByRecursion, find}
use Rattle.std.proofs.lemmas.Bool.{eqb-true, leb-true, leb-false}
use Rattle.std.proofs.lemmas.List.{take_all}
use Rattle.mib_model.specs.declared.database.Database.{Database}
use Rattle.mib_model.specs.declared.packet.Ended.TheVariants as ended
use Rattle.mib_model.specs.declared.packet.Found.{Found}
use Rattle.mib_model.specs.declared.packet.Found.TheVariants.{Spid}
use Rattle.mib_model.specs.declared.packet.TheConstants.{IDLE_APID}
use Rattle.mib_model.specs.declared.packet.Value.{Value}
use Rattle.mib_model.specs.declared.rows.PidRow.{PidRow}
use Rattle.mib_model.specs.Attempts.{◌>>=◌}
use Rattle.mib_model.specs.Fixed.{has_layout, places}
use Rattle.mib_model.specs.Interpreter.{values_of}
use Rattle.mib_model.specs.Match.{match_of}
use Rattle.mib_model.specs.Soundness.{IsSound}
use Rattle.mib_model.specs.Walk.{Extracted, structure_values, walk_limit, walk_start, walked}
use Rattle.bit_writer.specs.declared.write.Write.{Write}
use Rattle.struct_plan.specs.declared.numbers.WalkEnd.{WalkEnd}
use Rattle.struct_plan.specs.declared.numbers.WalkEnd.TheVariants as end
use Rattle.struct_plan.specs.Sources.{Walked, of_packet, walked_by}
use Rattle.struct_plan.proofs.EndFacts.{walks_end}
use Rattle.struct_plan.proofs.SourceFacts.{as_walked, packet_is_source}
use Rattle.build_rules.specs.declared.fault.BuildFault.{BuildFault}
use Rattle.build_rules.specs.declared.fault.BuildFault.TheVariants as fault
use Rattle.build_rules.specs.declared.item.Item.{Item}
use Rattle.build_rules.specs.Building.{both_discriminants, built, built_of, criterion_of, header_writes, lacking, length_write, packed, packet_size, packet_writes, unless_lacking, value_write}
use Rattle.build_rules.specs.Laying.{fault_at, laid, of_items, unless_fault, values_by, values_from}
use Rattle.build_laws.specs.Laws.{BuiltGivesBack, BuiltOfReadGivesBack, GivesBack, HasOctets, item_of}
use Rattle.build_laws.proofs.ApartFacts.{found-passes, tells-apart}
use Rattle.build_laws.proofs.FixedFacts.{fixed-agrees, fixed-values, places-have}
use Rattle.build_laws.proofs.GoodFacts.{AreItems, IsLaid}
use Rattle.build_laws.proofs.LaidFacts.{IsRead}
use Rattle.build_laws.proofs.MatchedFacts.{packed-matches}
use Rattle.build_laws.proofs.OctetFacts.{read-has}
use Rattle.build_laws.proofs.PackedFacts.{Among, all_writes, among-left, packed-is, packet-short, values-read}
use Rattle.build_laws.proofs.WalkedFacts.{walk-agrees}

-- ---- how laying ends

-- all items were laid
pub record Ends (items : List Item) (values : List Value) (by : Walked) : Type 0 where
  pub whole : by ≡ (values, end.Ended ended.Whole)
  pub all : length items ≤ length values

no-fault : (items : List Item) (vs : List Value) (why : WalkEnd) (values : List Value) → unless_fault vs (fault_at (length items) (length vs) why) ≡ Ok values → Ends items values (vs, why)
no-fault items vs end.Missing values is = absurd (cc is)
no-fault items vs end.Unfit values is = absurd (cc is)
no-fault items vs (end.Ended ended.Whole) values is = go (nat_le (length items) (length vs)) refl is where
  go : (b : Bool) → nat_le (length items) (length vs) ≡ b → unless_fault vs (cond b None (Some (fault.Items (length vs + 1)))) ≡ Ok values → Ends items values (vs, end.Ended ended.Whole)
  go true few is =
      let same : vs ≡ values = cc is in
      subst (λ (ws : List Value). Ends items ws (vs, end.Ended ended.Whole)) same (record { whole = refl; all = leb-true (length items) (length vs) few })
  go false few is = absurd (cc is)
no-fault items vs (end.Ended (ended.Short name)) values is = absurd (cc is)
no-fault items vs (end.Ended ended.Many) values is = absurd (cc is)
no-fault items vs (end.Ended (ended.NoStructure n)) values is = absurd (cc is)
no-fault items vs (end.Ended (ended.NoParameter n)) values is = absurd (cc is)

pub laid-ends : (db : Database) (row : PidRow) (items : List Item) (values : List Value) → laid db row items ≡ Ok values → Ends items values (values_by db row (of_items items))
laid-ends db row items values is = no-fault items (values_by db row (of_items items)).0 (values_by db row (of_items items)).1 values is

-- ---- the values of the packet

-- values are items that are laid, and those of each packet in which they are read
pub record Returns (db : Database) (row : PidRow) (items : List Item) (packet : List ℕ) (values : List Value) : Type 0 where
  pub named : map item_of values ≡ items
  pub laid : AllByRecursion IsLaid values
  pub extracted : AllByRecursion (IsRead packet) values → values_of db packet (Spid row.spid row.service row.subtype row.tpsd row.dfhsize) ≡ (values, ended.Whole)

all-items : (items : List Item) (values : List Value) → AreItems items values → length items ≤ length values → map item_of values ≡ items
all-items items values are all = are.named ∙ take_all (length values) items all

-- a walk that ends whole over a packet
of-walk : (o : Option Extracted) (values : List Value) → option_map as_walked o ≡ Some (values, end.Ended ended.Whole) → unwrap_or o ([], ended.Whole) ≡ (values, ended.Whole)
of-walk None values is = absurd (cc is)
of-walk (Some (vs, e)) values is =
    let pairs : ◌≡◌ {A = Walked} (vs, end.Ended e) (values, end.Ended ended.Whole) = cc is in
    let first : vs ≡ values = ap (λ (p : Walked). p.0) pairs in
    let whys : end.Ended e ≡ end.Ended ended.Whole = ap (λ (p : Walked). p.1) pairs in
    let last : e ≡ ended.Whole = cc whys in
    ◌∙◌ {b = (values, e)} (ap (λ (ws : List Value). (ws, e)) first) (ap (λ (x : ended.the_data). (values, x)) last)

module _ (db : Database) (sound : IsSound db) (row : PidRow) (items : List Item) (packet : List ℕ) (short : length packet < 2 ^ 61) (values : List Value) where
  by-walk : walked_by db (of_packet packet) (walk_limit db) (walk_start db row.tpsd row.dfhsize) ≡ Some (values, end.Ended ended.Whole) → structure_values db row.tpsd row.dfhsize packet ≡ (values, ended.Whole)
  unfolding structure_values
  by-walk is = of-walk (walked db packet (walk_limit db) (walk_start db row.tpsd row.dfhsize)) values (sym (packet_is_source db packet (walk_limit db) (walk_start db row.tpsd row.dfhsize)) ∙ is)

  returns : (b : Bool) → has_layout row ≡ b → length items ≤ length values
      → cond b (values_from (of_items items) 0 (places db row.spid)) (unwrap_or (walked_by db (of_items items) (walk_limit db) (walk_start db row.tpsd row.dfhsize)) ([], end.Ended ended.Whole)) ≡ (values, end.Ended ended.Whole)
      → Returns db row items packet values
  unfolding values_of
  returns true layout all is =
      let (are, same) = fixed-agrees items packet short (places db row.spid) values (places-have db row.spid) is in record {
        named = all-items items values are all;
        laid = are.laid;
        extracted = λ read. rw layout (fixed-values packet (places db row.spid) values (same read));
      }
  returns false layout all is =
      let start = walk_start db row.tpsd row.dfhsize in
      let (e, ends) = walks_end db sound (of_items items) row.tpsd row.dfhsize in
      let last : e ≡ (values, end.Ended ended.Whole) = rw ends at is in
      let whole : walked_by db (of_items items) (walk_limit db) start ≡ Some (values, end.Ended ended.Whole) = ends ∙ ap (λ (x : Walked). Some x) last in
      let (are, same) = walk-agrees db items packet short values (walk_limit db) start refl whole in record {
        named = all-items items values are all;
        laid = are.laid;
        extracted = λ read. rw layout (by-walk (same read));
      }

  pub laid-returns : laid db row items ≡ Ok values → Returns db row items packet values
  unfolding values_by
  laid-returns is = let e = laid-ends db row items values is in returns (has_layout row) refl e.all e.whole

-- ---- the packet that is built

module _ (db : Database) (sound : IsSound db) (spid count : ℕ) (items : List Item) (packet : List ℕ) (octets : HasOctets db spid) where
  gives : (row : PidRow) → find (λ r. r.spid == spid) db.pid ≡ Some row → row.apid < 2047 → lacking row (criterion_of db.pic row) ≡ None
      → (r : Result (List Value) BuildFault) → laid db row items ≡ r → (r >>= packed db row count) ≡ Ok packet → GivesBack db spid items packet
  gives row is idle room (Err why) lays e = absurd (cc e)
  gives row is idle room (Ok values) lays e =
      let types = octets row is in
      let found : match_of db packet ≡ Spid row.spid row.service row.subtype row.tpsd row.dfhsize =
      packed-matches db row count values packet (record { first = tells-apart db sound spid row is; apid = idle; service = types.0; subtype = types.1; room = room }) e in
      let all = all_writes db row count values in
      let p = packed-is db row count values packet e in
      let r = laid-returns db sound row items packet (packet-short all packet p) values lays in
      let read = values-read all packet p values r.laid (λ w a. written w values a) in record {
        row = row;
        is_spid = eqb-true row.spid spid (found-passes (λ r. r.spid == spid) db.pid row is);
        matches = found;
        values = values;
        extracted = ap (λ (f : Found). values_of db packet f) found ∙ r.extracted read;
        same = r.named;
      }
    where
      among-last : (w : Write) (xs ys zs : List Write) → Among w zs → Among w (xs ++ (ys ++ zs))
      among-last w [] [] zs a = a
      among-last w [] (y ∷ ys) zs a = inr (among-last w [] ys zs a)
      among-last w (x ∷ xs) ys zs a = inr (among-last w xs ys zs a)

      written : (w : Write) (vs : List Value) → Among w (map value_write vs) → Among w (all_writes db row count vs)
      written w vs a =
          among-left w (packet_writes db row count vs) (length_write (packet_size row (packet_writes db row count vs)) ∷ [])
          (among-last w (header_writes row count) (both_discriminants row (criterion_of db.pic row)) (map value_write vs) a)

  with-room : (row : PidRow) → find (λ r. r.spid == spid) db.pid ≡ Some row → row.apid < 2047 → (o : Option ℕ) → lacking row (criterion_of db.pic row) ≡ o
      → unless_lacking db row count items o ≡ Ok packet → GivesBack db spid items packet
  with-room row is idle (Some which) room e = absurd (cc e)
  with-room row is idle None room e = gives row is idle room (laid db row items) refl e

  not-idle : (row : PidRow) → find (λ r. r.spid == spid) db.pid ≡ Some row → (b : Bool) → nat_le IDLE_APID row.apid ≡ b
      → cond b (Err (fault.Apid row.apid)) (unless_lacking db row count items (lacking row (criterion_of db.pic row))) ≡ Ok packet → GivesBack db spid items packet
  not-idle row is true high e = absurd (cc e)
  not-idle row is false high e = with-room row is (leb-false IDLE_APID row.apid high) (lacking row (criterion_of db.pic row)) refl e

  by-row : (o : Option PidRow) → find (λ r. r.spid == spid) db.pid ≡ o → built_of db count items o ≡ Ok packet → GivesBack db spid items packet
  by-row None is e = absurd (cc e)
  by-row (Some row) is e = not-idle row is (nat_le IDLE_APID row.apid) refl e

pub gives-back : BuiltGivesBack
unfolding built
gives-back db spid count items packet sound octets e = by-row db sound spid count items packet octets (find (λ r. r.spid == spid) db.pid) refl e

pub read-gives-back : BuiltOfReadGivesBack
read-gives-back texts db spid count items packet reads sound e = gives-back db spid count items packet sound (read-has texts db reads spid) e
