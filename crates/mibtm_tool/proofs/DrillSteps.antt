-- What a run over a generated feed has printed.
use Rattle.std.proofs.Common.{◌≡◌, ℕ, ◌<◌, List, [], ◌++◌, length, Option, Some, None, Ok, sym, ap, ◌∙◌, arith, subst, append-nil, append_assoc, length-append}
use Rattle.std.proofs.lemmas.List.Elements.{All-append}
use Rattle.std.proofs.lemmas.List.FromFn.{length-map-range_with_len}
use Rattle.std.proofs.lemmas.List.Folds.{concat-append}
use Rattle.std.specs.List.{concat}
use Rattle.decode_session.specs.Run.{Ran, EndsBy, most_packets}
use Rattle.decode_session.specs.declared.ending.RunEnd.{RunEnd}
use Rattle.decode_session.specs.declared.ending.RunEnd.TheVariants as end
use Rattle.mib_laws.proofs.CutFacts.{each-cut}
use Rattle.mib_model.specs.declared.database.Database.{Database}
use Rattle.mib_model.specs.declared.fault.MibFault.{MibFault}
use Rattle.run_model.specs.Output.{output_of_one}
use Rattle.mib_model.specs.Packets.{IsPacket, IsCut}
use Rattle.packet_feed.proofs.Unique.{cut-unique}
use Rattle.tm_drill.proofs.FeedFacts.{packets-cut}
use Rattle.tm_drill.specs.declared.feed.TheConstants.{PACKETS}
use Rattle.tm_drill.specs.Feed.{drill_packet, drill_packets, first_packets}
use Rattle.tool_objects.specs.Sources.{free_of}

-- tables that are accepted are those that were tested
pub accepted-same : (db kept : Database) (flaw : Option MibFault) → free_of db flaw ≡ Ok kept → kept ≡ db
accepted-same db kept None is = cc is
accepted-same db kept (Some fault) is = cc is

module _ (db : Database) (octets : List ℕ) (packets : List (List ℕ)) (cut : IsCut octets packets []) (few : length packets < most_packets) where
  -- a front of the feed that is packets alone is a front of its packets
  front-few : (read left : List ℕ) (front : List (List ℕ)) → octets ≡ read ++ left → IsCut read front [] → length front ≡ most_packets → ⊥
  front-few read left front whole some most =
      let (more, rest, behind) = each-cut left in
      let others : IsCut octets (front ++ more) rest = record {
        whole = whole ∙ ap (λ r. r ++ left) (some.whole ∙ append-nil (concat front)) ∙ ap (λ l. concat front ++ l) behind.whole
            ∙ sym (append_assoc (concat front) (concat more) rest) ∙ ap (λ l. l ++ rest) (sym (concat-append front more));
        each = All-append IsPacket front more some.each behind.each;
        begins_none = behind.begins_none;
      } in
      let (same, none) = cut-unique octets packets (front ++ more) [] rest cut others in
      omega (arith, few, most, ap length same, length-append front more)

  -- what a run has printed that ended well
  pub printed-all : (r : RunEnd) (before now : ℕ) (left new : List ℕ) → Ran (EndsBy (Ok r) before now) db (Some octets) (Some left) (Some []) (Some new) → new ≡ output_of_one db packets []
  printed-all end.Whole before now left new (read, front, rest, whole, some, (none, ended, few_read, wrote)) =
      let all : octets ≡ read = whole ∙ ap (λ l. read ++ l) ended ∙ append-nil read in
      let (same, over) = cut-unique octets packets front [] rest cut (subst (λ x. IsCut x front rest) (sym all) some) in
      wrote ∙ ap (λ p. output_of_one db p []) (sym same)
  printed-all (end.Cut count) before now left new (read, front, rest, whole, some, (size, over, ended, few_read, wrote)) =
      let all : octets ≡ read = whole ∙ ap (λ l. read ++ l) ended ∙ append-nil read in
      let (same, none) = cut-unique octets packets front [] rest cut (subst (λ x. IsCut x front rest) (sym all) some) in
      absurd (omega (arith, size, over, ap length none))
  printed-all end.Limit before now left new (read, front, rest, whole, some, (none, most, wrote)) =
      absurd (front-few read left front whole (subst (λ x. IsCut read front x) none some) most)

-- the packets of a generated run are fewer than a run's most
few-packets : (seed : ℕ) → length (drill_packets seed) < most_packets
unfolding first_packets
few-packets seed = omega (arith, length-map-range_with_len (drill_packet seed) 0 PACKETS)

-- what a run over them has printed that ended well
pub run-printed : (db : Database) (seed : ℕ) (r : RunEnd) (before now : ℕ) (octets left old new : List ℕ) → octets ≡ concat (drill_packets seed) → old ≡ []
    → Ran (EndsBy (Ok r) before now) db (Some octets) (Some left) (Some old) (Some new) → new ≡ output_of_one db (drill_packets seed) []
run-printed db seed r before now octets left old new is start ran =
    printed-all db (concat (drill_packets seed)) (drill_packets seed) (packets-cut seed PACKETS) (few-packets seed) r before now left new
    (subst (λ (x : List ℕ × List ℕ). Ran (EndsBy (Ok r) before now) db (Some x.0) (Some left) (Some x.1) (Some new)) (λ i. (is i, start i)) ran)
