-- The packet of a SPID, by its row, and what it gives back.
use Rattle.std.proofs.Common.{◌≡◌, ◌∙◌, ℕ, Bool, cond, nat_le, List, Option, Some, None, Result, Ok, Err, IfOk, ◌<◌, ◌^◌, take, sym, ap, subst}
use Rattle.std.specs.Prelude.{◌==◌}
use Rattle.std.specs.List.{find}
use Rattle.mib_model.specs.declared.database.Database.{Database}
use Rattle.mib_model.specs.declared.packet.TheConstants.{IDLE_APID}
use Rattle.mib_model.specs.declared.rows.PidRow.{PidRow}
use Rattle.mib_model.specs.Soundness.{IsSound}
use Rattle.build_laws.specs.Laws.{GivesBack, HasOctets}
use Rattle.build_laws.proofs.BuiltFacts.{gives-back}
use Rattle.build_rules.specs.declared.fault.BuildFault.{BuildFault}
use Rattle.build_rules.specs.declared.fault.BuildFault.TheVariants.{Apid, NoSpid}
use Rattle.build_rules.specs.declared.item.Item.{Item}
use Rattle.tm_build.specs.Builds.{Builds}
use Rattle.build_rules.specs.Building.{built, built_of, criterion_of, lacking, unless_lacking}

module _ (db : Database) (spid count : ℕ) (items : List Item) where
  pub built-none : find (λ row. row.spid == spid) db.pid ≡ None → built db spid count items ≡ Err NoSpid
  unfolding built
  built-none found = ap (built_of db count items) found

  pub built-by : (row : PidRow) (b : Bool) (l : Option ℕ) → find (λ row. row.spid == spid) db.pid ≡ Some row → nat_le IDLE_APID row.apid ≡ b → lacking row (criterion_of db.pic row) ≡ l
      → built db spid count items ≡ cond b (Err (Apid row.apid)) (unless_lacking db row count items l)
  unfolding built
  built-by row b l found idle lacks =
      ap (built_of db count items) found
      ∙ (ap (λ (c : Bool). cond c (Err (Apid row.apid)) (unless_lacking db row count items (lacking row (criterion_of db.pic row)))) idle
      ∙ ap (λ (o : Option ℕ). cond b (Err (Apid row.apid)) (unless_lacking db row count items o)) lacks)

  -- the row in memory has octets for its types
  has-octets : (row : PidRow) → find (λ r. r.spid == spid) db.pid ≡ Some row → row.service < 2 ^ 8 → row.subtype < 2 ^ 8 → HasOctets db spid
  has-octets row found service subtype other is =
      let same : row ≡ other = cc (sym found ∙ is) in (subst (λ (r : PidRow). r.service < 2 ^ 8) same service, subst (λ (r : PidRow). r.subtype < 2 ^ 8) same subtype)

  pub given-back : (row : PidRow) (into : List ℕ) (result : Result ℕ BuildFault) → IsSound db → find (λ r. r.spid == spid) db.pid ≡ Some row → row.service < 2 ^ 8 → row.subtype < 2 ^ 8
      → Builds result (built db spid count items) into → IfOk result (λ octets. GivesBack db spid items (take octets into))
  given-back row into (Ok octets) sound found service subtype is = gives-back db spid count items (take octets into) sound (has-octets row found service subtype) is
  given-back row into (Err fault) sound found service subtype is = tt
