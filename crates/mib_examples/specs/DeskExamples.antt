-- What want of memory may leave, preludes, plans of what is added, and what is said of packets and walks. [This profile.]
use Rattle.std.specs.Prelude.{◌≡◌, [], ◌∷◌, codes, true, false}
use Rattle.mib_model.specs.declared.kind.Kind.TheVariants as kind
use Rattle.mib_model.specs.declared.packet.BadWhy.TheVariants as why
use Rattle.mib_model.specs.declared.packet.Found.TheVariants as found
use Rattle.run_model.specs.declared.register.Answer.TheVariants as answer
use Rattle.run_model.specs.declared.register.Entry.TheVariants as entry
use Rattle.mib_model.specs.Database.{no_rows}
use Rattle.run_model.specs.DeskLines.{Put, Use, Take}
use Rattle.run_model.specs.DeskRuns.{LeavesLook, prelude}
use Rattle.mib_model.specs.Match.{is_well_formed, match_of}
use Rattle.run_model.specs.Output.{stamps_of_one}
use Rattle.mib_model.specs.Plans.{plans}
use Rattle.run_model.specs.RegisterHistories.{HasItsPlans, stamps}
use Rattle.mib_model.specs.Walk.{walk_limit}
use Rattle.mib_examples.specs.Given.{database, packet_a, shared}

-- what want of memory may and may not leave
pub record WantExamples : Type 0 where
  pub take_looks : LeavesLook true Take ((entry.Newest, answer.NoEdition 1) ∷ [])
  pub use_looks : LeavesLook true (Use 2) ((entry.Look 2, answer.NoEdition 1) ∷ [])
  pub other_edition : LeavesLook true (Use 2) ((entry.Look 3, answer.NoEdition 1) ∷ []) → ⊥
  pub put : LeavesLook true (Put kind.Pcf []) ((entry.Newest, answer.NoEdition 1) ∷ []) → ⊥
  pub single_desk : LeavesLook false Take ((entry.Newest, answer.NoEdition 1) ∷ []) → ⊥

-- preludes of scripts
pub record PreludeExamples : Type 0 where
  pub first_go : prelude false (codes "use 1" ∷ codes "go\r" ∷ codes "go" ∷ codes "save" ∷ []) ≡ codes "use 1" ∷ codes "go\r" ∷ []
  pub no_go : prelude false (codes "save" ∷ codes "go " ∷ []) ≡ codes "save" ∷ codes "go " ∷ []

-- packets, entries, stamps and walks by what is said of them
pub record WordedExamples : Type 0 where
  pub known : is_well_formed (match_of (database shared) packet_a) ≡ true
  pub unknown : is_well_formed (match_of no_rows packet_a) ≡ true
  pub idle : is_well_formed found.Idle ≡ false
  pub bad : is_well_formed (found.Bad why.Short) ≡ false
  pub own_plans : HasItsPlans (entry.Add no_rows (plans no_rows))
  pub no_plans : HasItsPlans (entry.AddOn 1 no_rows []) → ⊥
  pub stamps : stamps (stamps_of_one no_rows (packet_a ∷ packet_a ∷ [])) ≡ (1, 1) ∷ (2, 1) ∷ []
  pub limit_without_rows : walk_limit no_rows ≡ 8193
