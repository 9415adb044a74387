-- The register, the desk and plans. [This profile.]
use Rattle.std.specs.Prelude.{◌≡◌, ℕ, [], ◌∷◌, ◌++◌, codes, true, false, map}
use Rattle.mib_model.specs.declared.database.Database.{Database}
use Rattle.mib_model.specs.declared.kind.Kind.TheVariants as kind
use Rattle.mib_model.specs.declared.plan.PlanName.TheVariants as plan
use Rattle.run_model.specs.declared.register.Answer.TheVariants as answer
use Rattle.run_model.specs.declared.register.Entry.TheVariants as entry
use Rattle.run_model.specs.declared.register.Register.{Register}
use Rattle.run_model.specs.declared.reply.Reply.TheVariants as reply
use Rattle.mib_model.specs.Database.{no_rows}
use Rattle.run_model.specs.Desk.{desk_start, Ask, says}
use Rattle.run_model.specs.DeskWays.{saved, way_of}
use Rattle.run_model.specs.DeskLines.{Comment, BadLine, BadTable, Put, Delete, Save, Use, UseFrom, Take, request_of}
use Rattle.run_model.specs.Output.{output}
use Rattle.mib_model.specs.Plans.{plans}
use Rattle.run_model.specs.Register.{opening, answer_to, after}
use Rattle.run_model.specs.RegisterHistories.{RegisterHistory, IsRegisterHistory, stamps}
use Rattle.mib_model.specs.Touched.{touched}
use Rattle.mib_examples.specs.Given.{database, given, packet_a, shared, table}

-- an activation of edition 1 from a packet on
abbrev pub use_one : Register → ℕ → Register
use_one s k = after s (entry.UseFrom 1 k)

-- a register over one edition with no rows
abbrev pub start : Register
start = opening no_rows

-- answers of the register
pub record ReplyExamples : Type 0 where
  pub no_edition : answer_to start (entry.Use 9) ≡ answer.NoEdition 1
  pub late : answer_to start (entry.UseFrom 1 0) ≡ answer.Late 1
  pub used : answer_to start (entry.UseFrom 1 5) ≡ answer.Used 5
  pub disorder : answer_to (use_one start 5) (entry.UseFrom 1 5) ≡ answer.Disorder 5
  pub drops_pending : (after (use_one start 5) (entry.Use 1)).schedule ≡ record { from = 0; edition = 1 } ∷ record { from = 1; edition = 1 } ∷ []
  pub added : answer_to start (entry.Add no_rows []) ≡ answer.Added 2
  pub stale : answer_to (after start (entry.Add no_rows [])) (entry.AddOn 1 no_rows []) ≡ answer.Stale 2
  pub newest : answer_to (after start (entry.Add no_rows [])) entry.Newest ≡ answer.Drawn 2 no_rows
  pub stamped : answer_to start entry.Stamp ≡ answer.Stamped 1 1 no_rows
  pub next : (after start entry.Stamp).next ≡ 2

-- a curve by two points
abbrev pub curved : Database
curved =
    database (given kind.Cap (table (codes "C1|0|-50\nC1|4000|150\n"))
    (given kind.Caf (table (codes "C1||R|U|D|||F\n")) (given kind.Pcf (table (codes "T1||||3|12||||N|R|C1\n")) shared)))

-- a curve by three points
abbrev pub bent : Database
bent =
    database (given kind.Cap (table (codes "C1|0|-50\nC1|4000|150\nC1|2000|100\n"))
    (given kind.Caf (table (codes "C1||R|U|D|||F\n")) (given kind.Pcf (table (codes "T1||||3|12||||N|R|C1\n")) shared)))

-- requests of lines, and the ways of some
pub record DeskExamples : Type 0 where
  pub put : request_of false (table (codes "put cap|C1|2000|100")) ≡ Put kind.Cap (table (codes "C1|2000|100"))
  pub no_tab : request_of false (codes "put pcf") ≡ BadLine
  pub bad_table : request_of false (table (codes "put PCF|x")) ≡ BadTable
  pub delete : request_of false (table (codes "del pid|4001")) ≡ Delete kind.Pid (codes "4001")
  pub use_from : request_of false (codes "use 02 from 7\r") ≡ UseFrom 2 7
  pub no_edition : request_of false (codes "use 4294967296") ≡ Use 0
  pub bad_number : request_of false (codes "use 18446744073709551616") ≡ BadLine
  pub comment : request_of false (codes "# anything") ≡ Comment
  pub blank : request_of false (codes "\r") ≡ Comment
  pub trailing_space : request_of false (codes "go ") ≡ BadLine
  pub take_alone : request_of false (codes "take") ≡ BadLine
  pub take_of_several : request_of true (codes "take") ≡ Take
  pub added : way_of false (desk_start curved) (Put kind.Cap (table (codes "C1|2000|100"))) ≡ says (record (desk_start curved) { draft = bent }) reply.Added
  pub saves : way_of false (record (desk_start curved) { draft = bent }) Save
      ≡ Ask (entry.Add bent (plans bent)) (saved (record (desk_start curved) { draft = bent }))
  pub one_plan : saved (record (desk_start curved) { draft = bent }) (answer.Added 2)
      ≡ says (record { draft = bent; base = bent; edition = 2 }) (reply.Saved 2 1)

-- plans, and which are touched
pub record PlanExamples : Type 0 where
  pub three : map (λ p. p.name) (plans (database shared)) ≡ plan.Param (codes "T1") ∷ plan.Layout 4001 ∷ plan.Ident ∷ []
  pub new_point : touched curved bent ≡ plan.Param (codes "T1") ∷ []
  pub unchanged : touched curved curved ≡ []

-- the history of a run whose desk saves the bent curve and uses it from the second packet on
abbrev pub bending : RegisterHistory
bending =
    record { seat = 1; entry = entry.Add bent (plans bent); reply = answer.Added 2 } ∷
    record { seat = 1; entry = entry.UseFrom 2 2; reply = answer.Used 2 } ∷
    record { seat = 0; entry = entry.Stamp; reply = answer.Stamped 1 1 curved } ∷
    record { seat = 0; entry = entry.Stamp; reply = answer.Stamped 2 2 bent } ∷
    record { seat = 0; entry = entry.Stamp; reply = answer.Stamped 3 2 bent } ∷ []

-- a run over a change of curve
pub record EditionExamples : Type 0 where
  pub legal : IsRegisterHistory curved bending
  pub stamps : stamps bending ≡ (1, 1) ∷ (2, 2) ∷ (3, 2) ∷ []
  pub printed :
      output curved (packet_a ∷ packet_a ∷ packet_a ∷ []) bending [] ≡
      codes "PKT 1 APID 100 COUNT 0 TYPE 3/25 SPID 4001\n" ++
      codes "  T1 2000 = 50\n" ++
      codes "EDITION 2\n" ++
      codes "PKT 2 APID 100 COUNT 0 TYPE 3/25 SPID 4001\n" ++
      codes "  T1 2000 = 100\n" ++
      codes "PKT 3 APID 100 COUNT 0 TYPE 3/25 SPID 4001\n" ++
      codes "  T1 2000 = 100\n"
