-- What a stock has. [This project's own.]
use Rattle.std.specs.Prelude.{◌≡◌, ◌≤◌, ℕ, ◌*◌, ◌-◌, [], None, vec_len, vec_capacity}
use Rattle.commit_order.specs.Windows.{next_of, waiting}
use Rattle.decode_pool.specs.Joins.{IsStocked}
use Rattle.decode_pool.specs.Served.{Ready}
use Rattle.fold_state.specs.Boards.{memory_of}
use Rattle.mib_model.specs.declared.database.Database.{Database}
use Rattle.mib_model.specs.Kept.{empty_memory}
use Rattle.std.specs.Arc.{arc_value}
use Rattle.struct_plan.specs.declared.structure.Structures as Structures
use Rattle.work_queue.specs.Accounts.{whole}
use Rattle.work_queue.specs.Passes.{IsOf, account_of}
use Rattle.packet_jobs.specs.declared.in_use.InUse.{InUse}
use Rattle.packet_run.specs.declared.parts.Crew.{Crew}
use Rattle.packet_run.specs.declared.parts.Pipeline.{Pipeline}
use Rattle.packet_run.specs.declared.stock.Stock.{Stock}
use Rattle.packet_run.specs.Piping.{got_by, put_by, results_of}

module _ {P : Type 0} {plans : Structures.Ghosts P} where
  -- how many rooms of a stock, each with a piece of two regions, are out
  abbrev pub rooms_out : Stock P plans → ℕ
  rooms_out stock = stock.crew.rooms - vec_len stock.pipeline.rooms

  -- all rooms of a run are with its caller
  abbrev pub AreHome : Crew P plans → Pipeline P plans → Type 0
  AreHome crew pipeline = vec_len pipeline.rooms ≡ crew.rooms

  -- how many workers of a stock have a tool of their own
  abbrev pub tools_of : Stock P plans → ℕ
  tools_of stock = vec_len stock.crew.drawing.tools

  -- nothing was put, got, read or committed, and no result waits
  pub record IsUnused (pipeline : Pipeline P plans) : Type 0 where
    pub put : put_by pipeline ≡ []
    pub got : got_by pipeline ≡ []
    pub results : results_of pipeline ≡ []
    pub given : (account_of pipeline.second).put ≡ []
    pub next : next_of pipeline.window ≡ 1
    pub empty : (n : ℕ) → waiting pipeline.window n ≡ None
    pub done : pipeline.done ≡ 0
    pub read : pipeline.read ≡ 0

  -- the passes of the two queues
  abbrev pub HasPasses : Crew P plans → Pipeline P plans → Type 0
  HasPasses crew pipeline = IsOf crew.jobs pipeline.first × IsOf crew.results pipeline.second

  -- no run was made with a stock: there are no passes of workers, and room for them
  pub record IsFresh (stock : Stock P plans) : Type 0 where
    pub passes : HasPasses stock.crew stock.pipeline
    pub accounts : (account_of stock.pipeline.first ≡ whole) × (account_of stock.pipeline.second ≡ whole)
    pub unused : IsUnused stock.pipeline
    pub none : vec_len stock.passes ≡ 0
    pub room : 32 ≤ vec_capacity stock.passes

  -- each of so many workers has its two passes
  pub record IsDealt (stock : Stock P plans) (workers : ℕ) : Type 0 where
    pub passes : HasPasses stock.crew stock.pipeline
    pub ready : Ready stock.crew.jobs stock.crew.results stock.passes.items
    pub stocked : IsStocked (account_of stock.pipeline.first) (account_of stock.pipeline.second) stock.passes.items
    pub many : vec_len stock.passes ≡ 2 * workers
    pub unused : IsUnused stock.pipeline

module _ {P : Type 0} {plans : Structures.Ghosts P} (tables : P → Database) where
  -- edition 1 is in use, with these tables, and nothing is kept
  pub record IsFirst (first : Database) (in_use : InUse P plans) : Type 0 where
    pub edition : in_use.edition ≡ 1
    pub shown : tables (arc_value in_use.handle) ≡ first
    pub memory : memory_of in_use.board ≡ empty_memory
