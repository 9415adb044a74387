-- An edition that is ready to be added. [This profile.]
use Rattle.std.specs.Prelude.{◌≡◌, ℕ, length, Some, ⊤}
use Rattle.std.specs.Arc.{arc_value}
use Rattle.mib_model.specs.declared.database.Database.{Database}
use Rattle.run_model.specs.declared.reply.Reply.{Reply}
use Rattle.run_model.specs.declared.reply.Reply.TheVariants as reply
use Rattle.mib_model.specs.Soundness.{IsSound, first_flaw}
use Rattle.mib_model.specs.Touched.{touched}
use Rattle.desk.specs.declared.saving.Ready.{Ready}

-- a handle is of these tables, for which so many plans were compiled
pub record IsReady (tables : Database) (plans : ℕ) (ready : Ready) : Type 0 where
  pub edition : arc_value ready.edition ≡ tables
  pub count : ready.plans ≡ plans

-- the handle is of a sound draft, for which the plans were compiled that it touches of a base
abbrev pub IsReadyFor : Database → Database → Ready → Type 0
IsReadyFor base draft ready = IsSound draft × IsReady draft (length (touched base draft)) ready

-- the reply to a draft that isn't saved: its first flaw, or want of memory
abbrev pub IsNoEdition : Database → Reply → Type 0
IsNoEdition draft (reply.Unsound flaw) = first_flaw draft ≡ Some flaw
IsNoEdition draft reply.Want = ⊤
IsNoEdition draft other = ⊥
