-- How a run's objects stand once what it wrote is handed on.
use Rattle.std.proofs.Common.{◌≡◌, ◌∙◌, ℕ, ◌≤◌, Bool, true, false, List, Option, sym, subst, arith, inl, inr, ◌⊎◌}
use Rattle.tm_io.specs.Causes.{HasRisen, RisesWhere}
use Rattle.mib_model.specs.declared.database.Database.{Database}
use Rattle.tool_objects.specs.Objects.{ShelfView, SinkView, IsHandedOn}
use Rattle.mibtm_build.specs.declared.code.BuildCode.{BuildCode}
use Rattle.mibtm_build.specs.declared.code.BuildCode.TheVariants as code
use Rattle.mibtm_build.specs.Runs.{IsEnd, Ran, is_asks_fault, is_out_fault}
use Rattle.mibtm_build.specs.Statement.{HandsOn, HasStopped}
use Rattle.mibtm_build.proofs.RunFacts.{ran-broken}

-- a count that rose somewhere doesn't fall
not-fallen : (failed : Bool) (before now : ℕ) → RisesWhere failed before now → before ≤ now
not-fallen true before now rose = rose.0
not-fallen false before now same = omega (arith, same)

risen-later : (failed : Bool) (before mid now : ℕ) → RisesWhere failed before mid → HasRisen mid now → HasRisen before now
risen-later true before mid now rose more = (omega (arith, rose.0, more.0), omega (arith, rose.0, rose.1, more.0, more.1))
risen-later false before mid now same more = subst (λ (n : ℕ). HasRisen n now) same more

module _ {D O : Type 0} (asks : ShelfView D) (out : SinkView O) (mid : ℕ) where
  handed-on : mid ≡ out.faults out.before → out.faults out.now ≡ mid → out.handed out.now ≡ out.written out.now → IsHandedOn out
  handed-on stood same handed = record { stood = same ∙ stood; handed = λ before. handed }

  -- nothing failed behind the run
  same-end : (c : BuildCode) → IsEnd c → RisesWhere (is_asks_fault c) (asks.faults asks.before) (asks.faults asks.now) → RisesWhere (is_out_fault c) (out.faults out.before) mid
      → out.faults out.now ≡ mid → ((c ≡ code.OutFault) ⊎ (out.handed out.now ≡ out.written out.now)) → HasStopped c asks out
  same-end code.OutFault is_end asked wrote same handed =
      (subst (λ (n : ℕ). HasRisen (out.faults out.before) n) (sym same) wrote, not-fallen false (asks.faults asks.before) (asks.faults asks.now) asked)
  same-end code.Ok is_end asked wrote same (inr handed) = (asked, handed-on wrote same handed)
  same-end code.Limit is_end asked wrote same (inr handed) = (asked, handed-on wrote same handed)
  same-end code.Want is_end asked wrote same (inr handed) = (asked, handed-on wrote same handed)
  same-end (code.Refused line fault) is_end asked wrote same (inr handed) = (asked, handed-on wrote same handed)
  same-end code.DeskFault is_end asked wrote same (inr handed) = (asked, handed-on wrote same handed)
  same-end code.Ok is_end asked wrote same (inl is) = absurd (cc is)
  same-end code.Limit is_end asked wrote same (inl is) = absurd (cc is)
  same-end code.Want is_end asked wrote same (inl is) = absurd (cc is)
  same-end (code.Refused line fault) is_end asked wrote same (inl is) = absurd (cc is)
  same-end code.DeskFault is_end asked wrote same (inl is) = absurd (cc is)
  same-end (code.Usage misuse) is_end asked wrote same handed = absurd is_end
  same-end (code.BadMib fault) is_end asked wrote same handed = absurd is_end
  same-end (code.NoFile input) is_end asked wrote same handed = absurd is_end
  same-end code.TablesFault is_end asked wrote same handed = absurd is_end
  same-end code.FeedFault is_end asked wrote same handed = absurd is_end
  same-end code.ReplyFault is_end asked wrote same handed = absurd is_end

  pub stopped : (c end : BuildCode) → IsEnd c → RisesWhere (is_asks_fault c) (asks.faults asks.before) (asks.faults asks.now) → RisesWhere (is_out_fault c) (out.faults out.before) mid
      → HandsOn c end mid (out.faults out.now) (out.handed out.now) (out.written out.now) → HasStopped end asks out
  stopped c end is_end asked wrote (inl (same, stood, handed)) =
      subst (λ (e : BuildCode). HasStopped e asks out) (sym same) (same-end c is_end asked wrote stood handed)
  stopped c end is_end asked wrote (inr (same, rose)) =
      subst (λ (e : BuildCode). HasStopped e asks out) (sym same)
      (risen-later (is_out_fault c) (out.faults out.before) mid (out.faults out.now) wrote rose, not-fallen (is_asks_fault c) (asks.faults asks.before) (asks.faults asks.now) asked)

-- the run is the same, or its output failed
pub ran-on : (c end : BuildCode) (before now : ℕ) (db : Database) (left behind old new final handed : Option (List ℕ)) → final ≡ new → HandsOn c end before now handed final → Ran c db left behind old new
    → Ran end db left behind old final
ran-on c end before now db left behind old new final handed written (inl (same, stood, how)) r =
    subst (λ (e : BuildCode). Ran e db left behind old final) (sym same) (subst (Ran c db left behind old) (sym written) r)
ran-on c end before now db left behind old new final handed written (inr (same, rose)) r =
    subst (λ (e : BuildCode). Ran e db left behind old final) (sym same) (ran-broken c db left behind old final (subst (Ran c db left behind old) (sym written) r))
