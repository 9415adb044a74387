-- Where all tables that plans of parameters depend on are the same, no plan is new.
use Rattle.std.proofs.Common.{◌≡◌, ◌∙◌, ℕ, zero, suc, ◌<◌, true, false, Bool, ◌&&◌, not, List, [], ◌∷◌, length, get_or, filter, refl, ap, arith}
use Rattle.edition_plans.specs.Params.{param_slices}
use Rattle.mib_keys.specs.Kept.{AreSameIn}
use Rattle.mib_model.specs.declared.database.Database.{Database}
use Rattle.mib_model.specs.Curves.{curve_named, selections}
use Rattle.mib_model.specs.Checks.{checks_of}
use Rattle.mib_model.specs.Soundness.{IsSound}
use Rattle.mib_tables.specs.declared.table_set.TableSet.{TableSet}
use Rattle.param_plan.specs.Names.{Ascend}
use Rattle.param_plan.specs.Slices.{ParamSlice}
use Rattle.param_changes.proofs.BesideFacts.{own-named, own-slice}
use Rattle.param_set.proofs.UniqueFacts.{slices-ascend}
use Rattle.param_changes.specs.Beside.{AreAllKept}
use Rattle.param_set.specs.Sharing.{is_as_before, is_new}

-- no item passes where none does at its place
none-left : {X : Type 0} (p : X → Bool) (xs : List X) → ((i : ℕ) (x : X) → i < length xs → x ≡ get_or xs i x → p x ≡ false) → filter p xs ≡ []
none-left p [] none = refl
none-left p (x ∷ xs) none = rw (none zero x (omega arith) refl) (none-left p xs (λ i y below is. none (suc i) y (omega (arith, below)) is))

-- no slice is new to slices among which it is
none-new : (slices : List ParamSlice) → Ascend slices → filter (is_new slices) slices ≡ []
unfolding is_new
none-new slices ascend = none-left (is_new slices) slices (λ i slice below is.
    ap (λ found. not (is_as_before slice found)) (own-named slices ascend i slice below is) ∙ ap not (own-slice slice))

both : (a b : Bool) → (a && b) ≡ true → (a ≡ true) × (b ≡ true)
both true b h = (refl, h)
both false b h = absurd (cc h)

module _ (set : TableSet) (all : AreAllKept set) (old new : Database) (same : AreSameIn set old new) where
  -- the slices are the same
  pub slices-same : param_slices old ≡ param_slices new
  unfolding param_slices selections curve_named checks_of
  slices-same =
      let six = both (set.cur && set.caf && set.cap && set.txf && set.txp && set.mcf) set.lgf all.curves in
      let five = both (set.cur && set.caf && set.cap && set.txf && set.txp) set.mcf six.0 in
      let four = both (set.cur && set.caf && set.cap && set.txf) set.txp five.0 in
      let three = both (set.cur && set.caf && set.cap) set.txf four.0 in
      let two = both (set.cur && set.caf) set.cap three.0 in
      let one = both set.cur set.caf two.0 in
      let pcfs : old.pcf ≡ new.pcf = same.pcf all.pcf in
      let curs : old.cur ≡ new.cur = same.cur all.cur in
      let cafs : old.caf ≡ new.caf = same.caf one.1 in
      let caps : old.cap ≡ new.cap = same.cap two.1 in
      let txfs : old.txf ≡ new.txf = same.txf three.1 in
      let txps : old.txp ≡ new.txp = same.txp four.1 in
      let mcfs : old.mcf ≡ new.mcf = same.mcf five.1 in
      let lgfs : old.lgf ≡ new.lgf = same.lgf six.1 in
      let ocfs : old.ocf ≡ new.ocf = same.ocf all.ocf in
      let ocps : old.ocp ≡ new.ocp = same.ocp all.ocp in
      λ i. param_slices (record { pcf = pcfs i; pid = old.pid; pic = old.pic; tpcf = old.tpcf; plf = old.plf; vpd = old.vpd; cur = curs i; caf = cafs i; cap = caps i; txf = txfs i; txp = txps i; mcf = mcfs i; lgf = lgfs i; ocf = ocfs i; ocp = ocps i })

  -- no slice is new beside those of the old database
  pub none-beside : (base : List ParamSlice) → base ≡ param_slices old → IsSound new → filter (is_new base) (param_slices new) ≡ []
  none-beside base is sound = ap (λ (slices : List ParamSlice). filter (is_new slices) (param_slices new)) (is ∙ slices-same) ∙ none-new (param_slices new) (slices-ascend new sound)
