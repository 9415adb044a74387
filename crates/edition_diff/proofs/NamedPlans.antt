-- The plan of a name among all plans is that among the plans of its kind.
use Rattle.std.proofs.Common.{◌≡◌, ℕ, nat_eq, Bool, true, false, cond, ◌||◌, List, [], ◌∷◌, ◌++◌, map, filter, Option, Some, None, option_map, refl, sym, ap, ◌∙◌}
use Rattle.std.proofs.lemmas.Bool.{eqb-true}
use Rattle.std.proofs.lemmas.List.Folds.{find-append}
use Rattle.std.specs.List.{find, list_any}
use Rattle.std.specs.Option.{option_or}
use Rattle.edition_plans.specs.Layouts.{is_layout_row}
use Rattle.mib_model.specs.declared.database.Database.{Database}
use Rattle.mib_model.specs.declared.plan.Plan.{Plan}
use Rattle.mib_model.specs.declared.plan.PlanName.{PlanName}
use Rattle.mib_model.specs.declared.plan.PlanName.TheVariants as plan
use Rattle.mib_model.specs.declared.rows.PidRow.{PidRow}
use Rattle.mib_model.specs.Fixed.{has_layout}
use Rattle.mib_model.specs.Orders.{sorted_by, sorted_by_number}
use Rattle.mib_model.specs.Plans.{distinct, has_plan, ident_plan, layout_plan, layout_plans, may_precede, param_plan, param_plans, plans, structure_plan, structure_plans}
use Rattle.mib_model.specs.Touched.{plan_named, same_plan_name}
use Rattle.edition_diff.proofs.OrderFacts.{find-filter, find-map, find-never, find-sorted}

or-none : {A : Type 0} (o : Option A) → option_or o None ≡ o
or-none None = refl
or-none (Some x) = refl

-- what is made of things is not found where none of them is of the name
never-made : {A : Type 0} (name : PlanName) (f : A → Plan) → ((x : A) → same_plan_name (f x).name name ≡ false) → (xs : List A) → find (λ p. same_plan_name p.name name) (map f xs) ≡ None
never-made name f never xs = find-map (λ p. same_plan_name p.name name) f xs ∙ ap (option_map f) (find-never (λ x. same_plan_name (f x).name name) never xs)

module _ (name : PlanName) where
  abbrev is_it : Plan → Bool
  is_it p = same_plan_name p.name name

  -- what is found in four lists
  pub among : (a b c d : List Plan) → find is_it (a ++ b ++ c ++ d) ≡ option_or (option_or (option_or (find is_it a) (find is_it b)) (find is_it c)) (find is_it d)
  among a b c d =
      find-append is_it (a ++ b ++ c) d
      ∙ ap (λ o. option_or o (find is_it d)) (find-append is_it (a ++ b) c ∙ ap (λ o. option_or o (find is_it c)) (find-append is_it a b))

module _ (db : Database) where
  -- the plan of a SPID
  pub named-layout : (spid : ℕ) → plan_named (plans db) (plan.Layout spid) ≡ option_map (layout_plan db) (find (is_layout_row spid) db.pid)
  unfolding plans param_plans layout_plans structure_plans
  named-layout spid =
      let name : PlanName = plan.Layout spid in
      let params : find (λ p. same_plan_name p.name name) (param_plans db) ≡ None = never-made name (param_plan db) (λ row. refl) (sorted_by (λ x y. may_precede x.name y.name) (filter has_plan db.pcf)) in
      let structures : find (λ p. same_plan_name p.name name) (structure_plans db) ≡ None = never-made name (structure_plan db) (λ n. refl) (sorted_by_number (λ n. n) (distinct (map (λ row. row.tpsd) db.vpd))) in
      let layouts : find (λ p. same_plan_name p.name name) (layout_plans db) ≡ option_map (layout_plan db) (find (is_layout_row spid) db.pid) =
      find-map (λ p. same_plan_name p.name name) (layout_plan db) (sorted_by_number (λ row. row.spid) (filter has_layout db.pid))
      ∙ ap (option_map (layout_plan db)) (find-sorted (λ (row : PidRow). row.spid) spid (filter has_layout db.pid) ∙ find-filter has_layout (λ row. nat_eq row.spid spid) db.pid) in
      among name (param_plans db) (layout_plans db) (structure_plans db) (ident_plan db ∷ [])
      ∙ rw (params, structures) (or-none _ ∙ or-none _ ∙ layouts)

  -- the plan of identification
  pub named-ident : plan_named (plans db) plan.Ident ≡ Some (ident_plan db)
  unfolding plans param_plans layout_plans structure_plans
  named-ident =
      let name : PlanName = plan.Ident in
      let params : find (λ p. same_plan_name p.name name) (param_plans db) ≡ None = never-made name (param_plan db) (λ row. refl) (sorted_by (λ x y. may_precede x.name y.name) (filter has_plan db.pcf)) in
      let layouts : find (λ p. same_plan_name p.name name) (layout_plans db) ≡ None = never-made name (layout_plan db) (λ row. refl) (sorted_by_number (λ row. row.spid) (filter has_layout db.pid)) in
      let structures : find (λ p. same_plan_name p.name name) (structure_plans db) ≡ None = never-made name (structure_plan db) (λ n. refl) (sorted_by_number (λ n. n) (distinct (map (λ row. row.tpsd) db.vpd))) in
      among name (param_plans db) (layout_plans db) (structure_plans db) (ident_plan db ∷ []) ∙ rw (params, layouts, structures) refl

  abbrev held : ℕ → List ℕ → Bool
  held q = list_any (λ m. nat_eq m q)

  find-distinct : (q : ℕ) (ns : List ℕ) → find (λ n. nat_eq n q) (distinct ns) ≡ cond (held q ns) (Some q) None
  find-distinct q [] = refl
  find-distinct q (n ∷ ns) = go (held n ns) refl (nat_eq n q) refl (find-distinct q ns) where
    go : (a : Bool) → held n ns ≡ a → (e : Bool) → nat_eq n q ≡ e → find (λ n. nat_eq n q) (distinct ns) ≡ cond (held q ns) (Some q) None
        → find (λ n. nat_eq n q) (cond a (distinct ns) (n ∷ distinct ns)) ≡ cond (e || held q ns) (Some q) None
    go true is_a true is_e others = others ∙ ap (λ b. cond b (Some q) None) (ap (λ m. held m ns) (sym (eqb-true n q is_e)) ∙ is_a)
    go true is_a false is_e others = others
    go false is_a true is_e others = rw is_e (ap Some (eqb-true n q is_e))
    go false is_a false is_e others = rw is_e others

  -- the plan of a TPSD
  pub named-structure : (tpsd : ℕ) → plan_named (plans db) (plan.Structure tpsd) ≡ option_map (structure_plan db) (cond (list_any (λ n. nat_eq n tpsd) (map (λ row. row.tpsd) db.vpd)) (Some tpsd) None)
  unfolding plans param_plans layout_plans structure_plans
  named-structure tpsd =
      let name : PlanName = plan.Structure tpsd in
      let params : find (λ p. same_plan_name p.name name) (param_plans db) ≡ None = never-made name (param_plan db) (λ row. refl) (sorted_by (λ x y. may_precede x.name y.name) (filter has_plan db.pcf)) in
      let layouts : find (λ p. same_plan_name p.name name) (layout_plans db) ≡ None = never-made name (layout_plan db) (λ row. refl) (sorted_by_number (λ row. row.spid) (filter has_layout db.pid)) in
      let tpsds : List ℕ = map (λ row. row.tpsd) db.vpd in
      let structures : find (λ p. same_plan_name p.name name) (structure_plans db) ≡ option_map (structure_plan db) (cond (list_any (λ n. nat_eq n tpsd) tpsds) (Some tpsd) None) =
      find-map (λ p. same_plan_name p.name name) (structure_plan db) (sorted_by_number (λ n. n) (distinct tpsds))
      ∙ ap (option_map (structure_plan db)) (find-sorted (λ (n : ℕ). n) tpsd (distinct tpsds) ∙ find-distinct tpsd tpsds) in
      among name (param_plans db) (layout_plans db) (structure_plans db) (ident_plan db ∷ [])
      ∙ rw (params, layouts) (or-none _ ∙ structures)
