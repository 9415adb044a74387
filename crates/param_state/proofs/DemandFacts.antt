-- What is noted for the places of names that plans ask.
use Rattle.std.proofs.Common.{◌≡◌, ◌≢◌, ◌∙◌, ◌<◌, ◌≤◌, ℕ, zero, suc, Bool, true, false, ◌||◌, List, [], ◌∷◌, Global, inl, inr, Option, Some, None, length, map, get_or, take, ◌+◌, refl, sym, ap, subst, arith}
use Rattle.std.proofs.Math.ListN.{set}
use Rattle.std.proofs.lemmas.Bool.{cases_order, false≢true}
use Rattle.std.proofs.lemmas.List.{get_or-set_other, get_or_default, get_or_past, take_all}
use Rattle.std.proofs.lemmas.List.Folds.{list_any_more}
use Rattle.std.proofs.lemmas.Grind.{get_or-set_at}
use Rattle.std.specs.List.{list_any, position}
use Rattle.std.specs.Str.{bytes_eq}
use Rattle.param_state.specs.declared.demands.Demand.{Demand}
use Rattle.param_state.specs.ParamPlans.{is_name_of, plan_names}
use Rattle.param_state.specs.Demands.{AreNoted, Notes, demand_at, unasked_for}
use Rattle.param_state.proofs.NamedFacts.{same-name}
use Rattle.param_plan.proofs.PlanFacts.{position-map}
use Rattle.param_plan.specs.Plain.{plain_at}
use Rattle.param_plan.specs.Slices.{ParamSlice}

-- the cases of two tests, of which one passes
or-cases : {P : Type 0} (a b : Bool) → (a || b) ≡ true → (a ≡ true → P) → (b ≡ true → P) → P
or-cases true b h first second = first refl
or-cases false b h first second = second h

or-left : (a b : Bool) → a ≡ true → (a || b) ≡ true
or-left true b h = refl
or-left false b h = absurd (false≢true h)

or-right : (a b : Bool) → b ≡ true → (a || b) ≡ true
or-right true b h = refl
or-right false b h = h

-- fewer names are asked
noted-fewer : (asked fewer : List ℕ → Bool) (params : List ParamSlice) (demands : List Demand) → ((name : List ℕ) → fewer name ≡ true → asked name ≡ true) → AreNoted asked params demands
    → AreNoted fewer params demands
noted-fewer asked fewer params demands are noted = record { places = λ name at here h. noted.places name at here (are name h); plain = noted.plain }

-- no name was noted
pub notes-none : (none : List ℕ → Bool) (params : List ParamSlice) (demands : List Demand) → ((name : List ℕ) → none name ≡ false) → Notes none params demands demands
notes-none none params demands is asked noted =
    noted-fewer asked (λ name. asked name || none name) params demands (λ name h. or-cases (asked name) (none name) h (λ a. a) (λ b. absurd (false≢true (sym (is name) ∙ b)))) noted

-- names were noted, and then others
pub notes-more : (first more all : List ℕ → Bool) (params : List ParamSlice) (old mid new : List Demand) → Notes first params old mid → Notes more params mid new
    → ((name : List ℕ) → all name ≡ true → (first name || more name) ≡ true) → Notes all params old new
notes-more first more all params old mid new front last are asked noted =
    noted-fewer (λ name. (asked name || first name) || more name) (λ name. asked name || all name) params new
    (λ name h. or-cases (asked name) (all name) h
    (λ a. or-left (asked name || first name) (more name) (or-left (asked name) (first name) a))
    (λ b. or-cases (first name) (more name) (are name b)
    (λ f. or-left (asked name || first name) (more name) (or-right (asked name) (first name) f))
    (λ g. or-right (asked name || first name) (more name) g)))
    (last (λ name. asked name || first name) (front asked noted))

module _ (params : List ParamSlice) (name : List ℕ) where
  abbrev place : Option ℕ
  place = position (λ (slice : ParamSlice). bytes_eq slice.pcf.name name) params

  -- the place of a name with the same octets
  same-place : (other : List ℕ) → bytes_eq name other ≡ true → position (is_name_of other) (plan_names params) ≡ place
  same-place other same =
      position-map (λ (slice : ParamSlice). slice.pcf.name) (is_name_of other) params ∙
      ap (λ (x : List ℕ). position (λ (slice : ParamSlice). bytes_eq slice.pcf.name x) params) (sym (same-name name other same))

  -- a name that has no place
  pub note-nowhere : (demands : List Demand) → place ≡ None → Notes (λ other. bytes_eq name other) params demands demands
  note-nowhere demands none asked noted = record {
    places = λ other at here h. or-cases (asked other) (bytes_eq name other) h (noted.places other at here) (λ same. absurd (let is : ◌≡◌ {A = Option ℕ} (Some at) None = sym here ∙ (same-place other same ∙ none) in cc));
    plain = noted.plain;
  }

  -- a name at whose place it is noted
  note-here : (old new : List Demand) (i : ℕ) → place ≡ Some i → ((k : ℕ) → (demand_at new k).plain ≡ (demand_at old k).plain)
      → ((k : ℕ) → (demand_at old k).asked ≡ true → (demand_at new k).asked ≡ true) → (demand_at new i).asked ≡ true → Notes (λ other. bytes_eq name other) params old new
  note-here old new i at plain kept here asked noted = record {
    places = λ other k is h. or-cases (asked other) (bytes_eq name other) h (λ a. kept k (noted.places other k is a))
        (λ same. let e : ◌≡◌ {A = Option ℕ} (Some k) (Some i) = sym is ∙ (same-place other same ∙ at) in let j : k ≡ i = cc in subst (λ (n : ℕ). (demand_at new n).asked ≡ true) (sym j) here);
    plain = λ k h. noted.plain k (sym (plain k) ∙ h);
  }

  -- a name whose place is behind all notes
  pub note-past : (demands : List Demand) (i : ℕ) → place ≡ Some i → length demands ≤ i → Notes (λ other. bytes_eq name other) params demands demands
  note-past demands i at past =
      note-here demands demands i at (λ k. refl) (λ k h. h) (ap (λ (d : Demand). d.asked) (get_or_past demands i _ past))

  -- a name whose place is among the notes
  pub note-set : (demands : List Demand) (i : ℕ) (was now : Demand) → place ≡ Some i → i < length demands → was ≡ get_or demands i was → now.plain ≡ was.plain → now.asked ≡ true
      → Notes (λ other. bytes_eq name other) params demands (set demands i now)
  note-set demands i was now at below is plain asked =
      note-here demands (set demands i now) i at plain-same kept (ap (λ (d : Demand). d.asked) (here i refl) ∙ asked) where
        here : (k : ℕ) → k ≡ i → demand_at (set demands i now) k ≡ now
        here k same = get_or-set_at demands i k now _ same below

        apart : (k : ℕ) → k ≢ i → demand_at (set demands i now) k ≡ demand_at demands k
        apart k other = get_or-set_other demands i k now _ other

        was-at : (k : ℕ) → k ≡ i → demand_at demands k ≡ was
        was-at k same = ap (demand_at demands) same ∙ (get_or_default demands i _ was below ∙ sym is)

        by : (P : Demand → Demand → Type 0) (k : ℕ) → P was now → ((d : Demand) → P d d) → P (demand_at demands k) (demand_at (set demands i now) k)
        by P k changed same = elim (cases_order k i) [
          | inl equal ↦ subst (λ (d : Demand). P d (demand_at (set demands i now) k)) (sym (was-at k equal)) (subst (P was) (sym (here k equal)) changed)
          | inr other ↦ subst (P (demand_at demands k)) (sym (apart k (elim other [ inl less ↦ λ e. omega (arith, less, e) | inr more ↦ λ e. omega (arith, more, e) ]))) (same (demand_at demands k))
        ]

        plain-same : (k : ℕ) → (demand_at (set demands i now) k).plain ≡ (demand_at demands k).plain
        plain-same k = by (λ old new. new.plain ≡ old.plain) k plain (λ d. refl)

        kept : (k : ℕ) → (demand_at demands k).asked ≡ true → (demand_at (set demands i now) k).asked ≡ true
        kept k = by (λ old new. old.asked ≡ true → new.asked ≡ true) k (λ h. asked) (λ d h. h)

module _ {R : Type 0} (asks : List ℕ → R → Bool) (params : List ParamSlice) (rows : List R) (i : ℕ) where
  -- what one row more asks was noted
  pub notes-next : (row : R) (old mid new : List Demand) → i < length rows → row ≡ get_or rows i row → Notes (λ name. list_any (asks name) (take i rows)) params old mid
      → Notes (λ name. asks name row) params mid new → Notes (λ name. list_any (asks name) (take (i + 1) rows)) params old new
  notes-next row old mid new below is front last =
      notes-more (λ name. list_any (asks name) (take i rows)) (λ name. asks name row) (λ name. list_any (asks name) (take (i + 1) rows)) params old mid new front last
      (λ name h. sym (list_any_more (asks name) rows i row below ∙ ap (λ (x : R). list_any (asks name) (take i rows) || asks name x) (sym is)) ∙ h)

  -- what all rows ask was noted
  pub notes-all : (old new : List Demand) → length rows ≤ i → Notes (λ name. list_any (asks name) (take i rows)) params old new → Notes (λ name. list_any (asks name) rows) params old new
  notes-all old new all notes = subst (λ (rs : List R). Notes (λ name. list_any (asks name) rs) params old new) (take_all i rows all) notes

-- before any name is noted
pub unasked-noted : (params : List ParamSlice) → AreNoted (λ name. false) params (map unasked_for params)
unasked-noted params = record { places = λ name at here h. absurd (false≢true h); plain = go params } where
  go : (ps : List ParamSlice) (at : ℕ) → (demand_at (map unasked_for ps) at).plain ≡ true → plain_at ps at ≡ true
  go [] at h = absurd (false≢true h)
  go (p ∷ ps) zero h = h
  go (p ∷ ps) (suc at) h = go ps at h
