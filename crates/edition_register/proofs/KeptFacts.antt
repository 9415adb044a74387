-- What each entry does to a register of one activation in use and those that are pending.
use Rattle.std.proofs.Common.{◌≡◌, ℕ, ◌+◌, ◌-◌, ◌<◌, Bool, true, false, not, cond, ◌||◌, List, [], ◌∷◌, ◌++◌, length, Option, Some, None, option_map, unwrap_or, sym, refl, ap, ◌∙◌, arith, nat_le, nat_lt, ◌==◌}
use Rattle.std.proofs.lemmas.Bool.{ltb-false, eqb-true, eqb-false}
use Rattle.std.proofs.lemmas.List.Elements.{filter-append}
use Rattle.std.specs.List.{last_or, list_any, slice_index_or}
use Rattle.mib_model.specs.declared.database.Database.{Database}
use Rattle.mib_model.specs.declared.plan.Plan.{Plan}
use Rattle.run_model.specs.declared.register.Answer.{Answer}
use Rattle.run_model.specs.declared.register.Answer.TheVariants.{Stamped, Added, FullEditions, Stale, Used, NoEdition, Late, Disorder, FullPending, Drawn}
use Rattle.run_model.specs.declared.register.Entry.TheVariants.{Stamp, Add, AddOn, Use, UseFrom, Newest, Look}
use Rattle.run_model.specs.declared.register.Register.{Register}
use Rattle.run_model.specs.declared.register.Scheduled.{Scheduled}
use Rattle.mib_model.specs.Database.{no_rows}
use Rattle.run_model.specs.Register.{answer_to, after, added, with_tables, with_activation, has_edition, is_disorder, last_pending, pending, most_pending, most_editions, tables_of}
use Rattle.edition_register.specs.Bounded.{bounded, bounded_after, begun, edition_of}
use Rattle.edition_register.specs.Starts.{Rises}
use Rattle.edition_register.specs.Stored.{begins}
use Rattle.edition_register.proofs.BoundedFacts.{trim, past, pend, trim-kept, rises-pend, stamp-moves, edition-first, rises-one, below-all, below-pend, below-past, rises-past}

past-front : (n : ℕ) (used : Scheduled) (waiting : List Scheduled) → used.from < n → Rises n waiting → past n (used ∷ waiting) ≡ used ∷ []
past-front n used waiting before rises =
    filter-append (λ q. not (nat_le n q.from)) (used ∷ []) waiting
    ∙ ap (λ (l : List Scheduled). l ++ past n waiting) (below-past n n (used ∷ []) (omega arith) (before, tt))
    ∙ ap (λ (l : List Scheduled). used ∷ l) (rises-past n waiting rises)

-- a register of one activation in use and those that are pending
abbrev pub kept : ℕ → List Database → Scheduled → List Scheduled → Register
kept n editions used waiting = record { next = n; editions = editions; schedule = used ∷ waiting }

-- whether the first of these activations begins with the packet
abbrev pub first_begins : ℕ → List Scheduled → Bool
first_begins n [] = false
first_begins n (q ∷ qs) = q.from == n

later-any : (n low : ℕ) (pairs : List Scheduled) → n < low → Rises low pairs → list_any (λ pair. pair.from == n) pairs ≡ false
later-any n low [] lt rises = refl
later-any n low (q ∷ qs) lt rises =
    let above = rises.0 in
    let other : (q.from == n) ≡ false = search arith in
    ap (λ b. b || list_any (λ pair. pair.from == n) qs) other ∙ later-any n (q.from + 1) qs (omega arith) rises.1

or-false : (b : Bool) → (b || false) ≡ b
or-false true = refl
or-false false = refl

begins-first : (n : ℕ) (pairs : List Scheduled) → Rises n pairs → list_any (λ pair. pair.from == n) pairs ≡ first_begins n pairs
begins-first n [] rises = refl
begins-first n (q ∷ qs) rises =
    let above = rises.0 in
    ap (λ b. (q.from == n) || b) (later-any n (q.from + 1) qs (omega arith) rises.1) ∙ or-false (q.from == n)

begun-none : (n : ℕ) (used : Scheduled) (waiting : List Scheduled) → first_begins n waiting ≡ false → (begun n used waiting ≡ (used, waiting)) × (edition_of n used waiting ≡ used.edition)
begun-none n used [] none = (refl, refl)
begun-none n used (q ∷ qs) none = (ap (λ b. cond {A = Scheduled × List Scheduled} b (q, qs) (used, q ∷ qs)) none, ap (λ b. cond b q.edition used.edition) none)

begun-first : (n : ℕ) (used q : Scheduled) (qs : List Scheduled) → first_begins n (q ∷ qs) ≡ true → (begun n used (q ∷ qs) ≡ (q, qs)) × (edition_of n used (q ∷ qs) ≡ q.edition)
begun-first n used q qs first = (ap (λ b. cond {A = Scheduled × List Scheduled} b (q, qs) (used, q ∷ qs)) first, ap (λ b. cond b q.edition used.edition) first)

module _ (n : ℕ) (editions : List Database) (used : Scheduled) (waiting : List Scheduled) (before : used.from < n) (rises : Rises n waiting) where
  pub pending-kept : pending (kept n editions used waiting) ≡ waiting
  pending-kept =
      filter-append (λ q. nat_le n q.from) (used ∷ []) waiting
      ∙ ap (λ (l : List Scheduled). l ++ pend n waiting) (below-pend n n (used ∷ []) (omega arith) (before, tt))
      ∙ rises-pend n waiting rises

  pub last-kept : last_pending (kept n editions used waiting) ≡ option_map (λ pair. pair.from) (last_or None waiting)
  last-kept = ap (λ (l : List Scheduled). option_map (λ (pair : Scheduled). pair.from) (last_or None l)) pending-kept

  -- it is bounded
  pub stays-kept : bounded (kept n editions used waiting) ≡ kept n editions used waiting
  stays-kept = ap (λ (l : List Scheduled). record { next = n; editions = editions; schedule = l }) (trim-kept n (used ∷ []) waiting (before, tt) rises)

  pub begins-kept : begins (kept n editions used waiting) ≡ first_begins n waiting
  begins-kept =
      let other : (used.from == n) ≡ false = search arith in
      ap (λ b. b || list_any (λ pair. pair.from == n) waiting) other ∙ begins-first n waiting rises

  -- STAMPS
  stamp-answer : answer_to (kept n editions used waiting) Stamp ≡ Stamped n (edition_of n used waiting) (slice_index_or editions (edition_of n used waiting - 1) no_rows)
  unfolding answer_to
  stamp-answer = ap (λ e. Stamped n e (tables_of (kept n editions used waiting) e)) (edition-first n used waiting before rises)

  stamp-after : bounded_after (kept n editions used waiting) Stamp ≡ kept (n + 1) editions (begun n used waiting).0 (begun n used waiting).1
  unfolding after
  stamp-after = ap (λ (l : List Scheduled). record { next = n + 1; editions = editions; schedule = l }) (stamp-moves n used waiting before rises)

  -- no activation begins
  pub goes-on : begins (kept n editions used waiting) ≡ false
      → (Stamped n used.edition (slice_index_or editions (used.edition - 1) no_rows) ≡ answer_to (kept n editions used waiting) Stamp)
      × (kept (n + 1) editions used waiting ≡ bounded_after (kept n editions used waiting) Stamp)
  goes-on none =
      let first = begun-none n used waiting (sym begins-kept ∙ none) in (
        sym (stamp-answer ∙ ap (λ e. Stamped n e (slice_index_or editions (e - 1) no_rows)) first.1),
        sym (stamp-after ∙ ap (λ (p : Scheduled × List Scheduled). kept (n + 1) editions p.0 p.1) first.0),
      )

  -- ADDITIONS
  pub add-full : (tables : Database) (plans : List Plan) → nat_le most_editions (length editions) ≡ true
      → (FullEditions ≡ answer_to (kept n editions used waiting) (Add tables plans)) × (kept n editions used waiting ≡ bounded_after (kept n editions used waiting) (Add tables plans))
  unfolding answer_to after
  add-full tables plans full =
      let a : added (kept n editions used waiting) ≡ FullEditions = ap (λ b. cond b FullEditions (Added (length editions + 1))) full in
      (sym a, sym (ap (λ x. bounded (with_tables (kept n editions used waiting) tables x)) a ∙ stays-kept))

  pub add-on : (base : ℕ) (tables : Database) (plans : List Plan) → (base == length editions) ≡ true
      → (answer_to (kept n editions used waiting) (Add tables plans) ≡ answer_to (kept n editions used waiting) (AddOn base tables plans))
      × (bounded_after (kept n editions used waiting) (Add tables plans) ≡ bounded_after (kept n editions used waiting) (AddOn base tables plans))
  unfolding answer_to after
  add-on base tables plans is =
      let a = ap (λ b. cond b (added (kept n editions used waiting)) (Stale (length editions))) is in
      (sym a, sym (ap (λ x. bounded (with_tables (kept n editions used waiting) tables x)) a))

  pub add-stale : (base : ℕ) (tables : Database) (plans : List Plan) → (base == length editions) ≡ false
      → (Stale (length editions) ≡ answer_to (kept n editions used waiting) (AddOn base tables plans))
      × (kept n editions used waiting ≡ bounded_after (kept n editions used waiting) (AddOn base tables plans))
  unfolding answer_to after
  add-stale base tables plans other =
      let a = ap (λ b. cond b (added (kept n editions used waiting)) (Stale (length editions))) other in
      (sym a, sym (ap (λ x. bounded (with_tables (kept n editions used waiting) tables x)) a ∙ stays-kept))

  -- ACTIVATIONS
  pub use-none : (e : ℕ) → has_edition (kept n editions used waiting) e ≡ false
      → (NoEdition (length editions) ≡ answer_to (kept n editions used waiting) (Use e)) × (kept n editions used waiting ≡ bounded_after (kept n editions used waiting) (Use e))
  unfolding answer_to after
  use-none e none =
      let s = kept n editions used waiting in
      let a : answer_to s (Use e) ≡ NoEdition (length editions) = ap (λ b. cond b (Used n) (NoEdition (length editions))) none in
      (sym a, sym (ap (λ x. bounded (with_activation s (past n s.schedule) e x)) a ∙ stays-kept))

  use_from-other : (e k : ℕ) (a : Answer) → bounded (with_activation (kept n editions used waiting) (used ∷ waiting) e a) ≡ kept n editions used waiting
      → answer_to (kept n editions used waiting) (UseFrom e k) ≡ a
      → (a ≡ answer_to (kept n editions used waiting) (UseFrom e k)) × (kept n editions used waiting ≡ bounded_after (kept n editions used waiting) (UseFrom e k))
  unfolding answer_to after
  use_from-other e k a same is = (sym is, sym (ap (λ x. bounded (with_activation (kept n editions used waiting) (used ∷ waiting) e x)) is ∙ same))

  -- the answer to an activation from a packet on, by its four tests
  abbrev from_by : ℕ → Bool → Bool → Option ℕ → Bool → Answer
  from_by k has late last full =
      cond (not has) (NoEdition (length editions)) (cond late (Late n) (cond (is_disorder k last) (Disorder (unwrap_or last 0)) (cond full FullPending (Used k))))

  from-is : (e k : ℕ) (has late full : Bool) (last : Option ℕ) → has_edition (kept n editions used waiting) e ≡ has → nat_lt k n ≡ late → last_pending (kept n editions used waiting) ≡ last
      → nat_le most_pending (length waiting) ≡ full → answer_to (kept n editions used waiting) (UseFrom e k) ≡ from_by k has late last full
  unfolding answer_to
  from-is e k has late full last is_has is_late is_last is_full =
      λ i. from_by k (is_has i) (is_late i) (is_last i) ((ap (λ (l : List Scheduled). nat_le most_pending (length l)) pending-kept ∙ is_full) i)

  pub use_from-none : (e k : ℕ) → has_edition (kept n editions used waiting) e ≡ false
      → (NoEdition (length editions) ≡ answer_to (kept n editions used waiting) (UseFrom e k)) × (kept n editions used waiting ≡ bounded_after (kept n editions used waiting) (UseFrom e k))
  use_from-none e k none = use_from-other e k (NoEdition (length editions)) stays-kept (from-is e k false _ _ _ none refl refl refl)

  pub use_from-late : (e k : ℕ) → has_edition (kept n editions used waiting) e ≡ true → nat_lt k n ≡ true
      → (Late n ≡ answer_to (kept n editions used waiting) (UseFrom e k)) × (kept n editions used waiting ≡ bounded_after (kept n editions used waiting) (UseFrom e k))
  use_from-late e k has late = use_from-other e k (Late n) stays-kept (from-is e k true true _ _ has late refl refl)

  pub use_from-disorder : (e k last : ℕ) → has_edition (kept n editions used waiting) e ≡ true → nat_lt k n ≡ false → Some last ≡ last_pending (kept n editions used waiting) → nat_le k last ≡ true
      → (Disorder last ≡ answer_to (kept n editions used waiting) (UseFrom e k)) × (kept n editions used waiting ≡ bounded_after (kept n editions used waiting) (UseFrom e k))
  use_from-disorder e k last has late is le =
      use_from-other e k (Disorder last) stays-kept (from-is e k true false _ (Some last) has late (sym is) refl ∙ ap (λ b. cond b (Disorder last) (cond (nat_le most_pending (length waiting)) FullPending (Used k))) le)

  pub use_from-full : (e k : ℕ) → has_edition (kept n editions used waiting) e ≡ true → nat_lt k n ≡ false → is_disorder k (last_pending (kept n editions used waiting)) ≡ false
      → nat_le most_pending (length waiting) ≡ true
      → (FullPending ≡ answer_to (kept n editions used waiting) (UseFrom e k)) × (kept n editions used waiting ≡ bounded_after (kept n editions used waiting) (UseFrom e k))
  use_from-full e k has late order full =
      use_from-other e k FullPending stays-kept (from-is e k true false true _ has late refl full ∙ ap (λ b. cond b (Disorder (unwrap_or (last_pending (kept n editions used waiting)) 0)) FullPending) order)

  -- the activation stands behind those that are pending
  pub from-rises : (e k : ℕ) → nat_lt k n ≡ false → is_disorder k (last_pending (kept n editions used waiting)) ≡ false → Rises n (waiting ++ record { from = k; edition = e } ∷ [])
  from-rises e k late order =
      let le = ltb-false k n late in
      rises-one n waiting (record { from = k; edition = e }) rises (omega arith) (below-all k n waiting rises (ap (is_disorder k) (sym last-kept) ∙ order))

  pub use_from-takes : (e k : ℕ) → has_edition (kept n editions used waiting) e ≡ true → nat_lt k n ≡ false → is_disorder k (last_pending (kept n editions used waiting)) ≡ false
      → nat_le most_pending (length waiting) ≡ false
      → (Used k ≡ answer_to (kept n editions used waiting) (UseFrom e k))
      × (kept n editions used (waiting ++ record { from = k; edition = e } ∷ []) ≡ bounded_after (kept n editions used waiting) (UseFrom e k))
  unfolding answer_to after
  use_from-takes e k has late order full =
      let is = from-is e k true false false _ has late refl full ∙ ap (λ b. cond b (Disorder (unwrap_or (last_pending (kept n editions used waiting)) 0)) (Used k)) order in (
        sym is,
        sym (ap (λ x. bounded (with_activation (kept n editions used waiting) (used ∷ waiting) e x)) is
            ∙ ap (λ (l : List Scheduled). record { next = n; editions = editions; schedule = l }) (trim-kept n (used ∷ []) (waiting ++ record { from = k; edition = e } ∷ []) (before, tt) (from-rises e k late order))),
      )

  pub use-takes : (e : ℕ) → has_edition (kept n editions used waiting) e ≡ true
      → (Used n ≡ answer_to (kept n editions used waiting) (Use e))
      × (kept n editions used (record { from = n; edition = e } ∷ []) ≡ bounded_after (kept n editions used waiting) (Use e))
  unfolding answer_to after
  use-takes e has =
      let s = kept n editions used waiting in
      let x : Scheduled = record { from = n; edition = e } in
      let a : answer_to s (Use e) ≡ Used n = ap (λ b. cond b (Used n) (NoEdition (length editions))) has in
      let stay : past n (used ∷ waiting) ≡ used ∷ [] = past-front n used waiting before rises in (
        sym a,
        sym (ap (λ y. bounded (with_activation s (past n s.schedule) e y)) a
            ∙ ap (λ (l : List Scheduled). record { next = n; editions = editions; schedule = trim n (l ++ x ∷ []) }) stay
            ∙ ap (λ (l : List Scheduled). record { next = n; editions = editions; schedule = l }) (trim-kept n (used ∷ []) (x ∷ []) (before, tt) ((omega arith), tt))),
      )

  -- LOOKS
  pub looks-newest : (Drawn (length editions) (slice_index_or editions (length editions - 1) no_rows) ≡ answer_to (kept n editions used waiting) Newest)
      × (kept n editions used waiting ≡ bounded_after (kept n editions used waiting) Newest)
  unfolding answer_to after
  looks-newest = (refl, sym stays-kept)

  pub look-none : (e : ℕ) → has_edition (kept n editions used waiting) e ≡ false
      → (NoEdition (length editions) ≡ answer_to (kept n editions used waiting) (Look e)) × (kept n editions used waiting ≡ bounded_after (kept n editions used waiting) (Look e))
  unfolding answer_to after
  look-none e none = (sym (ap (λ b. cond b (Drawn e (slice_index_or editions (e - 1) no_rows)) (NoEdition (length editions))) none), sym stays-kept)

  pub look-found : (e : ℕ) → has_edition (kept n editions used waiting) e ≡ true
      → (Drawn e (slice_index_or editions (e - 1) no_rows) ≡ answer_to (kept n editions used waiting) (Look e)) × (kept n editions used waiting ≡ bounded_after (kept n editions used waiting) (Look e))
  unfolding answer_to after
  look-found e has = (sym (ap (λ b. cond b (Drawn e (slice_index_or editions (e - 1) no_rows)) (NoEdition (length editions))) has), sym stays-kept)

-- tables are added
pub add-takes : (n : ℕ) (editions : List Database) (used : Scheduled) (waiting : List Scheduled) (tables : Database) (plans : List Plan) → used.from < n → Rises n waiting → nat_le most_editions (length editions) ≡ false
    → (Added (length editions + 1) ≡ answer_to (kept n editions used waiting) (Add tables plans))
    × (kept n (editions ++ tables ∷ []) used waiting ≡ bounded_after (kept n editions used waiting) (Add tables plans))
unfolding answer_to after
add-takes n editions used waiting tables plans before rises room =
    let s = kept n editions used waiting in
    let a : added s ≡ Added (length editions + 1) = ap (λ b. cond b FullEditions (Added (length editions + 1))) room in
    (sym a, sym (ap (λ x. bounded (with_tables s tables x)) a ∙ stays-kept n (editions ++ tables ∷ []) used waiting before rises))

-- the first of the pending activations begins
pub begins-with : (n : ℕ) (editions : List Database) (used q : Scheduled) (qs : List Scheduled) → used.from < n → Rises n (q ∷ qs) → begins (kept n editions used (q ∷ qs)) ≡ true
    → (Stamped n q.edition (slice_index_or editions (q.edition - 1) no_rows) ≡ answer_to (kept n editions used (q ∷ qs)) Stamp)
    × (kept (n + 1) editions q qs ≡ bounded_after (kept n editions used (q ∷ qs)) Stamp)
    × (q.from ≡ n)
begins-with n editions used q qs before rises begins =
    let first = begun-first n used q qs (sym (begins-kept n editions used (q ∷ qs) before rises) ∙ begins) in (
      sym (stamp-answer n editions used (q ∷ qs) before rises ∙ ap (λ e. Stamped n e (slice_index_or editions (e - 1) no_rows)) first.1),
      sym (stamp-after n editions used (q ∷ qs) before rises ∙ ap (λ (p : Scheduled × List Scheduled). kept (n + 1) editions p.0 p.1) first.0),
      eqb-true q.from n (sym (begins-kept n editions used (q ∷ qs) before rises) ∙ begins),
    )

-- where none begins they rise from the packet after
pub rises-on : (n : ℕ) (waiting : List Scheduled) → first_begins n waiting ≡ false → Rises n waiting → Rises (n + 1) waiting
rises-on n [] none rises = tt
rises-on n (q ∷ qs) none rises = let above = rises.0 in let other = eqb-false q.from n none in ((omega arith), rises.1)
