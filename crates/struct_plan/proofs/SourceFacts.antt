-- A walk whose values come from a packet.
use Rattle.std.proofs.Common.{◌≡◌, ◌∙◌, ℕ, zero, suc, ℤ, ◌+ℤ◌, nat_abs, Bool, true, false, not, cond, nat_eq, List, [], ◌∷◌, length, Option, Some, None, Ok, Err, option_map, option_and_then, refl, sym, ap, ◌⊎◌, inl, inr}
use Rattle.mib_model.specs.declared.database.Database.{Database}
use Rattle.mib_model.specs.declared.packet.Ended.TheVariants as ended
use Rattle.mib_model.specs.declared.packet.Value.{Value}
use Rattle.mib_model.specs.declared.rows.VpdRow.{VpdRow}
use Rattle.mib_model.specs.Fixed.{most_values, value_at}
use Rattle.mib_model.specs.Structures.{Typed, typed, subject, group_repeated}
use Rattle.mib_model.specs.Walk.{Extracted, Walking, Step, Goes, Ends, step, step_from, on_row, on_subject, try_value, give_value, walked, on_step, lies_outside, walk_limit, walk_start, structure_values}
use Rattle.struct_plan.specs.declared.numbers.WalkEnd.{WalkEnd}
use Rattle.struct_plan.specs.declared.numbers.WalkEnd.TheVariants.{Ended, Missing, Unfit}
use Rattle.mib_model.specs.Soundness.{IsSound}
use Rattle.mib_laws.proofs.Ends.{walks-end}
use Rattle.mib_laws.proofs.LimitFacts.{limit-serves}
use Rattle.struct_plan.specs.Courses.{Gives}
use Rattle.struct_plan.specs.Sources.{PacketIsSource, Walked, Move, Steps, move, move_from, of_packet, on_given, on_move, on_row_by, on_subject_by, try_by, walked_by}

-- what a walk over a packet gives, as a walk over a source
abbrev pub as_walked : Extracted → Walked
as_walked e = (e.0, Ended e.1)

module _ (db : Database) (packet : List ℕ) where
  -- so many steps behind a row come to the same
  Same : ℕ → Move → Step → Type 0
  Same k m s = on_move (λ on. walked_by db (of_packet packet) k on) m ≡ option_map as_walked (on_step (λ on. walked db packet k on) s)

  step-same : (k : ℕ) → ((on : Walking) → walked_by db (of_packet packet) k on ≡ option_map as_walked (walked db packet k on)) → (s : Step) → Same k (Steps s) s
  unfolding Same
  step-same k all (Goes on) = all on
  step-same k all (Ends ended values) = refl

  module _ (k : ℕ) (all : (on : Walking) → walked_by db (of_packet packet) k on ≡ option_map as_walked (walked db packet k on)) where
    either-value : (row : VpdRow) (rest : List VpdRow) (w : Walking) (t : Typed) (full outside : Bool)
        → Same k (cond full (Steps (Ends ended.Many w.values)) (on_given db row rest w t (cond outside (Err (Ended (ended.Short t.0.name))) (Ok (value_at packet (record { name = t.0.name; at = nat_abs w.cursor; shape = t.1 }))))))
        (cond full (Ends ended.Many w.values) (cond outside (Ends (ended.Short t.0.name) w.values) (give_value db packet row rest w (nat_abs w.cursor) t)))
    unfolding Same
    either-value row rest w t true outside = refl
    either-value row rest w t false true = refl
    either-value row rest w t false false = step-same k all (give_value db packet row rest w (nat_abs w.cursor) t)

    value-same : (row : VpdRow) (rest : List VpdRow) (w : Walking) (t : Typed) → Same k (try_by db (of_packet packet) row rest w t) (try_value db packet row rest w t)
    value-same row rest w t = either-value row rest w t (nat_eq (length w.values) most_values) (lies_outside packet w.cursor t.1.width)

    subject-same : (row : VpdRow) (rest : List VpdRow) (w : Walking) (o : Option Typed) → Same k (on_subject_by db (of_packet packet) row rest w o) (on_subject db packet row rest w o)
    unfolding Same
    subject-same row rest w None = refl
    subject-same row rest w (Some t) = value-same row rest w t

    either-row : (row : VpdRow) (rest : List VpdRow) (w on : Walking) (o : Option Typed) (b : Bool)
        → Same k (cond b (Steps (Goes on)) (on_subject_by db (of_packet packet) row rest w o)) (cond b (Goes on) (on_subject db packet row rest w o))
    unfolding Same
    either-row row rest w on o true = all on
    either-row row rest w on o false = subject-same row rest w o

    row-same : (row : VpdRow) (rest : List VpdRow) (w : Walking) → Same k (on_row_by db (of_packet packet) row rest w) (on_row db packet row rest w)
    row-same row rest w = either-row row rest w (record w { todo = group_repeated row.grpsize row.fixrep rest }) (option_and_then typed (subject db w.last row)) (not (nat_eq row.fixrep 0))

    from-same : (w : Walking) (rows : List VpdRow) → Same k (move_from db (of_packet packet) w rows) (step_from db packet w rows)
    unfolding Same
    from-same w [] = refl
    from-same w (row ∷ rest) = row-same row rest (record w { cursor = w.cursor +ℤ row.offset })

  all-same : (k : ℕ) (w : Walking) → walked_by db (of_packet packet) k w ≡ option_map as_walked (walked db packet k w)
  unfolding walked walked_by move step Same
  all-same zero w = refl
  all-same (suc k) w = from-same k (all-same k) w w.todo

-- a walk over a packet of a sound database, by its source
pub packet-gives : (db : Database) (packet : List ℕ) → IsSound db → (tpsd : ℤ) (dfhsize : ℕ) → Gives db (of_packet packet) (as_walked (structure_values db tpsd dfhsize packet)) (walk_start db tpsd dfhsize)
packet-gives db packet sound tpsd dfhsize =
    (walk_limit db, all-same db packet (walk_limit db) (walk_start db tpsd dfhsize) ∙ ap (option_map as_walked) (limit-serves db packet walks-end sound tpsd dfhsize))

pub packet_is_source : PacketIsSource
packet_is_source db packet steps w = all-same db packet steps w

-- what a walk over a packet came to, as mib_model's walk has it
pub as-extracted : (values : List Value) (why : WalkEnd) (e : ended.the_data) (end : Extracted) → (values, why) ≡ as_walked end → why ≡ Ended e → (values, e) ≡ end
as-extracted values why e end same is =
    let whys : Ended e ≡ Ended end.1 = sym is ∙ ap (λ (w : Walked). w.1) same in
    let ends : e ≡ end.1 = cc whys in
    let firsts : values ≡ end.0 = ap (λ (w : Walked). w.0) same in
    ap (λ (vs : List Value). (vs, e)) firsts ∙ ap (λ (x : ended.the_data). (end.0, x)) ends

-- a packet has a number for each value whose bits it has, and each is one of its field
pub packet-ends : (values : List Value) (why : WalkEnd) (end : Extracted) → (values, why) ≡ as_walked end → (why ≡ Missing) ⊎ (why ≡ Unfit) → ⊥
packet-ends values why end same (inl is) = let apart : Missing ≡ Ended end.1 = sym is ∙ ap (λ (w : Walked). w.1) same in absurd (cc apart)
packet-ends values why end same (inr is) = let apart : Unfit ≡ Ended end.1 = sym is ∙ ap (λ (w : Walked). w.1) same in absurd (cc apart)
