-- A walk over items is one over each packet in which they are read.
use Rattle.std.proofs.Common.{◌≡◌, ◌∙◌, ℕ, zero, suc, ◌<◌, ◌^◌, ℤ, pos, ◌+ℤ◌, ◌+◌, Bool, true, false, not, cond, nat_eq, List, [], ◌∷◌, ◌++◌, length, Option, Some, None, option_and_then, Result, Ok, Err, refl, sym, ap, subst, append_assoc, append-nil}
use Rattle.std.specs.List.{AllByRecursion}
use Rattle.mib_model.specs.declared.database.Database.{Database}
use Rattle.mib_model.specs.declared.packet.Ended.TheVariants as ended
use Rattle.mib_model.specs.declared.packet.Value.{Value}
use Rattle.mib_model.specs.declared.rows.VpdRow.{VpdRow}
use Rattle.mib_model.specs.Encodings.{IsEncoding}
use Rattle.mib_model.specs.Fixed.{most_values}
use Rattle.mib_model.specs.Structures.{Typed, typed, subject, structure, group_repeated, moved_by, times, is_yes}
use Rattle.mib_model.specs.Walk.{Walking, Step, Goes, Ends, after_value, chosen}
use Rattle.struct_plan.specs.declared.numbers.WalkEnd.{WalkEnd}
use Rattle.struct_plan.specs.declared.numbers.WalkEnd.TheVariants.{Ended}
use Rattle.struct_plan.specs.Entries.{field_of}
use Rattle.struct_plan.specs.Sources.{Walked, Move, Steps, move, move_from, of_packet, on_given, on_move, on_subject_by, walked_by}
use Rattle.build_rules.specs.declared.item.Item.{Item}
use Rattle.build_rules.specs.Laying.{of_items}
use Rattle.build_laws.proofs.GoodFacts.{AreItems, IsLaid, all-at, items-more, subject-has}
use Rattle.build_laws.proofs.LaidFacts.{IsRead, item-given, item-read, not-whole}

-- a step leaves these values
Keeps : List Value → Step → Type 0
Keeps front (Goes on) = on.values ≡ front
Keeps front (Ends ended values) = values ≡ front

keeps-if : (front : List Value) (b : Bool) (s t : Step) → Keeps front s → Keeps front t → Keeps front (cond b s t)
unfolding Keeps
keeps-if front true s t x y = x
keeps-if front false s t x y = y

keeps-chosen : (on : Walking) (v : ℤ) (rows : List VpdRow) → Keeps on.values (chosen on v rows)
unfolding Keeps
keeps-chosen on v [] = refl
keeps-chosen on v (row ∷ rows) = refl

after-keeps : (db : Database) (row : VpdRow) (rest : List VpdRow) (v : ℤ) (on : Walking) → Keeps on.values (after_value db row rest v on)
unfolding Keeps
after-keeps db row rest v on =
    keeps-if on.values (is_yes row.choice) (chosen on v (structure db v))
    (cond (not (nat_eq row.grpsize 0)) (Goes (record on { todo = group_repeated row.grpsize (times v) rest })) (cond (is_yes row.pidref) (Goes (record on { last = v })) (Goes on)))
    (keeps-chosen on v (structure db v))
    (keeps-if on.values (not (nat_eq row.grpsize 0)) (Goes (record on { todo = group_repeated row.grpsize (times v) rest })) (cond (is_yes row.pidref) (Goes (record on { last = v })) (Goes on))
    refl
    (keeps-if on.values (is_yes row.pidref) (Goes (record on { last = v })) (Goes on) refl refl))

module _ (db : Database) (items : List Item) (packet : List ℕ) (short : length packet < 2 ^ 61) (values : List Value) where
  -- the walk over items ends whole with the values
  abbrev EndsWhole : Option Walked → Type 0
  EndsWhole o = o ≡ Some (values, Ended ended.Whole)

  -- so does that over the packet, where the values are read; they begin with some, and are items
  record Agrees (front : List Value) (o : Option Walked) : Type 0 where
    rest : List Value
    behind : values ≡ front ++ rest
    are : AreItems items values
    same : AllByRecursion (IsRead packet) values → EndsWhole o

  Follows : ℕ → List Value → Move → Move → Type 0
  Follows k front m n =
      EndsWhole (on_move (λ on. walked_by db (of_items items) k on) m) → AreItems items front → Agrees front (on_move (λ on. walked_by db (of_packet packet) k on) n)

  Walks : ℕ → Type 0
  Walks k = (w : Walking) → EndsWhole (walked_by db (of_items items) k w) → AreItems items w.values → Agrees w.values (walked_by db (of_packet packet) k w)

  module _ (k : ℕ) (below : Walks k) where
    step-follows : (front : List Value) (s : Step) → Keeps front s → Follows k front (Steps s) (Steps s)
    unfolding Keeps Follows Walks
    step-follows front (Goes on) keeps is are =
        let a = below on is (subst (AreItems items) (sym keeps) are) in record {
          rest = a.rest;
          behind = a.behind ∙ ap (λ (vs : List Value). vs ++ a.rest) keeps;
          are = a.are;
          same = a.same;
        }
    step-follows front (Ends how vs) keeps is are =
        let first : vs ≡ values = (let pairs : ◌≡◌ {A = Walked} (vs, Ended how) (values, Ended ended.Whole) = cc is in ap (λ (p : Walked). p.0) pairs) in record {
          rest = [];
          behind = sym first ∙ (keeps ∙ sym (append-nil front));
          are = subst (AreItems items) (sym keeps ∙ first) are;
          same = λ all. is;
        }

    given-follows : (row : VpdRow) (rest : List VpdRow) (w : Walking) (t : Typed) → IsEncoding t.1 → (r : Result Value WalkEnd) → of_items items w.cursor (field_of t) (length w.values) ≡ r
        → Follows k w.values (on_given db row rest w t r) (on_given db row rest w t (of_packet packet w.cursor (field_of t) (length w.values)))
    unfolding Follows
    given-follows row rest w t has (Err why) gave is are =
        let pairs : ◌≡◌ {A = Walked} (w.values, why) (values, Ended ended.Whole) = cc is in
        absurd (not-whole items w.cursor (field_of t) (length w.values) why gave (ap (λ (p : Walked). p.1) pairs))
    given-follows row rest w t has (Ok v) gave is are =
        let g = item-given items w.cursor (field_of t) (length w.values) v gave in
        let laid : IsLaid v = record { has = subst IsEncoding g.is_item.shape has; fit = g.is_item.fit } in
        let more = items-more items w.values v are g.is_item.item laid in
        let on : Walking = record { todo = rest; cursor = pos (v.at + moved_by t); last = w.last; values = w.values ++ v ∷ [] } in
        let a = step-follows (w.values ++ v ∷ []) (after_value db row rest v.raw on) (after-keeps db row rest v.raw on) is more in record {
          rest = v ∷ a.rest;
          behind = a.behind ∙ append_assoc w.values (v ∷ []) a.rest;
          are = a.are;
          same = λ all.
              let read : IsRead packet v = all-at (IsRead packet) w.values v a.rest (subst (AllByRecursion (IsRead packet)) a.behind all) in
              let reads = item-read packet short items w.cursor (field_of t) (length w.values) v gave read in
              rw reads (a.same all);
        }

    try-follows : (row : VpdRow) (rest : List VpdRow) (w : Walking) (t : Typed) → IsEncoding t.1 → (b : Bool)
        → Follows k w.values (cond b (Steps (Ends ended.Many w.values)) (on_given db row rest w t (of_items items w.cursor (field_of t) (length w.values))))
        (cond b (Steps (Ends ended.Many w.values)) (on_given db row rest w t (of_packet packet w.cursor (field_of t) (length w.values))))
    unfolding Keeps
    try-follows row rest w t has true = step-follows w.values (Ends ended.Many w.values) refl
    try-follows row rest w t has false = given-follows row rest w t has (of_items items w.cursor (field_of t) (length w.values)) refl

    subject-follows : (row : VpdRow) (rest : List VpdRow) (w : Walking) (o : Option Typed) → ((t : Typed) → o ≡ Some t → IsEncoding t.1)
        → Follows k w.values (on_subject_by db (of_items items) row rest w o) (on_subject_by db (of_packet packet) row rest w o)
    unfolding Keeps
    subject-follows row rest w None has = step-follows w.values (Ends (ended.NoParameter w.last) w.values) refl
    subject-follows row rest w (Some t) has = try-follows row rest w t (has t refl) (nat_eq (length w.values) most_values)

    row-follows : (row : VpdRow) (rest : List VpdRow) (w : Walking) (b : Bool)
        → Follows k w.values (cond b (Steps (Goes (record w { todo = group_repeated row.grpsize row.fixrep rest }))) (on_subject_by db (of_items items) row rest w (option_and_then typed (subject db w.last row))))
        (cond b (Steps (Goes (record w { todo = group_repeated row.grpsize row.fixrep rest }))) (on_subject_by db (of_packet packet) row rest w (option_and_then typed (subject db w.last row))))
    unfolding Keeps
    row-follows row rest w true = step-follows w.values (Goes (record w { todo = group_repeated row.grpsize row.fixrep rest })) refl
    row-follows row rest w false = subject-follows row rest w (option_and_then typed (subject db w.last row)) (λ t is. subject-has (subject db w.last row) t is)

    from-follows : (w : Walking) (rows : List VpdRow) → Follows k w.values (move_from db (of_items items) w rows) (move_from db (of_packet packet) w rows)
    unfolding Keeps
    from-follows w [] = step-follows w.values (Ends ended.Whole w.values) refl
    from-follows w (row ∷ rest) = row-follows row rest (record w { cursor = w.cursor +ℤ row.offset }) (not (nat_eq row.fixrep 0))

  walks : (k : ℕ) → Walks k
  unfolding Walks Follows walked_by move
  walks zero w is are = absurd (cc is)
  walks (suc k) w is are = from-follows k (walks k) w w.todo is are

  -- of the whole walk
  pub walk-agrees : (k : ℕ) (w : Walking) → w.values ≡ [] → EndsWhole (walked_by db (of_items items) k w)
      → AreItems items values × (AllByRecursion (IsRead packet) values → EndsWhole (walked_by db (of_packet packet) k w))
  unfolding Walks
  walk-agrees k w none is =
      let start : AreItems items w.values = subst (AreItems items) (sym none) (record { named = refl; laid = tt }) in
      let a = walks k w is start in (a.are, a.same)
