-- A run with one edition.
use Rattle.std.proofs.Common.{◌≡◌, ℕ, ◌+◌, zero, suc, List, [], ◌∷◌, ◌++◌, map, length, true, nat_le, refl, ap, arith}
use Rattle.std.specs.List.{range_with_len, slice_index_or, zip}
use Rattle.histories.specs.History.{IsLegal, state_after}
use Rattle.mib_model.specs.declared.database.Database.{Database}
use Rattle.run_model.specs.declared.register.Entry.TheVariants.{Stamp}
use Rattle.run_model.specs.declared.register.Register.{Register}
use Rattle.mib_model.specs.Database.{no_rows}
use Rattle.mib_model.specs.Interpreter.{start, interpret, records_text}
use Rattle.run_model.specs.Output.{stamped_in, stamped_by, output, stamp_of_one, stamps_of_one, output_of_one}
use Rattle.mib_model.specs.Interpreter.{stamped_first, stamped_from}
use Rattle.run_model.specs.Register.{opening, answer_to, after, tables_of}
use Rattle.run_model.specs.RegisterHistories.{IsRegisterHistory, register_after, stamps}

-- stamps leave the editions as they are
editions-stay : (first : Database) (s : Register) (ns : List ℕ) → (state_after after s (map (stamp_of_one first) ns)).editions ≡ s.editions
unfolding after
editions-stay first s [] = refl
editions-stay first s (n ∷ ns) = editions-stay first (after s Stamp) ns

stamped-same : (first : Database) (register : Register) → tables_of register 1 ≡ first → (ns : List ℕ) (packets : List (List ℕ))
    → map (stamped_in register) (zip (stamps (map (stamp_of_one first) ns)) packets) ≡ map (stamped_first first) (zip ns packets)
stamped-same first register is [] packets = refl
stamped-same first register is (n ∷ ns) [] = refl
stamped-same first register is (n ∷ ns) (p ∷ ps) =
    λ i. record { number = n; packet = p; edition = 1; tables = is i } ∷ stamped-same first register is ns ps i

pub output-one : (first : Database) (packets : List (List ℕ)) (tail : List ℕ)
    → output_of_one first packets tail ≡ records_text (interpret (start first) (stamped_from first 1 packets)) ++ tail
unfolding output_of_one output stamped_by stamped_from
output-one first packets tail =
    let ns = range_with_len 1 (length packets) in
    let tables : tables_of (register_after first (stamps_of_one first packets)) 1 ≡ first =
    ap (λ es. slice_index_or es 0 no_rows) (editions-stay first (opening first) ns) in
    ap (λ s. records_text (interpret (start first) s) ++ tail) (stamped-same first (register_after first (stamps_of_one first packets)) tables ns packets)

-- a register with one edition whose next packet has this number
abbrev with_next : Database → ℕ → Register
with_next first n = record (opening first) { next = n }

legal-from : (first : Database) (n count : ℕ) → IsLegal answer_to after (with_next first n) (map (stamp_of_one first) (range_with_len n count))
unfolding answer_to after
legal-from first n zero = tt
legal-from first n (suc count) =
    let from_first : nat_le 0 n ≡ true = search arith in
    (rw from_first refl, legal-from first (n + 1) count)

pub one-legal : (first : Database) (packets : List (List ℕ)) → IsRegisterHistory first (stamps_of_one first packets)
one-legal first packets = legal-from first 1 (length packets)
