-- What the machine of `csv` makes of a line: with quoting off, and the tab as terminator too, it cuts at each tab.
use Rattle.std.proofs.Common.{◌≡◌, ℕ, Bool, true, false, List, [], ◌∷◌, ◌++◌, Option, Some, None, ap, sym, refl, ◌∙◌, eqb, inl, inr, append_assoc}
use Rattle.std.proofs.lemmas.List.{append-nil}
use Rattle.std.proofs.lemmas.Bool.{cases_Bool}
use Rattle.std.specs.List.{onto_first}
use Rattle.csv.specs.declared.parser.Config.{Config}
use Rattle.csv.specs.declared.parser.State.{State}
use Rattle.csv.specs.declared.parser.State.TheVariants as state
use Rattle.csv.specs.declared.parser.Terminator.TheVariants as terminator
use Rattle.csv.specs.Machine.{Read, next_record}
use Rattle.csv.specs.Reading.{ReadsNext, strip_bom}
use Rattle.mib_model.specs.Lines.{fields}

-- the settings by which lines are cut
abbrev pub settings : Config
settings = record { delimiter = 9; quote = 34; escape = None; double_quote = true; quoting = false; comment = None; terminator = terminator.Any 9 }

-- a record of these fields, and nothing behind it
abbrev pub whole : List (List ℕ) → Option Read
whole record_fields = Some (record_fields, state.StartRecord, [])

-- the state behind a tab, and behind another octet
abbrev pub inside : Bool → State
inside true = state.StartField
inside false = state.InField

-- the first of the parts, behind octets that were read of it
abbrev pub behind : List ℕ → List (List ℕ) → List (List ℕ)
behind octets [] = octets ∷ []
behind octets (part ∷ parts) = (octets ++ part) ∷ parts

behind-onto_first : (octets : List ℕ) (c : ℕ) (parts : List (List ℕ)) → behind octets (onto_first c parts) ≡ behind (octets ++ c ∷ []) parts
behind-onto_first octets c [] = refl
behind-onto_first octets c (part ∷ parts) = ap (λ first. first ∷ parts) (sym (append_assoc octets (c ∷ []) part))

pub onto_first-behind : (c : ℕ) (parts : List (List ℕ)) → behind (c ∷ []) parts ≡ onto_first c parts
onto_first-behind c [] = refl
onto_first-behind c (part ∷ parts) = refl

pub behind-nothing : (line : List ℕ) → behind [] (fields line) ≡ fields line
behind-nothing [] = refl
behind-nothing (c ∷ rest) = elim (cases_Bool (eqb c 9)) [
  | inl tab ↦ rw tab refl
  | inr other ↦ rw other (behind-onto_first [] c (fields rest) ∙ onto_first-behind c (fields rest))
]

pub behind_tab : (done : List (List ℕ)) (octets rest : List ℕ) → (done ++ octets ∷ []) ++ behind [] (fields rest) ≡ done ++ behind octets ([] ∷ fields rest)
behind_tab done octets rest = append_assoc done (octets ∷ []) (behind [] (fields rest))
    ∙ ap (λ parts. done ++ octets ∷ parts) (behind-nothing rest) ∙ ap (λ first. done ++ first ∷ fields rest) (sym (append-nil octets))

pub behind_octet : (done : List (List ℕ)) (octets : List ℕ) (c : ℕ) (rest : List ℕ) → done ++ behind (octets ++ c ∷ []) (fields rest) ≡ done ++ behind octets (onto_first c (fields rest))
behind_octet done octets c rest = ap (λ parts. done ++ parts) (sym (behind-onto_first octets c (fields rest)))

-- inside a line the fields are those that are done, the one at hand, and those of the rest
next_inside : (start : Bool) (done : List (List ℕ)) (octets line : List ℕ)
    → next_record settings (inside start) done octets line ≡ whole (done ++ behind octets (fields line))
unfolding next_record
next_inside true done octets [] = ap (λ first. whole (done ++ first ∷ [])) (sym (append-nil octets))
next_inside false done octets [] = ap (λ first. whole (done ++ first ∷ [])) (sym (append-nil octets))
next_inside true done octets (c ∷ rest) = elim (cases_Bool (eqb c 9)) [
  | inl tab ↦ rw tab (next_inside true (done ++ octets ∷ []) [] rest ∙ ap whole (behind_tab done octets rest))
  | inr other ↦ rw other (next_inside false done (octets ++ c ∷ []) rest ∙ ap whole (behind_octet done octets c rest))
]
next_inside false done octets (c ∷ rest) = elim (cases_Bool (eqb c 9)) [
  | inl tab ↦ rw tab (next_inside true (done ++ octets ∷ []) [] rest ∙ ap whole (behind_tab done octets rest))
  | inr other ↦ rw other (next_inside false done (octets ++ c ∷ []) rest ∙ ap whole (behind_octet done octets c rest))
]

-- a line behind a field of one dash
next-line : (line : List ℕ) → next_record settings state.StartRecord [] [] (45 ∷ 9 ∷ line) ≡ whole ((45 ∷ []) ∷ fields line)
unfolding next_record
next-line line = next_inside true ((45 ∷ []) ∷ []) [] line ∙ ap (λ parts. whole ((45 ∷ []) ∷ parts)) (behind-nothing line)

pub strip_bom-line : (line : List ℕ) → strip_bom (45 ∷ 9 ∷ line) ≡ 45 ∷ 9 ∷ line
unfolding strip_bom
strip_bom-line [] = refl
strip_bom-line (c ∷ rest) = refl

-- what a read of such a line gives
pub row-read : (config : Config) (before after : State) (source rest : Option (List ℕ)) (found : Bool) (row : List (List ℕ)) (line : List ℕ)
    → config ≡ settings → before ≡ state.StartRecord → source ≡ Some (45 ∷ 9 ∷ line) → ReadsNext config before source rest found row after → row ≡ (45 ∷ []) ∷ fields line
row-read config before after source None found row line same start from reads = absurd (rw (same, start, from) at reads)
row-read config before after source (Some left) found row line same start from reads = (rw (same, start, from, next-line line) at reads).1
