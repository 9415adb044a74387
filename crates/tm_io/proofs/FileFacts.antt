-- Files in memory: what is found by name, and what a change of one file leaves.
use Rattle.std.proofs.Common.{◌≡◌, ◌≢◌, ◌<◌, ◌≤◌, ◌+◌, ℕ, zero, suc, true, List, [], ◌∷◌, ◌++◌, Option, Some, ap, sym, refl, ◌∙◌, get_or, set, drop, take, length, arith, if◌then◌else◌, string_bytes, drop-cons}
use Rattle.std.proofs.lemmas.List.{take-append-drop, drop-drop, at_drop_all}
use Rattle.std.specs.Str.{bytes_eq}
use Rattle.tm_io.specs.Files.{file_of, fails_of, fails_at, octets_at}
use Rattle.tm_io.specs.declared.mem_shelf.MemFile.{MemFile}

-- the octets and the stops of the file at a place
pub octets_at-get : (files : List MemFile) (i : ℕ) (file : MemFile) → i < length files → file ≡ get_or files i file → octets_at files i ≡ file.bytes.items
octets_at-get [] i file lt is = absurd (omega arith)
octets_at-get (f ∷ files) zero file lt is = ap (λ (x : MemFile). x.bytes.items) (sym is)
octets_at-get (f ∷ files) (suc i) file lt is = octets_at-get files i file (omega arith) is

pub fails_at-get : (files : List MemFile) (i : ℕ) (file : MemFile) → i < length files → file ≡ get_or files i file → fails_at files i ≡ file.fails.items
fails_at-get [] i file lt is = absurd (omega arith)
fails_at-get (f ∷ files) zero file lt is = ap (λ (x : MemFile). x.fails.items) (sym is)
fails_at-get (f ∷ files) (suc i) file lt is = fails_at-get files i file (omega arith) is

-- another file at a place, with the same octets
pub octets_at-set : (files : List MemFile) (i j : ℕ) (old new : MemFile) → old ≡ get_or files i old → new.bytes.items ≡ old.bytes.items → octets_at (set files i new) j ≡ octets_at files j
octets_at-set [] i j old new is same = refl
octets_at-set (f ∷ files) zero zero old new is same = same ∙ ap (λ (x : MemFile). x.bytes.items) is
octets_at-set (f ∷ files) zero (suc j) old new is same = refl
octets_at-set (f ∷ files) (suc i) zero old new is same = refl
octets_at-set (f ∷ files) (suc i) (suc j) old new is same = octets_at-set files i j old new is same

pub fails_at-set : (files : List MemFile) (i : ℕ) (new : MemFile) → i < length files → fails_at (set files i new) i ≡ new.fails.items
fails_at-set [] i new lt = absurd (omega arith)
fails_at-set (f ∷ files) zero new lt = refl
fails_at-set (f ∷ files) (suc i) new lt = fails_at-set files i new (omega arith)

pub fails_at-set_other : (files : List MemFile) (i j : ℕ) (new : MemFile) → j ≢ i → fails_at (set files i new) j ≡ fails_at files j
fails_at-set_other [] i j new other = refl
fails_at-set_other (f ∷ files) zero zero new other = absurd (other refl)
fails_at-set_other (f ∷ files) zero (suc j) new other = refl
fails_at-set_other (f ∷ files) (suc i) zero new other = refl
fails_at-set_other (f ∷ files) (suc i) (suc j) new other = fails_at-set_other files i j new (λ e. other (ap suc e))

-- another file of the same name and octets
pub file_of-set : (files : List MemFile) (i : ℕ) (old new : MemFile) (name : List ℕ) → old ≡ get_or files i old → string_bytes new.name ≡ string_bytes old.name → new.bytes.items ≡ old.bytes.items
    → file_of (set files i new) name ≡ file_of files name
file_of-set [] i old new name is named same = refl
file_of-set (f ∷ files) zero old new name is named same = rw (named, same, is) refl
file_of-set (f ∷ files) (suc i) old new name is named same = ap (λ (x : Option (List ℕ)). if bytes_eq (string_bytes f.name) name then Some f.bytes.items else x) (file_of-set files i old new name is named same)

-- a file of that name at a place, where no file before has it
pub file_of-found : (files : List MemFile) (i : ℕ) (file : MemFile) (name : List ℕ) → i < length files → file ≡ get_or files i file → bytes_eq (string_bytes file.name) name ≡ true
    → file_of files name ≡ file_of (drop i files) name → file_of files name ≡ Some (octets_at files i)
file_of-found files i file name lt is named before =
    before ∙ rw (drop-cons files i file, ← is, named) (ap Some (sym (octets_at-get files i file lt is)))

pub fails_of-found : (files : List MemFile) (i : ℕ) (file : MemFile) (name : List ℕ) → i < length files → file ≡ get_or files i file → bytes_eq (string_bytes file.name) name ≡ true
    → fails_of files name ≡ fails_of (drop i files) name → fails_of files name ≡ fails_at files i
fails_of-found files i file name lt is named before =
    before ∙ rw (drop-cons files i file, ← is, named) (sym (fails_at-get files i file lt is))

-- some next octets are given, and the others stay
pub given_rest : (octets given : List ℕ) (at count : ℕ) → given ≡ take count (drop at octets) → drop at octets ≡ given ++ drop (at + count) octets
given_rest octets given at count e = sym (rw (e, ← drop-drop count at octets) (take-append-drop count (drop at octets)))

-- past the end nothing is left
pub nothing_left : (octets : List ℕ) (at count : ℕ) → length octets ≤ at → drop (at + count) octets ≡ []
nothing_left octets at count past = at_drop_all (λ x. x) octets (at + count) (omega arith)
