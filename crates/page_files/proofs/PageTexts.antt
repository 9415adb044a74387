-- As much of a file of names as is read.
use Rattle.std.proofs.Common.{◌≡◌, ◌≤◌, ◌<◌, ℕ, List, [], ◌++◌, length, take, Option, Some, None, Result, Ok, Err, IfOk, IfErr, IfSome, inl, inr, refl, sym, ap, ◌∙◌, append-nil, subst, arith, length-take}
use Rattle.std.proofs.lemmas.Bool.{cases_Bool, ltb-false, ltb-true}
use Rattle.std.proofs.lemmas.List.{take_all}
use Rattle.std.specs.Prelude.{nat_lt, Vec}
use Rattle.mib_model.specs.Lines.{lines}
use Rattle.page_texts.proofs.NameFacts.{too-long}
use Rattle.page_texts.specs.PageFiles.{bad_line}
use Rattle.page_texts.specs.declared.code.BoardCode.{BoardCode}
use Rattle.page_texts.specs.declared.code.BoardCode.TheVariants as code
use Rattle.page_texts.specs.declared.page_file.TheConstants.{PAGE_FILE_MOST}
use Rattle.page_files.specs.Files.{HasPageCause, IsPageOf, IsReadStop, RefusesFile, RefusesText, page_part}

-- with a variable in place of the number, so that nothing counts up to it
part-by : (n : ℕ) (octets : List ℕ) → n ≡ 65537 → take n octets ≡ page_part octets
unfolding page_part
part-by n octets is = ap (λ k. take k octets) is

pub part-all : (text : List ℕ) → length text ≤ 65537 → page_part text ≡ text
part-all text few = go 65537 text refl few
  where
    go : (n : ℕ) (xs : List ℕ) → n ≡ 65537 → length xs ≤ n → page_part xs ≡ xs
    go n xs is fits = sym (part-by n xs is) ∙ take_all n xs fits

-- so much of what a source has left
pub as-part : (n : ℕ) (left : Option (List ℕ)) (text : List ℕ) → n ≡ 65537 → IfSome left (λ octets. text ≡ take n octets) → IfSome left (λ octets. text ≡ page_part octets)
as-part n None text is taken = tt
as-part n (Some octets) text is taken = taken ∙ part-by n octets is

-- where a file is too long, so is the part of it that is read
part-long : (octets : List ℕ) → PAGE_FILE_MOST < length octets → PAGE_FILE_MOST < length (page_part octets)
part-long octets long = go 65537 refl
  where
    go : (n : ℕ) → n ≡ 65537 → PAGE_FILE_MOST < length (page_part octets)
    go n is = let many = ap length (sym (part-by n octets is)) ∙ length-take n octets in omega (arith, many, is, long)

-- a file is refused as the part of it that is read is
same-bad : (octets : List ℕ) → bad_line (page_part octets) ≡ bad_line octets
same-bad octets = elim (cases_Bool (nat_lt PAGE_FILE_MOST (length octets))) [
  | inl long ↦
      let more : PAGE_FILE_MOST < length octets = ltb-true PAGE_FILE_MOST (length octets) long in
      too-long (page_part octets) (part-long octets more) ∙ sym (too-long octets more)
  | inr short ↦ ap bad_line (part-all octets (let few = ltb-false PAGE_FILE_MOST (length octets) short in omega (arith, few)))
]

-- a file whose part has no bad line was read whole
whole-good : (octets : List ℕ) → bad_line (page_part octets) ≡ None → page_part octets ≡ octets
whole-good octets good = elim (cases_Bool (nat_lt PAGE_FILE_MOST (length octets))) [
  | inl long ↦ absurd (let bad : Some 0 ≡ None = sym (too-long octets (ltb-true PAGE_FILE_MOST (length octets) long)) ∙ (sym (same-bad octets) ∙ good) in cc bad)
  | inr short ↦ part-all octets (let few = ltb-false PAGE_FILE_MOST (length octets) short in omega (arith, few))
]

-- the names of what was read of a file are those of the file
page-of : (octets text : List ℕ) (names : List (List ℕ)) → text ≡ page_part octets → IsPageOf names text → IsPageOf names octets
page-of octets text names is (good, same) =
    let none : bad_line (page_part octets) ≡ None = ap bad_line (sym is) ∙ good in
    (sym (same-bad octets) ∙ none, same ∙ ap lines (is ∙ whole-good octets none))

pub named-by : {E Z : Type 0} (r : Result (Vec (List ℕ) Z) E) (left : Option (List ℕ)) (text : List ℕ) → IfSome left (λ octets. text ≡ page_part octets)
    → IfOk r (λ names. IsPageOf names.items text) → IfOk r (λ names. IfSome left (IsPageOf names.items))
named-by (Ok names) None text is said = tt
named-by (Ok names) (Some octets) text is said = page-of octets text names.items is said
named-by (Err e) left text is said = tt

-- what refuses the part that was read refuses the file
refuses-file : (c : BoardCode) (octets text : List ℕ) → text ≡ page_part octets → RefusesText c text → RefusesFile c (Some octets)
refuses-file (code.BadPage line) octets text is said = sym (same-bad octets) ∙ (ap bad_line (sym is) ∙ said)
refuses-file code.Want octets text is said = tt
refuses-file code.PageFault octets text is said = absurd said
refuses-file code.Ok octets text is said = absurd said
refuses-file (code.Usage m) octets text is said = absurd said
refuses-file (code.BadMib f) octets text is said = absurd said
refuses-file (code.NoFile i) octets text is said = absurd said
refuses-file (code.Cut n) octets text is said = absurd said
refuses-file code.TablesFault octets text is said = absurd said
refuses-file code.FeedFault octets text is said = absurd said
refuses-file code.DeskFault octets text is said = absurd said
refuses-file code.OutFault octets text is said = absurd said
refuses-file code.ReplyFault octets text is said = absurd said
refuses-file code.Limit octets text is said = absurd said
refuses-file code.ScreenFault octets text is said = absurd said

pub refused-by : {N : Type 0} (r : Result N BoardCode) (left : Option (List ℕ)) (text : List ℕ) → IfSome left (λ octets. text ≡ page_part octets)
    → IfErr r (λ c. RefusesText c text) → IfErr r (λ c. IfSome left (λ octets. RefusesFile c (Some octets)))
refused-by (Ok names) left text is said = tt
refused-by (Err c) None text is said = tt
refused-by (Err c) (Some octets) text is said = refuses-file c octets text is said

-- a refusal of a text comes where the shelf didn't fail
stands : (c : BoardCode) (text : List ℕ) (before now : ℕ) → now ≡ before → RefusesText c text → HasPageCause c before now
stands (code.BadPage line) text before now same said = same
stands code.Want text before now same said = same
stands code.PageFault text before now same said = absurd said
stands code.Ok text before now same said = absurd said
stands (code.Usage m) text before now same said = absurd said
stands (code.BadMib f) text before now same said = absurd said
stands (code.NoFile i) text before now same said = absurd said
stands (code.Cut n) text before now same said = absurd said
stands code.TablesFault text before now same said = absurd said
stands code.FeedFault text before now same said = absurd said
stands code.DeskFault text before now same said = absurd said
stands code.OutFault text before now same said = absurd said
stands code.ReplyFault text before now same said = absurd said
stands code.Limit text before now same said = absurd said
stands code.ScreenFault text before now same said = absurd said

pub caused-by : {N : Type 0} (r : Result N BoardCode) (text : List ℕ) (before now : ℕ) → now ≡ before
    → IfErr r (λ c. RefusesText c text) → IfErr r (λ c. HasPageCause c before now)
caused-by (Ok names) text before now same said = tt
caused-by (Err c) text before now same said = stands c text before now same said

-- what hinders a reading refuses no file
hindered : (c : BoardCode) (found : Option (List ℕ)) → IsReadStop c → RefusesFile c found
hindered code.PageFault found stop = tt
hindered code.Want found stop = tt
hindered (code.BadPage line) found stop = absurd stop
hindered code.Ok found stop = absurd stop
hindered (code.Usage m) found stop = absurd stop
hindered (code.BadMib f) found stop = absurd stop
hindered (code.NoFile i) found stop = absurd stop
hindered (code.Cut n) found stop = absurd stop
hindered code.TablesFault found stop = absurd stop
hindered code.FeedFault found stop = absurd stop
hindered code.DeskFault found stop = absurd stop
hindered code.OutFault found stop = absurd stop
hindered code.ReplyFault found stop = absurd stop
hindered code.Limit found stop = absurd stop
hindered code.ScreenFault found stop = absurd stop

pub stopped-by : {N : Type 0} (r : Result N BoardCode) (left : Option (List ℕ)) → IfErr r IsReadStop → IfErr r (λ c. IfSome left (λ octets. RefusesFile c (Some octets)))
stopped-by (Ok names) left stop = tt
stopped-by (Err c) None stop = tt
stopped-by (Err c) (Some octets) stop = hindered c (Some octets) stop
