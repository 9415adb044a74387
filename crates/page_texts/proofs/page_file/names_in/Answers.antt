use Rattle.std.proofs.Common.{◌∙◌, ap, Bor, List, ℕ, map}
use Rattle.page_texts.proofs.NameFacts.{none-bad, refused-by, too-long}
use Rattle.page_texts.proofs.page_file.names_in.Goals as goal

pub returns-then-text-gt-PAGE_FILE_MOST-clause-refused : goal.returns-then-text-gt-PAGE_FILE_MOST-clause-refused
returns-then-text-gt-PAGE_FILE_MOST-clause-refused c = too-long c.args.text.now c.if-text-gt-PAGE_FILE_MOST.true

pub returns-clause-sound : goal.returns-clause-sound
returns-clause-sound c =
    none-bad c.names_of.result c.args.text.now (map (λ (piece : Bor (List ℕ)). piece.now) c.deref.result.now) c.if-text-gt-PAGE_FILE_MOST.false
    (ap (λ (l : List (Bor (List ℕ))). map (λ (piece : Bor (List ℕ)). piece.now) l) c.deref.ensures.value ∙ c.in_ok-pieces.ensures) c.names_of.ensures.sound

pub returns-clause-refused : goal.returns-clause-refused
returns-clause-refused c =
    refused-by c.names_of.result c.args.text.now (map (λ (piece : Bor (List ℕ)). piece.now) c.deref.result.now) c.if-text-gt-PAGE_FILE_MOST.false
    (ap (λ (l : List (Bor (List ℕ))). map (λ (piece : Bor (List ℕ)). piece.now) l) c.deref.ensures.value ∙ c.in_ok-pieces.ensures) c.names_of.ensures.refused
