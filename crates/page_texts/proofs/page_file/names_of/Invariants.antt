use Rattle.std.proofs.Common.{◌≡◌, ◌≤◌, ◌++◌, [], Bor, List, ℕ, drop, length, map}
use Rattle.mib_model.specs.Lines.{lines_of}
use Rattle.page_texts.specs.PageFiles.{first_bad}
use Rattle.page_texts.proofs.page_file.names_of.Given as goal

abbrev pub invariant-loop-piece : goal.invariant-loop-piece
invariant-loop-piece l = record {
  few : length l.names.items ≤ 64;
  names : lines_of (map (λ (piece : Bor (List ℕ)). piece.now) l.pieces) ≡ l.names.items ++ lines_of (map (λ (piece : Bor (List ℕ)). piece.now) (drop l.piece-index l.pieces));
  rest :
      first_bad [] (lines_of (map (λ (piece : Bor (List ℕ)). piece.now) l.pieces))
      ≡ first_bad l.names.items (lines_of (map (λ (piece : Bor (List ℕ)). piece.now) (drop l.piece-index l.pieces)));
}
