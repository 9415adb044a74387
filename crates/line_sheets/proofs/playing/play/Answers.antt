use Rattle.std.proofs.Common.{◌∙◌, ◌<◌, ◌++◌, List, ℕ, ap, arith, length, refl, subst, sym}
use Rattle.fold_state.specs.Boards.{Slots, memory_of}
use Rattle.line_sheets.specs.Pieces.{played_one}
use Rattle.line_sheets.specs.Playing.{GoesOn}
use Rattle.line_sheets.specs.Readings.{HasPlayed, LeftView, held_size}
use Rattle.line_sheets.specs.Lying.{act_as}
use Rattle.line_sheets.specs.Sheets.{AreSeated, SheetView, piece_of}
use Rattle.line_sheets.proofs.PlayedFacts.{end-goes, first-seated, passed-size, run-goes}
use Rattle.line_sheets.proofs.playing.play.Goals as goal

pub loop-seat-preserved : goal.loop-seat-preserved
loop-seat-preserved c =
    let inv = c.loop-seat.invariant in
    let first = c.args.board.now in
    let board = c.read_ahead.new.board in
    let same = c.read_ahead.ensures in
    let names = ap (λ (b : Slots). b.names) same ∙ inv.names in
    let passed = c.in-Some.ensures.passed in
    let size = passed-size c.in-Some.seat c.in-Some.work c.loop-seat.reading c.pass.new.self passed in
    record {
      names = c.play_one.ensures.names ∙ names;
      played = λ db plans made seated.
          let goes = inv.played db plans made seated in
          let below = first-seated first.names c.in-Some.seat c.in-Some.work c.loop-seat.reading c.pass.new.self passed goes.seated in
          let has = c.play_one.ensures.played db plans (names ∙ made) (subst (λ (n : List (List ℕ)). c.in-Some.seat < length n) (sym names) below) in
          let text = c.loop-seat.out ++ c.pass.new.self.pending in
          let longer = c.play_one.new.out ++ c.play_one.new.reading.pending in
          let after = memory_of c.play_one.new.board in
          let named = subst (λ (n : List (List ℕ)). HasPlayed (played_one db (piece_of n (act_as c.in-Some.seat c.in-Some.work)) (memory_of board)) after text longer) names has in
          let kept = subst (λ (b : Slots). HasPlayed (played_one db (piece_of first.names (act_as c.in-Some.seat c.in-Some.work)) (memory_of b)) after text longer) same named in
          run-goes db first.names c.read-reading.result c.loop-seat.reading c.pass.new.self c.play_one.new.reading c.in-Some.seat c.in-Some.work c.args.out.now c.loop-seat.out c.play_one.new.out (memory_of first)
          (memory_of c.loop-seat.board) after goes passed c.play_one.ensures.left kept;
      room =
          let held = ap (λ (s : SheetView). held_size s) c.play_one.ensures.left in
          let runs = ap (λ (s : SheetView). length s.runs) c.play_one.ensures.left in
          omega (arith, inv.room, size.0, size.1, held, runs, c.play_one.ensures.room);
    }

pub returns-clause-played : goal.returns-clause-played
returns-clause-played c = λ db plans made seated.
    let first = c.args.board.now in
    let begun = c.read-reading.result in
    let began = c.read-reading.ensures.reading in
    let there = subst (λ (r : LeftView). AreSeated first.names r.left.runs) (sym began) seated in
    let goes = c.loop-seat.invariant.played db plans made there in
    let same = c.in_default.ensures.same refl in
    let after = memory_of c.loop-seat.board in
    let left = c.pass.new.self in
    let here = subst (λ (r : LeftView). GoesOn db first.names begun r c.args.out.now c.loop-seat.out (memory_of first) after) (sym same) goes in
    let none = ap (λ (r : LeftView). r.left.runs) same ∙ c.in_default.ensures.end refl in
    end-goes db first.names c.args.sheet.now begun left c.args.out.now c.loop-seat.out c.add_octets.new.out c.rest.result.now (memory_of first) after began here none (c.rest.ensures none) c.add_octets.ensures
