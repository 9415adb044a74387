use Rattle.std.proofs.lemmas.Result.{err_from_is_err_and}
use Rattle.mib_model.specs.Lines.{lines}
use Rattle.mib_model.specs.Reading.{line_at, rows_from}
use Rattle.mib_rows.specs.Left.{left_in, line_of, lines_left}
use Rattle.mib_rows.proofs.TableFacts.{passes_over, goes_on, ends, is_done}
use Rattle.mib_rows.proofs.rows.rows.Goals as goal

pub loop-line-preserved-then-not-are_longer : goal.loop-line-preserved-then-not-are_longer
loop-line-preserved-then-not-are_longer g c =
    let read = line_at g.R.ReadRow.reads g.R.TableRow.kind in
    record {
      few = c.loop-line.invariant.few;
      at_record = c.in_ok-read.ensures.at_record c.if-branch.true;
      so_far = passes_over read c.loop-line.rows.items c.loop-line.number (rows_from read 1 (lines c.args.text.now)) (line_of c.read.new.self) (lines_left (left_in c.read.new.reader))
          c.if-not-are_longer.ensures
          (rw (c.in_ok-read.ensures.line.some c.if-branch.true) at c.loop-line.invariant.so_far);
    }

pub returns-in_err-row : goal.returns-in_err-row
returns-in_err-row g c =
    let read = line_at g.R.ReadRow.reads g.R.TableRow.kind in
    let p = err_from_is_err_and c.from_residual-in_err-row.result c.from_residual-in_err-row.ensures.1 in
    rw (p.1, p.2) (ends read c.loop-line.rows.items c.loop-line.number (rows_from read 1 (lines c.args.text.now)) (line_of c.read.new.self) (lines_left (left_in c.read.new.reader))
    c.in_err-row.field-0.0
    c.if-not-are_longer.ensures
    c.in_err-row.ensures.row
    (rw (c.in_ok-read.ensures.line.some c.if-branch.true) at c.loop-line.invariant.so_far))

pub loop-line-preserved : goal.loop-line-preserved
loop-line-preserved g c =
    let read = line_at g.R.ReadRow.reads g.R.TableRow.kind in
    record {
      few = c.in_ok-row.ensures.few;
      at_record = c.in_ok-read.ensures.at_record c.if-branch.true;
      so_far = rw c.in_ok-add.ensures.rows (goes_on read c.loop-line.rows.items c.loop-line.number (rows_from read 1 (lines c.args.text.now)) (line_of c.read.new.self)
          (lines_left (left_in c.read.new.reader)) c.in_ok-row.row
          c.if-not-are_longer.ensures
          c.in_ok-row.ensures.row
          (rw (c.in_ok-read.ensures.line.some c.if-branch.true) at c.loop-line.invariant.so_far));
    }

pub returns : goal.returns
returns g c =
    let read = line_at g.R.ReadRow.reads g.R.TableRow.kind in
    is_done read c.loop-line.rows.items c.loop-line.number (rows_from read 1 (lines c.args.text.now)) (lines_left (left_in c.loop-line.left))
    (c.in_ok-read.ensures.line.none c.if-branch.false) c.loop-line.invariant.so_far
