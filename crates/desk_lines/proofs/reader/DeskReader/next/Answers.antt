use Rattle.std.proofs.Common.{◌∙◌, refl, arith, inl, inr}
use Rattle.desk_lines.proofs.ReaderFacts.{gives-feed, gives-last, gives-end, gives-room, gives-limit, limited-line, limited-room}
use Rattle.desk_lines.proofs.reader.DeskReader.next.Goals as goal

pub returns-then-self-eq-MOST_LINES-clause-gives : goal.returns-then-self-eq-MOST_LINES-clause-gives
returns-then-self-eq-MOST_LINES-clause-gives g c = gives-limit c.args.self.now.lines c.args.self.now.octets _ c.args.into.now c.if-self-eq-MOST_LINES.true

pub returns-in-Feed-clause-gives : goal.returns-in-Feed-clause-gives
returns-in-Feed-clause-gives g c =
    gives-feed c.args.self.now.lines c.args.self.now.octets _ c.take_piece-piece.result c.line_of.result _ _ c.take_piece-piece.new.into (c.take_piece-piece.auto.into ∙ c.requires)
    (omega (arith, c.args.self.now.few, c.if-self-eq-MOST_LINES.false)) c.args.self.now.short c.take_piece-piece.ensures.piece c.in-Feed.is refl c.line_of.ensures

pub returns-in-Source-clause-gives : goal.returns-in-Source-clause-gives
returns-in-Source-clause-gives g c =
    gives-end c.args.self.now.lines c.args.self.now.octets _ c.take_piece-piece.result _ _ c.take_piece-piece.new.into
    (omega (arith, c.args.self.now.few, c.if-self-eq-MOST_LINES.false)) c.args.self.now.short c.take_piece-piece.ensures.piece c.in-Source.is c.if-piece-eq0.true refl

pub returns-in-Source-2-clause-gives : goal.returns-in-Source-2-clause-gives
returns-in-Source-2-clause-gives g c =
    gives-last c.args.self.now.lines c.args.self.now.octets _ c.take_piece-piece.result c.line_of-in-Source-2.result _ _ c.take_piece-piece.new.into (c.take_piece-piece.auto.into ∙ c.requires)
    (omega (arith, c.args.self.now.few, c.if-self-eq-MOST_LINES.false)) c.args.self.now.short c.take_piece-piece.ensures.piece c.in-Source-2.is (omega (arith, c.if-piece-eq0.false)) refl c.line_of-in-Source-2.ensures

pub returns-in-Room-clause-gives : goal.returns-in-Room-clause-gives
returns-in-Room-clause-gives g c =
    gives-room c.args.self.now.lines c.args.self.now.octets _ c.take_piece-piece.result _ _ c.take_piece-piece.new.into c.args.self.now.short c.take_piece-piece.ensures.piece c.in-Room.is refl

pub returns-then-self-eq-MOST_LINES-clause-limited : goal.returns-then-self-eq-MOST_LINES-clause-limited
returns-then-self-eq-MOST_LINES-clause-limited g c = inl c.if-self-eq-MOST_LINES.true

pub returns-in-Feed-clause-limited : goal.returns-in-Feed-clause-limited
returns-in-Feed-clause-limited g c = limited-line c.take_piece-piece.result.octets c.line_of.result _ c.line_of.ensures

pub returns-in-Source-2-clause-limited : goal.returns-in-Source-2-clause-limited
returns-in-Source-2-clause-limited g c = limited-line c.take_piece-piece.result.octets c.line_of-in-Source-2.result _ c.line_of-in-Source-2.ensures

pub returns-in-Room-clause-limited : goal.returns-in-Room-clause-limited
returns-in-Room-clause-limited g c =
    inr (limited-room c.args.self.now.octets _ c.take_piece-piece.result _ _ c.take_piece-piece.new.into c.args.self.now.short c.take_piece-piece.ensures.piece c.in-Room.is refl)
