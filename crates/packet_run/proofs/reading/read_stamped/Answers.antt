use Rattle.packet_run.proofs.Common.{◌∙◌, first_of, holdings_of, own_moves, seen_by, sym}
use Rattle.edition_register.proofs.SeatFacts.{own-listed}
use Rattle.packet_run.proofs.OpeningFacts.{same-tables}
use Rattle.packet_run.proofs.ReadingFacts.{number-next}
use Rattle.packet_run.proofs.reading.read_stamped.Goals as goal

pub returns-clause-read : goal.returns-clause-read
returns-clause-read g c =
    let stamp = c.stamp-number in let s = stamp.ensures.stamps in let m = s.moves in let read = c.in-Ok.ensures.read in
    let first = first_of c.args.register.now in let own = own_moves c.args.seat.now in let new = stamp.new.seat in let is = stamp.ensures.seat in record {
      shown = s.shown;
      own = m.own;
      number = number-next first m.before own (own_moves new) (seen_by new) stamp.result.number stamp.result.edition s.shown m.legal m.permitted m.answers
          m.seen m.own (is.listed ∙ sym (own-listed 0 (holdings_of new) is.moves is.holds));
      is_packet = read.is_packet;
      taken = read.taken;
      same = same-tables first m.before own (own_moves new) stamp.result.number stamp.result.edition s.shown m.legal m.own s.throughout;
      begins = s.begins;
    }
