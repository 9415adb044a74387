use Rattle.std.proofs.Common.{List, ℕ, Option, Result, Ok, Err, OnErr, ◌≡◌, sym, subst}
use Rattle.std.specs.Io.KnownBytes.{Appends}
use Rattle.tm_io.specs.Octets.{AppendsPrefix}
use Rattle.page_texts.proofs.TextFacts.{whole}
use Rattle.page_texts.proofs.page_text.hand_on.Goals as goal

of-flush : {T E : Type 0} (r : Result T E) (text : List ℕ) (old mid new : Option (List ℕ)) → new ≡ mid → Appends old mid text → OnErr r (AppendsPrefix old new text)
of-flush (Ok done) text old mid new same wrote = tt
of-flush (Err failed) text old mid new same wrote = whole text old new (subst (λ (x : Option (List ℕ)). Appends old x text) (sym same) wrote)

pub returns-clause-part : goal.returns-clause-part
returns-clause-part g c =
    of-flush c.flush.result c.args.line.now (g.S.Sink.written c.args.screen.now) (g.S.Sink.written c.write_all.new.out) (g.S.Sink.written c.flush.new.self)
    c.flush.ensures.bytes
    (subst (λ (text : List ℕ). Appends (g.S.Sink.written c.args.screen.now) (g.S.Sink.written c.write_all.new.out) text) c.bytes.ensures.bytes c.in_ok-write_all.ensures.all)
