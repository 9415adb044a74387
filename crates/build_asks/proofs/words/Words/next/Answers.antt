use Rattle.std.proofs.Common.{◌≡◌, ◌∙◌, sym}
use Rattle.desk_lines.proofs.CutFacts.{words-more, words-one}
use Rattle.run_model.specs.DeskLines.{words_of}
use Rattle.build_asks.proofs.words.Words.next.Goals as goal

pub returns-in-Some : goal.returns-in-Some
returns-in-Some c =
    let view : words_of c.in_ok-text.text.now ≡ c.args.self.now = cc (c.self.view_is, c.in_ok-text.was) in
    sym view ∙ words-more c.in_ok-text.text.now c.in-Some.word.now c.in-Some.rest.now c.in-Some.ensures

pub returns-in-None : goal.returns-in-None
returns-in-None c =
    let view : words_of c.in_ok-text.text.now ≡ c.args.self.now = cc (c.self.view_is, c.in_ok-text.was) in
    sym view ∙ words-one c.in_ok-text.text.now c.in-None.ensures
