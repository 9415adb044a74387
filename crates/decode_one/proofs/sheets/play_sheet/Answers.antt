use Rattle.std.proofs.Common.{◌∙◌, ◌++◌, ◌∷◌, [], List, ℕ, ap, subst, sym}
use Rattle.memory_laws.specs.Alike.{AreAlike}
use Rattle.mib_model.specs.Kept.{Memory}
use Rattle.fold_state.specs.Boards.{memory_of}
use Rattle.param_state.specs.ParamPlans.{plan_names, IsParamsOf}
use Rattle.line_sheets.specs.Pieces.{Played}
use Rattle.line_sheets.specs.Drawings.{packets_played}
use Rattle.decode_one.proofs.ParamFacts.{params-of}
use Rattle.decode_one.proofs.RunFacts.{run-is, step-is}
use Rattle.decode_one.proofs.sheets.play_sheet.Goals as goal

pub returns-clause-run : goal.returns-clause-run
returns-clause-run g c = λ asked m run ss alike come is.
    let db = g.P.Structures.tables c.args.plans.now in
    let all = c.params.ensures.slices in
    let kept = memory_of c.args.board.now in
    let after = memory_of c.play.new.board in
    let old = c.args.out.now in
    let plans = subst (IsParamsOf db) (sym all) (params-of db c.params.ensures.sound) in
    let has = c.play.ensures.played db plans (c.requires.board ∙ ap plan_names (sym all)) is.seated in
    let ran = run-is run ss come.packets in
    let same = ap (packets_played ss) come.memory in
    let tells = is.played m kept alike in
    record {
      text = has.text ∙ ap (λ (t : List ℕ). old ++ t) (sym (ran.text ∙ (ap (λ (p : Played). p.1) same ∙ tells.0)));
      memory = subst (λ (n : Memory). AreAlike asked n after) (sym (ran.memory ∙ ap (λ (p : Played). p.0) same)) (subst (AreAlike asked (packets_played ss m).0) (sym has.memory) tells.1);
    }

pub returns-clause-step : goal.returns-clause-step
returns-clause-step g c = λ asked m course s alike comes is.
    let db = g.P.Structures.tables c.args.plans.now in
    let all = c.params.ensures.slices in
    let kept = memory_of c.args.board.now in
    let after = memory_of c.play.new.board in
    let old = c.args.out.now in
    let plans = subst (IsParamsOf db) (sym all) (params-of db c.params.ensures.sound) in
    let has = c.play.ensures.played db plans (c.requires.board ∙ ap plan_names (sym all)) is.seated in
    let stepped = step-is course s m comes.memory in
    let tells = is.played m kept alike in
    record {
      text = has.text ∙ ap (λ (t : List ℕ). old ++ t) (sym (stepped.1 ∙ tells.0));
      memory = subst (λ (n : Memory). AreAlike asked n after) (sym stepped.0) (subst (AreAlike asked (packets_played (s ∷ []) m).0) (sym has.memory) tells.1);
    }
