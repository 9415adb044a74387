-- A script that ends with its first `go` decides a live run.
use Rattle.std.proofs.Common.{◌≡◌, ◌==◌, ◌++◌, ℕ, Bool, false, List, [], ◌∷◌, map, length, drop, Option, Some, IfSome, refl, sym, ap, ◌∙◌, subst, arith, append-nil}
use Rattle.std.specs.List.{flat_map, filter_map, list_any}
use Rattle.std.proofs.lemmas.List.{length-map, drop_all, nil_from_length}
use Rattle.histories.specs.History.{IsLegal, moves_of}
use Rattle.decode_session.specs.Run.{most_packets}
use Rattle.histories.proofs.HistoryFacts.{IsLegal-front}
use Rattle.live_desk.specs.declared.desk_end.DeskEnd.{DeskEnd}
use Rattle.live_desk.specs.DeskEnds.{is_desk_fault, is_reply_fault}
use Rattle.live_session.specs.Live.{Lives, Object, ending_of}
use Rattle.run_laws.specs.Desks.{AreAlone, IsDeskFirst}
use Rattle.run_laws.proofs.AloneFacts.{decided}
use Rattle.run_laws.proofs.DeskFirst.{goes-first, first-decides}
use Rattle.run_model.specs.declared.code.Code.{Code}
use Rattle.mib_model.specs.declared.database.Database.{Database}
use Rattle.run_model.specs.declared.register.Answer.{Answer}
use Rattle.run_model.specs.declared.register.Entry.{Entry}
use Rattle.run_model.specs.Desk.{DeskReply, DeskState, desk_start}
use Rattle.run_model.specs.DeskRuns.{Calls, IsDesk, LineRun, is_want, moves_by, prelude}
use Rattle.run_model.specs.Endings.{Ending, code_of_ending}
use Rattle.run_model.specs.Output.{output}
use Rattle.mib_model.specs.Packets.{IsCut}
use Rattle.run_model.specs.Register.{opening, answer_to, after}
use Rattle.run_model.specs.RegisterHistories.{RegisterHistory}
use Rattle.run_model.specs.Script as Script
use Rattle.mib_model.specs.Texts.{rest_unless}
use Rattle.packet_feed.proofs.Unique.{cut-unique}
use Rattle.mibtm_tool.proofs.LiveCompleteness.{none-left}
use Rattle.mibtm_tool.specs.Live.{ComeToTheSame, EndsWithFirstGo, IsUnhindered, ScriptDecides, replies_of}

-- no lines, no calls and no replies
no-runs : (old new : DeskState) (calls : Calls) (replies : List DeskReply) → IsDesk false old [] calls replies new → (calls ≡ []) × (replies ≡ [])
no-runs old new calls replies d =
    let none : d.runs ≡ [] = nil_from_length d.runs (sym (length-map d.runs (λ (run : LineRun). run.line)) ∙ ap length d.of_lines) in
    (sym d.in_calls ∙ ap (λ rs. flat_map (λ (run : LineRun). run.calls) rs) none, sym d.in_replies ∙ ap (λ rs. filter_map (λ (run : LineRun). run.reply) rs) none)

module _ (script : List ℕ) (ends : EndsWithFirstGo script) {c : Code} {db : Database} {history : RegisterHistory} {feed desk out replies : Object}
    (run : Lives c db history feed desk out replies) (calm : IsUnhindered script run) where
  of-script : Script.script script ≡ run.desked.handled ++ run.desked.others
  of-script = subst (λ (l : Option (List ℕ)). IfSome l (λ octets. Script.script octets ≡ run.desked.handled ++ run.desked.others)) calm.reads run.desked.of_script

  all-handled : Script.script script ≡ run.desked.handled
  all-handled = of-script ∙ ap (λ l. run.desked.handled ++ l) (none-left run.desk_end run.desked.others calm.asks calm.answers run.desked.all) ∙ append-nil run.desked.handled

  is-prelude : prelude false run.desked.handled ≡ run.desked.handled
  is-prelude = subst (λ l. prelude false l ≡ l) all-handled ends

  later : IsDesk false run.desked.middle [] run.desked.late run.desked.late_replies run.desked.last
  later =
      let none : drop (length (prelude false run.desked.handled)) run.desked.handled ≡ [] = ap (λ l. drop (length l) run.desked.handled) is-prelude ∙ drop_all (length run.desked.handled) run.desked.handled (omega arith) in
      subst (λ l. IsDesk false run.desked.middle l run.desked.late run.desked.late_replies run.desked.last) none run.desked.later

  pub at-first : IsDesk false (desk_start db) (Script.script script) run.desked.early run.desked.early_replies run.desked.middle
  at-first = subst (λ l. IsDesk false (desk_start db) l run.desked.early run.desked.early_replies run.desked.middle) (is-prelude ∙ sym all-handled) run.desked.at_first

  pub replies-early : replies_of run ≡ run.desked.early_replies
  replies-early = ap (λ l. run.desked.early_replies ++ l) (no-runs run.desked.middle run.desked.last run.desked.late run.desked.late_replies later).1 ∙ append-nil run.desked.early_replies

  pub no-want : list_any is_want run.desked.early_replies ≡ false
  no-want = subst (λ l. list_any is_want l ≡ false) replies-early calm.no_want

  pub desk-first : IsDeskFirst history run.desked.early
  desk-first = record {
    seats = run.is_history.seats;
    permitted = run.is_history.permitted;
    all = run.desked.entered ∙ ap (λ l. run.desked.early ++ l) (no-runs run.desked.middle run.desked.last run.desked.late run.desked.late_replies later).0 ∙ append-nil run.desked.early;
    front = run.desked.front;
    starts = run.desked.starts;
    no_stamp = run.desked.no_stamp;
    before = run.desked.before;
  }

  pub alone : AreAlone (opening db) run.desked.early
  alone = IsLegal-front after answer_to (opening db) (moves_by run.desked.early) (moves_of 0 history)
      (subst (λ h. IsLegal answer_to after (opening db) h) (goes-first history run.desked.early desk-first) run.is_history.legal)

-- what happened in a run that nothing but its output and its feed hindered
abbrev ending_calm : Bool → Bool → List ℕ → List (List ℕ) → Ending
ending_calm out_failed feed_failed rest packets = record {
  out_failed = out_failed;
  replies_failed = false;
  feed_failed = feed_failed;
  desk_failed = false;
  rest = length rest;
  is_limit = length packets == most_packets;
}

code-calm : (out_failed feed_failed : Bool) (e : DeskEnd) (rest : List ℕ) (packets : List (List ℕ)) → is_desk_fault e ≡ false → is_reply_fault e ≡ false
    → code_of_ending (ending_of out_failed feed_failed e rest packets) ≡ code_of_ending (ending_calm out_failed feed_failed rest packets)
code-calm out_failed feed_failed e rest packets asks answers = rw (asks, answers) refl

pub script-decides : ScriptDecides
script-decides script c d db history other feed desk out replies source lines sink told one two ends calm quiet read failed =
    let first = desk-first script ends one calm in
    let second = desk-first script ends two quiet in
    let (calls, replied, state) = decided false (opening db) (desk_start db) (Script.script script) one.desked.early two.desked.early one.desked.early_replies two.desked.early_replies
    one.desked.middle two.desked.middle (no-want script ends one calm) (no-want script ends two quiet) (alone script ends one calm) (alone script ends two quiet)
    (at-first script ends one calm) (at-first script ends two quiet) in
    let (packets, rests) = cut-unique one.prints.read one.prints.packets two.prints.packets one.prints.rest two.prints.rest
    one.prints.cut (subst (λ r. IsCut r two.prints.packets two.prints.rest) (sym read) two.prints.cut) in
    let many : length (moves_of 0 history) ≡ length (moves_of 0 other) = one.prints.moves ∙ ap length packets ∙ sym two.prints.moves in
    let histories : history ≡ other = first-decides db history other one.desked.early one.is_history.legal two.is_history.legal first
    (subst (λ l. IsDeskFirst other l) (sym calls) second) many in record {
      histories = histories;
      texts = (λ i. output db (packets i) (histories i) (rest_unless (failed i) (rests i)));
      replied = replies-early script ends one calm ∙ replied ∙ sym (replies-early script ends two quiet);
      codes = λ alike. one.is_code ∙ code-calm one.prints.out_failed one.prints.feed_failed one.desk_end one.prints.rest one.prints.packets calm.asks calm.answers
          ∙ (λ i. code_of_ending (ending_calm (alike i) (failed i) (rests i) (packets i)))
          ∙ sym (code-calm two.prints.out_failed two.prints.feed_failed two.desk_end two.prints.rest two.prints.packets quiet.asks quiet.answers) ∙ sym two.is_code;
    }
