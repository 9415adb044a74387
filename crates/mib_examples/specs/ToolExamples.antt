-- The words of the command line, scripts, and the texts of codes and replies. [This profile.]
use Rattle.std.specs.Prelude.{◌≡◌, ℕ, List, [], ◌∷◌, codes, Ok, Err, Some, None, false}
use Rattle.run_model.specs.declared.code.Code.TheVariants as code
use Rattle.run_model.specs.declared.code.Misuse.TheVariants as misuse
use Rattle.mib_model.specs.declared.fault.MibCode.TheVariants as fault
use Rattle.mib_model.specs.declared.kind.Kind.TheVariants as kind
use Rattle.run_model.specs.declared.reply.Reply.TheVariants as reply
use Rattle.run_model.specs.Desk.{Plain, Stale}
use Rattle.run_model.specs.Faults.{code_line}
use Rattle.run_model.specs.Replies.{reply_words, desk_line}
use Rattle.run_model.specs.Script.{script, reaches_limit}
use Rattle.mib_model.specs.Summaries.{count_line, summary}
use Rattle.mib_model.specs.Texts.{cut_text, rest_text}
use Rattle.run_model.specs.Words.{Check, Decode, Live, Drill, command_of}
use Rattle.mib_examples.specs.Given.{database, shared}

-- a folder
abbrev pub d : List ℕ
d = codes "d"

-- a feed
abbrev pub f : List ℕ
f = codes "f"

-- words of the command line
pub record WordExamples : Type 0 where
  pub none : command_of [] ≡ Err misuse.Command
  pub unknown : command_of (codes "frob" ∷ []) ≡ Err misuse.Command
  pub help : command_of (codes "--help" ∷ []) ≡ Err misuse.Command
  pub too_few : command_of (codes "decode" ∷ []) ≡ Err misuse.Words
  pub plain : command_of (codes "decode" ∷ d ∷ f ∷ []) ≡ Ok (Decode d f 1)
  pub leading_zero : command_of (codes "decode" ∷ d ∷ f ∷ codes "--workers=04" ∷ []) ≡ Ok (Decode d f 4)
  pub option_first : command_of (codes "decode" ∷ codes "--workers" ∷ codes "16" ∷ d ∷ f ∷ []) ≡ Ok (Decode d f 16)
  pub too_many : command_of (codes "decode" ∷ d ∷ f ∷ codes "--workers" ∷ codes "17" ∷ []) ≡ Err misuse.Words
  pub twice : command_of (codes "decode" ∷ d ∷ f ∷ codes "--workers" ∷ codes "2" ∷ codes "--workers" ∷ codes "2" ∷ []) ≡ Err misuse.Words
  pub option_ends : command_of (codes "decode" ∷ codes "--" ∷ codes "--workers" ∷ codes "--" ∷ []) ≡ Ok (Decode (codes "--workers") (codes "--") 1)
  pub two_standard : command_of (codes "live" ∷ d ∷ codes "-" ∷ codes "-" ∷ []) ≡ Err misuse.Words
  pub one_standard : command_of (codes "live" ∷ codes "-" ∷ codes "-" ∷ f ∷ []) ≡ Ok (Live (codes "-") (codes "-") f 1)
  pub no_workers : command_of (codes "check" ∷ d ∷ codes "--workers=1" ∷ []) ≡ Err misuse.Words
  pub checked : command_of (codes "check" ∷ d ∷ []) ≡ Ok (Check d)
  pub seed : command_of (codes "drill" ∷ codes "18446744073709551615" ∷ []) ≡ Ok (Drill 18446744073709551615)
  pub large_seed : command_of (codes "drill" ∷ codes "18446744073709551616" ∷ []) ≡ Err misuse.Words

-- lines of codes and replies, and scripts
pub record LineExamples : Type 0 where
  pub ok : code_line code.Ok ≡ []
  pub usage : code_line (code.Usage misuse.Words) ≡ codes "USAGE WORDS"
  pub twice : code_line (code.BadMib (record { table = kind.Pcf; row = 7; column = 0; first = 2; code = fault.Twice })) ≡ codes "BADMIB pcf 7 TWICE 2"
  pub cut : code_line (code.Cut 11) ≡ codes "CUT 11"
  pub bad_row : reply_words (reply.BadRow fault.BadNumber 3) ≡ codes "BADROW BADNUMBER 3"
  pub saved : reply_words (reply.Saved 2 1) ≡ codes "SAVED 2 PLANS 1"
  pub numbered_desk : desk_line (Some 2) (Stale 2) ≡ codes "DESK 2 STALE 2\n"
  pub single_desk : desk_line None (Plain reply.Go) ≡ codes "GO\n"
  pub script : script (codes "use 1\n\ngo") ≡ codes "use 1" ∷ [] ∷ codes "go" ∷ []
  pub no_limit : reaches_limit (codes "go\n") ≡ false

-- what a check and a cut feed print
pub record SummaryExamples : Type 0 where
  pub cut : cut_text 11 ≡ codes "CUT 11\n"
  pub rest : rest_text (codes "abc") ≡ codes "CUT 3\n"
  pub no_rest : rest_text [] ≡ []
  pub count : count_line (database shared) kind.Plf ≡ codes "plf 1\n"
  pub summary :
      summary (database shared) ≡
      codes "pcf 1\npid 1\npic 0\ntpcf 0\nplf 1\nvpd 0\ncur 0\ncaf 0\ncap 0\ntxf 0\ntxp 0\nmcf 0\nlgf 0\nocf 0\nocp 0\nPLANS 3\n"
