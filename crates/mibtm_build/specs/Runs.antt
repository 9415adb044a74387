-- What lines that ask for packets come to, one after the other. [This profile.]
use Rattle.std.specs.Prelude.{◌≡◌, ℕ, ◌+◌, ◌≤◌, Bool, true, false, List, [], ◌∷◌, ◌++◌, length, Option, Some, None, IfSome, ⊤}
use Rattle.std.specs.Io.KnownBytes.{Appends, Consumes}
use Rattle.tm_io.specs.Causes.{RisesWhere}
use Rattle.tm_io.specs.Octets.{AppendsPrefix, WritesUnless}
use Rattle.mib_model.specs.declared.database.Database.{Database}
use Rattle.run_model.specs.Script.{script, reaches_limit}
use Rattle.desk_lines.specs.declared.reader.DeskReader.{DeskReader}
use Rattle.desk_lines.specs.ToCome.{Reading, still, meets_limit}
use Rattle.desk_lines.specs.Given.{IsUpTo, lines_given}
use Rattle.desk_lines.specs.Gives.{TakesLine, TakesPart, NoneComes}
use Rattle.desk_lines.specs.Reader.{reading_of, source_of}
use Rattle.build_rules.specs.declared.fault.BuildFault.{BuildFault}
use Rattle.build_rules.specs.Asks.{Answered, answered}
use Rattle.mibtm_build.specs.declared.code.BuildCode.{BuildCode}
use Rattle.mibtm_build.specs.declared.code.BuildCode.TheVariants as code

-- where a run stands: how far its lines were read, what is left of them, and what was written, where these are told
pub record Standing : Type 0 where
  pub read : Reading
  pub left : Option (List ℕ)
  pub written : Option (List ℕ)

-- where a run stands, by its reader and its output
abbrev pub standing_of : {D O : Type 0} → (D → Option (List ℕ)) → (O → Option (List ℕ)) → DeskReader D → O → Standing
standing_of left written reader out = record { read = reading_of reader; left = left (source_of reader); written = written out }

-- whether the asks failed
abbrev pub is_asks_fault : BuildCode → Bool
is_asks_fault code.DeskFault = true
is_asks_fault other = false

-- whether the output failed
abbrev pub is_out_fault : BuildCode → Bool
is_out_fault code.OutFault = true
is_out_fault other = false

-- the count of the asks rose where they failed, and else stays as it was
abbrev pub HasAsksCause : Option BuildCode → ℕ → ℕ → Type 0
HasAsksCause None before now = now ≡ before
HasAsksCause (Some c) before now = RisesWhere (is_asks_fault c) before now

-- the count of the output rose where it failed, and else stays as it was
abbrev pub HasOutCause : Option BuildCode → ℕ → ℕ → Type 0
HasOutCause None before now = now ≡ before
HasOutCause (Some c) before now = RisesWhere (is_out_fault c) before now

-- ---- one line

-- a line comes to these octets, or is refused
abbrev pub ComesTo : Database → List ℕ → List ℕ → Option BuildFault → Type 0
ComesTo db line octets None = (place : ℕ) → answered db place (line ∷ []) ≡ (octets, None)
ComesTo db line octets (Some fault) = (place : ℕ) → answered db place (line ∷ []) ≡ (octets, Some (place, fault))

-- what came of the line of this number, and what was written for it: the run goes on, or it ends so
abbrev pub Handles : Option BuildCode → Database → ℕ → List ℕ → Option (List ℕ) → Option (List ℕ) → Type 0
Handles None db number line old new = (octets : List ℕ) × ComesTo db line octets None × Appends old new octets
Handles (Some (code.Refused place fault)) db number line old new = (place ≡ number) × ComesTo db line [] (Some fault) × (new ≡ old)
Handles (Some code.OutFault) db number line old new = (octets : List ℕ) × ComesTo db line octets None × AppendsPrefix old new octets
Handles (Some code.Want) db number line old new = new ≡ old
Handles (Some other) db number line old new = ⊥

-- a line was taken, and this came of it
pub record HandlesNext (came : Option BuildCode) (db : Database) (before after : Standing) : Type 0 where
  pub line : List ℕ
  pub takes : TakesLine before.read after.read before.left after.left line
  pub handles : Handles came db (before.read.lines + 1) line before.written after.written

-- no line was taken, since none is to come, at the limit or not
pub record Stops (limit : Bool) (before after : Standing) : Type 0 where
  pub takes : TakesPart before.read after.read before.left after.left
  pub none : IfSome before.left (NoneComes limit before.read)
  pub same : after.written ≡ before.written

-- the asks failed before a line was taken
pub record Fails (before after : Standing) : Type 0 where
  pub takes : TakesPart before.read after.read before.left after.left
  pub same : after.written ≡ before.written

-- what came of the next line
abbrev pub Comes : Option BuildCode → Database → Standing → Standing → Type 0
Comes (Some code.Ok) db before after = Stops false before after
Comes (Some code.Limit) db before after = Stops true before after
Comes (Some code.DeskFault) db before after = Fails before after
Comes came db before after = HandlesNext came db before after

-- ---- all lines

-- lines were answered one after the other, with their packets written, and others are still to come
pub record Goes (db : Database) (before after : Standing) : Type 0 where
  pub lines : List (List ℕ)
  pub packets : List ℕ
  pub answers : answered db (before.read.lines + 1) lines ≡ (packets, None)
  pub counted : after.read.lines ≡ before.read.lines + length lines
  pub given : List ℕ
  pub consumed : Consumes before.left after.left given
  pub whole : lines_given given ≤ length lines
  pub upto : IfSome before.left (λ l. IsUpTo given after.left lines)
  pub ahead : IfSome before.left (λ l. IfSome after.left (λ b. still before.read l ≡ lines ++ still after.read b))
  pub limit : IfSome before.left (λ l. IfSome after.left (λ b. meets_limit before.read l ≡ meets_limit after.read b))
  pub printed : Appends before.written after.written packets

-- how many lines that were read whole weren't answered: want of memory comes at a line
abbrev pub unanswered : BuildCode → ℕ
unanswered code.Want = 1
unanswered code.OutFault = 1
unanswered other = 0

-- what lines came to, by the code of their end: all their packets, a packet of all but the last, or some
abbrev pub AreAnswered : BuildCode → Answered → Type 0
AreAnswered (code.Refused line fault) came = came.1 ≡ Some (line, fault)
AreAnswered code.OutFault came = ⊤
AreAnswered other came = came.1 ≡ None

-- whether other lines are left, and whether the limit is reached, where the end says so
abbrev pub AreAll : BuildCode → List (List ℕ) → Option (List ℕ) → Type 0
AreAll code.Ok others left = (others ≡ []) × IfSome left (λ octets. reaches_limit octets ≡ false)
AreAll code.Limit others left = (others ≡ []) × IfSome left (λ octets. reaches_limit octets ≡ true)
AreAll other others left = ⊤

-- the codes with which a run ends
abbrev pub IsEnd : BuildCode → Type 0
IsEnd code.Ok = ⊤
IsEnd code.Limit = ⊤
IsEnd code.DeskFault = ⊤
IsEnd code.OutFault = ⊤
IsEnd code.Want = ⊤
IsEnd (code.Refused line fault) = ⊤
IsEnd other = ⊥

-- a run over all that asks had left ended so: these lines were answered and their packets written, as far as the output took them; the
-- others weren't
pub record Ran (c : BuildCode) (db : Database) (left behind old new : Option (List ℕ)) : Type 0 where
  pub is_end : IsEnd c
  pub lines : List (List ℕ)
  pub others : List (List ℕ)
  pub of_script : IfSome left (λ octets. script octets ≡ lines ++ others)
  pub all : AreAll c others left
  pub given : List ℕ
  pub consumed : Consumes left behind given
  pub whole : lines_given given ≤ length lines + unanswered c
  pub no_more : IfSome left (λ octets. IsUpTo given behind lines)
  pub answers : AreAnswered c (answered db 1 lines)
  pub printed : WritesUnless (is_out_fault c) old new (answered db 1 lines).0
