-- What one line comes to.
use Rattle.std.proofs.Common.{◌≡◌, ◌∙◌, ℕ, ◌<◌, ◌+◌, true, false, List, [], ◌∷◌, take, length, Option, Some, None, Result, Ok, Err, refl, sym, ap, append-nil, arith, inl, inr, length-take}
use Rattle.std.proofs.lemmas.Bool.{cases_Bool, lt-ltb}
use Rattle.std.specs.Str.Lines.{strip_carriage_return}
use Rattle.build_rules.specs.declared.fault.BuildFault.{BuildFault}
use Rattle.build_rules.specs.Asks.{answer_to, answered, asked_in}
use Rattle.desk_lines.proofs.LongFacts.{long-front}
use Rattle.mib_model.specs.declared.database.Database.{Database}
use Rattle.run_model.specs.DeskLines.{is_comment, request_of}
use Rattle.mibtm_build.specs.Answers.{Answers}
use Rattle.mibtm_build.specs.declared.code.BuildCode.{BuildCode}
use Rattle.mibtm_build.specs.declared.code.BuildCode.TheVariants as code
use Rattle.mibtm_build.specs.Runs.{Comes, ComesTo, Handles, Standing}
use Rattle.desk_lines.specs.Gives.{TakesLine}
use Rattle.tm_build.specs.Builds.{Builds}

-- a line that is passed over
pub passed-over : (db : Database) (line into : List ℕ) → is_comment (strip_carriage_return line) ≡ true → Answers db (Ok 0) line into
unfolding answered
passed-over db line into is place = rw is refl

-- one that asks for a packet, or for none
pub asked-for : (db : Database) (line into : List ℕ) (r : Result ℕ BuildFault) → is_comment (strip_carriage_return line) ≡ false
    → Builds r (answer_to db (asked_in line)) into → Answers db r line into
unfolding answered
asked-for db line into (Ok octets) not builds = λ place. rw (not, builds) (ap (λ (p : List ℕ). (p, None)) (append-nil (take octets into)))
asked-for db line into (Err fault) not builds = λ other place. rw (not, builds other) refl

-- ---- lines that are too long

front-comment : (line : List ℕ) → 4096 < length line → is_comment (strip_carriage_return (take 4097 line)) ≡ is_comment (strip_carriage_return line)
unfolding request_of
front-comment line long =
    let front : length (take 4097 line) ≡ 4097 = omega (arith, length-take 4097 line, long) in
    let same = long-front false line long in
    let low = lt-ltb 4096 (length (take 4097 line)) (omega (arith, front)) in
    let high = lt-ltb 4096 (length line) long in
    elim (cases_Bool (is_comment (strip_carriage_return (take 4097 line)))) [
      | inl one ↦ elim (cases_Bool (is_comment (strip_carriage_return line))) [
        | inl two ↦ one ∙ sym two
        | inr two ↦ absurd (cc (rw (one, two, high) at same))
      ]
      | inr one ↦ elim (cases_Bool (is_comment (strip_carriage_return line))) [
        | inl two ↦ absurd (cc (rw (one, low, two) at same))
        | inr two ↦ one ∙ sym two
      ]
    ]

front-asks : (line : List ℕ) → 4096 < length line → asked_in (take 4097 line) ≡ asked_in line
unfolding asked_in
front-asks line long =
    let front : length (take 4097 line) ≡ 4097 = omega (arith, length-take 4097 line, long) in
    rw (lt-ltb 4096 (length (take 4097 line)) (omega (arith, front)), lt-ltb 4096 (length line) long) refl

front-comes : (db : Database) (place : ℕ) (line : List ℕ) → 4096 < length line → answered db place (take 4097 line ∷ []) ≡ answered db place (line ∷ [])
unfolding answered
front-comes db place line long = rw (front-comment line long, front-asks line long) refl

-- its front comes to what the whole line does
long-comes : (db : Database) (front line octets : List ℕ) (end : Option BuildFault) → 4096 < length line → front ≡ take 4097 line → ComesTo db front octets end → ComesTo db line octets end
long-comes db front line octets None long is comes = λ place. sym (front-comes db place line long) ∙ (ap (λ (l : List ℕ). answered db place (l ∷ [])) (sym is) ∙ comes place)
long-comes db front line octets (Some fault) long is comes =
    λ place. sym (front-comes db place line long) ∙ (ap (λ (l : List ℕ). answered db place (l ∷ [])) (sym is) ∙ comes place)

long-handles : (db : Database) (c : Option BuildCode) (number : ℕ) (front line : List ℕ) (old new : Option (List ℕ)) → 4096 < length line → front ≡ take 4097 line
    → Handles c db number front old new → Handles c db number line old new
long-handles db None number front line old new long is (octets, comes, printed) = (octets, long-comes db front line octets None long is comes, printed)
long-handles db (Some (code.Refused place fault)) number front line old new long is (at, comes, same) = (at, long-comes db front line [] (Some fault) long is comes, same)
long-handles db (Some code.OutFault) number front line old new long is (octets, comes, printed) = (octets, long-comes db front line octets None long is comes, printed)
long-handles db (Some code.Want) number front line old new long is same = same
long-handles db (Some (code.Usage misuse)) number front line old new long is none = none
long-handles db (Some (code.BadMib fault)) number front line old new long is none = none
long-handles db (Some (code.NoFile input)) number front line old new long is none = none
long-handles db (Some code.Ok) number front line old new long is none = none
long-handles db (Some code.TablesFault) number front line old new long is none = none
long-handles db (Some code.FeedFault) number front line old new long is none = none
long-handles db (Some code.DeskFault) number front line old new long is none = none
long-handles db (Some code.ReplyFault) number front line old new long is none = none
long-handles db (Some code.Limit) number front line old new long is none = none

-- a line that was taken was handled
pub comes-of : (db : Database) (before after : Standing) (c : Option BuildCode) (line : List ℕ) → TakesLine before.read after.read before.left after.left line
    → Handles c db (before.read.lines + 1) line before.written after.written → Comes c db before after
comes-of db before after None line takes handles = record { line = line; takes = takes; handles = handles }
comes-of db before after (Some (code.Refused place fault)) line takes handles = record { line = line; takes = takes; handles = handles }
comes-of db before after (Some code.OutFault) line takes handles = record { line = line; takes = takes; handles = handles }
comes-of db before after (Some code.Want) line takes handles = record { line = line; takes = takes; handles = handles }
comes-of db before after (Some (code.Usage misuse)) line takes handles = absurd handles
comes-of db before after (Some (code.BadMib fault)) line takes handles = absurd handles
comes-of db before after (Some (code.NoFile input)) line takes handles = absurd handles
comes-of db before after (Some code.Ok) line takes handles = absurd handles
comes-of db before after (Some code.TablesFault) line takes handles = absurd handles
comes-of db before after (Some code.FeedFault) line takes handles = absurd handles
comes-of db before after (Some code.DeskFault) line takes handles = absurd handles
comes-of db before after (Some code.ReplyFault) line takes handles = absurd handles
comes-of db before after (Some code.Limit) line takes handles = absurd handles

pub long-comes-of : (db : Database) (before after : Standing) (c : Option BuildCode) (front line : List ℕ) → 4096 < length line → front ≡ take 4097 line
    → TakesLine before.read after.read before.left after.left line → Handles c db (before.read.lines + 1) front before.written after.written → Comes c db before after
long-comes-of db before after c front line long is takes handles =
    comes-of db before after c line takes (long-handles db c (before.read.lines + 1) front line before.written after.written long is handles)
