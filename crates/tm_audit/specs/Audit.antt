-- What an audit finds of a printed text: whether it follows from tables, a feed and the editions that it shows. [This profile.]
use Rattle.std.specs.Prelude.{ℕ, ◌+◌, ◌-◌, List, ◌++◌, length, map, nat_lt, Option, Some, None, if◌then◌else◌}
use Rattle.std.specs.List.{enumerate_from, slice_index_or}
use Rattle.mib_model.specs.declared.database.Database.{Database}
use Rattle.mib_model.specs.Database.{no_rows}
use Rattle.mib_model.specs.Interpreter.{StampedPacket, start, interpret, records_text}
use Rattle.mib_model.specs.Texts.{rest_text}
use Rattle.tm_audit.specs.declared.code.AuditCode.{AuditCode}
use Rattle.tm_audit.specs.declared.code.AuditCode.TheVariants as code
use Rattle.tm_audit.specs.declared.code.TheConstants.{TEXT_MOST}
use Rattle.tm_audit.specs.Shown.{Editions, edition_at, editions_shown, first_unknown}
use Rattle.tm_audit.specs.TextLines.{first_apart, text_lines}

-- the tables of an edition
abbrev pub tables_of : List Database → ℕ → Database
tables_of saved edition = slice_index_or saved (edition - 1) no_rows

-- a packet at a place, counted from 0, in the edition that is shown for it
abbrev pub stamped_at : List Database → Editions → ℕ × List ℕ → StampedPacket
stamped_at saved shown placed = record {
  number = placed.0 + 1;
  packet = placed.1;
  edition = edition_at shown placed.0;
  tables = tables_of saved (edition_at shown placed.0);
}

-- packets, each in the edition that is shown for it
abbrev pub stamped_as : List Database → Editions → List (List ℕ) → List StampedPacket
stamped_as saved shown packets = map (stamped_at saved shown) (enumerate_from 0 packets)

-- the text of packets in the editions that are shown for them, and the line of the feed's rest
unfoldable pub text_as : Database → List Database → Editions → List (List ℕ) → List ℕ → List ℕ
text_as first saved shown packets rest = records_text (interpret (start first) (stamped_as saved shown packets)) ++ rest_text rest

-- the text that is expected of packets and a rest, by the editions that a text shows
abbrev pub expected : Database → List Database → List (List ℕ) → List ℕ → List ℕ → List ℕ
expected first saved packets rest text = text_as first saved (editions_shown (length saved) 1 (text_lines text)) packets rest

-- what the first line comes to at which a text differs from the one that is expected
abbrev pub compared : Option ℕ → AuditCode
compared None = code.Same
compared (Some line) = code.Differs line

-- what is found before the feed: a text that is too long, or the first line that shows an edition that isn't there
abbrev pub refused : ℕ → List ℕ → Option AuditCode
refused count text =
    if nat_lt TEXT_MOST (length text) then Some code.Large
    else elim (first_unknown count 1 (text_lines text)) [ None ↦ None | Some line ↦ Some (code.NoEdition line count) ]

-- what is found of a text, by the first tables, those that were saved, the packets of a feed and its rest
unfoldable pub audited : Database → List Database → List (List ℕ) → List ℕ → List ℕ → AuditCode
audited first saved packets rest text =
    elim (refused (length saved) text) [
      | Some found ↦ found
      | None ↦ compared (first_apart 1 (text_lines (expected first saved packets rest text)) (text_lines text))
    ]
