-- What contracts see of a reader. [This profile.]
use Rattle.desk_lines.specs.declared.reader.DeskReader.{DeskReader}
use Rattle.desk_lines.specs.declared.reader.Bookmark.{Bookmark}
use Rattle.desk_lines.specs.ToCome.{Reading}

-- the source of a reader
abbrev pub source_of : {S : Type 0} → DeskReader S → S
source_of reader = reader.source

-- how far a reader has read
abbrev pub reading_of : {S : Type 0} → DeskReader S → Reading
reading_of reader = record { lines = reader.lines; octets = reader.octets }

-- how far a script was read by its bookmark
abbrev pub read_to : Bookmark → Reading
read_to bookmark = record { lines = bookmark.lines; octets = bookmark.octets }
