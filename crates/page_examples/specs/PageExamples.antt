-- Pages after packets. [This profile.]
use Rattle.std.specs.Prelude.{◌≡◌, ℕ, ◌+◌, List, [], ◌∷◌, ◌++◌, codes, length}
use Rattle.mib_model.specs.declared.database.Database.{Database}
use Rattle.mib_model.specs.declared.kind.Kind.TheVariants as kind
use Rattle.mib_model.specs.Interpreter.{StampedPacket, course_after_all, start}
use Rattle.mib_examples.specs.Given.{database, given, packet_a, packet_with, shared, table}
use Rattle.display_pages.specs.Pages.{page, page_text}

-- one parameter, of which it is told after three samples below 0 or above 1000
unfoldable pub limited : Database
limited =
    database (given kind.Ocf (table (codes "T1|3||U\n")) (given kind.Ocp (table (codes "T1|1|S|0|1000\n")) shared))

-- packets by the tables of edition 1, numbered from this number on
abbrev pub stamped : ℕ → List (List ℕ) → List StampedPacket
stamped number [] = []
stamped number (p ∷ ps) = record { number = number; packet = p; edition = 1; tables = limited } ∷ stamped (number + 1) ps

-- the text of the page of names after packets
abbrev pub shown : List (List ℕ) → List (List ℕ) → List ℕ
shown names packets = page_text names (page names (length packets) 1 (course_after_all (start limited) (stamped 1 packets)).memory)

-- a packet with the number 500
abbrev pub low_packet : List ℕ
low_packet = packet_with 0x01 0xF4

-- six packets, after which three samples in a row were out of limits
abbrev pub six : List (List ℕ)
six = packet_a ∷ packet_a ∷ low_packet ∷ packet_a ∷ packet_a ∷ packet_a ∷ []

-- the pages of a name of the tables and of one that they lack
pub record PageExamples : Type 0 where
  pub before : shown (codes "T1" ∷ []) [] ≡ codes "PAGE 0 EDITION 1\n  T1 - -\n"
  pub spoken : shown (codes "T1" ∷ codes "NOPE" ∷ []) six ≡ codes "PAGE 6 EDITION 1\n  T1 2000 SOFT\n  NOPE - -\n"
  pub cleared : shown (codes "T1" ∷ codes "NOPE" ∷ []) (six ++ low_packet ∷ []) ≡ codes "PAGE 7 EDITION 1\n  T1 500 -\n  NOPE - -\n"
