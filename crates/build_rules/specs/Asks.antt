-- The lines that ask for packets, and what is written for them. [This profile.]
use Rattle.std.specs.Prelude.{ℕ, ◌+◌, ◌^◌, ℤ, pos, neg_ℤ, List, [], ◌∷◌, ◌++◌, codes, decimal, length, nat_lt, ◌==◌, if◌then◌else◌, Option, Some, None, option_map, option_and_then, Result, Ok, Err}
use Rattle.std.specs.Str.Lines.{strip_carriage_return}
use Rattle.mib_model.specs.declared.database.Database.{Database}
use Rattle.run_model.specs.DeskLines.{is_comment, most_octets, words_of}
use Rattle.mib_model.specs.Digits.{are_digits, digits_value}
use Rattle.mib_model.specs.Letters.{letter}
use Rattle.mib_model.specs.Names.{name_of}
use Rattle.build_rules.specs.declared.fault.BuildFault.{BuildFault}
use Rattle.build_rules.specs.declared.fault.BuildFault.TheVariants.{NoSpid, Apid, Discriminant, Items, Range, Ends, Long, Clash, Ask, Memory}
use Rattle.build_rules.specs.declared.item.Item.{Item}
use Rattle.build_rules.specs.Building.{built}

-- what a line asks for: a packet of a SPID with a sequence count and items
pub record Asked : Type 0 where
  pub spid : ℕ
  pub count : ℕ
  pub items : List Item

-- the number of a word of 1 to 20 digits
abbrev pub number_in : List ℕ → Option ℕ
number_in word = if are_digits 1 20 word then Some (digits_value word) else None

-- the raw number of a word: 1 to 20 digits, with a minus before them or not
abbrev pub raw_in : List ℕ → Option ℤ
raw_in [] = None
raw_in (first ∷ rest) =
    if first == letter "-" then option_map (λ n. neg_ℤ (pos n)) (number_in rest) else option_map pos (number_in (first ∷ rest))

-- the item of two words, a name and a raw number
abbrev pub item_in : List ℕ → List ℕ → Option Item
item_in name number = option_and_then (λ n. option_map (λ raw. record { name = n; raw = raw }) (raw_in number)) (name_of name)

-- the items of words, names and raw numbers in turn
abbrev pub items_in : List (List ℕ) → Option (List Item)
items_in [] = Some []
items_in (name ∷ []) = None
items_in (name ∷ number ∷ words) = option_and_then (λ item. option_map (λ items. item ∷ items) (items_in words)) (item_in name number)

-- the sequence count of a word
abbrev pub count_in : List ℕ → Option ℕ
count_in word = option_and_then (λ n. if nat_lt n (2 ^ 14) then Some n else None) (number_in word)

-- what words ask for: a SPID, a count, and items
abbrev pub asked_of : List (List ℕ) → Option Asked
asked_of [] = None
asked_of (spid ∷ []) = None
asked_of (spid ∷ count ∷ words) =
    option_and_then (λ s. option_and_then (λ c. option_map (λ items. record { spid = s; count = c; items = items }) (items_in words))
    (count_in count)) (number_in spid)

-- what a line asks for that isn't too long, if anything
unfoldable pub asked_in : List ℕ → Option Asked
asked_in line = if nat_lt most_octets (length line) then None else asked_of (words_of (strip_carriage_return line))

-- the packet that is asked for, or the first fault; a number above 4,294,967,295 is no packet's SPID
abbrev pub answer_to : Database → Option Asked → Result (List ℕ) BuildFault
answer_to db None = Err Ask
answer_to db (Some asked) = if nat_lt asked.spid (2 ^ 32) then built db asked.spid asked.count asked.items else Err NoSpid

-- packets one after the other, and the line that ended them with its fault
abbrev pub Answered : Type 0
Answered = List ℕ × Option (ℕ × BuildFault)

-- with a packet in front, or ended by a fault at a line
abbrev pub behind_answer : ℕ → Result (List ℕ) BuildFault → Answered → Answered
behind_answer place (Ok packet) more = (packet ++ more.0, more.1)
behind_answer place (Err fault) more = ([], Some (place, fault))

-- what lines come to, of which the first has this number; a comment or an empty line of any length is passed over
unfoldable pub answered : Database → ℕ → List (List ℕ) → Answered
answered db place [] = ([], None)
answered db place (line ∷ lines) =
    if is_comment (strip_carriage_return line) then answered db (place + 1) lines
    else behind_answer place (answer_to db (asked_in line)) (answered db (place + 1) lines)

-- the words of a fault
abbrev pub fault_words : BuildFault → List ℕ
fault_words NoSpid = codes "NOSPID"
fault_words (Apid apid) = codes "APID"
fault_words (Discriminant which) = codes "DISCRIMINANT"
fault_words (Items at) = codes "ITEMS " ++ decimal at
fault_words (Range at) = codes "RANGE " ++ decimal at
fault_words (Ends ended) = codes "ENDS"
fault_words Long = codes "LONG"
fault_words (Clash bit) = codes "CLASH"
fault_words Ask = codes "ASK"
fault_words Memory = codes "MEMORY"

-- the line that tells a refusal
abbrev pub refused_line : ℕ → BuildFault → List ℕ
refused_line place fault = codes "REFUSED " ++ decimal place ++ codes " " ++ fault_words fault
