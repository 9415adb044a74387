-- Files in memory, by name and by place.
use Rattle.std.specs.Prelude.{ℕ, zero, suc, drop, List, [], ◌∷◌, Option, None, Some, if◌then◌else◌, string_bytes}
use Rattle.std.specs.Str.{bytes_eq}
use Rattle.tm_io.specs.declared.mem_shelf.MemFile.{MemFile}

-- the octets of the first file of that name
abbrev pub file_of : List MemFile → List ℕ → Option (List ℕ)
file_of [] name = None
file_of (file ∷ files) name = if bytes_eq (string_bytes file.name) name then Some file.bytes.items else file_of files name

-- where reads of the first file of that name fail
abbrev pub fails_of : List MemFile → List ℕ → List ℕ
fails_of [] name = []
fails_of (file ∷ files) name = if bytes_eq (string_bytes file.name) name then file.fails.items else fails_of files name

-- the octets of the file at a place
abbrev pub octets_at : List MemFile → ℕ → List ℕ
octets_at [] place = []
octets_at (file ∷ files) zero = file.bytes.items
octets_at (file ∷ files) (suc place) = octets_at files place

-- where reads of the file at a place fail
abbrev pub fails_at : List MemFile → ℕ → List ℕ
fails_at [] place = []
fails_at (file ∷ files) zero = file.fails.items
fails_at (file ∷ files) (suc place) = fails_at files place

-- the octets of the open file from a position on, and none where no file is open
abbrev pub left_of : List MemFile → Option ℕ → ℕ → List ℕ
left_of files None at = []
left_of files (Some place) at = drop at (octets_at files place)

-- where reads of the open file fail
abbrev pub stops_of : List MemFile → Option ℕ → List ℕ
stops_of files None = []
stops_of files (Some place) = fails_at files place
