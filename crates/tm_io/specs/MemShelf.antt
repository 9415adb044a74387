-- What a shelf in memory shows beyond the meanings of every shelf.
use Rattle.std.specs.Prelude.{◌≡◌, ◌≢◌, ℕ, zero, suc, ◌≤◌, ◌+◌, List, Option, None, Some, Result, MatchResult, IfOk}
use Rattle.tm_io.specs.Files.{fails_at, stops_of}
use Rattle.tm_io.specs.Stops.{StopsBefore, without}
use Rattle.tm_io.specs.declared.mem_shelf.MemShelf.{MemShelf}
use Rattle.tm_io.specs.declared.mem_shelf.MemFile.{MemFile}

-- its files, in order
abbrev pub files_of : MemShelf → List MemFile
files_of shelf = shelf.files.items

-- the place of the file that is open
abbrev pub open_place : MemShelf → Option ℕ
open_place shelf = shelf.place

-- how many octets were given since the last turn to a file
abbrev pub position : MemShelf → ℕ
position shelf = shelf.at

-- the positions of the open file at which reads of it still fail
abbrev pub stops : MemShelf → List ℕ
stops shelf = stops_of shelf.files.items shelf.place

-- how many octets a read gives at most
abbrev pub most_of : MemShelf → ℕ
most_of shelf = shelf.most

-- how many further turns to a file come before the one that fails, where one is to fail
abbrev pub skips_of : MemShelf → Option ℕ
skips_of shelf = shelf.skips

-- how many further turns come before the one that fails, after one turn
abbrev pub one_less : Option ℕ → Option ℕ
one_less None = None
one_less (Some zero) = None
one_less (Some (suc skips)) = Some skips

-- the shelf with a turn that is to fail
abbrev pub failing_aim : MemShelf → ℕ → MemShelf
failing_aim shelf skips = record shelf { skips = Some skips }

-- a read goes on in the open file by what it gave, and one that failed has used up the stop at which it failed, and no other file's
pub record Reads {E : Type 0} (old new : MemShelf) (result : Result ℕ E) : Type 0 where
  pub most : IfOk result (λ count. count ≤ most_of old)
  pub moves : MatchResult result (λ count. position new ≡ position old + count) (λ _. position new ≡ position old)
  pub before_stops : IfOk result (λ count. StopsBefore (stops old) (position old) count)
  pub spent : MatchResult result (λ _. stops new ≡ stops old) (λ _. stops new ≡ without (stops old) (position old))
  pub others : (i : ℕ) → open_place old ≢ Some i → fails_at (files_of new) i ≡ fails_at (files_of old) i
  pub place : open_place new ≡ open_place old
  pub settings : (most_of new ≡ most_of old) × (skips_of new ≡ skips_of old)
