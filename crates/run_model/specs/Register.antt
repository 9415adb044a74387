-- The register of editions: one machine, for one desk and for several. [This profile.]
use Rattle.std.specs.Prelude.{ℕ, ◌+◌, ◌-◌, Bool, false, List, [], ◌∷◌, ◌++◌, length, filter, not, nat_le, nat_lt, ◌==◌, ◌&&◌, map, if◌then◌else◌, Option, Some, None, option_map, unwrap_or}
use Rattle.std.specs.List.{last_or, slice_index_or}
use Rattle.run_model.specs.declared.register.Answer.{Answer}
use Rattle.run_model.specs.declared.register.Answer.TheVariants.{Stamped, Added, FullEditions, Stale, Used, NoEdition, Late, Disorder, FullPending, Drawn}
use Rattle.run_model.specs.declared.register.Entry.{Entry}
use Rattle.run_model.specs.declared.register.Entry.TheVariants.{Stamp, Add, AddOn, Use, UseFrom, Newest, Look}
use Rattle.run_model.specs.declared.register.Register.{Register}
use Rattle.run_model.specs.declared.register.Scheduled.{Scheduled}
use Rattle.mib_model.specs.declared.database.Database.{Database}
use Rattle.mib_model.specs.Database.{no_rows}

-- the most editions
abbrev pub most_editions : ℕ
most_editions = 64

-- the most activations that are pending
abbrev pub most_pending : ℕ
most_pending = 16

-- the state over one edition: the next packet is the first, and edition 1 is used from the start
abbrev pub opening : Database → Register
opening first = record { next = 1; editions = first ∷ []; schedule = record { from = 0; edition = 1 } ∷ [] }

-- the number of editions
abbrev pub count_of_editions : Register → ℕ
count_of_editions s = length s.editions

-- an edition of this number stands
abbrev pub has_edition : Register → ℕ → Bool
has_edition s e = nat_le 1 e && nat_le e (count_of_editions s)

-- the tables of an edition
abbrev pub tables_of : Register → ℕ → Database
tables_of s e = slice_index_or s.editions (e - 1) no_rows

-- the edition of a packet: that of the last activation from it or an earlier packet on
abbrev pub edition_for : Register → ℕ → ℕ
edition_for s n = unwrap_or (last_or None (map (λ pair. pair.edition) (filter (λ pair. nat_le pair.from n) s.schedule))) 1

-- an activation is pending while its first packet isn't stamped
abbrev pub is_pending : Register → Scheduled → Bool
is_pending s pair = nat_le s.next pair.from

-- the activations that are pending
abbrev pub pending : Register → List Scheduled
pending s = filter (is_pending s) s.schedule

-- the first packet of the last pending activation
abbrev pub last_pending : Register → Option ℕ
last_pending s = option_map (λ pair. pair.from) (last_or None (pending s))

-- whether a pending activation is from this packet or a later one on
abbrev pub is_disorder : ℕ → Option ℕ → Bool
is_disorder k None = false
is_disorder k (Some last) = nat_le k last

-- tables that are added, unless all editions stand
abbrev pub added : Register → Answer
added s = if nat_le most_editions (count_of_editions s) then FullEditions else Added (count_of_editions s + 1)

-- an activation from a packet on, or the first reason against it
abbrev pub used_from : Register → ℕ → ℕ → Answer
used_from s e k =
    if not (has_edition s e) then NoEdition (count_of_editions s)
    else if nat_lt k s.next then Late s.next
    else if is_disorder k (last_pending s) then Disorder (unwrap_or (last_pending s) 0)
    else if nat_le most_pending (length (pending s)) then FullPending
    else Used k

-- the answer to an entry
unfoldable pub answer_to : Register → Entry → Answer
answer_to s Stamp = Stamped s.next (edition_for s s.next) (tables_of s (edition_for s s.next))
answer_to s (Add tables plans) = added s
answer_to s (AddOn base tables plans) = if base == count_of_editions s then added s else Stale (count_of_editions s)
answer_to s (Use e) = if has_edition s e then Used s.next else NoEdition (count_of_editions s)
answer_to s (UseFrom e k) = used_from s e k
answer_to s Newest = Drawn (count_of_editions s) (tables_of s (count_of_editions s))
answer_to s (Look e) = if has_edition s e then Drawn e (tables_of s e) else NoEdition (count_of_editions s)

-- tables stand behind the editions where they were added
abbrev pub with_tables : Register → Database → Answer → Register
with_tables s tables (Added e) = record s { editions = s.editions ++ tables ∷ [] }
with_tables s tables other = s

-- an activation stands behind those that stay, where it was taken
abbrev pub with_activation : Register → List Scheduled → ℕ → Answer → Register
with_activation s stay e (Used k) = record s { schedule = stay ++ record { from = k; edition = e } ∷ [] }
with_activation s stay e other = s

-- the state after an entry; one that is refused changes nothing, and `Use` drops what is pending
unfoldable pub after : Register → Entry → Register
after s Stamp = record s { next = s.next + 1 }
after s (Add tables plans) = with_tables s tables (answer_to s (Add tables plans))
after s (AddOn base tables plans) = with_tables s tables (answer_to s (AddOn base tables plans))
after s (Use e) = with_activation s (filter (λ pair. not (is_pending s pair)) s.schedule) e (answer_to s (Use e))
after s (UseFrom e k) = with_activation s s.schedule e (answer_to s (UseFrom e k))
after s Newest = s
after s (Look e) = s
