-- Packets of different SPIDs.
use Rattle.std.specs.Prelude.{◌≡◌, ℕ, ◌<◌, false, List, length, take, ◌==◌}
use Rattle.std.specs.List.{list_any, slice_index_or}
use Rattle.mib_model.specs.declared.rows.PidRow.{PidRow}

-- packets of which none has the SPID of one before it
abbrev pub AreApart : List PidRow → Type 0
AreApart rows = (i : ℕ) (row : PidRow) → i < length rows → row ≡ slice_index_or rows i row →
    list_any (λ earlier. row.spid == earlier.spid) (take i rows) ≡ false
