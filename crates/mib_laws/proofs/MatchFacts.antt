-- Well-formed packets.
use Rattle.std.proofs.Common.{◌≡◌, ◌↔◌, ℕ, Bool, true, false, not, cond, List, Option, Some, None, refl, sym, ap, subst, ◌∙◌, nat_eq}
use Rattle.std.proofs.lemmas.Option.{none-some}
use Rattle.std.specs.List.{find}
use Rattle.mib_model.specs.declared.database.Database.{Database}
use Rattle.mib_model.specs.declared.packet.BadWhy.TheVariants as why
use Rattle.mib_model.specs.declared.packet.Found.{Found}
use Rattle.mib_model.specs.declared.packet.Found.TheVariants.{Spid, Unknown, Idle, Bad}
use Rattle.mib_model.specs.declared.packet.TheConstants.{IDLE_APID}
use Rattle.mib_model.specs.declared.rows.PidRow.{PidRow}
use Rattle.mib_model.specs.Headers.{header_of}
use Rattle.mib_model.specs.Match.{agrees, criterion, discriminants, found_of, found_with, is_well_formed, lacks_service, match_of, service_of, subtype_of}
use Rattle.mib_laws.specs.Matches.{UnknownWithoutARow}

true-false : true ≡ false → ⊥
true-false h = subst (λ b. cond b (Unit {0}) ⊥) h tt

-- what is well-formed is not refused by a test
past : (b : Bool) (refused other : Found) → is_well_formed refused ≡ false → is_well_formed (cond b refused other) ≡ true → cond b refused other ≡ other
past true refused other is well = absurd (true-false (sym well ∙ is))
past false refused other is well = refl

IsWell : Found → Type 0
IsWell found = is_well_formed found ≡ true

settled : (db : Database) (packet : List ℕ) → is_well_formed (match_of db packet) ≡ true → match_of db packet ≡ found_with db.pid packet (discriminants packet (criterion db.pic packet))
unfolding match_of IsWell
settled db packet well =
    let last : Found = found_with db.pid packet (discriminants packet (criterion db.pic packet)) in
    let third : Found = cond (lacks_service packet) (Bad why.Short) last in
    let second : Found = cond (nat_eq (header_of packet).apid IDLE_APID) Idle third in
    let first : Found = cond (header_of packet).telecommand (Bad why.Telecommand) second in
    let a = past (not (nat_eq (header_of packet).version 0)) (Bad why.Version) first refl well in
    let b = past (header_of packet).telecommand (Bad why.Telecommand) second refl (subst IsWell a well) in
    let c = past (nat_eq (header_of packet).apid IDLE_APID) Idle third refl (subst IsWell (a ∙ b) well) in
    let d = past (lacks_service packet) (Bad why.Short) last refl (subst IsWell (a ∙ b ∙ c) well) in
    a ∙ b ∙ c ∙ d

is_spid : Found → Bool
is_spid (Spid spid service subtype tpsd dfhsize) = true
is_spid other = false

by_row : (service subtype : ℕ) (row : Option PidRow) → (found_of service subtype row ≡ Unknown service subtype) ↔ (row ≡ None)
unfolding is_spid
by_row service subtype None = (λ h. refl, λ h. refl)
by_row service subtype (Some row) = (λ h. absurd (true-false (ap is_spid h)), λ h. absurd (none-some row (sym h)))

pub unknown-without : UnknownWithoutARow
unknown-without db packet values well are =
    let is = settled db packet well ∙ ap (found_with db.pid packet) are in
    subst (λ found. (found ≡ Unknown (service_of packet) (subtype_of packet)) ↔ (find (agrees packet values) db.pid ≡ None)) (sym is)
    (by_row (service_of packet) (subtype_of packet) (find (agrees packet values) db.pid))
