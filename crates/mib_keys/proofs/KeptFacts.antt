-- The flaws of a table depend on the tables alone that it reads: where these are the same, the flaws are.
use Rattle.std.proofs.Common.{◌≡◌, ◌∙◌, ℕ, zero, suc, ◌<◌, Bool, true, false, ◌&&◌, ◌||◌, not, List, [], ◌∷◌, ◌++◌, get_or, length, refl, sym, ap, arith}
use Rattle.std.specs.List.{flat_map}
use Rattle.mib_model.specs.declared.database.Database.{Database}
use Rattle.mib_model.specs.declared.kind.Kind.{Kind}
use Rattle.mib_model.specs.declared.kind.Kind.TheVariants as kind
use Rattle.mib_model.specs.Kinds.{kinds}
use Rattle.mib_model.specs.Soundness.{IsSound, flaws, flaws_of}
use Rattle.mib_model.specs.Structures.{structure}
use Rattle.mib_keys.specs.Kept.{AreSameIn, contains, covers, tables_read}
use Rattle.mib_tables.specs.declared.table_set.TableSet.{TableSet}
use Rattle.mib_tables.specs.Parts.{if_kept, part_of}

-- both parts of what is true
both : (a b : Bool) → (a && b) ≡ true → (a ≡ true) × (b ≡ true)
both true b h = (refl, h)
both false b h = absurd (cc h)

-- a table of a part of a set is one of the set
in-set : (a b : Bool) → (a || not b) ≡ true → b ≡ true → a ≡ true
in-set true b h is = refl
in-set false b h is = absurd (cc (h, is))

-- databases that are the same in a set are the same in a part of it
module _ (set part : TableSet) (old new : Database) (same : AreSameIn set old new) where
  same-in-part : contains set part ≡ true → AreSameIn part old new
  same-in-part h14 =
      let b14 = both _ _ h14 in
      let b13 = both _ _ b14.0 in
      let b12 = both _ _ b13.0 in
      let b11 = both _ _ b12.0 in
      let b10 = both _ _ b11.0 in
      let b9 = both _ _ b10.0 in
      let b8 = both _ _ b9.0 in
      let b7 = both _ _ b8.0 in
      let b6 = both _ _ b7.0 in
      let b5 = both _ _ b6.0 in
      let b4 = both _ _ b5.0 in
      let b3 = both _ _ b4.0 in
      let b2 = both _ _ b3.0 in
      let b1 = both _ _ b2.0 in
      record {
        pcf = λ h. same.pcf (in-set set.pcf part.pcf b1.0 h);
        pid = λ h. same.pid (in-set set.pid part.pid b1.1 h);
        pic = λ h. same.pic (in-set set.pic part.pic b2.1 h);
        tpcf = λ h. same.tpcf (in-set set.tpcf part.tpcf b3.1 h);
        plf = λ h. same.plf (in-set set.plf part.plf b4.1 h);
        vpd = λ h. same.vpd (in-set set.vpd part.vpd b5.1 h);
        cur = λ h. same.cur (in-set set.cur part.cur b6.1 h);
        caf = λ h. same.caf (in-set set.caf part.caf b7.1 h);
        cap = λ h. same.cap (in-set set.cap part.cap b8.1 h);
        txf = λ h. same.txf (in-set set.txf part.txf b9.1 h);
        txp = λ h. same.txp (in-set set.txp part.txp b10.1 h);
        mcf = λ h. same.mcf (in-set set.mcf part.mcf b11.1 h);
        lgf = λ h. same.lgf (in-set set.lgf part.lgf b12.1 h);
        ocf = λ h. same.ocf (in-set set.ocf part.ocf b13.1 h);
        ocp = λ h. same.ocp (in-set set.ocp part.ocp b14.1 h);
      }

-- rows of a table that is kept, where it has the same rows
if-same : {R : Type 0} (kept : Bool) (xs ys : List R) → (kept ≡ true → xs ≡ ys) → if_kept kept xs ≡ if_kept kept ys
if-same true xs ys same = same refl
if-same false xs ys same = refl

-- databases that are the same in a set have the same part
part-alike : (set : TableSet) (old new : Database) → AreSameIn set old new → part_of set old ≡ part_of set new
part-alike set old new same = λ i. record {
  pcf = if-same set.pcf old.pcf new.pcf same.pcf i;
  pid = if-same set.pid old.pid new.pid same.pid i;
  pic = if-same set.pic old.pic new.pic same.pic i;
  tpcf = if-same set.tpcf old.tpcf new.tpcf same.tpcf i;
  plf = if-same set.plf old.plf new.plf same.plf i;
  vpd = if-same set.vpd old.vpd new.vpd same.vpd i;
  cur = if-same set.cur old.cur new.cur same.cur i;
  caf = if-same set.caf old.caf new.caf same.caf i;
  cap = if-same set.cap old.cap new.cap same.cap i;
  txf = if-same set.txf old.txf new.txf same.txf i;
  txp = if-same set.txp old.txp new.txp same.txp i;
  mcf = if-same set.mcf old.mcf new.mcf same.mcf i;
  lgf = if-same set.lgf old.lgf new.lgf same.lgf i;
  ocf = if-same set.ocf old.ocf new.ocf same.ocf i;
  ocp = if-same set.ocp old.ocp new.ocp same.ocp i;
}

-- the flaws of a table are those of the tables that it reads
pub flaws-read-alone : (db : Database) (k : Kind) → flaws_of (part_of (tables_read k) db) k ≡ flaws_of db k
unfolding structure
flaws-read-alone db kind.Pcf = refl
flaws-read-alone db kind.Pid = refl
flaws-read-alone db kind.Pic = refl
flaws-read-alone db kind.Tpcf = refl
flaws-read-alone db kind.Plf = refl
flaws-read-alone db kind.Vpd = refl
flaws-read-alone db kind.Cur = refl
flaws-read-alone db kind.Caf = refl
flaws-read-alone db kind.Cap = refl
flaws-read-alone db kind.Txf = refl
flaws-read-alone db kind.Txp = refl
flaws-read-alone db kind.Mcf = refl
flaws-read-alone db kind.Lgf = refl
flaws-read-alone db kind.Ocf = refl
flaws-read-alone db kind.Ocp = refl

-- the flaws of a table are the same where the set has all tables that it reads
pub flaws-same : (set : TableSet) (old new : Database) → AreSameIn set old new → (k : Kind) → covers set k ≡ true → flaws_of old k ≡ flaws_of new k
flaws-same set old new same k h =
    sym (flaws-read-alone old k) ∙ ap (λ db. flaws_of db k) (part-alike (tables_read k) old new (same-in-part set (tables_read k) old new same h)) ∙ flaws-read-alone new k

none-before : {X : Type 0} (xs ys : List X) → xs ++ ys ≡ [] → (xs ≡ []) × (ys ≡ [])
none-before [] ys h = (refl, h)
none-before (x ∷ xs) ys h = absurd (omega (arith, ap length h))

none-at : {A X : Type 0} (f : A → List X) (items : List A) (i : ℕ) (d : A) → i < length items → flat_map f items ≡ [] → f (get_or items i d) ≡ []
none-at f [] i d below h = absurd (omega (arith, below))
none-at f (a ∷ more) zero d below h = (none-before (f a) (flat_map f more) h).0
none-at f (a ∷ more) (suc i) d below h = none-at f more i d (omega (arith, below)) (none-before (f a) (flat_map f more) h).1

-- no table of a sound database has a flaw
pub none-of : (db : Database) → IsSound db → (k : Kind) → flaws_of db k ≡ []
unfolding flaws
none-of db sound kind.Pcf = none-at (flaws_of db) kinds 0 kind.Pcf (omega arith) sound
none-of db sound kind.Pid = none-at (flaws_of db) kinds 1 kind.Pcf (omega arith) sound
none-of db sound kind.Pic = none-at (flaws_of db) kinds 2 kind.Pcf (omega arith) sound
none-of db sound kind.Tpcf = none-at (flaws_of db) kinds 3 kind.Pcf (omega arith) sound
none-of db sound kind.Plf = none-at (flaws_of db) kinds 4 kind.Pcf (omega arith) sound
none-of db sound kind.Vpd = none-at (flaws_of db) kinds 5 kind.Pcf (omega arith) sound
none-of db sound kind.Cur = none-at (flaws_of db) kinds 6 kind.Pcf (omega arith) sound
none-of db sound kind.Caf = none-at (flaws_of db) kinds 7 kind.Pcf (omega arith) sound
none-of db sound kind.Cap = none-at (flaws_of db) kinds 8 kind.Pcf (omega arith) sound
none-of db sound kind.Txf = none-at (flaws_of db) kinds 9 kind.Pcf (omega arith) sound
none-of db sound kind.Txp = none-at (flaws_of db) kinds 10 kind.Pcf (omega arith) sound
none-of db sound kind.Mcf = none-at (flaws_of db) kinds 11 kind.Pcf (omega arith) sound
none-of db sound kind.Lgf = none-at (flaws_of db) kinds 12 kind.Pcf (omega arith) sound
none-of db sound kind.Ocf = none-at (flaws_of db) kinds 13 kind.Pcf (omega arith) sound
none-of db sound kind.Ocp = none-at (flaws_of db) kinds 14 kind.Pcf (omega arith) sound
