-- In a sound database the points of a curve stand at different x.
use Rattle.std.proofs.Common.{◌≡◌, ◌≢◌, ◌∙◌, ℕ, ℤ, Bool, true, false, not, cond, ◌&&◌, List, [], ◌∷◌, ◌++◌, Option, Some, None, filter, filter_map, find, drop, nat_eq, option_map, refl, sym, ap}
use Rattle.std.specs.Cmp.Lexicographic.{bytes_decides}
use Rattle.std.specs.Cmp.{signed_Decides}
use Rattle.std.specs.List.{AllByRecursion, flat_map, list_any}
use Rattle.std.specs.Option.{option_eq, option_or}
use Rattle.std.specs.Ordering.{int_eq}
use Rattle.std.specs.Str.{bytes_eq}
use Rattle.curve_plan.specs.Knots.{AreApart}
use Rattle.mib_model.specs.declared.database.Database.{Database}
use Rattle.mib_model.specs.declared.fault.MibCode.TheVariants as code
use Rattle.mib_model.specs.declared.kind.Kind.TheVariants as kind
use Rattle.mib_model.specs.declared.plan.CurveRows.{CurveRows}
use Rattle.mib_model.specs.declared.plan.CurveRows.TheVariants.{Points, Texts, Poly, Log}
use Rattle.mib_model.specs.declared.rows.CafRow.{CafRow}
use Rattle.mib_model.specs.declared.rows.CapRow.{CapRow}
use Rattle.mib_model.specs.Curves.{curve_named, is_real_format, log_named, points_named, poly_named, texts_named}
use Rattle.mib_model.specs.Flaws.{flaw_if, table_flaws}
use Rattle.mib_model.specs.Kinds.{kinds}
use Rattle.mib_model.specs.Letters.{letter}
use Rattle.mib_model.specs.Points.{Knot, knot_of}
use Rattle.mib_model.specs.CurveFlaws.{cap_rules, is_bad_point, is_bad_x}
use Rattle.mib_model.specs.Soundness.{IsSound, flaws, flaws_of}
use Rattle.mib_model.specs.WholeNumbers.{whole_number}
use Rattle.mib_laws.proofs.SoundStructures.{append-none, rows-sound, EachRow, NoFlaw}
use Rattle.param_plan.specs.Choices.{IsApart}
use Rattle.param_plan.specs.Laws.{SoundCurvesStandApart}

-- a code that no rule finds
no-code : (b : Bool) → flaw_if code.Points b ≡ None → b ≡ false
no-code true h = absurd (cc h)
no-code false h = refl

right-false : (a b : Bool) → a ≡ true → (a && b) ≡ false → b ≡ false
right-false true b e h = h
right-false false b e h = absurd (cc e)

same-whole : (x : ℤ) (o : Option ℤ) → o ≡ Some x → option_eq int_eq o (Some x) ≡ true
same-whole x None e = absurd (cc e)
same-whole x (Some y) e = let s : y ≡ x = cc in (signed_Decides y x).1 s

any-append : (test : CapRow → Bool) (xs : List CapRow) (y : CapRow) → list_any test xs ≡ true → list_any test (xs ++ y ∷ []) ≡ true
any-append test [] y h = absurd (cc h)
any-append test (x ∷ xs) y h = go (test x) refl h (any-append test xs y) where
  go : (b : Bool) → test x ≡ b → list_any test (x ∷ xs) ≡ true → (list_any test xs ≡ true → list_any test (xs ++ y ∷ []) ≡ true) → list_any test (x ∷ xs ++ y ∷ []) ≡ true
  go true e h later = rw e refl
  go false e h later = rw e (later (rw e at h))

any-last : (test : CapRow → Bool) (xs : List CapRow) (y : CapRow) → test y ≡ true → list_any test (xs ++ y ∷ []) ≡ true
any-last test [] y h = rw h refl
any-last test (x ∷ xs) y h = go (test x) refl (any-last test xs y h) where
  go : (b : Bool) → test x ≡ b → list_any test (xs ++ y ∷ []) ≡ true → list_any test (x ∷ xs ++ y ∷ []) ≡ true
  go true e later = rw e refl
  go false e later = rw e later

module _ (db : Database) (name : List ℕ) (caf : CafRow) (found : find (λ caf. bytes_eq caf.numbr name) db.caf ≡ Some caf) (whole : is_real_format caf.rawfmt ≡ false) where
  abbrev mine : CapRow → Bool
  mine cap = bytes_eq cap.numbr name

  abbrev at_x : ℤ → CapRow → Bool
  at_x x other = bytes_eq other.numbr name && option_eq int_eq (whole_number caf.radix other.xvals) (Some x)

  abbrev knots_in : List CapRow → List Knot
  knots_in rows = filter_map (knot_of caf.radix) (filter mine rows)

  -- a row of the curve at an x at which no earlier row of the curve stands
  fresh : (earlier : List CapRow) (r : CapRow) (x : ℤ) → NoFlaw (cap_rules db) earlier r → mine r ≡ true → whole_number caf.radix r.xvals ≡ Some x → list_any (at_x x) earlier ≡ false
  unfolding NoFlaw
  fresh earlier r x none own e =
      let bad = no-code (is_bad_point (find (λ caf. bytes_eq caf.numbr r.numbr) db.caf) earlier r) none.1.1.0 in
      let same : r.numbr ≡ name = (bytes_decides r.numbr name).0 own in
      let its : find (λ (caf : CafRow). bytes_eq caf.numbr r.numbr) db.caf ≡ Some caf = ap (λ (n : List ℕ). find (λ (caf : CafRow). bytes_eq caf.numbr n) db.caf) same ∙ found in
      let bad' : is_bad_point (Some caf) earlier r ≡ false = rw its at bad in
      let other : is_bad_x caf.radix earlier r (whole_number caf.radix r.xvals) ≡ false = right-false (not (is_real_format caf.rawfmt)) (is_bad_x caf.radix earlier r (whole_number caf.radix r.xvals)) (ap not whole) bad' in
      let other' : is_bad_x caf.radix earlier r (Some x) ≡ false = rw e at other in
      ap (λ (n : List ℕ). list_any (λ (o : CapRow). bytes_eq o.numbr n && option_eq int_eq (whole_number caf.radix o.xvals) (Some x)) earlier) (sym same) ∙ other'

  -- the rows behind an x stand at others
  differ : (earlier rows : List CapRow) → EachRow (NoFlaw (cap_rules db)) earlier rows → (x : ℤ) → list_any (at_x x) earlier ≡ true → AllByRecursion (λ q. q.x ≢ x) (knots_in rows)
  unfolding EachRow
  differ earlier [] each x has = tt
  differ earlier (r ∷ rs) each x has = go (mine r) refl (whole_number caf.radix r.xvals) refl (differ (earlier ++ r ∷ []) rs each.1 x (any-append (at_x x) earlier r has)) where
    go : (b : Bool) → mine r ≡ b → (o : Option ℤ) → whole_number caf.radix r.xvals ≡ o → AllByRecursion (λ q. q.x ≢ x) (knots_in rs) → AllByRecursion (λ q. q.x ≢ x) (knots_in (r ∷ rs))
    go false e o f rest = rw e rest
    go true e None f rest = rw (e, f) rest
    go true e (Some y) f rest = rw (e, f) ((λ s. absurd (let g = fresh earlier r x each.0 e (f ∙ ap Some s) in cc)), rest)

  apart-from : (earlier rows : List CapRow) → EachRow (NoFlaw (cap_rules db)) earlier rows → AreApart (knots_in rows)
  unfolding EachRow
  apart-from earlier [] each = tt
  apart-from earlier (r ∷ rs) each = go (mine r) refl (whole_number caf.radix r.xvals) refl (apart-from (earlier ++ r ∷ []) rs each.1) where
    go : (b : Bool) → mine r ≡ b → (o : Option ℤ) → whole_number caf.radix r.xvals ≡ o → AreApart (knots_in rs) → AreApart (knots_in (r ∷ rs))
    go false e o f rest = rw e rest
    go true e None f rest = rw (e, f) rest
    go true e (Some y) f rest =
        let here : at_x y r ≡ true = rw e (same-whole y (whole_number caf.radix r.xvals) f) in
        rw (e, f) (differ (earlier ++ r ∷ []) rs each.1 y (any-last (at_x y) earlier r here), rest)

-- the points have no flaws in a sound database
cap-sound : (db : Database) → IsSound db → table_flaws kind.Cap (cap_rules db) db.cap ≡ []
unfolding flaws
cap-sound db sound =
    let pcf = append-none (flaws_of db kind.Pcf) (flat_map (flaws_of db) (drop 1 kinds)) sound in
    let pid = append-none (flaws_of db kind.Pid) (flat_map (flaws_of db) (drop 2 kinds)) pcf.1 in
    let pic = append-none (flaws_of db kind.Pic) (flat_map (flaws_of db) (drop 3 kinds)) pid.1 in
    let tpcf = append-none (flaws_of db kind.Tpcf) (flat_map (flaws_of db) (drop 4 kinds)) pic.1 in
    let plf = append-none (flaws_of db kind.Plf) (flat_map (flaws_of db) (drop 5 kinds)) tpcf.1 in
    let vpd = append-none (flaws_of db kind.Vpd) (flat_map (flaws_of db) (drop 6 kinds)) plf.1 in
    let cur = append-none (flaws_of db kind.Cur) (flat_map (flaws_of db) (drop 7 kinds)) vpd.1 in
    let caf = append-none (flaws_of db kind.Caf) (flat_map (flaws_of db) (drop 8 kinds)) cur.1 in
    (append-none (flaws_of db kind.Cap) (flat_map (flaws_of db) (drop 9 kinds)) caf.1).0

module _ (db : Database) (sound : IsSound db) where
  points-apart : (name : List ℕ) → IsApart (points_named db name)
  points-apart name = go (find (λ caf. bytes_eq caf.numbr name) db.caf) refl where
    go : (o : Option CafRow) → find (λ caf. bytes_eq caf.numbr name) db.caf ≡ o → IsApart (option_map (λ caf. Points caf (filter (λ cap. bytes_eq cap.numbr name) db.cap)) o)
    go None e = tt
    go (Some caf) e = λ whole. apart-from db name caf e whole [] db.cap (rows-sound kind.Cap (cap_rules db) db.cap (cap-sound db sound))

  texts-apart : (name : List ℕ) → IsApart (texts_named db name)
  texts-apart name = go (find (λ txf. bytes_eq txf.numbr name) db.txf) where
    go : (o : Option _) → IsApart (option_map (λ txf. Texts txf (filter (λ txp. bytes_eq txp.numbr name) db.txp)) o)
    go None = tt
    go (Some txf) = tt

  poly-apart : (name : List ℕ) → IsApart (poly_named db name)
  poly-apart name = go (find (λ mcf. bytes_eq mcf.ident name) db.mcf) where
    go : (o : Option _) → IsApart (option_map (λ mcf. Poly mcf) o)
    go None = tt
    go (Some mcf) = tt

  log-apart : (name : List ℕ) → IsApart (log_named db name)
  log-apart name = go (find (λ lgf. bytes_eq lgf.ident name) db.lgf) where
    go : (o : Option _) → IsApart (option_map (λ lgf. Log lgf) o)
    go None = tt
    go (Some lgf) = tt

  either : (a b : Option CurveRows) → IsApart a → IsApart b → IsApart (option_or a b)
  either None b p q = q
  either (Some rows) b p q = p

  chosen : (b : Bool) (x y : Option CurveRows) → IsApart x → IsApart y → IsApart (cond b x y)
  chosen true x y p q = p
  chosen false x y p q = q

  named-apart : (categ : ℕ) (name : List ℕ) → IsApart (curve_named db categ name)
  unfolding curve_named
  named-apart categ name =
      chosen (nat_eq categ (letter "S")) (texts_named db name) (cond (nat_eq categ (letter "T")) None (option_or (points_named db name) (option_or (poly_named db name) (log_named db name)))) (texts-apart name)
      (chosen (nat_eq categ (letter "T")) None (option_or (points_named db name) (option_or (poly_named db name) (log_named db name))) tt
      (either (points_named db name) (option_or (poly_named db name) (log_named db name)) (points-apart name) (either (poly_named db name) (log_named db name) (poly-apart name) (log-apart name))))

pub curves-apart : SoundCurvesStandApart
curves-apart db categ name sound = named-apart db sound categ name
