-- The straight lines between the rows of Table 3-4.
-- Assumes nothing.
use Prim.Native.Nat.{ℕ, zero, suc, ◌-◌, ◌*◌, ◌%◌, ◌≤◌, ◌<◌}
use mathlib.Core.Bool.{Bool, true, ◌&&◌, and-eq-true_iff}
use mathlib.Core.List.{List, [], ◌∷◌}
use mathlib.Core.Path.{◌≡◌, refl}
use native.Mathlib.Nat.{le_refl, le_trans, dvd-add, dvd-mul_left_of_dvd, dvd-mul_right_of_dvd, dvd_of_mod-eq-zero, div-mul_cancel}
use native.Mathlib.Omega.{arith}
use lib.Dec.{leb, eqb}
use lib.ListN.{length, drop, get_or}
use borrow.Author.Tests.{le-ltb, lt-ltb, leb-true, eqb-true}
use Rattle.laws.specs.Line.{line}
use Rattle.units.specs.declared.Column.{Column}
use Rattle.units.specs.Columns.{column_place}
use Rattle.runoff.specs.Runoff.{rows, rain, printed, between, from_row, by_rows, runoff_of}
use Rattle.runoff.specs.Promises.{row_at, gap_at}

-- Where the gap between two rows divides 300, the quotient of their line rounds nothing.
between_whole : (low high : List ℕ) (column d : ℕ) → 300 % (rain high - rain low) ≡ 0
    → between low high column d * (rain high - rain low) ≡ line (rain low) (printed low column) (rain high) (printed high column) d
between_whole low high column d e =
    let whole = dvd_of_mod-eq-zero (rain high - rain low) e in
    div-mul_cancel (rain high - rain low)
    (dvd-add (rain high - rain low)
    (dvd-mul_left_of_dvd (rain high - rain low) (dvd-mul_right_of_dvd (rain high - rain low) whole _) _)
    (dvd-mul_left_of_dvd (rain high - rain low) (dvd-mul_right_of_dvd (rain high - rain low) whole _) _))

-- each row's rain is at most the next one's, and the gap divides 300
abbrev sound : List (List ℕ) → Bool
sound [] = true
sound (low ∷ []) = true
sound (low ∷ high ∷ rest) = leb (rain low) (rain high) && (eqb (300 % (rain high - rain low)) 0 && sound (high ∷ rest))

record Sound (low high : List ℕ) (rest : List (List ℕ)) : Type 0 where
  pub order : rain low ≤ rain high
  pub divides : 300 % (rain high - rain low) ≡ 0
  pub others : sound (high ∷ rest) ≡ true

sound_parts : (low high : List ℕ) (rest : List (List ℕ)) → sound (low ∷ high ∷ rest) ≡ true → Sound low high rest
sound_parts low high rest t =
    let a = (and-eq-true_iff (leb (rain low) (rain high)) (eqb (300 % (rain high - rain low)) 0 && sound (high ∷ rest))).0 t in
    let b = (and-eq-true_iff (eqb (300 % (rain high - rain low)) 0) (sound (high ∷ rest))).0 a.1 in
    record { order = leb-true (rain low) (rain high) a.0; divides = eqb-true _ _ b.0; others = b.1 }

-- The first row's rain is the least.
first_least : (low : List ℕ) (rest : List (List ℕ)) (k : ℕ) → sound (low ∷ rest) ≡ true → k < length (low ∷ rest)
    → rain low ≤ rain (get_or (low ∷ rest) k [])
first_least low rest zero t h = le_refl (rain low)
first_least low [] (suc k) t h = absurd (omega arith)
first_least low (high ∷ rest) (suc k) t h =
    let p = sound_parts low high rest t in
    le_trans p.order (first_least high rest k p.others (omega arith))

-- From a row up to the next, the runoff by the rows is the line between the two.
along : (low : List ℕ) (rest : List (List ℕ)) (k column d : ℕ) → sound (low ∷ rest) ≡ true → k < length rest
    → rain (get_or (low ∷ rest) k []) ≤ d → d < rain (get_or rest k [])
    → from_row low rest column d * (rain (get_or rest k []) - rain (get_or (low ∷ rest) k []))
    ≡ line (rain (get_or (low ∷ rest) k [])) (printed (get_or (low ∷ rest) k []) column) (rain (get_or rest k [])) (printed (get_or rest k []) column) d
unfolding from_row
along low [] k column d t h l m = absurd (omega arith)
along low (high ∷ rest) zero column d t h l m =
    let p = sound_parts low high rest t in
    simp (lt-ltb d (rain high) m) (between_whole low high column d p.divides)
along low (high ∷ rest) (suc k) column d t h l m =
    let p = sound_parts low high rest t in
    let g = first_least high rest k p.others (omega arith) in
    simp (le-ltb d (rain high) (le_trans g l)) (along high rest k column d p.others (omega arith) l m)

-- the rows after the first
abbrev later : List (List ℕ)
later = drop 1 rows

pub straight : (c : Column) (k d : ℕ) → suc k < length rows → rain (row_at k) ≤ d → d < rain (row_at (suc k))
    → runoff_of c d * gap_at k
    ≡ line (rain (row_at k)) (printed (row_at k) (column_place c)) (rain (row_at (suc k))) (printed (row_at (suc k)) (column_place c)) d
unfolding runoff_of by_rows
straight c k d h l m =
    let g = first_least (row_at 0) later k refl (omega arith) in
    simp (le-ltb d (rain (row_at 0)) (le_trans g l)) (along (row_at 0) later k (column_place c) d refl (omega arith) l m)

pub none_below : (c : Column) (d : ℕ) → d < 10 → runoff_of c d ≡ 0
unfolding runoff_of by_rows
none_below c d h = simp (lt-ltb d 10 h)
