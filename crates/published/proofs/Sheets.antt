-- The sheet of a practice: what is given of one that is published, and that there is none above 8.
-- Assumes nothing.
use Prim.Native.Nat.{ℕ, ◌≤◌, ◌<◌}
use mathlib.Core.Bool.{Bool, true, false, cond}
use mathlib.Core.List.{List, [], ◌∷◌, map}
use mathlib.Core.Path.{◌≡◌, refl, sym, ◌∙◌, ap}
use native.Mathlib.Omega.{arith}
use Rattle.std.specs.Prelude.{Result, Ok, Err}
use lib.Dec.{eqb}
use lib.ListN.{length, get_or, get_or-eq_default}
use borrow.Author.Tests.{eqb-true, eqb-false, lt-ltb}
use Rattle.std.proofs.lemmas.List.{get_or-map, length-map}
use Rattle.laws.proofs.Table.{every, carry}
use Rattle.refusal.specs.declared.Refusal.{Refusal}
use Rattle.refusal.specs.declared.Refusal.TheVariants.{NoPublishedSheet}
use Rattle.units.specs.declared.Nutrient.{Nutrient}
use Rattle.units.specs.declared.Nutrient.TheVariants.{P, N}
use Rattle.sheet.specs.declared.Sheet.{Sheet}
use Rattle.published.specs.Tables.{depths, sheets}
use Rattle.published.specs.Published.{last_practice, rates_of, percents_of, is_published, Lists, lent, with_depths, sheet_of}

-- the practice numbers
abbrev pub practices : List ℕ
practices = 0 ∷ 1 ∷ 2 ∷ 3 ∷ 4 ∷ 5 ∷ 6 ∷ 7 ∷ 8 ∷ []

-- A test that passes for the nine practices passes for every number up to 8.
pub for_each : (test : ℕ → Bool) → every (λ k x. test k) practices ≡ true → (p : ℕ) → p ≤ last_practice → test p ≡ true
for_each test e p h = carry (λ k x. test k) practices e p (omega arith)

-- A number above 8 has no sheet.
pub none_above : (nutrient : Nutrient) (p : ℕ) → last_practice < p → is_published p nutrient ≡ false
unfolding rates_of
none_above P p h = rw (get_or-eq_default (sheets P) ([], []) h)
none_above N p h = rw (get_or-eq_default (sheets N) ([], []) h)

-- What is given is the sheet of a practice that has one,
told_sheet : (b : Bool) {l : Lists} (k : Lists) (why : Refusal) → ◌≡◌ {A = Result Lists Refusal} (Ok l) (cond b (Ok k) (Err why)) → (b ≡ true) × (l ≡ k)
told_sheet true k why e = (refl, cc)
told_sheet false k why e = cc

-- or there is none.
told_none : (b : Bool) (k : Lists) {r : Refusal} (why : Refusal) → ◌≡◌ {A = Result Lists Refusal} (Err r) (cond b (Ok k) (Err why)) → (b ≡ false) × (r ≡ why)
told_none true k why e = cc
told_none false k why e = (refl, cc)

module _ (practice : ℕ) (nutrient : Nutrient) where
  pub sheet_told : {l : Lists} → Ok l ≡ sheet_of practice nutrient
      → (is_published practice nutrient ≡ true) × (l ≡ (depths, rates_of practice nutrient, percents_of practice nutrient))
  sheet_told e = told_sheet (is_published practice nutrient) (depths, rates_of practice nutrient, percents_of practice nutrient) NoPublishedSheet e

  pub none_told : {why : Refusal} → Err why ≡ sheet_of practice nutrient → (is_published practice nutrient ≡ false) × (why ≡ NoPublishedSheet)
  none_told e = told_none (is_published practice nutrient) (depths, rates_of practice nutrient, percents_of practice nutrient) NoPublishedSheet e

pub refused_above : (nutrient : Nutrient) (practice : ℕ) → last_practice < practice → Err NoPublishedSheet ≡ sheet_of practice nutrient
refused_above nutrient practice h = rw (none_above nutrient practice h)

-- The table of a nutrient holds the sheet of each practice.
nine : (nutrient : Nutrient) → length (sheets nutrient) ≡ 9
nine P = refl
nine N = refl

module _ (nutrient : Nutrient) (practice : ℕ) (h : practice ≤ last_practice) (t : List Sheet) (same : map lent t ≡ map with_depths (sheets nutrient)) (d : Sheet) where
  entry : lent (get_or t practice d) ≡ (depths, rates_of practice nutrient, percents_of practice nutrient)
  unfolding rates_of percents_of
  entry =
      let n = nine nutrient in
      let a = length-map t lent in
      let b = length-map (sheets nutrient) with_depths in
      let e : length (map lent t) ≡ length (map with_depths (sheets nutrient)) = ap length same in
      sym (get_or-map lent t practice d (lent d) (omega arith)) ∙ ap (λ (l : List Lists). get_or l practice (lent d)) same
      ∙ get_or-map with_depths (sheets nutrient) practice ([], []) (lent d) (omega arith)

  rates_there : (get_or t practice d).rates.now ≡ rates_of practice nutrient
  rates_there = ap (λ (l : Lists). l.1) entry

  pub given_where_some : {b : Bool} → b ≡ eqb (length (get_or t practice d).rates.now) 0 → b ≡ false → Ok (lent (get_or t practice d)) ≡ sheet_of practice nutrient
  given_where_some e f =
      let n = eqb-false (length (get_or t practice d).rates.now) 0 (sym e ∙ f) in
      rw entry (simp (lt-ltb 0 (length (rates_of practice nutrient)) (rw rates_there at (nonzero (length (get_or t practice d).rates.now) n))))
    where
      nonzero : (n : ℕ) → (n ≡ 0 → ⊥) → 0 < n
      nonzero n g = omega arith

  pub refused_where_none : {b : Bool} → b ≡ eqb (length (get_or t practice d).rates.now) 0 → b ≡ true → Err NoPublishedSheet ≡ sheet_of practice nutrient
  refused_where_none e f =
      let z = eqb-true (length (get_or t practice d).rates.now) 0 (sym e ∙ f) in
      simp (rw rates_there at z)
