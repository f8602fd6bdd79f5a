-- The promises hold: a practice's sheet is the one of its tables, 4 is given where there is none, and no percent is held.
-- Assumes nothing.
use Prim.Native.Nat.{ℕ, ◌<◌}
use mathlib.Core.Bool.{Bool, true, false, cond}
use mathlib.Core.List.{List, []}
use Rattle.std.specs.Prelude.{Result, Ok, Err}
use mathlib.Core.Logic.{⊎_elim, inr}
use mathlib.Core.Path.{◌≡◌, refl, sym, ap}
use native.Mathlib.Omega.{arith}
use Rattle.refusal.specs.declared.Refusal.{Refusal}
use Rattle.refusal.specs.declared.Refusal.TheVariants.{NoPublishedSheet}
use Rattle.refusal.specs.Refusal.{number_of, granted}
use Rattle.refusal.proofs.Numbers.{refusal_not_granted}
use Rattle.curve.specs.Curve.{curves_of}
use Rattle.curve.proofs.Found.{told_held}
use Rattle.published.specs.Tables.{depths}
use Rattle.published.specs.Published.{last_practice, rates_of, percents_of, is_published, Lists, sheet_of, given}
use Rattle.published.specs.Promises.{NeverHeld, SheetStandsThere, FourExactly, GrantedElse}
use Rattle.published.proofs.Sheets.{sheet_told, none_above}

-- A sheet that is given, and one that is not, are told by the numbers.
given_sheet : (v : Result Lists Refusal) {ds rs ps : List ℕ} → given v ≡ (granted, ds, rs, ps) → v ≡ Ok (ds, rs, ps)
given_sheet (Ok (a, b, c)) h =
    rw (
      ap (λ (t : ℕ × List ℕ × List ℕ × List ℕ). t.1) h,
      ap (λ (t : ℕ × List ℕ × List ℕ × List ℕ). t.2) h,
      ap (λ (t : ℕ × List ℕ × List ℕ × List ℕ). t.3) h,
    )
given_sheet (Err why) h = absurd (refusal_not_granted why (ap (λ (t : ℕ × List ℕ × List ℕ × List ℕ). t.0) h))

pub sheet_stands_there : SheetStandsThere
sheet_stands_there practice nutrient ds rs ps h =
    let t = (sheet_told practice nutrient (sym (given_sheet (sheet_of practice nutrient) h))).1 in
    record {
      depths_there = ap (λ (l : Lists). l.0) t;
      rates_there = ap (λ (l : Lists). l.1) t;
      percents_there = ap (λ (l : Lists). l.2) t;
    }

-- One test decides.
four : (b : Bool) (l : Lists) → b ≡ false → given (cond b (Ok l) (Err NoPublishedSheet)) ≡ (number_of NoPublishedSheet, [], [], [])
four b l e = rw e

not_four : (b : Bool) (l : Lists) → given (cond b (Ok l) (Err NoPublishedSheet)) ≡ (number_of NoPublishedSheet, [], [], []) → b ≡ false
not_four true l h =
    let n : granted ≡ number_of NoPublishedSheet = ap (λ (t : ℕ × List ℕ × List ℕ × List ℕ). t.0) h in
    absurd (omega arith)
not_four false l h = refl

pub four_exactly : FourExactly
four_exactly practice nutrient =
    let l : Lists = (depths, rates_of practice nutrient, percents_of practice nutrient) in (
      λ h. inr (not_four (is_published practice nutrient) l h),
      λ o. four (is_published practice nutrient) l
          (⊎_elim (λ (h : last_practice < practice). none_above nutrient practice h) (λ (e : is_published practice nutrient ≡ false). e) o),
    )

pub granted_else : GrantedElse
granted_else practice nutrient e = rw e

pub never_held : NeverHeld
never_held practice nutrient mode r d h e =
    let l = told_held depths (curves_of (rates_of practice nutrient) mode r) d e in
    omega arith
