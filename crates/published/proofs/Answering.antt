-- The answers of a published practice are those of its sheet, or 4.
-- Assumes nothing.
use Prim.Native.Nat.{ℕ}
use mathlib.Core.Path.{◌≡◌, ap}
use Rattle.std.specs.Prelude.{Ok, Err}
use Rattle.refusal.specs.declared.Refusal.{Refusal}
use Rattle.units.specs.declared.Nutrient.{Nutrient}
use Rattle.sheet.specs.declared.Sheet.{Sheet}
use Rattle.curve.specs.declared.Mode.{Mode}
use Rattle.curve.specs.declared.SheetError.TheVariants as error
use Rattle.curve.specs.Answers.{PercentAnswer, ReachAnswer, percent_answer, reach_of}
use Rattle.published.specs.Published.{Lists, sheet_of, percent_published, reach_published}
use Rattle.published.proofs.Sheets.{sheet_told, none_told}

module _ (practice : ℕ) (nutrient : Nutrient) (mode : Mode) (rate : ℕ) where
  module _ (s : Sheet) (told : Ok (s.depths.now, s.rates.now, s.percents.now) ≡ sheet_of practice nutrient) where
    pub percent_found : (d : ℕ) {a : PercentAnswer} → a ≡ percent_answer s.depths.now s.rates.now s.percents.now mode rate d
        → a ≡ percent_published practice nutrient mode rate d
    percent_found d h =
        let t = sheet_told practice nutrient told in
        rw t.0 (rw (ap (λ (l : Lists). l.0) t.1, ap (λ (l : Lists). l.1) t.1, ap (λ (l : Lists). l.2) t.1) at h)

    pub reach_found : (target : ℕ) {a : ReachAnswer} → a ≡ reach_of s.depths.now s.rates.now s.percents.now mode rate target
        → a ≡ reach_published practice nutrient mode rate target
    reach_found target h =
        let t = sheet_told practice nutrient told in
        rw t.0 (rw (ap (λ (l : Lists). l.0) t.1, ap (λ (l : Lists). l.1) t.1, ap (λ (l : Lists). l.2) t.1) at h)

  module _ {why : Refusal} (told : Err why ≡ sheet_of practice nutrient) where
    pub percent_none : (d : ℕ) → Err (error.Refused why) ≡ percent_published practice nutrient mode rate d
    percent_none d = let t = none_told practice nutrient told in rw (t.0, t.1)

    pub reach_none : (target : ℕ) → Err (error.Refused why) ≡ reach_published practice nutrient mode rate target
    reach_none target = let t = none_told practice nutrient told in rw (t.0, t.1)
