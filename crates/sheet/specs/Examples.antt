-- Rules, "Numbers to hold on to": sheet T, and T with 65000 read as 35000.
-- Assumes nothing.
use Rattle.std.specs.Prelude.{ℕ, List, [], ◌∷◌, ◌≡◌, refl}
use Rattle.laws.specs.First.{first_from}
use Rattle.sheet.specs.Sheet.{previous, in_step, lengths_fit, without_rates, offending_rate, verdict_of, given}

abbrev pub depths_t : List ℕ
depths_t = 20 ∷ 60 ∷ 100 ∷ []

abbrev pub rates_t : List ℕ
rates_t = 25 ∷ 75 ∷ []

abbrev pub percents_t : List ℕ
percents_t = 20_000 ∷ 50_000 ∷ 70_000 ∷ 40_000 ∷ 65_000 ∷ 80_000 ∷ []

abbrev pub misread_t : List ℕ
misread_t = 20_000 ∷ 50_000 ∷ 70_000 ∷ 40_000 ∷ 35_000 ∷ 80_000 ∷ []

pub t_is_fine : given (verdict_of depths_t rates_t percents_t) ≡ (0, 0, 0)
unfolding verdict_of lengths_fit offending_rate without_rates in_step previous first_from
t_is_fine = refl

pub misread_t_is_refused : given (verdict_of depths_t rates_t misread_t) ≡ (5, 3, 4)
unfolding verdict_of lengths_fit offending_rate without_rates in_step previous first_from
misread_t_is_refused = refl
