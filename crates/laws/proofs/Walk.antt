-- A walk that tries one number after the other finds the first number at which a test fails.
-- Assumes nothing.
use Prim.Native.Nat.{ℕ, ◌+◌, ◌≤◌, ◌<◌}
use mathlib.Core.Bool.{Bool, true, false}
use mathlib.Core.Logic.{⊎_elim}
use mathlib.Core.Path.{◌≡◌, sym, subst}
use native.Mathlib.Nat.{eq-or-lt_of_le}
use native.Mathlib.Omega.{arith}
use Rattle.laws.specs.First.{first}
use Rattle.laws.proofs.First.{first_is}

-- the walk has come to i, at most n, and the test passes at each number before i
pub record Walked (test : ℕ → Bool) (n i : ℕ) : Type 0 where
  pub within : i ≤ n
  pub passed : (k : ℕ) → k < i → test k ≡ true

module _ {test : ℕ → Bool} {n : ℕ} where
  -- It starts at 0.
  pub walk_start : Walked test n 0
  walk_start = record { within = omega arith; passed = λ k h. absurd (omega arith) }

  -- It goes on where the test passes.
  pub walk_on : {i : ℕ} → Walked test n i → i < n → test i ≡ true → Walked test n (i + 1)
  walk_on {i} w h e =
      record {
        within = omega arith;
        passed = λ k l. ⊎_elim (λ (m : k ≡ i). subst (λ (j : ℕ). test j ≡ true) (sym m) e) (λ (m : k < i). w.passed k m) (eq-or-lt_of_le (below k i l));
      }
    where
      below : (k i : ℕ) → k < i + 1 → k ≤ i
      below k i l = omega arith

  -- It has found the number where the test fails,
  pub walk_found : {i : ℕ} → Walked test n i → test i ≡ false → i ≡ first test n
  walk_found {i} w e = first_is test n i w.within w.passed (λ h. e)

  -- and n where it has come to the end.
  pub walk_end : {i : ℕ} → Walked test n i → n ≤ i → i ≡ first test n
  walk_end {i} w h =
      let l = w.within in
      first_is test n i w.within w.passed (λ m. absurd (omega arith))
