-- Bisection finds the first number at which a test fails, where the test, once failed, never passes again.
-- Assumes nothing.
use Prim.Native.Nat.{ℕ, suc, ◌+◌, ◌-◌, ◌/◌, ◌^◌, ◌≤◌, ◌<◌}
use mathlib.Core.Bool.{Bool, true, false}
use mathlib.Core.Path.{◌≡◌}
use native.Mathlib.Nat.{le_refl}
use native.Mathlib.Omega.{arith}
use Rattle.laws.proofs.First.{Once, first_le, fails_so_below, passes_so_above}
use Rattle.laws.specs.First.{first}

-- the number halfway from low to high
abbrev pub middle : ℕ → ℕ → ℕ
middle low high = low + (high - low) / 2

-- A loop's turn: the first number at which the test fails lies from low to high, and so many trials are enough to find it.
pub record Halving (test : ℕ → Bool) (n trials low high : ℕ) : Type 0 where
  pub least : low ≤ first test n
  pub most : first test n ≤ high
  pub within : high ≤ n
  pub enough : high - low < 2 ^ trials

module _ (test : ℕ → Bool) (n : ℕ) where
  -- At first it lies from 0 to n;
  pub halving_starts : (trials : ℕ) → n < 2 ^ trials → Halving test n trials 0 n
  halving_starts trials w = record { least = omega arith; most = first_le test n; within = le_refl n; enough = omega arith }

  -- a trial taken halves what is left.
  halved : (trials low high : ℕ) → Halving test n trials low high → 0 < trials → high - low < 2 ^ suc (trials - 1)
  halved trials low high s h =
      let e : trials ≡ suc (trials - 1) = omega arith in
      rw e at s.enough

  -- Where the test passes in the middle, it lies above;
  pub halving_up : (trials low high : ℕ) → Once test n → Halving test n trials low high → 0 < trials → low < high → test (middle low high) ≡ true
      → Halving test n (trials - 1) (middle low high + 1) high
  halving_up trials low high once s h l e =
      let w = s.within in
      let m = s.most in
      let a = passes_so_above test n (middle low high) once (omega arith) e in
      let k = halved trials low high s h in
      record { least = omega arith; most = m; within = w; enough = omega arith }

  -- where it fails, not above.
  pub halving_down : (trials low high : ℕ) → Halving test n trials low high → 0 < trials → low < high → test (middle low high) ≡ false
      → Halving test n (trials - 1) low (middle low high)
  halving_down trials low high s h l e =
      let w = s.within in
      let b = fails_so_below test n (middle low high) e in
      let k = halved trials low high s h in
      record { least = s.least; most = b; within = omega arith; enough = omega arith }

  -- Where low and high have met, both are it;
  pub halving_done : (trials low high : ℕ) → Halving test n trials low high → high ≤ low → low ≡ first test n
  halving_done trials low high s l = omega (arith, s.least, s.most)

  -- and with no trial left they have met.
  pub halving_met : (trials low high : ℕ) → Halving test n trials low high → trials ≤ 0 → high ≤ low
  halving_met trials low high s l =
      let e : trials ≡ 0 = omega arith in
      let k : high - low < 2 ^ 0 = rw e at s.enough in
      omega arith

  pub halving_out : (trials low high : ℕ) → Halving test n trials low high → trials ≤ 0 → low ≡ first test n
  halving_out trials low high s l = halving_done trials low high s (halving_met trials low high s l)
