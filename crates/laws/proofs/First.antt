-- Laws of the first number at which a test fails.
-- Assumes nothing.
use Prim.Native.Nat.{ℕ, zero, suc, ◌+◌, ◌≤◌, ◌<◌}
use mathlib.Core.Bool.{Bool, true, false, cond}
use mathlib.Core.Path.{◌≡◌, refl, sym, ◌∙◌, subst}
use mathlib.Core.Logic.{⊎_elim}
use native.Mathlib.Nat.{eq-or-lt_of_le, le_antisymm}
use native.Mathlib.Omega.{arith}
use Rattle.laws.proofs.Order.{lt_or_le, never_both}
use Rattle.laws.specs.First.{first_from, first}

-- below n, a test that once failed never passes again
abbrev pub Once : (ℕ → Bool) → ℕ → Type 0
Once test n = (i j : ℕ) → i ≤ j → j < n → test j ≡ true → test i ≡ true

-- both arms of a choice have what is asked: so has the choice
cond_le : (b : Bool) {x y m : ℕ} → x ≤ m → y ≤ m → cond b x y ≤ m
cond_le true p q = p
cond_le false p q = q

cond_ge : (b : Bool) {x y m : ℕ} → m ≤ x → m ≤ y → m ≤ cond b x y
cond_ge true p q = p
cond_ge false p q = q

from_le : (test : ℕ → Bool) (k n : ℕ) → first_from test k n ≤ k + n
unfolding first_from
from_le test k zero = omega arith
from_le test k (suc n) =
    cond_le (test k) (let h = from_le test (suc k) n in omega arith) (omega arith)

from_ge : (test : ℕ → Bool) (k n : ℕ) → k ≤ first_from test k n
unfolding first_from
from_ge test k zero = omega arith
from_ge test k (suc n) =
    cond_ge (test k) (let h = from_ge test (suc k) n in omega arith) (omega arith)

-- one step of the walk, with what is known of the rest
step_before : (test : ℕ → Bool) (k j r : ℕ) (b : Bool) → test k ≡ b → k ≤ j → (suc k ≤ j → j < r → test j ≡ true) → j < cond b r k → test j ≡ true
step_before test k j r true e h rest l =
    ⊎_elim (λ (m : k ≡ j). subst (λ (i : ℕ). test i ≡ true) m e) (λ (m : k < j). rest m l) (eq-or-lt_of_le h)
step_before test k j r false e h rest l = absurd (omega arith)

from_before : (test : ℕ → Bool) (k n j : ℕ) → k ≤ j → j < first_from test k n → test j ≡ true
unfolding first_from
from_before test k zero j h l = absurd (omega arith)
from_before test k (suc n) j h l =
    step_before test k j (first_from test (suc k) n) (test k) refl h (λ m l. from_before test (suc k) n j m l) l

step_fails : (test : ℕ → Bool) (k n r : ℕ) (b : Bool) → test k ≡ b → (r < suc k + n → test r ≡ false) → cond b r k < k + suc n → test (cond b r k) ≡ false
step_fails test k n r true e rest l = rest (omega arith)
step_fails test k n r false e rest l = e

from_fails : (test : ℕ → Bool) (k n : ℕ) → first_from test k n < k + n → test (first_from test k n) ≡ false
unfolding first_from
from_fails test k zero l = absurd (omega arith)
from_fails test k (suc n) l = step_fails test k n (first_from test (suc k) n) (test k) refl (λ m. from_fails test (suc k) n m) l

-- It is at most n.
pub first_le : (test : ℕ → Bool) (n : ℕ) → first test n ≤ n
first_le test n = let h = from_le test 0 n in omega arith

-- The test passes at each number before it.
pub first_before : (test : ℕ → Bool) (n k : ℕ) → k < first test n → test k ≡ true
first_before test n k l = from_before test 0 n k (omega arith) l

-- Where it is below n, the test fails at it.
pub first_fails : (test : ℕ → Bool) (n : ℕ) → first test n < n → test (first test n) ≡ false
first_fails test n l = from_fails test 0 n (omega arith)

-- Where it is n, the test passes at each number below n.
pub first_all : (test : ℕ → Bool) (n : ℕ) → first test n ≡ n → (k : ℕ) → k < n → test k ≡ true
first_all test n e k l = first_before test n k (omega arith)

-- A number below n at which the test fails is not before it.
pub fails_so_below : (test : ℕ → Bool) (n m : ℕ) → test m ≡ false → first test n ≤ m
fails_so_below test n m e =
    ⊎_elim (λ (h : m < first test n). absurd (never_both (first_before test n m h) e)) (λ (h : first test n ≤ m). h) (lt_or_le m (first test n))

-- Whoever is at most n, has the test pass at each number before it and fail at it where it is below n, is it.
pub first_is : (test : ℕ → Bool) (n m : ℕ) → m ≤ n → ((k : ℕ) → k < m → test k ≡ true) → (m < n → test m ≡ false) → m ≡ first test n
first_is test n m le before fails =
    ⊎_elim
    (λ (h : m < first test n).
    let f = first_le test n in
    absurd (never_both (first_before test n m h) (fails (omega arith))))
    (λ (h : first test n ≤ m).
    ⊎_elim (λ (e : first test n ≡ m). sym e)
    (λ (l : first test n < m). absurd (never_both (before (first test n) l) (first_fails test n (omega arith))))
    (eq-or-lt_of_le h))
    (lt_or_le m (first test n))

-- A test that passes wherever another does has its first failure no sooner.
pub first_mono : (test other : ℕ → Bool) (n : ℕ) → ((k : ℕ) → k < n → test k ≡ true → other k ≡ true) → first test n ≤ first other n
first_mono test other n h =
    ⊎_elim (λ (l : first other n < first test n).
    let f = first_le test n in
    absurd (never_both (h (first other n) (omega arith) (first_before test n (first other n) l)) (first_fails other n (omega arith))))
    (λ (m : first test n ≤ first other n). m)
    (lt_or_le (first other n) (first test n))

-- Two tests that agree below n fail first at the same number.
pub first_same : (test other : ℕ → Bool) (n : ℕ) → ((k : ℕ) → k < n → test k ≡ other k) → first test n ≡ first other n
first_same test other n h =
    le_antisymm (first_mono test other n (λ k l e. sym (h k l) ∙ e)) (first_mono other test n (λ k l e. h k l ∙ e))

-- A number below n at which the test passes is before it, for a test that once failed never passes again.
pub passes_so_above : (test : ℕ → Bool) (n m : ℕ) → Once test n → m < n → test m ≡ true → m < first test n
passes_so_above test n m once l e =
    ⊎_elim (λ (h : m < first test n). h)
    (λ (h : first test n ≤ m). absurd (never_both (once (first test n) m h l e) (first_fails test n (omega arith))))
    (lt_or_le m (first test n))
