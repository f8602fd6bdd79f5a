-- A table's rule, carried from one computed test over the whole table to each of its entries.
-- Assumes nothing.
use Prim.Native.Nat.{ℕ, zero, suc, ◌+◌, ◌≤◌, ◌<◌}
use mathlib.Core.Bool.{Bool, true, ◌&&◌}
use mathlib.Core.Logic.{⊎_elim}
use mathlib.Core.List.{List, [], ◌∷◌}
use mathlib.Core.Path.{◌≡◌, refl, sym, ◌∙◌, ap, subst}
use native.Mathlib.Nat.{add-zero, zero-add, add-suc, suc-add, le_refl, le_trans, eq-or-lt_of_le, le_of_suc-le-suc, not-suc-le-zero}
use native.Mathlib.Omega.{arith}
use lib.Dec.{eqb}
use lib.ListN.{length, get_or}
use lib.Seq.{ext_get_or}
use borrow.Author.Tests.{eqb-true}
use Rattle.laws.proofs.And.{and_left, and_right}
use Rattle.laws.specs.Table.{values_from, table_of}

-- the test passes at each entry and its place, places counted from k
abbrev pub every_from : (ℕ → ℕ → Bool) → ℕ → List ℕ → Bool
every_from test k [] = true
every_from test k (x ∷ xs) = test k x && every_from test (suc k) xs

-- the test passes at each entry and its place
abbrev pub every : (ℕ → ℕ → Bool) → List ℕ → Bool
every test xs = every_from test 0 xs

carry_from : (test : ℕ → ℕ → Bool) (xs : List ℕ) (k : ℕ) → every_from test k xs ≡ true → (i : ℕ) → i < length xs → test (k + i) (get_or xs i 0) ≡ true
carry_from test [] k e i h = absurd (not-suc-le-zero h)
carry_from test (x ∷ xs) k e zero h =
    subst (λ (m : ℕ). test m x ≡ true) (sym (add-zero k)) (and_left (test k x) (every_from test (suc k) xs) e)
carry_from test (x ∷ xs) k e (suc i) h =
    subst (λ (m : ℕ). test m (get_or xs i 0) ≡ true) (suc-add k i ∙ sym (add-suc k i))
    (carry_from test xs (suc k) (and_right (test k x) (every_from test (suc k) xs) e) i (le_of_suc-le-suc h))

-- A test that passes over the whole table passes at each entry.
pub carry : (test : ℕ → ℕ → Bool) (xs : List ℕ) → every test xs ≡ true → (i : ℕ) → i < length xs → test i (get_or xs i 0) ≡ true
carry test xs e i h = subst (λ (m : ℕ). test m (get_or xs i 0) ≡ true) (zero-add i) (carry_from test xs 0 e i h)

-- What never falls from a number to the next never falls, as far as n.
pub rises : (f : ℕ → ℕ) (n : ℕ) → ((k : ℕ) → k < n → f k ≤ f (suc k)) → (i j : ℕ) → i ≤ j → j ≤ n → f i ≤ f j
rises f n step i zero a b =
    let e : i ≡ 0 = omega arith in
    rw e (le_refl _)
rises f n step i (suc j) a b =
    ⊎_elim (λ (e : i ≡ suc j). rw e (le_refl _))
    (λ (l : i < suc j). le_trans (rises f n step i j (le_of_suc-le-suc l) (omega arith)) (step j b))
    (eq-or-lt_of_le a)

length_values : (f : ℕ → ℕ) (k n : ℕ) → length (values_from f k n) ≡ n
unfolding values_from
length_values f k zero = refl
length_values f k (suc n) = ap suc (length_values f (suc k) n)

values_at : (f : ℕ → ℕ) (k n i : ℕ) → i < n → get_or (values_from f k n) i 0 ≡ f (k + i)
unfolding values_from
values_at f k zero i h = absurd (not-suc-le-zero h)
values_at f k (suc n) zero h = ap f (sym (add-zero k))
values_at f k (suc n) (suc i) h = values_at f (suc k) n i (le_of_suc-le-suc h) ∙ ap f (suc-add k i ∙ sym (add-suc k i))

-- The table of a function has as many entries as were asked for.
pub length_table : (f : ℕ → ℕ) (n : ℕ) → length (table_of f n) ≡ n
length_table f n = length_values f 0 n

-- The entry at a place is the function's value there.
pub table_at : (f : ℕ → ℕ) (n i : ℕ) → i < n → get_or (table_of f n) i 0 ≡ f i
table_at f n i h = values_at f 0 n i h ∙ ap f (zero-add i)

-- A list of n entries, each of which one computed test finds to be the function's value at its place, is the function's table.
pub is_table : (f : ℕ → ℕ) (n : ℕ) (xs : List ℕ) → length xs ≡ n → every (λ k x. eqb x (f k)) xs ≡ true → xs ≡ table_of f n
is_table f n xs e t =
    ext_get_or 0 xs (table_of f n) (e ∙ sym (length_table f n))
    (λ i h. eqb-true (get_or xs i 0) (f i) (carry (λ k x. eqb x (f k)) xs t i h) ∙ sym (table_at f n i (omega arith)))
