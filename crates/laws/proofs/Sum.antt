-- Laws of sums over a list.
-- Assumes nothing.
use Prim.Native.Nat.{ℕ, ◌+◌, ◌*◌, ◌≤◌, ◌<◌}
use mathlib.Core.List.{List, [], ◌∷◌, ◌++◌}
use mathlib.Core.Path.{◌≡◌, refl}
use native.Mathlib.Nat.{add-le-add, le_refl}
use native.Mathlib.Numerals.{add-one}
use native.Mathlib.Omega.{arith}
use lib.ListN.{length, get_or, drop, drop_of_length-le}
use lib.Seq.{drop-cons}
use Rattle.std.specs.List.{sum_by}
use Rattle.std.proofs.lemmas.List.Recursion.{is_sum_by}
use Rattle.laws.specs.Sum.{sum_of}

module _ {A : Type 0} where
  -- A sum over two lists in a row is the sum of their sums.
  pub sum_append : (f : A → ℕ) (xs ys : List A) → sum_of f (xs ++ ys) ≡ sum_of f xs + sum_of f ys
  unfolding sum_of
  sum_append f [] ys = omega arith
  sum_append f (x ∷ xs) ys = let h = sum_append f xs ys in omega arith

  -- One element more at the end adds its number.
  pub sum_more : (f : A → ℕ) (xs : List A) (x : A) → sum_of f (xs ++ (x ∷ [])) ≡ sum_of f xs + f x
  unfolding sum_of
  sum_more f xs x = let h = sum_append f xs (x ∷ []) in omega arith

  -- Where each number is at most its counterpart, so is the sum.
  pub sum_mono : (f g : A → ℕ) → ((x : A) → f x ≤ g x) → (xs : List A) → sum_of f xs ≤ sum_of g xs
  unfolding sum_of
  sum_mono f g h [] = le_refl 0
  sum_mono f g h (x ∷ xs) = add-le-add (h x) (sum_mono f g h xs)

  -- Where each number is at most a multiple of its counterpart, so is the sum.
  pub sum_scaled : (k : ℕ) (f g : A → ℕ) → ((x : A) → f x ≤ k * g x) → (xs : List A) → sum_of f xs ≤ k * sum_of g xs
  unfolding sum_of
  sum_scaled k f g h [] = omega arith
  sum_scaled k f g h (x ∷ xs) = let a = h x in let b = sum_scaled k f g h xs in omega arith

  -- The sum of sums is the sum of the sums, element by element.
  pub sum_of_sums : (f g : A → ℕ) (xs : List A) → sum_of (λ x. f x + g x) xs ≡ sum_of f xs + sum_of g xs
  unfolding sum_of
  sum_of_sums f g [] = refl
  sum_of_sums f g (x ∷ xs) = let h = sum_of_sums f g xs in omega arith

  -- A common factor goes in front.
  pub sum_factor : (k : ℕ) (f : A → ℕ) (xs : List A) → sum_of (λ x. k * f x) xs ≡ k * sum_of f xs
  unfolding sum_of
  sum_factor k f [] = omega arith
  sum_factor k f (x ∷ xs) = let h = sum_factor k f xs in omega arith

  -- Where two numbers of each element agree, so do the sums.
  pub sum_same : (f g : A → ℕ) → ((x : A) → f x ≡ g x) → (xs : List A) → sum_of f xs ≡ sum_of g xs
  unfolding sum_of
  sum_same f g h [] = refl
  sum_same f g h (x ∷ xs) = let a = h x in let b = sum_same f g h xs in omega arith

  -- It is the library's sum, which a chain of iterators makes.
  pub sum_is : (f : A → ℕ) (xs : List A) → sum_of f xs ≡ sum_by f xs
  unfolding sum_of
  sum_is f xs = is_sum_by (sum_of f) f refl (λ y ys. refl) xs

  -- A loop's turn: the sum from place i on is the element's number and the sum from i + 1 on.
  pub sum_turn : (f : A → ℕ) (xs : List A) (i : ℕ) (d : A) → i < length xs → sum_of f (drop i xs) ≡ f (get_or xs i d) + sum_of f (drop (i + 1) xs)
  unfolding sum_of
  sum_turn f xs i d h = rw (drop-cons xs i d, add-one i)

  -- A loop's end: past the last element nothing is left.
  pub sum_end : (f : A → ℕ) (xs : List A) (i : ℕ) → length xs ≤ i → sum_of f (drop i xs) ≡ 0
  unfolding sum_of
  sum_end f xs i h = rw (drop_of_length-le xs h)
