-- A list changed element by element: its parts, a stored element, and sums over it.
-- Assumes nothing.
use Prim.Native.Nat.{ℕ, zero, suc}
use mathlib.Core.Path.{◌≡◌, refl, ap}
use mathlib.Core.List.{List, [], ◌∷◌, map}
use native.Mathlib.Omega.{arith}
use lib.ListN.{take, drop, set}
use Rattle.laws.specs.Sum.{sum_of}

module _ {A B : Type 0} (f : A → B) where
  pub take_map : (n : ℕ) (l : List A) → take n (map f l) ≡ map f (take n l)
  take_map zero l = refl
  take_map (suc n) [] = refl
  take_map (suc n) (x ∷ l) = ap (λ (r : List B). f x ∷ r) (take_map n l)

  pub drop_map : (n : ℕ) (l : List A) → drop n (map f l) ≡ map f (drop n l)
  drop_map zero l = refl
  drop_map (suc n) [] = refl
  drop_map (suc n) (x ∷ l) = drop_map n l

  pub set_map : (l : List A) (i : ℕ) (x : A) → set (map f l) i (f x) ≡ map f (set l i x)
  set_map [] i x = refl
  set_map (y ∷ l) zero x = refl
  set_map (y ∷ l) (suc i) x = ap (λ (r : List B). f y ∷ r) (set_map l i x)

  pub sum_map : (g : B → ℕ) (h : A → ℕ) → ((x : A) → g (f x) ≡ h x) → (l : List A) → sum_of g (map f l) ≡ sum_of h l
  unfolding sum_of
  sum_map g h e [] = refl
  sum_map g h e (x ∷ l) = let a = e x in let b = sum_map g h e l in omega arith
