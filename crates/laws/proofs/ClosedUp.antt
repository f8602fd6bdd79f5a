-- Laws of a list whose gap is closed up: what its places hold, and the sum of what is left.
-- Assumes nothing.
use Prim.Native.Nat.{ℕ, ◌+◌, ◌-◌, ◌≤◌, ◌<◌}
use mathlib.Core.List.{List, ◌++◌}
use mathlib.Core.Path.{◌≡◌, sym, ◌∙◌, ap, subst}
use native.Mathlib.Nat.{add-sub_of_le}
use native.Mathlib.Omega.{arith}
use lib.ListN.{length, take, drop, get_or, length-drop, take-append-drop}
use lib.Seq.{paste, length-paste, take-paste, drop-paste, get_or-drop, take-add, drop_at, length-take-le, take-take}
use Rattle.laws.specs.Sum.{sum_of}
use Rattle.laws.specs.ClosedUp.{closed_up}
use Rattle.laws.proofs.Sum.{sum_append, sum_turn}

module _ {A : Type 0} (xs : List A) (p : ℕ) where
  -- It is a copy of what stands behind place p to place p.
  as_pasted : (n : ℕ) → p ≤ n → closed_up p n xs ≡ paste xs p (drop (p + 1) xs) (n - p)
  as_pasted n h = ap (λ (k : ℕ). take p xs ++ take (n - p) (drop (p + 1) xs) ++ drop k xs) (sym (add-sub_of_le h))

  module _ (n : ℕ) (h : p ≤ n) (l : n + 1 ≤ length xs) where
    behind : n - p ≤ length (drop (p + 1) xs)
    behind = let e = length-drop (p + 1) xs in omega arith

    pub length_closed : length (closed_up p n xs) ≡ length xs
    length_closed =
        ap length (as_pasted n h) ∙ length-paste xs p (drop (p + 1) xs) (n - p) (omega arith) behind

    -- The places from n on hold what they held,
    drop_closed : drop n (closed_up p n xs) ≡ drop n xs
    drop_closed =
        ap (drop n) (as_pasted n h)
        ∙ subst (λ (k : ℕ). drop k (paste xs p (drop (p + 1) xs) (n - p)) ≡ drop k xs) (add-sub_of_le h)
        (drop-paste xs p (drop (p + 1) xs) (n - p) (omega arith) behind)

    pub get_d_closed : (k : ℕ) (z : A) → n ≤ k → get_or (closed_up p n xs) k z ≡ get_or xs k z
    get_d_closed k z m =
        let e = add-sub_of_le m in
        ap (λ (j : ℕ). get_or (closed_up p n xs) j z) (sym e)
        ∙ sym (get_or-drop n (closed_up p n xs) (k - n) z)
        ∙ ap (λ (ys : List A). get_or ys (k - n) z) drop_closed
        ∙ get_or-drop n xs (k - n) z
        ∙ ap (λ (j : ℕ). get_or xs j z) e

    -- and those before n hold the first n + 1 without the one at place p.
    pub take_closed : take n (closed_up p n xs) ≡ take p (take (n + 1) xs) ++ drop (p + 1) (take (n + 1) xs)
    take_closed =
        ap (take n) (as_pasted n h)
        ∙ subst (λ (k : ℕ). take k (paste xs p (drop (p + 1) xs) (n - p)) ≡ take p xs ++ take (n - p) (drop (p + 1) xs)) (add-sub_of_le h)
        (take-paste xs p (drop (p + 1) xs) (n - p) (omega arith) behind)
        ∙ ap (λ (ys : List A). ys ++ take (n - p) (drop (p + 1) xs)) (sym (take-take p (n + 1) xs (omega arith)))
        ∙ ap (λ (ys : List A). take p (take (n + 1) xs) ++ ys) (sym rest)
      where
        rest : drop (p + 1) (take (n + 1) xs) ≡ take (n - p) (drop (p + 1) xs)
        rest =
            let e : n + 1 ≡ (p + 1) + (n - p) = omega arith in
            ap (λ (k : ℕ). drop (p + 1) (take k xs)) e
            ∙ ap (drop (p + 1)) (take-add (p + 1) (n - p) xs)
            ∙ drop_at (take (p + 1) xs) (take (n - p) (drop (p + 1) xs)) (p + 1) (length-take-le (p + 1) xs (omega arith))

  -- What is left without the element at place p sums up to the whole without its number.
  pub sum_without : (f : A → ℕ) (z : A) → p < length xs → sum_of f (take p xs ++ drop (p + 1) xs) + f (get_or xs p z) ≡ sum_of f xs
  sum_without f z h =
      let apart = sum_append f (take p xs) (drop (p + 1) xs) in
      let whole = ap (sum_of f) (sym (take-append-drop p xs)) ∙ sum_append f (take p xs) (drop p xs) in
      let here = sum_turn f xs p z h in
      omega arith
