-- Texts compared byte by byte.
-- Assumes nothing.
use Prim.Native.Nat.{ℕ, zero, suc, ◌+◌, min}
use mathlib.Core.Path.{◌≡◌, refl, sym, ◌∙◌, ap}
use mathlib.Core.Bool.{Bool, true, false, cond, ◌&&◌}
use mathlib.Core.List.{List, [], ◌∷◌}
use native.Mathlib.Omega.{arith}
use lib.Dec.{eqb}
use lib.ListN.{length, take}
use lib.Pointwise.{pointwise}
use lib.Seq.{take-nil}
use borrow.Author.Tests.{eq-eqb, ne_eqb, eqb-true}
use Rattle.std.specs.List.{zip, prefix_len, take_while}
use Rattle.std.proofs.lemmas.List.Folds.{length-prefix_len}
use Rattle.laws.proofs.Order.{never_both}
use Rattle.text.specs.Words.{same_of, agreed_of}

-- texts of other lengths differ
pub longer_differs : (s t : List ℕ) → (length s ≡ length t → ⊥) → false ≡ same_of s t
unfolding same_of
longer_differs [] [] ne = absurd (ne refl)
longer_differs [] (y ∷ t) ne = refl
longer_differs (x ∷ s) [] ne = refl
longer_differs (x ∷ s) (y ∷ t) ne = both (eqb x y) (longer_differs s t (λ e. ne (ap suc e)))
  where
    both : (b : Bool) → false ≡ same_of s t → false ≡ b && same_of s t
    both true h = h
    both false h = refl

-- Texts that are found the same are equal.
pub same_so_equal : (s t : List ℕ) → same_of s t ≡ true → s ≡ t
unfolding same_of
same_so_equal [] [] e = refl
same_so_equal [] (y ∷ t) e = cc
same_so_equal (x ∷ s) [] e = cc
same_so_equal (x ∷ s) (y ∷ t) e = heads (eqb x y) refl e (same_so_equal s t)
  where
    heads : (b : Bool) → eqb x y ≡ b → b && same_of s t ≡ true → (same_of s t ≡ true → s ≡ t) → x ∷ s ≡ y ∷ t
    heads true h e tails =
        let p = eqb-true x y h in
        let q = tails e in
        cc
    heads false h e tails = cc

-- A text is the same as itself.
pub same_itself : (s : List ℕ) → same_of s s ≡ true
unfolding same_of
same_itself [] = refl
same_itself (x ∷ s) = rw (eq-eqb x x refl) (same_itself s)

-- the order of two bytes makes no difference to their test
pub eqb_turned : (x y : ℕ) → eqb x y ≡ eqb y x
eqb_turned x y = at (eqb x y) refl
  where
    at : (b : Bool) → eqb x y ≡ b → b ≡ eqb y x
    at true e = sym (eq-eqb y x (sym (eqb-true x y e)))
    at false e =
        sym (ne_eqb y x (λ p.
        let g = eq-eqb x y (sym p) in
        never_both refl (sym g ∙ e)))

-- the library's test of two texts, and ours
pub pointwise_same : (s t : List ℕ) → pointwise eqb t s ≡ same_of s t
unfolding same_of
pointwise_same [] [] = refl
pointwise_same [] (y ∷ t) = refl
pointwise_same (x ∷ s) [] = refl
pointwise_same (x ∷ s) (y ∷ t) = rw (eqb_turned y x, pointwise_same s t)

-- what two texts have in common is as long as the pairs of bytes that are the same from the start on
agreed_pairs : (s t : List ℕ) → length (agreed_of s t) ≡ prefix_len (λ (p : ℕ × ℕ). eqb p.0 p.1) (zip s t)
unfolding agreed_of
agreed_pairs [] t = refl
agreed_pairs (x ∷ s) [] = refl
agreed_pairs (x ∷ s) (y ∷ t) = at (eqb x y) (agreed_pairs s t)
  where
    at : (b : Bool) → length (agreed_of s t) ≡ prefix_len (λ (p : ℕ × ℕ). eqb p.0 p.1) (zip s t) → length (cond b (x ∷ agreed_of s t) []) ≡ cond b (1 + prefix_len (λ (p : ℕ × ℕ). eqb p.0 p.1) (zip s t)) 0
    at true h = omega arith
    at false h = refl

pub agreed_taken : (s t : List ℕ) {n : ℕ} → n ≡ length (take_while (λ (p : ℕ × ℕ). eqb p.0 p.1) (zip s t)) → n ≡ length (agreed_of s t)
agreed_taken s t e = e ∙ length-prefix_len (λ (p : ℕ × ℕ). eqb p.0 p.1) (zip s t) ∙ sym (agreed_pairs s t)

-- the pairs of two texts are those of both cut to the length of the shorter
pairs_within : (s t : List ℕ) (n : ℕ) → n ≡ min (length s) (length t) → zip (take n s) (take n t) ≡ zip s t
pairs_within [] t n h = rw (take-nil n)
pairs_within (x ∷ s) [] zero h = refl
pairs_within (x ∷ s) [] (suc n) h = refl
pairs_within (x ∷ s) (y ∷ t) zero h = absurd (omega arith)
pairs_within (x ∷ s) (y ∷ t) (suc n) h = ap (λ (r : List (ℕ × ℕ)). (x, y) ∷ r) (pairs_within s t n (omega arith))

pub taken_within : (s t : List ℕ) {both n : ℕ} → both ≡ min (length s) (length t)
    → n ≡ length (take_while (λ (p : ℕ × ℕ). eqb p.0 p.1) (zip (take both s) (take both t)))
    → n ≡ length (take_while (λ (p : ℕ × ℕ). eqb p.0 p.1) (zip s t))
taken_within s t {both} h e =
    e ∙ ap (λ (r : List (ℕ × ℕ)). length (take_while (λ (p : ℕ × ℕ). eqb p.0 p.1) r)) (pairs_within s t both h)
