-- The promises of specs/Promises.antt: floats in order are fractions in order, and rounding and the limit keep the order; and what is
-- given back goes by the nearest hundredth.
-- Assumes nothing.
use Rattle.std.specs.Prelude.{Result, Err}
use Rattle.units.specs.declared.Rate.{Rate}
use mathlib.Core.Path.{◌≡◌, refl, sym, ap, ◌∙◌, subst}
use mathlib.Core.Logic.{◌⊎◌, inl, inr}
use mathlib.Core.Bool.{Bool, true, false, cond, ◌&&◌, ◌||◌}
use Prim.Native.Nat.{ℕ, zero, suc, ◌+◌, ◌*◌, ◌≤◌, ◌<◌, zero-le}
use native.Mathlib.Nat.{le_trans, le_of_eq, le_of_lt, zero-lt-suc, zero-mul, mul-pos, mul-mul-mul_comm, mul-le-mul_right}
use native.Mathlib.Omega.{arith}
use lib.IntN.{ℤ}
use lib.Dec.{T, lit<, ltb, eqb, ltb→lt, eqb→eq}
use lib.Ieee.{Float, nan, inf, fin, up, down, lt, le}
use lib.Ieee.Fits.{up_pos, down_pos, and_l}
use borrow.Author.Tests.{lt-ltb, le-ltb, ltb-false}
use Rattle.refusal.specs.declared.Refusal.{Refusal}
use Rattle.refusal.specs.declared.Refusal.TheVariants.{ReadingNotARate, ReadingTooFast}
use Rattle.refusal.specs.Refusal.{number_of, granted}
use Rattle.refusal.proofs.Numbers.{refusal_not_granted}
use Rattle.units.specs.Limits.{most_rate}
use Rattle.laws.proofs.Order.{lt_or_le, never_both}
use Rattle.probe.specs.declared.Reading.{Reading}
use Rattle.probe.specs.declared.Reading.TheVariants.{InchesPerHour, MillimetresPerHour}
use Rattle.probe.specs.Readings.{rounded, within_most, answer_in, rate_of, given}
use Rattle.probe.specs.Promises.{up_to, RoundsToNearest, OnlyNearest, not_a_rate, NearestIn, ByNearest, NearestGivenBack, NeverFalls, StaysTooFast}
use Rattle.probe.proofs.Rounding.{rounded_nearest, rounded_only, rounded_rises}
use Rattle.probe.proofs.Parts.{granted_within, refused_past}

pub rounds_to_nearest : RoundsToNearest
rounds_to_nearest = rounded_nearest

pub only_nearest : OnlyNearest
only_nearest = rounded_only

-- ---- floats in order

either : (a b : ℕ) (c : Bool) → T (ltb a b || (eqb a b && c)) → a ≤ b
either a b c h = go (ltb a b) (ltb→lt a b) h
  where
    go : (t : Bool) → (T t → a < b) → T (t || (eqb a b && c)) → a ≤ b
    go true f k = le_of_lt (f tt)
    go false f k = le_of_eq (eqb→eq a b (and_l (eqb a b) c k))

none : (m u d : ℕ) → ltb 0 m ≡ false → m * u * d ≡ 0
none m u d e =
    let zero-digits : m ≡ 0 = omega (arith, ltb-false 0 m e) in
    rw zero-digits (ap (λ (n : ℕ). n * d) (zero-mul u) ∙ zero-mul d)

-- of a finite float that is not below zero and another that is at least as large, the fractions are in order
in_order : (s t : Bool) (m n : ℕ) (e d : ℤ) → (s && ltb 0 m) ≡ false → T (le (fin s m e) (fin t n d)) → m * up e * down d ≤ n * up d * down e
unfolding le
in_order false false m n e d p h = either (m * up e * down d) (n * up d * down e) true h
in_order false true m n e d p h =
    le_of_eq (eqb→eq (m * up e * down d) (n * up d * down e) (and_l (eqb (m * up e * down d) (n * up d * down e)) (eqb (m * up e * down d) 0) h))
in_order true t m n e d p h = le_trans (le_of_eq (none m (up e) (down d) p)) zero-le

-- the hundredths of a finite float, and so of floats in order
abbrev hundredths : ℕ → ℕ → ℕ → ℤ → ℕ
hundredths h u m e = rounded (m * up e * h) (down e * u)

hundredths_rise : (h u m n : ℕ) (e d : ℤ) → 0 < u → m * up e * down d ≤ n * up d * down e → hundredths h u m e ≤ hundredths h u n d
hundredths_rise h u m n e d U l =
    rounded_rises (m * up e * h) (down e * u) (n * up d * h) (down d * u) (mul-pos (down_pos e) U) (mul-pos (down_pos d) U)
    (le_trans (le_of_eq (mul-mul-mul_comm (m * up e) h (down d) u))
    (le_trans (mul-le-mul_right (h * u) l) (le_of_eq (mul-mul-mul_comm (n * up d) (down e) h u))))

-- ---- answers in order

-- no refusal is granted, and 11 is not 12
not_granted : (why : Refusal) (a : ℕ) → given (Err why) ≡ (granted, a) → ⊥
not_granted why a e = refusal_not_granted why (ap (λ (p : ℕ × ℕ). p.0) e)

apart : given (Err ReadingNotARate) ≡ given (Err ReadingTooFast) → ⊥
apart e =
    let same : number_of ReadingNotARate ≡ number_of ReadingTooFast = ap (λ (p : ℕ × ℕ). p.0) e in
    omega arith

-- what is rounded is granted, or is too fast
told : (i : ℕ) (q : ℕ × ℕ) → given (within_most i) ≡ q
    → ((i ≤ most_rate) × ((granted, i) ≡ q)) ⊎ ((most_rate < i) × (given (Err ReadingTooFast) ≡ q))
told i q e = elim (lt_or_le most_rate i) [
  | inl past ↦ inr (past, ap given (refused_past i past) ∙ e)
  | inr within ↦ inl (within, ap given (granted_within i within) ∙ e)
]

granted_rate : (i a : ℕ) → given (within_most i) ≡ (granted, a) → (i ≡ a) × (i ≤ most_rate)
granted_rate i a e = elim (told i (granted, a) e) [
  | inl w ↦ (ap (λ (p : ℕ × ℕ). p.1) w.1, w.0)
  | inr f ↦ absurd (not_granted ReadingTooFast a f.1)
]

refused_rate : (i : ℕ) (why : Refusal) → given (within_most i) ≡ given (Err why)
    → (most_rate < i) × (given (Err ReadingTooFast) ≡ given (Err why))
refused_rate i why e = elim (told i (given (Err why)) e) [
  | inl w ↦ absurd (not_granted why i (sym w.1))
  | inr f ↦ f
]

-- an answer that is refused 11, or is granted with a rate of at most b
record Lower (b : ℕ) (answer : Result Rate Refusal) : Type 0 where
  rate : ℕ
  low : rate ≤ b
  is : given answer ≡ (granted, rate)

abbrev NoMore : ℕ → Result Rate Refusal → Type 0
NoMore b answer = (answer ≡ Err ReadingNotARate) ⊎ Lower b answer

by_tests_lem : (p q : Bool) (i j b : ℕ) → (p ≡ false → i ≤ j) → given (cond q (Err ReadingNotARate) (within_most j)) ≡ (granted, b)
    → NoMore b (cond p (Err ReadingNotARate) (within_most i))
by_tests_lem true q i j b l e = inl refl
by_tests_lem false true i j b l e = absurd (not_granted ReadingNotARate b e)
by_tests_lem false false i j b l e =
    let y = granted_rate j b e in
    let order : i ≤ j = l refl in
    inr (record { rate = i; low = omega arith; is = sym (ap given (granted_within i (le_trans order y.1))) })

-- what is no larger than a granted reading is below zero, or is granted with no larger a rate
no_more : (h u : ℕ) (x y : Float) (b : ℕ) → 0 < u → T (le x y) → given (answer_in h u y) ≡ (granted, b) → NoMore b (answer_in h u x)
unfolding le answer_in
no_more h u x nan b U l e = absurd (not_granted ReadingNotARate b e)
no_more h u x (inf t) b U l e = absurd (not_granted ReadingNotARate b e)
no_more h u nan (fin t n d) b U l e = inl refl
no_more h u (inf s) (fin t n d) b U l e = inl refl
no_more h u (fin s m k) (fin t n d) b U l e =
    by_tests_lem (s && ltb 0 m) (t && ltb 0 n) (hundredths h u m k) (hundredths h u n d) b
    (λ p. hundredths_rise h u m n k d U (in_order s t m n k d p l)) e

same_unit : (r t : Reading) (b : ℕ) → T (up_to r t) → given (rate_of t) ≡ (granted, b) → NoMore b (rate_of r)
same_unit (InchesPerHour x) (InchesPerHour y) b l e = no_more 100 1 x y b (lit< tt) l e
same_unit (InchesPerHour x) (MillimetresPerHour y) b l e = absurd l
same_unit (MillimetresPerHour x) (InchesPerHour y) b l e = absurd l
same_unit (MillimetresPerHour x) (MillimetresPerHour y) b l e = no_more 1_000 254 x y b (lit< tt) l e

pub never_falls : NeverFalls
never_falls r t a b l e f = elim (same_unit r t b l f) [
  | inl n ↦ absurd (not_granted ReadingNotARate a (sym (ap given n) ∙ e))
  | inr w ↦ le_trans (le_of_eq (ap (λ (p : ℕ × ℕ). p.1) (sym e ∙ w.is))) w.low
]

pub stays_too_fast : StaysTooFast
stays_too_fast r t b l e f = elim (same_unit r t b l f) [
  | inl n ↦ apart (sym (ap given n) ∙ e)
  | inr w ↦ not_granted ReadingTooFast w.rate (sym e ∙ w.is)
]

-- ---- the nearest given back

-- comparing with zero is the definition's test
compared : (s : Bool) (m : ℕ) (e : ℤ) → not_a_rate (fin s m e) ≡ (s && ltb 0 m)
unfolding lt
compared false m e = simp (zero-mul, le-ltb (m * up e * 1) 0 zero-le)
compared true zero e = simp zero-mul
compared true (suc m) e =
    let some : 0 < suc m * up e = mul-pos (zero-lt-suc m) (up_pos e) in
    lt-ltb 0 (suc m * up e * 1 + 0 * down e) (omega arith) ∙ sym (lt-ltb 0 (suc m) (zero-lt-suc m))

-- a float that is no rate, and one with a nearest hundredth
by_none : (h u : ℕ) (x : Float) → not_a_rate x ≡ true → ((a : ℕ) → NearestIn h u x a → ⊥) → ByNearest h u x (Err ReadingNotARate)
by_none h u x none never = record {
  granted_exactly = λ a. (λ e. absurd (not_granted ReadingNotARate a e), λ p. absurd (never a p.0));
  not_a_rate_exactly = (λ e. none, λ e. refl);
  too_fast_exactly = (λ e. absurd (apart e), λ p. absurd (never p.0 p.1));
}

by_one : (h u : ℕ) (x : Float) (i : ℕ) → not_a_rate x ≡ false → NearestIn h u x i → ((a : ℕ) → NearestIn h u x a → a ≡ i) → ByNearest h u x (within_most i)
by_one h u x i some near only = record {
  granted_exactly = λ a. (
    λ e. let g = granted_rate i a e in (subst (NearestIn h u x) g.0 near, le_trans (le_of_eq (sym g.0)) g.1),
    λ p. let same : a ≡ i = only a p.0 in rw same (sym (ap given (granted_within i (rw same at p.1)))),
  );
  not_a_rate_exactly = (
    λ e. absurd (apart (sym (refused_rate i ReadingNotARate e).1)),
    λ e. absurd (never_both e some),
  );
  too_fast_exactly = (
    λ e. (i, near, (refused_rate i ReadingTooFast e).0),
    λ p. sym (ap given (refused_past i (rw (only p.0 p.1) at p.2))),
  );
}

by_nearest : (h u : ℕ) (x : Float) → 0 < u → ByNearest h u x (answer_in h u x)
unfolding answer_in
by_nearest h u nan U = by_none h u nan refl (λ a p. p)
by_nearest h u (inf s) U = by_none h u (inf s) refl (λ a p. p)
by_nearest h u (fin s m e) U = go (s && ltb 0 m) (compared s m e)
  where
    D : 0 < down e * u
    D = mul-pos (down_pos e) U

    go : (t : Bool) → not_a_rate (fin s m e) ≡ t
        → ByNearest h u (fin s m e) (cond t (Err ReadingNotARate) (within_most (hundredths h u m e)))
    go true t = by_none h u (fin s m e) t (λ a p. never_both t p.0)
    go false t =
        by_one h u (fin s m e) (hundredths h u m e) t (t, rounded_nearest (m * up e * h) (down e * u) D)
        (λ a p. rounded_only (m * up e * h) (down e * u) a D p.1)

pub nearest_given_back : NearestGivenBack
nearest_given_back x = (by_nearest 100 1 x (lit< tt), by_nearest 1_000 254 x (lit< tt))
