-- Rules, "How a percent was found": its promises hold.
-- Assumes nothing.
use Prim.Native.Nat.{ℕ, ◌+◌, ◌-◌, ◌≤◌, ◌<◌}
use mathlib.Core.Bool.{Bool, true, false, cond, ◌&&◌, not}
use mathlib.Core.List.{List}
use mathlib.Core.Logic.{⊎_elim}
use mathlib.Core.Path.{◌≡◌, refl, sym, ◌∙◌, ap, subst}
use native.Mathlib.Omega.{arith}
use lib.Dec.{ltb}
use lib.ListN.{length, get_or}
use borrow.Author.Tests.{ltb-true, ltb-false, lt-ltb, le-ltb, eqb-true, not-true}
use Rattle.laws.proofs.And.{and_left, and_right}
use Rattle.laws.proofs.Order.{lt_or_le, passes_or_fails, never_both}
use Rattle.sheet.specs.Rules.{Rules}
use Rattle.curve.specs.declared.Mode.{Mode}
use Rattle.curve.specs.declared.Mode.TheVariants.{Step, Mix}
use Rattle.curve.specs.declared.Curves.{Curves}
use Rattle.curve.specs.declared.Curves.TheVariants.{One}
use Rattle.curve.specs.declared.Basis.{Basis}
use Rattle.curve.specs.declared.Basis.TheVariants.{None, Printed, Between, Start, Held}
use Rattle.curve.specs.Curve.{segment, fastest, curves_of, rounded_down, percent_at, percent_of}
use Rattle.curve.specs.Basis.{mixes, is_printed, basis_at, basis_of, basis_number}
use Rattle.curve.specs.Promises.{Usable, StartExactly, HeldExactly, OfSheet, Mixing, PrintedExactly, BetweenExactly, PrintedStandsInTheSheet, HeldIsTheLast, NeverNone}
use Rattle.curve.proofs.Choices.{fastest_in, fastest_from, fastest_to}
use Rattle.curve.proofs.Bases.{basis_start, basis_held, within, basis_printed, basis_place}
use Rattle.curve.proofs.Promises.{granted_rated}
use Rattle.curve.proofs.Granting.{percents_given, percent_granted_exactly, depths_given, reach_granted_exactly}
use Rattle.curve.proofs.Sentences.{depths_rise, up_to_last, printed_segment, printed_rate, printed_depth, exact_beyond, rates_rise}

-- A basis tells of the three tests.
abbrev by_tests : Bool → Bool → Bool → Basis
by_tests below beyond printed = cond below Start (cond beyond Held (cond printed Printed Between))

abbrev Told : Bool → Bool → Bool → Basis → Type 0
Told below beyond printed None = ⊥
Told below beyond printed Printed = (beyond ≡ false) × (printed ≡ true)
Told below beyond printed Between = (below ≡ false) × (beyond ≡ false)
Told below beyond printed Start = below ≡ true
Told below beyond printed Held = beyond ≡ true

tests_tell : (a b p : Bool) → Told a b p (by_tests a b p)
tests_tell true b p = refl
tests_tell false true p = refl
tests_tell false false true = (refl, refl)
tests_tell false false false = (refl, refl)

module _ (ds : List ℕ) (c : Curves) (d : ℕ) where
  abbrev below : Bool
  below = ltb d (get_or ds 0 0)

  abbrev beyond : Bool
  beyond = ltb (get_or ds (length ds - 1) 0) d

  abbrev printed : Bool
  printed = is_printed ds d && not (mixes c)

  tells : (b : Basis) → basis_at ds c d ≡ b → Told below beyond printed b
  unfolding basis_at
  tells b e = subst (Told below beyond printed) e (tests_tell below beyond printed)

  told_start : basis_at ds c d ≡ Start → d < get_or ds 0 0
  told_start e = ltb-true d (get_or ds 0 0) (tells Start e)

  pub told_held : basis_at ds c d ≡ Held → get_or ds (length ds - 1) 0 < d
  told_held e = ltb-true (get_or ds (length ds - 1) 0) d (tells Held e)

  told_printed : basis_at ds c d ≡ Printed → (d ≤ get_or ds (length ds - 1) 0) × (get_or ds (segment ds d) 0 ≡ d) × (mixes c ≡ false)
  told_printed e =
      let p = tells Printed e in (
        ltb-false (get_or ds (length ds - 1) 0) d p.0,
        eqb-true (get_or ds (segment ds d) 0) d (and_left (is_printed ds d) (not (mixes c)) p.1),
        not-true (mixes c) (and_right (is_printed ds d) (not (mixes c)) p.1),
      )

  told_within : basis_at ds c d ≡ Between → (get_or ds 0 0 ≤ d) × (d ≤ get_or ds (length ds - 1) 0)
  told_within e =
      let p = tells Between e in
      (ltb-false d (get_or ds 0 0) p.0, ltb-false (get_or ds (length ds - 1) 0) d p.1)

  -- From the first depth to the last it is printed or between.
  told_between : get_or ds 0 0 ≤ d → d ≤ get_or ds (length ds - 1) 0 → (basis_at ds c d ≡ Printed → ⊥) → basis_at ds c d ≡ Between
  told_between from to n =
      ⊎_elim (λ (e : printed ≡ true). absurd (n (within ds c d from to ∙ rw e))) (λ (e : printed ≡ false). within ds c d from to ∙ rw e)
      (passes_or_fails printed)

pub start_exactly : StartExactly
start_exactly ds rs ps mode r d g = (λ e. told_start ds (curves_of rs mode r) d e, λ h. sym (basis_start ds (curves_of rs mode r) d h))

pub held_exactly : HeldExactly
held_exactly ds rs ps mode r d g = (
  λ e. told_held ds (curves_of rs mode r) d e,
  λ h. sym (basis_held ds (curves_of rs mode r) d (let n = g.rules.some_depths in let l = up_to_last g.rules 0 (omega arith) in omega arith) h),
)

-- The curves of a site rate are mixed exactly where it lies strictly between two neighbouring rates in mode mix.
module _ {ds rs ps : List ℕ} {r : ℕ} (g : Usable ds rs ps r) where
  -- The slower of the two is the fastest not above the site rate.
  mixing_place : (j : ℕ) → j + 1 < length rs → get_or rs j 0 ≤ r → r < get_or rs (j + 1) 0 → fastest rs r ≡ j
  mixing_place j h from to =
      let p = granted_rated g in
      let i = fastest_in p in
      ⊎_elim
      (λ (l : fastest rs r < j).
      let a = fastest_to p (omega arith) in
      let b = rates_rise g.rules (fastest rs r + 1) j (omega arith) (omega arith) in
      absurd (omega arith))
      (λ (l : j ≤ fastest rs r).
      ⊎_elim
      (λ (k : j < fastest rs r).
      let a = fastest_from p in
      let b = rates_rise g.rules (j + 1) (fastest rs r) (omega arith) i in
      absurd (omega arith))
      (λ (k : fastest rs r ≤ j). omega arith)
      (lt_or_le j (fastest rs r)))
      (lt_or_le (fastest rs r) j)

  mixed_mixing : (mode : Mode) → mixes (curves_of rs mode r) ≡ true → Mixing rs mode r
  unfolding curves_of
  mixed_mixing Step e = absurd (never_both e refl)
  mixed_mixing Mix e =
      ⊎_elim
      (λ (l : fastest rs r + 1 < length rs).
      record {
        mix = refl;
        place = fastest rs r;
        within = l;
        above = ltb-true (get_or rs (fastest rs r) 0) r (simp (lt-ltb (fastest rs r + 1) (length rs) l) at e);
        below = fastest_to (granted_rated g) l;
      })
      (λ (l : length rs ≤ fastest rs r + 1). absurd (never_both (simp (le-ltb (fastest rs r + 1) (length rs) l) at e) refl))
      (lt_or_le (fastest rs r + 1) (length rs))

  mixing_mixed : (mode : Mode) → Mixing rs mode r → mixes (curves_of rs mode r) ≡ true
  unfolding curves_of
  mixing_mixed mode m =
      let a = m.above in
      let e = mixing_place m.place m.within (omega arith) m.below in
      rw (m.mix, e) (simp (lt-ltb (m.place + 1) (length rs) m.within) (lt-ltb (get_or rs m.place 0) r a))

  -- Where they are not, one curve is taken, or two at a rate of the sheet: at a depth the percent is that of the fastest rate's own curve.
  alone : (mode : Mode) (d : ℕ) → mixes (curves_of rs mode r) ≡ false → percent_of ds rs ps mode r d ≡ percent_at ds ps (One (fastest rs r)) d
  unfolding curves_of
  alone Step d e = refl
  alone Mix d e =
      ⊎_elim
      (λ (l : fastest rs r + 1 < length rs).
      let a = ltb-false (get_or rs (fastest rs r) 0) r (simp (lt-ltb (fastest rs r + 1) (length rs) l) at e) in
      let b = fastest_from (granted_rated g) in
      let same : r ≡ get_or rs (fastest rs r) 0 = omega arith in
      ap (λ (q : ℕ). percent_of ds rs ps Mix q d) same ∙ printed_rate g.rules Mix (fastest rs r) d (fastest_in (granted_rated g)))
      (λ (l : length rs ≤ fastest rs r + 1). simp (le-ltb (fastest rs r + 1) (length rs) l))
      (lt_or_le (fastest rs r + 1) (length rs))

-- A depth that is said to be printed is one of the sheet's.
of_sheet : {ds rs ps : List ℕ} → Rules ds rs ps → (c : Curves) (d : ℕ) → basis_at ds c d ≡ Printed → OfSheet ds d
of_sheet {ds} s c d e =
    let t = told_printed ds c d e in
    record { place = segment ds d; within = basis_place ds d s.some_depths t.0 refl; there = sym t.1 }

pub printed_exactly : PrintedExactly
printed_exactly ds rs ps mode r d g = (
  λ e. (
    of_sheet g.rules (curves_of rs mode r) d e,
    λ m. never_both (mixing_mixed g mode m) (told_printed ds (curves_of rs mode r) d e).2,
  ),
  λ p. sym (said p.0 (unmixed p.1)),
)
  where
    unmixed : (Mixing rs mode r → ⊥) → mixes (curves_of rs mode r) ≡ false
    unmixed n =
        ⊎_elim (λ (e : mixes (curves_of rs mode r) ≡ true). absurd (n (mixed_mixing g mode e))) (λ (e : mixes (curves_of rs mode r) ≡ false). e)
        (passes_or_fails (mixes (curves_of rs mode r)))

    said : OfSheet ds d → mixes (curves_of rs mode r) ≡ false → Printed ≡ basis_of ds rs mode r d
    said o e =
        rw o.there
        (basis_printed ds (curves_of rs mode r) (get_or ds o.place 0) (depths_rise g.rules 0 o.place (omega arith) o.within) (up_to_last g.rules o.place o.within)
        refl e (printed_segment g.rules o.place o.within) refl)

pub between_exactly : BetweenExactly
between_exactly ds rs ps mode r d g = (
  λ e.
      let w = told_within ds (curves_of rs mode r) d e in (
        w.0,
        w.1,
        λ p. let z = ap basis_number (sym e ∙ (printed_exactly ds rs ps mode r d g).1 p) in omega arith,
      ),
  λ w. told_between ds (curves_of rs mode r) d w.0 w.1 (λ e. w.2 ((printed_exactly ds rs ps mode r d g).0 e)),
)

pub printed_stands_in_the_sheet : PrintedStandsInTheSheet
printed_stands_in_the_sheet ds rs ps mode r d g e =
    let o = of_sheet g.rules (curves_of rs mode r) d e in (
      o,
      alone g mode d (told_printed ds (curves_of rs mode r) d e).2
          ∙ ap (percent_at ds ps (One (fastest rs r))) o.there
          ∙ printed_depth g.rules (fastest rs r) o.place (fastest_in (granted_rated g)) o.within,
    )

pub held_is_the_last : HeldIsTheLast
held_is_the_last ds rs ps mode r d g e =
    let h = told_held ds (curves_of rs mode r) d e in
    ap rounded_down (exact_beyond ds ps (curves_of rs mode r) d (omega arith))

-- Only none has the number of none.
numbered : (b : Basis) → (b ≡ None → ⊥) → basis_number b ≡ basis_number None → ⊥
numbered None n e = n refl
numbered Printed n e = omega arith
numbered Between n e = omega arith
numbered Start n e = omega arith
numbered Held n e = omega arith

pub never_none : NeverNone
never_none ds rs ps mode r =
    record {
      any = λ d e. tells ds (curves_of rs mode r) d None e;
      percent = λ d e z.
          let u = (percent_granted_exactly ds rs ps mode r d).0 e in
          let f = ap (λ (t : ℕ × ℕ × ℕ × ℕ × ℕ). t.2) ((percents_given ds rs ps mode r d u.0).on_grid u.1) in
          numbered (basis_of ds rs mode r d) (tells ds (curves_of rs mode r) d None) (sym f ∙ z);
      reach = λ target e z.
          let u = (reach_granted_exactly ds rs ps mode r target).0 e in
          let l = (depths_given ds rs ps mode r target u.0).found u.1 in
          let f = ap (λ (t : ℕ × ℕ × ℕ × ℕ × ℕ × ℕ). t.3) l.are in
          numbered (basis_of ds rs mode r l.depth) (tells ds (curves_of rs mode r) l.depth None) (sym f ∙ z);
    }
