-- Parts of a text: places past its end, and the parts that start or end with it.
-- Assumes nothing.
use Prim.Native.Nat.{ℕ, ◌-◌, ◌≤◌, ◌<◌, min, max}
use mathlib.Core.Path.{◌≡◌, sym, ◌∙◌, ap}
use mathlib.Core.List.{List}
use mathlib.Core.Logic.{⊎_elim}
use native.Mathlib.Nat.{min-eq_left, min-eq_right, sub-zero}
use native.Mathlib.Omega.{arith}
use lib.ListN.{length, take, drop, length-drop, drop_of_length-le}
use lib.Seq.{take_all, take-nil, drop-length}
use denote.Ref.{Bor}
use Rattle.laws.proofs.Order.{lt_or_le}
use Rattle.laws.proofs.Equation.{only_one}
use Rattle.text.specs.Part.{part_of, Part}

-- all of s from a place on
pub part_tail : (s : List ℕ) (i : ℕ) → part_of s i (length s) ≡ drop i s
unfolding part_of
part_tail s i = take_all (length s - i) (drop i s) (rw (length-drop i s) (omega arith))

-- the bytes of s up to a place
pub part_head : (s : List ℕ) (i : ℕ) → part_of s 0 i ≡ take i s
unfolding part_of
part_head s i = rw sub-zero

-- a place past the end may be drawn in to it
pub drop_within : (s : List ℕ) (n : ℕ) → drop (min n (length s)) s ≡ drop n s
drop_within s n =
    ⊎_elim (λ (h : n < length s). rw (min-eq_left {n = n} {m = length s} (omega arith)))
    (λ (h : length s ≤ n). rw (min-eq_right h, drop-length s) (sym (drop_of_length-le s h)))
    (lt_or_le n (length s))

-- places past the end, and an end before the start, may be drawn in to the text
pub part_within : (s : List ℕ) (from to : ℕ) → part_of s (min from (length s)) (max (min from (length s)) (min to (length s))) ≡ part_of s from to
unfolding part_of
part_within s from to = ⊎_elim inside past (lt_or_le from (length s))
  where
    drawn : ℕ → List ℕ
    drawn n = take (max n (min to (length s)) - n) (drop n s)

    inside : from < length s → drawn (min from (length s)) ≡ take (to - from) (drop from s)
    inside h =
        rw (min-eq_left {n = from} {m = length s} (omega arith))
        (⊎_elim
        (λ (t : to < length s).
        let e : max from (min to (length s)) - from ≡ to - from = omega arith in
        ap (λ (n : ℕ). take n (drop from s)) e)
        (λ (t : length s ≤ to).
        let all : (n : ℕ) → length s - from ≤ n → take n (drop from s) ≡ drop from s =
        λ n m. take_all n (drop from s) (rw (length-drop from s) m) in
        all (max from (min to (length s)) - from) (omega arith) ∙ sym (all (to - from) (omega arith)))
        (lt_or_le to (length s)))

    past : length s ≤ from → drawn (min from (length s)) ≡ take (to - from) (drop from s)
    past h = rw (min-eq_right h, drop_of_length-le s h, drop_of_length-le s {i = length s} (omega arith), take-nil) (sym (take-nil (to - from)))

-- the same, as the code cuts it
pub part_drawn : (s : List ℕ) (from to : ℕ) {start most stop : ℕ} → start ≡ min from (length s) → most ≡ min to (length s) → stop ≡ max start most → take (stop - start) (drop start s) ≡ part_of s from to
unfolding part_of
part_drawn s from to e f g = rw (g, e, f) (part_within s from to)

-- A part that is cut by its two places is settled: any two have the same bytes, and lie at the same place of the same memory.
pub only_one_part : (s : Bor (List ℕ)) (from to : ℕ) {one other : Bor (List ℕ)} → Part s from to one → Part s from to other
    → (one.now ≡ other.now) × (one.ref_ptr ≡ other.ref_ptr)
only_one_part s from to p q = (
  only_one p.bytes q.bytes,
  (λ i. (only_one p.block q.block i, only_one p.start q.start i)),
)
