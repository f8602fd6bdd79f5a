-- A text over a part of a buffer, and another behind it.
-- Assumes nothing.
use Prim.Native.Nat.{ℕ, suc, ◌+◌, ◌-◌, ◌≤◌, ◌<◌}
use mathlib.Core.Path.{◌≡◌, sym, ◌∙◌}
use mathlib.Core.List.{List, [], ◌∷◌, ◌++◌, append_assoc, append-nil}
use native.Mathlib.Nat.{add_assoc, add-zero, zero-add}
use native.Mathlib.Numerals.{add-one}
use native.Mathlib.Omega.{arith}
use lib.ListN.{length, take, drop, set, take-append-drop, length-append, length-drop}
use lib.Seq.{take_at, drop_at, drop-drop, drop-append-le, length-take-le, append_snoc, set_split}
use Rattle.writing.specs.Writing.{pasted}

-- A text over a buffer, and then another right behind it, is the two as one text over it. Every piece that is put rests on this.
pub pasted_after : (d : List ℕ) (at : ℕ) (t u : List ℕ) → at + length t ≤ length d → pasted (pasted d at t) (at + length t) u ≡ pasted d at (t ++ u)
unfolding pasted
pasted_after d at t u h =
    let behind : List ℕ = drop (at + length t) d in
    let head : length (take at d ++ t) ≡ at + length t = length-append (take at d) t ∙ rw (length-take-le at d (omega arith)) in
    rw (
      take_at (take at d ++ t) behind (at + length t) head,
      ← drop-drop (length u) (at + length t) (take at d ++ t ++ behind),
      drop_at (take at d ++ t) behind (at + length t) head,
      drop-drop (length u) (at + length t) d,
      length-append t u,
      ← add_assoc at (length t) (length u),
      ← append_assoc (take at d) t u,
    )

-- Nothing over a buffer leaves it as it is.
pub pasted_none : (d : List ℕ) (at : ℕ) → pasted d at [] ≡ d
unfolding pasted
pasted_none d at = rw (append-nil (take at d), add-zero at) (take-append-drop at d)

pub pasted_long : (d : List ℕ) (at : ℕ) (t : List ℕ) → at + length t ≤ length d → length (pasted d at t) ≡ length d
unfolding pasted
pasted_long d at t h =
    rw (
      length-append (take at d ++ t) (drop (at + length t) d),
      length-append (take at d) t,
      length-take-le at d (omega arith),
      length-drop (at + length t) d,
    )
    (omega arith)

-- a single byte is stored
pub pasted_byte : (d : List ℕ) (at b : ℕ) → at < length d → set d at b ≡ pasted d at (b ∷ [])
unfolding pasted
pasted_byte d at b h = set_split d at b h ∙ rw (add-one at, append_snoc (take at d) b (drop (suc at) d))

-- the part of a buffer that is lent on from a place, so long, and the buffer with other bytes in that part
abbrev pub part_of : List ℕ → ℕ → ℕ → List ℕ
part_of d at k = take k (drop at d)

abbrev pub with_part : List ℕ → ℕ → ℕ → List ℕ → List ℕ
with_part d at k part = take at d ++ (part ++ drop k (drop at d))

-- and where that part is all of the rest
abbrev pub rest_of : List ℕ → ℕ → List ℕ
rest_of d at = part_of d at (length d - at)

abbrev pub with_rest : List ℕ → ℕ → List ℕ → List ℕ
with_rest d at part = with_part d at (length d - at) part

module _ (d : List ℕ) (at k : ℕ) (h : at + k ≤ length d) where
  pub part_size : length (part_of d at k) ≡ k
  part_size = length-take-le k (drop at d) (rw (length-drop at d) (omega arith))

  -- a text over the start of the part is one over the buffer from there on
  pub part_pasted : (t : List ℕ) → length t ≤ k → with_part d at k (pasted (part_of d at k) 0 t) ≡ pasted d at t
  unfolding pasted
  part_pasted t g =
      let l = part_size in
      rw (
        zero-add (length t),
        append_assoc t (drop (length t) (part_of d at k)) (drop k (drop at d)),
        ← drop-append-le (length t) (part_of d at k) (drop k (drop at d)) (omega arith),
        take-append-drop k (drop at d),
        drop-drop (length t) at d,
      )
      (sym (append_assoc (take at d) t (drop (at + length t) d)))
