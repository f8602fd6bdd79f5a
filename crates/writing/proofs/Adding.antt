-- Texts that are put one behind the other are one text, where there is room for all of them.
-- Assumes nothing.
use Prim.Native.Nat.{ℕ, ◌+◌, ◌-◌, ◌^◌, ◌≤◌, ◌<◌}
use mathlib.Core.Path.{◌≡◌, refl, sym, ◌∙◌, ap}
use mathlib.Core.List.{List, [], ◌∷◌, ◌++◌, flatten}
use mathlib.Core.Logic.{⊎_elim}
use native.Mathlib.Nat.{add_assoc, add-zero, zero-add}
use native.Mathlib.Omega.{arith}
use mir.Syntax.{w64}
use mir.Val.{Fits}
use borrow.Author.Tests.{lt-ltb, le-ltb}
use lib.ListN.{length, drop, take-append-drop, length-append}
use Rattle.laws.proofs.Order.{lt_or_le}
use Rattle.writing.specs.Writing.{put_length, buffer_of}
use Rattle.writing.specs.Writer.{added, all_added}
use Rattle.writing.proofs.Writing.{granted_length, granted_buffer, refused_length, refused_buffer}
use Rattle.writing.proofs.Rest.{pasted_after, pasted_none, pasted_long, part_size, part_pasted, rest_of, with_rest}
use Rattle.writing.specs.Writing.{pasted}

module _ (d : List ℕ) (at : ℕ) (t : List ℕ) where
  added_fits : at + length t ≤ length d → added (d, at) t ≡ (pasted d at t, at + length t)
  unfolding added
  added_fits h = rw (le-ltb (length d) (at + length t) h)

  added_not : length d < at + length t → added (d, at) t ≡ (d, at)
  unfolding added
  added_not h = rw (lt-ltb (length d) (at + length t) h)

  -- The buffer keeps its length.
  added_long : length (added (d, at) t).0 ≡ length d
  added_long =
      ⊎_elim
      (λ (h : length d < at + length t). rw (added_not h))
      (λ (h : at + length t ≤ length d). rw (added_fits h) (pasted_long d at t h))
      (lt_or_le (length d) (at + length t))

  module _ (inside : at ≤ length d) where
    rest_size : length (rest_of d at) ≡ length d - at
    rest_size = part_size d at (length d - at) (omega arith)

    -- A text that was put into the rest of the buffer is added.
    pub put_added : {r : ℕ} {part : List ℕ} → r ≡ put_length (rest_of d at) t → part ≡ buffer_of (rest_of d at) t → (with_rest d at part, at + r) ≡ added (d, at) t
    put_added a b =
        let l = rest_size in
        ⊎_elim
        (λ (h : length d < at + length t).
        rw (a, b, ← refused_length (rest_of d at) t (omega arith), ← refused_buffer (rest_of d at) t (omega arith), added_not h, add-zero at, take-append-drop (length d - at) (drop at d), take-append-drop at d))
        (λ (h : at + length t ≤ length d).
        rw (a, b, ← granted_length (rest_of d at) t (omega arith), ← granted_buffer (rest_of d at) t (omega arith), added_fits h, part_pasted d at (length d - at) (omega arith) t (omega arith)))
        (lt_or_le (length d) (at + length t))

    -- It ends within the buffer, and so its end is a number of 64 bits.
    put_within : {r : ℕ} → r ≡ put_length (rest_of d at) t → at + r ≤ length d
    put_within {r} a =
        let l = rest_size in
        ⊎_elim
        (λ (h : length d < at + length t). let z : r ≡ 0 = a ∙ sym (refused_length (rest_of d at) t (omega arith)) in omega arith)
        (λ (h : at + length t ≤ length d). let z : r ≡ length t = a ∙ sym (granted_length (rest_of d at) t (omega arith)) in omega arith)
        (lt_or_le (length d) (at + length t))

    pub put_fits : {r : ℕ} → r ≡ put_length (rest_of d at) t → length d < 2 ^ 64 → Fits w64 (at + r)
    put_fits a h = let w = put_within a in record { fits = omega arith }

    pub put_inside : {r : ℕ} {part : List ℕ} → r ≡ put_length (rest_of d at) t → part ≡ buffer_of (rest_of d at) t → at + r ≤ length (with_rest d at part)
    put_inside {r} {part} a b =
        let w = put_within a in
        let e = ap (λ (s : List ℕ × ℕ). length s.0) (put_added a b) in
        let l = added_long in
        omega arith

-- Texts of which all fit are added as one.
all_one : (ts : List (List ℕ)) (d : List ℕ) (at : ℕ) → at + length (flatten ts) ≤ length d → all_added (d, at) ts ≡ added (d, at) (flatten ts)
unfolding flatten
all_one [] d at h = sym (added_fits d at [] (omega arith) ∙ rw (pasted_none d at, add-zero at))
all_one (t ∷ ts) d at h =
    let l = length-append t (flatten ts) in
    let m = pasted_long d at t (omega arith) in
    rw (added_fits d at t (omega arith), all_one ts (pasted d at t) (at + length t) (omega arith), added_fits (pasted d at t) (at + length t) (flatten ts) (omega arith), pasted_after d at t (flatten ts) (omega arith), added_fits d at (t ++ flatten ts) (omega arith), l, add_assoc at (length t) (length (flatten ts)))

-- So a text that fits, put piece by piece from the start of a buffer, stands there, and its length is the place behind it.
module _ (d text : List ℕ) (pieces : List (List ℕ)) (e : text ≡ flatten pieces) (h : length text ≤ length d) {s : List ℕ × ℕ} (a : s ≡ all_added (d, 0) pieces) where
  whole : s ≡ (pasted d 0 text, length text)
  whole = a ∙ rw (all_one pieces d 0 (rw (← e) (omega arith)), ← e, added_fits d 0 text (omega arith), zero-add (length text))

  pub whole_length : s.1 ≡ put_length d text
  whole_length = ap (λ (s : List ℕ × ℕ). s.1) whole ∙ granted_length d text h

  pub whole_buffer : s.0 ≡ buffer_of d text
  whole_buffer = ap (λ (s : List ℕ × ℕ). s.0) whole ∙ granted_buffer d text h

-- Some and then others are all of them in turn.
pub all_append : (s : List ℕ × ℕ) (ts us : List (List ℕ)) → all_added s (ts ++ us) ≡ all_added (all_added s ts) us
all_append s [] us = refl
all_append s (t ∷ ts) us = all_append (added s t) ts us
