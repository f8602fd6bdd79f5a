-- A text copied over the start of a buffer, byte by byte.
-- Assumes nothing.
use Prim.Native.Nat.{ℕ, suc, ◌+◌, ◌≤◌, ◌<◌}
use mathlib.Core.Path.{◌≡◌, refl, sym, ◌∙◌, ap}
use mathlib.Core.List.{List, ◌++◌}
use native.Mathlib.Nat.{le_antisymm}
use native.Mathlib.Numerals.{add-one}
use native.Mathlib.Omega.{arith}
use lib.ListN.{length, get_or, take, drop, set, length-set}
use lib.Seq.{length-take-le, take_all, take-suc, drop-cons, append_snoc, set_at}
use Rattle.writing.specs.Writing.{put_length, buffer_of}
use Rattle.writing.proofs.Writing.{pasted_start, granted_length, granted_buffer}

-- the first i bytes of s have been put over those of the buffer d
pub record Copied (d s after : List ℕ) (i : ℕ) : Type 0 where
  pub fits : length s ≤ length d
  pub within : i ≤ length s
  pub long : length after ≡ length d
  pub holds : after ≡ take i s ++ drop i d

module _ {d s : List ℕ} where
  pub copied_none : length s ≤ length d → Copied d s d 0
  copied_none h = record { fits = h; within = omega arith; long = refl; holds = refl }

  module _ {after : List ℕ} {i : ℕ} (p : Copied d s after i) where
    pub copied_next : i < length s → Copied d s (set after i (get_or s i 0)) (i + 1)
    copied_next h =
        let f = p.fits in
        record {
          fits = f;
          within = omega arith;
          long = length-set after i (get_or s i 0) ∙ p.long;
          holds =
              rw (
                p.holds,
                drop-cons d i 0 (omega arith),
                set_at (take i s) (get_or d i 0) (drop (suc i) d) (get_or s i 0) i (length-take-le i s p.within),
                add-one i,
                take-suc s i 0 h,
              )
              (sym (append_snoc (take i s) (get_or s i 0) (drop (suc i) d)));
        }

    pub copied_length : length s ≡ put_length d s
    copied_length = granted_length d s p.fits

    pub copied_buffer : length s ≤ i → after ≡ buffer_of d s
    copied_buffer h =
        let all : i ≡ length s = le_antisymm p.within h in
        (p.holds ∙ rw (all, take_all (length s) s (omega arith)) (pasted_start d s)) ∙ granted_buffer d s p.fits
