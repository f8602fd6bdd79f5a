-- A part of a text: its bytes, and the place where it lies.
-- Assumes nothing.
use Rattle.std.specs.Prelude.{ℕ, ◌+◌, ◌-◌, min, ◌≡◌, List, length, take, drop}
use Rattle.std.specs.Borrow.{Bor}

-- the bytes from one place up to, and without, another. What lies past the end is not there, and nothing lies between a place and one before it
unfoldable pub part_of : List ℕ → ℕ → ℕ → List ℕ
part_of s from to = take (to - from) (drop from s)

-- r is that part of the lent text s itself: it lies in the same memory, and a part that would start past the end starts at the end
pub record Part (s : Bor (List ℕ)) (from to : ℕ) (r : Bor (List ℕ)) : Type 0 where
  pub bytes : r.now ≡ part_of s.now from to
  pub block : r.ref_ptr.0 ≡ s.ref_ptr.0
  pub start : r.ref_ptr.1 ≡ s.ref_ptr.1 + min from (length s.now)
