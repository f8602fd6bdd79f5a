-- A text changed in its place, byte by byte.
-- Assumes nothing.
use Rattle.std.specs.Prelude.{Result, Ok, Err, is_ok, true, false}
use Prim.Native.Nat.{ℕ, suc, ◌+◌, ◌≤◌, ◌<◌}
use mathlib.Core.Path.{◌≡◌, refl, sym, ◌∙◌, ap}
use mathlib.Core.List.{List, [], ◌∷◌, ◌++◌, map, map-append, append-nil}
use native.Mathlib.Nat.{le_antisymm}
use native.Mathlib.Numerals.{add-one}
use native.Mathlib.Omega.{arith}
use lib.ListN.{length, get_or, take, drop, set, length-set, length-map}
use lib.Seq.{length-take-le, take_all, drop-length, take-suc, drop-cons, append_snoc, set_at, get_or_at}
use Rattle.job.specs.declared.Reading.{Reading}
use Rattle.job.specs.declared.Unread.{Unread}
use Rattle.job.specs.Reading.{reading_of}
use Rattle.rewrite.specs.Rewriting.{c_for_u, if_it_reads, rewritten_of}

-- the first i bytes of a text have been changed
pub record Changed (text after : List ℕ) (i : ℕ) : Type 0 where
  pub within : i ≤ length text
  pub long : length after ≡ length text
  pub holds : after ≡ map c_for_u (take i text) ++ drop i text

pub changed_none : {text : List ℕ} → Changed text text 0
changed_none = record { within = omega arith; long = refl; holds = refl }

module _ {text after : List ℕ} {i : ℕ} (c : Changed text after i) where
  front_long : length (map c_for_u (take i text)) ≡ i
  front_long = length-map (take i text) c_for_u ∙ length-take-le i text c.within

  module _ (h : i < length text) where
    split : after ≡ map c_for_u (take i text) ++ get_or text i 0 ∷ drop (suc i) text
    split = c.holds ∙ ap (λ (r : List ℕ). map c_for_u (take i text) ++ r) (drop-cons text i 0 h)

    unchanged : get_or after i 0 ≡ get_or text i 0
    unchanged = ap (λ (r : List ℕ). get_or r i 0) split ∙ get_or_at (map c_for_u (take i text)) (get_or text i 0) (drop (suc i) text) 0 i front_long

    stored : set after i (c_for_u (get_or text i 0)) ≡ map c_for_u (take (suc i) text) ++ drop (suc i) text
    stored =
        ap (λ (r : List ℕ). set r i (c_for_u (get_or text i 0))) split
        ∙ set_at (map c_for_u (take i text)) (get_or text i 0) (drop (suc i) text) (c_for_u (get_or text i 0)) i front_long
        ∙ sym (append_snoc (map c_for_u (take i text)) (c_for_u (get_or text i 0)) (drop (suc i) text))
        ∙ rw (take-suc text i 0 h, map-append c_for_u (take i text) (get_or text i 0 ∷ []))

  pub changed_next : {byte : ℕ} → i < length after → byte ≡ c_for_u (get_or after i 0) → Changed text (set after i byte) (i + 1)
  changed_next {byte} l e =
      let h : i < length text = let m = c.long in omega arith in
      record {
        within = omega arith;
        long = length-set after i byte ∙ c.long;
        holds = rw (add-one i, e, unchanged h) (stored h);
      }

  pub changed_all : length after ≤ i → after ≡ map c_for_u text
  changed_all h =
      let all : i ≡ length text = le_antisymm c.within (let l = c.long in omega arith) in
      c.holds ∙ rw (all, take_all (length text) text (omega arith), drop-length text) (append-nil (map c_for_u text))

-- What was read of a text decides: it is changed, or stays as it came.
module _ (text : List ℕ) {g : Result Reading Unread} (told : g ≡ reading_of text) where
  pub rewritten_read : {after : List ℕ} → is_ok g ≡ true → after ≡ map c_for_u text → after ≡ rewritten_of text
  unfolding rewritten_of
  rewritten_read {after} e h = rw (← told) (pick g e)
    where
      pick : (x : Result Reading Unread) → is_ok x ≡ true → after ≡ if_it_reads x text
      pick (Ok r) e = h
      pick (Err u) e = cc

  pub rewritten_kept : is_ok g ≡ false → text ≡ rewritten_of text
  unfolding rewritten_of
  rewritten_kept e = rw (← told) (pick g e)
    where
      pick : (x : Result Reading Unread) → is_ok x ≡ false → text ≡ if_it_reads x text
      pick (Ok r) e = cc
      pick (Err u) e = refl
