-- What is read, as `ok_or` and `?` take it; a word that is read has its place in its list, so the case at that place is there; and an
-- area line of which a field says nothing.
-- Assumes nothing.
use Rattle.std.specs.Prelude.{Ok, Err, ok_or, Option, Some, None, ℕ, slice_get, option_map, option_and_then}
use Rattle.std.proofs.lemmas.Option.{slice_get-get_or, some_pair_parts}
use Prim.Native.Nat.{ℕ, ◌+◌, ◌≤◌, ◌<◌}
use mathlib.Core.Path.{◌≡◌, refl, ◌∙◌, ap}
use mathlib.Core.Bool.{Bool, true, false, cond}
use mathlib.Core.List.{List, [], ◌∷◌, ◌++◌}
use native.Mathlib.Omega.{arith}
use lib.ListN.{length, drop, get_or}
use Rattle.text.specs.declared.WordStep.{WordStep}
use Rattle.text.specs.Words.{opens_of, word_from}
use Rattle.job.specs.declared.Unread.{Unread}
use Rattle.job.specs.Areas.{sub_area_from}
use Rattle.job.specs.Inner.{told_word, told_case}

-- What `ok_or` and `?` make of a line: it is read, or it is bad.
pub line_read : {X : Type 0} (o : Option X) (u : Unread) {x : X} → ok_or o u ≡ Ok x → o ≡ Some x
line_read None u e = cc
line_read (Some y) u e = cc

pub line_bad : {X : Type 0} (o : Option X) (u : Unread) {v : Unread} → ok_or o u ≡ Err v → (o ≡ None) × (u ≡ v)
line_bad None u e = (refl, cc)
line_bad (Some y) u e = cc

-- a place that is found is one of n
abbrev pub Within : ℕ → Option ℕ → Type 0
Within n (Some k) = k < n
Within n None = Unit {0}

-- a word that is read is one of its list
within_from : (ws : List (List ℕ)) (b : ℕ) (s : List ℕ) (at k n : ℕ) → k + length ws ≤ n → Within n (word_from ws b s at k).place
unfolding word_from
within_from [] b s at k n h = tt
within_from (w ∷ ws) b s at k n h = pick (opens_of (w ++ (b ∷ [])) (drop at s)) (within_from ws b s at (k + 1) n (omega arith))
  where
    pick : (o : Bool) → Within n (word_from ws b s at (k + 1)).place → Within n (cond o (record { place = Some k; next = at + length (w ++ (b ∷ [])) }) (word_from ws b s at (k + 1))).place
    pick true later = omega arith
    pick false later = later

-- what a word that is read tells: its place, with the place behind it
pub record Word (w : WordStep) (k next : ℕ) : Type 0 where
  pub place : w.place ≡ Some k
  pub behind : w.next ≡ next

pub word_none : (w : WordStep) → told_word w ≡ None → w.place ≡ None
word_none w e = pick w.place refl e
  where
    pick : (o : Option ℕ) → w.place ≡ o → option_map {U = ℕ × ℕ} (λ k. (k, w.next)) o ≡ None → w.place ≡ None
    pick None p e = p
    pick (Some k) p e = cc

pub word_some : (w : WordStep) {k next : ℕ} → told_word w ≡ Some (k, next) → Word w k next
word_some w {k} {next} e = pick w.place refl e
  where
    pick : (o : Option ℕ) → w.place ≡ o → option_map {U = ℕ × ℕ} (λ j. (j, w.next)) o ≡ Some (k, next) → Word w k next
    pick None p e = cc
    pick (Some j) p e = let same = some_pair_parts j k w.next next e in record { place = p ∙ ap Some same.0; behind = same.1 }

-- the case at that place, of a list with a case for each word
module _ {X : Type 0} (cases : List X) (d : X) (ws : List (List ℕ)) (b : ℕ) (s : List ℕ) (at : ℕ) (same : length ws ≡ length cases) where
  abbrev w : WordStep
  w = word_from ws b s at 0

  within : Within (length cases) w.place
  within = rw (← same) (within_from ws b s at 0 (length ws) (omega arith))

  pub case_none : told_case cases w ≡ None → w.place ≡ None
  case_none e = pick w.place refl within e
    where
      pick : (o : Option ℕ) → w.place ≡ o → Within (length cases) o → option_and_then {U = X × ℕ} (λ k. option_map {U = X × ℕ} (λ x. (x, w.next)) (slice_get cases k)) o ≡ None → w.place ≡ None
      pick None p h e = p
      pick (Some k) p h e = let f = slice_get-get_or cases k d h in cc

  -- the place of a case that is read
  pub case_some : {x : X} {next : ℕ} → told_case cases w ≡ Some (x, next) → (k : ℕ) × (Word w k next × (get_or cases k d ≡ x))
  case_some {x} {next} e = pick w.place refl within e
    where
      pick : (o : Option ℕ) → w.place ≡ o → Within (length cases) o → option_and_then {U = X × ℕ} (λ k. option_map {U = X × ℕ} (λ y. (y, w.next)) (slice_get cases k)) o ≡ Some (x, next) → (k : ℕ) × (Word w k next × (get_or cases k d ≡ x))
      pick None p h e = cc
      pick (Some k) p h e =
          let same = some_pair_parts (get_or cases k d) x w.next next (rw (slice_get-get_or cases k d h) at e) in
          (k, (record { place = p; behind = same.1 }, same.0))

-- An area line of which a field says nothing says nothing, whether that is its land use, its cover, its soil or its area.
module _ (land cover soil area : Option ℕ) where
  pub bad_land : land ≡ None → None ≡ sub_area_from land cover soil area
  unfolding sub_area_from
  bad_land e1 = rw e1

  pub bad_cover : {l : ℕ} → land ≡ Some l → cover ≡ None → None ≡ sub_area_from land cover soil area
  unfolding sub_area_from
  bad_cover e1 e2 = rw (e1, e2)

  pub bad_soil : {l c : ℕ} → land ≡ Some l → cover ≡ Some c → soil ≡ None → None ≡ sub_area_from land cover soil area
  unfolding sub_area_from
  bad_soil e1 e2 e3 = rw (e1, e2, e3)

  pub bad_area : {l c s : ℕ} → land ≡ Some l → cover ≡ Some c → soil ≡ Some s → area ≡ None → None ≡ sub_area_from land cover soil area
  unfolding sub_area_from
  bad_area e1 e2 e3 e4 = rw (e1, e2, e3, e4)
