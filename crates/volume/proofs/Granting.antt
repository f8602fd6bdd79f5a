-- When the calls on a site grant: the record is judged fine and the amount is within its limit. V(200) never passes 10^13.
-- Assumes nothing.
use Rattle.std.specs.Prelude.{Result, Ok, Err}
use Prim.Native.Nat.{ℕ, ◌≤◌, ◌<◌}
use mathlib.Core.Bool.{Bool, true, false}
use mathlib.Core.List.{[], ◌∷◌}
use mathlib.Core.Path.{◌≡◌, refl, sym, ◌∙◌, ap}
use native.Mathlib.Omega.{arith}
use lib.Dec.{leb}
use borrow.Author.Tests.{le-leb, lt-leb, leb-true}
use Rattle.laws.specs.Turn.{in_turn}
use Rattle.refusal.specs.declared.Refusal.{Refusal}
use Rattle.refusal.specs.declared.Refusal.TheVariants.{AmountOutOfRange}
use Rattle.refusal.specs.Refusal.{number_of, granted}
use Rattle.refusal.proofs.Numbers.{refusal_not_granted}
use Rattle.units.specs.declared.Area.{Area}
use Rattle.units.specs.declared.Depth.{Depth}
use Rattle.units.specs.declared.Volume.{Volume}
use Rattle.units.specs.Limits.{largest, highest_depth}
use Rattle.units.specs.Depths as depths
use Rattle.site.specs.declared.Site.{Site}
use Rattle.site.specs.Parts.{parts_of}
use Rattle.site.specs.Judging.{judged}
use Rattle.site.specs.Judging as site
use Rattle.site.proofs.Judging.{judged_fine}
use Rattle.site.proofs.Promises.{given_refused, given_some}
use Rattle.volume.specs.Volume.{volume_of, depth_of}
use Rattle.volume.specs.Answers.{not_past, volume_answer, depth_answer, given}
use Rattle.volume.proofs.Rising.{volume_fits}

-- a call's number and value, where 9 is the only refusal left
module _ (value : ℕ) where
  abbrev tried : Bool → ℕ × ℕ
  tried true = (granted, value)
  tried false = (number_of AmountOutOfRange, 0)

  -- it is granted where the test passes, with the value
  tried_granted : (b : Bool) (n : ℕ) → tried b ≡ (granted, n) → (b ≡ true) × (value ≡ n)
  tried_granted true n e = (refl, ap (λ (g : ℕ × ℕ). g.1) e)
  tried_granted false n e = absurd (refusal_not_granted AmountOutOfRange (ap (λ (g : ℕ × ℕ). g.0) e))

  tried_passes : (b : Bool) (n : ℕ) → b ≡ true → value ≡ n → tried b ≡ (granted, n)
  tried_passes true n e f = ap (λ (m : ℕ). (granted, m)) f
  tried_passes false n e f = absurd (let z : ◌≡◌ {A = ℕ} 0 1 = cc in omega arith)

-- A call on a record, as a pair of numbers: a refused record gives its number, and for another an amount within its limit the value.
module _ (s : Site) (answer : ℕ × ℕ) (amount most value : ℕ)
    (fine : (total : Area) → judged s ≡ Ok total → answer ≡ tried value (leb amount most))
    (refused : (why : Refusal) → judged s ≡ Err why → answer ≡ (number_of why, 0)) where
  granted_only : (n : ℕ) → answer ≡ (granted, n) → ((site.given (judged s)).0 ≡ granted) × (amount ≤ most) × (value ≡ n)
  granted_only n h = told (judged s) refl
    where
      told : (x : Result Area Refusal) → judged s ≡ x → ((site.given (judged s)).0 ≡ granted) × (amount ≤ most) × (value ≡ n)
      told (Ok total) e =
          let t = tried_granted value (leb amount most) n (sym (fine total e) ∙ h) in
          (simp e, leb-true amount most t.0, t.1)
      told (Err why) e = absurd (refusal_not_granted why (ap (λ (g : ℕ × ℕ). g.0) (sym (refused why e) ∙ h)))

  granted_there : (n : ℕ) → (site.given (judged s)).0 ≡ granted → amount ≤ most → value ≡ n → answer ≡ (granted, n)
  granted_there n h l v = told (judged s) refl
    where
      told : (x : Result Area Refusal) → judged s ≡ x → answer ≡ (granted, n)
      told (Ok total) e = fine total e ∙ tried_passes value (leb amount most) n (le-leb amount most l) v
      told (Err why) e = absurd (refusal_not_granted why (sym (ap (λ (x : Result Area Refusal). (site.given x).0) e) ∙ h))

  -- A refused record gives its own number,
  own_number : ((site.given (judged s)).0 ≡ granted → ⊥) → answer ≡ ((site.given (judged s)).0, 0)
  own_number h = let r = given_refused (judged s) h in refused r.0 r.1 ∙ ap (λ (x : Result Area Refusal). ((site.given x).0, 0)) (sym r.1)

  -- and another refuses an amount above its limit with 9.
  amount_refused : (site.given (judged s)).0 ≡ granted → most < amount → answer ≡ (number_of AmountOutOfRange, 0)
  amount_refused h l =
      let g = given_some (judged s) h in fine g.0 g.1 ∙ ap (tried value) (lt-leb amount most l)

-- V(200) of a record that is judged fine is within 10^13
fits_known : (s : Site) (total : Area) → judged s ≡ Ok total → not_past (volume_of (parts_of s) highest_depth) ≡ true
fits_known s total e = le-leb _ _ (volume_fits (parts_of s) (judged_fine s total e).total)

module _ (s : Site) (d : Depth) where
  volume_fine : (total : Area) → judged s ≡ Ok total → given (volume_answer s d) ≡ tried (volume_of (parts_of s) d.0) (leb d.0 highest_depth)
  unfolding volume_answer
  volume_fine total e = simp (e, fits_known s total e) (told (leb d.0 highest_depth))
    where
      told : (b : Bool) → given (in_turn Err (Ok (record { 0 = volume_of (parts_of s) d.0 })) ((b, AmountOutOfRange) ∷ [])) ≡ tried (volume_of (parts_of s) d.0) b
      told true = refl
      told false = refl

  volume_refused : (why : Refusal) → judged s ≡ Err why → given (volume_answer s d) ≡ (number_of why, 0)
  unfolding volume_answer
  volume_refused why e = simp e

  pub volume_only : (v : ℕ) → given (volume_answer s d) ≡ (granted, v)
      → ((site.given (judged s)).0 ≡ granted) × (d.0 ≤ highest_depth) × (volume_of (parts_of s) d.0 ≡ v)
  volume_only = granted_only s _ _ _ _ volume_fine volume_refused

  pub volume_there : (v : ℕ) → (site.given (judged s)).0 ≡ granted → d.0 ≤ highest_depth → volume_of (parts_of s) d.0 ≡ v
      → given (volume_answer s d) ≡ (granted, v)
  volume_there = granted_there s _ _ _ _ volume_fine volume_refused

  pub volume_own : ((site.given (judged s)).0 ≡ granted → ⊥) → given (volume_answer s d) ≡ ((site.given (judged s)).0, 0)
  volume_own = own_number s _ d.0 highest_depth (volume_of (parts_of s) d.0) volume_fine volume_refused

  pub volume_above : (site.given (judged s)).0 ≡ granted → highest_depth < d.0 → given (volume_answer s d) ≡ (number_of AmountOutOfRange, 0)
  volume_above = amount_refused s _ _ _ _ volume_fine volume_refused

module _ (s : Site) (v : Volume) where
  depth_fine : (total : Area) → judged s ≡ Ok total → depths.given (depth_answer s v) ≡ tried (depth_of (parts_of s) v.0) (leb v.0 largest)
  unfolding depth_answer depth_of
  depth_fine total e = simp (e, fits_known s total e) (told (leb v.0 largest))
    where
      told : (b : Bool) → depths.given (in_turn Err (Ok (record { 0 = depth_of (parts_of s) v.0 })) ((b, AmountOutOfRange) ∷ [])) ≡ tried (depth_of (parts_of s) v.0) b
      told true = refl
      told false = refl

  depth_refused : (why : Refusal) → judged s ≡ Err why → depths.given (depth_answer s v) ≡ (number_of why, 0)
  unfolding depth_answer
  depth_refused why e = simp e

  pub depth_only : (d : ℕ) → depths.given (depth_answer s v) ≡ (granted, d)
      → ((site.given (judged s)).0 ≡ granted) × (v.0 ≤ largest) × (depth_of (parts_of s) v.0 ≡ d)
  depth_only = granted_only s _ _ _ _ depth_fine depth_refused

  pub depth_there : (d : ℕ) → (site.given (judged s)).0 ≡ granted → v.0 ≤ largest → depth_of (parts_of s) v.0 ≡ d
      → depths.given (depth_answer s v) ≡ (granted, d)
  depth_there = granted_there s _ _ _ _ depth_fine depth_refused

  pub depth_own : ((site.given (judged s)).0 ≡ granted → ⊥) → depths.given (depth_answer s v) ≡ ((site.given (judged s)).0, 0)
  depth_own = own_number s _ v.0 largest (depth_of (parts_of s) v.0) depth_fine depth_refused

  pub depth_above : (site.given (judged s)).0 ≡ granted → largest < v.0 → depths.given (depth_answer s v) ≡ (number_of AmountOutOfRange, 0)
  depth_above = amount_refused s _ _ _ _ depth_fine depth_refused
