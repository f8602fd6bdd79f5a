-- The answers of the calls, case by case: the tests that led there are the definition's.
-- Assumes nothing.
use Rattle.std.specs.Prelude.{Result, Ok, Err}
use Prim.Native.Nat.{ℕ, ◌≤◌, ◌<◌}
use mathlib.Core.Bool.{Bool, true, false, not}
use mathlib.Core.List.{List}
use mathlib.Core.Path.{◌≡◌, refl, sym, ◌∙◌, ap}
use native.Mathlib.Nat.{le_trans}
use lib.Dec.{leb}
use borrow.Author.Tests.{le-leb, lt-leb, leb-true, not-true, not-false}
use Rattle.refusal.specs.declared.Refusal.{Refusal}
use Rattle.refusal.specs.declared.Refusal.TheVariants.{TotalAreaPassed, AmountOutOfRange, PastLargest}
use Rattle.units.specs.declared.Area.{Area}
use Rattle.units.specs.declared.Depth.{Depth}
use Rattle.units.specs.declared.Volume.{Volume}
use Rattle.units.specs.Limits.{most_area, largest, highest_depth}
use Rattle.site.specs.declared.Site.{Site}
use Rattle.site.specs.Parts.{parts_of}
use Rattle.site.specs.Judging.{judged, after_judging}
use Rattle.site.specs.Inner.{Fine}
use Rattle.site.proofs.Judging.{judged_fine}
use Rattle.volume.specs.declared.Areas.{Areas}
use Rattle.volume.specs.declared.Gathered.{Gathered}
use Rattle.volume.specs.Volume.{depth_within, depth_of}
use Rattle.volume.specs.Areas.{no_areas, areas_of, total_of, within_limit, volume_from}
use Rattle.volume.specs.Answers.{not_past, volume_answer, depth_answer, gathered_answer, volume_on, depth_on}
use Rattle.volume.proofs.Gathering.{gathered_six}
use Rattle.volume.proofs.Products.{volume_gathered}
use Rattle.volume.proofs.Evaluation.{from_most}

-- Six areas are those of a site where their total is within the limit.
pub total_known : (xs : List Area) {b : Bool} → b ≡ within_limit xs → not b ≡ false → total_of xs ≤ most_area
total_known xs e f = leb-true (total_of xs) most_area (sym e ∙ not-false _ f)

-- The limits leave no doubt: V(200) is at most that of the largest site.
pub never_past : (xs : List Area) → total_of xs ≤ most_area → 7_260_000_000_000 ≤ largest → true ≡ not_past (volume_from xs highest_depth)
never_past xs s h = sym (le-leb (volume_from xs highest_depth) largest (le_trans (from_most xs s) h))

-- Where they do, V(200) decides.
pub past_told : (xs : List Area) (v : ℕ) → v ≡ volume_from xs highest_depth → leb v largest ≡ not_past (volume_from xs highest_depth)
past_told xs v e = rw e

module _ (xs : List Area) (d : Depth) {b : Bool} (e : b ≡ within_limit xs) where
  pub volume_crowded : not b ≡ true → Err TotalAreaPassed ≡ volume_on xs d
  unfolding volume_on
  volume_crowded f = simp (sym e ∙ not-true _ f)

  pub volume_off_grid : not b ≡ false → highest_depth < d.0 → Err AmountOutOfRange ≡ volume_on xs d
  unfolding volume_on
  volume_off_grid f h = simp (sym e ∙ not-false _ f, lt-leb _ _ h)

  pub volume_past : {p : Bool} → not b ≡ false → d.0 ≤ highest_depth → p ≡ not_past (volume_from xs highest_depth) → not p ≡ true → Err PastLargest ≡ volume_on xs d
  unfolding volume_on
  volume_past f h g k = simp (sym e ∙ not-false _ f, le-leb _ _ h, sym g ∙ not-true _ k)

  pub volume_granted : {p : Bool} (r : Volume) → not b ≡ false → d.0 ≤ highest_depth → p ≡ not_past (volume_from xs highest_depth) → not p ≡ false
      → r.0 ≡ volume_from xs d.0 → Ok r ≡ volume_on xs d
  unfolding volume_on
  volume_granted r f h g k v = simp (sym e ∙ not-false _ f, le-leb _ _ h, sym g ∙ not-false _ k, ← v)

module _ (xs : List Area) (v : Volume) {b : Bool} (e : b ≡ within_limit xs) where
  pub depth_crowded : not b ≡ true → Err TotalAreaPassed ≡ depth_on xs v
  unfolding depth_on
  depth_crowded f = simp (sym e ∙ not-true _ f)

  pub depth_too_large : not b ≡ false → largest < v.0 → Err AmountOutOfRange ≡ depth_on xs v
  unfolding depth_on
  depth_too_large f h = simp (sym e ∙ not-false _ f, lt-leb _ _ h)

  pub depth_past : {p : Bool} → not b ≡ false → v.0 ≤ largest → p ≡ not_past (volume_from xs highest_depth) → not p ≡ true → Err PastLargest ≡ depth_on xs v
  unfolding depth_on
  depth_past f h g k = simp (sym e ∙ not-false _ f, le-leb _ _ h, sym g ∙ not-true _ k)

  pub depth_granted : {p : Bool} (r : Depth) → not b ≡ false → v.0 ≤ largest → p ≡ not_past (volume_from xs highest_depth) → not p ≡ false
      → r.0 ≡ depth_within (volume_from xs) v.0 → Ok r ≡ depth_on xs v
  unfolding depth_on
  depth_granted r f h g k w = simp (sym e ∙ not-false _ f, le-leb _ _ h, sym g ∙ not-false _ k, ← w)

-- The six areas beside the answer of the judging.
module _ (s : Site) {found : Result Area Refusal} (e : found ≡ judged s) where
  pub fine_known : {total : Area} → found ≡ Ok total → Fine s
  fine_known {total} f = judged_fine s total (sym e ∙ f)

  pub gather_granted : {total : Area} (areas : Areas) → found ≡ Ok total → areas.of ≡ areas_of (parts_of s)
      → record { answer = Ok total; areas = areas } ≡ gathered_answer s
  unfolding gathered_answer
  gather_granted areas f g = simp (sym e ∙ f, ← g)

  pub gather_refused : {why : Refusal} → found ≡ Err why
      → record { answer = Err why; areas = record { of = no_areas } } ≡ gathered_answer s
  unfolding gathered_answer
  gather_refused f = simp (sym e ∙ f)

-- On the six areas of a site the calls answer as the site's own definitions say.
module _ (s : Site) (total : Area) (e : judged s ≡ Ok total) where
  fine : within_limit (areas_of (parts_of s)) ≡ true
  fine = le-leb _ _ (gathered_six (parts_of s) (judged_fine s total e).total).small

  pub volume_same : (d : Depth) → volume_on (areas_of (parts_of s)) d ≡ volume_answer s d
  unfolding volume_on volume_answer
  volume_same d = simp (e, fine, volume_gathered)

  pub depth_same : (v : Volume) → depth_on (areas_of (parts_of s)) v ≡ depth_answer s v
  unfolding depth_on depth_answer depth_of
  depth_same v = simp (e, fine, volume_gathered)

-- What is gathered tells how the record was judged.
pub judged_told : (s : Site) (g : Gathered) → g ≡ gathered_answer s → g.answer ≡ judged s
unfolding gathered_answer
judged_told s g e = ap (λ (x : Gathered). x.answer) e ∙ by (judged s) refl
  where
    by : (a : Result Area Refusal) → judged s ≡ a
        → (after_judging {A = Gathered} (λ why. record { answer = Err why; areas = record { of = no_areas } })
        (λ total. record { answer = Ok (record { 0 = total }); areas = record { of = areas_of (parts_of s) } }) a).answer ≡ a
    by (Ok total) f = refl
    by (Err why) f = refl

module _ (s : Site) (g : Gathered) (e : g ≡ gathered_answer s) where
  -- a fine record goes on with its six areas
  pub areas_told : (total : Area) → g.answer ≡ Ok total → g.areas.of ≡ areas_of (parts_of s)
  unfolding gathered_answer
  areas_told total f = ap (λ (x : Gathered). x.areas.of) e ∙ simp (sym (judged_told s g e) ∙ f)

  pub volume_on_site : (total : Area) (d : Depth) (r : Result Volume Refusal) → g.answer ≡ Ok total → r ≡ volume_on g.areas.of d → r ≡ volume_answer s d
  volume_on_site total d r f h =
      h ∙ ap (λ (xs : List Area). volume_on xs d) (areas_told total f) ∙ volume_same s total (sym (judged_told s g e) ∙ f) d

  pub depth_on_site : (total : Area) (v : Volume) (r : Result Depth Refusal) → g.answer ≡ Ok total → r ≡ depth_on g.areas.of v → r ≡ depth_answer s v
  depth_on_site total v r f h =
      h ∙ ap (λ (xs : List Area). depth_on xs v) (areas_told total f) ∙ depth_same s total (sym (judged_told s g e) ∙ f) v

  -- a refused record stops the call
  pub volume_stops : (why : Refusal) (d : Depth) → g.answer ≡ Err why → Err why ≡ volume_answer s d
  unfolding volume_answer
  volume_stops why d f = simp (sym (judged_told s g e) ∙ f)

  pub depth_stops : (why : Refusal) (v : Volume) → g.answer ≡ Err why → Err why ≡ depth_answer s v
  unfolding depth_answer
  depth_stops why v f = simp (sym (judged_told s g e) ∙ f)
