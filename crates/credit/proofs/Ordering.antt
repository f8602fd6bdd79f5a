-- The refusals of crediting and sizing in their order: the record's own, 4 or 5, 6, 7, 8, 9 and 10.
-- Assumes nothing.
use Rattle.std.specs.Prelude.{Result, Ok, Err}
use Rattle.units.specs.declared.Area.{Area}
use Prim.Native.Nat.{ℕ, ◌<◌}
use mathlib.Core.Bool.{true, false}
use mathlib.Core.List.{List}
use mathlib.Core.Path.{◌≡◌, refl, ◌∙◌, ap}
use borrow.Author.Tests.{lt-ltb, lt-leb}
use Rattle.laws.proofs.Order.{never_both}
use Rattle.refusal.specs.declared.Refusal.{Refusal}
use Rattle.refusal.specs.declared.Refusal.TheVariants.{NoPublishedSheet, UnfitSheet, NoImperviousArea, AmountOutOfRange}
use Rattle.refusal.specs.Refusal.{number_of, granted}
use Rattle.refusal.proofs.Numbers.{refusal_not_granted}
use Rattle.units.specs.declared.Nutrient.{Nutrient}
use Rattle.units.specs.Limits.{largest, most_percent}
use Rattle.site.specs.declared.Site.{Site}
use Rattle.site.specs.declared.SubArea.{SubArea}
use Rattle.site.specs.Parts.{parts_of, impervious_area}
use Rattle.site.specs.Judging.{judged, after_judging, given as area_given}
use Rattle.volume.specs.Volume.{volume_of}
use Rattle.curve.specs.declared.Mode.{Mode}
use Rattle.curve.specs.declared.Basis.{Basis}
use Rattle.curve.specs.declared.SheetError.{SheetError}
use Rattle.curve.specs.declared.SheetError.TheVariants.{Unfit}
use Rattle.sheet.specs.declared.Fault.{Fault}
use Rattle.sheet.specs.Sheet.{part_number}
use Rattle.curve.specs.Answers.{refused, admission_of}
use Rattle.curve.proofs.Refusing.{unfit_told, fast_told, slow_told}
use Rattle.credit.specs.declared.Wanted.{Wanted}
use Rattle.credit.specs.declared.Wanted.TheVariants.{Credit, Size}
use Rattle.credit.specs.Credit.{CreditAnswer, credit_by, size_by}
use Rattle.credit.specs.Answers.{Sheet, lent, published, credit, size, worked, on_sheet, on_parts, by_sheet, answer_of, refused_with, given}
use Rattle.credit.specs.Promises.{depths_in, rates_in, percents_in, percent_on, basis_on, is_there, Begun, RefusedInOrder}
use Rattle.credit.proofs.Opening.{size_unreachable}
use Rattle.credit.proofs.Granting.{sheet_works, opened}

-- 8 is tried first of a site, and 9 next.
module _ (load impervious : ℕ) (volume_at percents : ℕ → ℕ) (bases : ℕ → Basis) where
  worked_bare : (wanted : Wanted) → impervious ≡ 0 → worked wanted load impervious volume_at percents bases ≡ refused NoImperviousArea
  unfolding credit_by size_by
  worked_bare (Credit v) e = rw e
  worked_bare (Size target) e = rw e

  module _ (some : 0 < impervious) where
    credit_past : (v : ℕ) → largest < v → credit_by load impervious volume_at percents bases v ≡ refused AmountOutOfRange
    unfolding credit_by
    credit_past v h = simp (lt-ltb 0 impervious some, lt-leb v largest h)

    size_past : (target : ℕ) → most_percent < target → size_by load impervious volume_at percents bases target ≡ refused AmountOutOfRange
    unfolding size_by
    size_past target h = simp (lt-ltb 0 impervious some, lt-leb target most_percent h)

-- A record's refusal is the answer's; a record that is judged fine goes on to its sheet,
module _ (sheet : Sheet) (n : Nutrient) (s : Site) (mode : Mode) (r : ℕ) (wanted : Wanted) where
  abbrev after : Result Area Refusal → CreditAnswer
  after x = after_judging refused (λ total. by_sheet volume_of sheet wanted n (parts_of s) mode r) x

  record_refused : (x : Result Area Refusal) → ((area_given x).0 ≡ granted → ⊥) → given (after x) ≡ refused_with (area_given x).0 0 0
  record_refused (Ok total) h = absurd (h refl)
  record_refused (Err why) h = refl

  refused_first : ((area_given (judged s)).0 ≡ granted → ⊥) → given (answer_of sheet wanted n s mode r) ≡ refused_with (area_given (judged s)).0 0 0
  unfolding answer_of
  refused_first h = record_refused (judged s) h

  record_fine : (x : Result Area Refusal) → (area_given x).0 ≡ granted → after x ≡ by_sheet volume_of sheet wanted n (parts_of s) mode r
  record_fine (Ok total) h = refl
  record_fine (Err why) h = absurd (refusal_not_granted why h)

  goes_to_sheet : (area_given (judged s)).0 ≡ granted → answer_of sheet wanted n s mode r ≡ by_sheet volume_of sheet wanted n (parts_of s) mode r
  unfolding answer_of
  goes_to_sheet h = record_fine (judged s) h

module _ (n : Nutrient) (parts : List SubArea) (mode : Mode) (r : ℕ) (wanted : Wanted) where
  -- which is not there,
  sheet_missing : (sheet : Sheet) → is_there sheet n ≡ false → by_sheet volume_of sheet wanted n parts mode r ≡ refused NoPublishedSheet
  sheet_missing (lent ds rs ps) e = absurd (never_both refl e)
  sheet_missing (published practice) e = rw e

  -- or is,
  sheet_is : (sheet : Sheet) → is_there sheet n ≡ true
      → by_sheet volume_of sheet wanted n parts mode r ≡ on_parts volume_of wanted n parts (depths_in sheet) (rates_in sheet n) (percents_in sheet n) mode r
  sheet_is (lent ds rs ps) e = refl
  sheet_is (published practice) e = rw e

  -- and whose refusal is the answer's.
  module _ (ds rs ps : List ℕ) where
    parts_refused : {error : SheetError} → admission_of ds rs ps mode r ≡ Err error → on_parts volume_of wanted n parts ds rs ps mode r ≡ Err error
    unfolding on_sheet
    parts_refused e = rw e

    -- a fault with its part and place
    parts_unfit : (list place : ℕ)
        → (fault : Fault) × (admission_of ds rs ps mode r ≡ Err (Unfit fault)) × (part_number fault.part ≡ list) × (fault.place ≡ place)
        → given (on_parts volume_of wanted n parts ds rs ps mode r) ≡ refused_with (number_of UnfitSheet) list place
    parts_unfit list place (fault, e, l, p) = rw (parts_refused e, l, p)

-- A record that is judged fine and a sheet that is there: the sheet decides.
begun_is : (sheet : Sheet) (n : Nutrient) (s : Site) (mode : Mode) (r : ℕ) (wanted : Wanted) → Begun sheet n s
    → answer_of sheet wanted n s mode r ≡ on_parts volume_of wanted n (parts_of s) (depths_in sheet) (rates_in sheet n) (percents_in sheet n) mode r
begun_is sheet n s mode r wanted b = goes_to_sheet sheet n s mode r wanted b.fine ∙ sheet_is n (parts_of s) mode r wanted sheet b.there

pub refused_in_order : RefusedInOrder
refused_in_order sheet n s mode r =
    let ds = depths_in sheet in
    let rs = rates_in sheet n in
    let ps = percents_in sheet n in
    record {
      judged_first = λ h wanted. refused_first sheet n s mode r wanted h;
      no_sheet = λ h e wanted. ap given (goes_to_sheet sheet n s mode r wanted h ∙ sheet_missing n (parts_of s) mode r wanted sheet e);
      unfit = λ b list place e wanted.
          ap given (begun_is sheet n s mode r wanted b) ∙ parts_unfit n (parts_of s) mode r wanted ds rs ps list place (unfit_told ds rs ps mode r list place e);
      too_fast = λ b k h wanted.
          ap given (begun_is sheet n s mode r wanted b ∙ parts_refused n (parts_of s) mode r wanted ds rs ps (fast_told ds rs ps mode r k h));
      too_slow = λ b k h l wanted.
          ap given (begun_is sheet n s mode r wanted b ∙ parts_refused n (parts_of s) mode r wanted ds rs ps (slow_told ds rs ps mode r k h l));
      no_impervious = λ b u e wanted.
          ap given
          (goes_to_sheet sheet n s mode r wanted b.fine
          ∙ sheet_works sheet wanted n (parts_of s) mode r b.there u
          ∙ worked_bare _ (impervious_area (parts_of s)) _ (percent_on sheet n mode r) (basis_on sheet n mode r) wanted e);
      volume_past = λ a v h.
          let o = opened sheet n s mode r a in
          ap given (o.works (credit v) ∙ credit_past _ _ _ (percent_on sheet n mode r) (basis_on sheet n mode r) o.within.some_impervious v h);
      target_past = λ a target h.
          let o = opened sheet n s mode r a in
          ap given (o.works (size target) ∙ size_past _ _ _ (percent_on sheet n mode r) (basis_on sheet n mode r) o.within.some_impervious target h);
      unreachable = λ a target h l. ap given (size_unreachable (opened sheet n s mode r a) target h l);
    }
