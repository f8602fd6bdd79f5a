-- Laws of the answers for a site: what is worked out from its six areas and its load is what the definitions say of its sub-areas.
-- Assumes nothing.
use Rattle.std.specs.Prelude.{Ok, Err}
use Prim.Native.Nat.{ℕ}
use mathlib.Core.List.{List}
use mathlib.Core.Path.{◌≡◌, sym, ◌∙◌, ap, fun_ext}
use Rattle.refusal.specs.declared.Refusal.{Refusal}
use Rattle.units.specs.declared.Area.{Area}
use Rattle.units.specs.declared.Nutrient.{Nutrient}
use Rattle.site.specs.declared.Site.{Site}
use Rattle.site.specs.Parts.{parts_of, impervious_area}
use Rattle.site.specs.Judging.{judged}
use Rattle.loads.specs.Rates as rates
use Rattle.volume.specs.Volume.{volume_of}
use Rattle.volume.specs.Areas.{area_at, volume_from}
use Rattle.volume.proofs.Products.{volume_gathered, impervious_gathered}
use Rattle.curve.specs.declared.Mode.{Mode}
use Rattle.sheet.specs.declared.Sheet as sheet
use Rattle.curve.specs.Answers.{refused}
use Rattle.published.specs.Published.{Lists, sheet_of}
use Rattle.published.proofs.Sheets.{sheet_told, none_told}
use Rattle.credit.specs.declared.Wanted.{Wanted}
use Rattle.credit.specs.Credit.{CreditAnswer}
use Rattle.credit.specs.Answers.{Sheet, lent, published, on_sheet, answer_of}
use Rattle.credit.specs.declared.Survey.{Survey}
use Rattle.credit.specs.Inner.{Surveyed}

-- The record is judged before all else;
pub stops : (s : Site) (n : Nutrient) {why : Refusal} (sheet : Sheet) (wanted : Wanted) (mode : Mode) (r : ℕ) → Err why ≡ judged s
    → refused why ≡ answer_of sheet wanted n s mode r
unfolding answer_of
stops s n sheet wanted mode r f = rw (sym f)

-- and what the walk over it found is what the definitions say of its sub-areas.
module _ (s : Site) (n : Nutrient) (g : Survey) (e : Surveyed (rates.export_rates n) s g.areas.of g.load.0) where
  impervious_told : area_at g.areas.of 0 ≡ impervious_area (parts_of s)
  impervious_told = ap (λ (ys : List Area). area_at ys 0) e.areas ∙ impervious_gathered (parts_of s)

  volume_told : volume_from g.areas.of ≡ volume_of (parts_of s)
  volume_told = ap volume_from e.areas ∙ fun_ext (volume_gathered (parts_of s))

  pub lent_answers : (wanted : Wanted) (ds rs ps : List ℕ) (mode : Mode) (r : ℕ) {answer : CreditAnswer}
      → answer ≡ on_sheet wanted g.load.0 (area_at g.areas.of 0) (volume_from g.areas.of) ds rs ps mode r
      → answer ≡ answer_of (lent ds rs ps) wanted n s mode r
  unfolding answer_of
  lent_answers wanted ds rs ps mode r h = rw (← e.fine, ← e.loaded, ← impervious_told, ← volume_told) h

  -- 4 comes first on a published practice; then it is its sheet's answer.
  pub table_answers : (practice : ℕ) (mode : Mode) (r : ℕ) (wanted : Wanted) (l : sheet.Sheet) {answer : CreditAnswer}
      → Ok (l.depths.now, l.rates.now, l.percents.now) ≡ sheet_of practice n
      → answer ≡ on_sheet wanted g.load.0 (area_at g.areas.of 0) (volume_from g.areas.of) l.depths.now l.rates.now l.percents.now mode r
      → answer ≡ answer_of (published practice) wanted n s mode r
  unfolding answer_of
  table_answers practice mode r wanted l told h =
      let t = sheet_told practice n told in
      rw (← e.fine, ← e.loaded, ← impervious_told, ← volume_told, t.0)
      (rw (ap (λ (k : Lists). k.0) t.1, ap (λ (k : Lists). k.1) t.1, ap (λ (k : Lists). k.2) t.1) at h)

  pub none_published : (practice : ℕ) (mode : Mode) (r : ℕ) (wanted : Wanted) {why : Refusal} → Err why ≡ sheet_of practice n
      → refused why ≡ answer_of (published practice) wanted n s mode r
  unfolding answer_of
  none_published practice mode r wanted told = let t = none_told practice n told in rw (← e.fine, t.0, t.1)

-- The work goes by what is wanted.
pub as_wanted : (wanted asked : Wanted) (load : ℕ) (xs : List Area) (ds rs ps : List ℕ) (mode : Mode) (r : ℕ) (answer : CreditAnswer) → wanted ≡ asked
    → answer ≡ on_sheet asked load (area_at xs 0) (volume_from xs) ds rs ps mode r
    → answer ≡ on_sheet wanted load (area_at xs 0) (volume_from xs) ds rs ps mode r
as_wanted wanted asked load xs ds rs ps mode r answer w h = rw w h
