-- Rules, "The numbers given back": credit and size judge the record before all else (14, 2, 3, 16), then try 4 or 5, 6, 7, 8, 9, 15 and 10.
-- Assumes nothing.
use Rattle.std.specs.Prelude.{ℕ, List, [], ◌∷◌, Ok, Err}
use Rattle.laws.specs.Turn.{in_turn}
use Rattle.refusal.specs.declared.Refusal.TheVariants.{NoPublishedSheet, UnfitSheet}
use Rattle.refusal.specs.Refusal.{number_of, granted}
use Rattle.units.specs.declared.Nutrient.{Nutrient}
use Rattle.sheet.specs.Sheet.{part_number}
use Rattle.site.specs.declared.SubArea.{SubArea}
use Rattle.site.specs.declared.Site.{Site}
use Rattle.site.specs.Parts.{parts_of, impervious_area}
use Rattle.site.specs.Judging.{judged, after_judging}
use Rattle.loads.specs.Rates as rates
use Rattle.loads.specs.Loads.{load_of}
use Rattle.volume.specs.Volume.{volume_of}
use Rattle.curve.specs.declared.Mode.{Mode}
use Rattle.curve.specs.declared.Basis.{Basis}
use Rattle.curve.specs.declared.Basis.TheVariants.{None}
use Rattle.curve.specs.Curve.{percent_at}
use Rattle.curve.specs.Basis.{basis_at}
use Rattle.curve.specs.declared.SheetError.TheVariants.{Unfit, Refused}
use Rattle.curve.specs.Answers.{refused, admission_of, after_admission}
use Rattle.published.specs.Tables.{depths}
use Rattle.published.specs.Published.{rates_of, percents_of, is_published}
use Rattle.credit.specs.declared.Wanted.{Wanted}
use Rattle.credit.specs.declared.Wanted.TheVariants.{Credit, Size}
use Rattle.credit.specs.Credit.{CreditAnswer, credit_by, size_by}

-- A sheet: one that is lent, by its depths, rates and percents, or the published one of a practice.
pub data Sheet : Type 0 where
  lent : List ℕ → List ℕ → List ℕ → Sheet
  published : ℕ → Sheet

-- what is asked of a site: the credit of a volume, or the size of a target
abbrev pub credit : ℕ → Wanted
credit v = Credit (record { 0 = v })

abbrev pub size : ℕ → Wanted
size target = Size (record { 0 = target })

-- how it is answered on a sheet, for a nutrient, a site, a mode and a rate
abbrev pub Answering : Type 0
Answering = Sheet → Wanted → Nutrient → Site → Mode → ℕ → CreditAnswer

-- a rule for V: V of sub-areas at each depth
abbrev pub VolumeRule : Type 0
VolumeRule = List SubArea → ℕ → ℕ

-- crediting or sizing by a load, an impervious area, a V and the percent at each depth with its basis
abbrev pub worked : Wanted → ℕ → ℕ → (ℕ → ℕ) → (ℕ → ℕ) → (ℕ → Basis) → CreditAnswer
worked (Credit v) load impervious volume_at percents bases = credit_by load impervious volume_at percents bases v.0
worked (Size target) load impervious volume_at percents bases = size_by load impervious volume_at percents bases target.0

-- the same on a sheet of depths ds, rates rs and percents ps, after 5, 6 and 7
unfoldable pub on_sheet : Wanted → ℕ → ℕ → (ℕ → ℕ) → List ℕ → List ℕ → List ℕ → Mode → ℕ → CreditAnswer
on_sheet wanted load impervious volume_at ds rs ps mode r =
    after_admission (λ c. worked wanted load impervious volume_at (percent_at ds ps c) (basis_at ds c)) (admission_of ds rs ps mode r)

-- the same for a list of sub-areas, with its own load and impervious area, and its V by a rule
abbrev pub on_parts : VolumeRule → Wanted → Nutrient → List SubArea → List ℕ → List ℕ → List ℕ → Mode → ℕ → CreditAnswer
on_parts volume wanted n parts ds rs ps mode r =
    on_sheet wanted (load_of (rates.export_rates n) parts) (impervious_area parts) (volume parts) ds rs ps mode r

-- a practice that has no published sheet is refused 4
abbrev pub by_sheet : VolumeRule → Sheet → Wanted → Nutrient → List SubArea → Mode → ℕ → CreditAnswer
by_sheet volume (lent ds rs ps) wanted n parts mode r = on_parts volume wanted n parts ds rs ps mode r
by_sheet volume (published practice) wanted n parts mode r =
    in_turn refused (on_parts volume wanted n parts depths (rates_of practice n) (percents_of practice n) mode r)
    ((is_published practice n, NoPublishedSheet) ∷ [])

-- the answer for a site, by a rule for V: its record is judged before all else
abbrev pub answer_by : VolumeRule → Answering
answer_by volume sheet wanted n s mode r = after_judging refused (λ total. by_sheet volume sheet wanted n (parts_of s) mode r) (judged s)

-- the answer for a site, by V as the rules have it
unfoldable pub answer_of : Answering
answer_of sheet wanted n s mode r = answer_by volume_of sheet wanted n s mode r

-- The rules' number and values: for a refusal zeros, but for the list and place of 5, and no basis.
pub record Given : Type 0 where
  pub answer : ℕ
  pub list : ℕ
  pub place : ℕ
  pub load : ℕ
  pub depth : ℕ
  pub percent : ℕ
  pub basis : Basis
  pub volume : ℕ
  pub removed : ℕ

abbrev pub refused_with : ℕ → ℕ → ℕ → Given
refused_with number list place =
    record { answer = number; list = list; place = place; load = 0; depth = 0; percent = 0; basis = None; volume = 0; removed = 0 }

abbrev pub given : CreditAnswer → Given
given (Ok f) =
    record {
      answer = granted;
      list = 0;
      place = 0;
      load = f.load.0;
      depth = f.depth.0;
      percent = f.percent.0;
      basis = f.basis;
      volume = f.volume.0;
      removed = f.removed.0;
    }
given (Err (Unfit fault)) = refused_with (number_of UnfitSheet) (part_number fault.part) fault.place
given (Err (Refused why)) = refused_with (number_of why) 0 0
