-- Of a record that is judged fine, crediting and sizing are refused nothing that arises in a line of a job, 1, 2, 3 or 14, and nothing
-- that numbers of sub-areas are refused, 16 or 17.
-- Assumes nothing.
use Rattle.std.specs.Prelude.{Result, Ok, Err}
use Prim.Native.Nat.{ℕ}
use mathlib.Core.Bool.{Bool, true, false, ◌&&◌, not}
use mathlib.Core.List.{List, [], ◌∷◌}
use mathlib.Core.Path.{◌≡◌, refl}
use lib.Dec.{leb, eqb}
use Rattle.laws.specs.Turn.{in_turn}
use Rattle.refusal.specs.declared.Refusal.{Refusal}
use Rattle.refusal.specs.declared.Refusal.TheVariants.{NoPublishedSheet}
use Rattle.refusal.specs.Refusal.{number_of}
use Rattle.units.specs.declared.Area.{Area}
use Rattle.units.specs.declared.Nutrient.{Nutrient}
use Rattle.units.specs.Limits.{largest, most_percent}
use Rattle.site.specs.declared.Site.{Site}
use Rattle.site.specs.declared.SubArea.{SubArea}
use Rattle.site.specs.Parts.{parts_of}
use Rattle.site.specs.Judging.{judged}
use Rattle.volume.specs.Volume.{volume_of}
use Rattle.sheet.specs.declared.Fault.{Fault}
use Rattle.sheet.specs.Sheet.{verdict_of}
use Rattle.curve.specs.declared.Mode.{Mode}
use Rattle.curve.specs.declared.Curves.{Curves}
use Rattle.curve.specs.declared.Basis.{Basis}
use Rattle.curve.specs.Curve.{curves_of, percent_at}
use Rattle.curve.specs.Basis.{basis_at}
use Rattle.curve.specs.Answers.{refused, rated, judged_first, admission_of}
use Rattle.published.specs.Tables.{depths}
use Rattle.published.specs.Published.{rates_of, percents_of, is_published}
use Rattle.credit.specs.declared.Wanted.{Wanted}
use Rattle.credit.specs.declared.Wanted.TheVariants.{Credit, Size}
use Rattle.credit.specs.Credit.{CreditAnswer, tried, credit_by, size_by}
use Rattle.credit.specs.Answers.{Sheet, lent, published, worked, on_sheet, by_sheet, answer_of, given}
use Rattle.credit.proofs.Passing.{credited, sized, reached}
use Rattle.credit.proofs.Opening.{rate_tests}
use Rattle.credit.proofs.Admitting.{on_curves, curves_turn}

-- a number that is none of these
abbrev pub elsewhere : ℕ → Bool
elsewhere n = not (eqb n 1) && not (eqb n 2) && not (eqb n 3) && not (eqb n 14) && not (eqb n 16) && not (eqb n 17)

-- each of the tests refuses with such a number
abbrev Elsewhere : List (Bool × Refusal) → Type 0
Elsewhere [] = Unit {0}
Elsewhere ((passes, why) ∷ tests) = (elsewhere (number_of why) ≡ true) × Elsewhere tests

turn_elsewhere : (a : CreditAnswer) (tests : List (Bool × Refusal)) → elsewhere (given a).answer ≡ true → Elsewhere tests
    → elsewhere (given (in_turn refused a tests)).answer ≡ true
turn_elsewhere a [] h t = h
turn_elsewhere a ((true, why) ∷ tests) h t = turn_elsewhere a tests h t.1
turn_elsewhere a ((false, why) ∷ tests) h t = t.0

worked_elsewhere : (wanted : Wanted) (load impervious : ℕ) (volume_at percents : ℕ → ℕ) (bases : ℕ → Basis)
    → elsewhere (given (worked wanted load impervious volume_at percents bases)).answer ≡ true
unfolding credit_by size_by
worked_elsewhere (Credit v) load impervious volume_at percents bases =
    turn_elsewhere (credited load impervious volume_at percents bases v.0) (tried load impervious volume_at (leb v.0 largest) [])
    refl (refl, (refl, (refl, (refl, tt))))
worked_elsewhere (Size target) load impervious volume_at percents bases =
    turn_elsewhere (sized load impervious volume_at percents bases target.0)
    (tried load impervious volume_at (leb target.0 most_percent) (reached load impervious volume_at percents bases target.0))
    refl (refl, (refl, (refl, (refl, (refl, tt)))))

sheet_elsewhere : (wanted : Wanted) (load impervious : ℕ) (volume_at : ℕ → ℕ) (ds rs ps : List ℕ) (mode : Mode) (r : ℕ)
    → elsewhere (given (on_sheet wanted load impervious volume_at ds rs ps mode r)).answer ≡ true
unfolding on_sheet admission_of rated
sheet_elsewhere wanted load impervious volume_at ds rs ps mode r = told (verdict_of ds rs ps)
  where
    onward : Curves → CreditAnswer
    onward c = worked wanted load impervious volume_at (percent_at ds ps c) (basis_at ds c)

    told : (x : Result (Unit {0}) Fault) → elsewhere (given (on_curves onward (judged_first x (rated rs mode r)))).answer ≡ true
    told (Ok _) =
        rw (curves_turn onward (Ok (curves_of rs mode r)) (rate_tests ds rs ps mode r onward))
        (turn_elsewhere _ (rate_tests ds rs ps mode r onward) (worked_elsewhere wanted load impervious volume_at (percent_at ds ps (curves_of rs mode r)) (basis_at ds (curves_of rs mode r))) (refl, (refl, tt)))
    told (Err fault) = refl

by_elsewhere : (sheet : Sheet) (wanted : Wanted) (n : Nutrient) (parts : List SubArea) (mode : Mode) (r : ℕ)
    → elsewhere (given (by_sheet volume_of sheet wanted n parts mode r)).answer ≡ true
by_elsewhere (lent ds rs ps) wanted n parts mode r = sheet_elsewhere wanted _ _ _ ds rs ps mode r
by_elsewhere (published practice) wanted n parts mode r =
    turn_elsewhere _ ((is_published practice n, NoPublishedSheet) ∷ []) (sheet_elsewhere wanted _ _ _ depths (rates_of practice n) (percents_of practice n) mode r) (refl, tt)

pub answered_elsewhere : (sheet : Sheet) (wanted : Wanted) (n : Nutrient) (s : Site) (mode : Mode) (r : ℕ) (total : Area)
    → judged s ≡ Ok total
    → elsewhere (given (answer_of sheet wanted n s mode r)).answer ≡ true
unfolding answer_of
answered_elsewhere sheet wanted n s mode r total j = rw j (by_elsewhere sheet wanted n (parts_of s) mode r)
