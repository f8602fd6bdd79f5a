-- What is granted: exactly what is accepted, for an amount within its limits.
-- Assumes nothing.
use Rattle.std.specs.Prelude.{Result, Ok, Err}
use Rattle.refusal.specs.declared.Refusal.{Refusal}
use Rattle.units.specs.declared.Area.{Area}
use Prim.Native.Nat.{ℕ}
use mathlib.Core.Bool.{true}
use mathlib.Core.List.{List, [], ◌∷◌}
use mathlib.Core.Path.{◌≡◌, refl, ap}
use native.Mathlib.Omega.{arith}
use Rattle.refusal.specs.declared.Refusal.TheVariants.{NoPublishedSheet}
use Rattle.refusal.specs.Refusal.{granted}
use Rattle.units.specs.declared.Nutrient.{Nutrient}
use Rattle.site.specs.declared.Site.{Site}
use Rattle.site.specs.declared.SubArea.{SubArea}
use Rattle.site.specs.Parts.{parts_of, total_area}
use Rattle.site.specs.Judging.{judged, after_judging, given as area_given}
use Rattle.site.proofs.Judging.{has_judged}
use Rattle.site.proofs.Promises.{fine_exactly}
use Rattle.volume.specs.Volume.{volume_of}
use Rattle.volume.proofs.Promises.{fits}
use Rattle.curve.specs.declared.Mode.{Mode}
use Rattle.curve.specs.Answers.{refused}
use Rattle.curve.specs.Promises.{Usable}
use Rattle.published.specs.Tables.{depths}
use Rattle.published.specs.Published.{rates_of, percents_of, is_published}
use Rattle.credit.specs.declared.Wanted.{Wanted}
use Rattle.credit.specs.Credit.{CreditAnswer}
use Rattle.credit.specs.Answers.{Sheet, lent, published, credit, size, on_sheet, on_parts, by_sheet, answer_of, given}
use Rattle.credit.specs.Promises.{depths_in, rates_in, percents_in, percent_on, basis_on, is_there, Accepted, CreditGrantedExactly, SizeGrantedExactly}
use Rattle.refusal.proofs.Numbers.{refusal_not_granted}
use Rattle.loads.proofs.Permit.{load_within}
use Rattle.credit.proofs.Passing.{granted_pass}
use Rattle.credit.proofs.Opening.{sheet_admitted, on_percents, Open, granted_opens, credit_within, credit_is, size_within, size_is}

-- A granted answer has a sheet,
sheet_there : (sheet : Sheet) (wanted : Wanted) (n : Nutrient) (parts : List SubArea) (mode : Mode) (r : ℕ)
    → (given (by_sheet volume_of sheet wanted n parts mode r)).answer ≡ granted → is_there sheet n ≡ true
sheet_there (lent ds rs ps) wanted n parts mode r g = refl
sheet_there (published practice) wanted n parts mode r g =
    (granted_pass (on_parts volume_of wanted n parts depths (rates_of practice n) (percents_of practice n) mode r) ((is_published practice n, NoPublishedSheet) ∷ []) g).0.0

-- and all is accepted.
accepted : (sheet : Sheet) (wanted : Wanted) (n : Nutrient) (s : Site) (mode : Mode) (r : ℕ)
    → (given (answer_of sheet wanted n s mode r)).answer ≡ granted → Accepted sheet n s r
unfolding answer_of
accepted sheet wanted n s mode r granting = told (judged s) refl granting
  where
    told : (x : Result Area Refusal) → judged s ≡ x
        → (given (after_judging refused (λ total. by_sheet volume_of sheet wanted n (parts_of s) mode r) x)).answer ≡ granted
        → Accepted sheet n s r
    told (Ok total) j g =
        let o : Open sheet n s mode r = granted_opens wanted granting in
        let f = (fine_exactly s total.0).0 (ap area_given j) in
        record {
          count = f.0;
          each_fits = f.1;
          total = let e = f.2 in let l = f.3 in omega arith;
          numbers = f.4;
          there = sheet_there sheet wanted n (parts_of s) mode r g;
          usable = o.accepted;
          impervious = o.within.some_impervious;
        }
    told (Err why) j g = absurd (refusal_not_granted why g)

-- Where a sheet is there and accepted, its percents decide.
pub sheet_works : (sheet : Sheet) (wanted : Wanted) (n : Nutrient) (parts : List SubArea) (mode : Mode) (r : ℕ)
    → is_there sheet n ≡ true → Usable (depths_in sheet) (rates_in sheet n) (percents_in sheet n) r
    → by_sheet volume_of sheet wanted n parts mode r ≡ on_percents wanted n parts (percent_on sheet n mode r) (basis_on sheet n mode r)
unfolding on_sheet
sheet_works (lent ds rs ps) wanted n parts mode r t p = rw (sheet_admitted ds rs ps mode r p)
sheet_works (published practice) wanted n parts mode r t p =
    rw t (rw (sheet_admitted depths (rates_of practice n) (percents_of practice n) mode r p))

pub opened : (sheet : Sheet) (n : Nutrient) (s : Site) (mode : Mode) (r : ℕ) → Accepted sheet n s r → Open sheet n s mode r
unfolding answer_of
opened sheet n s mode r a =
    record {
      accepted = a.usable;
      within =
          record {
            some_impervious = a.impervious;
            load_within = load_within n (parts_of s) a.total;
            volumes_within = fits (parts_of s) a.total;
          };
      works = λ wanted. rw (has_judged s (record { 0 = total_area (parts_of s) }) a.count a.each_fits refl a.total a.numbers) (sheet_works sheet wanted n (parts_of s) mode r a.there a.usable);
    }

pub credit_granted_exactly : CreditGrantedExactly
credit_granted_exactly sheet n s mode r v = (
  λ g. (accepted sheet (credit v) n s mode r g, credit_within (granted_opens (credit v) g) v g),
  λ h. ap (λ (x : CreditAnswer). (given x).answer) (credit_is (opened sheet n s mode r h.0) v h.1),
)

pub size_granted_exactly : SizeGrantedExactly
size_granted_exactly sheet n s mode r target = (
  λ g.
      let w = size_within (granted_opens (size target) g) target g in
      (accepted sheet (size target) n s mode r g, w.0, w.1),
  λ h. ap (λ (x : CreditAnswer). (given x).answer) (size_is (opened sheet n s mode r h.0) target h.1 h.2),
)
