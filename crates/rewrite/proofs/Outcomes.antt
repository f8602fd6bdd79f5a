-- The outcome on the site with C for U is the outcome that the old rules gave on the site.
-- Assumes nothing.
use Prim.Native.Nat.{ℕ}
use mathlib.Core.Bool.{true}
use mathlib.Core.List.{List, [], ◌∷◌, map}
use mathlib.Core.Path.{◌≡◌, ◌∙◌, ap}
use Rattle.laws.specs.Turn.{in_turn}
use Rattle.refusal.specs.declared.Refusal.TheVariants.{NoPublishedSheet}
use Rattle.units.specs.declared.Nutrient.{Nutrient}
use Rattle.site.specs.declared.SubArea.{SubArea}
use Rattle.site.specs.declared.Site.{Site}
use Rattle.site.specs.Parts.{parts_of}
use Rattle.site.specs.Judging.{after_judging}
use Rattle.site.specs.Promises.{all_fit}
use Rattle.loads.specs.Rates.{export_rates}
use Rattle.volume.specs.Volume.{volume_of}
use Rattle.curve.specs.declared.Mode.{Mode}
use Rattle.curve.specs.Answers.{refused}
use Rattle.published.specs.Tables.{depths}
use Rattle.published.specs.Published.{rates_of, percents_of, is_published}
use Rattle.credit.specs.declared.Wanted.{Wanted}
use Rattle.credit.specs.Answers.{Sheet, lent, published, on_sheet, on_parts, by_sheet, answer_by, answer_of}
use Rattle.job.specs.declared.Job.{Job}
use Rattle.job.specs.declared.Task.{Task}
use Rattle.job.specs.declared.Task.TheVariants.{Load, Credit, Size}
use Rattle.calculator.specs.Outcome.{of_credit, of_load_job, of_task, of_task_by}
use Rattle.rewrite.specs.OldRules.{old_volume_of}
use Rattle.rewrite.specs.Promises.{part_on_c, site_on_c}
use Rattle.rewrite.proofs.Sites.{parts_on_c, judged_kept, load_kept, impervious_kept, load_under_kept}
use Rattle.rewrite.proofs.Volumes.{volume_old}

-- What crediting and sizing answer,
module _ (wanted : Wanted) (n : Nutrient) (mode : Mode) (r : ℕ) where
  module _ (parts : List SubArea) (f : all_fit parts ≡ true) where
    lists_old : (ds rs ps : List ℕ) → on_parts volume_of wanted n (map part_on_c parts) ds rs ps mode r ≡ on_parts old_volume_of wanted n parts ds rs ps mode r
    lists_old ds rs ps =
        λ i. on_sheet wanted (load_kept (export_rates n) parts i) (impervious_kept parts i) (λ d. volume_old parts f d i) ds rs ps mode r

    sheet_old : (sheet : Sheet) → by_sheet volume_of sheet wanted n (map part_on_c parts) mode r ≡ by_sheet old_volume_of sheet wanted n parts mode r
    sheet_old (lent ds rs ps) = lists_old ds rs ps
    sheet_old (published practice) =
        λ i. in_turn refused (lists_old depths (rates_of practice n) (percents_of practice n) i) ((is_published practice n, NoPublishedSheet) ∷ [])

  answer_old : (sheet : Sheet) (s : Site) → all_fit (parts_of s) ≡ true → answer_of sheet wanted n (site_on_c s) mode r ≡ answer_by old_volume_of sheet wanted n s mode r
  unfolding answer_of
  answer_old sheet s f =
      let e = ap (λ (ps : List SubArea). by_sheet volume_of sheet wanted n ps mode r) (parts_on_c s) ∙ sheet_old (parts_of s) f sheet in
      λ i. after_judging refused (λ total. e i) (judged_kept s i)

-- and the outcome of a job.
pub task_old : (t : Task) (sheet : Sheet) (j : Job) (s : Site) → all_fit (parts_of s) ≡ true → of_task t sheet j (site_on_c s) ≡ of_task_by (answer_by old_volume_of) t sheet j s
unfolding of_load_job
task_old Load sheet j s f = rw (load_under_kept (export_rates j.nutrient) s)
task_old Credit sheet j s f = ap of_credit (answer_old _ j.nutrient j.mode j.rate.0 sheet s f)
task_old Size sheet j s f = ap of_credit (answer_old _ j.nutrient j.mode j.rate.0 sheet s f)
