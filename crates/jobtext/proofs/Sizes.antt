-- The length of a text as it is worked out: the six lines, and a walk over the sub-areas.
-- Assumes nothing.
use Prim.Native.Nat.{ℕ, ◌+◌, ◌≤◌}
use mathlib.Core.Path.{◌≡◌, refl, sym, ◌∙◌, ap}
use mathlib.Core.List.{List}
use native.Mathlib.Omega.{arith}
use lib.ListN.{length, length-append}
use Rattle.site.specs.declared.SubArea.{SubArea}
use Rattle.site.specs.Parts.{area_of}
use Rattle.text.specs.Pieces.{space, pieces}
use Rattle.text.specs.Numbers.{decimal_of}
use Rattle.job.specs.declared.Job.{Job}
use Rattle.job.specs.Words.{practice_words, mode_words, task_words, land_words, soil_words}
use Rattle.job.specs.Words.{mode_place, task_place, land_place, soil_place}
use Rattle.writing.specs.Lines.{word_at as listed_at}
use Rattle.jobtext.specs.Text.{word_at, area_text, job_text}
use Rattle.jobtext.specs.Inner.{head_text, areas_text, areas_length}
use Rattle.jobtext.proofs.Lengths.{head_long, area_long, areas_long, job_split}

pub head_sized : (j : Job) {p k m r l t a : ℕ}
    → p ≡ length (listed_at (pieces space practice_words) j.practice)
    → k ≡ mode_place j.mode
    → m ≡ length (listed_at (pieces space mode_words) k)
    → r ≡ length (decimal_of j.rate.0)
    → l ≡ task_place j.task
    → t ≡ length (listed_at (pieces space task_words) l)
    → a ≡ length (decimal_of j.amount)
    → 47 + p + m + r + t + a ≡ length (head_text j)
unfolding listed_at
head_sized j p e m r f t a =
    let n = m ∙ ap (λ (k : ℕ). length (word_at mode_words k)) e in
    let u = t ∙ ap (λ (l : ℕ). length (word_at task_words l)) f in
    let all = head_long j in
    omega arith

pub area_sized : (p : SubArea) {k l m s a : ℕ}
    → k ≡ land_place p.land
    → l ≡ length (listed_at (pieces space land_words) k)
    → m ≡ soil_place p.soil
    → s ≡ length (listed_at (pieces space soil_words) m)
    → a ≡ length (decimal_of (area_of p))
    → 12 + l + s + a ≡ length (area_text p)
unfolding listed_at
area_sized p e l f s a =
    let n = l ∙ ap (λ (k : ℕ). length (word_at land_words k)) e in
    let u = s ∙ ap (λ (m : ℕ). length (word_at soil_words m)) f in
    let all = area_long p in
    omega arith

-- The first six lines and those of the sub-areas are as long as the text together,
pub sized_told : (j : Job) (ps : List SubArea) {head areas : ℕ} → head ≡ length (head_text j) → areas ≡ areas_length ps
    → head + areas ≡ length (job_text j ps)
sized_told j ps e f =
    rw (e, f, ← areas_long ps) (sym (length-append (head_text j) (areas_text ps)) ∙ ap length (sym (job_split j ps)))

-- and no more than it.
pub areas_few : (j : Job) (ps : List SubArea) → areas_length ps ≤ length (job_text j ps)
areas_few j ps = let e = sized_told j ps refl refl in omega arith
