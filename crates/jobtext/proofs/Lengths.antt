-- How long a text is: its six lines, and those of its sub-areas; and how long it can be.
-- Assumes nothing.
use Prim.Native.Nat.{ℕ, ◌+◌, ◌*◌, ◌^◌, ◌≤◌, ◌<◌}
use mathlib.Core.Bool.{true, ◌&&◌}
use mathlib.Core.List.{List, [], ◌∷◌, ◌++◌, flatten, map, append_assoc}
use mathlib.Core.Logic.{⊎_elim}
use mathlib.Core.Path.{◌≡◌, refl, sym, ◌∙◌, ap}
use native.Mathlib.Omega.{arith}
use borrow.Author.Tests.{leb-true}
use lib.Dec.{leb, lit≤}
use lib.ListN.{length, length-append, length-take}
use Rattle.std.proofs.lemmas.List.Recursion.{is_sum_by}
use Rattle.std.proofs.lemmas.List.Sums.{sum_by-cons}
use Rattle.laws.specs.Sum.{sum_of}
use Rattle.laws.proofs.And.{and_left, and_right}
use Rattle.laws.proofs.Order.{lt_or_le}
use Rattle.refusal.specs.Refusal.{granted}
use Rattle.units.specs.Limits.{most_area}
use Rattle.units.specs.declared.Nutrient.{Nutrient}
use Rattle.units.specs.declared.Nutrient.TheVariants.{P, N}
use Rattle.site.specs.declared.Cover.{Cover}
use Rattle.site.specs.declared.Cover.TheVariants.{Imp, Per}
use Rattle.site.specs.declared.SubArea.{SubArea}
use Rattle.site.specs.declared.Site.{Site}
use Rattle.site.specs.Soils.{suits}
use Rattle.site.specs.Parts.{parts_of, area_of, total_area}
use Rattle.site.specs.Judging.{fits, judged, given}
use Rattle.site.specs.Promises.{all_fit}
use Rattle.site.proofs.Promises.{fine_exactly}
use Rattle.text.specs.Pieces.{space, joined, pieces}
use Rattle.text.specs.Numbers.{most_digits, decimal_of}
use Rattle.job.specs.declared.Job.{Job}
use Rattle.job.specs.Words.{practice_words, nutrient_words, mode_words, task_words, land_words, cover_words, soil_words, nutrient_place, mode_place, task_place, land_place, cover_place, soil_place}
use Rattle.writing.specs.Lines.{line_with}
use Rattle.writing.proofs.Digits.{few_digits_lem}
use Rattle.jobtext.specs.Text.{word_at, area_text, head_texts, job_text, longest}
use Rattle.jobtext.specs.Promises.{NeverTooLong}
use Rattle.jobtext.specs.Inner.{head_text, areas_text, areas_length}
use Rattle.jobtext.proofs.Short.{word_short}

-- the word of each nutrient has one letter, and that of each cover three
nutrient_long : (n : Nutrient) → length (word_at nutrient_words (nutrient_place n)) ≡ 1
unfolding pieces joined
nutrient_long P = refl
nutrient_long N = refl

cover_long : (c : Cover) → length (word_at cover_words (cover_place c)) ≡ 3
unfolding pieces joined
cover_long Imp = refl
cover_long Per = refl

pub head_long : (j : Job) → length (head_text j)
    ≡ 47 + length (word_at practice_words j.practice) + length (word_at mode_words (mode_place j.mode)) + length (decimal_of j.rate.0) + length (word_at task_words (task_place j.task)) + length (decimal_of j.amount)
unfolding head_text flatten line_with
head_long j = let n = nutrient_long j.nutrient in simp length-append (omega arith)

pub area_long : (p : SubArea) → length (area_text p) ≡ 12 + length (word_at land_words (land_place p.land)) + length (word_at soil_words (soil_place p.soil)) + length (decimal_of (area_of p))
unfolding area_text line_with
area_long p = let c = cover_long p.cover in simp length-append (omega arith)

-- The lengths of the lines of some sub-areas, added up, are the length of all of them.
pub areas_long : (ps : List SubArea) → length (areas_text ps) ≡ areas_length ps
unfolding areas_text flatten
areas_long =
    is_sum_by (λ (ps : List SubArea). length (areas_text ps)) (λ (p : SubArea). length (area_text p)) refl (λ p ps. length-append (area_text p) (areas_text ps))

-- The text is its first six lines and those of its sub-areas.
pub job_split : (j : Job) (ps : List SubArea) → job_text j ps ≡ head_text j ++ areas_text ps
unfolding job_text head_text areas_text flatten
job_split j ps = joined_texts (head_texts j) (map area_text ps)
  where
    joined_texts : (xs ys : List (List ℕ)) → flatten (xs ++ ys) ≡ flatten xs ++ flatten ys
    joined_texts [] ys = refl
    joined_texts (x ∷ xs) ys = ap (λ (t : List ℕ). x ++ t) (joined_texts xs ys) ∙ sym (append_assoc x (flatten xs) (flatten ys))

-- the longest word of each list
practice_short : (k : ℕ) → length (word_at practice_words k) ≤ 9
unfolding pieces joined
practice_short k = word_short 9 (pieces space practice_words) k refl

mode_short : (k : ℕ) → length (word_at mode_words k) ≤ 4
unfolding pieces joined
mode_short k = word_short 4 (pieces space mode_words) k refl

task_short : (k : ℕ) → length (word_at task_words k) ≤ 6
unfolding pieces joined
task_short k = word_short 6 (pieces space task_words) k refl

land_short : (k : ℕ) → length (word_at land_words k) ≤ 4
unfolding pieces joined
land_short k = word_short 4 (pieces space land_words) k refl

soil_short : (k : ℕ) → length (word_at soil_words k) ≤ 2
unfolding pieces joined
soil_short k = word_short 2 (pieces space soil_words) k refl

head_short : (j : Job) → j.rate.0 < 10 ^ most_digits → j.amount < 10 ^ most_digits → length (head_text j) ≤ 94
head_short j r a =
    let all = head_long j in
    let p = practice_short j.practice in
    let m = mode_short (mode_place j.mode) in
    let t = task_short (task_place j.task) in
    let x = few_digits_lem 13 j.rate.0 r in
    let y = few_digits_lem 13 j.amount a in
    omega arith

-- A digit more asks for an area that is larger: for an area up to 1,000,000 its digits, 90,000 times, pass it by at most 440,000.
area_digits : (n : ℕ) → n ≤ most_area → 90_000 * length (decimal_of n) ≤ 440_000 + n
area_digits n h =
    ⊎_elim (λ (l : n < 10_000). let d = few_digits_lem 3 n l in omega arith)
    (λ (four : 10_000 ≤ n).
    ⊎_elim (λ (l : n < 100_000). let d = few_digits_lem 4 n l in omega arith)
    (λ (five : 100_000 ≤ n).
    ⊎_elim (λ (l : n < 1_000_000). let d = few_digits_lem 5 n l in omega arith)
    (λ (six : 1_000_000 ≤ n). let d = few_digits_lem 6 n (omega arith) in omega arith)
    (lt_or_le n 1_000_000))
    (lt_or_le n 100_000))
    (lt_or_le n 10_000)

-- A sub-area that fits is at most 1,000,000.
pub fits_small : (p : SubArea) → fits p ≡ true → area_of p ≤ most_area
fits_small p f = leb-true (area_of p) most_area (and_right (leb 1 (area_of p)) (leb (area_of p) most_area) (and_left (leb 1 (area_of p) && leb (area_of p) most_area) (suits p.cover p.soil) f))

-- So the lines of sub-areas that fit are held by how many they are and by their total area.
areas_short : (ps : List SubArea) → all_fit ps ≡ true → 90_000 * areas_length ps ≤ 2_060_000 * length ps + total_area ps
unfolding sum_of all_fit
areas_short [] f = omega arith
areas_short (p ∷ ps) f =
    let later = areas_short ps (and_right (fits p) (all_fit ps) f) in
    let sum = sum_by-cons (λ (p : SubArea). length (area_text p)) p ps in
    let one = area_long p in
    let l = land_short (land_place p.land) in
    let s = soil_short (soil_place p.soil) in
    let d = area_digits (area_of p) (fits_small p (and_left (fits p) (all_fit ps) f)) in
    omega arith

-- Where a record is judged fine and a job's numbers have at most 14 digits, the text is no longer than the longest.
pub job_short : (j : Job) (s : Site) → (given (judged s)).0 ≡ granted → j.rate.0 < 10 ^ most_digits → j.amount < 10 ^ most_digits
    → length (job_text j (parts_of s)) ≤ longest
job_short j s f r a =
    let fine = (fine_exactly s _).0 (granted_total s f) in
    let head = head_short j r a in
    let areas = areas_short (parts_of s) fine.1 in
    let is = areas_long (parts_of s) in
    let few = length-take s.count s.parts in
    let count = fine.0 in
    let total = fine.2 in
    let small = fine.3 in
    let all = ap length (job_split j (parts_of s)) ∙ length-append (head_text j) (areas_text (parts_of s)) in
    omega arith
  where
    granted_total : (s : Site) → (given (judged s)).0 ≡ granted → given (judged s) ≡ (granted, (given (judged s)).1)
    granted_total s f = λ i. (f i, (given (judged s)).1)

pub never_too_long : NeverTooLong
never_too_long = (λ j s w. job_short j s w.fine w.rate w.amount, lit≤ tt)
