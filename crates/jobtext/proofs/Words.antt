-- The words of a job: the word of a case reads as that case, and a word that reads is the word of the case that it reads as.
-- Assumes nothing.
use Rattle.std.specs.Prelude.{Some}
use Prim.Native.Nat.{ℕ, zero, suc, ◌≤◌}
use mathlib.Core.Bool.{true}
use mathlib.Core.List.{List}
use mathlib.Core.Path.{◌≡◌, refl}
use native.Mathlib.Omega.{arith}
use lib.ListN.{length}
use Rattle.units.specs.declared.Nutrient.{Nutrient}
use Rattle.units.specs.declared.Nutrient.TheVariants.{P, N}
use Rattle.site.specs.declared.LandUse.{LandUse}
use Rattle.site.specs.declared.LandUse.TheVariants as land
use Rattle.site.specs.declared.Cover.{Cover}
use Rattle.site.specs.declared.Cover.TheVariants as cover
use Rattle.site.specs.declared.Soil.{Soil}
use Rattle.site.specs.declared.Soil.TheVariants as soil
use Rattle.curve.specs.declared.Mode.{Mode}
use Rattle.curve.specs.declared.Mode.TheVariants.{Step, Mix}
use Rattle.text.specs.Pieces.{line_feed, comma, space, joined, pieces}
use Rattle.text.specs.Words.{same_of, place_from, place_of}
use Rattle.text.proofs.Front.{free, all_free}
use Rattle.job.specs.declared.Task.{Task}
use Rattle.job.specs.declared.Task.TheVariants.{Load, Credit, Size}
use Rattle.job.specs.Words.{practice_words, nutrient_words, mode_words, task_words, land_words, cover_words, soil_words}
use Rattle.job.specs.Words.{nutrient_at, mode_at, task_at, land_at, cover_at, soil_at}
use Rattle.job.specs.Words.{nutrient_place, mode_place, task_place, land_place, cover_place, soil_place}
use Rattle.job.proofs.Telling.{Each, found_word}
use Rattle.jobtext.specs.Text.{word_at}

-- the word at a place is found there
abbrev pub FoundAt : List ℕ → ℕ → Type 0
FoundAt words k = place_of words (word_at words k) ≡ Some k

-- The word of a practice is found at its number,
pub practice_reads : (k : ℕ) → k ≤ 8 → FoundAt practice_words k
unfolding place_from same_of pieces joined
practice_reads zero h = refl
practice_reads (suc zero) h = refl
practice_reads (suc (suc zero)) h = refl
practice_reads (suc (suc (suc zero))) h = refl
practice_reads (suc (suc (suc (suc zero)))) h = refl
practice_reads (suc (suc (suc (suc (suc zero))))) h = refl
practice_reads (suc (suc (suc (suc (suc (suc zero)))))) h = refl
practice_reads (suc (suc (suc (suc (suc (suc (suc zero))))))) h = refl
practice_reads (suc (suc (suc (suc (suc (suc (suc (suc zero)))))))) h = refl
practice_reads (suc (suc (suc (suc (suc (suc (suc (suc (suc k))))))))) h = absurd (omega arith)

-- and that of a case at the place at which the case stands.
pub nutrient_reads : (c : Nutrient) → FoundAt nutrient_words (nutrient_place c) × (nutrient_at (nutrient_place c) ≡ c)
unfolding place_from same_of pieces joined
nutrient_reads P = (refl, refl)
nutrient_reads N = (refl, refl)

pub mode_reads : (c : Mode) → FoundAt mode_words (mode_place c) × (mode_at (mode_place c) ≡ c)
unfolding place_from same_of pieces joined
mode_reads Step = (refl, refl)
mode_reads Mix = (refl, refl)

pub task_reads : (c : Task) → FoundAt task_words (task_place c) × (task_at (task_place c) ≡ c)
unfolding place_from same_of pieces joined
task_reads Load = (refl, refl)
task_reads Credit = (refl, refl)
task_reads Size = (refl, refl)

pub land_reads : (c : LandUse) → FoundAt land_words (land_place c) × (land_at (land_place c) ≡ c)
unfolding place_from same_of pieces joined
land_reads land.Com = (refl, refl)
land_reads land.Ind = (refl, refl)
land_reads land.Hdr = (refl, refl)
land_reads land.Mdr = (refl, refl)
land_reads land.Ldr = (refl, refl)
land_reads land.Hwy = (refl, refl)
land_reads land.For = (refl, refl)
land_reads land.Open = (refl, refl)
land_reads land.Ag = (refl, refl)

pub cover_reads : (c : Cover) → FoundAt cover_words (cover_place c) × (cover_at (cover_place c) ≡ c)
unfolding place_from same_of pieces joined
cover_reads cover.Imp = (refl, refl)
cover_reads cover.Per = (refl, refl)

pub soil_reads : (c : Soil) → FoundAt soil_words (soil_place c) × (soil_at (soil_place c) ≡ c)
unfolding place_from same_of pieces joined
soil_reads soil.A = (refl, refl)
soil_reads soil.B = (refl, refl)
soil_reads soil.C = (refl, refl)
soil_reads soil.CD = (refl, refl)
soil_reads soil.D = (refl, refl)
soil_reads soil.U = (refl, refl)
soil_reads soil.NoSoil = (refl, refl)

-- a text that is the word at a place, and not empty
abbrev pub Spells : List ℕ → ℕ → List ℕ → Type 0
Spells words k v = (1 ≤ length v) × (word_at words k ≡ v)

-- A text that is found among the practices' words is one of nine, and the word of the practice that it reads as,
pub practice_written : (v : List ℕ) {k : ℕ} → place_of practice_words v ≡ Some k → (k ≤ 8) × Spells practice_words k v
unfolding Each pieces joined
practice_written v e =
    found_word (λ w k. (k ≤ 8) × Spells practice_words k w) (pieces space practice_words) v 0
    ((omega arith, (omega arith, refl)), ((omega arith, (omega arith, refl)), ((omega arith, (omega arith, refl)), ((omega arith, (omega arith, refl)), ((omega arith, (omega arith, refl)), ((omega arith, (omega arith, refl)), ((omega arith, (omega arith, refl)), ((omega arith, (omega arith, refl)), ((omega arith, (omega arith, refl)), tt)))))))))
    e

-- and one that is found among those of the cases is the word of the case.
pub nutrient_written : (v : List ℕ) {k : ℕ} → place_of nutrient_words v ≡ Some k → Spells nutrient_words (nutrient_place (nutrient_at k)) v
unfolding Each pieces joined
nutrient_written v e =
    found_word (λ w k. Spells nutrient_words (nutrient_place (nutrient_at k)) w) (pieces space nutrient_words) v 0
    ((omega arith, refl), ((omega arith, refl), tt))
    e

pub mode_written : (v : List ℕ) {k : ℕ} → place_of mode_words v ≡ Some k → Spells mode_words (mode_place (mode_at k)) v
unfolding Each pieces joined
mode_written v e =
    found_word (λ w k. Spells mode_words (mode_place (mode_at k)) w) (pieces space mode_words) v 0
    ((omega arith, refl), ((omega arith, refl), tt))
    e

pub task_written : (v : List ℕ) {k : ℕ} → place_of task_words v ≡ Some k → Spells task_words (task_place (task_at k)) v
unfolding Each pieces joined
task_written v e =
    found_word (λ w k. Spells task_words (task_place (task_at k)) w) (pieces space task_words) v 0
    ((omega arith, refl), ((omega arith, refl), ((omega arith, refl), tt)))
    e

pub land_written : (v : List ℕ) {k : ℕ} → place_of land_words v ≡ Some k → word_at land_words (land_place (land_at k)) ≡ v
unfolding Each pieces joined
land_written v e =
    found_word (λ w k. word_at land_words (land_place (land_at k)) ≡ w) (pieces space land_words) v 0 (refl, (refl, (refl, (refl, (refl, (refl, (refl, (refl, (refl, tt))))))))) e

pub cover_written : (v : List ℕ) {k : ℕ} → place_of cover_words v ≡ Some k → word_at cover_words (cover_place (cover_at k)) ≡ v
unfolding Each pieces joined
cover_written v e =
    found_word (λ w k. word_at cover_words (cover_place (cover_at k)) ≡ w) (pieces space cover_words) v 0 (refl, (refl, tt)) e

pub soil_written : (v : List ℕ) {k : ℕ} → place_of soil_words v ≡ Some k → word_at soil_words (soil_place (soil_at k)) ≡ v
unfolding Each pieces joined
soil_written v e =
    found_word (λ w k. word_at soil_words (soil_place (soil_at k)) ≡ w) (pieces space soil_words) v 0 (refl, (refl, (refl, (refl, (refl, (refl, (refl, tt))))))) e

-- No word holds a line feed, and none of a sub-area a comma.
pub words_ended : (all_free line_feed (pieces space practice_words) ≡ true) × (all_free line_feed (pieces space nutrient_words) ≡ true) × (all_free line_feed (pieces space mode_words) ≡ true) × (all_free line_feed (pieces space task_words) ≡ true) × (all_free line_feed (pieces space land_words) ≡ true) × (all_free line_feed (pieces space cover_words) ≡ true) × (all_free line_feed (pieces space soil_words) ≡ true)
unfolding free all_free pieces joined
words_ended = (refl, refl, refl, refl, refl, refl, refl)

pub words_apart : (all_free comma (pieces space land_words) ≡ true) × (all_free comma (pieces space cover_words) ≡ true) × (all_free comma (pieces space soil_words) ≡ true)
unfolding free all_free pieces joined
words_apart = (refl, refl, refl)
