-- Rules, "Job and answer text": the words of a job. A word's place in its list, counted from 0, is the practice number, or the case's
-- place among the cases.
-- Assumes nothing.
use Rattle.std.specs.Prelude.{ℕ, List, get_or}
use Rattle.laws.specs.Text.{bytes}
use Rattle.units.specs.declared.Nutrient.{Nutrient}
use Rattle.units.specs.declared.Nutrient.TheVariants.{P}
use Rattle.units.specs.Cases.{nutrients}
pub use Rattle.units.specs.Cases.{nutrient_place}
use Rattle.site.specs.declared.LandUse.{LandUse}
use Rattle.site.specs.declared.LandUse.TheVariants as land
use Rattle.site.specs.declared.Cover.{Cover}
use Rattle.site.specs.declared.Cover.TheVariants as cover
use Rattle.site.specs.declared.Soil.{Soil}
use Rattle.site.specs.declared.Soil.TheVariants as soil
use Rattle.site.specs.Cases.{land_uses, covers, soils}
pub use Rattle.site.specs.Cases.{land_place, cover_place, soil_place}
use Rattle.curve.specs.declared.Mode.{Mode}
use Rattle.curve.specs.declared.Mode.TheVariants.{Step}
use Rattle.curve.specs.Modes.{modes}
pub use Rattle.curve.specs.Modes.{mode_place}
use Rattle.job.specs.declared.Task.{Task}
use Rattle.job.specs.declared.Task.TheVariants.{Load}
use Rattle.job.specs.Tasks.{tasks}
pub use Rattle.job.specs.Tasks.{task_place}

abbrev pub practice_words : List ℕ
practice_words = bytes "trench basin biofilter wetland isr sand wetpond drypond swale"

abbrev pub nutrient_words : List ℕ
nutrient_words = bytes "P N"

abbrev pub mode_words : List ℕ
mode_words = bytes "step mix"

abbrev pub task_words : List ℕ
task_words = bytes "load credit size"

abbrev pub land_words : List ℕ
land_words = bytes "com ind hdr mdr ldr hwy for open ag"

abbrev pub cover_words : List ℕ
cover_words = bytes "imp per"

abbrev pub soil_words : List ℕ
soil_words = bytes "A B C CD D U -"

-- the case at a place
abbrev pub nutrient_at : ℕ → Nutrient
nutrient_at k = get_or nutrients k P

abbrev pub mode_at : ℕ → Mode
mode_at k = get_or modes k Step

abbrev pub task_at : ℕ → Task
task_at k = get_or tasks k Load

abbrev pub land_at : ℕ → LandUse
land_at k = get_or land_uses k land.Com

abbrev pub cover_at : ℕ → Cover
cover_at k = get_or covers k cover.Imp

abbrev pub soil_at : ℕ → Soil
soil_at k = get_or soils k soil.A
