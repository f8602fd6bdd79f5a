-- Rules, "Job and answer text": the tasks in the order of their words, and the place of each, counted from 0.
-- Assumes nothing.
use Rattle.std.specs.Prelude.{ℕ, List, [], ◌∷◌}
use Rattle.job.specs.declared.Task.{Task}
use Rattle.job.specs.declared.Task.TheVariants.{Load, Credit, Size}

abbrev pub tasks : List Task
tasks = Load ∷ Credit ∷ Size ∷ []

abbrev pub task_place : Task → ℕ
task_place Load = 0
task_place Credit = 1
task_place Size = 2
