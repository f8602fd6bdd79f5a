-- Which codes have words.
-- Assumes nothing.
use Prim.Native.Nat.{ℕ, zero, suc, ◌<◌}
use mathlib.Core.Bool.{◌&&◌}
use mathlib.Core.List.{List, [], ◌∷◌}
use mathlib.Core.Path.{◌≡◌, refl}
use native.Mathlib.Omega.{arith}
use borrow.Author.Tests.{lt-ltb}
use lib.Dec.{ltb}
use lib.ListN.{length, get_or}
use Rattle.std.specs.Prelude.{Ok}
use Rattle.text.specs.Pieces.{space, joined, pieces}
use Rattle.job.specs.Words.{nutrient_words, mode_words, task_words, land_words, cover_words, soil_words}
use Rattle.units.specs.declared.Nutrient.{Nutrient}
use Rattle.units.specs.declared.Nutrient.TheVariants.{P}
use Rattle.units.specs.Cases.{coded, nutrients}
use Rattle.site.specs.declared.LandUse.{LandUse}
use Rattle.site.specs.declared.LandUse.TheVariants.{Com}
use Rattle.site.specs.declared.Cover.{Cover}
use Rattle.site.specs.declared.Cover.TheVariants.{Imp}
use Rattle.site.specs.declared.Soil.{Soil}
use Rattle.site.specs.declared.Soil.TheVariants.{A}
use Rattle.site.specs.Cases.{land_uses, covers, soils}
use Rattle.curve.specs.declared.Mode.{Mode}
use Rattle.curve.specs.declared.Mode.TheVariants.{Step}
use Rattle.curve.specs.Modes.{modes}
use Rattle.job.specs.declared.Task.{Task}
use Rattle.job.specs.declared.Task.TheVariants.{Load}
use Rattle.job.specs.Tasks.{tasks}
use Rattle.sagecruet.specs.Codes.{told, part_in, worded, head_worded, job_in}
use Rattle.sagecruet.specs.Inner.{where_worded}

-- how many words each list has
nutrients_many : length (pieces space nutrient_words) ≡ 2
unfolding pieces joined
nutrients_many = refl

modes_many : length (pieces space mode_words) ≡ 2
unfolding pieces joined
modes_many = refl

tasks_many : length (pieces space task_words) ≡ 3
unfolding pieces joined
tasks_many = refl

lands_many : length (pieces space land_words) ≡ 9
unfolding pieces joined
lands_many = refl

covers_many : length (pieces space cover_words) ≡ 2
unfolding pieces joined
covers_many = refl

soils_many : length (pieces space soil_words) ≡ 7
unfolding pieces joined
soils_many = refl

-- whether the codes of a job have words, by how many words there are; and those of a sub-area
pub head_lists : (nutrient mode task : ℕ) → head_worded nutrient mode task ≡ (ltb nutrient 2 && ltb mode 2 && ltb task 3)
head_lists nutrient mode task = rw (nutrients_many, modes_many, tasks_many)

pub part_lists : (land cover soil : ℕ) → worded land cover soil ≡ (ltb land 9 && ltb cover 2 && ltb soil 7)
part_lists land cover soil = rw (lands_many, covers_many, soils_many)

-- a code that tells a case is the place of one in their list
coded_there : {X : Type 0} (cases : List X) (d : X) (k : ℕ) (x : X) → Ok x ≡ coded cases k → (k < length cases) × (x ≡ get_or cases k d)
coded_there [] d k x e = cc
coded_there (y ∷ ys) d zero x e = (omega arith, cc)
coded_there (y ∷ ys) d (suc k) x e = let t = coded_there ys d k x e in let h = t.0 in (omega arith, t.1)

module _ (n m t : ℕ) {nutrient : Nutrient} {mode : Mode} {task : Task} (e : Ok nutrient ≡ coded nutrients n) (f : Ok mode ≡ coded modes m) (g : Ok task ≡ coded tasks t) (p r a : ℕ) where
  pub job_fine : Ok (record { practice = p; nutrient = nutrient; mode = mode; rate = record { 0 = r }; task = task; amount = a }) ≡ where_worded (head_worded n m t) (job_in (told p n m r t a []))
  job_fine =
      let x = coded_there nutrients P n nutrient e in
      let y = coded_there modes Step m mode f in
      let z = coded_there tasks Load t task g in
      rw (head_lists n m t, lt-ltb n 2 x.0, lt-ltb m 2 y.0, lt-ltb t 3 z.0, x.1, y.1, z.1)

module _ (l c s : ℕ) {land : LandUse} {cover : Cover} {soil : Soil} (e : Ok land ≡ coded land_uses l) (f : Ok cover ≡ coded covers c) (g : Ok soil ≡ coded soils s) (a : ℕ) where
  pub part_fine : Ok (record { land = land; cover = cover; soil = soil; area = record { 0 = a } }) ≡ where_worded (worded l c s) (part_in l c s a)
  part_fine =
      let x = coded_there land_uses Com l land e in
      let y = coded_there covers Imp c cover f in
      let z = coded_there soils A s soil g in
      rw (part_lists l c s, lt-ltb l 9 x.0, lt-ltb c 2 y.0, lt-ltb s 7 z.0, x.1, y.1, z.1)
