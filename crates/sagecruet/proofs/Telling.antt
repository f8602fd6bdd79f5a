-- What writing from codes answers, test by test.
-- Assumes nothing.
use Prim.Native.Nat.{ℕ, ◌/◌, ◌%◌, ◌≤◌, ◌<◌}
use mathlib.Core.Bool.{true}
use mathlib.Core.List.{List}
use mathlib.Core.Path.{◌≡◌}
use borrow.Author.Tests.{eq-eqb, ne_eqb, le-leb, lt-leb}
use lib.ListN.{length}
use Rattle.std.specs.Prelude.{Ok, Err, Result, ℕ}
use Rattle.refusal.specs.declared.Refusal.{Refusal}
use Rattle.refusal.specs.declared.Refusal.TheVariants.{MalformedText, SiteFull}
use Rattle.site.specs.Parts.{most_parts}
use Rattle.site.specs.declared.Site.{Site}
use Rattle.job.specs.declared.Job.{Job}
use Rattle.jobtext.specs.Text.{job_written, job_buffer}
use Rattle.jobtext.specs.Records.{site_of}
use Rattle.sagecruet.specs.Codes.{Codes, count_in, all_worded, head_worded, job_in, areas_in, codes_written, codes_buffer}
use Rattle.sagecruet.specs.Inner.{where_worded}
use Rattle.sagecruet.proofs.Reading.{told_ok, told_err}

module _ (d : List ℕ) (c : Codes) where
  abbrev xs : List ℕ
  xs = c.areas

  pub list_stops : (length xs % 4 ≡ 0 → ⊥) → Err MalformedText ≡ codes_written d c
  unfolding codes_written
  list_stops h = rw (ne_eqb (length xs % 4) 0 h)

  pub list_keeps : (length xs % 4 ≡ 0 → ⊥) → d ≡ codes_buffer d c
  unfolding codes_buffer
  list_keeps h = rw (ne_eqb (length xs % 4) 0 h)

  module _ (whole : length xs % 4 ≡ 0) where
    pub many_stops : most_parts < length xs / 4 → Err SiteFull ≡ codes_written d c
    unfolding codes_written
    many_stops h = rw (eq-eqb (length xs % 4) 0 whole, lt-leb (count_in xs) most_parts h)

    pub many_keeps : most_parts < length xs / 4 → d ≡ codes_buffer d c
    unfolding codes_buffer
    many_keeps h = rw (eq-eqb (length xs % 4) 0 whole, lt-leb (count_in xs) most_parts h)

    module _ (few : length xs / 4 ≤ most_parts) where
      pub head_stops : {why : Refusal} → Err why ≡ where_worded (head_worded c.nutrient c.mode c.task) (job_in c) → Err why ≡ codes_written d c
      unfolding codes_written
      head_stops {why} e =
          let t = told_err (head_worded c.nutrient c.mode c.task) (job_in c) why e in
          rw (eq-eqb (length xs % 4) 0 whole, le-leb (count_in xs) most_parts few, t.0, t.1)

      pub head_keeps : {why : Refusal} → Err why ≡ where_worded (head_worded c.nutrient c.mode c.task) (job_in c) → d ≡ codes_buffer d c
      unfolding codes_buffer
      head_keeps {why} e = rw (eq-eqb (length xs % 4) 0 whole, le-leb (count_in xs) most_parts few, (told_err (head_worded c.nutrient c.mode c.task) (job_in c) why e).0)

      module _ {j : Job} (e : Ok j ≡ where_worded (head_worded c.nutrient c.mode c.task) (job_in c)) where
        abbrev is : (head_worded c.nutrient c.mode c.task ≡ true) × (j ≡ job_in c)
        is = told_ok (head_worded c.nutrient c.mode c.task) (job_in c) j e

        pub areas_stop : {why : Refusal} → Err why ≡ where_worded (all_worded (length xs / 4) xs) (site_of (areas_in c)) → Err why ≡ codes_written d c
        unfolding codes_written
        areas_stop {why} f =
            let t = told_err (all_worded (length xs / 4) xs) (site_of (areas_in c)) why f in
            rw (eq-eqb (length xs % 4) 0 whole, le-leb (count_in xs) most_parts few, is.0, t.0, t.1)

        pub areas_keep : {why : Refusal} → Err why ≡ where_worded (all_worded (length xs / 4) xs) (site_of (areas_in c)) → d ≡ codes_buffer d c
        unfolding codes_buffer
        areas_keep {why} f = rw (eq-eqb (length xs % 4) 0 whole, le-leb (count_in xs) most_parts few, is.0, (told_err (all_worded (length xs / 4) xs) (site_of (areas_in c)) why f).0)

        module _ {s : Site} (f : Ok s ≡ where_worded (all_worded (length xs / 4) xs) (site_of (areas_in c))) where
          abbrev whole_site : (all_worded (length xs / 4) xs ≡ true) × (s ≡ site_of (areas_in c))
          whole_site = told_ok (all_worded (length xs / 4) xs) (site_of (areas_in c)) s f

          pub job_answers : {x : Result ℕ Refusal} → x ≡ job_written d j s → x ≡ codes_written d c
          unfolding codes_written
          job_answers a =
              rw (eq-eqb (length xs % 4) 0 whole, le-leb (count_in xs) most_parts few, is.0, whole_site.0, ← is.1, ← whole_site.1) a

          pub job_leaves : {after : List ℕ} → after ≡ job_buffer d j s → after ≡ codes_buffer d c
          unfolding codes_buffer
          job_leaves a =
              rw (eq-eqb (length xs % 4) 0 whole, le-leb (count_in xs) most_parts few, is.0, whole_site.0, ← is.1, ← whole_site.1) a
