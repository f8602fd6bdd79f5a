-- The promise of a job that is written from its codes, proved.
-- Assumes nothing.
use Rattle.std.specs.Prelude.{Result, Ok, Err, ℕ}
use Prim.Native.Nat.{ℕ, zero, suc, ◌%◌, ◌≤◌}
use mathlib.Core.Bool.{Bool, true, false}
use mathlib.Core.List.{List, [], ◌∷◌}
use mathlib.Core.Path.{◌≡◌, refl, sym, ◌∙◌, ap}
use native.Mathlib.Omega.{arith}
use borrow.Author.Tests.{leb-true}
use lib.Dec.{eqb, leb}
use lib.ListN.{length, take, drop}
use Rattle.laws.specs.Turn.{in_turn}
use Rattle.refusal.specs.declared.Refusal.{Refusal}
use Rattle.refusal.specs.declared.Refusal.TheVariants.{MalformedText, SiteFull}
use Rattle.refusal.specs.Refusal.{granted}
use Rattle.refusal.proofs.Numbers.{refusal_not_granted}
use Rattle.site.specs.declared.SubArea.{SubArea}
use Rattle.site.specs.Parts.{most_parts, parts_of, empty_site}
use Rattle.site.specs.Promises.{InMemory}
use Rattle.job.specs.Reading.{reading_of}
use Rattle.writing.specs.Writing.{written_given}
use Rattle.jobtext.specs.Text.{job_written, job_buffer}
use Rattle.jobtext.specs.Records.{site_of}
use Rattle.jobtext.proofs.Records.{stored_memory, stored_parts}
use Rattle.jobtext.proofs.Promises.{granted_exactly, granted_holds}
use Rattle.jobtext.proofs.RoundTrip.{reads_back}
use Rattle.sagecruet.specs.Codes.{Codes, count_in, parts_in, all_worded, head_worded, job_in, areas_in, codes_written, codes_buffer}
use Rattle.sagecruet.specs.Promises.{CodesReadBack}

-- A list gives as many sub-areas as are asked of it.
parts_many : (n : ℕ) (xs : List ℕ) → length (parts_in n xs) ≡ n
unfolding parts_in
parts_many zero xs = refl
parts_many (suc n) xs = ap suc (parts_many n (drop 4 xs))

-- Where all tests of the codes pass, the job is written with the record.
record Onward (buf : List ℕ) (c : Codes) : Type 0 where
  few : count_in c.areas ≤ most_parts
  written : codes_written buf c ≡ job_written buf (job_in c) (site_of (areas_in c))
  holds : codes_buffer buf c ≡ job_buffer buf (job_in c) (site_of (areas_in c))

onward : (buf : List ℕ) (c : Codes) (n : ℕ) → written_given (codes_written buf c) ≡ (granted, n) → Onward buf c
unfolding codes_written codes_buffer
onward buf c n e =
    let t = at (eqb (length c.areas % 4) 0) (leb (count_in c.areas) most_parts) refl (head_worded c.nutrient c.mode c.task) (all_worded (count_in c.areas) c.areas) e in
    record { few = t.0; written = t.1; holds = t.2 }
  where
    answer : Result ℕ Refusal
    answer = job_written buf (job_in c) (site_of (areas_in c))

    held : List ℕ
    held = job_buffer buf (job_in c) (site_of (areas_in c))

    never : {A : Type 0} (why : Refusal) → written_given (Err why) ≡ (granted, n) → A
    never why e = absurd (refusal_not_granted why (ap (λ (g : ℕ × ℕ). g.0) e))

    at : (a b : Bool) → leb (count_in c.areas) most_parts ≡ b → (d e : Bool)
        → written_given (in_turn Err answer ((a, MalformedText) ∷ (b, SiteFull) ∷ (d, MalformedText) ∷ (e, MalformedText) ∷ [])) ≡ (granted, n)
        → (count_in c.areas ≤ most_parts)
        × (in_turn Err answer ((a, MalformedText) ∷ (b, SiteFull) ∷ (d, MalformedText) ∷ (e, MalformedText) ∷ []) ≡ answer)
        × (in_turn (λ why. buf) held ((a, MalformedText) ∷ (b, SiteFull) ∷ (d, MalformedText) ∷ (e, MalformedText) ∷ []) ≡ held)
    at false b f d e g = never MalformedText g
    at true false f d e g = never SiteFull g
    at true true f false e g = never MalformedText g
    at true true f true false g = never MalformedText g
    at true true f true true g = (leb-true (count_in c.areas) most_parts f, refl, refl)

pub codes_read_back : CodesReadBack
codes_read_back buf c n e =
    let on = onward buf c n e in
    let few = on.few in
    let j = job_in c in
    let s = site_of (areas_in c) in
    let many = parts_many (count_in c.areas) c.areas in
    let empty : InMemory empty_site = record { parts = refl; numbers = refl } in
    let parts : parts_of s ≡ areas_in c = stored_parts empty_site (areas_in c) empty (omega arith) in
    let written = ap written_given (sym on.written) ∙ e in
    let fits = (granted_exactly buf j s n (stored_memory empty_site (areas_in c) empty)).0 written in
    let text = ap (take n) on.holds ∙ (granted_holds buf j s n written).0 in
    (ap reading_of text ∙ (reads_back j s fits.0).0 ∙ ap (λ (ps : List SubArea). Ok (record { job = j; site = site_of ps })) parts, parts)
