-- Rules, "Writing a job": what is promised of a job that is written from its codes, as a statement that proofs/Promises.antt proves.
-- Assumes nothing.
use Rattle.std.specs.Prelude.{ℕ, List, ◌≡◌, take, Ok}
use Rattle.refusal.specs.Refusal.{granted}
use Rattle.site.specs.Parts.{parts_of}
use Rattle.job.specs.Reading.{reading_of}
use Rattle.writing.specs.Writing.{written_given}
use Rattle.jobtext.specs.Records.{site_of}
use Rattle.sagecruet.specs.Codes.{Codes, job_in, areas_in, codes_written, codes_buffer}

-- What was written from codes reads back as the job that they say, on the record of the sub-areas that they say.
abbrev pub CodesReadBack : Type 0
CodesReadBack =
    (buf : List ℕ) (c : Codes) (n : ℕ)
    → written_given (codes_written buf c) ≡ (granted, n)
    → (reading_of (take n (codes_buffer buf c)) ≡ Ok (record { job = job_in c; site = site_of (areas_in c) }))
    × (parts_of (site_of (areas_in c)) ≡ areas_in c)
