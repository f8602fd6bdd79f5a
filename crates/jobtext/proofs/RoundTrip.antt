-- Texts that are written and texts that read are the same: what is written reads back, and what reads is written back byte for byte.
-- Assumes nothing.
use Rattle.std.specs.Prelude.{Result, Ok, Err}
use Rattle.refusal.specs.declared.Refusal.{Refusal}
use Rattle.units.specs.declared.Area.{Area}
use Prim.Native.Nat.{ℕ, ◌+◌, ◌≤◌}
use mathlib.Core.List.{List, flatten}
use mathlib.Core.Path.{◌≡◌, refl, sym, ◌∙◌, ap}
use native.Mathlib.Omega.{arith}
use borrow.Author.Tests.{le-ltb}
use lib.ListN.{length, drop}
use lib.Seq.{length-take-le}
use Rattle.refusal.specs.Refusal.{granted}
use Rattle.refusal.proofs.Numbers.{refusal_not_granted}
use Rattle.site.specs.declared.Site.{Site}
use Rattle.site.specs.Parts.{parts_of, empty_site}
use Rattle.site.specs.Judging.{judged, given as given_area}
use Rattle.site.proofs.Judging.{judged_has}
use Rattle.site.proofs.Promises.{given_some}
use Rattle.text.specs.Pieces.{line_feed}
use Rattle.text.proofs.Joining.{together, pieces_together}
use Rattle.job.specs.declared.Job.{Job}
use Rattle.job.specs.declared.Reading.{Reading}
use Rattle.job.specs.declared.Unread.{Unread}
use Rattle.job.specs.Lines.{lines_of}
use Rattle.job.specs.Reading.{most_bytes, head_lines, reading_of, given}
use Rattle.job.proofs.Telling.{Grants, lines_read}
use Rattle.job.proofs.Building.{built_none}
use Rattle.jobtext.specs.Text.{job_text}
use Rattle.jobtext.specs.Records.{site_of}
use Rattle.jobtext.specs.Inner.{areas_text}
use Rattle.jobtext.specs.Promises.{Writable, ReadsBack, WritesBack, WrittenTextsRead, OneText}
use Rattle.jobtext.proofs.Lengths.{never_too_long}
use Rattle.jobtext.proofs.Records.{stored_count, stored_parts}
use Rattle.jobtext.proofs.Heads.{head_read, head_told}
use Rattle.jobtext.proofs.Areas.{areas_back, areas_told}

-- What is written of a job and a record that are not refused reads as the job, and as a site with the record's sub-areas.
module _ (j : Job) (s : Site) (w : Writable j s) where
  parts_long : length (parts_of s) ≡ s.count
  parts_long =
      let fine = given_some (judged s) w.fine in
      let few = (judged_has s fine.0 fine.1).0 in
      let places = w.memory.parts in
      length-take-le s.count s.parts (omega arith)

  read_as : length (job_text j (parts_of s)) ≤ most_bytes → reading_of (job_text j (parts_of s)) ≡ Ok (record { job = j; site = site_of (parts_of s) })
  unfolding reading_of areas_text
  read_as short =
      let fine = given_some (judged s) w.fine in
      let has = judged_has s fine.0 fine.1 in
      let few = has.0 in
      let total = has.2 in
      let most = has.3 in
      let long = parts_long in
      let some = w.some in
      rw (le-ltb most_bytes (length (job_text j (parts_of s))) short, head_read j (parts_of s) w.practice w.rate w.amount)
      (areas_back j (parts_of s) (head_lines + 1) empty_site (record { 0 = 0 }) built_none (record { fit = has.1; places = omega arith; within = omega arith }) (omega arith))

one_reading : {r q : Reading} → ◌≡◌ {A = Result Reading Unread} (Ok r) (Ok q) → r ≡ q
one_reading e = cc

-- Head and areas tell its bytes.
pub writes_back : WritesBack
unfolding areas_text flatten
writes_back text j s e =
    let g : Grants (reading_of text) = rw e tt in
    let read = lines_read text g in
    let head = head_told (lines_of text) (rw read at g) in
    let whole = read ∙ head.read in
    let areas = areas_told head.job (drop head_lines (lines_of text)) (head_lines + 1) empty_site (rw whole at g) (record { 0 = 0 }) built_none in
    let same = one_reading (sym areas.read ∙ sym whole ∙ e) in
    let site = ap (λ (r : Reading). r.site) same in
    let job = ap (λ (r : Reading). r.job) same in
    let built = rw site at areas.built in
    let bytes : together line_feed (drop head_lines (lines_of text)) ≡ areas_text (parts_of s) = areas.text ∙ ap (λ (t : Site). areas_text (parts_of t)) site in (
      ap (λ (k : Job). job_text k (parts_of s)) (sym job) ∙ sym (head.text (parts_of s) bytes) ∙ pieces_together line_feed text,
      record {
        memory = built.1.memory;
        fine = ap (λ (x : Result Area Refusal). (given_area x).0) built.1.fine;
        some = rw site at areas.some;
        practice = rw job at head.practice;
        rate = rw job at head.rate;
        amount = rw job at head.amount;
      },
    )

-- what is read where it is granted
granted_reading : (x : Result Reading Unread) → (given x).0 ≡ granted → (r : Reading) × (x ≡ Ok r)
granted_reading (Ok r) e = (r, refl)
granted_reading (Err u) e = absurd (refusal_not_granted u.why e)

pub reads_back : ReadsBack
reads_back j s w =
    let text = never_too_long.0 j s w in
    let most = never_too_long.1 in
    let fine = given_some (judged s) w.fine in
    let few = (judged_has s fine.0 fine.1).0 in
    let long = parts_long j s w in (
      read_as j s w (omega arith),
      stored_count empty_site (parts_of s) ∙ omega arith,
      stored_parts empty_site (parts_of s) (record { parts = refl; numbers = refl }) (omega arith),
    )

pub written_texts_read : WrittenTextsRead
written_texts_read text = (only, there)
  where
    only : (given (reading_of text)).0 ≡ granted → (j : Job) × (s : Site) × Writable j s × (job_text j (parts_of s) ≡ text)
    only e =
        let r = granted_reading (reading_of text) e in
        let back = writes_back text r.0.job r.0.site r.1 in
        (r.0.job, r.0.site, back.1, back.0)

    there : (j : Job) × (s : Site) × Writable j s × (job_text j (parts_of s) ≡ text) → (given (reading_of text)).0 ≡ granted
    there t =
        ap (λ (u : List ℕ). (given (reading_of u)).0) (sym t.3)
        ∙ ap (λ (r : Result Reading Unread). (given r).0) (reads_back t.0 t.1 t.2).0

pub one_text : OneText
one_text j k s t v w e =
    let one = reads_back j s v in
    let other = reads_back k t w in
    let whole = one_reading (sym one.0 ∙ ap reading_of e ∙ other.0) in
    (ap (λ (r : Reading). r.job) whole, sym one.2 ∙ ap (λ (r : Reading). parts_of r.site) whole ∙ other.2)
