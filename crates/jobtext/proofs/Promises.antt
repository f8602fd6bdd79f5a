-- The promises of a written job, proved: what writing tries, what it leaves in the buffer, and the longest text.
-- Assumes nothing.
use Rattle.std.specs.Prelude.{Result, Ok, Err, ℕ}
use Prim.Native.Nat.{ℕ, ◌≤◌, ◌<◌}
use mathlib.Core.Bool.{Bool, true, false, not}
use mathlib.Core.List.{List, flatten}
use mathlib.Core.Logic.{◌⊎◌, inl, inr, ⊎_elim}
use mathlib.Core.Path.{◌≡◌, refl, sym, ◌∙◌, ap}
use native.Mathlib.Omega.{arith}
use borrow.Author.Tests.{lt-ltb, le-ltb}
use lib.Dec.{lit<, lit≤}
use lib.ListN.{length, take, drop}
use Rattle.laws.proofs.Order.{lt_or_le, never_both}
use Rattle.refusal.specs.declared.Refusal.{Refusal}
use Rattle.refusal.specs.declared.Refusal.TheVariants.{MalformedText, BufferTooShort}
use Rattle.refusal.specs.Refusal.{number_of, granted}
use Rattle.refusal.proofs.Numbers.{refusal_not_granted}
use Rattle.units.specs.declared.Area.{Area}
use Rattle.site.specs.declared.Site.{Site}
use Rattle.site.specs.Parts.{most_parts, parts_of}
use Rattle.site.specs.Judging.{judged_from, rises_to, judged, given as given_area}
use Rattle.site.specs.Promises.{InMemory}
use Rattle.site.proofs.Promises.{full_exactly, first_refused}
use Rattle.text.specs.Pieces.{joined, pieces}
use Rattle.text.specs.Numbers.{decimal_from, decimal_of}
use Rattle.job.specs.declared.Job.{Job}
use Rattle.writing.specs.Lines.{line_with}
use Rattle.writing.specs.Writing.{buffer_of, written_given}
use Rattle.writing.proofs.Writing.{granted_length, buffer_holds}
use Rattle.jobtext.specs.Text.{area_text, job_text, job_written, job_buffer}
use Rattle.jobtext.specs.Promises.{Writable, LongestReached, WriteTries, WriteOrder, GrantedExactly, RefusedKeeps, GrantedHolds, LongestSuffices}
use Rattle.jobtext.specs.Records.{stored_all}
use Rattle.jobtext.specs.Numbers.{longest_job, longest_site}
use Rattle.jobtext.specs.Inner.{passes}
use Rattle.jobtext.proofs.Lengths.{job_short}
use Rattle.jobtext.proofs.Writing.{Tested, tested, tests_pass, record_stops, record_keeps, tests_stop, tests_keep, short_stops, short_keeps, put_answers, put_holds}

pub longest_reached : LongestReached
unfolding judged judged_from rises_to stored_all job_text area_text line_with flatten decimal_of decimal_from pieces joined
longest_reached = (
  longest_job,
  longest_site,
  record {
    memory = record { parts = refl; numbers = refl };
    fine = refl;
    some = lit≤ tt;
    practice = lit≤ tt;
    rate = lit< tt;
    amount = lit< tt;
  },
  refl,
)

-- How a writing ends: with the record's refusal, with 1 where a test fails, with 13, or with the text in the buffer.
data Ending (buf : List ℕ) (j : Job) (s : Site) : Type 0 where
  unfit : (why : Refusal) → judged s ≡ Err why → job_written buf j s ≡ Err why → job_buffer buf j s ≡ buf → Ending buf j s
  failed : (total : Area) → judged s ≡ Ok total → passes j s.count ≡ false → job_written buf j s ≡ Err MalformedText → job_buffer buf j s ≡ buf → Ending buf j s
  short : (total : Area) → judged s ≡ Ok total → Tested j s.count → length buf < length (job_text j (parts_of s)) → job_written buf j s ≡ Err BufferTooShort → job_buffer buf j s ≡ buf → Ending buf j s
  put : (total : Area) → judged s ≡ Ok total → Tested j s.count → length (job_text j (parts_of s)) ≤ length buf → job_written buf j s ≡ Ok (length (job_text j (parts_of s))) → job_buffer buf j s ≡ buffer_of buf (job_text j (parts_of s)) → Ending buf j s

ending : (buf : List ℕ) (j : Job) (s : Site) → Ending buf j s
ending buf j s = by_record (judged s) refl
  where
    text : List ℕ
    text = job_text j (parts_of s)

    by_lengths : (total : Area) → judged s ≡ Ok total → passes j s.count ≡ true → (length buf < length text) ⊎ (length text ≤ length buf) → Ending buf j s
    by_lengths total f p (inl h) =
        short total f (tested j s.count p) h
        (sym (short_stops buf j s refl f refl (ap not p) refl (lt-ltb (length buf) (length text) h)))
        (sym (short_keeps buf j s refl f refl (ap not p) refl (lt-ltb (length buf) (length text) h)))
    by_lengths total f p (inr h) =
        put total f (tested j s.count p) h
        (sym (put_answers buf j s refl f refl (ap not p) refl (le-ltb (length buf) (length text) h) (granted_length buf text h)))
        (sym (put_holds buf j s refl f refl (ap not p) refl (le-ltb (length buf) (length text) h) refl))

    by_tests_lem : (total : Area) → judged s ≡ Ok total → (b : Bool) → passes j s.count ≡ b → Ending buf j s
    by_tests_lem total f true p = by_lengths total f p (lt_or_le (length buf) (length text))
    by_tests_lem total f false p =
        failed total f p (sym (tests_stop buf j s refl f refl (ap not p))) (sym (tests_keep buf j s refl f refl (ap not p)))

    by_record : (x : Result Area Refusal) → judged s ≡ x → Ending buf j s
    by_record (Err why) f = unfit why f (sym (record_stops buf j s refl f)) (sym (record_keeps buf j s refl f))
    by_record (Ok total) f = by_tests_lem total f (passes j s.count) refl

pub refused_keeps : RefusedKeeps
refused_keeps buf j s refuses = told (ending buf j s)
  where
    told : Ending buf j s → job_buffer buf j s ≡ buf
    told (unfit why f w b) = b
    told (failed total f p w b) = b
    told (short total f t h w b) = b
    told (put total f t h w b) = absurd (refuses (ap (λ (x : Result ℕ Refusal). (written_given x).0) w))

pub granted_holds : GrantedHolds
granted_holds buf j s n e = told (ending buf j s)
  where
    text : List ℕ
    text = job_text j (parts_of s)

    Holds : Type 0
    Holds = (take n (job_buffer buf j s) ≡ text) × (drop n (job_buffer buf j s) ≡ drop n buf) × (length (job_buffer buf j s) ≡ length buf)

    never : (why : Refusal) → job_written buf j s ≡ Err why → ⊥
    never why w = refusal_not_granted why (ap (λ (x : Result ℕ Refusal). (written_given x).0) (sym w) ∙ ap (λ (g : ℕ × ℕ). g.0) e)

    told : Ending buf j s → Holds
    told (unfit why f w b) = absurd (never why w)
    told (failed total f p w b) = absurd (never MalformedText w)
    told (short total f t h w b) = absurd (never BufferTooShort w)
    told (put total f t h w b) =
        let long : n ≡ length text = ap (λ (g : ℕ × ℕ). g.1) (sym e ∙ ap written_given w) in
        rw (long, b) (buffer_holds buf text h)

-- A record is never refused 13.
never_too_short : (s : Site) → (given_area (judged s)).0 ≡ number_of BufferTooShort → ⊥
never_too_short s e =
    ⊎_elim (λ (h : most_parts < s.count). let f = (full_exactly s).1 h in omega arith)
    (λ (h : s.count ≤ most_parts).
    let at = first_refused s h (λ g. absurd (omega arith)) (λ g. absurd (omega arith)) in
    ⊎_elim (λ r. let f = r.1 in absurd (omega arith)) (λ r. let f = r.2 in absurd (omega arith)) at.reason)
    (lt_or_le most_parts s.count)

pub longest_suffices : LongestSuffices
longest_suffices buf j s h e = told (ending buf j s)
  where
    told : Ending buf j s → ⊥
    told (unfit why f w b) = never_too_short s (ap (λ (x : Result Area Refusal). (given_area x).0) f ∙ ap (λ (x : Result ℕ Refusal). (written_given x).0) (sym w) ∙ e)
    told (failed total f p w b) = let z = ap (λ (x : Result ℕ Refusal). (written_given x).0) (sym w) ∙ e in omega arith
    told (short total f t l w b) =
        let most = job_short j s (ap (λ (x : Result Area Refusal). (given_area x).0) f) t.rate t.amount in
        omega arith
    told (put total f t l w b) = let z = ap (λ (x : Result ℕ Refusal). (written_given x).0) (sym w) ∙ e in omega arith

-- A job and a record that pass every test are writable, and the other way about.
module _ (j : Job) (s : Site) where
  writable_tested : Writable j s → passes j s.count ≡ true
  writable_tested w =
      sym (tests_pass j s.count (record { some = w.some; practice = w.practice; rate = w.rate; amount = w.amount }))

  tested_writable : InMemory s → (given_area (judged s)).0 ≡ granted → Tested j s.count → Writable j s
  tested_writable m f t =
      record { memory = m; fine = f; some = t.some; practice = t.practice; rate = t.rate; amount = t.amount }

pub write_order : WriteOrder
write_order buf j s m = told (ending buf j s)
  where
    text : List ℕ
    text = job_text j (parts_of s)

    fails_not : Writable j s → passes j s.count ≡ false → ⊥
    fails_not w p = never_both (writable_tested j s w) p

    told : Ending buf j s → WriteTries buf j s (written_given (job_written buf j s))
    told (unfit why f w b) =
        let number : (given_area (judged s)).0 ≡ number_of why = ap (λ (x : Result Area Refusal). (given_area x).0) f in
        let no : (given_area (judged s)).0 ≡ granted → ⊥ = λ g. refusal_not_granted why (sym number ∙ g) in
        record {
          refused = λ h. ap written_given w ∙ (λ i. (sym number i, 0));
          malformed = λ g h. absurd (no g);
          short = λ x h. absurd (no x.fine);
          written = λ x h. absurd (no x.fine);
        }
    told (failed total f p w b) =
        record {
          refused = λ h. absurd (h (ap (λ (x : Result Area Refusal). (given_area x).0) f));
          malformed = λ g h. ap written_given w;
          short = λ x h. absurd (fails_not x p);
          written = λ x h. absurd (fails_not x p);
        }
    told (short total f t l w b) =
        let fine = ap (λ (x : Result Area Refusal). (given_area x).0) f in
        record {
          refused = λ h. absurd (h fine);
          malformed = λ g h. absurd (h (tested_writable j s m fine t));
          short = λ x h. ap written_given w;
          written = λ x h. absurd (omega arith);
        }
    told (put total f t l w b) =
        let fine = ap (λ (x : Result Area Refusal). (given_area x).0) f in
        record {
          refused = λ h. absurd (h fine);
          malformed = λ g h. absurd (h (tested_writable j s m fine t));
          short = λ x h. absurd (omega arith);
          written = λ x h. ap written_given w;
        }

pub granted_exactly : GrantedExactly
granted_exactly buf j s n m = (only (ending buf j s), there)
  where
    text : List ℕ
    text = job_text j (parts_of s)

    only : Ending buf j s → written_given (job_written buf j s) ≡ (granted, n) → Writable j s × (length text ≡ n) × (n ≤ length buf)
    only (unfit why f w b) e = absurd (refusal_not_granted why (ap (λ (g : ℕ × ℕ). g.0) (sym (ap written_given w) ∙ e)))
    only (failed total f p w b) e = absurd (refusal_not_granted MalformedText (ap (λ (g : ℕ × ℕ). g.0) (sym (ap written_given w) ∙ e)))
    only (short total f t h w b) e = absurd (refusal_not_granted BufferTooShort (ap (λ (g : ℕ × ℕ). g.0) (sym (ap written_given w) ∙ e)))
    only (put total f t h w b) e =
        let long : length text ≡ n = ap (λ (g : ℕ × ℕ). g.1) (sym (ap written_given w) ∙ e) in
        (tested_writable j s m (ap (λ (x : Result Area Refusal). (given_area x).0) f) t, long, rw (← long) h)

    there : Writable j s × (length text ≡ n) × (n ≤ length buf) → written_given (job_written buf j s) ≡ (granted, n)
    there p = (write_order buf j s m).written p.0 (rw p.1 p.2) ∙ (λ i. (granted, p.1 i))
