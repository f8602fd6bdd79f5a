-- The whole reading: the length, the head, the areas.
-- Assumes nothing.
use Rattle.std.specs.Prelude.{Result, Ok, Err, IsErrAnd}
use Rattle.std.proofs.lemmas.Result.{err_from_is_err_and}
use Prim.Native.Nat.{ℕ, ◌≤◌, ◌<◌}
use mathlib.Core.List.{List}
use mathlib.Core.Path.{◌≡◌, ap}
use borrow.Author.Tests.{lt-ltb, le-ltb}
use lib.ListN.{length, drop}
use Rattle.refusal.specs.declared.Refusal.{Refusal}
use Rattle.refusal.specs.declared.Refusal.TheVariants.{MalformedText}
use Rattle.site.specs.Parts.{empty_site}
use Rattle.job.specs.declared.Job.{Job}
use Rattle.job.specs.declared.Reading.{Reading}
use Rattle.job.specs.declared.Unread.{Unread}
use Rattle.job.specs.Lines.{lines_of}
use Rattle.job.specs.Head.{head_of}
use Rattle.job.specs.Inner.{Headed}
use Rattle.job.specs.Areas.{refused_at, areas_from}
use Rattle.job.specs.Reading.{most_bytes, behind_head, reading_of}

module _ (s : List ℕ) where
  pub reading_long : {u : Unread} → most_bytes < length s → u ≡ record { why = MalformedText; line = 0 } → Err u ≡ reading_of s
  unfolding reading_of
  reading_long h e = rw (lt-ltb most_bytes (length s) h, e)

  reading_short : length s ≤ most_bytes → reading_of s ≡ behind_head (head_of (lines_of s)) (lines_of s)
  unfolding reading_of
  reading_short h = rw (le-ltb most_bytes (length s) h)

  module _ {head : Result (Job × ℕ) Unread} (h : length s ≤ most_bytes) (e : Headed s head) where
    pub reading_bad : {u : Unread} {r : Result Reading Unread} → head ≡ Err u → IsErrAnd r (λ y. y ≡ u) → r ≡ reading_of s
    unfolding behind_head
    reading_bad {u} {r} f g =
        let p = err_from_is_err_and r g in
        let bad = e.bad u f in
        let same : ◌≡◌ {A = Result Reading Unread} (Err u) (refused_at u.line MalformedText) = ap (λ (why : Refusal). Err (record { why = why; line = u.line })) bad.1 in
        rw (reading_short h, bad.0, p.1, p.2) same

    pub reading_areas : {job : Job} {next : ℕ} {r : Result Reading Unread} → head ≡ Ok (job, next) → r ≡ areas_from job (lines_of (drop next s)) 7 empty_site → r ≡ reading_of s
    unfolding behind_head
    reading_areas {job} {next} f g = rw (reading_short h, e.read job next f, ← e.behind job next f) g
