-- The walk over the area lines.
-- Assumes nothing.
use Rattle.std.specs.Prelude.{Result, Ok, Err, Option, Some, None, ok_or, MatchResult, IsErrAnd}
use Rattle.std.proofs.lemmas.Result.{err_from_is_err_and}
use Prim.Native.Nat.{ℕ, ◌+◌, ◌-◌, ◌≤◌, ◌<◌}
use mathlib.Core.Bool.{Bool, true, false, cond}
use mathlib.Core.List.{List, []}
use mathlib.Core.Path.{◌≡◌, refl, sym, ◌∙◌, ap}
use native.Mathlib.Omega.{arith}
use borrow.Author.Tests.{ne_eqb, le-leb, lt-leb}
use lib.ListN.{length, drop, length-drop, drop_of_length-le}
use Rattle.refusal.specs.declared.Refusal.{Refusal}
use Rattle.refusal.specs.declared.Refusal.TheVariants.{MalformedText}
use Rattle.units.specs.declared.Area.{Area}
use Rattle.site.specs.declared.Site.{Site}
use Rattle.site.specs.declared.SubArea.{SubArea}
use Rattle.site.specs.Parts.{empty_site}
use Rattle.site.specs.Judging.{judged, after_judging}
use Rattle.site.specs.Adding.{add_answer, stored, added}
use Rattle.site.specs.Promises.{InMemory}
use Rattle.site.proofs.Adding.{granted_place, granted_number, grants, add_stores, add_keeps, add_agrees, memory_stored}
use Rattle.site.proofs.Promises.{empty_judged, stored_fine}
use Rattle.text.specs.Pieces.{line_feed, after_of, pieces}
use Rattle.text.proofs.Splitting.{has_of, pieces_step, before_all, after_shorter}
use Rattle.job.specs.declared.Job.{Job}
use Rattle.job.specs.declared.Reading.{Reading}
use Rattle.job.specs.declared.Unread.{Unread}
use Rattle.job.specs.Lines.{lines_of}
use Rattle.job.specs.Areas.{area_in, added_line, refused_at, ended_at, areas_from}
use Rattle.job.specs.Inner.{area_on, Lined}
use Rattle.job.proofs.Fields.{line_read, line_bad}

-- one area line, with the lines behind it
areas_step : (job : Job) (t : List ℕ) (k : ℕ) (s : Site) → has_of line_feed t ≡ true → areas_from job (lines_of t) k s ≡ after_judging (refused_at k) (λ total. areas_from job (lines_of (after_of line_feed t)) (k + 1) (added_line s (area_in (lines_of t))).site) (added_line s (area_in (lines_of t))).answer
unfolding areas_from
areas_step job t k s h = rw (pieces_step line_feed t, h, pieces_step line_feed (after_of line_feed t))

-- no line is ended any more
areas_end : (job : Job) (t : List ℕ) (k : ℕ) (s : Site) → has_of line_feed t ≡ false → areas_from job (lines_of t) k s ≡ ended_at job t k s
unfolding areas_from
areas_end job t k s h = rw (pieces_step line_feed t, h, before_all line_feed t h)

-- a line that says nothing is refused, ended or not
areas_bad : (job : Job) (t : List ℕ) (k : ℕ) (s : Site) → (length t ≡ 0 → ⊥) → area_on t ≡ None → areas_from job (lines_of t) k s ≡ refused_at k MalformedText
unfolding added_line
areas_bad job t k s some e = pick (has_of line_feed t) refl e
  where
    pick : (h : Bool) → has_of line_feed t ≡ h → cond h (area_in (lines_of t)) None ≡ None → areas_from job (lines_of t) k s ≡ refused_at k MalformedText
    pick true h e = areas_step job t k s h ∙ rw e
    pick false h e = areas_end job t k s h ∙ rw (ne_eqb (length t) 0 some)

-- a line that says a sub-area is ended
area_ended : (t : List ℕ) {p : SubArea} → area_on t ≡ Some p → (has_of line_feed t ≡ true) × (area_in (lines_of t) ≡ Some p)
area_ended t {p} e = pick (has_of line_feed t) refl e
  where
    pick : (h : Bool) → has_of line_feed t ≡ h → cond h (area_in (lines_of t)) None ≡ Some p → (has_of line_feed t ≡ true) × (area_in (lines_of t) ≡ Some p)
    pick true h e = (h, e)
    pick false h e = let z : ◌≡◌ {A = ℕ} 0 1 = cc in absurd (omega arith)

areas_good : (job : Job) (t : List ℕ) (k : ℕ) (s : Site) {p : SubArea} → area_on t ≡ Some p → areas_from job (lines_of t) k s ≡ after_judging (refused_at k) (λ total. areas_from job (lines_of (after_of line_feed t)) (k + 1) (added s p).site) (added s p).answer
unfolding added_line
areas_good job t k s e = let a = area_ended t e in areas_step job t k s a.0 ∙ rw a.1

-- What an add answers, with the line that a refusal gets.
answered_ok : (line : ℕ) (x : Result Area Refusal) (y : Result Area Unread) → MatchResult x (λ more. y ≡ Ok more) (λ why. IsErrAnd y (λ v. v ≡ record { why = why; line = line })) → {more : Area} → y ≡ Ok more → x ≡ Ok more
answered_ok line (Ok b) y h {more} f =
    let same : ◌≡◌ {A = Result Area Unread} (Ok b) (Ok more) = sym h ∙ f in
    let one : b ≡ more = cc in
    ap Ok one
answered_ok line (Err e) y h f = absurd (rw f at h)

answered_err : (line : ℕ) (x : Result Area Refusal) (y : Result Area Unread) → MatchResult x (λ more. y ≡ Ok more) (λ why. IsErrAnd y (λ v. v ≡ record { why = why; line = line })) → {v : Unread} → y ≡ Err v → (why : Refusal) × ((x ≡ Err why) × (v ≡ record { why = why; line = line }))
answered_err line (Ok b) y h f = cc
answered_err line (Err e) y h f = (e, (refl, rw f at h))

-- The lines from a place on, added to the site so far, decide the whole reading. The site so far is judged fine with the total
-- that the walk carries, so the add that is told this total gives what the public add gives.
pub record Walked (job : Job) (s : List ℕ) (from at line : ℕ) (site : Site) (total : Area) : Type 0 where
  pub within : line + (length s - at) ≤ 7 + length s
  pub memory : InMemory site
  pub fine : judged site ≡ Ok total
  pub decides : areas_from job (lines_of (drop at s)) line site ≡ areas_from job (lines_of (drop from s)) 7 empty_site

module _ (job : Job) (s : List ℕ) (from : ℕ) where
  pub walked_none : {site : Site} → site ≡ empty_site → Walked job s from from 7 site (record { 0 = 0 })
  walked_none e = rw e (record { within = omega arith; memory = record { parts = refl; numbers = refl }; fine = empty_judged; decides = refl })

  module _ (at line : ℕ) (site : Site) (total : Area) (w : Walked job s from at line site total) where
    pub walked_end : length s ≤ at → ended_at job [] line site ≡ areas_from job (lines_of (drop from s)) 7 empty_site
    unfolding areas_from pieces
    walked_end h = rw (drop_of_length-le s h) at w.decides

    -- at the end of the text there are areas, or there are none
    pub walked_missing : {u : Unread} → length s ≤ at → site.count < 1 → u ≡ record { why = MalformedText; line = line } → Err u ≡ areas_from job (lines_of (drop from s)) 7 empty_site
    walked_missing h none e = rw (← walked_end h, lt-leb 1 site.count none, e)

    pub walked_fine : length s ≤ at → 1 ≤ site.count → Ok (record { job = job; site = site }) ≡ areas_from job (lines_of (drop from s)) 7 empty_site
    walked_fine h some = rw (← walked_end h, le-leb 1 site.count some)

    module _ (found : Option (SubArea × ℕ)) (l : Lined s at found) where
      -- what is read of a line, as `ok_or` and `?` take it
      pub walked_bad : {u v : Unread} {x : Result (SubArea × ℕ) Unread} {r : Result Reading Unread} → at < length s → u ≡ record { why = MalformedText; line = line } → x ≡ ok_or found u → x ≡ Err v → IsErrAnd r (λ y. y ≡ v) → r ≡ areas_from job (lines_of (drop from s)) 7 empty_site
      walked_bad {u} {v} {r = r} h f g k m =
          let n = length-drop at s in
          let b = line_bad found u (sym g ∙ k) in
          let p = err_from_is_err_and r m in
          rw (p.1, p.2, ← b.1, f) (sym (areas_bad job (drop at s) line site (λ z. absurd (omega arith)) (l.bad b.0)) ∙ w.decides)

      -- an area line that reads, and what its add answers, as `map_err` and `?` take it
      module _ (u : Unread) {read : Result (SubArea × ℕ) Unread} {p : SubArea} {next : ℕ} {x : Result Area Refusal} (y : Result Area Unread)
          (o : read ≡ ok_or found u) (f : read ≡ Ok (p, next))
          (a : x ≡ add_answer site.count site.counter total.0 p)
          (m : MatchResult x (λ more. y ≡ Ok more) (λ why. IsErrAnd y (λ v. v ≡ record { why = why; line = line }))) where
        e : found ≡ Some (p, next)
        e = line_read found u (sym o ∙ f)

        granted : {more : Area} → y ≡ Ok more → x ≡ Ok more
        granted = answered_ok line x y m

        pub walked_refused : {v : Unread} {r : Result Reading Unread} → y ≡ Err v → IsErrAnd r (λ z. z ≡ v) → r ≡ areas_from job (lines_of (drop from s)) 7 empty_site
        walked_refused {r = r} g k =
            let why = answered_err line x y m g in
            let kept = add_keeps site total.0 p a why.1.0 ∙ add_agrees site p total w.fine in
            let z = err_from_is_err_and r k in
            rw (z.1, z.2, why.1.1) (sym (rw (← kept, why.1.0) at (areas_good job (drop at s) line site (l.read p next e))) ∙ w.decides)

        pub walked_place : {more : Area} → y ≡ Ok more → site.count < 32
        walked_place g = granted_place site.count site.counter total.0 p a (granted g)

        pub walked_number : {more : Area} → y ≡ Ok more → site.counter < 1_000_000
        walked_number g = granted_number site.count site.counter total.0 p a (granted g)

        pub walked_shorter : at < length s → length s - next < length s - at
        walked_shorter h =
            let there = (area_ended (drop at s) (l.read p next e)).0 in
            let less = after_shorter line_feed (drop at s) refl there (l.behind p next e) in
            let m = length-drop at s in
            let n = length-drop next s in
            omega arith

        pub walked_next : {more : Area} → at < length s → y ≡ Ok more → Walked job s from next (line + 1) (stored site p) more
        walked_next {more} h k =
            let g = granted k in
            let less = walked_shorter h in
            let put = add_stores site total.0 p a g in
            let t = grants site.count site.counter total.0 p more (sym a ∙ g) in
            record {
              within = omega (arith, w.within);
              memory = memory_stored site p w.memory;
              fine = stored_fine site p total w.memory w.fine t.fit t.place t.within ∙ ap Ok t.new_total;
              decides =
                  rw (l.behind p next e)
                  (sym (rw (← put ∙ add_agrees site p total w.fine, g) at (areas_good job (drop at s) line site (l.read p next e))) ∙ w.decides);
            }
