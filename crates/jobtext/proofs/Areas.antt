-- The areas of a job text: the lines that are written of sub-areas read as these, and lines that read are those that are written.
-- Assumes nothing.
use Rattle.std.specs.Prelude.{Result, Ok, Err}
use Rattle.refusal.specs.declared.Refusal.{Refusal}
use Prim.Native.Nat.{ℕ, ◌+◌, ◌^◌, ◌≤◌, ◌<◌}
use mathlib.Core.Bool.{Bool, true, false, cond, ◌&&◌}
use mathlib.Core.List.{List, [], ◌∷◌, ◌++◌, flatten, append_assoc, append-nil}
use mathlib.Core.Path.{◌≡◌, refl, sym, ◌∙◌, ap}
use native.Mathlib.Omega.{arith}
use borrow.Author.Tests.{le-leb, leb-true, eqb-true}
use lib.Dec.{eqb, leb}
use lib.ListN.{length}
use Rattle.laws.specs.Sum.{sum_of}
use Rattle.laws.proofs.And.{and_left, and_right}
use Rattle.refusal.specs.declared.Refusal.TheVariants.{MalformedText}
use Rattle.units.specs.declared.Area.{Area}
use Rattle.units.specs.Limits.{most_area}
use Rattle.site.specs.declared.SubArea.{SubArea}
use Rattle.site.specs.declared.Site.{Site}
use Rattle.site.specs.Adding.{Added}
use Rattle.site.specs.Parts.{most_parts, parts_of, area_of, total_area}
use Rattle.site.specs.Judging.{fits, given}
use Rattle.site.specs.Adding.{added}
use Rattle.site.specs.Promises.{all_fit}
use Rattle.site.proofs.Promises.{given_granted, add_granted_exactly, granted_holds, stores}
use Rattle.text.specs.Pieces.{line_feed, pieces}
use Rattle.text.specs.Numbers.{most_digits}
use Rattle.text.proofs.Joining.{together}
use Rattle.job.specs.declared.Job.{Job}
use Rattle.job.specs.declared.Reading.{Reading}
use Rattle.job.specs.declared.Unread.{Unread}
use Rattle.job.specs.Lines.{lines_of}
use Rattle.job.specs.Areas.{area_in, added_line, refused_at, ended_at, areas_from}
use Rattle.job.proofs.Telling.{Grants, Adds, areas_read}
use Rattle.job.proofs.Building.{Built, built_unspent, built_more}
use Rattle.jobtext.specs.Text.{area_text}
use Rattle.jobtext.specs.Records.{stored_all}
use Rattle.jobtext.specs.Inner.{areas_text}
use Rattle.jobtext.proofs.Lengths.{fits_small}
use Rattle.jobtext.proofs.Lines.{some_line}
use Rattle.jobtext.proofs.AreaLines.{area_first, area_added, area_written}

-- Behind a line that adds a sub-area, with the add granted, the lines behind it are read on the site with the sub-area.
reads_on : (job : Job) (line : List ℕ) (ls : List (List ℕ)) (k : ℕ) (s : Site) (p : SubArea) (more : Area) → 1 ≤ length ls
    → added_line s (area_in (line ∷ ls)) ≡ added s p → (added s p).answer ≡ Ok more
    → areas_from job (line ∷ ls) k s ≡ areas_from job ls (k + 1) (added s p).site
unfolding areas_from
reads_on job line [] k s p more h e g = absurd (omega arith)
reads_on job line (next ∷ others) k s p more h e g = rw (e, g)

-- A site with a sub-area added holds it behind the others.
module _ (s : Site) (total : Area) (b : Built s total) (p : SubArea) (more : Area) (g : (added s p).answer ≡ Ok more) where
  parts_more : parts_of (added s p).site ≡ parts_of s ++ (p ∷ [])
  parts_more = (granted_holds s p more.0 b.memory (ap given g)).0

  count_more : (added s p).site.count ≡ s.count + 1
  count_more = ap (λ (a : Added). a.site.count) (stores s p more g)

-- some sub-areas that a site of a total area has room for
pub record RoomLeft (s : Site) (total : Area) (ps : List SubArea) : Type 0 where
  pub fit : all_fit ps ≡ true
  pub places : s.count + length ps ≤ most_parts
  pub within : total.0 + total_area ps ≤ most_area

-- The first of them is added, and there is room for the others.
module _ (s : Site) (total : Area) (b : Built s total) (p : SubArea) (ps : List SubArea) (room : RoomLeft s total (p ∷ ps)) where
  abbrev sum : Area
  sum = record { 0 = total.0 + area_of p }

  first_fits : fits p ≡ true
  unfolding all_fit
  first_fits = and_left (fits p) (all_fit ps) room.fit

  first_short : area_of p < 10 ^ most_digits
  first_short = let most = fits_small p first_fits in omega arith

  first_added : (added s p).answer ≡ Ok sum
  unfolding sum_of
  first_added =
      let places = room.places in
      let within = room.within in
      given_granted (added s p).answer sum.0
      ((add_granted_exactly s p total.0 sum.0 (ap given b.fine)).1
      (first_fits, omega arith, built_unspent s total b, refl, omega arith))

  room_left : RoomLeft (added s p).site sum ps
  unfolding all_fit sum_of
  room_left =
      let places = room.places in
      let within = room.within in
      let count = count_more s total b p sum first_added in
      record {
        fit = and_right (fits p) (all_fit ps) room.fit;
        places = omega arith;
        within = omega arith;
      }

-- Sub-areas that are written are read behind a site that has room for them: the job, and the site with these stored behind its own.
pub areas_back : (job : Job) (ps : List SubArea) (k : ℕ) (s : Site) (total : Area) → Built s total → RoomLeft s total ps → 1 ≤ s.count + length ps
    → areas_from job (lines_of (areas_text ps)) k s ≡ Ok (record { job = job; site = stored_all s ps })
unfolding areas_from areas_text flatten pieces stored_all
areas_back job [] k s total b room some = rw (le-leb 1 s.count (omega arith))
areas_back job (p ∷ ps) k s total b room some =
    let g = first_added s total b p ps room in
    let more = sum s total b p ps room in
    let count = count_more s total b p more g in
    let later = areas_back job ps (k + 1) (added s p).site more (built_more s total b p more g) (room_left s total b p ps room) (omega arith) in
    rw (
      area_first p (areas_text ps),
      reads_on job _ (lines_of (areas_text ps)) k s p more (some_line (areas_text ps)) (area_added p (areas_text ps) s (first_short s total b p ps room)) g,
    )
    (later ∙ ap (λ (a : Added). Ok (record { job = job; site = stored_all a.site ps })) (stores s p more g))

-- What lines that read tell: the job, a site that is built, and the bytes, which are those of the sub-areas that they add.
pub record AreasTold (job : Job) (s : Site) (ls : List (List ℕ)) (r : Result Reading Unread) : Type 0 where
  pub site : Site
  pub read : r ≡ Ok (record { job = job; site = site })
  pub built : (total : Area) × Built site total
  pub some : 1 ≤ site.count
  pub text : areas_text (parts_of s) ++ together line_feed ls ≡ areas_text (parts_of site)

text_more : (ps : List SubArea) (p : SubArea) → areas_text (ps ++ (p ∷ [])) ≡ areas_text ps ++ area_text p
unfolding areas_text flatten
text_more [] p = append-nil (area_text p)
text_more (q ∷ ps) p = ap (λ (t : List ℕ). area_text q ++ t) (text_more ps p) ∙ sym (append_assoc (area_text q) (areas_text ps) (area_text p))

ended_told : (job : Job) (ls : List (List ℕ)) (rest : List ℕ) (k : ℕ) (s : Site) (total : Area) → Built s total → together line_feed ls ≡ rest
    → Grants (ended_at job rest k s) → AreasTold job s ls (ended_at job rest k s)
ended_told job ls rest k s total b last = at (eqb (length rest) 0 && leb 1 s.count) refl
  where
    empty : (t : List ℕ) → length t ≡ 0 → t ≡ []
    empty [] h = refl
    empty (x ∷ t) h = absurd (omega arith)

    at : (e : Bool) → (eqb (length rest) 0 && leb 1 s.count) ≡ e
        → Grants (cond e (Ok (record { job = job; site = s })) (refused_at k MalformedText))
        → AreasTold job s ls (cond e (Ok (record { job = job; site = s })) (refused_at k MalformedText))
    at true e g =
        let none = eqb-true (length rest) 0 (and_left (eqb (length rest) 0) (leb 1 s.count) e) in
        record {
          site = s;
          read = refl;
          built = (total, b);
          some = leb-true 1 s.count (and_right (eqb (length rest) 0) (leb 1 s.count) e);
          text = rw (last, empty rest none) (append-nil (areas_text (parts_of s)));
        }
    at false e g = absurd g

adds_granted : (x : Result Area Refusal) → Adds x → (more : Area) × (x ≡ Ok more)
adds_granted (Ok more) g = (more, refl)
adds_granted (Err why) g = absurd g

line_told : (job : Job) (line next : List ℕ) (others : List (List ℕ)) (k : ℕ) (s : Site) (total : Area) → Built s total
    → Adds (added_line s (area_in (line ∷ next ∷ others))).answer
    → ((t : Site) (more : Area) → (added_line s (area_in (line ∷ next ∷ others))).site ≡ t → Built t more → AreasTold job t (next ∷ others) (areas_from job (next ∷ others) (k + 1) t))
    → AreasTold job s (line ∷ next ∷ others) (areas_from job (line ∷ next ∷ others) k s)
line_told job line next others k s total b g later =
    let w = area_written s (line ∷ next ∷ others) g in
    let p = w.0 in
    let a = adds_granted (added s p).answer (rw w.1 at g) in
    let told = later (added s p).site a.0 (ap (λ (x : Added). x.site) w.1) (built_more s total b p a.0 a.1) in
    rw (reads_on job line (next ∷ others) k s p a.0 (omega arith) w.1 a.1)
    (record {
      site = told.site;
      read = told.read;
      built = told.built;
      some = told.some;
      text =
          ap (λ (t : List ℕ). areas_text (parts_of s) ++ t) w.2
          ∙ sym (append_assoc (areas_text (parts_of s)) (area_text p) (together line_feed (next ∷ others)))
          ∙ ap (λ (t : List ℕ). t ++ together line_feed (next ∷ others))
          (sym (ap areas_text (parts_more s total b p a.0 a.1) ∙ text_more (parts_of s) p))
          ∙ told.text;
    })

pub areas_told : (job : Job) (ls : List (List ℕ)) (k : ℕ) (s : Site) → Grants (areas_from job ls k s)
    → (total : Area) → Built s total → AreasTold job s ls (areas_from job ls k s)
unfolding areas_from together
areas_told job =
    areas_read job (λ ls k s. (total : Area) → Built s total → AreasTold job s ls (areas_from job ls k s))
    (λ k s g total b. ended_told job [] [] k s total b refl g)
    (λ rest k s g total b. ended_told job (rest ∷ []) rest k s total b refl g)
    (λ line next others k s g later total b. line_told job line next others k s total b g (λ t more e c. rw e at later more c))
