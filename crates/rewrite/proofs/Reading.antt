-- A text that reads, with C for U, reads as the same job on the site with C for U; of its area lines the soil alone is changed.
-- Assumes nothing.
use Rattle.std.specs.Prelude.{Result, Ok, Err, Option, Some, ℕ}
use Rattle.refusal.specs.declared.Refusal.{Refusal}
use Rattle.units.specs.declared.Area.{Area}
use Prim.Native.Nat.{ℕ, zero, suc, ◌+◌, ◌-◌, ◌≤◌, ◌<◌}
use mathlib.Core.Bool.{Bool, true, false, cond, ◌&&◌}
use mathlib.Core.List.{List, [], ◌∷◌, map}
use mathlib.Core.Path.{◌≡◌, refl}
use native.Mathlib.Omega.{arith}
use lib.Dec.{eqb, leb, ltb}
use lib.ListN.{length, get_or, drop, length-map, length-drop}
use lib.Seq.{get_or-drop}
use Rattle.laws.proofs.Map.{drop_map}
use Rattle.laws.specs.Text.{bytes}
use Rattle.refusal.specs.declared.Refusal.TheVariants.{MalformedText}
use Rattle.text.specs.Pieces.{line_feed}
use Rattle.text.specs.Words.{place_of}
use Rattle.text.specs.Numbers.{numeral_of}
use Rattle.site.specs.declared.Site.{Site}
use Rattle.site.specs.Parts.{empty_site}
use Rattle.site.specs.Judging.{after_judging}
use Rattle.job.specs.declared.Job.{Job}
use Rattle.job.specs.declared.Reading.{Reading}
use Rattle.job.specs.declared.Unread.{Unread}
use Rattle.job.specs.Words.{land_words, cover_words, soil_words, land_at, cover_at, soil_at}
use Rattle.job.specs.Lines.{lines_of, value_of}
use Rattle.job.specs.Head.{head_from, head_of}
use Rattle.job.specs.Areas.{sub_area_from, sub_area_of, area_in, added_line, refused_at, ended_at, areas_from}
use Rattle.job.specs.Reading.{most_bytes, head_lines, behind_head, reading_of}
use Rattle.rewrite.specs.Rewriting.{c_for_u}
use Rattle.rewrite.specs.Promises.{on_c, site_on_c, SoilAlone}
use Rattle.job.proofs.Telling.{Grants, Adds, head_reads, line_reads, areas_read, lines_read}
use Rattle.rewrite.proofs.Texts.{pieces_changed}
use Rattle.rewrite.proofs.Lines.{lines_on_c, soil_on_c}
use Rattle.rewrite.proofs.Heads.{head_said}
use Rattle.rewrite.proofs.Fields.{land_field, cover_field, soil_field, area_field, land_said, cover_said, soil_changed, area_said, value_said, value_changed, soil_alone}
use Rattle.rewrite.proofs.Sites.{added_on_c, added_on_c_lem}

-- what is read, with its site on C
abbrev pub reading_on_c : Result Reading Unread → Result Reading Unread
reading_on_c (Ok r) = Ok (record { job = r.job; site = site_on_c r.site })
reading_on_c (Err u) = Err u

-- the word of a soil, and that of its C
abbrev SoilOnC : Option ℕ → Option ℕ → Type 0
SoilOnC o x = (k : ℕ) → o ≡ Some k → (i : ℕ) × (x ≡ Some i) × (soil_at i ≡ on_c (soil_at k))

-- The add of a line that is granted, with its soil on C, is the add to the site on C.
abbrev LineOnC : Site → Option ℕ → Option ℕ → Option ℕ → Option ℕ → Option ℕ → Type 0
LineOnC s x l c o n = SoilOnC o x → added_line (site_on_c s) (sub_area_from l c x n) ≡ added_on_c (added_line s (sub_area_from l c o n))

line_on_c : (s : Site) (l c o x : Option ℕ) (n : Option ℕ) → Adds (added_line s (sub_area_from l c o n)).answer → LineOnC s x l c o n
unfolding added_line sub_area_from
line_on_c s l c o x n g =
    line_reads (LineOnC s x)
    (λ l c o a h.
    let k = h o refl in
    rw (k.1, k.2) (added_on_c_lem s (record { land = land_at l; cover = cover_at c; soil = soil_at o; area = record { 0 = a } })))
    s l c o n g

area_on_c : (s : Site) (line next : List ℕ) (others : List (List ℕ)) → Adds (added_line s (area_in (line ∷ next ∷ others))).answer
    → added_line (site_on_c s) (area_in (lines_on_c (line ∷ next ∷ others))) ≡ added_on_c (added_line s (area_in (line ∷ next ∷ others)))
unfolding sub_area_of
area_on_c s line next others g =
    let v = value_of (bytes "area=") (line ∷ next ∷ others) in
    let said = value_said s (line ∷ next ∷ others) g in
    rw (value_changed s line next others g, land_said v said, cover_said v said, soil_changed v said, area_said v said)
    (line_on_c s
    (place_of land_words (land_field v))
    (place_of cover_words (cover_field v))
    (place_of soil_words (soil_field v))
    (place_of soil_words (map c_for_u (soil_field v)))
    (numeral_of (area_field v))
    g
    (soil_on_c (soil_field v)))

-- The areas of a text that reads.
ended_on_c : (job : Job) (rest : List ℕ) (k : ℕ) (s : Site) → Grants (ended_at job rest k s)
    → ended_at job (map c_for_u rest) k (site_on_c s) ≡ reading_on_c (ended_at job rest k s)
ended_on_c job rest k s = rw (length-map rest c_for_u) (at (eqb (length rest) 0 && leb 1 s.count))
  where
    at : (b : Bool) → Grants (cond b (Ok (record { job = job; site = s })) (refused_at k MalformedText))
        → cond b (Ok (record { job = job; site = site_on_c s })) (refused_at k MalformedText) ≡ reading_on_c (cond b (Ok (record { job = job; site = s })) (refused_at k MalformedText))
    at true g = refl
    at false g = absurd g

areas_on_c : (job : Job) (ls : List (List ℕ)) (k : ℕ) (s : Site) → Grants (areas_from job ls k s)
    → areas_from job (lines_on_c ls) k (site_on_c s) ≡ reading_on_c (areas_from job ls k s)
unfolding areas_from
areas_on_c job =
    areas_read job (λ ls k s. areas_from job (lines_on_c ls) k (site_on_c s) ≡ reading_on_c (areas_from job ls k s))
    (λ k s g. ended_on_c job [] k s g)
    (λ rest k s g. ended_on_c job rest k s g)
    (λ line next others k s g later.
    let a = added_line s (area_in (line ∷ next ∷ others)) in
    rw (area_on_c s line next others g) (onward k (areas_from job (lines_on_c (next ∷ others)) (k + 1) (site_on_c a.site)) (areas_from job (next ∷ others) (k + 1) a.site) later a.answer g))
  where
    onward : (k : ℕ) (new old : Result Reading Unread) → new ≡ reading_on_c old → (x : Result Area Refusal) → Adds x
        → after_judging (refused_at k) (λ total. new) x ≡ reading_on_c (after_judging (refused_at k) (λ total. old) x)
    onward k new old e (Ok total) g = e
    onward k new old e (Err why) g = absurd g

-- Of each of their lines the soil alone is changed.
abbrev Alone : List (List ℕ) → Type 0
Alone ls = (i : ℕ) → suc i < length ls → SoilAlone (get_or ls i []) (map c_for_u (get_or ls i []))

areas_alone : (job : Job) (ls : List (List ℕ)) (k : ℕ) (s : Site) → Grants (areas_from job ls k s) → Alone ls
areas_alone job =
    areas_read job (λ ls k s. Alone ls)
    (λ k s g i h. absurd (omega arith))
    (λ rest k s g i h. absurd (omega arith))
    (λ line next others k s g later. at line (next ∷ others) (soil_alone s (line ∷ next ∷ others) g) later)
  where
    at : (line : List ℕ) (ls : List (List ℕ)) → SoilAlone line (map c_for_u line) → Alone ls → Alone (line ∷ ls)
    at line ls first later zero h = first
    at line ls first later (suc i) h = later i (omega arith)

-- Head and areas together.
abbrev HeadOnC : List (List ℕ) → Option ℕ → Option ℕ → Option ℕ → Option ℕ → Option ℕ → Option ℕ → Type 0
HeadOnC lines p n m r t a =
    Grants (behind_head (head_from p n m r t a) lines)
    → (behind_head (head_from p n m r t a) (lines_on_c lines) ≡ reading_on_c (behind_head (head_from p n m r t a) lines)) × Alone (drop head_lines lines)

head_on_c : (lines : List (List ℕ)) (p n m r t a : ℕ) → HeadOnC lines (Some p) (Some n) (Some m) (Some r) (Some t) (Some a)
unfolding head_from behind_head
head_on_c lines p n m r t a h = (
  rw (drop_map (map c_for_u) head_lines lines) (areas_on_c _ (drop head_lines lines) (head_lines + 1) empty_site h),
  areas_alone _ (drop head_lines lines) (head_lines + 1) empty_site h,
)

module _ (lines : List (List ℕ)) (g : Grants (behind_head (head_of lines) lines)) where
  together : (behind_head (head_of lines) (lines_on_c lines) ≡ reading_on_c (behind_head (head_of lines) lines)) × Alone (drop head_lines lines)
  unfolding head_of
  together = head_reads (HeadOnC lines) (head_on_c lines) _ _ _ _ _ _ lines g g

  behind_on_c : behind_head (head_of (lines_on_c lines)) (lines_on_c lines) ≡ reading_on_c (behind_head (head_of lines) lines)
  behind_on_c = rw (head_said lines g) together.0

  pub lines_alone : (k : ℕ) → head_lines ≤ k → suc k < length lines → SoilAlone (get_or lines k []) (map c_for_u (get_or lines k []))
  lines_alone k low high =
      let i : head_lines + (k - head_lines) ≡ k = omega arith in
      let l = length-drop head_lines lines in
      rw (get_or-drop head_lines lines (k - head_lines) [], i) at (together.1 (k - head_lines) (omega arith))

-- The whole text: it has a head and areas that read,
pub behind_reads : (text : List ℕ) → Grants (reading_of text) → Grants (behind_head (head_of (lines_of text)) (lines_of text))
behind_reads text g = rw (lines_read text g) at g

-- and reads on C.
pub text_on_c : (text : List ℕ) → Grants (reading_of text) → reading_of (map c_for_u text) ≡ reading_on_c (reading_of text)
unfolding reading_of
text_on_c text = rw (length-map text c_for_u, pieces_changed line_feed refl text) (at (ltb most_bytes (length text)))
  where
    at : (b : Bool) → Grants (cond b (refused_at 0 MalformedText) (behind_head (head_of (lines_of text)) (lines_of text)))
        → cond b (refused_at 0 MalformedText) (behind_head (head_of (lines_on_c (lines_of text))) (lines_on_c (lines_of text))) ≡ reading_on_c (cond b (refused_at 0 MalformedText) (behind_head (head_of (lines_of text)) (lines_of text)))
    at true g = absurd g
    at false g = behind_on_c (lines_of text) g
