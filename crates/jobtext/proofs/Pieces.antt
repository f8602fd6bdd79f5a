-- The line of a sub-area field by field, and the whole text, as they are put.
-- Assumes nothing.
use Prim.Native.Nat.{ℕ, zero, suc, ◌+◌, ◌≤◌, ◌<◌}
use mathlib.Core.List.{List, [], ◌∷◌, ◌++◌, flatten, append_assoc, append-nil}
use mathlib.Core.Path.{◌≡◌, refl, sym, ◌∙◌, ap}
use native.Mathlib.Numerals.{add-one}
use native.Mathlib.Omega.{arith}
use lib.ListN.{length, take, get_or}
use lib.Seq.{take_all}
use Rattle.laws.specs.Text.{bytes}
use Rattle.site.specs.declared.SubArea.{SubArea}
use Rattle.site.specs.Parts.{area_of}
use Rattle.text.specs.Pieces.{line_feed}
use Rattle.text.specs.Numbers.{decimal_of}
use Rattle.job.specs.declared.Job.{Job}
use Rattle.job.specs.Words.{land_words, cover_words, soil_words, land_place, cover_place, soil_place}
use Rattle.writing.specs.Writing.{put_length, buffer_of}
use Rattle.writing.specs.Lines.{line_with}
use Rattle.writing.specs.Writer.{all_added}
use Rattle.writing.proofs.Adding.{all_append, whole_length, whole_buffer}
use Rattle.jobtext.specs.Text.{word_at, area_text, head_texts, job_text}
use Rattle.jobtext.specs.Inner.{head_text, areas_text, area_fields, areas_fields, job_pieces}
use Rattle.jobtext.proofs.Lengths.{job_split}

area_whole : (p : SubArea) → area_text p ≡ flatten (area_fields p)
unfolding area_text line_with flatten
area_whole p =
    in_a_row (word_at land_words (land_place p.land)) (word_at cover_words (cover_place p.cover)) (word_at soil_words (soil_place p.soil)) (decimal_of (area_of p)) (bytes "area=") (bytes ",") (line_feed ∷ [])
  where
    in_a_row : (land cover soil area key comma end : List ℕ) → key ++ (land ++ comma ++ (cover ++ comma) ++ (soil ++ comma) ++ area) ++ end
        ≡ key ++ (land ++ comma) ++ (cover ++ comma ++ (soil ++ comma ++ (area ++ end ++ [])))
    in_a_row land cover soil area key comma end = simp (append_assoc, append-nil)

-- the pieces of some lists of pieces, one behind the other
flat_append : (xs ys : List (List ℕ)) → flatten (xs ++ ys) ≡ flatten xs ++ flatten ys
unfolding flatten
flat_append [] ys = refl
flat_append (x ∷ xs) ys = ap (λ (t : List ℕ). x ++ t) (flat_append xs ys) ∙ sym (append_assoc x (flatten xs) (flatten ys))

areas_whole : (ps : List SubArea) → areas_text ps ≡ flatten (areas_fields ps)
unfolding areas_text flatten
areas_whole [] = refl
areas_whole (p ∷ ps) =
    (λ i. area_whole p i ++ areas_whole ps i) ∙ sym (flat_append (area_fields p) (areas_fields ps))

-- With the line of one sub-area more those of the first i become those of the first i + 1.
pub areas_more : (s : List ℕ × ℕ) (ps : List SubArea) (i : ℕ) (none : SubArea) → i < length ps
    → all_added (all_added s (areas_fields (take i ps))) (area_fields (get_or ps i none)) ≡ all_added s (areas_fields (take (i + 1) ps))
areas_more s [] i none h = absurd (omega arith)
areas_more s (p ∷ ps) zero none h = refl
areas_more s (p ∷ ps) (suc i) none h =
    rw (add-one (suc i)) (rw (add-one i) at (areas_more (all_added s (area_fields p)) ps i none (omega arith)))

-- Behind the first six lines, all of them are the whole text.
pub areas_all : (j : Job) (ps : List SubArea) (none : List ℕ × ℕ) {head s : List ℕ × ℕ} {i : ℕ} → head ≡ all_added none (head_texts j)
    → s ≡ all_added head (areas_fields (take i ps)) → length ps ≤ i → s ≡ all_added none (job_pieces j ps)
areas_all j ps none {i = i} b c all =
    c ∙ rw (b, take_all i ps all) (sym (all_append none (head_texts j) (areas_fields ps)))

job_whole : (j : Job) (ps : List SubArea) → job_text j ps ≡ flatten (job_pieces j ps)
unfolding head_text
job_whole j ps =
    job_split j ps ∙ ap (λ (t : List ℕ). head_text j ++ t) (areas_whole ps) ∙ sym (flat_append (head_texts j) (areas_fields ps))

-- So where it fits, it stands at the start of a buffer into which its pieces were put.
module _ (j : Job) (ps : List SubArea) (d : List ℕ) (h : length (job_text j ps) ≤ length d) {s : List ℕ × ℕ} (a : s ≡ all_added (d, 0) (job_pieces j ps)) where
  pub put_length_told : s.1 ≡ put_length d (job_text j ps)
  put_length_told = whole_length d (job_text j ps) (job_pieces j ps) (job_whole j ps) h a

  pub put_buffer_told : s.0 ≡ buffer_of d (job_text j ps)
  put_buffer_told = whole_buffer d (job_text j ps) (job_pieces j ps) (job_whole j ps) h a
