-- The line of a sub-area: written, it adds the sub-area, and a line whose add is granted is the one that is written.
-- Assumes nothing.
use Rattle.std.specs.Prelude.{Some}
use Prim.Native.Nat.{ℕ, ◌^◌, ◌≤◌, ◌<◌}
use mathlib.Core.Bool.{true}
use mathlib.Core.List.{List, ◌∷◌, ◌++◌, append_assoc}
use mathlib.Core.Path.{◌≡◌, refl, sym, ◌∙◌, ap}
use native.Mathlib.Omega.{arith}
use lib.Dec.{lit<}
use lib.ListN.{length, drop, length-append}
use Rattle.laws.specs.Text.{bytes}
use Rattle.site.specs.declared.SubArea.{SubArea}
use Rattle.site.specs.declared.Site.{Site}
use Rattle.site.specs.Adding.{Added}
use Rattle.site.specs.Parts.{area_of}
use Rattle.site.specs.Adding.{added}
use Rattle.text.specs.Pieces.{line_feed, comma, space, before_of, after_of, pieces}
use Rattle.text.specs.Words.{place_of}
use Rattle.text.specs.Numbers.{most_digits, numeral_of, decimal_of}
use Rattle.text.proofs.Front.{free}
use Rattle.text.proofs.Decimal.{written_reads_back, number_digits}
use Rattle.text.proofs.Joining.{together, cut_first, before_front, after_front, free_both, free_at, digits_free}
use Rattle.writing.specs.Lines.{line_with}
use Rattle.writing.proofs.Digits.{some_digit}
use Rattle.job.specs.Words.{land_words, cover_words, soil_words, land_at, cover_at, soil_at, land_place, cover_place, soil_place}
use Rattle.job.specs.Lines.{lines_of, value_of}
use Rattle.job.specs.Areas.{sub_area_from, sub_area_of, area_in, added_line}
use Rattle.job.proofs.Telling.{Adds, line_reads}
use Rattle.jobtext.specs.Text.{word_at, area_text}
use Rattle.jobtext.proofs.Words.{land_reads, cover_reads, soil_reads, land_written, cover_written, soil_written, words_ended, words_apart}
use Rattle.jobtext.proofs.Lines.{first_line, own_value, some_line, line_written}

-- the value of a sub-area's line
abbrev land : SubArea → List ℕ
land p = word_at land_words (land_place p.land)

abbrev cover : SubArea → List ℕ
cover p = word_at cover_words (cover_place p.cover)

abbrev soil : SubArea → List ℕ
soil p = word_at soil_words (soil_place p.soil)

abbrev fields : SubArea → List ℕ
fields p = land p ++ (comma ∷ (cover p ++ (comma ∷ (soil p ++ (comma ∷ decimal_of (area_of p))))))

area_fields : (p : SubArea) → area_text p ≡ line_with (bytes "area=") (fields p)
unfolding area_text
area_fields p = simp append_assoc

-- It holds no line feed,
fields_free : (p : SubArea) → free line_feed (fields p) ≡ true
unfolding free
fields_free p =
    free_both line_feed (land p) (comma ∷ (cover p ++ (comma ∷ (soil p ++ (comma ∷ decimal_of (area_of p))))))
    (free_at line_feed (pieces space land_words) (land_place p.land) words_ended.4)
    (free_both line_feed (cover p) (comma ∷ (soil p ++ (comma ∷ decimal_of (area_of p))))
    (free_at line_feed (pieces space cover_words) (cover_place p.cover) words_ended.5)
    (free_both line_feed (soil p) (comma ∷ decimal_of (area_of p))
    (free_at line_feed (pieces space soil_words) (soil_place p.soil) words_ended.6)
    (digits_free line_feed (area_of p) (lit< tt))))

-- and what it adds is the sub-area.
fields_read : (s : Site) (p : SubArea) → area_of p < 10 ^ most_digits → added_line s (sub_area_of (fields p)) ≡ added s p
unfolding sub_area_of sub_area_from added_line
fields_read s p h =
    let c = cover p ++ (comma ∷ (soil p ++ (comma ∷ decimal_of (area_of p)))) in
    let o = soil p ++ (comma ∷ decimal_of (area_of p)) in
    let d = decimal_of (area_of p) in
    let free-land = free_at comma (pieces space land_words) (land_place p.land) words_apart.0 in
    let free-cover = free_at comma (pieces space cover_words) (cover_place p.cover) words_apart.1 in
    let free-soil = free_at comma (pieces space soil_words) (soil_place p.soil) words_apart.2 in
    rw (
      before_front comma (land p) c free-land,
      after_front comma (land p) c free-land,
      before_front comma (cover p) o free-cover,
      after_front comma (cover p) o free-cover,
      before_front comma (soil p) d free-soil,
      after_front comma (soil p) d free-soil,
      (land_reads p.land).0,
      (cover_reads p.cover).0,
      (soil_reads p.soil).0,
      written_reads_back (area_of p) h,
    )
    (λ i. added s (record { land = (land_reads p.land).1 i; cover = (cover_reads p.cover).1 i; soil = (soil_reads p.soil).1 i; area = p.area }))

-- The written line of a sub-area is the first line, and what it adds is the sub-area.
module _ (p : SubArea) (t : List ℕ) where
  abbrev area_line : List ℕ
  area_line = bytes "area=" ++ fields p

  pub area_first : lines_of (area_text p ++ t) ≡ area_line ∷ lines_of t
  unfolding free
  area_first = rw (area_fields p) (first_line (bytes "area=") (fields p) refl (fields_free p) t)

  pub area_added : (s : Site) → area_of p < 10 ^ most_digits → added_line s (area_in (area_line ∷ lines_of t)) ≡ added s p
  area_added s h = rw (own_value (bytes "area=") (fields p) (lines_of t) (some_line t)) (fields_read s p h)

-- A value whose fields add a sub-area is the value of this sub-area's line.
abbrev front : List ℕ → List ℕ
front v = before_of comma v

abbrev behind : List ℕ → List ℕ
behind v = after_of comma v

abbrev Written : Site → List ℕ → Added → Type 0
Written s v a = (p : SubArea) × (a ≡ added s p) × (fields p ≡ v) × (1 ≤ length v)

module _ (s : Site) (v : List ℕ) (l c o a : ℕ) (e1 : place_of land_words (front v) ≡ Some l) (e2 : place_of cover_words (front (behind v)) ≡ Some c) (e3 : place_of soil_words (front (behind (behind v))) ≡ Some o) (e4 : numeral_of (behind (behind (behind v))) ≡ Some a) where
  third : behind (behind v) ≡ front (behind (behind v)) ++ (comma ∷ behind (behind (behind v)))
  third =
      let digit = some_digit a in
      let long = ap length (number_digits (behind (behind (behind v))) e4).0 in
      cut_first comma (behind (behind v)) (omega arith)

  second : behind v ≡ front (behind v) ++ (comma ∷ behind (behind v))
  second =
      let long = ap length third ∙ length-append (front (behind (behind v))) (comma ∷ behind (behind (behind v))) in
      cut_first comma (behind v) (omega arith)

  first : v ≡ front v ++ (comma ∷ behind v)
  first =
      let long = ap length second ∙ length-append (front (behind v)) (comma ∷ behind (behind v)) in
      cut_first comma v (omega arith)

  all_written : Written s v (added_line s (sub_area_from (Some l) (Some c) (Some o) (Some a)))
  unfolding sub_area_from added_line
  all_written =
      let long = ap length first ∙ length-append (front v) (comma ∷ behind v) in (
        record { land = land_at l; cover = cover_at c; soil = soil_at o; area = record { 0 = a } },
        refl,
        (λ i. land_written (front v) e1 i ++ (comma ∷ (cover_written (front (behind v)) e2 i ++ (comma ∷ (soil_written (front (behind (behind v))) e3 i ++ (comma ∷ (number_digits (behind (behind (behind v))) e4).0 i))))))
            ∙ sym (first ∙ ap (λ (t : List ℕ). front v ++ (comma ∷ t)) (second ∙ ap (λ (t : List ℕ). front (behind v) ++ (comma ∷ t)) third)),
        omega arith,
      )

fields_written : (s : Site) (v : List ℕ) → Adds (added_line s (sub_area_of v)).answer → Written s v (added_line s (sub_area_of v))
unfolding sub_area_of
fields_written s v g =
    line_reads
    (λ l c o n. place_of land_words (front v) ≡ l → place_of cover_words (front (behind v)) ≡ c → place_of soil_words (front (behind (behind v))) ≡ o → numeral_of (behind (behind (behind v))) ≡ n → Written s v (added_line s (sub_area_from l c o n)))
    (all_written s v)
    s _ _ _ _ g refl refl refl refl

-- So a line whose add is granted is the line of the sub-area that it adds.
pub area_written : (s : Site) (ls : List (List ℕ)) → Adds (added_line s (area_in ls)).answer
    → (p : SubArea) × (added_line s (area_in ls) ≡ added s p) × (together line_feed ls ≡ area_text p ++ together line_feed (drop 1 ls))
area_written s ls g =
    let w = fields_written s (value_of (bytes "area=") ls) g in (
      w.0,
      w.1,
      line_written (bytes "area=") ls w.3
          ∙ ap (λ (v : List ℕ). line_with (bytes "area=") v ++ together line_feed (drop 1 ls)) (sym w.2)
          ∙ ap (λ (l : List ℕ). l ++ together line_feed (drop 1 ls)) (sym (area_fields w.0)),
    )
