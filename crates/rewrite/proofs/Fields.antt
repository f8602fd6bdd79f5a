-- The fields of an area line that reads: with C for U all but the soil stay, and the soil becomes its C.
-- Assumes nothing.
use Rattle.std.specs.Prelude.{Some, None}
use Prim.Native.Nat.{ℕ}
use mathlib.Core.Bool.{true}
use mathlib.Core.List.{List, [], ◌∷◌, ◌++◌, map, map-append}
use mathlib.Core.Path.{◌≡◌, refl, sym, ◌∙◌, ap}
use lib.ListN.{length, get_or}
use Rattle.laws.specs.Text.{bytes}
use Rattle.text.specs.Part.{part_of}
use Rattle.text.specs.Pieces.{space, comma, index_of, before_of, after_of, joined, pieces}
use Rattle.text.specs.Words.{same_of, opens_of, place_of}
use Rattle.text.specs.Numbers.{numeral_of}
use Rattle.text.proofs.Parts.{part_tail}
use Rattle.site.specs.declared.Site.{Site}
use Rattle.job.specs.Words.{land_words, cover_words, soil_words}
use Rattle.job.specs.Lines.{value_of}
use Rattle.job.specs.Areas.{sub_area_of, area_in, added_line}
use Rattle.rewrite.specs.Rewriting.{c_for_u}
use Rattle.rewrite.specs.Promises.{SoilAlone}
use Rattle.job.proofs.Telling.{Adds, line_reads, never_found, never_number, numeral_digits, digits_whole, keyed_line, first_field}
use Rattle.rewrite.proofs.Texts.{before_changed, after_changed, pieces_changed, free_stays, word_stays, digits_stay}
use Rattle.rewrite.proofs.Lines.{lines_on_c, keys_free, words_free, none_empty}

-- the fields of a value: USE,COVER,SOIL,AREA
abbrev pub land_field : List ℕ → List ℕ
land_field v = before_of comma v

abbrev pub cover_field : List ℕ → List ℕ
cover_field v = before_of comma (after_of comma v)

abbrev pub soil_field : List ℕ → List ℕ
soil_field v = before_of comma (after_of comma (after_of comma v))

abbrev pub area_field : List ℕ → List ℕ
area_field v = after_of comma (after_of comma (after_of comma v))

-- what each of them says
pub record Said (v : List ℕ) : Type 0 where
  land : (l : ℕ) × (place_of land_words (land_field v) ≡ Some l)
  cover : (c : ℕ) × (place_of cover_words (cover_field v) ≡ Some c)
  soil : (o : ℕ) × (place_of soil_words (soil_field v) ≡ Some o)
  area : (a : ℕ) × (numeral_of (area_field v) ≡ Some a)

pub fields_said : (s : Site) (v : List ℕ) → Adds (added_line s (sub_area_of v)).answer → Said v
unfolding sub_area_of
fields_said s v g =
    line_reads
    (λ l c o n. place_of land_words (land_field v) ≡ l → place_of cover_words (cover_field v) ≡ c → place_of soil_words (soil_field v) ≡ o → numeral_of (area_field v) ≡ n → Said v)
    (λ l c o a e1 e2 e3 e4. record { land = (l, e1); cover = (c, e2); soil = (o, e3); area = (a, e4) })
    s _ _ _ _ g refl refl refl refl

-- no field is empty
no_word : (words : List ℕ) {j : ℕ} → place_of words [] ≡ None → place_of words (before_of comma []) ≡ Some j → ⊥
unfolding part_of index_of
no_word words none e = never_found (sym none ∙ e)

no_area_lem : {n : ℕ} → numeral_of [] ≡ Some n → ⊥
unfolding numeral_of
no_area_lem e = never_number e

-- the key of the line stands before the first field
keyed : (v p : List ℕ) (ps : List (List ℕ)) → pieces comma v ≡ p ∷ ps → pieces comma (bytes "area=" ++ v) ≡ (bytes "area=" ++ p) ∷ ps
unfolding pieces joined
keyed v p ps e = rw e

module _ (v : List ℕ) (said : Said v) where
  land_stays : map c_for_u (land_field v) ≡ land_field v
  land_stays = word_stays (pieces space land_words) (land_field v) 0 words_free.4 said.land.1

  cover_stays : map c_for_u (cover_field v) ≡ cover_field v
  cover_stays = word_stays (pieces space cover_words) (cover_field v) 0 words_free.5 said.cover.1

  area_stays : map c_for_u (area_field v) ≡ area_field v
  area_stays = digits_stay (area_field v) (numeral_digits (area_field v) said.area.1)

  -- The fields of the line, and of the line with C for U.
  value_fields : pieces comma v ≡ land_field v ∷ cover_field v ∷ soil_field v ∷ area_field v ∷ []
  value_fields =
      first_field (λ t. place_of cover_words (before_of comma t) ≡ Some said.cover.0) v said.cover.1 (no_word cover_words none_empty.5)
      ∙ ap (λ (ps : List (List ℕ)). land_field v ∷ ps)
      (first_field (λ t. place_of soil_words (before_of comma t) ≡ Some said.soil.0) (after_of comma v) said.soil.1 (no_word soil_words none_empty.6)
      ∙ ap (λ (ps : List (List ℕ)). cover_field v ∷ ps)
      (first_field (λ t. numeral_of t ≡ Some said.area.0) (after_of comma (after_of comma v)) said.area.1 no_area_lem
      ∙ ap (λ (ps : List (List ℕ)). soil_field v ∷ ps) (digits_whole (area_field v) (numeral_digits (area_field v) said.area.1))))

  pub line_fields : (line : List ℕ) → line ≡ bytes "area=" ++ v → SoilAlone line (map c_for_u line)
  line_fields line e =
      let fields = ap (pieces comma) e ∙ keyed v (land_field v) (cover_field v ∷ soil_field v ∷ area_field v ∷ []) value_fields in
      let land : map c_for_u (bytes "area=" ++ land_field v) ≡ bytes "area=" ++ land_field v =
      map-append c_for_u (bytes "area=") (land_field v) ∙ (λ i. free_stays (bytes "area=") keys_free.6 i ++ land_stays i) in
      record {
        land = bytes "area=" ++ land_field v;
        cover = cover_field v;
        soil = soil_field v;
        area = area_field v;
        fields = fields;
        rewritten =
            pieces_changed comma refl line
            ∙ ap (map (map c_for_u)) fields
            ∙ (λ i. land i ∷ cover_stays i ∷ map c_for_u (soil_field v) ∷ area_stays i ∷ []);
      }

  -- What the fields say with C for U: land use, cover and area what they said.
  behind_two : after_of comma (after_of comma (map c_for_u v)) ≡ map c_for_u (after_of comma (after_of comma v))
  behind_two = ap (after_of comma) (after_changed comma refl v) ∙ after_changed comma refl (after_of comma v)

  pub land_said : place_of land_words (land_field (map c_for_u v)) ≡ place_of land_words (land_field v)
  land_said = ap (place_of land_words) (before_changed comma refl v ∙ land_stays)

  pub cover_said : place_of cover_words (cover_field (map c_for_u v)) ≡ place_of cover_words (cover_field v)
  cover_said = ap (place_of cover_words) (ap (before_of comma) (after_changed comma refl v) ∙ before_changed comma refl (after_of comma v) ∙ cover_stays)

  pub soil_changed : soil_field (map c_for_u v) ≡ map c_for_u (soil_field v)
  soil_changed = ap (before_of comma) behind_two ∙ before_changed comma refl (after_of comma (after_of comma v))

  pub area_said : numeral_of (area_field (map c_for_u v)) ≡ numeral_of (area_field v)
  area_said = ap numeral_of (ap (after_of comma) behind_two ∙ after_changed comma refl (after_of comma (after_of comma v)) ∙ area_stays)

-- A line whose add is granted is its key and a value that says something,
module _ (s : Site) (lines : List (List ℕ)) (g : Adds (added_line s (area_in lines)).answer) where
  abbrev value : List ℕ
  value = value_of (bytes "area=") lines

  pub value_said : Said value
  value_said = fields_said s value g

  some : value ≡ [] → ⊥
  some z = no_word land_words none_empty.4 (rw z at value_said.land.1)

  keyed_value : get_or lines 0 [] ≡ bytes "area=" ++ value
  keyed_value = keyed_line (bytes "area=") lines some

  -- so that its soil alone is changed,
  pub soil_alone : SoilAlone (get_or lines 0 []) (map c_for_u (get_or lines 0 []))
  soil_alone = line_fields value value_said (get_or lines 0 []) keyed_value

-- and its value is changed as it is.
opens_own : (w : List ℕ) → opens_of (bytes "area=") (bytes "area=" ++ w) ≡ true
unfolding same_of part_of
opens_own w = refl

own_value : (w next : List ℕ) (others : List (List ℕ)) → value_of (bytes "area=") ((bytes "area=" ++ w) ∷ next ∷ others) ≡ w
unfolding value_of
own_value w next others = rw (opens_own w) (part_tail (bytes "area=" ++ w) (length (bytes "area=")))

pub value_changed : (s : Site) (line next : List ℕ) (others : List (List ℕ)) (g : Adds (added_line s (area_in (line ∷ next ∷ others))).answer)
    → value_of (bytes "area=") (lines_on_c (line ∷ next ∷ others)) ≡ map c_for_u (value_of (bytes "area=") (line ∷ next ∷ others))
value_changed s line next others g =
    let v = value_of (bytes "area=") (line ∷ next ∷ others) in
    let e : map c_for_u line ≡ bytes "area=" ++ map c_for_u v =
    ap (map c_for_u) (keyed_value s (line ∷ next ∷ others) g)
    ∙ map-append c_for_u (bytes "area=") v
    ∙ ap (λ (k : List ℕ). k ++ map c_for_u v) (free_stays (bytes "area=") keys_free.6) in
    ap (λ (l : List ℕ). value_of (bytes "area=") (l ∷ map c_for_u next ∷ lines_on_c others)) e
    ∙ own_value (map c_for_u v) (map c_for_u next) (lines_on_c others)
