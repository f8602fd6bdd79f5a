-- An area line that is read field by field where it stands is the line of the definition.
-- Assumes nothing.
use Rattle.std.specs.Prelude.{Option, Some, None, ℕ}
use Rattle.std.proofs.lemmas.Option.{some_pair_parts}
use Prim.Native.Nat.{ℕ}
use mathlib.Core.Path.{◌≡◌, refl, sym, ◌∙◌, ap}
use mathlib.Core.Bool.{Bool, true, false, cond}
use mathlib.Core.List.{List, []}
use lib.ListN.{drop}
use Rattle.laws.specs.Text.{bytes}
use Rattle.text.specs.Part.{part_of}
use Rattle.text.specs.Pieces.{space, line_feed, comma, index_of, before_of, after_of, pieces, joined}
use Rattle.text.specs.Words.{same_of, behind_of, place_from, word_from}
use Rattle.text.specs.Numbers.{numeral_of}
use Rattle.text.proofs.Splitting.{has_of}
use Rattle.text.proofs.Between.{after_none}
use Rattle.text.proofs.Front.{free, all_free}
use Rattle.site.specs.declared.SubArea.{SubArea}
use Rattle.site.specs.declared.LandUse.{LandUse}
use Rattle.site.specs.declared.LandUse.TheVariants as land
use Rattle.site.specs.declared.Cover.{Cover}
use Rattle.site.specs.declared.Cover.TheVariants as cover
use Rattle.site.specs.declared.Soil.{Soil}
use Rattle.site.specs.declared.Soil.TheVariants as soil
use Rattle.site.specs.Cases as cases
use Rattle.job.specs.Words.{land_words, cover_words, soil_words, land_at, cover_at, soil_at}
use Rattle.job.specs.Lines.{lines_of, value_of}
use Rattle.job.specs.Areas.{sub_area_from, sub_area_of}
use Rattle.job.specs.Inner.{told_case, counted_at, area_on, Lined}
use Rattle.job.proofs.Fields.{Word, case_none, case_some}
use Rattle.job.proofs.Scanning.{field_place, field_there, field_rest, field_goes_on}
use Rattle.job.proofs.Valued.{numeral_at, value_read, read_goes_on, counted_none, counted_some}

-- One field of a line: others says what the line says by the field's word and what stands behind it, and steps what is read by the step over the field. Both say nothing without a word; without a comma nothing stands behind.
module _ (ws : List (List ℕ)) (s : List ℕ) (at : ℕ) (f : all_free comma ws ≡ true) (g : all_free line_feed ws ≡ true) where
  abbrev line : List ℕ
  line = before_of line_feed (drop at s)

  abbrev rest : List ℕ
  rest = drop (word_from ws comma s at 0).next s

  module _ (others : Option ℕ → List ℕ → Option SubArea) (steps : Option ℕ → Option SubArea)
      (wordless : (v : List ℕ) → others None v ≡ None)
      (bare : (x : Option ℕ) → others x [] ≡ None)
      (stopped : steps None ≡ None)
      (goes_on : (j : ℕ) → steps (Some j) ≡ cond (has_of line_feed rest) (others (Some j) (before_of line_feed rest)) None) where
    pub field : steps (word_from ws comma s at 0).place ≡ cond (has_of line_feed (drop at s)) (others (place_from ws (before_of comma line) 0) (after_of comma line)) None
    field = told (word_from ws comma s at 0).place refl
      where
        without : (h : Bool) → others (place_from ws (before_of comma line) 0) (after_of comma line) ≡ None → None ≡ cond h (others (place_from ws (before_of comma line) 0) (after_of comma line)) None
        without true e = sym e
        without false e = refl

        nothing : (c : Bool) → has_of comma line ≡ c → cond c (place_from ws (before_of comma line) 0) None ≡ None → others (place_from ws (before_of comma line) 0) (after_of comma line) ≡ None
        nothing true e h = rw h (wordless (after_of comma line))
        nothing false e h = rw (after_none comma line e) (bare (place_from ws (before_of comma line) 0))

        placed : (j : ℕ) (c : Bool) → has_of comma line ≡ c → c ≡ true → cond c (place_from ws (before_of comma line) 0) None ≡ Some j → place_from ws (before_of comma line) 0 ≡ Some j
        placed j true e h p = p
        placed j false e h p = cc

        told : (x : Option ℕ) → (word_from ws comma s at 0).place ≡ x → steps (word_from ws comma s at 0).place ≡ cond (has_of line_feed (drop at s)) (others (place_from ws (before_of comma line) 0) (after_of comma line)) None
        told None e =
            ap steps e ∙ stopped
            ∙ without (has_of line_feed (drop at s)) (nothing (has_of comma line) refl (sym (field_place ws s at f g) ∙ e))
        told (Some j) e =
            let there = field_there ws s at f g e in
            let p = placed j (has_of comma line) refl there (sym (field_place ws s at f g) ∙ e) in
            rw (e, p, field_rest ws s at f g e, ← (field_goes_on ws s at f g e).there) (goes_on j)

-- the words of the three fields hold neither a comma nor a line feed, and none of them is empty
abbrev lands : List (List ℕ)
lands = pieces space land_words

abbrev covers : List (List ℕ)
covers = pieces space cover_words

abbrev soils : List (List ℕ)
soils = pieces space soil_words

lands_free : (all_free comma lands ≡ true) × (all_free line_feed lands ≡ true)
unfolding all_free free pieces joined
lands_free = (refl, refl)

covers_free : (all_free comma covers ≡ true) × (all_free line_feed covers ≡ true)
unfolding all_free free pieces joined
covers_free = (refl, refl)

soils_free : (all_free comma soils ≡ true) × (all_free line_feed soils ≡ true)
unfolding all_free free pieces joined
soils_free = (refl, refl)

no_cover : place_from covers (before_of comma []) 0 ≡ None
unfolding place_from pieces joined same_of part_of index_of
no_cover = refl

no_soil : place_from soils (before_of comma []) 0 ≡ None
unfolding place_from pieces joined same_of part_of index_of
no_soil = refl

no_number : numeral_of [] ≡ None
unfolding numeral_of
no_number = refl

-- fields that say nothing
without_number : (l c : ℕ) (x : Option ℕ) → sub_area_from (Some l) (Some c) x None ≡ None
unfolding sub_area_from
without_number l c None = refl
without_number l c (Some o) = refl

without_soil : (l : ℕ) (x : Option ℕ) (n : Option ℕ) → sub_area_from (Some l) x None n ≡ None
unfolding sub_area_from
without_soil l None n = refl
without_soil l (Some c) n = refl

without_cover : (x y : Option ℕ) (n : Option ℕ) → sub_area_from x None y n ≡ None
unfolding sub_area_from
without_cover None y n = refl
without_cover (Some l) y n = refl

module _ (s : List ℕ) where
  abbrev line_at : ℕ → List ℕ
  line_at at = before_of line_feed (drop at s)

  abbrev soil_of : List ℕ → Option ℕ
  soil_of v = place_from soils (before_of comma v) 0

  abbrev cover_of : List ℕ → Option ℕ
  cover_of v = place_from covers (before_of comma v) 0

  soil_field_lem : (at l c : ℕ) → sub_area_from (Some l) (Some c) (word_from soils comma s at 0).place (numeral_at s (word_from soils comma s at 0).next) ≡ cond (has_of line_feed (drop at s)) (sub_area_from (Some l) (Some c) (soil_of (line_at at)) (numeral_of (after_of comma (line_at at)))) None
  unfolding sub_area_from
  soil_field_lem at l c =
      field soils s at soils_free.0 soils_free.1
      (λ x v. sub_area_from (Some l) (Some c) x (numeral_of v))
      (λ x. sub_area_from (Some l) (Some c) x (numeral_at s next))
      (λ v. refl)
      (λ x. rw no_number (without_number l c x))
      refl
      (λ j. pick j (has_of line_feed (drop next s)))
    where
      next : ℕ
      next = (word_from soils comma s at 0).next

      pick : (j : ℕ) (h : Bool) → sub_area_from (Some l) (Some c) (Some j) (cond h (numeral_of (line_at next)) None) ≡ cond h (sub_area_from (Some l) (Some c) (Some j) (numeral_of (line_at next))) None
      pick j true = refl
      pick j false = refl

  abbrev after_cover : ℕ → ℕ
  after_cover at = (word_from covers comma s at 0).next

  cover_field_lem : (at l : ℕ) → sub_area_from (Some l) (word_from covers comma s at 0).place (word_from soils comma s (after_cover at) 0).place (numeral_at s (word_from soils comma s (after_cover at) 0).next) ≡ cond (has_of line_feed (drop at s)) (sub_area_from (Some l) (cover_of (line_at at)) (soil_of (after_of comma (line_at at))) (numeral_of (after_of comma (after_of comma (line_at at))))) None
  unfolding sub_area_from
  cover_field_lem at l =
      field covers s at covers_free.0 covers_free.1
      (λ x v. sub_area_from (Some l) x (soil_of v) (numeral_of (after_of comma v)))
      (λ x. sub_area_from (Some l) x (word_from soils comma s (after_cover at) 0).place (numeral_at s (word_from soils comma s (after_cover at) 0).next))
      (λ v. refl)
      (λ x. rw no_soil (without_soil l x (numeral_of (after_of comma []))))
      refl
      (λ j. soil_field_lem (after_cover at) l j)

  abbrev after_land : ℕ → ℕ
  after_land at = (word_from lands comma s at 0).next

  -- the four fields of a value
  fields_read : (at : ℕ) → sub_area_from (word_from lands comma s at 0).place (word_from covers comma s (after_land at) 0).place (word_from soils comma s (after_cover (after_land at)) 0).place (numeral_at s (word_from soils comma s (after_cover (after_land at)) 0).next) ≡ cond (has_of line_feed (drop at s)) (sub_area_of (line_at at)) None
  unfolding sub_area_from sub_area_of
  fields_read at =
      field lands s at lands_free.0 lands_free.1
      (λ x v. sub_area_from x (cover_of v) (soil_of (after_of comma v)) (numeral_of (after_of comma (after_of comma v))))
      (λ x. sub_area_from x (word_from covers comma s (after_land at) 0).place (word_from soils comma s (after_cover (after_land at)) 0).place (numeral_at s (word_from soils comma s (after_cover (after_land at)) 0).next))
      (λ v. refl)
      (λ x. rw no_cover (without_cover x (soil_of (after_of comma [])) (numeral_of (after_of comma (after_of comma [])))))
      refl
      (λ j. cover_field_lem (after_land at) j)

-- an area line with its key
key_free : free line_feed (bytes "area=") ≡ true
unfolding free
key_free = refl

no_fields : sub_area_of [] ≡ None
unfolding sub_area_of sub_area_from place_from pieces joined same_of part_of index_of
no_fields = refl

module _ (s : List ℕ) (at : ℕ) where
  abbrev from : ℕ
  from = behind_of (bytes "area=") s at

  keyed : cond (has_of line_feed (drop from s)) (sub_area_of (before_of line_feed (drop from s))) None ≡ area_on (drop at s)
  keyed = pick (has_of line_feed (drop from s)) refl (value_read (bytes "area=") s at key_free)
    where
      empty : (h : Bool) {v : List ℕ} → v ≡ [] → None ≡ cond h (sub_area_of v) None
      empty true e = rw e (sym no_fields)
      empty false e = refl

      pick : (h : Bool) → has_of line_feed (drop from s) ≡ h → value_of (bytes "area=") (lines_of (drop at s)) ≡ cond h (before_of line_feed (drop from s)) [] → cond h (sub_area_of (before_of line_feed (drop from s))) None ≡ area_on (drop at s)
      pick true h v = rw (sym (read_goes_on (bytes "area=") s at key_free h).there ∙ h, v)
      pick false h v = empty (has_of line_feed (drop at s)) v

  lined_bad : None ≡ area_on (drop at s) → {r : Option (SubArea × ℕ)} → r ≡ None → Lined s at r
  lined_bad h e = rw e (record { bad = λ f. sym h; read = λ p next f. cc; behind = λ p next f. cc })

  lined_fine : {p : SubArea} {next : ℕ} → Some p ≡ area_on (drop at s) → drop next s ≡ after_of line_feed (drop at s) → Lined s at (Some (p, next))
  lined_fine {p} {next} h b =
      record {
        bad = λ f. cc;
        read = λ q n f. sym h ∙ ap Some (some_pair_parts p q next n f).0;
        behind = λ q n f. rw (← (some_pair_parts p q next n f).1) b;
      }

  -- The fields that the code reads, each behind the one before it: as far as they were read, each says something.
  module _ {b : ℕ} {r1 : Option (LandUse × ℕ)} (d : b ≡ from) (e1 : r1 ≡ told_case cases.land_uses (word_from (pieces space land_words) comma s b 0)) where
    told1 : r1 ≡ told_case cases.land_uses (word_from lands comma s from 0)
    told1 = e1 ∙ ap (λ (x : ℕ). told_case cases.land_uses (word_from lands comma s x 0)) d

    whole1 : sub_area_from (word_from lands comma s from 0).place (word_from covers comma s (after_land s from) 0).place (word_from soils comma s (after_cover s (after_land s from)) 0).place (numeral_at s (word_from soils comma s (after_cover s (after_land s from)) 0).next) ≡ area_on (drop at s)
    whole1 = fields_read s from ∙ keyed

    pub bad_land : r1 ≡ None → {r : Option (SubArea × ℕ)} → r ≡ None → Lined s at r
    unfolding sub_area_from pieces joined
    bad_land h e = lined_bad (rw (case_none cases.land_uses land.Com lands comma s from refl (sym told1 ∙ h)) at whole1) e

    module _ {x1 : LandUse} {a1 : ℕ} (f1 : r1 ≡ Some (x1, a1)) where
      place1 : (k : ℕ) × (Word (word_from lands comma s from 0) k a1 × (land_at k ≡ x1))
      unfolding pieces joined
      place1 = case_some cases.land_uses land.Com lands comma s from refl (sym told1 ∙ f1)

      whole2 : sub_area_from (Some place1.0) (word_from covers comma s a1 0).place (word_from soils comma s (after_cover s a1) 0).place (numeral_at s (word_from soils comma s (after_cover s a1) 0).next) ≡ area_on (drop at s)
      whole2 = rw (place1.1.0.place, place1.1.0.behind) at whole1

      module _ {r2 : Option (Cover × ℕ)} (e2 : r2 ≡ told_case cases.covers (word_from (pieces space cover_words) comma s a1 0)) where
        pub bad_cover : r2 ≡ None → {r : Option (SubArea × ℕ)} → r ≡ None → Lined s at r
        unfolding sub_area_from pieces joined
        bad_cover h e = lined_bad (rw (case_none cases.covers cover.Imp covers comma s a1 refl (sym e2 ∙ h)) at whole2) e

        module _ {x2 : Cover} {a2 : ℕ} (f2 : r2 ≡ Some (x2, a2)) where
          place2 : (k : ℕ) × (Word (word_from covers comma s a1 0) k a2 × (cover_at k ≡ x2))
          unfolding pieces joined
          place2 = case_some cases.covers cover.Imp covers comma s a1 refl (sym e2 ∙ f2)

          whole3 : sub_area_from (Some place1.0) (Some place2.0) (word_from soils comma s a2 0).place (numeral_at s (word_from soils comma s a2 0).next) ≡ area_on (drop at s)
          whole3 = rw (place2.1.0.place, place2.1.0.behind) at whole2

          module _ {r3 : Option (Soil × ℕ)} (e3 : r3 ≡ told_case cases.soils (word_from (pieces space soil_words) comma s a2 0)) where
            pub bad_soil : r3 ≡ None → {r : Option (SubArea × ℕ)} → r ≡ None → Lined s at r
            unfolding sub_area_from pieces joined
            bad_soil h e = lined_bad (rw (case_none cases.soils soil.A soils comma s a2 refl (sym e3 ∙ h)) at whole3) e

            module _ {x3 : Soil} {a3 : ℕ} (f3 : r3 ≡ Some (x3, a3)) where
              place3 : (k : ℕ) × (Word (word_from soils comma s a2 0) k a3 × (soil_at k ≡ x3))
              unfolding pieces joined
              place3 = case_some cases.soils soil.A soils comma s a2 refl (sym e3 ∙ f3)

              whole4 : sub_area_from (Some place1.0) (Some place2.0) (Some place3.0) (numeral_at s a3) ≡ area_on (drop at s)
              whole4 = rw (place3.1.0.place, place3.1.0.behind) at whole3

              module _ {r4 : Option (ℕ × ℕ)} (e4 : r4 ≡ counted_at s a3) where
                pub bad_area : r4 ≡ None → {r : Option (SubArea × ℕ)} → r ≡ None → Lined s at r
                unfolding sub_area_from
                bad_area h e = lined_bad (rw (counted_none s a3 (sym e4 ∙ h)) at whole4) e

                pub area_reads : {x4 a4 : ℕ} → r4 ≡ Some (x4, a4) → Lined s at (Some (record { land = x1; cover = x2; soil = x3; area = record { 0 = x4 } }, a4))
                unfolding sub_area_from
                area_reads {x4} {a4} f4 =
                    let n = counted_some s a3 (sym e4 ∙ f4) in
                    lined_fine (rw (n.says, place1.1.1, place2.1.1, place3.1.1) at whole4) (behind n.there n.behind)
                  where
                    behind : has_of line_feed (drop a3 s) ≡ true → drop a4 s ≡ after_of line_feed (drop a3 s) → drop a4 s ≡ after_of line_feed (drop at s)
                    behind h e =
                        let o4 = rw place3.1.0.behind at (field_goes_on soils s a2 soils_free.0 soils_free.1 place3.1.0.place) in
                        let o3 = rw place2.1.0.behind at (field_goes_on covers s a1 covers_free.0 covers_free.1 place2.1.0.place) in
                        let o2 = rw place1.1.0.behind at (field_goes_on lands s from lands_free.0 lands_free.1 place1.1.0.place) in
                        let o1 = read_goes_on (bytes "area=") s at key_free (sym o2.there ∙ sym o3.there ∙ sym o4.there ∙ h) in
                        e ∙ o4.after ∙ o3.after ∙ o2.after ∙ o1.after
