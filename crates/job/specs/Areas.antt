-- Rules, "Job and answer text": then 1 or more lines `area=USE,COVER,SOIL,AREA`, a line's form before its adding.
-- Assumes nothing.
use Rattle.site.specs.declared.SubArea.{SubArea}
use Rattle.std.specs.Prelude.{ℕ, ◌+◌, cond, ◌&&◌, List, [], ◌∷◌, length, eqb, leb, Option, Some, None, Result, Ok, Err}
use Rattle.laws.specs.Text.{bytes}
use Rattle.refusal.specs.declared.Refusal.{Refusal}
use Rattle.refusal.specs.declared.Refusal.TheVariants.{MalformedText}
use Rattle.site.specs.declared.Site.{Site}
use Rattle.site.specs.Adding.{Added}
use Rattle.site.specs.Judging.{after_judging}
use Rattle.site.specs.Adding.{added, kept}
use Rattle.text.specs.Pieces.{comma, before_of, after_of}
use Rattle.text.specs.Words.{place_of}
use Rattle.text.specs.Numbers.{numeral_of}
use Rattle.job.specs.declared.Job.{Job}
use Rattle.job.specs.declared.Reading.{Reading}
use Rattle.job.specs.declared.Unread.{Unread}
use Rattle.job.specs.Words.{land_words, cover_words, soil_words, land_at, cover_at, soil_at}
use Rattle.job.specs.Lines.{value_of}

-- a sub-area from its four fields, each of which must read
unfoldable pub sub_area_from : Option ℕ → Option ℕ → Option ℕ → Option ℕ → Option SubArea
sub_area_from None cover soil area = None
sub_area_from (Some l) None soil area = None
sub_area_from (Some l) (Some c) None area = None
sub_area_from (Some l) (Some c) (Some s) None = None
sub_area_from (Some l) (Some c) (Some s) (Some a) =
    Some (record { land = land_at l; cover = cover_at c; soil = soil_at s; area = record { 0 = a } })

-- USE,COVER,SOIL,AREA: what stands after a comma that is not there is empty, and neither a word nor a number is empty or holds a comma
unfoldable pub sub_area_of : List ℕ → Option SubArea
sub_area_of v =
    sub_area_from
    (place_of land_words (before_of comma v))
    (place_of cover_words (before_of comma (after_of comma v)))
    (place_of soil_words (before_of comma (after_of comma (after_of comma v))))
    (numeral_of (after_of comma (after_of comma (after_of comma v))))

-- what the first of some lines says
abbrev pub area_in : List (List ℕ) → Option SubArea
area_in lines = sub_area_of (value_of (bytes "area=") lines)

-- a line's form before its adding
unfoldable pub added_line : Site → Option SubArea → Added
added_line s None = kept s MalformedText
added_line s (Some p) = added s p

-- a refused reading: the refusal and its line
abbrev pub refused_at : ℕ → Refusal → Result Reading Unread
refused_at k why = Err (record { why = why; line = k })

-- The areas end where the text does, after 1 or more of them; else line k is missing or unended.
abbrev pub ended_at : Job → List ℕ → ℕ → Site → Result Reading Unread
ended_at job rest k s =
    cond (eqb (length rest) 0 && leb 1 s.count) (Ok (record { job = job; site = s })) (refused_at k MalformedText)

-- Lines read as areas and added one by one to a site, the first of them line k.
unfoldable pub areas_from : Job → List (List ℕ) → ℕ → Site → Result Reading Unread
areas_from job [] k s = ended_at job [] k s
areas_from job (rest ∷ []) k s = ended_at job rest k s
areas_from job (line ∷ next ∷ others) k s =
    let a = added_line s (area_in (line ∷ next ∷ others)) in
    after_judging (refused_at k) (λ total. areas_from job (next ∷ others) (k + 1) a.site) a.answer
