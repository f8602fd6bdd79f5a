-- Rules, "A soil that is not known": numbers while U was read as C for runoff, and since it is read as D. Proved in proofs/Numbers.antt.
-- Assumes nothing.
use Rattle.std.specs.Prelude.{ℕ, List, [], ◌∷◌, ◌++◌, ◌≡◌, replicate}
use Rattle.laws.specs.Text.{bytes}
use Rattle.units.specs.declared.Nutrient.TheVariants.{P, N}
use Rattle.site.specs.declared.LandUse.TheVariants.{Com}
use Rattle.site.specs.declared.Cover.TheVariants.{Imp, Per}
use Rattle.site.specs.declared.Soil.TheVariants.{B, U, NoSoil}
use Rattle.site.specs.declared.SubArea.{SubArea}
use Rattle.site.specs.declared.Site.{Site}
use Rattle.site.specs.Parts.{blank}
use Rattle.loads.specs.Rates.{export_rates}
use Rattle.loads.specs.Loads.{load_of}
use Rattle.volume.specs.Volume.{volume_of}
use Rattle.curve.specs.declared.Mode.TheVariants.{Step}
use Rattle.credit.specs.declared.Wanted.{Wanted}
use Rattle.credit.specs.Answers.{credit, size, answer_by, given}
use Rattle.credit.specs.Promises.{Credited, Sized}
use Rattle.credit.specs.Numbers.{sheet_t, numbers_of}
use Rattle.answer.specs.Lines.{answer_text}
use Rattle.calculator.specs.Outcome.{by_tables, outcome_of}
use Rattle.rewrite.specs.Rewriting.{rewritten_of}
use Rattle.rewrite.specs.OldRules.{old_volume_of, old_outcome_of}

-- impervious 400, pervious U 200 and B 150
abbrev pub plot : List SubArea
plot =
    record { land = Com; cover = Imp; soil = NoSoil; area = record { 0 = 400 } }
    ∷ record { land = Com; cover = Per; soil = U; area = record { 0 = 200 } }
    ∷ record { land = Com; cover = Per; soil = B; area = record { 0 = 150 } }
    ∷ []

abbrev pub plot_site : Site
plot_site = record { parts = plot ++ replicate 29 blank; count = 3; numbers = 1 ∷ 2 ∷ 3 ∷ replicate 29 0; counter = 4 }

-- V before and since
abbrev pub both_volumes : ℕ → ℕ × ℕ
both_volumes d = (old_volume_of plot d, volume_of plot d)

abbrev pub VolumesSince : Type 0
VolumesSince =
    both_volumes 10 ∷ both_volumes 20 ∷ both_volumes 71 ∷ both_volumes 200 ∷ []
    ≡ (145_200_000, 145_200_000)
    ∷ (297_660_000, 304_920_000)
    ∷ (1_100_343_750, 1_144_629_750)
    ∷ (3_524_730_000, 3_807_870_000)
    ∷ []

-- the loads of phosphorus and of nitrogen, which stay
abbrev pub LoadsStay : Type 0
LoadsStay = load_of (export_rates P) plot ∷ load_of (export_rates N) plot ∷ [] ≡ 77_200 ∷ 666_000 ∷ []

-- On T, step, rate 50, by the old rules: target 55001 gave the old V at depth 71, which was credited 55500.
abbrev pub on_t_before : Wanted → List ℕ
on_t_before wanted = numbers_of (given (answer_by old_volume_of sheet_t wanted N plot_site Step 50))

abbrev pub SizesBefore : Type 0
SizesBefore =
    on_t_before (size 55_001) ∷ on_t_before (credit 1_100_343_750) ∷ on_t_before (credit 1_144_629_750) ∷ on_t_before (credit 1_144_629_749) ∷ []
    ≡ (0 ∷ 0 ∷ 0 ∷ 666_000 ∷ 71 ∷ 55_500 ∷ 1_100_343_750 ∷ 369_630 ∷ [])
    ∷ (0 ∷ 0 ∷ 0 ∷ 666_000 ∷ 71 ∷ 55_500 ∷ 1_100_343_750 ∷ 369_630 ∷ [])
    ∷ (0 ∷ 0 ∷ 0 ∷ 666_000 ∷ 73 ∷ 56_500 ∷ 1_144_629_750 ∷ 376_290 ∷ [])
    ∷ (0 ∷ 0 ∷ 0 ∷ 666_000 ∷ 73 ∷ 56_500 ∷ 1_144_629_749 ∷ 376_290 ∷ [])
    ∷ []

-- It gives the new V, which is credited 55500, and one unit less 55000; the old one is credited 54000.
abbrev pub SizesSince : Type 0
SizesSince =
    numbers_of (Sized sheet_t N plot_site Step 50 55_001)
    ∷ numbers_of (Credited sheet_t N plot_site Step 50 1_144_629_750)
    ∷ numbers_of (Credited sheet_t N plot_site Step 50 1_144_629_749)
    ∷ numbers_of (Credited sheet_t N plot_site Step 50 1_100_343_750)
    ∷ []
    ≡ (0 ∷ 0 ∷ 0 ∷ 666_000 ∷ 71 ∷ 55_500 ∷ 1_144_629_750 ∷ 369_630 ∷ [])
    ∷ (0 ∷ 0 ∷ 0 ∷ 666_000 ∷ 71 ∷ 55_500 ∷ 1_144_629_750 ∷ 369_630 ∷ [])
    ∷ (0 ∷ 0 ∷ 0 ∷ 666_000 ∷ 70 ∷ 55_000 ∷ 1_144_629_749 ∷ 366_300 ∷ [])
    ∷ (0 ∷ 0 ∷ 0 ∷ 666_000 ∷ 68 ∷ 54_000 ∷ 1_100_343_750 ∷ 359_640 ∷ [])
    ∷ []

-- jobs/wetland.job, and what it is rewritten to
abbrev pub wetland_job : List ℕ
wetland_job =
    bytes
    "practice=wetland\nnutrient=N\nmode=step\nrate=0\ntask=credit\namount=2000000000\narea=hdr,imp,-,310\narea=hdr,per,U,420\narea=hwy,imp,-,95\n"

abbrev pub wetland_on_c : List ℕ
wetland_on_c =
    bytes
    "practice=wetland\nnutrient=N\nmode=step\nrate=0\ntask=credit\namount=2000000000\narea=hdr,imp,-,310\narea=hdr,per,C,420\narea=hwy,imp,-,95\n"

abbrev pub WetlandRewritten : Type 0
WetlandRewritten = rewritten_of wetland_job ≡ wetland_on_c

-- the text of its answer before, which is that of the rewritten job, and since
abbrev pub wetland_before : List ℕ
wetland_before = bytes "answer=0\nload=637650\ndepth=120\ncredit=70400\nbasis=between\nvolume=2000000000\nremoved=448905\n"

abbrev pub wetland_since : List ℕ
wetland_since = bytes "answer=0\nload=637650\ndepth=107\ncredit=68840\nbasis=between\nvolume=2000000000\nremoved=438958\n"

abbrev pub WetlandAnswered : Type 0
WetlandAnswered =
    (answer_text (old_outcome_of by_tables wetland_job) ≡ wetland_before)
    × (answer_text (outcome_of by_tables wetland_job) ≡ wetland_since)
    × (answer_text (outcome_of by_tables wetland_on_c) ≡ wetland_before)

-- A basin sized for 70 percent of the phosphorus: the volume before and since.
abbrev pub basin_job : List ℕ
basin_job = bytes "practice=basin\nnutrient=P\nmode=step\nrate=39\ntask=size\namount=70000\narea=com,imp,-,257\narea=com,per,U,300\n"

abbrev pub BasinAnswered : Type 0
BasinAnswered =
    (answer_text (old_outcome_of by_tables basin_job)
    ≡ bytes "answer=0\nload=52046\ndepth=36\ncredit=70000\nbasis=between\nvolume=364161600\nremoved=36432\n")
    × (answer_text (outcome_of by_tables basin_job)
    ≡ bytes "answer=0\nload=52046\ndepth=36\ncredit=70000\nbasis=between\nvolume=392475600\nremoved=36432\n")
