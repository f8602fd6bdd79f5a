-- Rules, "Checking an answer": numbers of checks. Of each claimed text the line, from and to that are given back, 0 for a yes. Proved in
-- proofs/Numbers.antt.
-- Assumes nothing.
use Rattle.std.specs.Prelude.{ℕ, ◌<◌, List, [], ◌∷◌, ◌++◌, map, ◌≡◌, length}
use Rattle.laws.specs.Text.{bytes}
use Rattle.job.specs.Reading.{most_bytes}
use Rattle.calculator.specs.Promises.{sample_job, sample_text}
use Rattle.review.specs.Checking.{check_of, given}

-- what is given back for some claimed texts
abbrev checks : List ℕ → List (List ℕ) → List (ℕ × ℕ × ℕ)
checks job claims =
    map (λ (claimed : List ℕ). let g = given claimed (check_of job claimed) in (g.0, g.1.from, g.1.to)) claims

-- What is claimed for the sample job, whose answer has 69 bytes in 7 lines:
abbrev pub sample_claims : List (List ℕ)
sample_claims =
    -- that answer itself, nothing, its first line, that line without its LF, and the answer but for its last LF;
    sample_text
    ∷ []
    ∷ bytes "answer=0\n"
    ∷ bytes "answer=0"
    ∷ bytes "answer=0\nload=1568350\ndepth=0\ncredit=0\nbasis=none\nvolume=0\nremoved=0"
    -- the answer with x behind it, with one LF behind it, and twice;
    ∷ (sample_text ++ bytes "x")
    ∷ (sample_text ++ bytes "\n")
    ∷ (sample_text ++ sample_text)
    -- with the 156.9 lb that Example 3-1 of document 001 prints, with a leading zero, and with a CR before every LF;
    ∷ bytes "answer=0\nload=1569000\ndepth=0\ncredit=0\nbasis=none\nvolume=0\nremoved=0\n"
    ∷ bytes "answer=0\nload=01568350\ndepth=0\ncredit=0\nbasis=none\nvolume=0\nremoved=0\n"
    ∷ bytes "answer=0\r\nload=1568350\r\ndepth=0\r\ncredit=0\r\nbasis=none\r\nvolume=0\r\nremoved=0\r\n"
    -- without its basis line, with another basis, with LF before it, and as if the job were refused.
    ∷ bytes "answer=0\nload=1568350\ndepth=0\ncredit=0\nvolume=0\nremoved=0\n"
    ∷ bytes "answer=0\nload=1568350\ndepth=0\ncredit=0\nbasis=held\nvolume=0\nremoved=0\n"
    ∷ (bytes "\n" ++ sample_text)
    ∷ bytes "answer=1\nline=0\n"
    ∷ []

-- What is given back for each of these, in their order.
abbrev pub SampleChecked : Type 0
SampleChecked =
    checks sample_job sample_claims
    ≡ (0, 69, 69)
    ∷ (1, 0, 0)
    ∷ (2, 9, 9)
    ∷ (1, 0, 8)
    ∷ (7, 59, 68)
    ∷ (8, 69, 70)
    ∷ (8, 69, 69)
    ∷ (8, 69, 77)
    ∷ (2, 9, 21)
    ∷ (2, 9, 22)
    ∷ (1, 0, 9)
    ∷ (5, 39, 47)
    ∷ (5, 39, 49)
    ∷ (1, 0, 0)
    ∷ (1, 0, 8)
    ∷ []

-- jobs/refused-1.job, of which line 8 is malformed
abbrev pub refused_job : List ℕ
refused_job =
    bytes
    "practice=trench\nnutrient=P\nmode=step\nrate=40\ntask=credit\namount=1500000000\narea=com,imp,-,400\narea=com,per,c,200\n"

-- It is checked against its two lines, another second line, the first alone, and with a third behind them.
abbrev pub RefusedJobChecked : Type 0
RefusedJobChecked =
    checks refused_job
    (bytes "answer=1\nline=8\n" ∷ bytes "answer=1\nline=7\n" ∷ bytes "answer=1\n" ∷ bytes "answer=1\nline=8\nload=0\n" ∷ [])
    ≡ (0, 16, 16) ∷ (2, 9, 15) ∷ (2, 9, 9) ∷ (3, 16, 22) ∷ []

-- A job of more than 4,096 bytes, as one of 5,000, is checked against a refusal without a line.
abbrev pub LongJobChecked : Type 0
LongJobChecked = (job : List ℕ) → most_bytes < length job → checks job (bytes "answer=1\nline=0\n" ∷ []) ≡ (0, 16, 16) ∷ []
