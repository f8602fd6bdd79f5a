-- What a text that reads tells of its bytes: its words stand in their lists, its numbers are digits, its lines are keys and values.
-- Assumes nothing.
use Rattle.std.specs.Prelude.{Result, Ok, Err, Option, Some, None, ℕ}
use Rattle.refusal.specs.declared.Refusal.{Refusal}
use Rattle.units.specs.declared.Area.{Area}
use Prim.Native.Nat.{ℕ, ◌+◌, ◌*◌, ◌-◌, ◌≤◌}
use mathlib.Core.Bool.{Bool, true, false, cond, ◌&&◌, not}
use mathlib.Core.List.{List, [], ◌∷◌, ◌++◌}
use mathlib.Core.Path.{◌≡◌, refl, sym, ◌∙◌, ap, subst}
use native.Mathlib.Omega.{arith}
use lib.Dec.{leb, ltb}
use lib.ListN.{length, get_or, take-append-drop}
use borrow.Author.Tests.{ne_eqb}
use Rattle.refusal.specs.declared.Refusal.TheVariants.{MalformedText}
use Rattle.text.specs.Part.{part_of}
use Rattle.text.specs.Pieces.{comma, before_of, after_of, joined, pieces}
use Rattle.text.specs.Words.{same_of, opens_of, place_from}
use Rattle.text.specs.Numbers.{most_digits, digit_zero, digit_nine, digits_from, leading_zero, numeral_of}
use Rattle.text.proofs.Parts.{part_tail, part_head}
use Rattle.text.proofs.Alike.{same_so_equal}
use Rattle.text.proofs.Splitting.{has_of, pieces_step}
use Rattle.text.proofs.Between.{after_none}
use Rattle.text.proofs.Decimal.{first_digit}
use Rattle.site.specs.declared.Site.{Site}
use Rattle.site.specs.Judging.{after_judging}
use Rattle.job.specs.declared.Job.{Job}
use Rattle.job.specs.declared.Reading.{Reading}
use Rattle.job.specs.declared.Unread.{Unread}
use Rattle.job.specs.Lines.{lines_of, value_of}
use Rattle.job.specs.Head.{head_from, head_of}
use Rattle.job.specs.Areas.{sub_area_from, area_in, added_line, refused_at, ended_at, areas_from}
use Rattle.job.specs.Reading.{most_bytes, behind_head, reading_of}

-- an answer that is granted, to a text and to an add
abbrev pub Grants : Result Reading Unread → Type 0
Grants (Ok r) = Unit {0}
Grants (Err u) = ⊥

abbrev pub Adds : Result Area Refusal → Type 0
Adds (Ok total) = Unit {0}
Adds (Err why) = ⊥

-- In a head that reads each line says something: what holds there holds of every such head.
pub head_reads : (P : Option ℕ → Option ℕ → Option ℕ → Option ℕ → Option ℕ → Option ℕ → Type 0)
    → ((p n m r t a : ℕ) → P (Some p) (Some n) (Some m) (Some r) (Some t) (Some a))
    → (p n m : Option ℕ) (r : Option ℕ) (t : Option ℕ) (a : Option ℕ) (lines : List (List ℕ)) → Grants (behind_head (head_from p n m r t a) lines) → P p n m r t a
unfolding head_from behind_head
head_reads P h None n m r t a lines g = absurd g
head_reads P h (Some p) None m r t a lines g = absurd g
head_reads P h (Some p) (Some n) None r t a lines g = absurd g
head_reads P h (Some p) (Some n) (Some m) None t a lines g = absurd g
head_reads P h (Some p) (Some n) (Some m) (Some r) None a lines g = absurd g
head_reads P h (Some p) (Some n) (Some m) (Some r) (Some t) None lines g = absurd g
head_reads P h (Some p) (Some n) (Some m) (Some r) (Some t) (Some a) lines g = h p n m r t a

-- In a line whose add is granted each field says something, likewise.
pub line_reads : (P : Option ℕ → Option ℕ → Option ℕ → Option ℕ → Type 0)
    → ((l c o a : ℕ) → P (Some l) (Some c) (Some o) (Some a))
    → (s : Site) (l c o : Option ℕ) (n : Option ℕ) → Adds (added_line s (sub_area_from l c o n)).answer → P l c o n
unfolding added_line sub_area_from
line_reads P h s None c o n g = absurd g
line_reads P h s (Some l) None o n g = absurd g
line_reads P h s (Some l) (Some c) None n g = absurd g
line_reads P h s (Some l) (Some c) (Some o) None g = absurd g
line_reads P h s (Some l) (Some c) (Some o) (Some a) g = h l c o a

-- In areas that read each line has its add granted, up to what stands behind the last line feed: what holds of the end, and of a line where
-- it holds of those behind it, holds of them all.
pub areas_read : (job : Job) (P : List (List ℕ) → ℕ → Site → Type 0)
    → ((k : ℕ) (s : Site) → Grants (ended_at job [] k s) → P [] k s)
    → ((rest : List ℕ) (k : ℕ) (s : Site) → Grants (ended_at job rest k s) → P (rest ∷ []) k s)
    → ((line next : List ℕ) (others : List (List ℕ)) (k : ℕ) (s : Site) → Adds (added_line s (area_in (line ∷ next ∷ others))).answer → P (next ∷ others) (k + 1) (added_line s (area_in (line ∷ next ∷ others))).site → P (line ∷ next ∷ others) k s)
    → (ls : List (List ℕ)) (k : ℕ) (s : Site) → Grants (areas_from job ls k s) → P ls k s
unfolding areas_from
areas_read job P none ended more [] k s g = none k s g
areas_read job P none ended more (rest ∷ []) k s g = ended rest k s g
areas_read job P none ended more (line ∷ next ∷ others) k s g =
    let a = added_line s (area_in (line ∷ next ∷ others)) in
    at a.answer refl g (areas_read job P none ended more (next ∷ others) (k + 1) a.site)
  where
    at : (x : Result Area Refusal) → (added_line s (area_in (line ∷ next ∷ others))).answer ≡ x
        → Grants (after_judging (refused_at k) (λ total. areas_from job (next ∷ others) (k + 1) (added_line s (area_in (line ∷ next ∷ others))).site) x)
        → (Grants (areas_from job (next ∷ others) (k + 1) (added_line s (area_in (line ∷ next ∷ others))).site) → P (next ∷ others) (k + 1) (added_line s (area_in (line ∷ next ∷ others))).site)
        → P (line ∷ next ∷ others) k s
    at (Ok total) e g later = more line next others k s (rw e tt) (later g)
    at (Err why) e g later = absurd g

-- A word that is found stands in its list: what is true of each word and its place is true of the text and the place that is found.
pub never_found : {j : ℕ} → None ≡ Some j → ⊥
never_found e = let z : ◌≡◌ {A = ℕ} 0 1 = cc in omega arith

unfoldable pub Each : (List ℕ → ℕ → Type 0) → List (List ℕ) → ℕ → Type 0
Each P [] k = Unit {0}
Each P (w ∷ ws) k = P w k × Each P ws (k + 1)

abbrev placed : Option ℕ → ℕ
placed (Some k) = k
placed None = 0

pub found_word : (P : List ℕ → ℕ → Type 0) (ws : List (List ℕ)) (s : List ℕ) (k : ℕ) {j : ℕ} → Each P ws k → place_from ws s k ≡ Some j → P s j
unfolding place_from Each
found_word P [] s k each e = absurd (never_found e)
found_word P (w ∷ ws) s k {j} each e = at (same_of w s) refl e (found_word P ws s (k + 1) each.1)
  where
    at : (b : Bool) → same_of w s ≡ b → cond b (Some k) (place_from ws s (k + 1)) ≡ Some j → (place_from ws s (k + 1) ≡ Some j → P s j) → P s j
    at true h f later =
        let same : k ≡ j = ap placed f in
        subst (λ (i : ℕ). P s i) same (subst (λ (t : List ℕ). P t k) (same_so_equal w s h) each.0)
    at false h f later = later f

-- A number is made of digits,
pub never_number : {n : ℕ} → None ≡ Some n → ⊥
never_number e = let z : ◌≡◌ {A = ℕ} 0 1 = cc in omega arith

unfoldable pub Digits : List ℕ → Type 0
Digits [] = Unit {0}
Digits (x ∷ s) = (digit_zero ≤ x) × (x ≤ digit_nine) × Digits s

from_digits : (s : List ℕ) (v : ℕ) {n : ℕ} → digits_from s v ≡ Some n → Digits s
unfolding Digits
from_digits [] v e = tt
from_digits (x ∷ s) v e = let f = first_digit x s v e in (f.0, f.1, from_digits s (v * 10 + (x - digit_zero)) f.2)

pub numeral_digits : (s : List ℕ) {n : ℕ} → numeral_of s ≡ Some n → Digits s
unfolding numeral_of
numeral_digits s {n} e = at (leb 1 (length s) && leb (length s) most_digits && not (leading_zero s)) e
  where
    at : (b : Bool) → cond b (digits_from s 0) None ≡ Some n → Digits s
    at true f = from_digits s 0 f
    at false f = absurd (never_number f)

-- and is one field.
pub digits_whole : (s : List ℕ) → Digits s → pieces comma s ≡ s ∷ []
unfolding Digits pieces joined
digits_whole [] d = refl
digits_whole (x ∷ s) d = let h = d.0 in rw (ne_eqb x comma (λ e. omega arith), digits_whole s d.2)

-- A line whose value is something is the key and the value.
pub keyed_line : (key : List ℕ) (lines : List (List ℕ)) → (value_of key lines ≡ [] → ⊥) → get_or lines 0 [] ≡ key ++ value_of key lines
unfolding value_of
keyed_line key [] some = absurd (some refl)
keyed_line key (unended ∷ []) some = absurd (some refl)
keyed_line key (line ∷ next ∷ others) some = at (opens_of key line) refl some
  where
    at : (b : Bool) → opens_of key line ≡ b → (cond b (part_of line (length key) (length line)) [] ≡ [] → ⊥) → line ≡ key ++ cond b (part_of line (length key) (length line)) []
    at true o some =
        sym (take-append-drop (length key) line)
        ∙ (λ i. (sym (part_head line (length key)) ∙ same_so_equal (part_of line 0 (length key)) key o) i ++ sym (part_tail line (length key)) i)
    at false o some = absurd (some refl)

-- Where something that is not empty stands behind the first comma, the fields are what stands before it and the fields behind it.
pub first_field : (P : List ℕ → Type 0) (v : List ℕ) → P (after_of comma v) → (P [] → ⊥) → pieces comma v ≡ before_of comma v ∷ pieces comma (after_of comma v)
first_field P v p none = at (has_of comma v) refl
  where
    at : (h : Bool) → has_of comma v ≡ h → pieces comma v ≡ before_of comma v ∷ pieces comma (after_of comma v)
    at true h = pieces_step comma v ∙ rw h refl
    at false h = absurd (none (rw (after_none comma v h) at p))

-- A text that reads is short enough, and its lines are read.
pub lines_read : (text : List ℕ) → Grants (reading_of text) → reading_of text ≡ behind_head (head_of (lines_of text)) (lines_of text)
unfolding reading_of
lines_read text = at (ltb most_bytes (length text))
  where
    at : (b : Bool) → Grants (cond b (refused_at 0 MalformedText) (behind_head (head_of (lines_of text)) (lines_of text)))
        → cond b (refused_at 0 MalformedText) (behind_head (head_of (lines_of text)) (lines_of text)) ≡ behind_head (head_of (lines_of text)) (lines_of text)
    at true g = absurd g
    at false g = refl
