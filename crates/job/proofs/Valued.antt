-- The lines of a job text, by the words and numbers that are read where they stand.
-- Assumes nothing.
use Rattle.std.specs.Prelude.{Option, Some, None, ℕ, option_map}
use Rattle.std.proofs.lemmas.Option.{some_pair_parts}
use Prim.Native.Nat.{ℕ, ◌+◌, ◌-◌, ◌≤◌, ◌<◌}
use mathlib.Core.Path.{◌≡◌, refl, sym, ◌∙◌, ap}
use mathlib.Core.Bool.{Bool, true, false, cond}
use mathlib.Core.List.{List, []}
use native.Mathlib.Omega.{arith}
use native.Mathlib.Nat.{sub-zero}
use borrow.Author.Tests.{lt-ltb, le-ltb}
use lib.ListN.{length, drop, length-drop, get_or}
use lib.Seq.{drop-drop, drop-length}
use Rattle.text.specs.Part.{part_of}
use Rattle.text.specs.Pieces.{line_feed, index_of, before_of, after_of, next_of}
use Rattle.text.specs.Words.{opens_of, behind_of, place_from, word_from}
use Rattle.text.specs.Numbers.{numeral_of}
use Rattle.text.proofs.Parts.{part_tail}
use Rattle.text.proofs.Splitting.{has_of, pieces_step}
use Rattle.text.proofs.Front.{free, all_free, opens_cut, On, key_on, key_value}
use Rattle.text.specs.declared.WordStep.{WordStep}
use Rattle.job.specs.Lines.{lines_of, value_of}
use Rattle.job.specs.Inner.{told_word, told_case, counted_at}
use Rattle.job.proofs.Fields.{Word, word_none, word_some, case_none, case_some}
use Rattle.text.proofs.Standing.{step_after, word_place}

-- the value of an ended line, and of one that is not
value_ended : (key t : List ℕ) → has_of line_feed t ≡ true → value_of key (lines_of t) ≡ cond (opens_of key (before_of line_feed t)) (part_of (before_of line_feed t) (length key) (length (before_of line_feed t))) []
unfolding value_of
value_ended key t h = rw (pieces_step line_feed t, h, pieces_step line_feed (after_of line_feed t))

value_unended : (key t : List ℕ) → has_of line_feed t ≡ false → value_of key (lines_of t) ≡ []
unfolding value_of
value_unended key t h = rw (pieces_step line_feed t, h)

-- the lines behind an ended one
pub lines_after : (t : List ℕ) → has_of line_feed t ≡ true → lines_of (after_of line_feed t) ≡ drop 1 (lines_of t)
lines_after t h = rw (pieces_step line_feed t, h)

ended_there : (t : List ℕ) → has_of line_feed t ≡ true → before_of line_feed t ≡ cond (has_of line_feed t) (before_of line_feed t) []
ended_there t h = rw h

unended_there : (t : List ℕ) → has_of line_feed t ≡ false → [] ≡ cond (has_of line_feed t) (before_of line_feed t) []
unended_there t h = rw h

nothing_ended : (t : List ℕ) → t ≡ [] → has_of line_feed t ≡ true → ⊥
unfolding index_of
nothing_ended t e h =
    let f : false ≡ true = rw e at h in
    let z : ◌≡◌ {A = ℕ} 0 1 = cc in
    omega arith

nothing_there : (t : List ℕ) → t ≡ [] → [] ≡ cond (has_of line_feed t) (before_of line_feed t) []
unfolding index_of
nothing_there t e = rw e

module _ (key s : List ℕ) (at : ℕ) (f : free line_feed key ≡ true) where
  abbrev t : List ℕ
  t = drop at s

  abbrev u : List ℕ
  u = drop (behind_of key s at) s

  -- behind a key that does not stand there nothing is left
  behind_none : opens_of key t ≡ false → u ≡ []
  behind_none o = rw o (drop-length s)

  behind_key_lem : opens_of key t ≡ true → u ≡ drop (length key) t
  behind_key_lem o = rw o (sym (drop-drop (length key) at s))

  pub key_goes_on : opens_of key t ≡ true → On line_feed t u
  key_goes_on o = rw (behind_key_lem o) (key_on line_feed key t f o)

  pub value_read : value_of key (lines_of t) ≡ cond (has_of line_feed u) (before_of line_feed u) []
  value_read = pick (opens_of key t) refl (has_of line_feed t) refl
    where
      pick : (o : Bool) → opens_of key t ≡ o → (h : Bool) → has_of line_feed t ≡ h → value_of key (lines_of t) ≡ cond (has_of line_feed u) (before_of line_feed u) []
      pick true o true h =
          let mine : value_of key (lines_of t) ≡ part_of (before_of line_feed t) (length key) (length (before_of line_feed t)) = rw (value_ended key t h, opens_cut line_feed key t f, o) in
          mine ∙ key_value line_feed key t f o ∙ ap (before_of line_feed) (sym (behind_key_lem o)) ∙ ended_there u ((key_goes_on o).there ∙ h)
      pick true o false h = value_unended key t h ∙ unended_there u ((key_goes_on o).there ∙ h)
      pick false o true h =
          let other : value_of key (lines_of t) ≡ [] = rw (value_ended key t h, opens_cut line_feed key t f, o) in
          other ∙ nothing_there u (behind_none o)
      pick false o false h = value_unended key t h ∙ nothing_there u (behind_none o)

  -- where an ended line is read behind the key, the key is there
  pub read_goes_on : has_of line_feed u ≡ true → On line_feed t u
  read_goes_on h = pick (opens_of key t) refl
    where
      pick : (o : Bool) → opens_of key t ≡ o → On line_feed t u
      pick true o = key_goes_on o
      pick false o = absurd (nothing_ended u (behind_none o) h)

-- the number that ends a line
module _ (s : List ℕ) (at : ℕ) {end : ℕ} (e : end ≡ next_of line_feed s at) where
  end_index : end ≡ at + index_of line_feed (drop at s)
  end_index = e ∙ rw (part_tail s at)

  pub number_unended : length s ≤ end → None ≡ counted_at s at
  unfolding counted_at
  number_unended h =
      let i = end_index in
      let l = length-drop at s in
      rw (le-ltb (index_of line_feed (drop at s)) (length (drop at s)) (omega arith))

  pub number_ended : {v : List ℕ} → end < length s → v ≡ part_of s at end → option_map (λ n. (n, end + 1)) (numeral_of v) ≡ counted_at s at
  unfolding counted_at part_of
  number_ended {v} h p =
      let t = drop at s in
      let i = end_index in
      let l = length-drop at s in
      let m : end + 1 ≡ at + (index_of line_feed t + 1) = omega arith in
      let d : end - at ≡ index_of line_feed t = omega arith in
      let c : numeral_of v ≡ numeral_of (before_of line_feed t) = ap numeral_of (p ∙ cut_out d) in
      rw (lt-ltb (index_of line_feed t) (length t) (omega arith), m, c)
    where
      cut_out : end - at ≡ index_of line_feed (drop at s) → part_of s at end ≡ before_of line_feed (drop at s)
      cut_out d = rw (d, sub-zero)

  pub number_unread : {v : List ℕ} → end < length s → v ≡ part_of s at end → None ≡ numeral_of v → None ≡ counted_at s at
  number_unread {v} h p q = rw (← q) at (number_ended h p)

  pub number_read : {v : List ℕ} {n : ℕ} → end < length s → v ≡ part_of s at end → numeral_of v ≡ Some n → Some (n, end + 1) ≡ counted_at s at
  number_read {v} h p q = rw q at (number_ended h p)

-- what the number at a place says, and what it tells where it is read
abbrev pub numeral_at : List ℕ → ℕ → Option ℕ
numeral_at s at = cond (has_of line_feed (drop at s)) (numeral_of (before_of line_feed (drop at s))) None

pub record Number (s : List ℕ) (at a next : ℕ) : Type 0 where
  pub says : numeral_at s at ≡ Some a
  pub there : has_of line_feed (drop at s) ≡ true
  pub behind : drop next s ≡ after_of line_feed (drop at s)

pub counted_none : (s : List ℕ) (at : ℕ) → counted_at s at ≡ None → numeral_at s at ≡ None
unfolding counted_at
counted_none s at e = pick (has_of line_feed (drop at s)) (numeral_of (before_of line_feed (drop at s))) e
  where
    pick : (h : Bool) (o : Option ℕ) → cond h (option_map {U = ℕ × ℕ} (λ n. (n, at + (index_of line_feed (drop at s) + 1))) o) None ≡ None → cond h o None ≡ None
    pick true None e = refl
    pick true (Some n) e = cc
    pick false o e = refl

pub counted_some : (s : List ℕ) (at : ℕ) {a next : ℕ} → counted_at s at ≡ Some (a, next) → Number s at a next
unfolding counted_at
counted_some s at {a} {next} e = pick (has_of line_feed (drop at s)) (numeral_of (before_of line_feed (drop at s))) refl refl e
  where
    t : List ℕ
    t = drop at s

    pick : (h : Bool) (o : Option ℕ) → has_of line_feed t ≡ h → numeral_of (before_of line_feed t) ≡ o → cond h (option_map {U = ℕ × ℕ} (λ n. (n, at + (index_of line_feed t + 1))) o) None ≡ Some (a, next) → Number s at a next
    pick true None h q e = cc
    pick true (Some n) h q e =
        let same = some_pair_parts n a (at + (index_of line_feed t + 1)) next e in
        record {
          says = rw (h, q, same.0);
          there = h;
          behind = rw (← same.1, part_tail t (index_of line_feed t + 1)) (sym (drop-drop (index_of line_feed t + 1) at s));
        }
    pick false o h q e = cc

-- A line that is read: it says something or nothing, and where it says something the lines behind it follow.
pub record LineRead {X : Type 0} (said : Option X) (s : List ℕ) (at : ℕ) (r : Option (X × ℕ)) : Type 0 where
  pub bad : r ≡ None → said ≡ None
  pub read : (x : X) (next : ℕ) → r ≡ Some (x, next) → said ≡ Some x
  pub behind : (x : X) (next : ℕ) → r ≡ Some (x, next) → lines_of (drop next s) ≡ drop 1 (lines_of (drop at s))

module _ (key s : List ℕ) (at : ℕ) (f : free line_feed key ≡ true) where
  abbrev behind_key : ℕ
  behind_key = behind_of key s at

  abbrev rest : List ℕ
  rest = drop behind_key s

  -- behind an ended line stand the others
  lines_behind : (n : ℕ) → has_of line_feed rest ≡ true → drop n s ≡ after_of line_feed rest → lines_of (drop n s) ≡ drop 1 (lines_of (drop at s))
  lines_behind n h e =
      let on = read_goes_on key s at f h in
      rw (e, on.after) (lines_after (drop at s) (sym on.there ∙ h))

  module _ (ws : List (List ℕ)) (g : all_free line_feed ws ≡ true) (none : place_from ws [] 0 ≡ None) where
    abbrev w : WordStep
    w = word_from ws line_feed s behind_key 0

    word_says : w.place ≡ place_from ws (value_of key (lines_of (drop at s))) 0
    word_says = word_place ws line_feed s behind_key g ∙ sym (rw (value_read key s at f) (pick (has_of line_feed rest)))
      where
        pick : (h : Bool) → place_from ws (cond h (before_of line_feed rest) []) 0 ≡ cond h (place_from ws (before_of line_feed rest) 0) None
        pick true = refl
        pick false = none

    word_behind : {k next : ℕ} → Word w k next → lines_of (drop next s) ≡ drop 1 (lines_of (drop at s))
    word_behind {k} {next} h =
        rw (← h.behind) (lines_behind w.next (ended (has_of line_feed rest) refl (sym (word_place ws line_feed s behind_key g) ∙ h.place)) (step_after ws line_feed s behind_key 0 g h.place))
      where
        ended : (there : Bool) → has_of line_feed rest ≡ there → cond there (place_from ws (before_of line_feed rest) 0) None ≡ Some k → has_of line_feed rest ≡ true
        ended true e h = e
        ended false e h = cc

    pub word_line : {r : Option (ℕ × ℕ)} → r ≡ told_word w → LineRead (place_from ws (value_of key (lines_of (drop at s))) 0) s at r
    word_line e =
        record {
          bad = λ h. sym word_says ∙ word_none w (sym e ∙ h);
          read = λ k next h. sym word_says ∙ (word_some w (sym e ∙ h)).place;
          behind = λ k next h. word_behind (word_some w (sym e ∙ h));
        }

    pub case_line : {X : Type 0} (cases : List X) (d : X) → length ws ≡ length cases → {r : Option (X × ℕ)} → r ≡ told_case cases w → LineRead (option_map (λ k. get_or cases k d) (place_from ws (value_of key (lines_of (drop at s))) 0)) s at r
    case_line {X} cases d same e =
        record {
          bad = λ h. ap told (sym word_says ∙ case_none cases d ws line_feed s behind_key same (sym e ∙ h));
          read = λ x next h. let c = case_some cases d ws line_feed s behind_key same (sym e ∙ h) in ap told (sym word_says ∙ c.1.0.place) ∙ ap Some c.1.1;
          behind = λ x next h. word_behind (case_some cases d ws line_feed s behind_key same (sym e ∙ h)).1.0;
        }
      where
        told : Option ℕ → Option X
        told o = option_map (λ k. get_or cases k d) o

  pub number_line : {r : Option (ℕ × ℕ)} → r ≡ counted_at s behind_key → LineRead (numeral_of (value_of key (lines_of (drop at s)))) s at r
  unfolding numeral_of
  number_line e =
      record {
        bad = λ h. sym says ∙ counted_none s behind_key (sym e ∙ h);
        read = λ a next h. sym says ∙ (counted_some s behind_key (sym e ∙ h)).says;
        behind = λ a next h. let n = counted_some s behind_key (sym e ∙ h) in lines_behind next n.there n.behind;
      }
    where
      pick : (h : Bool) → numeral_of (cond h (before_of line_feed rest) []) ≡ cond h (numeral_of (before_of line_feed rest)) None
      pick true = refl
      pick false = refl

      says : numeral_at s behind_key ≡ numeral_of (value_of key (lines_of (drop at s)))
      says = sym (rw (value_read key s at f) (pick (has_of line_feed rest)))
