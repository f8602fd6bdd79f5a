-- The promises of runs of adds and removals, proved.
-- Assumes nothing.
use Rattle.std.specs.Prelude.{Result, Ok, Err}
use Rattle.refusal.specs.declared.Refusal.{Refusal}
use Prim.Native.Nat.{ℕ, zero, suc, ◌+◌, ◌-◌, ◌≤◌, ◌<◌}
use mathlib.Core.Bool.{true, and-eq-true_iff}
use mathlib.Core.List.{List, [], ◌∷◌, ◌++◌, append-nil}
use mathlib.Core.Path.{◌≡◌, refl, sym, ◌∙◌, ap}
use native.Mathlib.Numerals.{add-one, unary_clauses}
use native.Mathlib.Omega.{arith}
use lib.ListN.{length, get_or, replicate}
use lib.Seq.{append_snoc}
use Rattle.laws.specs.Sum.{sum_of}
use Rattle.laws.specs.Table.{values_from}
use Rattle.laws.proofs.Sum.{sum_more}
use Rattle.laws.proofs.ClosedUp.{length_closed}
use Rattle.refusal.specs.Refusal.{granted}
use Rattle.units.specs.declared.Area.{Area}
use Rattle.units.specs.Limits.{most_area}
use Rattle.site.specs.declared.SubArea.{SubArea}
use Rattle.site.specs.declared.Site.{Site}
use Rattle.site.specs.Adding.{Added}
use Rattle.site.specs.Removing.{Removed}
use Rattle.site.specs.Parts.{most_parts, parts_of, numbers_of, area_of, total_area, blank, empty_site}
use Rattle.site.specs.Judging.{fits, after_judging, judged, given}
use Rattle.site.specs.Adding.{spent_at, stored, added}
use Rattle.site.specs.Removing.{place_of, without, removed}
use Rattle.site.specs.Runs.{Step, add, remove, stepped, ran, answers, adds, takes, added_area, taken_area, gives, numbers_given, up_from, built_from}
use Rattle.site.specs.Promises.{all_fit, InMemory, Startable, RunTotal, RunNumbers, BuiltAfresh}
use Rattle.site.specs.Inner.{Told}
use Rattle.site.proofs.Judging.{judged_has}
use Rattle.site.proofs.Adding.{memory_stored}
use Rattle.site.proofs.Removing.{numbers_counted, parts_counted}
use Rattle.site.proofs.Removals as removal
use Rattle.site.proofs.Promises.{given_granted, given_some, empty_judged, stores, keeps, from_fine, parts_stored, stored_fine, add_granted_exactly}

-- a record in memory that is judged fine
abbrev Sound : Site → Type 0
Sound s = (total : Area) × Told s total

empty_told : Told empty_site (record { 0 = 0 })
empty_told = record { memory = record { parts = refl; numbers = refl }; fine = empty_judged }

-- What a step leaves: a record that is as sound, and whose area, with what the step takes, is what it was with what the step adds.
record Went (s : Site) (step : Step) (t : Site) : Type 0 where
  pub sound : Sound t
  pub area : total_area (parts_of t) + takes s step ≡ total_area (parts_of s) + adds s step

-- a site without a sub-area has its 32 places
memory_without : (s : Site) (total : Area) → Told s total → (i : ℕ) → i < s.count → InMemory (without s i)
memory_without s total t i h =
    let c = (judged_has s total t.fine).0 in
    let m = t.memory in
    record {
      parts = length_closed s.parts i (s.count - 1) (omega arith) (let l = m.parts in omega arith) ∙ m.parts;
      numbers = length_closed s.numbers i (s.count - 1) (omega arith) (let l = m.numbers in omega arith) ∙ m.numbers;
    }

add_goes : (s : Site) (p : SubArea) → Sound s → Went s (add p) (added s p).site
add_goes s p sound = told (added s p).answer refl
  where
    told : (x : Result Area Refusal) → (added s p).answer ≡ x → Went s (add p) (added s p).site
    told (Ok a) e =
        let f = from_fine s p a e in
        let g = f.2 in
        let m = sound.1.memory in
        let more : adds s (add p) ≡ area_of p = ap (after_judging (λ why. 0) (λ total. area_of p)) e in
        let sum = ap total_area (parts_stored s p m g.place) ∙ sum_more area_of (parts_of s) p in
        rw (stores s p a e)
        (record {
          sound = (record { 0 = f.0.0 + area_of p }, record { memory = memory_stored s p m; fine = stored_fine s p f.0 m f.1 g.fit g.place g.within });
          area = omega arith;
        })
    told (Err why) e =
        let none : adds s (add p) ≡ 0 = ap (after_judging (λ why. 0) (λ total. area_of p)) e in
        rw (keeps s p why e) (record { sound = sound; area = omega arith })

remove_goes : (s : Site) (n : ℕ) → Sound s → Went s (remove n) (removed s n).site
remove_goes s n sound = told (removed s n).answer refl
  where
    told : (x : Result Area Refusal) → (removed s n).answer ≡ x → Went s (remove n) (removed s n).site
    told (Ok a) e =
        let f = removal.from_held s n a e in
        let t : Told s f.0 = record { memory = sound.1.memory; fine = f.1 } in
        let h = f.2 in
        let i = place_of n (numbers_of s) in
        let k = judged_has s f.0 f.1 in
        let c = numbers_counted s f.0 t in
        let area = removal.left_area s f.0 t n i h (removal.stands s n h) in
        let total = k.2 in
        let less : takes s (remove n) ≡ area_of (get_or (parts_of s) i blank) = ap (after_judging (λ why. 0) (λ total. area_of (get_or (parts_of s) i blank))) e in
        rw f.3
        (record {
          sound = (_, record { memory = memory_without s f.0 t i (omega arith); fine = removal.without_fine s f.0 t n i h (removal.stands s n h) });
          area = omega arith;
        })
    told (Err why) e =
        let none : takes s (remove n) ≡ 0 = ap (after_judging (λ why. 0) (λ total. area_of (get_or (parts_of s) (place_of n (numbers_of s)) blank))) e in
        rw (removal.keeps s n why e) (record { sound = sound; area = omega arith })

step_goes : (s : Site) (step : Step) → Sound s → Went s step (stepped s step)
step_goes s (add p) = add_goes s p
step_goes s (remove n) = remove_goes s n

-- A run leaves a sound record,
run_sound : (s : Site) (steps : List Step) → Sound s → Sound (ran s steps)
unfolding ran
run_sound s [] sound = sound
run_sound s (step ∷ steps) sound = run_sound (stepped s step) steps (step_goes s step sound).sound

-- whose area, with what was taken, is what it was with what was added.
run_area : (s : Site) (steps : List Step) → Sound s
    → total_area (parts_of (ran s steps)) + taken_area s steps ≡ total_area (parts_of s) + added_area s steps
unfolding ran added_area taken_area
run_area s [] sound = refl
run_area s (step ∷ steps) sound =
    let w = step_goes s step sound in
    let here = w.area in
    let later = run_area (stepped s step) steps w.sound in
    omega arith

starts_sound : (s : Site) → Startable s → Sound s
starts_sound s h = let g = given_some (judged s) h.fine in (g.0, record { memory = h.memory; fine = g.1 })

pub empty_starts : Startable empty_site
empty_starts = record { memory = empty_told.memory; fine = ap (λ (x : Result Area Refusal). (given x).0) empty_judged }

pub run_total : RunTotal
unfolding sum_of
run_total = (empty_starts, refl, whole)
  where
    whole : (s : Site) (steps : List Step) → Startable s
        → (given (judged (ran s steps)) ≡ (granted, total_area (parts_of (ran s steps))))
        × (total_area (parts_of (ran s steps)) + taken_area s steps ≡ total_area (parts_of s) + added_area s steps)
    whole s steps h =
        let sound = run_sound s steps (starts_sound s h) in
        let total = (judged_has (ran s steps) sound.0 sound.1.fine).2 in
        (ap given sound.1.fine ∙ ap (λ (n : ℕ). (granted, n)) (sym total), run_area s steps (starts_sound s h))

pub run_fine : (s : Site) (steps : List Step) → Startable s → (given (judged (ran s steps))).0 ≡ granted
run_fine s steps h = ap (λ (x : Result Area Refusal). (given x).0) (run_sound s steps (starts_sound s h)).1.fine

-- A removal keeps the counter.
counter_kept : (s : Site) (n : ℕ) → (removed s n).site.counter ≡ s.counter
counter_kept s n = told (removed s n).answer refl
  where
    told : (x : Result Area Refusal) → (removed s n).answer ≡ x → (removed s n).site.counter ≡ s.counter
    told (Ok a) e = ap (λ (r : Removed). r.site.counter) (removal.from_held s n a e).3
    told (Err why) e = ap (λ (r : Removed). r.site.counter) (removal.keeps s n why e)

-- The numbers that are given are those from the counter on.
numbers_rise : (s : Site) (steps : List Step) → numbers_given s steps ≡ up_from s.counter (length (numbers_given s steps))
unfolding numbers_given values_from
numbers_rise s [] = refl
numbers_rise s (add p ∷ steps) = told (added s p).answer refl (numbers_rise (added s p).site steps)
  where
    told : (x : Result Area Refusal) → (added s p).answer ≡ x
        → numbers_given (added s p).site steps ≡ up_from (added s p).site.counter (length (numbers_given (added s p).site steps))
        → gives s (add p) ++ numbers_given (added s p).site steps ≡ up_from s.counter (length (gives s (add p) ++ numbers_given (added s p).site steps))
    told (Ok a) e = rw (stores s p a e, add-one s.counter) (λ later. ap (λ (ks : List ℕ). s.counter ∷ ks) later)
    told (Err why) e = rw (keeps s p why e) (λ later. later)
numbers_rise s (remove n ∷ steps) =
    numbers_rise (removed s n).site steps
    ∙ ap (λ (k : ℕ). up_from k (length (numbers_given (removed s n).site steps))) (counter_kept s n)

-- One number more from k on is the next behind them.
pub up_more : (k n : ℕ) → up_from k (n + 1) ≡ up_from k n ++ ((k + n) ∷ [])
unfolding values_from
up_more k zero = simp unary_clauses
up_more k (suc n) =
    let here : suc n + 1 ≡ suc (n + 1) = omega arith in
    let there : suc k + n ≡ k + suc n = omega arith in
    ap (up_from k) here
    ∙ ap (λ (ks : List ℕ). k ∷ ks) (up_more (suc k) n)
    ∙ ap (λ (m : ℕ). k ∷ up_from (suc k) n ++ (m ∷ [])) there

-- The counter rises by one with each.
counter_rises : (s : Site) (steps : List Step) → (ran s steps).counter ≡ s.counter + length (numbers_given s steps)
unfolding ran numbers_given
counter_rises s [] = let z : s.counter ≡ s.counter + 0 = omega arith in z
counter_rises s (add p ∷ steps) = told (added s p).answer refl (counter_rises (added s p).site steps)
  where
    told : (x : Result Area Refusal) → (added s p).answer ≡ x
        → (ran (added s p).site steps).counter ≡ (added s p).site.counter + length (numbers_given (added s p).site steps)
        → (ran (added s p).site steps).counter ≡ s.counter + length (gives s (add p) ++ numbers_given (added s p).site steps)
    told (Ok a) e = rw (stores s p a e) (λ later. let l = later in omega arith)
    told (Err why) e = rw (keeps s p why e) (λ later. later)
counter_rises s (remove n ∷ steps) =
    counter_rises (removed s n).site steps ∙ ap (λ (k : ℕ). k + length (numbers_given (removed s n).site steps)) (counter_kept s n)

pub run_numbers : RunNumbers
run_numbers = (refl, λ s steps. (numbers_rise s steps, counter_rises s steps))

-- Sub-areas that fit are added one by one, where there are places, numbers and area enough for them.
builds : (s : Site) (ps : List SubArea) (total : Area) → Told s total → all_fit ps ≡ true → s.count + length ps ≤ most_parts
    → s.counter + length ps ≤ spent_at → total.0 + total_area ps ≤ most_area
    → (answers s (built_from ps) ≡ replicate (length ps) granted) × (parts_of (ran s (built_from ps)) ≡ parts_of s ++ ps)
unfolding ran answers all_fit sum_of
builds s [] total t f c k l = (refl, sym (append-nil (parts_of s)))
builds s (p ∷ ps) total t f c k l =
    let b = (and-eq-true_iff (fits p) (all_fit ps)).0 f in
    let g = (add_granted_exactly s p total.0 (total.0 + area_of p) (ap given t.fine)).1 (b.0, omega arith, omega arith, refl, omega arith) in
    let put = stores s p (record { 0 = total.0 + area_of p }) (given_granted (added s p).answer (total.0 + area_of p) g) in
    let here = ap (λ (x : Added). x.site) put in
    let fine = stored_fine s p total t.memory t.fine b.0 (omega arith) (omega arith) in
    let later =
    builds (stored s p) ps (record { 0 = total.0 + area_of p })
    (record { memory = memory_stored s p t.memory; fine = fine })
    b.1
    (omega arith)
    (omega arith)
    (omega arith)
    in (
      (λ i. ap (λ (x : Result Area Refusal). (given x).0) (ap (λ (x : Added). x.answer) put) i ∷ answers (here i) (built_from ps))
          ∙ ap (λ (xs : List ℕ). granted ∷ xs) later.0,
      ap (λ (x : Site). parts_of (ran x (built_from ps))) here
          ∙ later.1
          ∙ ap (λ (qs : List SubArea). qs ++ ps) (parts_stored s p t.memory (omega arith))
          ∙ append_snoc (parts_of s) p ps,
    )

pub built_afresh : BuiltAfresh
built_afresh start steps h =
    let sound = run_sound start steps (starts_sound start h) in
    let s = ran start steps in
    let k = judged_has s sound.0 sound.1.fine in
    let c = k.0 in
    let n = parts_counted s sound.0 sound.1 in
    let sum = k.2 in
    let most = k.3 in
    builds empty_site (parts_of s) (record { 0 = 0 }) empty_told k.1 (omega arith) (omega arith) (omega arith)
