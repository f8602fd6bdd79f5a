-- Sites that are built from an empty one by granted adds, as a reading builds them.
-- Assumes nothing.
use Rattle.std.specs.Prelude.{Ok}
use Prim.Native.Nat.{◌+◌, ◌<◌}
use mathlib.Core.List.{[], ◌∷◌, ◌++◌}
use mathlib.Core.Path.{◌≡◌, refl, sym, ◌∙◌, ap}
use native.Mathlib.Omega.{arith}
use Rattle.laws.specs.Table.{values_from}
use Rattle.units.specs.declared.Area.{Area}
use Rattle.site.specs.declared.SubArea.{SubArea}
use Rattle.site.specs.declared.Site.{Site}
use Rattle.site.specs.Adding.{Added}
use Rattle.site.specs.Parts.{numbers_of, empty_site}
use Rattle.site.specs.Judging.{judged, given}
use Rattle.site.specs.Adding.{spent_at, added}
use Rattle.site.specs.Runs.{up_from}
use Rattle.site.specs.Promises.{InMemory}
use Rattle.site.proofs.Judging.{judged_fine}
use Rattle.site.proofs.Promises.{given_granted, empty_judged, stores, granted_holds}
use Rattle.site.proofs.Adding.{memory_stored}
use Rattle.site.proofs.Runs.{up_more}

-- A record in memory that is judged fine with its total area, whose n sub-areas have the numbers 1 to n, and whose counter is n + 1.
pub record Built (s : Site) (total : Area) : Type 0 where
  pub memory : InMemory s
  pub fine : judged s ≡ Ok total
  pub numbers : numbers_of s ≡ up_from 1 s.count
  pub counter : s.counter ≡ s.count + 1

pub built_none : Built empty_site (record { 0 = 0 })
unfolding values_from
built_none = record { memory = record { parts = refl; numbers = refl }; fine = empty_judged; numbers = refl; counter = refl }

module _ (s : Site) (total : Area) (b : Built s total) where
  -- There are numbers left for more than a site can hold.
  pub built_unspent : s.counter < spent_at
  built_unspent =
      let c = (judged_fine s total b.fine).count in
      let e = b.counter in
      omega arith

  -- A granted add builds on.
  pub built_more : (p : SubArea) (more : Area) → (added s p).answer ≡ Ok more → Built (added s p).site more
  built_more p more e =
      let holds = granted_holds s p more.0 b.memory (ap given e) in
      let put = ap (λ (x : Added). x.site) (stores s p more e) in
      let count = ap (λ (t : Site). t.count) put in
      let n = b.counter in
      let k : s.counter ≡ 1 + s.count = omega arith in
      let c = holds.4 in
      record {
        memory = rw put (memory_stored s p b.memory);
        fine = given_granted (judged (added s p).site) more.0 holds.1;
        numbers =
            holds.3
            ∙ (λ i. b.numbers i ++ (k i ∷ []))
            ∙ sym (up_more 1 s.count)
            ∙ ap (up_from 1) (sym count);
        counter = omega arith;
      }
