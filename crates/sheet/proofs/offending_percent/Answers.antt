-- `sheet::offending_percent` meets its contract: it walks over the rows as far as every number is in step.
-- Assumes nothing.
use borrow.Author.Rules.{rules}
use Rattle.std.proofs.Common.{◌+◌, ◌*◌, ◌∙◌, ap, sym, Some}
use Rattle.sheet.proofs.Carrying.{rows_end, row_found, row_passes}
use Rattle.sheet.proofs.offending_percent.Goals as goal

pub returns-in-Some-offending : goal.returns-in-Some-offending
returns-in-Some-offending c =
    let s = c.in-Some.ensures.steps in
    let v = c.loop-j.invariant in
    ap (λ k. Some (k * c.args.n + c.in-Some-offending.place)) s.1
    ∙ row_found _ _ _ _ _ v.3 _ _ s.0.1.0 (s.0.1.1 ∙ v.2) c.in-Some-offending.ensures

pub loop-j-preserved : goal.loop-j-preserved
loop-j-preserved c =
    let s = c.in-Some.ensures.steps in
    let v = c.loop-j.invariant in (
      search rules,
      search rules,
      s.0.0 ∙ v.2,
      rw s.2 (row_passes _ _ _ _ _ v.3 _ _ s.0.1.0 (s.0.1.1 ∙ v.2) c.in_default.ensures),
    )

pub returns : goal.returns
returns c =
    let s = c.in-None.ensures.steps in
    let v = c.loop-j.invariant in
    rows_end _ _ _ _ _ v.3 c.requires.whole (rw (sym v.2) s.0.1.0)
