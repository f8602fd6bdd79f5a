-- `site::Site::impervious_area` meets its contract: a refused record stops it, and a fine one has a sum that fits.
-- Assumes nothing.
use Rattle.std.proofs.Common.{rules}
use mathlib.Core.Path.{sym, ◌∙◌}
use Rattle.site.proofs.Judging.{judged_fine, impervious_granted, impervious_exit}
use Rattle.site.proofs.Sums.{impervious_fits, impervious_summed}
use Rattle.site.proofs.Site.impervious_area.Goals as goal

pub returns-in_err-judge : goal.returns-in_err-judge
returns-in_err-judge c = impervious_exit _ c.judge.ensures c.in_err-judge.was c.from_residual.ensures.1

pub sum-requires-clause-fits : goal.sum-requires-clause-fits
sum-requires-clause-fits c = let h = impervious_fits c.args.self.now (judged_fine _ _ (sym c.judge.ensures ∙ c.in_ok-judge.was)) in search rules

pub returns : goal.returns
returns c =
    let h = impervious_summed c.args.self.now in
    impervious_granted _ c.judge.ensures _ c.in_ok-judge.was (search rules)
