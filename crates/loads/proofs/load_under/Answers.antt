-- `loads::load_under` meets its contract: a refused record stops it. Of a fine one the loop's invariant says that the sum so far, with what
-- is left, is the whole load, and that it stays small; then it is tried by 15.
-- Assumes nothing.
use Rattle.std.proofs.Common.{rules, Err}
use Rattle.std.proofs.lemmas.Result.{err_from_is_err_and}
use mathlib.Core.Path.{sym, ◌∙◌, ap}
use Rattle.site.specs.Parts.{parts_of}
use Rattle.site.proofs.Judging.{judged_fine, goes_on, stops}
use Rattle.loads.specs.Loads.{load_of, within_largest, load_under}
use Rattle.loads.proofs.Summing.{load_starts, load_ends, area_small, sum_fits, load_next}
use Rattle.loads.proofs.load_under.Goals as goal

pub returns-in_err-judge : goal.returns-in_err-judge
unfolding load_under
returns-in_err-judge c =
    let p = err_from_is_err_and c.from_residual.result c.from_residual.ensures.1 in
    rw (p.1, p.2) (stops Err _ _ c.judge.ensures c.in_err-judge.was)

pub loop-part-init : goal.loop-part-init
loop-part-init c = load_starts _ _ (judged_fine _ _ (sym c.judge.ensures ∙ c.in_ok-judge.was))

pub part_load-sum-requires : goal.part_load-sum-requires
part_load-sum-requires c = area_small _ _ _ _ c.loop-part.invariant c.loop-part-test.true

pub overflow_add-sum : goal.overflow_add-sum
overflow_add-sum c = search (sum_fits, rules)

pub loop-part-preserved : goal.loop-part-preserved
loop-part-preserved c = search (load_next, rules)

pub returns : goal.returns
unfolding load_under
returns c =
    let args = c.args in
    c.within_largest.ensures
    ∙ ap within_largest (load_ends _ _ _ _ c.loop-part.invariant c.loop-part-test.false)
    ∙ goes_on Err (λ total. within_largest (load_of args.rates.now (parts_of args.site))) args.site c.judge.ensures c.in_ok-judge.was
