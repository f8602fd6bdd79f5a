-- `curve::Admitted::admit` meets its contract: the verdict comes first, and a fine sheet has a rate.
-- Assumes nothing.
use mathlib.Core.Path.{refl}
use Rattle.std.proofs.lemmas.Result.{err_from_is_err_and}
use Rattle.curve.proofs.Answering.{fine_rated, unfit_bad, accepted_rules, judged_accepted, rate_fast, rate_slow, rate_taken, rate_rated}
use Rattle.curve.proofs.Admitted.admit.Goals as goal

pub returns-in_err-judge : goal.returns-in_err-judge
returns-in_err-judge c =
    let p = err_from_is_err_and c.from_residual.result c.from_residual.ensures.1 in
    rw (p.1, p.2) (unfit_bad _ _ _ c.judge.ensures _ _ c.in_err-judge.was)

pub returns-then-fastest_taken-rate : goal.returns-then-fastest_taken-rate
returns-then-fastest_taken-rate c =
    fine_rated _ _ _ c.judge.ensures _ _ c.in_ok-judge.was (rate_fast _ _ c.fastest_taken.ensures c.if-fastest_taken-rate.true)

pub bounds-sheet-0 : goal.bounds-sheet-0
bounds-sheet-0 c = (accepted_rules _ _ _ (judged_accepted _ _ _ c.judge.ensures c.in_ok-judge.was)).some_rates

pub returns-then-rate-sheet : goal.returns-then-rate-sheet
returns-then-rate-sheet c =
    fine_rated _ _ _ c.judge.ensures _ _ c.in_ok-judge.was (rate_slow _ _ c.fastest_taken.ensures c.if-fastest_taken-rate.false c.if-rate-sheet.true)

pub choose-requires : goal.choose-requires
choose-requires c =
    rate_rated _ c.fastest_taken.ensures (accepted_rules _ _ _ (judged_accepted _ _ _ c.judge.ensures c.in_ok-judge.was)).some_rates
    c.if-fastest_taken-rate.false c.if-rate-sheet.false

pub invariant_of-result : goal.invariant_of-result
invariant_of-result c =
    let a = judged_accepted _ _ _ c.judge.ensures c.in_ok-judge.was in
    let p = rate_rated _ c.fastest_taken.ensures (accepted_rules _ _ _ a).some_rates c.if-fastest_taken-rate.false c.if-rate-sheet.false in
    record { accepted = a; slowest = p.slowest; taken = p.taken; chosen = c.choose.ensures }

pub returns : goal.returns
returns c = (
  refl,
  fine_rated _ _ _ c.judge.ensures _ _ c.in_ok-judge.was
      (rate_taken _ _ c.fastest_taken.ensures c.if-fastest_taken-rate.false c.if-rate-sheet.false c.choose.ensures),
)
