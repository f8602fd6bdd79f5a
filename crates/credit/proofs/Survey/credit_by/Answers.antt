-- `credit::Survey::credit_by` meets its contract: the percent at the depth of the volume tells of 5, 6 and 7, and the rest is tried after
-- them.
-- Assumes nothing.
use mathlib.Core.Path.{refl}
use native.Mathlib.Omega.{arith}
use Rattle.std.proofs.lemmas.Result.{err_from_is_err_and}
use Rattle.credit.proofs.Working.{ready}
use Rattle.credit.proofs.Answered.{credit_ready, credit_worked, credit_stopped}
use Rattle.credit.proofs.Survey.credit_by.Goals as goal

pub returns-in_err-percent : goal.returns-in_err-percent
returns-in_err-percent c =
    let p = err_from_is_err_and c.from_residual.result c.from_residual.ensures.1 in
    let w = ready c.args.self 0 (omega arith) in
    rw (p.1, p.2) (credit_stopped _ _ _ _ _ _ _ _ _ _ _ w c.depth_of-reached.ensures c.depth_in.ensures c.in_err-percent.ensures refl)

pub credited-requires-clause-whole : goal.credited-requires-clause-whole
credited-requires-clause-whole c =
    let w = ready c.args.self 0 (omega arith) in
    (credit_ready _ _ _ _ _ _ _ _ _ _ _ w c.depth_of-reached.ensures c.depth_in.ensures c.in_ok-percent.ensures _ _ refl).whole

pub returns : goal.returns
returns c =
    let w = ready c.args.self 0 (omega arith) in
    credit_worked _ _ _ _ _ _ _ _ _ _ _ w c.depth_of-reached.ensures c.depth_in.ensures c.in_ok-percent.ensures _ _ _ refl c.credited.ensures
