-- `credit::Survey::credited` meets its contract: 8 by the impervious area, 9 and 15 by the depth.
-- Assumes nothing.
use Rattle.std.proofs.lemmas.Result.{err_from_is_err_and}
use Rattle.credit.proofs.Working.{ready, credit_dry, credit_granted, credit_refused}
use Rattle.credit.proofs.Survey.credited.Goals as goal

pub returns-then-self-lt1 : goal.returns-then-self-lt1
returns-then-self-lt1 c = credit_dry _ _ _ (ready c.args.self _ c.requires.whole) c.args.basis _ c.if-self-lt1.true

pub returns-in_err-depth : goal.returns-in_err-depth
returns-in_err-depth c =
    let p = err_from_is_err_and c.from_residual.result c.from_residual.ensures.1 in
    rw (p.1, p.2)
    (credit_refused _ _ _ (ready c.args.self _ c.requires.whole) c.args.basis _ _ _ c.if-self-lt1.false c.requires.reached_value c.in_err-depth.was)

pub returns : goal.returns
returns c =
    credit_granted _ _ _ (ready c.args.self _ c.requires.whole) c.args.basis _ _ _ _ c.if-self-lt1.false c.requires.reached_value c.in_ok-depth.was
    c.figures.ensures
