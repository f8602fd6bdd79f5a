-- `credit::Survey::sized` meets its contract: 8, 9, then 15 by V, then 10.
-- Assumes nothing.
use mathlib.Core.Path.{refl}
use native.Mathlib.Nat.{le_refl}
use native.Mathlib.Omega.{arith}
use Rattle.std.proofs.lemmas.Result.{err_from_is_err_and}
use Rattle.credit.proofs.Working.{ready, dry_by, out_by, size_granted, size_unreached, size_refused}
use Rattle.credit.proofs.Survey.sized.Goals as goal

pub returns-then-self-lt1 : goal.returns-then-self-lt1
returns-then-self-lt1 c = dry_by c.args.self _ _ c.requires c.if-self-lt1.true

pub returns-then-target-gt-MOST_PERCENT : goal.returns-then-target-gt-MOST_PERCENT
returns-then-target-gt-MOST_PERCENT c = out_by c.args.self _ _ c.requires c.if-self-lt1.false c.if-target-gt-MOST_PERCENT.true

pub returns-in_err-volume-in-Some : goal.returns-in_err-volume-in-Some
returns-in_err-volume-in-Some c =
    let p = err_from_is_err_and c.from_residual.result c.from_residual.ensures.1 in
    let w = rw c.in-Some.is at c.requires in
    rw (p.1, p.2, c.in-Some.is)
    (size_refused _ _ _ (ready c.args.self _ w.1) _ _ _ _ _ _ c.if-self-lt1.false c.if-target-gt-MOST_PERCENT.false w.0 c.volume_of.ensures c.in_err-volume-in-Some.was)

pub returns-in_ok-volume-in-Some : goal.returns-in_ok-volume-in-Some
returns-in_ok-volume-in-Some c =
    let w = rw c.in-Some.is at c.requires in
    rw c.in-Some.is
    (size_granted _ _ _ (ready c.args.self _ w.1) _ _ _ _ _ _ c.if-self-lt1.false c.if-target-gt-MOST_PERCENT.false w.0 c.volume_of.ensures c.in_ok-volume-in-Some.was c.figures.ensures refl)

pub returns-in_err-volume_of-in-None : goal.returns-in_err-volume_of-in-None
returns-in_err-volume_of-in-None c =
    let p = err_from_is_err_and c.from_residual-in_err-volume_of-in-None.result c.from_residual-in_err-volume_of-in-None.ensures.1 in
    rw (p.1, p.2, c.in-None.is)
    (size_refused _ _ _ (ready c.args.self 0 (omega arith)) _ _ _ _ _ _ c.if-self-lt1.false c.if-target-gt-MOST_PERCENT.false (le_refl _) c.volume_of-in-None.ensures c.in_err-volume_of-in-None.was)

pub returns-in_ok-volume_of-in-None : goal.returns-in_ok-volume_of-in-None
returns-in_ok-volume_of-in-None c =
    rw c.in-None.is
    (size_unreached _ _ _ (ready c.args.self 0 (omega arith)) _ _ _ _ _ c.if-self-lt1.false c.if-target-gt-MOST_PERCENT.false (le_refl _) c.volume_of-in-None.ensures c.in_ok-volume_of-in-None.was refl)
