-- `credit::Survey::size_by` meets its contract: the least depth of the target tells of 5, 6 and 7, and the rest is tried after them.
-- Assumes nothing.
use mathlib.Core.Logic.{⊎_elim}
use mathlib.Core.Path.{refl, ap}
use native.Mathlib.Omega.{arith}
use Rattle.std.specs.Prelude.{Ok}
use Rattle.std.proofs.lemmas.Result.{err_from_is_err_and}
use Rattle.curve.specs.declared.Reached.{Reached}
use Rattle.credit.proofs.Working.{ready}
use Rattle.credit.proofs.Answered.{size_ready, size_on_grid, size_worked, size_high, size_short, size_stopped}
use Rattle.credit.proofs.Survey.size_by.Goals as goal

pub returns-in_err-depth : goal.returns-in_err-depth
returns-in_err-depth c =
    let p = err_from_is_err_and c.from_residual.result c.from_residual.ensures.1 in
    let w = ready c.args.self 0 (omega arith) in
    rw (p.1, p.2) (size_stopped _ _ _ _ _ _ _ _ _ w c.in_err-depth.ensures refl)

pub sized-requires : goal.sized-requires
sized-requires c =
    let w = ready c.args.self 0 (omega arith) in
    let f = ap (λ (x : Reached). Ok x) c.in-Found.is in
    (size_on_grid _ _ _ _ _ _ _ _ _ w c.in_ok-depth.ensures _ _ _ f, (size_ready _ _ _ _ _ _ _ _ _ w c.in_ok-depth.ensures _ _ _ f).whole)

pub returns-in-Found : goal.returns-in-Found
returns-in-Found c =
    let w = ready c.args.self 0 (omega arith) in
    size_worked _ _ _ _ _ _ _ _ _ w c.in_ok-depth.ensures _ _ _ _ (ap (λ (x : Reached). Ok x) c.in-Found.is) c.sized.ensures

pub returns-in-TooHigh : goal.returns-in-TooHigh
returns-in-TooHigh c =
    let w = ready c.args.self 0 (omega arith) in
    ⊎_elim
    (λ h. size_high _ _ _ _ _ _ _ _ _ w c.in_ok-depth.ensures c.sized-in-TooHigh.ensures (ap (λ (x : Reached). Ok x) h))
    (λ h. size_short _ _ _ _ _ _ _ _ _ w c.in_ok-depth.ensures c.sized-in-TooHigh.ensures (ap (λ (x : Reached). Ok x) h))
    c.in-TooHigh.is
