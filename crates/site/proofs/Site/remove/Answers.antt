-- `site::Site::remove` meets its contract: a refused record stops it, the place of the number tells whether it is held, and its area is a
-- part of the total.
-- Assumes nothing.
use Rattle.std.proofs.Common.{rules, ◌≡◌, ◌-◌}
use mathlib.Core.Path.{sym, ◌∙◌, ap}
use Rattle.std.proofs.lemmas.Result.{err_from_is_err_and}
use Rattle.site.specs.declared.Site.{Site}
use Rattle.site.specs.Removing.{Removed, without}
use Rattle.site.specs.Promises.{InMemory}
use Rattle.site.proofs.Judging.{judged_fine}
use Rattle.site.proofs.Removing.{removal_stops, told, none_held, area_within, held_out}
use Rattle.site.proofs.Site.remove.Goals as goal

pub returns-in_err-total-clause-site : goal.returns-in_err-total-clause-site
returns-in_err-total-clause-site c = ap (λ (r : Removed). r.site) (removal_stops _ _ c.judge.ensures c.in_err-total.was)

pub returns-in_err-total-clause-answer : goal.returns-in_err-total-clause-answer
returns-in_err-total-clause-answer c =
    let p = err_from_is_err_and c.from_residual.result c.from_residual.ensures.1 in
    rw (p.1, p.2) (ap (λ (r : Removed). r.answer) (removal_stops _ _ c.judge.ensures c.in_err-total.was))

pub returns-in_default-clause-site : goal.returns-in_default-clause-site
returns-in_default-clause-site c =
    let m : InMemory c.args.self.now = record { parts = search rules; numbers = search rules } in
    ap (λ (r : Removed). r.site) (none_held _ m _ c.judge.ensures c.in_ok-total.was c.place_of.ensures c.in_default.is)

pub returns-in_default-clause-answer : goal.returns-in_default-clause-answer
returns-in_default-clause-answer c =
    let m : InMemory c.args.self.now = record { parts = search rules; numbers = search rules } in
    ap (λ (r : Removed). r.answer) (none_held _ m _ c.judge.ensures c.in_ok-total.was c.place_of.ensures c.in_default.is)

pub overflow_sub-result : goal.overflow_sub-result
overflow_sub-result c =
    let m : InMemory c.args.self.now = record { parts = search rules; numbers = search rules } in
    area_within _ _ (told _ m c.args.number c.judge.ensures c.in_ok-total.was) _ _ c.place_of.ensures c.in-Some.is

pub returns-clause-site : goal.returns-clause-site
returns-clause-site c =
    let m : InMemory c.args.self.now = record { parts = search rules; numbers = search rules } in
    let w : record { parts = c.copy_within.new.self; count = c.args.self.now.count - 1; numbers = c.copy_within-2.new.self; counter = c.args.self.now.counter } ≡ without c.args.self.now c.in-Some.place = search rules in
    w ∙ ap (λ (r : Removed). r.site) (held_out _ m _ c.judge.ensures c.in_ok-total.was _ c.place_of.ensures c.in-Some.is)

pub returns-clause-answer : goal.returns-clause-answer
returns-clause-answer c =
    let m : InMemory c.args.self.now = record { parts = search rules; numbers = search rules } in
    ap (λ (r : Removed). r.answer) (held_out _ m _ c.judge.ensures c.in_ok-total.was _ c.place_of.ensures c.in-Some.is)
