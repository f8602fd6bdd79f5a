-- `jobtext::write` meets its contract: what is refused is settled before anything is put.
-- Assumes nothing.
use Rattle.jobtext.proofs.Writing.{record_stops, record_keeps, tests_stop, tests_keep, count_fits, short_enough, short_stops, short_keeps, has_room, put_answers, put_holds}
use borrow.Author.Rules.{rules}
use mathlib.Core.Bool.{not}
use mathlib.Core.Path.{ap}
use Rattle.std.proofs.lemmas.Result.{err_from_is_err_and}
use Rattle.jobtext.proofs.write.Goals as goal

pub returns-in_err-judge : goal.returns-in_err-judge
returns-in_err-judge c =
    let p = err_from_is_err_and c.from_residual.result c.from_residual.ensures.1 in
    rw (p.1, p.2) (record { value = record_stops _ _ _ c.judge.ensures c.in_err-judge.was; buf_after = record_keeps _ _ _ c.judge.ensures c.in_err-judge.was })

pub returns-then-not-passes : goal.returns-then-not-passes
returns-then-not-passes c =
    record {
      value = tests_stop _ _ _ c.judge.ensures c.in_ok-judge.was c.passes.ensures (ap not c.if-not-passes.true);
      buf_after = tests_keep _ _ _ c.judge.ensures c.in_ok-judge.was c.passes.ensures (ap not c.if-not-passes.true);
    }

pub returns-then-too_short : goal.returns-then-too_short
returns-then-too_short c =
    record {
      value = short_stops _ _ _ c.judge.ensures c.in_ok-judge.was c.passes.ensures (ap not c.if-not-passes.false) c.too_short.ensures c.if-too_short.true;
      buf_after = short_keeps _ _ _ c.judge.ensures c.in_ok-judge.was c.passes.ensures (ap not c.if-not-passes.false) c.too_short.ensures c.if-too_short.true;
    }

pub shared_ref_as_front-parts : goal.shared_ref_as_front-parts
shared_ref_as_front-parts c = search (count_fits, rules)

pub too_short-requires : goal.too_short-requires
too_short-requires c = search (short_enough, rules)

pub put_text-requires : goal.put_text-requires
put_text-requires c = search (has_room, rules)

pub returns : goal.returns
returns c =
    record {
      value = put_answers _ _ _ c.judge.ensures c.in_ok-judge.was c.passes.ensures (ap not c.if-not-passes.false) c.too_short.ensures c.if-too_short.false c.put_text.ensures.value;
      buf_after = put_holds _ _ _ c.judge.ensures c.in_ok-judge.was c.passes.ensures (ap not c.if-not-passes.false) c.too_short.ensures c.if-too_short.false c.put_text.ensures.buf_after;
    }
