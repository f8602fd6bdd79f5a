-- `sagecruet::codes::write` meets its contract: the list is tried, then the codes, and the job is written behind them.
-- Assumes nothing.
use Rattle.sagecruet.proofs.Telling.{list_stops, list_keeps, many_stops, many_keeps, head_stops, head_keeps, areas_stop, areas_keep, job_answers, job_leaves}
use borrow.Author.Rules.{rules}
use Rattle.sagecruet.specs.Codes.{told}
use Rattle.std.proofs.lemmas.Result.{err_from_is_err_and}
use Rattle.sagecruet.proofs.codes.write.Goals as goal

pub returns-then-areas-ne0 : goal.returns-then-areas-ne0
returns-then-areas-ne0 c = record { value = search (list_stops, rules); text_after = search (list_keeps, rules) }

pub returns-then-count-gt-MOST_PARTS : goal.returns-then-count-gt-MOST_PARTS
returns-then-count-gt-MOST_PARTS c = record { value = search (many_stops, rules); text_after = search (many_keeps, rules) }

pub returns-in_err-job : goal.returns-in_err-job
returns-in_err-job c =
    let codes = (told c.args.practice c.args.nutrient c.args.mode c.args.rate c.args.task c.args.amount c.args.areas.now) in
    let p = err_from_is_err_and c.from_residual.result c.from_residual.ensures.1 in
    rw (p.1, p.2)
    (record {
      value = head_stops c.args.text.now codes c.if-areas-ne0.false c.if-count-gt-MOST_PARTS.false c.in_err-job.ensures;
      text_after = head_keeps c.args.text.now codes c.if-areas-ne0.false c.if-count-gt-MOST_PARTS.false c.in_err-job.ensures;
    })

pub returns-in_err-site : goal.returns-in_err-site
returns-in_err-site c =
    let codes = (told c.args.practice c.args.nutrient c.args.mode c.args.rate c.args.task c.args.amount c.args.areas.now) in
    let p = err_from_is_err_and c.from_residual-in_err-site.result c.from_residual-in_err-site.ensures.1 in
    rw (p.1, p.2)
    (record {
      value = areas_stop c.args.text.now codes c.if-areas-ne0.false c.if-count-gt-MOST_PARTS.false c.in_ok-job.ensures c.in_err-site.ensures;
      text_after = areas_keep c.args.text.now codes c.if-areas-ne0.false c.if-count-gt-MOST_PARTS.false c.in_ok-job.ensures c.in_err-site.ensures;
    })

pub returns : goal.returns
returns c =
    let codes = (told c.args.practice c.args.nutrient c.args.mode c.args.rate c.args.task c.args.amount c.args.areas.now) in
    record {
      value = job_answers c.args.text.now codes c.if-areas-ne0.false c.if-count-gt-MOST_PARTS.false c.in_ok-job.ensures c.in_ok-site.ensures c.write.ensures.value;
      text_after = job_leaves c.args.text.now codes c.if-areas-ne0.false c.if-count-gt-MOST_PARTS.false c.in_ok-job.ensures c.in_ok-site.ensures c.write.ensures.buf_after;
    }
