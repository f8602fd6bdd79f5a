-- `job::head::read_head` meets its contract: each of the six lines is read behind the one before it.
-- Assumes nothing.
use Rattle.text.specs.Pieces.{pieces, joined}
use Rattle.job.proofs.Heads.{head_practice, head_nutrient, head_mode, head_rate, head_task, head_amount, head_reads}
use Rattle.job.proofs.head.read_head.Goals as goal

pub returns-in_err-practice : goal.returns-in_err-practice
unfolding pieces joined
returns-in_err-practice c =
    head_practice _
    c.malformed.result c.behind-at.ensures c.word-read.ensures c.ok_or.ensures.value
    c.malformed.ensures c.in_err-practice.was c.from_residual.ensures.1

pub returns-in_err-nutrient : goal.returns-in_err-nutrient
unfolding pieces joined
returns-in_err-nutrient c =
    head_nutrient _
    c.malformed.result c.behind-at.ensures c.word-read.ensures c.ok_or.ensures.value c.in_ok-practice.was
    c.malformed-2.result c.behind-at-2.ensures c.case-read.ensures c.ok_or-2.ensures.value
    c.malformed-2.ensures c.in_err-nutrient.was c.from_residual-in_err-nutrient.ensures.1

pub returns-in_err-mode : goal.returns-in_err-mode
unfolding pieces joined
returns-in_err-mode c =
    head_mode _
    c.malformed.result c.behind-at.ensures c.word-read.ensures c.ok_or.ensures.value c.in_ok-practice.was
    c.malformed-2.result c.behind-at-2.ensures c.case-read.ensures c.ok_or-2.ensures.value c.in_ok-nutrient.was
    c.malformed-3.result c.behind-at-3.ensures c.case-read-2.ensures c.ok_or-3.ensures.value
    c.malformed-3.ensures c.in_err-mode.was c.from_residual-in_err-mode.ensures.1

pub returns-in_err-rate : goal.returns-in_err-rate
unfolding pieces joined
returns-in_err-rate c =
    head_rate _
    c.malformed.result c.behind-at.ensures c.word-read.ensures c.ok_or.ensures.value c.in_ok-practice.was
    c.malformed-2.result c.behind-at-2.ensures c.case-read.ensures c.ok_or-2.ensures.value c.in_ok-nutrient.was
    c.malformed-3.result c.behind-at-3.ensures c.case-read-2.ensures c.ok_or-3.ensures.value c.in_ok-mode.was
    c.malformed-4.result c.behind-at-4.ensures c.number-read.ensures c.ok_or-4.ensures.value
    c.malformed-4.ensures c.in_err-rate.was c.from_residual-in_err-rate.ensures.1

pub returns-in_err-task : goal.returns-in_err-task
unfolding pieces joined
returns-in_err-task c =
    head_task _
    c.malformed.result c.behind-at.ensures c.word-read.ensures c.ok_or.ensures.value c.in_ok-practice.was
    c.malformed-2.result c.behind-at-2.ensures c.case-read.ensures c.ok_or-2.ensures.value c.in_ok-nutrient.was
    c.malformed-3.result c.behind-at-3.ensures c.case-read-2.ensures c.ok_or-3.ensures.value c.in_ok-mode.was
    c.malformed-4.result c.behind-at-4.ensures c.number-read.ensures c.ok_or-4.ensures.value c.in_ok-rate.was
    c.malformed-5.result c.behind-at-5.ensures c.case-read-3.ensures c.ok_or-5.ensures.value
    c.malformed-5.ensures c.in_err-task.was c.from_residual-in_err-task.ensures.1

pub returns-in_err-amount : goal.returns-in_err-amount
unfolding pieces joined
returns-in_err-amount c =
    head_amount _
    c.malformed.result c.behind-at.ensures c.word-read.ensures c.ok_or.ensures.value c.in_ok-practice.was
    c.malformed-2.result c.behind-at-2.ensures c.case-read.ensures c.ok_or-2.ensures.value c.in_ok-nutrient.was
    c.malformed-3.result c.behind-at-3.ensures c.case-read-2.ensures c.ok_or-3.ensures.value c.in_ok-mode.was
    c.malformed-4.result c.behind-at-4.ensures c.number-read.ensures c.ok_or-4.ensures.value c.in_ok-rate.was
    c.malformed-5.result c.behind-at-5.ensures c.case-read-3.ensures c.ok_or-5.ensures.value c.in_ok-task.was
    c.malformed-6.result c.behind-at-6.ensures c.number-read-2.ensures c.ok_or-6.ensures.value
    c.malformed-6.ensures c.in_err-amount.was c.from_residual-in_err-amount.ensures.1

pub returns : goal.returns
unfolding pieces joined
returns c =
    head_reads _
    c.malformed.result c.behind-at.ensures c.word-read.ensures c.ok_or.ensures.value c.in_ok-practice.was
    c.malformed-2.result c.behind-at-2.ensures c.case-read.ensures c.ok_or-2.ensures.value c.in_ok-nutrient.was
    c.malformed-3.result c.behind-at-3.ensures c.case-read-2.ensures c.ok_or-3.ensures.value c.in_ok-mode.was
    c.malformed-4.result c.behind-at-4.ensures c.number-read.ensures c.ok_or-4.ensures.value c.in_ok-rate.was
    c.malformed-5.result c.behind-at-5.ensures c.case-read-3.ensures c.ok_or-5.ensures.value c.in_ok-task.was
    c.malformed-6.result c.behind-at-6.ensures c.number-read-2.ensures c.ok_or-6.ensures.value c.in_ok-amount.was
