-- `answer::write` meets its contract: that the text fits is settled before anything is put.
-- Assumes nothing.
use borrow.Author.Rules.{rules}
use Rattle.writing.proofs.Writing.{short_told, long_told, refused_answer, refused_buffer, granted_put}
use Rattle.answer.proofs.write.Goals as goal

pub returns-then-too_short : goal.returns-then-too_short
returns-then-too_short c = record { value = search (refused_answer, short_told, rules); buf_after = search (refused_buffer, short_told, rules); wide = c.too_short.ensures.wide; never_longer = c.too_short.ensures.never_longer }

pub returns : goal.returns
returns c = record { value = search (granted_put, long_told, rules); buf_after = search rules; wide = c.too_short.ensures.wide; never_longer = c.too_short.ensures.never_longer }
