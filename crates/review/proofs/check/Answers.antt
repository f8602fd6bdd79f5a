-- `review::check` meets its contract: our text fits the buffer, and is what the claimed one is compared with.
-- Assumes nothing.
use mathlib.Core.Path.{sym, ◌∙◌, ap}
use lib.Dec.{lit≤}
use lib.Seq.{length-take-le}
use Rattle.answer.specs.Lines.{answer_text}
use Rattle.review.proofs.Comparing.{checked_as}
use Rattle.review.proofs.OurText.{ours_within, ours_taken}
use Rattle.review.proofs.check.Goals as goal

pub slice_bounds-ours-end : goal.slice_bounds-ours-end
slice_bounds-ours-end c =
    ours_within _ c.write.ensures.never_longer _ (lit≤ tt) c.write.ensures.value c.write.ensures.buf_after c.length_of-length.ensures

pub slice_bounds-compare-end : goal.slice_bounds-compare-end
slice_bounds-compare-end c =
    sym
    (length-take-le _ _
    (ours_within _ c.write.ensures.never_longer _ (lit≤ tt) c.write.ensures.value c.write.ensures.buf_after c.length_of-length.ensures))

pub returns : goal.returns
returns c =
    let ours = ours_taken _ c.write.ensures.never_longer _ (lit≤ tt) c.write.ensures.value c.write.ensures.buf_after c.length_of-length.ensures in
    checked_as _ _ c.compare.ensures (ours ∙ ap answer_text c.outcome-outcome.ensures)
