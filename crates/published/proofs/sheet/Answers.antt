-- `published::sheet` meets its contract: the table is the definition's, and a practice above 8 or without a column has none.
-- Assumes nothing.
use Rattle.published.proofs.Sheets.{refused_above, refused_where_none, given_where_some}
use Rattle.published.proofs.sheet.Goals as goal
use Rattle.published.proofs.sheet.Goals.{then-practice-le-LAST_PRACTICE+else-not-is_empty, else-practice-le-LAST_PRACTICE}

pub returns-then-not-is_empty : goal.returns-then-not-is_empty
returns-then-not-is_empty c =
    given_where_some _ _ c.if-practice-le-LAST_PRACTICE.true _ c.table.ensures _ c.is_empty.ensures c.if-not-is_empty.true

pub returns : goal.returns
returns c =
    elim c.if-practice-le-LAST_PRACTICE.branch [
      | then-practice-le-LAST_PRACTICE+else-not-is_empty w ↦
          refused_where_none _ _ w.if-practice-le-LAST_PRACTICE.true _ w.table.ensures _ w.is_empty.ensures w.if-not-is_empty.false
      | else-practice-le-LAST_PRACTICE w ↦ refused_above _ _ w.if-practice-le-LAST_PRACTICE.false
    ]
