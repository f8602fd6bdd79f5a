-- `curve::Admitted::percent_at` meets its contract: the fraction's denominator is not 0.
-- Assumes nothing.
use Rattle.curve.proofs.Rising.{divided}
use Rattle.curve.proofs.Answering.{is_ready}
use Rattle.curve.proofs.Admitted.percent_at.Goals as goal

pub nonzero_div-result : goal.nonzero_div-result
nonzero_div-result c = divided (is_ready c.args.self) _ c.exact_at-f.ensures
