-- `credit::Survey::figures` meets its contract: within the limits the removed load is never refused.
-- Assumes nothing.
use Rattle.credit.proofs.Working.{figures_told, never_refused}
use Rattle.credit.proofs.Survey.figures.Goals as goal

pub unreachable-requires : goal.unreachable-requires
unreachable-requires c = never_refused _ _ _ _ (c.args.self.fits, c.requires) c.removed.ensures c.in-Err.is

pub returns : goal.returns
returns c = figures_told c.args.self.load c.args.depth c.args.percent c.args.basis c.args.volume _ _ (c.args.self.fits, c.requires) c.removed.ensures c.in-Ok.is
