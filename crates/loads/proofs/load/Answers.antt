-- `loads::load` meets its contract: the table that is lent is the permit's.
-- Assumes nothing.
use Prim.Native.Nat.{ℕ}
use mathlib.Core.List.{List}
use mathlib.Core.Path.{◌∙◌, ap}
use Rattle.loads.specs.Loads.{load_under}
use Rattle.loads.proofs.load.Goals as goal

pub returns : goal.returns
returns c =
    c.load_under.ensures
    ∙ ap (λ (rates : List ℕ). load_under rates c.args.site) c.rates-table.ensures
