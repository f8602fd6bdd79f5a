-- `volume::gather` meets its contract: a record that is judged fine has its six areas, and a refused one none.
-- Assumes nothing.
use borrow.Author.Rules.{rules}
use Rattle.volume.proofs.Answered.{fine_known, gather_granted, gather_refused}
use Rattle.volume.proofs.gather.Goals as goal

pub six_areas-requires : goal.six_areas-requires
six_areas-requires c = search (fine_known, rules)

pub returns-in-Ok : goal.returns-in-Ok
returns-in-Ok c = search (gather_granted, rules)

pub returns-in-Err : goal.returns-in-Err
returns-in-Err c = search (gather_refused, rules)
