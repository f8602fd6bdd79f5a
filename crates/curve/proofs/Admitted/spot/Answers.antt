-- `curve::Admitted::spot` meets its contract: the held depth lies in its segment.
-- Assumes nothing.
use Rattle.curve.proofs.Parts.{in_segment}
use Rattle.curve.proofs.Answering.{is_ready}
use Rattle.curve.proofs.Admitted.spot.Goals as goal

pub held-x-requires : goal.held-x-requires
held-x-requires c = (is_ready c.args.self).rules.some_depths

pub invariant_of-result : goal.invariant_of-result
invariant_of-result c =
    let s = in_segment c.args.depth.0 (is_ready c.args.self).rules c.held-x.ensures c.segment.ensures in
    record { accepted = c.args.self.accepted; within = s.within; from = s.from; to = s.to }
