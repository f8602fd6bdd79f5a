-- `answer::granted_size` meets its contract: the keys and line ends of the lines, and the 0, are 54 bytes.
-- Assumes nothing.
use native.Mathlib.Omega.{arith}
use Rattle.answer.proofs.Texts.{granted_length}
use Rattle.answer.proofs.granted_size.Goals as goal

pub returns : goal.returns
returns c = let all = granted_length c.args.f in omega arith
