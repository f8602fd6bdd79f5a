use Rattle.std.proofs.Common.{rules, arith}
use Rattle.text.proofs.Reading.{room, made_not, made_next, made_all}
use Rattle.text.proofs.digits.Goals as goal

pub returns-then-not-is_ascii_digit : goal.returns-then-not-is_ascii_digit
returns-then-not-is_ascii_digit c = search (made_not, rules)

pub overflow_mul-v : goal.overflow_mul-v
overflow_mul-v c = omega (arith, room c.args.s.now c.loop-x.invariant (search rules) (search rules))

pub overflow_add-v : goal.overflow_add-v
overflow_add-v c = omega (arith, room c.args.s.now c.loop-x.invariant (search rules) (search rules))

pub loop-x-preserved : goal.loop-x-preserved
loop-x-preserved c = made_next c.loop-x.invariant (search rules) (cc) (search rules)

pub returns : goal.returns
returns c = search (made_all, rules)
