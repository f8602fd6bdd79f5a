-- `writing::put_number` meets its contract: the part that is lent on is as long as the digits, and holds them afterwards.
-- Assumes nothing.
use borrow.Author.Rules.{rules}
use Rattle.writing.proofs.Writing.{refused_length, refused_buffer, no_part, part_long, part_fits_lem, part_length, part_buffer}
use Rattle.writing.proofs.put_number.Goals as goal

pub returns-then-buf-digits : goal.returns-then-buf-digits
returns-then-buf-digits c = record { value = search (refused_length, no_part, rules); buf_after = search (refused_buffer, no_part, rules) }

pub slice_bounds-fill-end-2 : goal.slice_bounds-fill-end-2
slice_bounds-fill-end-2 c = search (part_long, rules)

pub fill-requires : goal.fill-requires
fill-requires c = search (part_fits_lem, rules)

pub returns : goal.returns
returns c = record { value = search (part_length, rules); buf_after = search (part_buffer, rules) }
