-- `message_rows::parse_at` is safe: the geometry and the page are within the decoder's range.
use Rattle.meaning.specs.Flash.{block_size}
use Rattle.std.proofs.Common.{arith}
use Rattle.message_rows.proofs.parse_at.Goals as goal

pub parse-requires : goal.parse-requires
unfolding block_size
parse-requires c = record { block = omega arith; short = omega arith; low = omega arith; early = omega arith }
