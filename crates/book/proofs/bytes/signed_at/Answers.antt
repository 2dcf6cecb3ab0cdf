-- `book::bytes::signed_at` meets its contract: four bytes have a range of 32 bits. Assumes nothing.
use native.Mathlib.Omega.{arith}
use Rattle.book.proofs.LittleEndian.{range_within}
use Rattle.book.proofs.bytes.signed_at.Goals as goal

pub pow-requires : goal.pow-requires
pow-requires g c = omega (arith, range_within c.requires.1)

pub signed_below-requires : goal.signed_below-requires
signed_below-requires g c = (omega arith, omega (arith, range_within c.requires.1))
