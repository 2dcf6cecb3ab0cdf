-- The code of an exported function is −n, n ≥ 1, exactly if the library refuses by n: the code of any other answer is
-- not below 0. Assumes nothing.
use Rattle.std.proofs.Common.{arith}
use Rattle.book.specs.Refusals.{WriterRefusesExactly, ReaderRefusesExactly}
use Rattle.book.proofs.ReaderRefusals.{reader_refuses_exactly}
use Rattle.book.proofs.WriterRefusals.{writer_refuses_exactly}
use Rattle.row.specs.Row.{too_short}
use Rattle.conic_c.specs.Theorems.{ConicSolveRefuses, ConicPointRefuses, ConicDirectionRefuses, ConicRowRefuses, ConicBookWriteRefuses, ConicBookReadRefuses}

pub conic_solve_refuses : ConicSolveRefuses
unfolding ConicSolveRefuses
conic_solve_refuses h _ _ _ _ _ promise n least = (λ e. grind arith, λ e. grind arith)

pub conic_point_refuses : ConicPointRefuses
unfolding ConicPointRefuses
conic_point_refuses h p t _ _ _ promise n least = (λ e. grind arith, λ e. grind arith)

pub conic_direction_refuses : ConicDirectionRefuses
unfolding ConicDirectionRefuses
conic_direction_refuses h p q _ _ _ promise n least = (λ e. grind arith, λ e. grind arith)

pub conic_row_refuses : ConicRowRefuses
unfolding ConicRowRefuses too_short
conic_row_refuses text out _ _ promise n least = (λ e. grind arith, λ e. grind arith)

pub conic_book_write_refuses : ConicBookWriteRefuses
unfolding ConicBookWriteRefuses WriterRefusesExactly
conic_book_write_refuses list book _ _ promise n least =
    let exactly = writer_refuses_exactly list book n in (λ e. grind arith, λ e. grind arith)

pub conic_book_read_refuses : ConicBookReadRefuses
unfolding ConicBookReadRefuses ReaderRefusesExactly
conic_book_read_refuses book number _ _ _ _ _ _ _ promise n least =
    let exactly = reader_refuses_exactly book number n in (λ e. grind arith, λ e. grind arith)
