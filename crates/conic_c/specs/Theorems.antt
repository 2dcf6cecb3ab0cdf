-- The codes of refusals: the code is −n, n ≥ 1, exactly if the library refuses by n, so that no other code is below 0.
-- It is the code of each function's promise, whatever the lent places hold. Assumes nothing.
use Rattle.std.specs.Prelude.{List, ◌↔◌, ◌≡◌, ℕ, ◌<◌, ◌≤◌, ℤ, pos, neg_ℤ, length}
use Rattle.point.specs.Paper.{refusal}
use Rattle.point.specs.declared.Point.{Point}
use Rattle.point.specs.declared.Direction.{Direction}
use Rattle.conic.specs.declared.conic.Conic.{Conic}
use Rattle.solve.specs.Solve.{solve_of}
use Rattle.direction.specs.Direction.{no_direction, point_of, direction_of}
use Rattle.row.specs.Row.{buffer_limit}
use Rattle.book.specs.Refusals.{WriterCause, ReaderCause}
use Rattle.conic_c.specs.Promises.{ConicSolve, ConicPoint, ConicDirection, ConicRow, ConicBookWrite, ConicBookRead}

-- a code is −n exactly for the cause of n
abbrev pub RefusedFor : ℤ → (ℕ → Type 0) → Type 0
RefusedFor r Cause = (n : ℕ) → 1 ≤ n → r ≡ neg_ℤ (pos n) ↔ Cause n

unfoldable pub ConicSolveRefuses : Type 0
ConicSolveRefuses =
    (h : Conic) (point point' : List ℤ) (prime prime' : ℕ) (r : ℤ) → ConicSolve h point prime r point' prime' →
    RefusedFor r (λ n. solve_of h ≡ refusal n)

unfoldable pub ConicPointRefuses : Type 0
ConicPointRefuses =
    (h : Conic) (p : Point) (t : Direction) (point point' : List ℤ) (r : ℤ) → ConicPoint h p t point r point' →
    RefusedFor r (λ n. point_of h p t ≡ refusal n)

unfoldable pub ConicDirectionRefuses : Type 0
ConicDirectionRefuses =
    (h : Conic) (p q : Point) (direction direction' : List ℤ) (r : ℤ) → ConicDirection h p q direction r direction' →
    RefusedFor r (λ n. direction_of h p q ≡ no_direction n)

unfoldable pub ConicRowRefuses : Type 0
ConicRowRefuses =
    (text out out' : List ℕ) (r : ℤ) → ConicRow text out r out' →
    RefusedFor r (λ n. (n ≡ 11) × (length out < buffer_limit))

unfoldable pub ConicBookWriteRefuses : Type 0
ConicBookWriteRefuses =
    (list book book' : List ℕ) (r : ℤ) → ConicBookWrite list book r book' → RefusedFor r (WriterCause list book)

unfoldable pub ConicBookReadRefuses : Type 0
ConicBookReadRefuses =
    (book : List ℕ) (number : ℕ) (conic conic' point point' : List ℤ) (prime prime' : ℕ) (r : ℤ) →
    ConicBookRead book number conic point prime r conic' point' prime' → RefusedFor r (ReaderCause book number)
