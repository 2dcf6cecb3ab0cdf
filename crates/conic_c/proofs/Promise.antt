-- Any two answers that a promise allows are equal, lent places included: both are what the definitions give. Assumes nothing.
use mathlib.Core.List.{List}
use mathlib.Core.Path.{◌≡◌}
use Prim.Native.Nat.{ℕ}
use lib.IntN.{ℤ}
use Rattle.point.specs.declared.Direction.{Direction}
use Rattle.point.specs.declared.Point.{Point}
use Rattle.conic.specs.declared.conic.Conic.{Conic}
use Rattle.conic_c.specs.Promises.{ConicSolve, ConicPoint, ConicDirection, ConicRow, ConicBookWrite, ConicBookRead}

pub conic_solve_determined :
    {h : Conic} {point point₁ point₂ : List ℤ} {prime prime₁ prime₂ : ℕ} {r₁ r₂ : ℤ} →
    ConicSolve h point prime r₁ point₁ prime₁ → ConicSolve h point prime r₂ point₂ prime₂ →
    (r₁ ≡ r₂) × (point₁ ≡ point₂) × (prime₁ ≡ prime₂)
conic_solve_determined m n = (cc, cc, cc)

pub conic_point_determined :
    {h : Conic} {p : Point} {t : Direction} {point point₁ point₂ : List ℤ} {r₁ r₂ : ℤ} →
    ConicPoint h p t point r₁ point₁ → ConicPoint h p t point r₂ point₂ → (r₁ ≡ r₂) × (point₁ ≡ point₂)
conic_point_determined m n = (cc, cc)

pub conic_direction_determined :
    {h : Conic} {p q : Point} {direction direction₁ direction₂ : List ℤ} {r₁ r₂ : ℤ} →
    ConicDirection h p q direction r₁ direction₁ → ConicDirection h p q direction r₂ direction₂ →
    (r₁ ≡ r₂) × (direction₁ ≡ direction₂)
conic_direction_determined m n = (cc, cc)

pub conic_row_determined :
    {text out out₁ out₂ : List ℕ} {r₁ r₂ : ℤ} → ConicRow text out r₁ out₁ → ConicRow text out r₂ out₂ →
    (r₁ ≡ r₂) × (out₁ ≡ out₂)
conic_row_determined m n = (cc, cc)

pub conic_book_write_determined :
    {list book book₁ book₂ : List ℕ} {r₁ r₂ : ℤ} → ConicBookWrite list book r₁ book₁ → ConicBookWrite list book r₂ book₂ →
    (r₁ ≡ r₂) × (book₁ ≡ book₂)
conic_book_write_determined m n = (cc, cc)

pub conic_book_read_determined :
    {book : List ℕ} {number : ℕ} {conic conic₁ conic₂ point point₁ point₂ : List ℤ} {prime prime₁ prime₂ : ℕ} {r₁ r₂ : ℤ} →
    ConicBookRead book number conic point prime r₁ conic₁ point₁ prime₁ →
    ConicBookRead book number conic point prime r₂ conic₂ point₂ prime₂ →
    (r₁ ≡ r₂) × (conic₁ ≡ conic₂) × (point₁ ≡ point₂) × (prime₁ ≡ prime₂)
conic_book_read_determined m n = (cc, cc, cc, cc)
