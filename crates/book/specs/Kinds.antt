-- The kinds of bodies, by the paper's numbers: 1 for a point, 2 for none by sign, 3 for none by a prime, 4 where Δ = 0.
-- Assumes nothing.
use Rattle.std.specs.Prelude.{◌≡◌, ℕ, ◌<◌, ◌⊎◌, Result, MatchResult}
use Rattle.point.specs.declared.paper.Refusal.{Refusal}
use Rattle.book.specs.declared.kind.Kind.{Kind}

abbrev pub kind_number : Kind → ℕ
kind_number Kind.Point = 1
kind_number Kind.Sign = 2
kind_number Kind.Prime = 3
kind_number Kind.Degenerate = 4

-- the kind of a number, or 12 where no kind has it
abbrev pub Decodes : ℕ → Result Kind Refusal → Type 0
Decodes n r = MatchResult r (λ kind. kind_number kind ≡ n) (λ e. (e ≡ Refusal.Layout) × ((n < 1) ⊎ (4 < n)))
