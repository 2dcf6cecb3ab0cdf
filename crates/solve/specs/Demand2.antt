-- Demand 2, as statements about the definition of solve, for every non-degenerate conic in range: a point exactly if some pair of
-- rationals satisfies the equation, and the paper's point; otherwise none, with its true reason. Assumes nothing.
use Rattle.std.specs.Prelude.{◌≡◌, ◌⊎◌, ◌↔◌, ℕ, ◌*◌, ◌≤◌, T, ℤ, pos, neg_ℤ, nat_abs, ◌-ℤ◌, ◌*ℤ◌, ◌<ℤ◌}
use Rattle.number.specs.Gcd.{gcd_of}
use Rattle.number.specs.Squarefree.{Squarefree}
use Rattle.legendre.specs.Answer.{Chosen, LeastFailing}
use Rattle.legendre.specs.Equation.{Levelled, Positive}
use Rattle.legendre.specs.declared.outcome.Triple.{Triple}
use Rattle.point.specs.Normal.{normal, NormalForm}
use Rattle.point.specs.Paper.{point, none_by_sign, none_by_prime, refusal, point_limit}
use Rattle.point.specs.declared.Point.{Point}
use Rattle.conic.specs.Form.{G, L, D, Δ, drawn}
use Rattle.conic.specs.Base.{in_range, LegalBase}
use Rattle.conic.specs.declared.conic.Conic.{Conic}
use Rattle.solve.specs.Level.{carried_back}
use Rattle.solve.specs.Solve.{first_line, second_line, third_line, solve_of}

pub record NonDegenerate (h : Conic) : Type 0 where
  pub in_range : T (in_range h)
  pub not_zero : ¬ (Δ h ≡ pos 0)

-- some pair of rationals satisfies the equation
pub record HasPoint (h : Conic) : Type 0 where
  pub at : Point
  pub in_plane : pos 0 <ℤ at.z
  pub on : G h at ≡ pos 0

-- 1. a point exactly if some pair of rationals satisfies the equation
unfoldable pub PointExactly : Type 0
PointExactly = (h : Conic) → NonDegenerate h → ((p : Point) × (solve_of h ≡ point p)) ↔ HasPoint h

pub record RightPoint (h : Conic) (p : Point) : Type 0 where
  pub on : G h p ≡ pos 0
  pub normal_form : NormalForm p
  pub in_plane : pos 0 <ℤ p.z
  pub x_within : nat_abs p.x ≤ point_limit
  pub y_within : nat_abs p.y ≤ point_limit
  pub z_within : nat_abs p.z ≤ point_limit

-- 2. the point is on the conic, in normal form with z > 0, and within the paper's size
unfoldable pub PointIsRight : Type 0
PointIsRight = (h : Conic) (p : Point) → NonDegenerate h → solve_of h ≡ point p → RightPoint h p

-- G is never 0 and has one and the same sign at all whole triples not all 0
abbrev pub OneSignEverywhere : Conic → Type 0
OneSignEverywhere h =
    ((p : Point) → ¬ ((p.x ≡ pos 0) × (p.y ≡ pos 0) × (p.z ≡ pos 0)) → pos 0 <ℤ G h p) ⊎
    ((p : Point) → ¬ ((p.x ≡ pos 0) × (p.y ≡ pos 0) × (p.z ≡ pos 0)) → G h p <ℤ pos 0)

-- 3. none by sign exactly if there is no real point
unfoldable pub SignExactly : Type 0
SignExactly = (h : Conic) → NonDegenerate h → solve_of h ≡ none_by_sign ↔ OneSignEverywhere h

-- D = d₁s², aΔ = e₁t² with d₁, e₁ squarefree and s, t ≥ 1; g = gcd(d₁, e₁), p = d₁/g, q = e₁/g
pub record LevelledBy (h : Conic) (d₁ e₁ : ℤ) (s t : ℕ) (p g q : ℤ) : Type 0 where
  pub squarefree_d₁ : Squarefree d₁
  pub squarefree_e₁ : Squarefree e₁
  pub s_positive : 1 ≤ s
  pub t_positive : 1 ≤ t
  pub D-split : D h ≡ d₁ *ℤ pos (s * s)
  pub aΔ_split : h.a *ℤ Δ h ≡ e₁ *ℤ pos (t * t)
  pub g_is_gcd : g ≡ pos (gcd_of (nat_abs d₁) (nat_abs e₁))
  pub p_quotient : d₁ ≡ p *ℤ g
  pub q_quotient : e₁ ≡ q *ℤ g

-- 4. none by a prime: not sign, and the least prime at which Legendre's condition fails, however the numbers are split
unfoldable pub PrimeIsTrue : Type 0
PrimeIsTrue =
    (h : Conic) (l : ℕ) → NonDegenerate h → solve_of h ≡ none_by_prime l →
    (¬ OneSignEverywhere h) ×
    ((d₁ e₁ : ℤ) (s t : ℕ) (p g q : ℤ) → LevelledBy h d₁ e₁ s t p g q → LeastFailing p g q l)

-- −D is a square
abbrev pub SquareDiscriminant : Conic → Type 0
SquareDiscriminant h = (r : ℤ) × (neg_ℤ (D h) ≡ r *ℤ r)

-- 5. where −D is a square there is always a point
unfoldable pub SquareHasPoint : Type 0
SquareHasPoint = (h : Conic) → NonDegenerate h → SquareDiscriminant h → (p : Point) × (solve_of h ≡ point p)

-- S: (1, 0, 0) if a = 0, else (r − b, 2a, 0)
pub data StartsAt (h : Conic) (r : ℕ) : Point → Type 0 where
  where_a_is_zero : h.a ≡ pos 0 → StartsAt h r (record { x = pos 1; y = pos 0; z = pos 0 })
  where_a_is_not : ¬ (h.a ≡ pos 0) → StartsAt h r (record { x = pos r -ℤ h.b; y = pos 2 *ℤ h.a; z = pos 0 })

-- T: the first of the three trial lines with L(S, T) not 0
pub data LeadsFirst (h : Conic) (s : Point) : Point → Type 0 where
  the_first : ¬ (L h s first_line ≡ pos 0) → LeadsFirst h s first_line
  the_second : L h s first_line ≡ pos 0 → ¬ (L h s second_line ≡ pos 0) → LeadsFirst h s second_line
  the_third : L h s first_line ≡ pos 0 → L h s second_line ≡ pos 0 → ¬ (L h s third_line ≡ pos 0) → LeadsFirst h s third_line

-- 6. it is the second point of the line from S along T
unfoldable pub SquareIsChosen : Type 0
SquareIsChosen =
    (h : Conic) (r : ℕ) → NonDegenerate h → neg_ℤ (D h) ≡ pos (r * r) →
    (s : Point) × (t : Point) × StartsAt h r s × LeadsFirst h s t × (solve_of h ≡ point (normal (drawn h s t)))

-- 7. otherwise D and aΔ can be split
unfoldable pub LevelExists : Type 0
LevelExists =
    (h : Conic) → NonDegenerate h → ¬ SquareDiscriminant h →
    (d₁ : ℤ) × (e₁ : ℤ) × (s : ℕ) × (t : ℕ) × (p : ℤ) × (g : ℤ) × (q : ℤ) × LevelledBy h d₁ e₁ s t p g q

-- 8. and a point is carried back from the levelled solution with the least W, then the least X, of all that lie in the box
unfoldable pub PointIsChosen : Type 0
PointIsChosen =
    (h : Conic) (at : Point) → NonDegenerate h → ¬ SquareDiscriminant h → solve_of h ≡ point at →
    (d₁ e₁ : ℤ) (s t : ℕ) (p g q : ℤ) → LevelledBy h d₁ e₁ s t p g q →
    (m : Triple) × Chosen p g q m × (at ≡ carried_back h (record { p = p; g = g; q = q; s = pos s; t = pos t }) m)

-- 9. it is not refused
unfoldable pub NeverRefused : Type 0
NeverRefused = (h : Conic) (n : ℕ) → NonDegenerate h → ¬ (solve_of h ≡ refusal n)

-- 10. so demand 3 goes on from it: whatever the conic, a point that is given is a legal base on it
unfoldable pub PointIsLegalBase : Type 0
PointIsLegalBase = (h : Conic) (p : Point) → solve_of h ≡ point p → LegalBase h p

-- 11. however D and aΔ are split, p, g and q are squarefree and pairwise without common factor, and g > 0
unfoldable pub SplitIsLevelled : Type 0
SplitIsLevelled =
    (h : Conic) (d₁ e₁ : ℤ) (s t : ℕ) (p g q : ℤ) → LevelledBy h d₁ e₁ s t p g q → Levelled p g q × Positive g

-- 12. none by sign exactly if p and q are both positive
unfoldable pub SignByLevel : Type 0
SignByLevel =
    (h : Conic) (d₁ e₁ : ℤ) (s t : ℕ) (p g q : ℤ) → NonDegenerate h → LevelledBy h d₁ e₁ s t p g q →
    solve_of h ≡ none_by_sign ↔ (Positive p × Positive q)

-- 13. none by a prime exactly if they are not, and it is the least prime at which Legendre's condition fails
unfoldable pub PrimeByLevel : Type 0
PrimeByLevel =
    (h : Conic) (l : ℕ) (d₁ e₁ : ℤ) (s t : ℕ) (p g q : ℤ) → NonDegenerate h → LevelledBy h d₁ e₁ s t p g q →
    solve_of h ≡ none_by_prime l ↔ ((¬ (Positive p × Positive q)) × LeastFailing p g q l)
