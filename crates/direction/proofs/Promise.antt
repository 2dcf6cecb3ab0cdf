-- The promises of the two entries determine their answers, which can be told from what they stand for in the paper. A
-- direction leads to a point or is refused: the tests give nothing else. Assumes nothing.
use mathlib.Core.Bool.{Bool, true, false, cond}
use mathlib.Core.Path.{◌≡◌, refl, sym, ap, ◌∙◌}
use Prim.Native.Nat.{ℕ}
use native.Mathlib.Omega.{arith}
use Rattle.std.specs.Prelude.{Result, Ok, Err}
use Rattle.point.specs.Legal.{is_base, is_direction}
use Rattle.point.specs.Paper.{Verdict, point, none_by_sign, none_by_prime, refusal, is_zero}
use Rattle.point.specs.declared.paper.Refusal.{Refusal}
use Rattle.point.specs.declared.Point.{Point}
use Rattle.point.specs.declared.Direction.{Direction}
use Rattle.point.proofs.Promise.{told_apart, numbered, numbered_number}
use Rattle.conic.specs.Base.{in_range, from_base}
use Rattle.conic.specs.Form.{G, Δ}
use Rattle.conic.specs.declared.conic.Conic.{Conic}
use Rattle.direction.specs.Direction.{PointPromise, DirectionPromise, Bearing, direction, no_direction, reached, directed, point_from, point_of}

-- ---- answers

-- a none is no answer of this step
abbrev to_reached : Verdict → Result Point Refusal
to_reached (point p) = Ok p
to_reached none_by_sign = Err Refusal.Range
to_reached (none_by_prime l) = Err Refusal.Range
to_reached (refusal n) = Err (numbered n)

reached_back : (r : Result Point Refusal) → to_reached (reached r) ≡ r
reached_back (Ok p) = refl
reached_back (Err r) = ap Err (numbered_number r)

abbrev to_directed : Bearing → Result Direction Refusal
to_directed (direction t) = Ok t
to_directed (no_direction n) = Err (numbered n)

directed_back : (r : Result Direction Refusal) → to_directed (directed r) ≡ r
directed_back (Ok t) = refl
directed_back (Err r) = ap Err (numbered_number r)

-- ---- two answers that a promise allows are equal

pub point_determined :
    {h : Conic} {p : Point} {t : Direction} {r r' : Result Point Refusal} → PointPromise h p t r → PointPromise h p t r' → r ≡ r'
point_determined {r = r} {r' = r'} a b = told_apart reached to_reached reached_back r r' (a.as_defined ∙ sym b.as_defined)

pub direction_determined :
    {h : Conic} {p q : Point} {r r' : Result Direction Refusal} → DirectionPromise h p q r → DirectionPromise h p q r' → r ≡ r'
direction_determined {r = r} {r' = r'} a b = told_apart directed to_directed directed_back r r' (a.as_defined ∙ sym b.as_defined)

-- ---- a direction leads to a point or is refused

data Plain : Verdict → Type 0 where
  plain_point : (p : Point) → Plain (point p)
  plain_refusal : (n : ℕ) → Plain (refusal n)

one_of : (t : Bool) {v w : Verdict} → Plain v → Plain w → Plain (cond t v w)
one_of true v w = v
one_of false v w = w

no_sign : {v : Verdict} → Plain v → ¬ (v ≡ none_by_sign)
no_sign (plain_point p) e = let z : ◌≡◌ {A = ℕ} 0 1 = cc in omega arith
no_sign (plain_refusal n) e = let z : ◌≡◌ {A = ℕ} 0 1 = cc in omega arith

no_prime : {v : Verdict} (l : ℕ) → Plain v → ¬ (v ≡ none_by_prime l)
no_prime l (plain_point p) e = let z : ◌≡◌ {A = ℕ} 0 1 = cc in omega arith
no_prime l (plain_refusal n) e = let z : ◌≡◌ {A = ℕ} 0 1 = cc in omega arith

pub point_is_no_none :
    (h : Conic) (p : Point) (t : Direction) → (¬ (point_of h p t ≡ none_by_sign)) × ((l : ℕ) → ¬ (point_of h p t ≡ none_by_prime l))
unfolding point_of from_base
point_is_no_none h p t =
    let plain : Plain (point_of h p t) =
    one_of (in_range h)
    (one_of (is_zero (Δ h)) (plain_refusal 2)
    (one_of (is_base p)
    (one_of (is_zero (G h p)) (one_of (is_direction t) (plain_point (point_from h p t)) (plain_refusal 7)) (plain_refusal 6))
    (plain_refusal 5)))
    (plain_refusal 1) in
    (no_sign plain, λ l. no_prime l plain)
