-- What the entries' definitions give, test by test: each answer is the one behind the tests that hold. Assumes nothing.
use mathlib.Core.Path.{◌≡◌, refl, ◌∙◌}
use mathlib.Core.Bool.{true, false}
use Prim.Native.Nat.{ℕ}
use Rattle.point.specs.Legal.{is_target, is_direction}
use Rattle.point.specs.Paper.{point, refusal, is_zero}
use Rattle.point.specs.declared.Point.{Point}
use Rattle.point.specs.declared.Direction.{Direction}
use Rattle.point.proofs.Cases.{when, unless}
use Rattle.conic.specs.Base.{legal, refused, judged_of}
use Rattle.conic.specs.Form.{G}
use Rattle.conic.specs.declared.conic.Conic.{Conic}
use Rattle.conic.proofs.Legal.{settle}
use Rattle.direction.specs.Direction.{point_from, direction_to, point_of, direction_of, direction, no_direction}

-- ---- direction to point

module _ (h : Conic) (p : Point) (t : Direction) where
  pub point_refused : {n : ℕ} → refused n ≡ judged_of h p → refusal n ≡ point_of h p t
  unfolding point_of
  point_refused e = settle refusal _ h p e refl

  pub point_no_direction : legal ≡ judged_of h p → is_direction t ≡ false → refusal 7 ≡ point_of h p t
  unfolding point_of
  point_no_direction e f = settle refusal _ h p e (unless _ _ f)

  pub point_reached : legal ≡ judged_of h p → is_direction t ≡ true → point (point_from h p t) ≡ point_of h p t
  unfolding point_of
  point_reached e f = settle refusal _ h p e (when _ _ f)

-- ---- point to direction

module _ (h : Conic) (p q : Point) where
  pub direction_refused : {n : ℕ} → refused n ≡ judged_of h p → no_direction n ≡ direction_of h p q
  unfolding direction_of
  direction_refused e = settle no_direction _ h p e refl

  pub direction_no_target : legal ≡ judged_of h p → is_target q ≡ false → no_direction 8 ≡ direction_of h p q
  unfolding direction_of
  direction_no_target e f = settle no_direction _ h p e (unless _ _ f)

  pub direction_target_off : legal ≡ judged_of h p → is_target q ≡ true → is_zero (G h q) ≡ false → no_direction 9 ≡ direction_of h p q
  unfolding direction_of
  direction_target_off e f off = settle no_direction _ h p e (unless _ _ off ∙ when _ _ f)

  pub direction_found : legal ≡ judged_of h p → is_target q ≡ true → is_zero (G h q) ≡ true → direction (direction_to h p q) ≡ direction_of h p q
  unfolding direction_of
  direction_found e f on = settle no_direction _ h p e (when _ _ on ∙ when _ _ f)
