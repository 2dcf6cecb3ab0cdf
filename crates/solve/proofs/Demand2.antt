-- Demand 2. Where −D is a square the point comes from infinity; elsewhere a point of the conic gives a solution of the levelled equation
-- and a solution gives a point, so what is known of that equation's answer is known of solve's. Assumes nothing.
use mathlib.Core.Path.{◌≡◌, refl, sym, ap, subst, ◌∙◌}
use mathlib.Core.Bool.{Bool, true, false, true≢false, cond}
use mathlib.Core.Logic.{◌≢◌, ◌⊎◌, inl, inr}
use Prim.Native.Nat.{ℕ, zero, suc}
use lib.IntN.{ℤ, pos, negsuc, neg_ℤ, *ℤ-zero, ◌*ℤ◌}
use lib.Signed.{◌<ℤ◌}
use Rattle.whole.proofs.Order.{≢-of-<ℤ}
use Rattle.number.proofs.Least.{true_of_T, true_or_false, not_true_of_false}
use Rattle.std.specs.Prelude.{Result, Ok, Err}
use Rattle.legendre.specs.Answer
use Rattle.legendre.specs.Answer.{Chosen, LeastFailing}
use Rattle.legendre.specs.Equation.{BoxSolution}
use Rattle.legendre.specs.Outcome.{outcome_of}
use Rattle.legendre.specs.declared.outcome.Triple.{Triple}
use Rattle.legendre.specs.declared.outcome.Reason.{Reason}
use Rattle.legendre.proofs.Answer as Legendre
use Rattle.point.specs.Normal.{or_else, leading, normal}
use Rattle.point.specs.Paper.{point_limit, Verdict, point, none_by_sign, none_by_prime, refusal, is_zero}
use Rattle.point.specs.Sizes.{PointWithin}
use Rattle.point.specs.declared.Point.{Point}
use Rattle.point.proofs.Normal.{signed_factor, factor_times_normal, normal_is_normal_form}
use Rattle.point.proofs.Limits.{normal_within_lem}
use Rattle.point.proofs.Tests.{is_zero_not}
use Rattle.point.proofs.Vector.{Zero}
use Rattle.conic.specs.Form.{G, D, Δ, drawn}
use Rattle.conic.specs.Base.{in_range}
use Rattle.conic.specs.Sizes.{InLimit}
use Rattle.conic.specs.declared.conic.Conic.{Conic}
use Rattle.conic.proofs.Drawn.{drawn_on}
use Rattle.conic.proofs.Form.{normal_on_iff}
use Rattle.conic.proofs.Sizes.{in_limit}
use Rattle.solve.specs.Demand2.{NonDegenerate, HasPoint, PointExactly, RightPoint, PointIsRight, OneSignEverywhere, SignExactly, LevelledBy, PrimeIsTrue, SquareDiscriminant, SquareHasPoint, SquareIsChosen, LevelExists, PointIsChosen}
use Rattle.solve.specs.Level.{level_of, primed, from_primed, carried_back}
use Rattle.solve.specs.Solve.{is_square_number, start_at_infinity, trial_line, from_infinity, outcome_carried, solve_levelled, solve_non_degenerate, solve_of}
use Rattle.solve.proofs.Infinity.{is_square_iff, AtInfinity, start, starts, Trial, trial, drawn_z, start_within, drawn_within}
use Rattle.solve.proofs.Levelling.{levellable, levelled_by_own, level, level_unique, levelled, down, up, w_not_zero, z_not_zero}
use Rattle.solve.proofs.Sign.{not_square, sign_iff}
use Rattle.solve.proofs.Sizes.{primed_within, from_primed_within}

-- ---- the two ways of solve

data Way (h : Conic) : Type 0 where
  from_square : SquareDiscriminant h → solve_of h ≡ point (from_infinity h) → Way h
  by_level : ¬ SquareDiscriminant h → solve_of h ≡ solve_levelled h → Way h

not_refused : (h : Conic) → NonDegenerate h → solve_of h ≡ solve_non_degenerate h
unfolding solve_of
not_refused h ok =
    ap (λ b. cond b (cond (is_zero (Δ h)) (refusal 2) (solve_non_degenerate h)) (refusal 1)) (true_of_T (in_range h) ok.in_range)
    ∙ ap (λ b. cond b (refusal 2) (solve_non_degenerate h)) (is_zero_not {n = Δ h} ok.not_zero)

way : (h : Conic) → NonDegenerate h → Way h
unfolding solve_non_degenerate
way h ok = by (true_or_false (is_square_number (neg_ℤ (D h))))
  where
    chosen : {b : Bool} → is_square_number (neg_ℤ (D h)) ≡ b → solve_of h ≡ cond b (point (from_infinity h)) (solve_levelled h)
    chosen e = not_refused h ok ∙ ap (λ b. cond b (point (from_infinity h)) (solve_levelled h)) e

    by : (is_square_number (neg_ℤ (D h)) ≡ true) ⊎ (is_square_number (neg_ℤ (D h)) ≡ false) → Way h
    by (inl t) = from_square ((is_square_iff (neg_ℤ (D h))).0 t) (chosen t)
    by (inr f) = by_level (λ square. not_true_of_false f ((is_square_iff (neg_ℤ (D h))).1 square)) (chosen f)

-- ---- verdicts are told apart

abbrev pub is_point : Verdict → Bool
is_point (point p) = true
is_point none_by_sign = false
is_point (none_by_prime l) = false
is_point (refusal n) = false

abbrev is_sign : Verdict → Bool
is_sign (point p) = false
is_sign none_by_sign = true
is_sign (none_by_prime l) = false
is_sign (refusal n) = false

abbrev point_or : Point → Verdict → Point
point_or p (point q) = q
point_or p none_by_sign = p
point_or p (none_by_prime l) = p
point_or p (refusal n) = p

abbrev prime_or : ℕ → Verdict → ℕ
prime_or n (point q) = n
prime_or n none_by_sign = n
prime_or n (none_by_prime l) = l
prime_or n (refusal m) = n

carried_sign : (h : Conic) (o : Result Triple Reason) → outcome_carried h o ≡ none_by_sign → o ≡ Err Reason.Sign
unfolding outcome_carried
carried_sign h (Ok m) e = absurd (true≢false (sym (ap is_sign e)))
carried_sign h (Err Reason.Sign) e = refl
carried_sign h (Err (Reason.Prime l)) e = absurd (true≢false (sym (ap is_sign e)))

carried_prime : (h : Conic) (o : Result Triple Reason) {l : ℕ} → outcome_carried h o ≡ none_by_prime l → o ≡ Err (Reason.Prime l)
unfolding outcome_carried
carried_prime h (Ok m) e = absurd (true≢false (ap is_point e))
carried_prime h (Err Reason.Sign) e = absurd (true≢false (ap is_sign e))
carried_prime h (Err (Reason.Prime l)) e = ap (λ (l : ℕ). Err (Reason.Prime l)) (ap (prime_or 0) e)

carried_point : (h : Conic) (o : Result Triple Reason) {p : Point} → outcome_carried h o ≡ point p →
    (m : Triple) × (o ≡ Ok m) × (p ≡ carried_back h (level_of h) m)
unfolding outcome_carried
carried_point h (Ok m) {p} e = (m, refl, sym (ap (point_or p) e))
carried_point h (Err Reason.Sign) e = absurd (true≢false (sym (ap is_point e)))
carried_point h (Err (Reason.Prime l)) e = absurd (true≢false (sym (ap is_point e)))

-- ---- the point that solve gives

positive_first : (m n : ℤ) → m ≢ pos 0 → pos 0 <ℤ or_else m n → pos 0 <ℤ m
unfolding or_else
positive_first (pos zero) n m≢0 l = absurd (m≢0 refl)
positive_first (pos (suc m)) n m≢0 l = l
positive_first (negsuc m) n m≢0 l = l

right_point : (h : Conic) (p : Point) → G h p ≡ pos 0 → p.z ≢ pos 0 → PointWithin point_limit p → RightPoint h (normal p)
unfolding leading
right_point h p on z≢0 small =
    record {
      on = (normal_on_iff h p≢0).0 on;
      normal_form = normal_is_normal_form p≢0;
      in_plane = positive_first (normal p).z (or_else (normal p).x (normal p).y) normal_z≢0 (normal_is_normal_form p≢0).positive;
      x_within = (normal_within_lem p small).x_within;
      y_within = (normal_within_lem p small).y_within;
      z_within = (normal_within_lem p small).z_within;
    }
  where
    p≢0 : ¬ Zero p
    p≢0 zeros = z≢0 zeros.2

    normal_z≢0 : (normal p).z ≢ pos 0
    normal_z≢0 e =
        z≢0 (sym (ap (λ v. v.z) (factor_times_normal p)) ∙ ap (λ n. signed_factor p *ℤ n) e ∙ *ℤ-zero (signed_factor p))

from_infinity_right : (h : Conic) → NonDegenerate h → SquareDiscriminant h → RightPoint h (from_infinity h)
unfolding from_infinity
from_infinity_right h ok square =
    right_point h (drawn h s t) (drawn_on h s t far.on) (drawn_z h far line) (drawn_within h small (start_within h small) line)
  where
    s : Point
    s = start_at_infinity h

    t : Point
    t = trial_line h s

    far : AtInfinity h s
    far = start h square

    line : Trial h s t
    line = trial h s ok.not_zero far.not_zero

    small : InLimit h
    small = in_limit h ok.in_range

-- ---- however D and aΔ are split

module _ {h : Conic} {d₁ e₁ : ℤ} {s t : ℕ} {p g q : ℤ} (v : LevelledBy h d₁ e₁ s t p g q) (ok : NonDegenerate h) (plain : ¬ SquareDiscriminant h) where
  solved_as : solve_of h ≡ outcome_carried h (outcome_of p g q)
  unfolding solve_levelled
  solved_as = by (way h ok)
    where
      by : Way h → solve_of h ≡ outcome_carried h (outcome_of p g q)
      by (from_square square e) = absurd (plain square)
      by (by_level no_square e) = e ∙ ap (λ w. outcome_carried h (outcome_of w.p w.g w.q)) (level_unique v)

  chosen_and_carried : {at : Point} → solve_of h ≡ point at → (m : Triple) × Chosen p g q m × (at ≡ carried_back h (level v) m)
  unfolding Answer.SolutionIsChosen
  chosen_and_carried e =
      let (m, o, back) = carried_point h (outcome_of p g q) (sym solved_as ∙ e) in
      (m, Legendre.solution_is_chosen p g q m (levelled v) o, back ∙ ap (λ w. carried_back h w m) (level_unique v))

  least_failing_lem : {l : ℕ} → solve_of h ≡ none_by_prime l → LeastFailing p g q l
  unfolding Answer.PrimeIsLeastFailing
  least_failing_lem {l} e = Legendre.prime_is_least_failing p g q l (carried_prime h (outcome_of p g q) (sym solved_as ∙ e))

  carried_right : (m : Triple) → BoxSolution p g q m.x m.y m.w → RightPoint h (carried_back h (level v) m)
  unfolding carried_back
  carried_right m box =
      right_point h (from_primed h (primed (level v) m)) (up v m box.solution.equation)
      (z_not_zero v m (levellable ok.not_zero plain) (w_not_zero v plain box.solution))
      (from_primed_within h (primed (level v) m) small (primed_within v small box))
    where
      small : InLimit h
      small = in_limit h ok.in_range

-- ---- the statements

pub square_has_point : SquareHasPoint
unfolding SquareHasPoint
square_has_point h ok square = by (way h ok)
  where
    by : Way h → (p : Point) × (solve_of h ≡ point p)
    by (from_square r e) = (from_infinity h, e)
    by (by_level plain e) = absurd (plain square)

pub square_is_chosen : SquareIsChosen
unfolding SquareIsChosen from_infinity
square_is_chosen h r ok e = (
  start_at_infinity h,
  trial_line h (start_at_infinity h),
  starts h r e,
  (trial h (start_at_infinity h) ok.not_zero (start h square).not_zero).leads,
  by (way h ok),
)
  where
    square : SquareDiscriminant h
    square = (pos r, e)

    by : Way h → solve_of h ≡ point (from_infinity h)
    by (from_square _ given) = given
    by (by_level plain _) = absurd (plain square)

pub level_exists : LevelExists
unfolding LevelExists
level_exists h ok plain = (_, _, _, _, _, _, _, levelled_by_own (levellable ok.not_zero plain))

pub point_is_chosen : PointIsChosen
unfolding PointIsChosen
point_is_chosen h at ok plain e d₁ e₁ s t p g q v = chosen_and_carried v ok plain e

pub point_is_right : PointIsRight
unfolding PointIsRight
point_is_right h p ok given = by (way h ok)
  where
    by : Way h → RightPoint h p
    by (from_square square e) = subst (RightPoint h) (ap (point_or p) (sym e ∙ given)) (from_infinity_right h ok square)
    by (by_level plain e) =
        let own = levelled_by_own (levellable ok.not_zero plain) in
        let (m, chosen, back) = chosen_and_carried own ok plain given in
        subst (RightPoint h) (sym back) (carried_right own ok plain m chosen.in_box)

pub point_exactly : PointExactly
unfolding PointExactly PointIsRight outcome_carried Answer.SolutionExactly
point_exactly h ok = (λ (p, e). has_point p (point_is_right h p ok e), λ has. by has (way h ok))
  where
    has_point : (p : Point) → RightPoint h p → HasPoint h
    has_point p right = record { at = p; in_plane = right.in_plane; on = right.on }

    by : HasPoint h → Way h → (p : Point) × (solve_of h ≡ point p)
    by has (from_square square e) = (from_infinity h, e)
    by has (by_level plain e) =
        let own = levelled_by_own (levellable ok.not_zero plain) in
        let solvable = down own has.at has.on (λ z-is. ≢-of-<ℤ has.in_plane (sym z-is)) in
        let (m, o) = (Legendre.solution_exactly (level_of h).p (level_of h).g (level_of h).q (levelled own)).1 solvable in
        (carried_back h (level_of h) m, solved_as own ok plain ∙ ap (outcome_carried h) o)

pub sign_exactly : SignExactly
unfolding SignExactly outcome_carried Answer.SignExactly
sign_exactly h ok = (λ e. by e (way h ok), given)
  where
    by : solve_of h ≡ none_by_sign → Way h → OneSignEverywhere h
    by e (from_square square f) = absurd (true≢false (ap is_sign (sym e ∙ f)))
    by e (by_level plain f) =
        let able = levellable ok.not_zero plain in
        let own = levelled_by_own able in
        (sign_iff own able).0
        ((Legendre.sign_exactly (level_of h).p (level_of h).g (level_of h).q).0
        (carried_sign h (outcome_of (level_of h).p (level_of h).g (level_of h).q) (sym (solved_as own ok plain) ∙ e)))

    given : OneSignEverywhere h → solve_of h ≡ none_by_sign
    given one =
        let plain = not_square h one in
        let able = levellable ok.not_zero plain in
        let own = levelled_by_own able in
        solved_as own ok plain
        ∙ ap (outcome_carried h) ((Legendre.sign_exactly (level_of h).p (level_of h).g (level_of h).q).1 ((sign_iff own able).1 one))

pub prime_is_true : PrimeIsTrue
unfolding PrimeIsTrue SignExactly
prime_is_true h l ok given = (not_sign, λ d₁ e₁ s t p g q v. least_failing_lem v ok (plain (way h ok)) given)
  where
    not_sign : ¬ OneSignEverywhere h
    not_sign one = true≢false (ap is_sign (sym ((sign_exactly h ok).1 one) ∙ given))

    plain : Way h → ¬ SquareDiscriminant h
    plain (from_square square e) = absurd (true≢false (ap is_point (sym e ∙ given)))
    plain (by_level no_square e) = no_square
