-- The square part by trial division: what each step takes out, and what is left where the divisors pass the cube root, a square or
-- a squarefree number. A divisor k of the rest is at least the divisor d that is next; so k² ∣ rest < d³ leaves less than d, which
-- is 1. Assumes nothing.
use mathlib.Core.Path.{◌≡◌, sym, ◌∙◌, ap, subst}
use mathlib.Core.Logic.{◌≢◌, ◌⊎◌, ⊎_elim}
use mathlib.Core.Bool.{true, false}
use Prim.Native.Nat.{ℕ, ◌+◌, ◌*◌, ◌/◌, ◌%◌, ◌^◌, ◌∣◌, ◌≤◌, ◌<◌}
use native.Mathlib.Nat.{mul_assoc, mul_comm, mul-one, one-mul, mul-pos, mul-le-mul, mul-le-mul_left, le-mul_of_pos_right, le_trans, le_antisymm, eq-or-lt_of_le, le_of_dvd, lt_of_mul-lt-mul_right, lt_of_lt_of_le, lt_of_not-le, pos_of_dvd_of_pos, pos_of_ne-zero, dvd_trans, dvd-mul_right, dvd_of_mod-eq-zero, mod-eq-zero_of_dvd, le-div_iff_mul-le, div-lt_iff_lt-mul, div-le_self}
use native.Mathlib.Omega.{arith}
use lib.IntN.{pos}
use Rattle.number.specs.Gcd.{Coprime}
use Rattle.number.specs.Square.{root_of, is_square}
use Rattle.number.specs.Squarefree.{Squarefree, square_part}
use Rattle.number.proofs.Least.{le_of_not_above, not_true_of_false}
use Rattle.number.proofs.Divides.{times_quotient, divides_of_multiple}
use Rattle.number.proofs.Gcd.{coprime_of_common_divisors}
use Rattle.number.proofs.Square.{root_squared, square_law}
use Rattle.number.proofs.SquarePart.{Divided, divided, square_part_of_square, square_part_at_most, square_part_of_square_times, square_part_of_squarefree_times}

-- ---- divisors tried so far
pub record NoDivisorBelow (d m : ℕ) : Type 0 where
  pub none : (k : ℕ) → 2 ≤ k → k < d → k ∣ m → ⊥

one_by_not_two : {k : ℕ} → 0 < k → (2 ≤ k → ⊥) → k ≡ 1
one_by_not_two p f = omega arith

pub at_least : {d m : ℕ} (k : ℕ) → NoDivisorBelow d m → 2 ≤ k → k ∣ m → d ≤ k
at_least k tried two h = le_of_not_above (λ below. tried.none k two below h)

below_is_one : {d m : ℕ} (k : ℕ) → NoDivisorBelow d m → 0 < k → k < d → k ∣ m → k ≡ 1
below_is_one k tried p below h = one_by_not_two p (λ two. tried.none k two below h)

pub fewer_divisors : {d m q : ℕ} → q ∣ m → NoDivisorBelow d m → NoDivisorBelow d q
fewer_divisors h tried = record { none = λ k two below kq. tried.none k two below (dvd_trans k kq h) }

-- the least divisor from 2 up is squarefree, and has no factor in common with a divisor of m that it does not divide
module _ {d m : ℕ} (tried : NoDivisorBelow d m) (two : 2 ≤ d) (h : d ∣ m) where
  d_positive : 0 < d
  d_positive = omega arith

  least_divisor_squarefree : Squarefree (pos d)
  least_divisor_squarefree =
      record { no_square = λ e k. one_by_not_two (pos_of_dvd_of_pos (dvd_trans e (dvd-mul_right e e) k) d_positive) (λ two_e. too_large e two_e k) }
    where
      too_large : (e : ℕ) → 2 ≤ e → e * e ∣ d → ⊥
      too_large e two_e k =
          let d_at_most_e : d ≤ e = at_least e tried two_e (dvd_trans e (dvd_trans e (dvd-mul_right e e) k) h) in
          let square_at_most_d : e * e ≤ d = le_of_dvd d_positive k in
          let twice_at_most_square : e * 2 ≤ e * e = mul-le-mul_left e two_e in
          omega arith

  least_divisor_coprime : (q : ℕ) → q ∣ m → ¬ (d ∣ q) → Coprime (pos d) (pos q)
  least_divisor_coprime q k apart =
      coprime_of_common_divisors (λ e ed eq. one_by_not_two (pos_of_dvd_of_pos ed d_positive) (λ two_e. apart (subst (λ (x : ℕ). x ∣ q) (same e two_e ed) eq)))
    where
      same : (e : ℕ) → 2 ≤ e → e ∣ d → e ≡ d
      same e two_e ed = le_antisymm (le_of_dvd d_positive ed) (at_least e tried two_e (dvd_trans e ed h))

-- m < d³ without a divisor below d is a square or squarefree
module _ {d m : ℕ} (tried : NoDivisorBelow d m) (small : m < d * d * d) where
  free_is_one : {x : ℕ} (e : Divided m x) → 0 < m → 2 ≤ x → e.free ≡ 1
  free_is_one {x} e positive two = below_is_one e.free tried (pos_of_dvd_of_pos free_divides positive) free_below free_divides
    where
      free_divides : e.free ∣ m
      free_divides = divides_of_multiple e.free (x * x) (e.product ∙ mul_comm e.free (x * x))

      root_at_least : d ≤ x
      root_at_least = at_least x tried two (dvd_trans x (dvd-mul_right x x) (divides_of_multiple (x * x) e.free e.product))

      free_below : e.free < d
      free_below =
          lt_of_mul-lt-mul_right (x * x)
          (rw (← e.product) (lt_of_lt_of_le small (rw (mul_assoc d d d) (mul-le-mul_left d (mul-le-mul root_at_least root_at_least)))))

  square_part_is_one : ((x : ℕ) → m ≡ x * x → ⊥) → square_part (pos m) ≡ 1
  square_part_is_one not_square = go (divided m positive)
    where
      positive : 0 < m
      positive = pos_of_ne-zero (not_square 0)

      go : {x : ℕ} → Divided m x → x ≡ 1
      go {x} e =
          one_by_not_two e.positive
          (λ two. not_square x (e.product ∙ ap (λ (f : ℕ). f * (x * x)) (free_is_one e positive two) ∙ one-mul (x * x)))

-- ---- the loop: what is left of n, the root of the square taken out of it, and the next divisor
-- its cube is above 2⁶⁴, so no divisor in use reaches it
abbrev pub divisor_limit : ℕ
divisor_limit = 2 ^ 22

pub record Trial (n rest square divisor : ℕ) : Type 0 where
  pub part : square * square_part (pos rest) ≡ square_part (pos n)
  pub at_most : rest ≤ n
  pub from_two : 2 ≤ divisor
  pub divisor_bound : divisor ≤ divisor_limit
  pub tried : NoDivisorBelow divisor rest

square_at_most : {n m s d : ℕ} → Trial n m s d → 0 < m → s ≤ n
square_at_most {n} {m} {s} t p =
    le_trans (rw (← t.part) (le-mul_of_pos_right s (divided m p).positive)) (square_part_at_most n)

module _ {n m s d : ℕ} (t : Trial n m s d) (more : d * d ≤ m / d) where
  cube_at_most : d * d * d ≤ m
  cube_at_most =
      let positive : 0 < d = omega arith in
      (le-div_iff_mul-le positive).0 more

  rest_positive : 0 < m
  rest_positive =
      let positive : 0 < d = omega arith in
      lt_of_lt_of_le (mul-pos (mul-pos positive positive) positive) cube_at_most

  pub divisor_below_bound : n < 2 ^ 64 → d < divisor_limit
  divisor_below_bound fits = lt_of_not-le (λ above. too_large (mul-le-mul (mul-le-mul above above) above))
    where
      too_large : 2 ^ 66 ≤ d * d * d → ⊥
      too_large h = omega (arith, cube_at_most)

  pub trial_next : n < 2 ^ 64 → m % d ≢ 0 → Trial n m s (d + 1)
  trial_next fits apart =
      let below : d < divisor_limit = divisor_below_bound fits in
      record {
        part = t.part;
        at_most = t.at_most;
        from_two = omega arith;
        divisor_bound = omega arith;
        tried = record { none = λ k two at-most-d h. ⊎_elim (λ same. apart (divided_by k same h)) (λ less. t.tried.none k two less h) (same_or_below k at-most-d) };
      }
    where
      same_or_below : (k : ℕ) → k < d + 1 → (k ≡ d) ⊎ (k < d)
      same_or_below k h = eq-or-lt_of_le (omega arith)

      divided_by : (k : ℕ) → k ≡ d → k ∣ m → m % d ≡ 0
      divided_by k same h = mod-eq-zero_of_dvd d (subst (λ (x : ℕ). x ∣ m) same h)

  pub trial_once : m % d ≡ 0 → m / d % d ≢ 0 → Trial n (m / d) s d
  trial_once e apart =
      record {
        part = ap (λ (x : ℕ). s * x) (sym same_part) ∙ t.part;
        at_most = le_trans (div-le_self m d) t.at_most;
        from_two = t.from_two;
        divisor_bound = t.divisor_bound;
        tried = fewer_divisors quotient_divides t.tried;
      }
    where
      divisor_divides : d ∣ m
      divisor_divides = dvd_of_mod-eq-zero d e

      quotient_divides : m / d ∣ m
      quotient_divides = divides_of_multiple (m / d) d (times_quotient d divisor_divides)

      same_part : square_part (pos m) ≡ square_part (pos (m / d))
      same_part =
          ap (λ (x : ℕ). square_part (pos x)) (times_quotient d divisor_divides)
          ∙ square_part_of_squarefree_times d (m / d)
          (pos_of_dvd_of_pos quotient_divides rest_positive)
          (least_divisor_squarefree t.tried t.from_two divisor_divides)
          (least_divisor_coprime t.tried t.from_two divisor_divides (m / d) quotient_divides (λ h. apart (mod-eq-zero_of_dvd d h)))

  twice_taken : m % d ≡ 0 → m / d % d ≡ 0 → m ≡ d * d * (m / d / d)
  twice_taken e f =
      times_quotient d (dvd_of_mod-eq-zero d e) ∙ ap (λ (x : ℕ). d * x) (times_quotient d (dvd_of_mod-eq-zero d f))
      ∙ sym (mul_assoc d d (m / d / d))

  last_positive : m % d ≡ 0 → m / d % d ≡ 0 → 0 < m / d / d
  last_positive e f = pos_of_dvd_of_pos (divides_of_multiple (m / d / d) (d * d) (twice_taken e f)) rest_positive

  pub trial_twice : m % d ≡ 0 → m / d % d ≡ 0 → Trial n (m / d / d) (s * d) d
  trial_twice e f =
      record {
        part = mul_assoc s d (square_part (pos (m / d / d))) ∙ ap (λ (x : ℕ). s * x) (sym root_taken) ∙ t.part;
        at_most = le_trans (div-le_self (m / d) d) (le_trans (div-le_self m d) t.at_most);
        from_two = t.from_two;
        divisor_bound = t.divisor_bound;
        tried = fewer_divisors (divides_of_multiple (m / d / d) (d * d) (twice_taken e f)) t.tried;
      }
    where
      root_taken : square_part (pos m) ≡ d * square_part (pos (m / d / d))
      root_taken =
          let positive : 0 < d = omega arith in
          ap (λ (x : ℕ). square_part (pos x)) (twice_taken e f)
          ∙ square_part_of_square_times d (m / d / d) positive (last_positive e f)

  pub square_times_divisor_at_most : m % d ≡ 0 → m / d % d ≡ 0 → s * d ≤ n
  square_times_divisor_at_most e f = square_at_most (trial_twice e f) (last_positive e f)

module _ {n m s d : ℕ} (t : Trial n m s d) where
  pub trial_square : {r : ℕ} → is_square m ≡ true → r ≡ root_of m → s * r ≡ square_part (pos n)
  trial_square {r} e is_root =
      ap (λ (x : ℕ). s * x) (sym (square_part_of_square r)) ∙ ap (λ (x : ℕ). s * square_part (pos x)) (root_squared m e is_root) ∙ t.part

  pub square_times_root_at_most : {r : ℕ} → is_square m ≡ true → r ≡ root_of m → s * r ≤ n
  square_times_root_at_most e is_root = rw (trial_square e is_root) (square_part_at_most n)

  pub trial_squarefree : m / d < d * d → is_square m ≡ false → s ≡ square_part (pos n)
  trial_squarefree stop e =
      let positive : 0 < d = omega arith in
      sym (mul-one s) ∙ ap (λ (x : ℕ). s * x) (sym (square_part_is_one t.tried ((div-lt_iff_lt-mul positive).0 stop) not_square)) ∙ t.part
    where
      not_square : (x : ℕ) → m ≡ x * x → ⊥
      not_square x m_is = not_true_of_false e ((square_law m).1 (x, m_is))
