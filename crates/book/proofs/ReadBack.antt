-- What stands in bytes is read back: a number from its bytes, the six coefficients of a conic in range, the point or the prime of a
-- verdict; and what is read at a place is read at the front of what is left from there. Assumes nothing.
use mathlib.Core.List.{List, [], ◌++◌}
use mathlib.Core.Path.{◌≡◌, refl, sym, ap, ap₂, ◌∙◌}
use Prim.Native.Nat.{ℕ, zero, suc, ◌+◌, ◌*◌, ◌^◌, ◌≤◌, ◌<◌}
use native.Mathlib.Nat.{add-zero, add_assoc}
use native.Mathlib.Omega.{arith}
use lib.IntN.{ℤ, nat_abs}
use lib.ListN.{get_or, drop}
use lib.Seq.{get_or-drop}
use Rattle.point.specs.Paper.{point, none_by_prime, coefficient_limit, point_limit}
use Rattle.point.specs.Sizes.{PointWithin}
use Rattle.point.specs.declared.Point.{Point}
use Rattle.point.proofs.Vector.{same_point}
use Rattle.conic.specs.Sizes.{InLimit}
use Rattle.conic.specs.declared.conic.Conic.{Conic}
use Rattle.book.specs.Bytes.{bytes, number_at, unsigned, signed}
use Rattle.book.specs.Layout.{coefficients, added, conic_at, point_at}
use Rattle.book.proofs.Fields.{same_conic}
use Rattle.book.proofs.SignedBytes.{signed_unsigned, unsigned_below}

-- ---- at a place, and at the front

pub byte_from : (book : List ℕ) (at k : ℕ) → get_or book (at + k) 0 ≡ get_or (drop at book) k 0
byte_from book at k = sym (get_or-drop at book k 0)

pub number_from_lem : (n : ℕ) (book : List ℕ) (at k : ℕ) → number_at n book (at + k) ≡ number_at n (drop at book) k
unfolding number_at
number_from_lem zero book at k = refl
number_from_lem (suc n) book at k =
    ap₂ (λ (b m : ℕ). b + 256 * m) (byte_from book at k) (ap (number_at n book) (add_assoc at k 1) ∙ number_from_lem n book at (k + 1))

-- ---- numbers

pub two_back : (m : ℕ) (rest : List ℕ) → m < 65_536 → number_at 2 (bytes 2 m ++ rest) 0 ≡ m
unfolding number_at bytes
two_back m rest h = omega arith

pub four_back : (m : ℕ) (rest : List ℕ) → m < 256 ^ 4 → number_at 4 (bytes 4 m ++ rest) 0 ≡ m
unfolding number_at bytes
four_back m rest h = omega arith

coefficient_back : (n : ℤ) → nat_abs n ≤ coefficient_limit → signed 1 (unsigned 1 n) ≡ n
coefficient_back n h = signed_unsigned 1 n (omega arith)

pub conic_back : (h : Conic) (rest : List ℕ) → InLimit h → conic_at (coefficients h ++ rest) 0 ≡ h
unfolding conic_at coefficients
conic_back h rest within =
    same_conic
    (coefficient_back h.a within.a_within)
    (coefficient_back h.b within.b_within)
    (coefficient_back h.c within.c_within)
    (coefficient_back h.d within.d_within)
    (coefficient_back h.e within.e_within)
    (coefficient_back h.f within.f_within)

conic_from : (book : List ℕ) (at : ℕ) → conic_at book at ≡ conic_at (drop at book) 0
unfolding conic_at
conic_from book at =
    let byte : (k : ℕ) → signed 1 (get_or book (at + k) 0) ≡ signed 1 (get_or (drop at book) k 0) = λ k. ap (signed 1) (byte_from book at k) in
    same_conic (ap (λ (n : ℕ). signed 1 (get_or book n 0)) (sym (add-zero at)) ∙ byte 0) (byte 1) (byte 2) (byte 3) (byte 4) (byte 5)

-- the four bytes of a number of a point
number_back : (n : ℤ) (rest : List ℕ) → nat_abs n ≤ point_limit → signed 4 (number_at 4 (bytes 4 (unsigned 4 n) ++ rest) 0) ≡ n
number_back n rest h =
    ap (signed 4) (four_back (unsigned 4 n) rest (unsigned_below 4 n (omega arith))) ∙ signed_unsigned 4 n (omega arith)

point_from_lem : (book : List ℕ) (at : ℕ) → point_at book (at + 6) ≡ point_at (drop at book) 6
unfolding point_at
point_from_lem book at =
    let number : (k : ℕ) → signed 4 (number_at 4 book (at + k)) ≡ signed 4 (number_at 4 (drop at book) k) = λ k. ap (signed 4) (number_from_lem 4 book at k) in
    same_point
    (number 6)
    (ap (λ (n : ℕ). signed 4 (number_at 4 book n)) (add_assoc at 6 4) ∙ number 10)
    (ap (λ (n : ℕ). signed 4 (number_at 4 book n)) (add_assoc at 6 8) ∙ number 14)

-- ---- a body

module _ (book : List ℕ) (at : ℕ) (h : Conic) where
  pub conic_read : (rest : List ℕ) → InLimit h → drop at book ≡ coefficients h ++ rest → conic_at book at ≡ h
  conic_read rest within e = conic_from book at ∙ ap (λ (l : List ℕ). conic_at l 0) e ∙ conic_back h rest within

  pub point_read : (rest : List ℕ) (p : Point) → PointWithin point_limit p → drop at book ≡ coefficients h ++ added (point p) ++ rest → point_at book (at + 6) ≡ p
  unfolding point_at coefficients number_at bytes
  point_read rest p fits e =
      point_from_lem book at ∙ ap (λ (l : List ℕ). point_at l 6) e
      ∙ same_point (number_back p.x [] fits.x_within) (number_back p.y [] fits.y_within) (number_back p.z [] fits.z_within)

  pub prime_read :
      (rest : List ℕ) (l : ℕ) → l < 256 ^ 4 → drop at book ≡ coefficients h ++ added (none_by_prime l) ++ rest → number_at 4 book (at + 6) ≡ l
  unfolding coefficients number_at bytes
  prime_read rest l fits e = number_from_lem 4 book at 6 ∙ ap (λ (k : List ℕ). number_at 4 k 6) e ∙ four_back l [] fits
