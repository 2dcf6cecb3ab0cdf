-- Sizes, from the limit on the coefficients: of D, Δ, aΔ and k. Assumes nothing.
use mathlib.Core.Bool.{and-eq-true_iff}
use Prim.Native.Nat.{ℕ, ◌*◌, ◌≤◌}
use lib.Dec.{T}
use lib.IntN.{nat_abs, ◌*ℤ◌}
use borrow.Author.Tests.{leb-true}
use Rattle.whole.proofs.Signed.{sizes, bounds}
use Rattle.number.proofs.Least.{true_of_T}
use Rattle.point.specs.Paper.{coefficient_limit, within}
use Rattle.conic.specs.Form.{D, Δ, k}
use Rattle.conic.specs.Base.{in_range}
use Rattle.conic.specs.Sizes.{InLimit}
use Rattle.conic.specs.declared.conic.Conic.{Conic}

abbrev pub limit_D : ℕ
limit_D = 5 * (coefficient_limit * coefficient_limit)

abbrev pub limit_k : ℕ
limit_k = 3 * (coefficient_limit * coefficient_limit)

abbrev pub limit_Δ : ℕ
limit_Δ = 8 * (coefficient_limit * coefficient_limit * coefficient_limit)

abbrev pub limit_aΔ : ℕ
limit_aΔ = coefficient_limit * limit_Δ

pub in_limit : (h : Conic) → T (in_range h) → InLimit h
unfolding in_range within
in_limit h t =
    let (to-e, f) = (and-eq-true_iff _ _).0 (true_of_T (in_range h) t) in
    let (to-d, e) = (and-eq-true_iff _ _).0 to-e in
    let (to-c, d) = (and-eq-true_iff _ _).0 to-d in
    let (to-b, c) = (and-eq-true_iff _ _).0 to-c in
    let (a, b) = (and-eq-true_iff _ _).0 to-b in
    record {
      a_within = leb-true (nat_abs h.a) coefficient_limit a;
      b_within = leb-true (nat_abs h.b) coefficient_limit b;
      c_within = leb-true (nat_abs h.c) coefficient_limit c;
      d_within = leb-true (nat_abs h.d) coefficient_limit d;
      e_within = leb-true (nat_abs h.e) coefficient_limit e;
      f_within = leb-true (nat_abs h.f) coefficient_limit f;
    }

pub D-size : (h : Conic) → InLimit h → nat_abs (D h) ≤ limit_D
unfolding D
D-size h l = bounds (search sizes depth 40 fits 9999) tt

pub k_size : (h : Conic) → InLimit h → nat_abs (k h) ≤ limit_k
unfolding k
k_size h l = bounds (search sizes depth 40 fits 9999) tt

pub Δ-size : (h : Conic) → InLimit h → nat_abs (Δ h) ≤ limit_Δ
unfolding Δ
Δ-size h l = bounds (search sizes depth 40 fits 9999) tt

pub aΔ_size : (h : Conic) → InLimit h → nat_abs (h.a *ℤ Δ h) ≤ limit_aΔ
aΔ_size h l = let of_Δ : nat_abs (Δ h) ≤ limit_Δ = Δ-size h l in bounds (search sizes depth 40 fits 9999) tt
