-- `solve::level::Level::from_parts` meets its contract: the common factor divides d, which is not 0, so it is not 0 and at most d in
-- size, and a quotient is at most its dividend. Assumes nothing.
use mathlib.Core.Path.{◌≡◌, refl, ap, ◌∙◌}
use Prim.Native.Nat.{ℕ, ◌≤◌, ◌<◌}
use native.Mathlib.Nat.{le_trans, le_of_dvd, pos_of_ne-zero, pos_of_dvd_of_pos}
use lib.IntN.{ℤ, pos, nat_abs}
use lib.Signed.{quot_z}
use mir.Syntax.{w64}
use Rattle.whole.proofs.Signed.{casts, fits, reads}
use Rattle.whole.proofs.Size.{nat_abs_zero}
use Rattle.number.specs.Gcd.{gcd_of}
use Rattle.number.proofs.Gcd.{gcd_divides_left}
use Rattle.point.specs.Normal.{largest}
use Rattle.point.proofs.Passed.{factors}
use Rattle.number.specs.declared.splitting.Parts.{Parts}
use Rattle.solve.specs.Level.{level_from}
use Rattle.solve.specs.Sizes.{PartsWithin}
use Rattle.solve.specs.declared.level.Level.{Level}
use Rattle.solve.proofs.level.Level.from_parts.Goals as goal

same_level : {v w : Level} → v.p ≡ w.p → v.g ≡ w.g → v.q ≡ w.q → v.s ≡ w.s → v.t ≡ w.t → v ≡ w
same_level a b c d e = λ i. record { p = a i; g = b i; q = c i; s = d i; t = e i }

written_out : (d e : ℤ) (s t : ℕ) {g : ℕ} → g ≡ gcd_of (nat_abs d) (nat_abs e) →
    record { p = quot_z d (pos g); g = pos g; q = quot_z e (pos g); s = pos s; t = pos t } ≡ level_from d s e t
unfolding level_from
written_out d e s t e_is = ap (λ (g : ℕ). record { p = quot_z d (pos g); g = pos g; q = quot_z e (pos g); s = pos s; t = pos t }) e_is

module _ {d e : Parts} {g : ℕ} (within : PartsWithin d e) (g_is : g ≡ gcd_of (nat_abs d.free) (nat_abs e.free)) where
  d_positive : 0 < nat_abs d.free
  d_positive = pos_of_ne-zero (λ e. within.d_not_zero (nat_abs_zero d.free e))

  g_positive : 0 < g
  g_positive = rw g_is (pos_of_dvd_of_pos (gcd_divides_left (nat_abs d.free) (nat_abs e.free)) d_positive)

  g_small : g ≤ largest
  g_small = rw g_is (le_trans (le_of_dvd d_positive (gcd_divides_left (nat_abs d.free) (nat_abs e.free))) within.d_within)

pub overflow_cast-g : goal.overflow_cast-g
overflow_cast-g c =
    let is : c.gcd-g.result ≡ gcd_of (nat_abs c.args.d.free) (nat_abs c.args.e.free) = search factors depth 60 fits 9999 in
    let small = g_small c.requires is in
    fits w64 (search casts depth 60 fits 9999) tt

pub returns : goal.returns
returns c =
    let is : c.gcd-g.result ≡ gcd_of (nat_abs c.args.d.free) (nat_abs c.args.e.free) = search factors depth 60 fits 9999 in
    let small = g_small c.requires is in
    same_level
    (reads (search casts depth 60 fits 9999) tt refl)
    (reads (search casts depth 60 fits 9999) tt refl)
    (reads (search casts depth 60 fits 9999) tt refl)
    (reads (search casts depth 60 fits 9999) tt refl)
    (reads (search casts depth 60 fits 9999) tt refl)
    ∙ written_out _ _ _ _ is

pub nonzero_div-result : goal.nonzero_div-result
nonzero_div-result c =
    let is : c.gcd-g.result ≡ gcd_of (nat_abs c.args.d.free) (nat_abs c.args.e.free) = search factors depth 60 fits 9999 in
    let small = g_small c.requires is in
    (g_positive c.requires is, fits w64 (search casts depth 60 fits 9999) tt)

pub nonzero_div-result-2 : goal.nonzero_div-result-2
nonzero_div-result-2 c =
    let is : c.gcd-g.result ≡ gcd_of (nat_abs c.args.d.free) (nat_abs c.args.e.free) = search factors depth 60 fits 9999 in
    let small = g_small c.requires is in
    (g_positive c.requires is, fits w64 (search casts depth 60 fits 9999) tt)
