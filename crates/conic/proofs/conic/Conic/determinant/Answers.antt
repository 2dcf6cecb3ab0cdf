-- `conic::conic::Conic::determinant` meets its contract: by the sizes of the numbers each step fits. Assumes nothing.
use mathlib.Core.Path.{◌≡◌, refl}
use lib.IntN.{pos, ◌+ℤ◌, ◌-ℤ◌, ◌*ℤ◌}
use mir.Syntax.{w64}
use Rattle.whole.proofs.Signed.{sizes, fits, reads}
use Rattle.conic.specs.Form.{Δ}
use Rattle.conic.specs.declared.conic.Conic.{Conic}
use Rattle.conic.proofs.conic.Conic.determinant.Goals as goal

written_out :
    (h : Conic) →
    pos 4 *ℤ h.a *ℤ h.c *ℤ h.f +ℤ h.b *ℤ h.d *ℤ h.e -ℤ h.a *ℤ (h.e *ℤ h.e) -ℤ h.c *ℤ (h.d *ℤ h.d)
    -ℤ h.f *ℤ (h.b *ℤ h.b) ≡ Δ h
unfolding Δ
written_out h = refl

pub overflow_mul-result : goal.overflow_mul-result
overflow_mul-result c = fits w64 (search sizes depth 60 fits 9999) tt

pub overflow_mul-result-2 : goal.overflow_mul-result-2
overflow_mul-result-2 c = fits w64 (search sizes depth 60 fits 9999) tt

pub overflow_mul-result-3 : goal.overflow_mul-result-3
overflow_mul-result-3 c = fits w64 (search sizes depth 60 fits 9999) tt

pub overflow_mul-result-4 : goal.overflow_mul-result-4
overflow_mul-result-4 c = fits w64 (search sizes depth 60 fits 9999) tt

pub overflow_mul-result-5 : goal.overflow_mul-result-5
overflow_mul-result-5 c = fits w64 (search sizes depth 60 fits 9999) tt

pub overflow_add-result : goal.overflow_add-result
overflow_add-result c = fits w64 (search sizes depth 60 fits 9999) tt

pub overflow_mul-result-6 : goal.overflow_mul-result-6
overflow_mul-result-6 c = fits w64 (search sizes depth 60 fits 9999) tt

pub overflow_mul-result-7 : goal.overflow_mul-result-7
overflow_mul-result-7 c = fits w64 (search sizes depth 60 fits 9999) tt

pub overflow_sub-result : goal.overflow_sub-result
overflow_sub-result c = fits w64 (search sizes depth 60 fits 9999) tt

pub overflow_mul-result-8 : goal.overflow_mul-result-8
overflow_mul-result-8 c = fits w64 (search sizes depth 60 fits 9999) tt

pub overflow_mul-result-9 : goal.overflow_mul-result-9
overflow_mul-result-9 c = fits w64 (search sizes depth 60 fits 9999) tt

pub overflow_sub-result-2 : goal.overflow_sub-result-2
overflow_sub-result-2 c = fits w64 (search sizes depth 60 fits 9999) tt

pub overflow_mul-result-10 : goal.overflow_mul-result-10
overflow_mul-result-10 c = fits w64 (search sizes depth 60 fits 9999) tt

pub overflow_mul-result-11 : goal.overflow_mul-result-11
overflow_mul-result-11 c = fits w64 (search sizes depth 60 fits 9999) tt

pub overflow_sub-result-3 : goal.overflow_sub-result-3
overflow_sub-result-3 c = fits w64 (search sizes depth 60 fits 9999) tt

pub returns : goal.returns
returns c = reads (search sizes depth 60 fits 9999) tt (written_out _)
