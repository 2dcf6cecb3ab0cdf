-- The kinds of bodies: how long each is, the bytes that are kinds, and what is right and said of a body in its place. By cases on the
-- kinds. Assumes nothing.
use mathlib.Core.Bool.{Bool, false, ◌&&◌}
use mathlib.Core.List.{List}
use mathlib.Core.Path.{◌≡◌, ap, ap₂, ◌∙◌}
use Prim.Native.Nat.{ℕ, zero, suc, ◌≤◌}
use lib.Dec.{lit≤}
use native.Mathlib.Omega.{arith}
use Rattle.point.specs.Paper.{is_zero, Verdict, point, none_by_sign, none_by_prime, refusal}
use Rattle.std.specs.Prelude.{Some, Result, Ok, Err}
use Rattle.std.specs.Result.{result_ok}
use Rattle.point.specs.declared.paper.Refusal.{Refusal}
use Rattle.book.specs.Kinds.{kind_number, Decodes}
use Rattle.book.specs.Layout.{body_length, kind_of, kind_at}
use Rattle.book.specs.Reader.{ReaderAnswer, with_point, with_none_by_sign, with_none_by_prime, degenerate, no_entry}
use Rattle.book.specs.Reader.{Stored, stored, is_none_by_sign, is_none_by_prime, is_right_point, is_right}
use Rattle.book.specs.Reader.{bodies_end, body_holds, content_of}
use Rattle.conic.specs.Form.{Δ}
use Rattle.conic.specs.Base.{in_range}
use Rattle.conic.specs.declared.conic.Conic.{Conic}
use Rattle.solve.specs.Solve.{solve_of}
use Rattle.book.specs.Steps.{BodyAt}
use Rattle.book.specs.declared.kind.Kind.{Kind}

pub length_at_most : (kind : ℕ) → body_length kind ≤ 18
length_at_most zero = lit≤ tt
length_at_most (suc zero) = lit≤ tt
length_at_most (suc (suc zero)) = lit≤ tt
length_at_most (suc (suc (suc zero))) = lit≤ tt
length_at_most (suc (suc (suc (suc zero)))) = lit≤ tt
length_at_most (suc (suc (suc (suc (suc n))))) = lit≤ tt

-- every body has the six coefficients
pub length_at_least : (kind : ℕ) → 1 ≤ kind → kind ≤ 4 → 6 ≤ body_length kind
length_at_least zero h k = absurd (omega arith)
length_at_least (suc zero) h k = lit≤ tt
length_at_least (suc (suc zero)) h k = lit≤ tt
length_at_least (suc (suc (suc zero))) h k = lit≤ tt
length_at_least (suc (suc (suc (suc zero)))) h k = lit≤ tt
length_at_least (suc (suc (suc (suc (suc n))))) h k = absurd (omega arith)

pub kind_at_most : (v : Verdict) → kind_of v ≤ 4
kind_at_most (point p) = lit≤ tt
kind_at_most none_by_sign = lit≤ tt
kind_at_most (none_by_prime l) = lit≤ tt
kind_at_most (refusal n) = lit≤ tt

pub kind_at_least : (v : Verdict) → 1 ≤ kind_of v
kind_at_least (point p) = lit≤ tt
kind_at_least none_by_sign = lit≤ tt
kind_at_least (none_by_prime l) = lit≤ tt
kind_at_least (refusal n) = lit≤ tt

-- a byte that is a kind's number
pub kind_within : (k : Kind) → (1 ≤ kind_number k) × (kind_number k ≤ 4)
kind_within Kind.Point = (lit≤ tt, lit≤ tt)
kind_within Kind.Sign = (lit≤ tt, lit≤ tt)
kind_within Kind.Prime = (lit≤ tt, lit≤ tt)
kind_within Kind.Degenerate = (lit≤ tt, lit≤ tt)

pub decoded : {n : ℕ} {k : Kind} (r : Result Kind Refusal) → Decodes n r → Some k ≡ result_ok r → kind_number k ≡ n
decoded {n} {k} (Ok l) is given = let same : k ≡ l = cc in ap kind_number same ∙ is
decoded (Err e) is given = cc

-- whether what a body says is right
abbrev pub said_right : ReaderAnswer → Bool
said_right (with_point h p) = is_right_point h p
said_right (with_none_by_sign h) = is_none_by_sign (solve_of h)
said_right (with_none_by_prime h l) = is_none_by_prime l (solve_of h)
said_right (degenerate h) = in_range h && is_zero (Δ h)
said_right (no_entry n) = false

pub right_said :
    (book : List ℕ) (at : ℕ) (h : Conic) (s : Stored) (k : Kind) → stored h s ≡ content_of (kind_number k) book at →
    said_right (stored h s) ≡ is_right (kind_number k) book at
unfolding is_right content_of
right_said book at h s Kind.Point says = ap said_right says
right_said book at h s Kind.Sign says = ap said_right says
right_said book at h s Kind.Prime says = ap said_right says
right_said book at h s Kind.Degenerate says = ap said_right says

-- what is right and said of a conic's body, at its place
module _ {book : List ℕ} {i at : ℕ} {kind : Kind} (b : BodyAt book i kind at) where
  pub right_is : is_right (kind_number kind) book at ≡ body_holds book i
  unfolding body_holds
  right_is = ap₂ (λ (n a : ℕ). is_right n book a) b.kind_is b.starts

  pub content_is : content_of (kind_number kind) book at ≡ content_of (kind_at book i) book (bodies_end book i)
  content_is = ap₂ (λ (n a : ℕ). content_of n book a) b.kind_is b.starts
