-- The reader gives no number but 12, 13 and 16, each exactly for its cause: of the four ways of its answer three end
-- in these, and the fourth in the content of an entry. Assumes nothing.
use mathlib.Core.List.{List}
use mathlib.Core.Path.{◌≡◌, subst}
use Prim.Native.Nat.{ℕ, zero, suc, ◌≤◌}
use native.Mathlib.Omega.{arith}
use Rattle.book.specs.Layout.{kind_at}
use Rattle.book.specs.Reader.{no_entry, bodies_end, content_of, reader_answer}
use Rattle.book.specs.Refusals.{ReaderCause, broken_layout, wrong_body, no_such_conic, ReaderRefusesExactly}
use Rattle.book.specs.Theorems.{TwelveExactly, ThirteenExactly, SixteenExactly}
use Rattle.book.proofs.Contents.{layout_right}
use Rattle.book.proofs.Refusals.{Way, twelve, thirteen, sixteen, content, way, twelve_exactly, thirteen_exactly, sixteen_exactly}

-- what a body says is no refusal
not_refused : (kind : ℕ) (book : List ℕ) (at n : ℕ) → 1 ≤ kind → kind ≤ 4 → ¬ (content_of kind book at ≡ no_entry n)
unfolding content_of
not_refused zero book at n least most e = omega arith
not_refused (suc zero) book at n least most e = let clash : ◌≡◌ {A = ℕ} 0 1 = cc in omega arith
not_refused (suc (suc zero)) book at n least most e = let clash : ◌≡◌ {A = ℕ} 0 1 = cc in omega arith
not_refused (suc (suc (suc zero))) book at n least most e = let clash : ◌≡◌ {A = ℕ} 0 1 = cc in omega arith
not_refused (suc (suc (suc (suc zero)))) book at n least most e = let clash : ◌≡◌ {A = ℕ} 0 1 = cc in omega arith
not_refused (suc (suc (suc (suc (suc k))))) book at n least most e = omega arith

module _ (book : List ℕ) (i : ℕ) where
  gives : {n : ℕ} → ReaderCause book i n → reader_answer book i ≡ no_entry n
  unfolding TwelveExactly ThirteenExactly SixteenExactly
  gives (broken_layout broken) = (twelve_exactly book i).1 broken
  gives (wrong_body sound j below wrong) = (thirteen_exactly book i).1 (sound, (j, below, wrong))
  gives (no_such_conic sound right above) = (sixteen_exactly book i).1 (sound, right, above)

  -- a cause of a number is the cause of the number given
  caused : {m n : ℕ} → ReaderCause book i m → reader_answer book i ≡ no_entry n → ReaderCause book i n
  caused {m} {n} c e =
      let own : reader_answer book i ≡ no_entry m = gives c in
      let same : m ≡ n = cc in
      subst (ReaderCause book i) same c

  cause : {n : ℕ} → Way book i → reader_answer book i ≡ no_entry n → ReaderCause book i n
  unfolding TwelveExactly ThirteenExactly SixteenExactly
  cause (twelve broken own) e = caused (broken_layout ((twelve_exactly book i).0 own)) e
  cause (thirteen layout wrong own) e =
      let (sound, (j, below, out)) = (thirteen_exactly book i).0 own in caused (wrong_body sound j below out) e
  cause (sixteen layout bodies above own) e =
      let (sound, right, past) = (sixteen_exactly book i).0 own in caused (no_such_conic sound right past) e
  cause {n} (content layout bodies below own) e =
      let entry = ((layout_right book).0 layout).entries i below in
      absurd (not_refused (kind_at book i) book (bodies_end book i) n entry.kind_at_least entry.kind_at_most cc)

pub reader_refuses_exactly : ReaderRefusesExactly
unfolding ReaderRefusesExactly
reader_refuses_exactly book i n = (cause book i (way book i), gives book i)
