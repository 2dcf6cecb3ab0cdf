-- The promises of feeding and finishing determine their answers and the buffers: each part of a promise says what the
-- answer's part is, and what finishing wrote is told as a row's is. Assumes nothing.
use mathlib.Core.List.{List}
use mathlib.Core.Path.{◌≡◌, sym, ◌∙◌}
use Prim.Native.Nat.{ℕ}
use Rattle.row.proofs.Promise.{same_written}
use Rattle.row.specs.Row.{Written}
use Rattle.rows.specs.Cutter.{FeedPromise, FinishPromise}
use Rattle.rows.specs.declared.Cutter.{Cutter}
use Rattle.rows.specs.declared.Fed.{Fed}

pub feed_determined :
    {c : Cutter} {piece before left left' : List ℕ} {r r' : Fed} → FeedPromise c piece before r left →
    FeedPromise c piece before r' left' → (r ≡ r') × (left ≡ left')
feed_determined p q = (
  λ i. record {
    cutter = (p.cutter ∙ sym q.cutter) i;
    taken = (p.taken ∙ sym q.taken) i;
    written = (p.written ∙ sym q.written) i;
  },
  p.buffer ∙ sym q.buffer,
)

pub finish_determined :
    {c : Cutter} {before left left' : List ℕ} {r r' : Written} → FinishPromise c before r left → FinishPromise c before r' left' →
    (r ≡ r') × (left ≡ left')
finish_determined {r = r} {r' = r'} p q = (same_written r r' (p.answer ∙ sym q.answer), p.buffer ∙ sym q.buffer)
