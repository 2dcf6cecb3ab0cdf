-- `book_reader::Body::content` meets its contract: each kind says what the definition has for it. Assumes nothing.
use mathlib.Core.Path.{ap, ap₂}
use Rattle.book.specs.Reader.{with_point, with_none_by_sign, with_none_by_prime, degenerate, content_of}
use Rattle.book_reader.proofs.Body.content.Goals as goal

pub returns-in-Point : goal.returns-in-Point
unfolding content_of
returns-in-Point c = rw c.in-Point.is (ap₂ with_point c.conic_at-h.ensures c.point_at.ensures)

pub returns-in-Sign : goal.returns-in-Sign
unfolding content_of
returns-in-Sign c = rw c.in-Sign.is (ap with_none_by_sign c.conic_at-h.ensures)

pub returns-in-Prime : goal.returns-in-Prime
unfolding content_of
returns-in-Prime c = rw c.in-Prime.is (ap₂ with_none_by_prime c.conic_at-h.ensures c.number_at-prime.ensures.0)

pub returns-in-Degenerate : goal.returns-in-Degenerate
unfolding content_of
returns-in-Degenerate c = rw c.in-Degenerate.is (ap degenerate c.conic_at-h.ensures)
