-- `book_writer::put_point` meets its contract: three runs of four bytes are one run. Assumes nothing.
use mathlib.Core.List.{List}
use mathlib.Core.Path.{◌≡◌, ap, ◌∙◌}
use Prim.Native.Nat.{ℕ, ◌+◌, ◌≤◌}
use lib.IntN.{ℤ, nat_abs}
use lib.Seq.{sets}
use mir.Facts.{to_z-of_z}
use mir.Syntax.{w64}
use mir.Val.{to_z, of_z}
use Rattle.whole.proofs.Signed.{sizes, fits}
use Rattle.point.specs.Paper.{point_limit}
use Rattle.book.specs.Bytes.{bytes, unsigned}
use Rattle.book.proofs.LittleEndian.{length_bytes}
use Rattle.book.proofs.Stores.{sets_three}
use Rattle.book_writer.proofs.put_point.Goals as goal

-- a number that was handed over is read back
passed :
    (book : List ℕ) (at : ℕ) (n : ℤ) {r : List ℕ} → nat_abs n ≤ point_limit →
    r ≡ sets book at (bytes 4 (unsigned 4 (to_z w64 (of_z w64 n)))) → r ≡ sets book at (bytes 4 (unsigned 4 n))
passed book at n small e =
    e
    ∙ ap (λ (m : ℤ). sets book at (bytes 4 (unsigned 4 m)))
    (to_z-of_z (fits w64 (search sizes depth 60 fits 9999) tt))

pub returns : goal.returns
returns c =
    let p = c.args.p in
    sets_three c.args.book.now c.put_signed.new.book c.put_signed-2.new.book c.put_signed-3.new.book c.args.at
    (bytes 4 (unsigned 4 p.x)) (bytes 4 (unsigned 4 p.y)) (bytes 4 (unsigned 4 p.z))
    (length_bytes 4 (unsigned 4 p.x)) (length_bytes 4 (unsigned 4 p.y))
    (passed c.args.book.now c.args.at p.x c.requires.1.x_within c.put_signed.ensures)
    (passed c.put_signed.new.book (c.args.at + 4) p.y c.requires.1.y_within c.put_signed-2.ensures)
    (passed c.put_signed-2.new.book (c.args.at + 8) p.z c.requires.1.z_within c.put_signed-3.ensures)
