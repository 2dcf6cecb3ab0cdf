-- The reader's answer, test after test: 12 where the layout does not hold, 13 where a body does not, 16 where the number is not below the
-- count, and otherwise what the body says. Assumes nothing.
use mathlib.Core.Bool.{true, false}
use mathlib.Core.List.{List}
use mathlib.Core.Path.{◌≡◌}
use Prim.Native.Nat.{ℕ, ◌≤◌, ◌<◌}
use borrow.Author.Tests.{lt-ltb, le-ltb}
use Rattle.book.specs.Layout.{count_of, kind_at}
use Rattle.book.specs.Reader.{no_entry, bodies_end, every_below, layout_holds, body_holds, content_of, reader_answer}

module _ (book : List ℕ) (i : ℕ) where
  pub is_twelve : layout_holds book ≡ false → reader_answer book i ≡ no_entry 12
  unfolding reader_answer
  is_twelve layout = rw layout

  module _ (layout : layout_holds book ≡ true) where
    pub is_thirteen : every_below (body_holds book) (count_of book) ≡ false → reader_answer book i ≡ no_entry 13
    unfolding reader_answer
    is_thirteen bodies = rw (layout, bodies)

    module _ (bodies : every_below (body_holds book) (count_of book) ≡ true) where
      pub is_sixteen : count_of book ≤ i → reader_answer book i ≡ no_entry 16
      unfolding reader_answer
      is_sixteen h = rw (layout, bodies, le-ltb i (count_of book) h)

      pub is_content : i < count_of book → reader_answer book i ≡ content_of (kind_at book i) book (bodies_end book i)
      unfolding reader_answer
      is_content h = rw (layout, bodies, lt-ltb i (count_of book) h)
