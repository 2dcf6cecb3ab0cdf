-- The bytes that a cutter holds: as many as its row has, at most 48; and the last row's answer, which is nothing where
-- none is held. Assumes nothing.
use mathlib.Core.List.{List, [], ◌∷◌, append-nil}
use mathlib.Core.Path.{◌≡◌}
use Prim.Native.Nat.{ℕ, ◌≤◌, ◌<◌, min}
use native.Mathlib.Omega.{arith}
use borrow.Author.Tests.{lt-ltb, le-ltb}
use lib.ListN.{length, take, length-take}
use Rattle.std.proofs.lemmas.List.{take_min}
use Rattle.point.specs.declared.paper.Refusal.TheVariants as Refusal
use Rattle.std.specs.Prelude.{Ok, Err}
use Rattle.row.specs.Row.{row_of, buffer_limit, too_short, RowPromise, Written}
use Rattle.rows.specs.Cutter.{holding, held_text, finish_of, FinishPromise}
use Rattle.rows.specs.Input.{answers, last_row}
use Rattle.rows.specs.declared.Cutter.{Cutter}

pub held_is : (c : Cutter) → length c.held ≡ holding → take (min c.length holding) c.held ≡ held_text c
unfolding held_text
held_is c e = rw (← e) (take_min c.length c.held)

held_size : (c : Cutter) → length c.held ≡ holding → length (held_text c) ≡ min c.length holding
unfolding held_text
held_size c e = rw (← e) (length-take c.length c.held)

pub last_row_answered : (text : List ℕ) → 0 < length text → answers (last_row text) ≡ row_of text
unfolding answers last_row
last_row_answered [] h = absurd (omega arith)
last_row_answered (b ∷ text) h = append-nil (row_of (b ∷ text))

-- ---- the last row

pub finish_refused : (c : Cutter) (before : List ℕ) → length before < buffer_limit → FinishPromise c before (Err Refusal.Buffer) before
unfolding too_short
finish_refused c before h = record {
  answer = simp (lt-ltb _ _ h);
  buffer = simp (lt-ltb _ _ h);
}

pub finish_nothing : (c : Cutter) (before : List ℕ) → buffer_limit ≤ length before → c.length ≡ 0 → FinishPromise c before (Ok 0) before
unfolding too_short finish_of held_text last_row answers
finish_nothing c before h e = record {
  answer = simp (le-ltb _ _ h, e);
  buffer = simp (le-ltb _ _ h, e);
}

pub finish_row :
    (c : Cutter) (before : List ℕ) (r : Written) (left : List ℕ) → length c.held ≡ holding → (c.length ≡ 0 → ⊥) →
    RowPromise (held_text c) before r left → FinishPromise c before r left
unfolding finish_of
finish_row c before r left e n p =
    let f : finish_of c ≡ row_of (held_text c) = last_row_answered (held_text c) (omega (arith, held_size c e)) in
    record {
      answer = rw f p.answer;
      buffer = rw f p.buffer;
    }
