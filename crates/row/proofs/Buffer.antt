-- Two writes in a row are one write of both texts, and there is room for both where there is room for one text of
-- both. Words are written byte by byte. Assumes nothing.
use mathlib.Core.Path.{◌≡◌, sym, ap, ◌∙◌, subst}
use mathlib.Core.List.{List, [], ◌∷◌, ◌++◌}
use Prim.Native.Nat.{ℕ, ◌+◌, ◌<◌}
use native.Mathlib.Nat.{add_assoc, le_of_lt}
use native.Mathlib.Numerals.{add-one}
use native.Mathlib.Omega.{arith}
use lib.ListN.{length, take, get_or, length-append}
use lib.Seq.{sets, length-sets, length-take-le, take-suc}
use Rattle.point.proofs.Stores.{sets_append}
use Rattle.row.specs.Buffer.{Wrote, HasRoom}
use Rattle.row.specs.declared.text.RowText.{RowText}

pub wrote_both : {xs ys : List ℕ} {before middle after : RowText} → Wrote xs before middle → Wrote ys middle after →
    Wrote (xs ++ ys) before after
wrote_both {xs} {ys} {before} {middle} first second =
    record {
      same = second.same ∙ first.same;
      place =
          second.place
          ∙ ap (λ (k : ℕ). k + length ys) first.place
          ∙ add_assoc before.length (length xs) (length ys)
          ∙ ap (λ (k : ℕ). before.length + k) (sym (length-append xs ys));
      buffer =
          second.buffer
          ∙ ap (λ (l : List ℕ). sets l middle.length ys) first.buffer
          ∙ ap (λ (k : ℕ). sets (sets before.out.now before.length xs) k ys) first.place
          ∙ sym (sets_append before.out.now before.length xs ys);
    }

pub wrote_as : {xs ys : List ℕ} {before after : RowText} → xs ≡ ys → Wrote ys before after → Wrote xs before after
wrote_as {before = before} {after} e w = subst (λ (zs : List ℕ). Wrote zs before after) (sym e) w

pub wrote_length : {xs : List ℕ} {before after : RowText} → Wrote xs before after →
    length after.out.now ≡ length before.out.now
wrote_length {xs} {before} w = ap length w.buffer ∙ length-sets before.out.now before.length xs

-- ---- room for two texts in a row

pub room_for_first : (xs ys : List ℕ) (row : RowText) → HasRoom (xs ++ ys) row → HasRoom xs row
room_for_first xs ys row h = omega (arith, simp length-append at h)

pub room_after :
    (xs ys : List ℕ) {before middle : RowText} → Wrote xs before middle → HasRoom (xs ++ ys) before → HasRoom ys middle
room_after xs ys w h = omega (arith, w.place, wrote_length w, simp length-append at h)

-- ---- words byte by byte

pub one_more :
    (words : List ℕ) (i : ℕ) {before middle after : RowText} → i < length words → Wrote (take i words) before middle →
    Wrote (get_or words i 0 ∷ []) middle after → Wrote (take (i + 1) words) before after
one_more words i h first next =
    wrote_as (ap (λ (k : ℕ). take k words) (add-one i) ∙ take-suc words i 0 h) (wrote_both first next)

pub room_for_more :
    (words : List ℕ) (i : ℕ) {before middle : RowText} → i < length words → Wrote (take i words) before middle →
    HasRoom words before → HasRoom (get_or words i 0 ∷ []) middle
room_for_more words i h w room = omega (arith, w.place, wrote_length w, length-take-le i words (le_of_lt h))
