-- The conics of a list of bytes are those of its runs of six bytes, one after the other, and the coefficients of a conic are the six bytes
-- that it was read from. By induction on the number of runs. Assumes nothing.
use mathlib.Core.Bool.{Bool, ◌&&◌}
use mathlib.Core.List.{List, [], ◌∷◌}
use mathlib.Core.Path.{◌≡◌, refl, sym, ap, ap₂, ◌∙◌}
use Prim.Native.Nat.{ℕ, zero, suc, ◌+◌, ◌/◌, ◌<◌}
use native.Mathlib.Nat.{add-zero}
use native.Mathlib.Omega.{arith}
use lib.Dec.{lit<}
use lib.ListN.{length, length-map, get_or, take, drop}
use lib.Seq.{get_or-drop}
use Rattle.std.specs.List.{list_all}
use Rattle.std.specs.Simd.{first_chunks}
use Rattle.std.proofs.lemmas.List.{drop-drop, drop_more, get_or-map, get_or-take}
use Rattle.conic.specs.Base.{in_range}
use Rattle.conic.specs.declared.conic.Conic.{Conic}
use Rattle.book.specs.Bytes.{unsigned, signed}
use Rattle.book.specs.Layout.{coefficients, conic_at}
use Rattle.book.specs.Steps.{conics_in}
use Rattle.book.specs.Writer.{conics_from, conics_of, all_in_range}
use Rattle.book.proofs.Fields.{same_conic}
use Rattle.book.proofs.SignedBytes.{unsigned_signed}

-- a run of six bytes of a list
run_at : (list : List ℕ) (at : ℕ) → conic_at (take 6 (drop at list)) 0 ≡ conic_at list at
unfolding conic_at
run_at list at =
    let byte : (k : ℕ) → k < 6 → get_or (take 6 (drop at list)) k 0 ≡ get_or list (at + k) 0 =
    λ k h. get_or-take 6 (drop at list) k 0 h ∙ get_or-drop at list k 0 in
    same_conic
    (ap (signed 1) (byte 0 (lit< tt) ∙ ap (λ (k : ℕ). get_or list k 0) (add-zero at)))
    (ap (signed 1) (byte 1 (lit< tt)))
    (ap (signed 1) (byte 2 (lit< tt)))
    (ap (signed 1) (byte 3 (lit< tt)))
    (ap (signed 1) (byte 4 (lit< tt)))
    (ap (signed 1) (byte 5 (lit< tt)))

listed_from : (n : ℕ) (list : List ℕ) (at : ℕ) → conics_in (first_chunks 6 n (drop at list)) ≡ conics_from n list at
unfolding conics_from
listed_from zero list at = refl
listed_from (suc n) list at =
    ap₂ ◌∷◌ (run_at list at) (ap (λ (l : List ℕ). conics_in (first_chunks 6 n l)) (drop-drop 6 at list) ∙ listed_from n list (at + 6))

pub listed : (list : List ℕ) → conics_in (first_chunks 6 (length list / 6) list) ≡ conics_of list
unfolding conics_of
listed list = listed_from (length list / 6) list 0

length_from : (n : ℕ) (list : List ℕ) (at : ℕ) → length (conics_from n list at) ≡ n
unfolding conics_from
length_from zero list at = refl
length_from (suc n) list at = ap suc (length_from n list (at + 6))

pub length_conics : (list : List ℕ) → length (conics_of list) ≡ length list / 6
unfolding conics_of
length_conics list = length_from (length list / 6) list 0

pub length_listed : (runs : List (List ℕ)) → length (conics_in runs) ≡ length runs
length_listed runs = length-map runs (λ (six : List ℕ). conic_at six 0)

-- of the conics that are left, the first is that of the first run
pub next_conic :
    (runs : List (List ℕ)) {i : ℕ} {six : List ℕ} (d : List ℕ) → i < length runs → six ≡ get_or runs i d →
    drop i (conics_in runs) ≡ conic_at six 0 ∷ drop (i + 1) (conics_in runs)
next_conic runs {i} {six} d below own =
    let inside : i < length (conics_in runs) = omega (arith, length_listed runs) in
    drop_more (conics_in runs) i (conic_at d 0) inside
    ∙ ap (λ (h : Conic). h ∷ drop (i + 1) (conics_in runs))
    (get_or-map (λ (s : List ℕ). conic_at s 0) runs i d (conic_at d 0) below ∙ ap (λ (s : List ℕ). conic_at s 0) (sym own))

pub range_listed : (runs : List (List ℕ)) → list_all (λ six. in_range (conic_at six 0)) runs ≡ all_in_range (conics_in runs)
unfolding all_in_range
range_listed [] = refl
range_listed (six ∷ runs) = ap (λ (t : Bool). in_range (conic_at six 0) && t) (range_listed runs)

-- six bytes, one by one
six_bytes : (l : List ℕ) → length l ≡ 6 → get_or l 0 0 ∷ get_or l 1 0 ∷ get_or l 2 0 ∷ get_or l 3 0 ∷ get_or l 4 0 ∷ get_or l 5 0 ∷ [] ≡ l
six_bytes [] h = absurd (omega arith)
six_bytes (a ∷ []) h = absurd (omega arith)
six_bytes (a ∷ b ∷ []) h = absurd (omega arith)
six_bytes (a ∷ b ∷ c ∷ []) h = absurd (omega arith)
six_bytes (a ∷ b ∷ c ∷ d ∷ []) h = absurd (omega arith)
six_bytes (a ∷ b ∷ c ∷ d ∷ e ∷ []) h = absurd (omega arith)
six_bytes (a ∷ b ∷ c ∷ d ∷ e ∷ f ∷ []) h = refl
six_bytes (a ∷ b ∷ c ∷ d ∷ e ∷ f ∷ g ∷ l) h = absurd (omega arith)

pub coefficients_back : (six : List ℕ) → length six ≡ 6 → ((i : ℕ) → get_or six i 0 < 256) → coefficients (conic_at six 0) ≡ six
unfolding coefficients conic_at
coefficients_back six long small =
    let same : (i : ℕ) → unsigned 1 (signed 1 (get_or six i 0)) ≡ get_or six i 0 =
    λ i. unsigned_signed 1 (get_or six i 0) (small i) in
    (λ j. same 0 j ∷ same 1 j ∷ same 2 j ∷ same 3 j ∷ same 4 j ∷ same 5 j ∷ []) ∙ six_bytes six long
