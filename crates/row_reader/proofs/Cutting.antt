-- A text and its parts between the spaces: there is a first part, joining the parts undoes cutting the text, and a part
-- without a space is cut off whole. Assumes nothing.
use Rattle.std.proofs.Common.{◌≡◌, refl, ℕ, Bool, true, false, List, [], ◌∷◌, ◌++◌, length, get_or, ap, ◌∙◌, subst, arith}
use Rattle.std.proofs.lemmas.Grind.{common_steps}
use Rattle.std.proofs.lemmas.List.Elements.{All-nil, All-cons}
use Rattle.std.proofs.lemmas.List.Splits.{slice_split_none, slice_split_at, join_with_byte-slice_split}
use Rattle.std.specs.List.{All, IsFirstMatchOrLen, join_with_byte, slice_split}
use Rattle.std.specs.Bool.{MatchBool}
use Rattle.std.proofs.lemmas.Fn.{always_returns_same}
use Rattle.std.specs.Fn.{CalledAt, ComputesKey}
use Rattle.std.specs.Slice.Iter.{split_steps, split_done, split_rest, split_callee}
use Rattle.std.specs.declared.slice.Split.{Split as SplitAt}
use Rattle.std.specs.Prelude.{Option, Some, None}
use denote.Param.Members.{Mut}
use denote.Ref.{Bor}
use lib.Dec.{eqb}
use borrow.Author.Tests.{ne_eqb}
use Rattle.point.proofs.Cases.{by_test}
use Rattle.row_reader.specs.Reading.{space, parts_at}
use Rattle.row_reader.proofs.Digits.{Above}

abbrev pub is_space : ℕ → Bool
is_space b = eqb b space

-- a text has a first part, and perhaps others
pub record Split (separator : ℕ) (text : List ℕ) : Type 0 where
  pub part : List ℕ
  pub parts : List (List ℕ)
  pub is : parts_at separator text ≡ part ∷ parts

pub split : (separator : ℕ) (text : List ℕ) → Split separator text
unfolding parts_at
split separator [] = record { part = []; parts = []; is = refl }
split separator (b ∷ text) =
    let rest = split separator text in
    by_test (eqb b separator)
    (λ e. record { part = []; parts = rest.part ∷ rest.parts; is = simp (e, rest.is) })
    (λ e. record { part = b ∷ rest.part; parts = rest.parts; is = simp (e, rest.is) })

no_space : (part : List ℕ) → Above space part → All (λ b. is_space b ≡ false) part
no_space [] h = All-nil (λ b. is_space b ≡ false)
no_space (b ∷ part) h =
    All-cons (λ b. is_space b ≡ false) b part (ne_eqb b space (λ e. omega (arith, h.0))) (no_space part h.1)

pub cut_last : (part : List ℕ) → Above space part → parts_at space part ≡ part ∷ []
unfolding parts_at
cut_last part h = slice_split_none is_space part (no_space part h)

pub cut_first :
    (part rest : List ℕ) → Above space part → parts_at space (part ++ space ∷ rest) ≡ part ∷ parts_at space rest
unfolding parts_at
cut_first part rest h = slice_split_at is_space part space rest (no_space part h) refl

pub rejoined : (text : List ℕ) → join_with_byte space (parts_at space text) ≡ text
unfolding parts_at
rejoined text = join_with_byte-slice_split space text

-- ---- part after part

-- the parts that are left, of which there is none after the last one
abbrev pub left : Bool → List ℕ → List (List ℕ)
left true rest = []
left false rest = parts_at space rest

pub next_part :
    (text part rest : List ℕ) (done : Bool) → MatchBool done (text ≡ part) ((b : ℕ) × (text ≡ part ++ b ∷ rest)) →
    IsFirstMatchOrLen is_space text (length part) → parts_at space text ≡ part ∷ left done rest
unfolding parts_at
next_part text part rest true e h =
    ap (slice_split is_space) e
    ∙ slice_split_none is_space part
    (λ k d l. subst (λ (bs : List ℕ). is_space (get_or bs k d) ≡ false) e (h.0 k d (omega arith) l))
next_part text part rest false e h =
    let front : All (λ b. is_space b ≡ false) part =
    λ k d l. let a = h.0 k d (omega arith) l in let b = e.1 in grind (arith, common_steps)
    in
    let hit : is_space e.0 ≡ true =
    let b = e.1 in let a = h.1 (grind (arith, common_steps)) e.0 in grind (arith, common_steps)
    in
    ap (slice_split is_space) e.1 ∙ slice_split_at is_space part e.0 rest front hit

-- what comes next, and the parts after it
abbrev pub left_of : Option (Bor (List ℕ)) → List (List ℕ) → List (List ℕ)
left_of None parts = []
left_of (Some part) parts = part.now ∷ parts

-- what `split` at spaces gives next is the first of the parts that are left
pub split_gives :
    {F : Type 0} (g : Mut F (Bor ℕ × Unit {0}) Bool) (s : SplitAt ℕ F) (o : Option (Bor (List ℕ))) (t : SplitAt ℕ F) →
    split_steps g s o t →
    ((b : ℕ) (r : Bool) (f : F) → CalledAt g (split_callee s) b r f → (f ≡ split_callee s) × (r ≡ is_space b)) →
    left (split_done s) (split_rest s) ≡ left_of o (left (split_done t) (split_rest t))
split_gives g s None t step tests = ap (λ (done : Bool). left done (split_rest s)) step.0
split_gives g s (Some part) t step tests =
    let computes : ComputesKey g is_space (split_callee s) =
    always_returns_same g (λ a r. r ≡ is_space a.0.now) (split_callee s)
    (λ a r f k. let m = tests a.0.now r f (record { shown = a.0; shows = refl; called = k }) in (m.1, m.0))
    in
    ap (λ (done : Bool). left done (split_rest s)) step.0
    ∙ next_part (split_rest s) part.now (split_rest t) (split_done t) step.1 (step.2 is_space computes).1
