-- Numbers one after another: those that are read, and those of the parts that are left. Six make a conic, and no other
-- count does. Assumes nothing.
use Rattle.std.proofs.Common.{◌≡◌, refl, sym, ap, ◌∙◌, false, true, ℕ, ◌+◌, ◌≤◌, ◌<◌, arith, List, [], ◌∷◌, ◌++◌, length}
use Rattle.std.proofs.Common.{get_or, take, set, append-nil, append_assoc, length-append}
use Rattle.std.proofs.lemmas.Grind.{take-set_at}
use Rattle.std.specs.Prelude.{Option, Some, None, option_map, is_some, ℤ, pos}
use borrow.Author.Tests.{eq-eqb, ne_eqb}
use denote.Ref.{Bor}
use Rattle.conic.specs.declared.conic.Conic.{Conic}
use Rattle.row_reader.specs.Reading.{space, parts_at, read_number, and_then, read_numbers, six, read_row}
use Rattle.row_reader.proofs.Cutting.{left_of}

-- these numbers, and those of the parts after them
unfoldable pub with_parts : List ℤ → List (List ℕ) → Option (List ℤ)
with_parts ns parts = option_map (λ rest. ns ++ rest) (read_numbers parts)

pub before_all : (parts : List (List ℕ)) → read_numbers parts ≡ with_parts [] parts
unfolding with_parts
before_all parts = go (read_numbers parts)
  where
    go : (o : Option (List ℤ)) → o ≡ option_map (λ rest. [] ++ rest) o
    go None = refl
    go (Some ns) = refl

-- with what `split` gave
pub row_is :
    (text : List ℕ) (ns : List ℤ) (o : Option (Bor (List ℕ))) (after : List (List ℕ)) {now : List (List ℕ)} →
    read_numbers (parts_at space text) ≡ with_parts ns now → now ≡ left_of o after →
    six (with_parts ns (left_of o after)) ≡ read_row text
unfolding read_row
row_is text ns o after e gives = sym (ap six (e ∙ ap (with_parts ns) gives))

pub one_more :
    (ns : List ℤ) (i : ℕ) {n : ℤ} (part : List ℕ) (parts : List (List ℕ)) → i < length ns → Some n ≡ read_number part →
    with_parts (take i ns) (part ∷ parts) ≡ with_parts (take (i + 1) (set ns i n)) parts
unfolding with_parts read_numbers and_then
one_more ns i {n} part parts h e = simp (← e) (go (read_numbers parts))
  where
    go : (o : Option (List ℤ)) →
        option_map (λ rest. take i ns ++ rest) (and_then (Some n) o) ≡ option_map (λ rest. take (i + 1) (set ns i n) ++ rest) o
    go None = refl
    go (Some rest) = simp (take-set_at ns i (i + 1) n refl h) (ap Some (search append_assoc))

pub too_few : (ns : List ℤ) → length ns < 6 → None ≡ six (with_parts ns [])
unfolding six with_parts read_numbers
too_few ns h = simp (append-nil, ne_eqb (length ns) 6 (λ e. omega arith))

pub too_many :
    (ns : List ℤ) (o : Option (Bor (List ℕ))) (parts : List (List ℕ)) → 6 ≤ length ns → is_some o ≡ true →
    None ≡ six (with_parts ns (left_of o parts))
unfolding with_parts read_numbers six and_then
too_many ns None parts h e = cc
too_many ns (Some part) parts h e = go (read_number part.now) (read_numbers parts)
  where
    go : (o : Option ℤ) (os : Option (List ℤ)) → None ≡ six (option_map (λ rest. ns ++ rest) (and_then o os))
    go None os = refl
    go (Some n) None = refl
    go (Some n) (Some rest) =
        simp (ne_eqb (length (ns ++ n ∷ rest)) 6 (λ e. omega (arith, length-append ns (n ∷ rest))))

pub broken :
    (ns : List ℤ) (part : List ℕ) (parts : List (List ℕ)) → None ≡ read_number part → None ≡ six (with_parts ns (part ∷ parts))
unfolding six with_parts read_numbers and_then
broken ns part parts e = simp (← e)

pub all_six :
    (ns : List ℤ) (o : Option (Bor (List ℕ))) (parts : List (List ℕ)) → length ns ≡ 6 → is_some o ≡ false →
    ◌≡◌ {A = Option Conic}
    (Some (record {
      a = get_or ns 0 (pos 0);
      b = get_or ns 1 (pos 0);
      c = get_or ns 2 (pos 0);
      d = get_or ns 3 (pos 0);
      e = get_or ns 4 (pos 0);
      f = get_or ns 5 (pos 0);
    }))
    (six (with_parts ns (left_of o parts)))
unfolding six with_parts read_numbers
all_six ns None parts h e = simp (append-nil, eq-eqb (length ns) 6 h)
all_six ns (Some part) parts h e = cc
