-- `legendre::equation::Equation::least_failing` meets its contract: the condition fails at a prime where it fails for one of the
-- three, so that the least of the three finds is the least failing prime. Assumes nothing.
use mathlib.Core.Path.{◌≡◌, refl, sym, ap, ◌∙◌}
use mathlib.Core.List.{[], ◌∷◌}
use Prim.Native.Nat.{ℕ}
use Rattle.std.specs.Prelude.{Option, Some, None, min}
use Rattle.std.specs.Option.{option_to_list}
use Rattle.std.specs.List.{reduce, flat_map}
use Rattle.std.specs.Array.Iter.{array_into_iter_items, array_steps}
use Rattle.std.specs.Iterator.Adapters.{once_steps}
use Rattle.std.proofs.lemmas.Iterator.Adapters.{YieldsList-from_flatten, YieldsList-from_once, option_map_id}
use Rattle.std.proofs.lemmas.Iterator.Consumers.{YieldsList-from_shown, min_from_yields_List}
use Rattle.legendre.specs.Search.{smaller_of, failing_of}
use Rattle.legendre.proofs.Reach.{kept_p, kept_g, kept_q, part_p, part_g, part_q}
use Rattle.legendre.proofs.LeastOfThree.{least_of_three}
use Rattle.legendre.proofs.equation.Equation.least_failing.Goals as goal

least_find : (a b c : Option ℕ) → reduce min (flat_map option_to_list (a ∷ b ∷ c ∷ [])) ≡ smaller_of (smaller_of a b) c
least_find None None None = refl
least_find None None (Some n) = refl
least_find None (Some m) None = refl
least_find None (Some m) (Some n) = refl
least_find (Some l) None None = refl
least_find (Some l) None (Some n) = refl
least_find (Some l) (Some m) None = refl
least_find (Some l) (Some m) (Some n) = refl

pub failing_of-of_p-requires : goal.failing_of-of_p-requires
failing_of-of_p-requires c = let r = c.args.self.reach in rw (kept_p r, kept_g r, kept_q r) (part_p r)

pub failing_of-of_g-requires : goal.failing_of-of_g-requires
failing_of-of_g-requires c = let r = c.args.self.reach in rw (kept_g r, kept_p r, kept_q r) (part_g r)

pub failing_of-of_q-requires : goal.failing_of-of_q-requires
failing_of-of_q-requires c = let r = c.args.self.reach in rw (kept_q r, kept_p r, kept_g r) (part_q r)

pub returns : goal.returns
returns c =
    let e = c.args.self in
    let p_is = kept_p e.reach in
    let g_is = kept_g e.reach in
    let q_is = kept_q e.reach in
    let given = YieldsList-from_shown array_steps (λ x. x) array_into_iter_items (λ s t h. h.0) (λ s x t h. h) c.into_iter.result in
    let all = YieldsList-from_flatten {ys = array_into_iter_items c.into_iter.result} _ once_steps (λ x. x) option_to_list (λ x j b. YieldsList-from_once x b.0)
    (rw c.flatten.ensures.source given) c.flatten.ensures.front c.flatten.ensures.back c.flatten.ensures.done in
    sym (option_map_id _) ∙ min_from_yields_List _ _ c.min.ensures.ran all
    ∙ ap (λ xs. reduce min (flat_map option_to_list xs)) c.into_iter.ensures.into_iter_gives.0
    ∙ least_find c.failing_of-of_p.result c.failing_of-of_g.result c.failing_of-of_q.result
    ∙ (λ i. smaller_of (smaller_of
    ((c.failing_of-of_p.ensures ∙ λ i. failing_of (p_is i) (g_is i) (q_is i)) i)
    ((c.failing_of-of_g.ensures ∙ λ i. failing_of (g_is i) (p_is i) (q_is i)) i))
    ((c.failing_of-of_q.ensures ∙ λ i. failing_of (q_is i) (p_is i) (g_is i)) i))
    ∙ least_of_three e.p e.g e.q e.reach
