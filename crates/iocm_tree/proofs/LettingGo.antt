-- The work that is left while a tree is let go gets less with each tree that is opened.
use Rattle.std.proofs.Common.{Option, None, Some, ◌≡◌, ℕ, ◌+◌, ◌*◌, ◌<◌, ◌≤◌, List, [], ◌∷◌, ◌++◌, length, take, drop}
use Rattle.std.proofs.Common.{arith, sym, ap, ◌∙◌}
use Rattle.std.proofs.lemmas.List.{take_at, drop_at}
use Rattle.iocm_model.specs.Change.Tree.{nodes_in}
use Rattle.iocm_tree.specs.Trees.{CarriedTree, CarriedParts, leaf, row, group, choose, none, parts_in, plain_parts}
use Rattle.iocm_tree.specs.Trees.{tree_of, parts_of}
use Rattle.iocm_tree.specs.LettingGo.{work_of, work_in}
use Rattle.iocm_tree.specs.declared.tree.Tree.{Tree}
use Rattle.iocm_tree.proofs.Trees.{nodes}

some_nodes : (p : CarriedTree) → 1 ≤ nodes p
some_nodes (leaf c) = omega arith
some_nodes (row ps) = omega arith
some_nodes (group ps) = omega arith
some_nodes (choose ps) = omega arith

some_work : (p : CarriedTree) → 1 ≤ work_of p
some_work (leaf c) = omega arith
some_work (row ps) = omega arith
some_work (group ps) = omega arith
some_work (choose ps) = omega arith

abbrev parts_or_none : Option CarriedParts → CarriedParts
parts_or_none None = none
parts_or_none (Some ps) = ps

-- a node has one more node than its parts, and is one more to be let go
pub nodes_below : (p : CarriedTree) (ps : CarriedParts) → parts_in p ≡ Some ps → nodes p ≡ nodes_in (plain_parts ps) + 1
nodes_below (leaf c) ps is = cc
nodes_below (row qs) ps is = ap (λ o. nodes_in (plain_parts (parts_or_none o)) + 1) is
nodes_below (group qs) ps is = ap (λ o. nodes_in (plain_parts (parts_or_none o)) + 1) is
nodes_below (choose qs) ps is = ap (λ o. nodes_in (plain_parts (parts_or_none o)) + 1) is

pub work_below : (p : CarriedTree) (ps : CarriedParts) → parts_in p ≡ Some ps → work_of p ≡ work_in ps + 1
work_below (leaf c) ps is = cc
work_below (row qs) ps is = ap (λ o. work_in (parts_or_none o) + 1) is
work_below (group qs) ps is = ap (λ o. work_in (parts_or_none o) + 1) is
work_below (choose qs) ps is = ap (λ o. work_in (parts_or_none o) + 1) is

module _ {A : Type 0} where
  nodes_more : (xs : List (Tree A)) (x : Tree A)
      → nodes_in (plain_parts (parts_of (xs ++ x ∷ []))) ≡ nodes_in (plain_parts (parts_of xs)) + nodes (tree_of x)
  nodes_more [] x = omega arith
  nodes_more (y ∷ ys) x = omega (arith, nodes_more ys x)

  work_more : (xs : List (Tree A)) (x : Tree A) → 0 < length xs
      → work_in (parts_of (xs ++ x ∷ [])) ≡ work_in (parts_of xs) + 2 * nodes (tree_of x)
  work_more [] x some = absurd (omega (arith, some))
  work_more (y ∷ ys) x some = omega (arith, nodes_more ys x)

  -- one more tree is more work
  pub work_rises : (xs : List (Tree A)) (x : Tree A) → work_in (parts_of xs) < work_in (parts_of (xs ++ x ∷ []))
  work_rises [] x = omega (arith, some_work (tree_of x))
  work_rises (y ∷ ys) x = omega (arith, nodes_more ys x, some_nodes (tree_of x))

  -- a tree alone is more work than its parts
  pub work_alone : (xs inner : List (Tree A)) (x : Tree A) → length xs ≡ 0
      → work_of (tree_of x) ≡ work_in (parts_of inner) + 1
      → work_in (parts_of inner) < work_in (parts_of (xs ++ x ∷ []))
  work_alone [] inner x empty opened = omega (arith, opened)
  work_alone (y ∷ ys) inner x empty opened = absurd (omega (arith, empty))

  rotated : (xs : List (Tree A)) (x : Tree A) (n : ℕ) → n ≡ length xs
      → drop n (xs ++ x ∷ []) ++ take n (xs ++ x ∷ []) ≡ x ∷ xs
  rotated xs x n is = ap (λ ys. ys ++ take n (xs ++ x ∷ [])) (drop_at xs (x ∷ []) n (sym is))
      ∙ ap (λ ys. x ∷ ys) (take_at xs (x ∷ []) n (sym is))

  -- a tree beside others is more work than its parts, the first of which is a Row of the others and
  -- its last part
  pub work_under : (rest rest_and_last inner fewer pushed turned : List (Tree A)) (tree last under : Tree A) (n : ℕ)
      → 0 < length rest → nodes (tree_of tree) ≡ nodes_in (plain_parts (parts_of inner)) + 1
      → inner ≡ fewer ++ last ∷ [] → rest_and_last ≡ rest ++ last ∷ [] → tree_of under ≡ row (parts_of rest_and_last)
      → pushed ≡ fewer ++ under ∷ [] → n ≡ length fewer → turned ≡ drop n pushed ++ take n pushed
      → work_in (parts_of turned) < work_in (parts_of (rest ++ tree ∷ []))
  work_under rest rest_and_last inner fewer pushed turned tree last under n some opened split joined is push at turns =
      let all : turned ≡ under ∷ fewer = turns ∙ ap (λ ts. drop n ts ++ take n ts) push ∙ rotated fewer under n at in
      let left : work_in (parts_of turned) ≡ work_of (tree_of under) + 2 * nodes_in (plain_parts (parts_of fewer)) =
      ap (λ ts. work_in (parts_of ts)) all in
      let made : work_of (tree_of under) ≡ work_in (parts_of rest_and_last) + 1 = ap work_of is in
      let beside : work_in (parts_of rest_and_last) ≡ work_in (parts_of (rest ++ last ∷ [])) =
      ap (λ ts. work_in (parts_of ts)) joined in
      let parts : nodes_in (plain_parts (parts_of inner)) ≡ nodes_in (plain_parts (parts_of (fewer ++ last ∷ []))) =
      ap (λ ts. nodes_in (plain_parts (parts_of ts))) split in
      omega (
        arith,
        left,
        made,
        beside,
        parts,
        opened,
        work_more rest last some,
        work_more rest tree some,
        nodes_more fewer last,
      )
