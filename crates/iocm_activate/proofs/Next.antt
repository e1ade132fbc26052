-- The next of the parts of a node, in memory: the rest of the parts is this one and what follows.
use Rattle.std.proofs.Common.{◌≡◌, ℕ, ◌+◌, ◌<◌, ◌≤◌, ◌^◌, List, get_or, length, map, drop, ap, arith}
use Rattle.iocm_model.specs.Change.Tree.{Parts, part, none, nodes_of, nodes_in}
use Rattle.iocm_tree.specs.Trees.{tree_of, parts_of, plain_tree, plain_parts}
use Rattle.iocm_tree.specs.declared.tree.Tree.{Tree}
use Rattle.iocm_tree.proofs.Trees.{nodes, nodes_among, nodes_of_part, rest_at, none_left}

-- the parts from a place on
abbrev pub from : {A : Type 0} → List (Tree A) → ℕ → Parts
from shown i = plain_parts (parts_of (drop i shown))

-- a part is the one at a place
pub record IsNext {A : Type 0} (shown : List (Tree A)) (i : ℕ) (x : Tree A) : Type 0 where
  pub within : i < length shown
  pub is : x ≡ get_or shown i x

module _ {A : Type 0} {shown : List (Tree A)} {i : ℕ} {x : Tree A} (next : IsNext shown i x) where
  -- the parts from there on are this one and those from the next place on
  pub next_and_rest : from shown i ≡ part (plain_tree (tree_of x)) (from shown (i + 1))
  next_and_rest = ap plain_parts (rest_at shown i x next.within next.is)

  -- the numbers of the nodes from one part on: that part's, and those of the parts from the next on
  pub fewer : (n : ℕ) → n + nodes_in (from shown i) < 2 ^ 64
      → (n + nodes_of (plain_tree (tree_of x))) + nodes_in (from shown (i + 1)) < 2 ^ 64
  fewer n few = let r = ap nodes_in next_and_rest in omega (arith, r, few)

  -- it has no more nodes than all of them
  pub next_among : (xs : List (Tree A)) → shown ≡ xs → nodes (tree_of x) ≤ nodes_among (map tree_of xs)
  next_among xs all = nodes_of_part shown xs all i x next.within next.is

-- from the end on there are none
pub none_next : {A : Type 0} → (shown : List (Tree A)) (i : ℕ) → length shown ≤ i → from shown i ≡ none
none_next shown i past = ap plain_parts (none_left shown i past)
