-- How many nodes a tree has.
use Rattle.std.proofs.Common.{◌≡◌, ℕ, ◌+◌, ◌*◌, ◌≤◌, max, Bool, true, false, nat_eq, cond, arith, refl}
use Rattle.std.proofs.Math.Nat.{mul-le-mul_right}
use Rattle.std.proofs.lemmas.Bool.{eqb-true, eqb-false}
use Rattle.iocm_model.specs.Change.Tree.{ChangeTree, Parts, leaf, row, group, choose, none, part, leaves_of, leaves_in}
use Rattle.iocm_model.specs.Change.Tree.{depth_of, depth_in, nodes_of, nodes_in, or_one}
use Rattle.iocm_model.specs.Laws.Trees.{NodesAreBounded}

over_at : (b : Bool) (nodes depth leaves : ℕ) → nat_eq leaves 0 ≡ b → nodes ≤ depth * leaves
    → nodes + 1 ≤ (depth + 1) * cond b 1 leaves
over_at true nodes depth leaves is h =
    let empty : leaves ≡ 0 = eqb-true leaves 0 is in
    let few : nodes ≤ depth * 0 = rw (← empty) h in
    omega arith
over_at false nodes depth leaves is h =
    let some : 1 ≤ leaves = grind (arith, eqb-false) in
    omega (arith, some, h)

-- a node over parts that are bounded
over_parts : (nodes depth leaves : ℕ) → nodes ≤ depth * leaves → nodes + 1 ≤ (depth + 1) * or_one leaves
over_parts nodes depth leaves h = over_at (nat_eq leaves 0) nodes depth leaves refl h

-- a part before parts that are bounded
before_parts : (n d l m e k : ℕ) → n ≤ d * l → m ≤ e * k → n + m ≤ max d e * (l + k)
before_parts n d l m e k h g =
    let first : d ≤ max d e = omega arith in
    let second : e ≤ max d e = omega arith in
    omega (arith, mul-le-mul_right l first, mul-le-mul_right k second, h, g)

mutual
  bounded : (p : ChangeTree) → nodes_of p ≤ depth_of p * leaves_of p
  bounded (leaf e) = omega arith
  bounded (row ps) = over_parts (nodes_in ps) (depth_in ps) (leaves_in ps) (bounded_in ps)
  bounded (group ps) = over_parts (nodes_in ps) (depth_in ps) (leaves_in ps) (bounded_in ps)
  bounded (choose ps) = over_parts (nodes_in ps) (depth_in ps) (leaves_in ps) (bounded_in ps)

  bounded_in : (ps : Parts) → nodes_in ps ≤ depth_in ps * leaves_in ps
  bounded_in none = omega arith
  bounded_in (part p ps) =
      before_parts (nodes_of p) (depth_of p) (leaves_of p) (nodes_in ps) (depth_in ps) (leaves_in ps) (bounded p)
      (bounded_in ps)

pub nodes_are_bounded : NodesAreBounded
nodes_are_bounded = bounded
