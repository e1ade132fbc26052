-- What came of the script is an operation on the core.
use Rattle.std.proofs.Common.{◌≡◌, List, [], ◌∷◌, refl, ap, subst, inl}
use Rattle.std.specs.Prelude.{map}
use Rattle.iocm_core.specs.Seen.{Core}
use Rattle.iocm_operation.specs.Running.{IsOperation}
use Rattle.iocm_tree.specs.Trees.{plain_tree, tree_of}
use Rattle.iocm_tree.specs.declared.tree.Tree.{Tree}
use Rattle.iocm_console.specs.Shown.{done}
use Rattle.iocm_answer.proofs.running.play.Goals as goal

plain_trees : {A : Type 0} (ts : List (Tree A)) → map (λ t. plain_tree (tree_of t)) ts ≡ map plain_tree (map tree_of ts)
plain_trees [] = refl
plain_trees (t ∷ ts) = ap (λ ps. plain_tree (tree_of t) ∷ ps) (plain_trees ts)

pub returns-in_ok-ran_of-in-Ok : goal.returns-in_ok-ran_of-in-Ok
returns-in_ok-ran_of-in-Ok g c m config room same =
    let ts = c.args.trees.now in
    let o = c.in-Ok.operated in
    let op = subst (λ (k : Core). IsOperation k (map plain_tree (map tree_of ts)) c.args.script.now o) same
    (subst (λ ps. IsOperation c.args.core ps c.args.script.now o) (plain_trees ts) c.in-Ok.ensures) in
    inl (o, op, ap done (c.in_ok-ran_of-in-Ok.ensures m))
