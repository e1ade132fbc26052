-- The change tree of a number, and a copy of it.
use Rattle.std.proofs.Common.{◌≡◌, ℕ, ◌-◌, true, false, ltb, IfOk, List, length, sym, ap, ◌∙◌}
use Rattle.std.specs.Prelude.{Some, Result, Ok, Err}
use Rattle.std.specs.List.{slice_get, slice_index_or}
use Rattle.std.specs.Option.{option_map, option_map_or}
use Rattle.std.proofs.lemmas.Bool.{ltb-false, ltb-true}
use Rattle.std.proofs.lemmas.Option.{slice_get-get_or, slice_get-map, slice_get_past}
use Rattle.std.specs.declared.alloc.Global.{Global}
use Rattle.iocm_model.specs.Change.Tree.{ChangeTree, row, none}
use Rattle.iocm_tree.specs.Trees.{plain_tree, tree_of}
use Rattle.iocm_tree.specs.declared.tree.Tree.{Tree}
use Rattle.iocm_operation.specs.Asked.{trees_in}
use Rattle.iocm_operation.specs.Saying.{tree_at}

abbrev seen_plain : Tree Global → ChangeTree
seen_plain t = plain_tree (tree_of t)

-- a tree that is there
pub tree_there : (ts : List (Tree Global)) (k i : ℕ) (t : Tree Global) → i ≡ k - 1 → true ≡ ltb i (length ts)
    → t ≡ slice_index_or ts i t → tree_at (trees_in ts) k ≡ plain_tree (tree_of t)
tree_there ts k i t at less is =
    ap (λ o. option_map_or (λ (p : ChangeTree). p) o (row none))
    (ap (slice_get (trees_in ts)) (sym at) ∙ slice_get-map seen_plain ts i
    ∙ ap (option_map seen_plain) (slice_get-get_or ts i t (ltb-true i (length ts) (sym less)) ∙ ap Some (sym is)))

-- a tree that isn't
pub no_tree_there : (ts : List (Tree Global)) (k i : ℕ) → i ≡ k - 1 → false ≡ ltb i (length ts)
    → tree_at (trees_in ts) k ≡ row none
no_tree_there ts k i at not_less =
    ap (λ o. option_map_or (λ (p : ChangeTree). p) o (row none))
    (ap (slice_get (trees_in ts)) (sym at) ∙ slice_get-map seen_plain ts i
    ∙ ap (option_map seen_plain) (slice_get_past ts i (ltb-false i (length ts) (sym not_less))))

pub copied_is : {E : Type 0} → (r : Result (Tree Global) E) (t : Tree Global) (p : ChangeTree)
    → IfOk r (λ copy. tree_of copy ≡ tree_of t) → p ≡ plain_tree (tree_of t)
    → IfOk r (λ tree. plain_tree (tree_of tree) ≡ p)
copied_is (Ok copy) t p e is = ap plain_tree e ∙ sym is
copied_is (Err e) t p n is = n
