use Rattle.std.proofs.Common.{[], ◌∷◌, ◌++◌, ◌∙◌, ap, map, sym}
use Rattle.std.proofs.lemmas.Iterator.Adapters.{YieldsList-from_vec}
use Rattle.std.proofs.lemmas.Iterator.Consumers.{YieldsList-end}
use Rattle.std.proofs.lemmas.List.{map-append}
use Rattle.iocm_tree.specs.Trees.{leaf}
use Rattle.iocm_tree_reader.specs.Views.{nodes_seen}
use Rattle.iocm_tree_reader.proofs.Yielding.{of_all}
use Rattle.iocm_tree_reader.proofs.gathering.leaves_of.Goals as goal

pub loop-edit-preserved : goal.loop-edit-preserved
loop-edit-preserved g c =
    c.in_ok-nodes.ensures ∙ ap (λ v. nodes_seen c.loop-edit.nodes ++ v ∷ []) c.leaf_node.ensures
    ∙ ap (λ vs. vs ++ leaf c.in-Some.edit ∷ []) c.loop-edit.invariant
    ∙ sym (map-append leaf c.loop-edit.yielded (c.in-Some.edit ∷ []))

pub returns : goal.returns
returns g c =
    let given = c.into_iter-edit-iterator.ensures.into_iter_gives in
    let road = YieldsList-from_vec {s = c.into_iter-edit-iterator.result} c.args.edits.items given.0
    (given.1 ∙ c.args.edits.ok.0) in
    let all = YieldsList-end road c.loop-edit.yielded c.loop-edit.edit-iterator c.loop-edit.yielded_by c.next.result
    c.next.new.self c.in-None.is c.next.ensures.steps in
    of_all (map leaf) _ c.loop-edit.yielded c.args.edits.items c.loop-edit.invariant all.0
