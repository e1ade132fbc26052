use Rattle.std.proofs.Common.{◌∙◌, map}
use Rattle.std.proofs.lemmas.Iterator.Adapters.{YieldsList-from_vec}
use Rattle.std.proofs.lemmas.Iterator.Consumers.{YieldsList-end}
use Rattle.iocm_model.specs.Change.Edit.{delete}
use Rattle.iocm_tree.specs.Carried.{bare}
use Rattle.iocm_tree_reader.proofs.Yielding.{of_all}
use Rattle.iocm_tree_reader.proofs.leaves.deletions.Goals as goal

pub returns : goal.returns
returns g c =
    let given = c.into_iter-key-iterator.ensures.into_iter_gives in
    let road = YieldsList-from_vec {s = c.into_iter-key-iterator.result} c.args.keys.items given.0
    (given.1 ∙ c.args.keys.ok.0) in
    let all = YieldsList-end road c.loop-key.yielded c.loop-key.key-iterator c.loop-key.yielded_by c.next.result
    c.next.new.self c.in-None.is c.next.ensures.steps in
    of_all (map (λ k. bare (delete k))) _ c.loop-key.yielded c.args.keys.items c.loop-key.invariant all.0
