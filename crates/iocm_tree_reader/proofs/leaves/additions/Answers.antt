use Rattle.std.proofs.Common.{◌∙◌, map}
use Rattle.std.proofs.lemmas.Iterator.Adapters.{YieldsList-from_vec}
use Rattle.std.proofs.lemmas.Iterator.Consumers.{YieldsList-end}
use Rattle.iocm_model.specs.Change.Edit.{add}
use Rattle.iocm_tree.specs.Carried.{bare}
use Rattle.iocm_tree_reader.proofs.Yielding.{of_all}
use Rattle.iocm_tree_reader.proofs.leaves.additions.Goals as goal

pub returns : goal.returns
returns g c =
    let given = c.into_iter-entry-iterator.ensures.into_iter_gives in
    let road = YieldsList-from_vec {s = c.into_iter-entry-iterator.result} c.args.records.items given.0
    (given.1 ∙ c.args.records.ok.0) in
    let all = YieldsList-end road c.loop-entry.yielded c.loop-entry.entry-iterator c.loop-entry.yielded_by c.next.result
    c.next.new.self c.in-None.is c.next.ensures.steps in
    of_all (map (λ r. bare (add r))) _ c.loop-entry.yielded c.args.records.items c.loop-entry.invariant all.0
