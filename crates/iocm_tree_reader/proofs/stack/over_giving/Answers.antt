use Rattle.std.proofs.Common.{ap, ◌∙◌}
use Rattle.iocm_tree_reader.specs.Sizes.{over, size_with}
use Rattle.iocm_tree_reader.specs.Views.{nodes_seen, stack_seen}
use Rattle.iocm_tree_reader.proofs.Limits.{over_edits}
use Rattle.iocm_tree_reader.proofs.stack.over_giving.Goals as goal

pub returns : goal.returns
returns g c =
    let top = nodes_seen c.args.reading.now.top in
    let os = stack_seen c.args.reading.now.stack.items in
    c.over_with.ensures ∙ ap (λ s. over (size_with s top os)) c.size_of_edits.ensures
    ∙ over_edits c.args.edits.now top os
