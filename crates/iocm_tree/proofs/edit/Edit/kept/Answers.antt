use Rattle.std.proofs.Common.{sym, ◌∙◌}
use Rattle.iocm_tree.proofs.Kept.{kept_rows}
use Rattle.iocm_tree.proofs.edit.Edit.kept.Goals as goal

pub returns : goal.returns
returns g c = c.as_slice.ensures.value
    ∙ sym (kept_rows c.self.inside.parts c.args.self.now c.self.invariant c.self.view_is)
