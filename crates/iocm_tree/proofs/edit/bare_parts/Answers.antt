use Rattle.iocm_tree.proofs.Bare.{bare_edit}
use Rattle.iocm_tree.proofs.edit.bare_parts.Goals as goal

pub returns-clause-value : goal.returns-clause-value
returns-clause-value g c = bare_edit
    (record {
      action = c.args.action;
      places = c.new.result;
      kept = c.new-2.result;
      frees = c.new-3.result;
      meets = c.new-4.result;
    })
    (record {
      no_places = c.new.ensures.items;
      no_kept = c.new-2.ensures.items;
      no_frees = c.new-3.ensures.items;
      no_meets = c.new-4.ensures.items;
    })
