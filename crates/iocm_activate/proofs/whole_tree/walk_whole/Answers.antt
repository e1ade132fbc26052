use Rattle.std.proofs.Common.{◌≡◌, sym, ap, ◌∙◌, length}
use Rattle.iocm_tree.specs.Trees.{tree_of, plain_tree}
use Rattle.iocm_activate.specs.Walked.{Ran}
use Rattle.iocm_activate.proofs.Kept.{kept_now}
use Rattle.iocm_activate.proofs.Whole.{WasWalked, whole, few_nodes, can_take_all_back}
use Rattle.iocm_activate.proofs.whole_tree.walk_whole.Given as given
use Rattle.iocm_activate.proofs.whole_tree.walk_whole.Goals as goal
use Rattle.iocm_activate.proofs.whole_tree.walk_whole.Goals.{After-walk_closed}

-- the tree was walked
ran_alone : (g : given.Over) (c : After-walk_closed g)
    → Ran c.args.plant.now c.new-log.result c.walk_closed.new.plant c.walk_closed.new.log
    → WasWalked c.args.plant.now c.walk_closed.new.plant c.walk_closed.new.log
ran_alone g c ran = record { first = c.new-log.result; none = c.new-log.ensures.done; ran = ran }

pub walk_closed-requires-clause-nodes : goal.walk_closed-requires-clause-nodes
walk_closed-requires-clause-nodes g c =
    few_nodes (plain_tree (tree_of c.args.tree.now)) (sym c.refusal.ensures.value ∙ c.in_default.is)

pub walk_closed-requires-clause-kept : goal.walk_closed-requires-clause-kept
walk_closed-requires-clause-kept g c =
    let none : c.new-log.result.kept ≡ length c.new-log.result.keys.items =
    c.new-log.ensures.kept ∙ sym (ap length c.new-log.ensures.keys) in
    kept_now c.new-log.result c.args.plant.now.state c.is_sound.ensures c.requires.kept none

pub leave-requires : goal.leave-requires
leave-requires g c = record {
  back = can_take_all_back
      (ran_alone g (goal.at.leave-requires g c).After-walk_closed c.in-Ok-Some.ensures.answers.ran);
}

pub leave-requires-in-Err : goal.leave-requires-in-Err
leave-requires-in-Err g c = record {
  back = can_take_all_back (ran_alone g (goal.at.leave-requires-in-Err g c).After-walk_closed c.in-Err.ensures.ran);
}

pub returns-in-Ok-None-clause-accepted : goal.returns-in-Ok-None-clause-accepted
returns-in-Ok-None-clause-accepted g c = record {
  first = c.new-log.result;
  none = c.new-log.ensures.done;
  no_keys = c.new-log.ensures.keys;
  answers = whole (plain_tree (tree_of c.args.tree.now)) c.refusal.result c.in_default.is c.refusal.ensures.meaning
      c.in-Ok-None.field-0-is c.in-Ok-None.ensures.answers;
}
