use Rattle.std.proofs.Common.{length}
use Rattle.iocm_model.specs.Change.Meaning.{meaning}
use Rattle.iocm_history.specs.Change.{change_of}
use Rattle.iocm_activate.specs.Done.{edits_of}
use Rattle.iocm_tree.specs.Trees.{plain_tree, tree_of}
use Rattle.iocm_stage.proofs.Begun.{all_advanced, means_all, room_for}
use Rattle.iocm_stage.proofs.beginning.begin.Goals as goal

pub returns-in_default-clause-same : goal.returns-in_default-clause-same
returns-in_default-clause-same g c = c.take_back.ensures.state c.args.plant.now.state c.in_ok-done.ensures.back

pub go_back-requires : goal.go_back-requires
go_back-requires g c = record {
  stage = record {
    change = change_of (meaning (plain_tree (tree_of c.args.tree.now)) c.args.plant.now.state) c.args.plant.now.state;
    advances = length (edits_of (meaning (plain_tree (tree_of c.args.tree.now)) c.args.plant.now.state));
  };
  before = c.args.plant.now.state;
  is = all_advanced (plain_tree (tree_of c.args.tree.now)) c.args.plant.now.state c.activate.new.plant
      c.is_sound.ensures c.requires.kept c.in_ok-done.ensures.means
      (record { done = c.in_ok-done.done; forward = c.in-Ok.moves.forward; back = c.in-Ok.moves.back })
      c.in_ok-done.ensures.inverse c.in_ok-done.ensures.back
      c.in_ok-done.ensures.effect c.in_ok-done.ensures.performed c.in-Ok.ensures.back c.in-Ok.ensures.none
      (room_for c.in_ok-done.done c.in-Ok.moves.back c.in-Ok.moves.forward c.in-Ok.moves.back.ok.0
      c.in-Ok.moves.back.ok.1 c.in-Ok.ensures.none c.in-Ok.ensures.room);
}

pub returns-clause-means : goal.returns-clause-means
returns-clause-means g c =
    means_all (plain_tree (tree_of c.args.tree.now)) c.args.plant.now.state c.activate.new.plant c.is_sound.ensures
    c.requires.kept c.in_ok-done.ensures.means

pub returns-clause-staged : goal.returns-clause-staged
returns-clause-staged g c = c.go_back.ensures.stage (record {
  change = change_of (meaning (plain_tree (tree_of c.args.tree.now)) c.args.plant.now.state) c.args.plant.now.state;
  advances = length (edits_of (meaning (plain_tree (tree_of c.args.tree.now)) c.args.plant.now.state));
}) c.args.plant.now.state
    (all_advanced (plain_tree (tree_of c.args.tree.now)) c.args.plant.now.state c.activate.new.plant c.is_sound.ensures
    c.requires.kept c.in_ok-done.ensures.means
    (record { done = c.in_ok-done.done; forward = c.in-Ok.moves.forward; back = c.in-Ok.moves.back })
    c.in_ok-done.ensures.inverse c.in_ok-done.ensures.back
    c.in_ok-done.ensures.effect c.in_ok-done.ensures.performed c.in-Ok.ensures.back c.in-Ok.ensures.none
    (room_for c.in_ok-done.done c.in-Ok.moves.back c.in-Ok.moves.forward c.in-Ok.moves.back.ok.0 c.in-Ok.moves.back.ok.1
    c.in-Ok.ensures.none c.in-Ok.ensures.room))

pub returns-clause-same : goal.returns-clause-same
returns-clause-same g c = (c.go_back.ensures.stage (record {
  change = change_of (meaning (plain_tree (tree_of c.args.tree.now)) c.args.plant.now.state) c.args.plant.now.state;
  advances = length (edits_of (meaning (plain_tree (tree_of c.args.tree.now)) c.args.plant.now.state));
}) c.args.plant.now.state
    (all_advanced (plain_tree (tree_of c.args.tree.now)) c.args.plant.now.state c.activate.new.plant c.is_sound.ensures
    c.requires.kept c.in_ok-done.ensures.means
    (record { done = c.in_ok-done.done; forward = c.in-Ok.moves.forward; back = c.in-Ok.moves.back })
    c.in_ok-done.ensures.inverse c.in_ok-done.ensures.back
    c.in_ok-done.ensures.effect c.in_ok-done.ensures.performed c.in-Ok.ensures.back c.in-Ok.ensures.none
    (room_for c.in_ok-done.done c.in-Ok.moves.back c.in-Ok.moves.forward c.in-Ok.moves.back.ok.0 c.in-Ok.moves.back.ok.1
    c.in-Ok.ensures.none c.in-Ok.ensures.room))).along.state
