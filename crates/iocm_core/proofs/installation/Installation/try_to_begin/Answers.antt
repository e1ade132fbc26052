-- What a beginning does.
use Rattle.std.proofs.Common.{Some, refl, sym, subst}
use Rattle.iocm_model.specs.Laws.Trees.{KeepsTheRules}
use Rattle.iocm_model.specs.Change.Runs.{state_after_all}
use Rattle.iocm_model.specs.Change.Meaning.{meaning}
use Rattle.iocm_activate.specs.Done.{edits_of}
use Rattle.iocm_tree.specs.Trees.{plain_tree, tree_of}
use Rattle.iocm_plant.specs.Operating.{Operating}
use Rattle.iocm_core.proofs.Changes.{begun_by}
use Rattle.iocm_core.proofs.Kept.{rules_kept, on_ok}
use Rattle.iocm_core.proofs.installation.Installation.try_to_begin.Goals as goal

pub begin-requires : goal.begin-requires
begin-requires c =
    let kept = rules_kept c.args.self.now c.requires.running c.requires.idle in
    record { kept = subst (λ (p : Operating). KeepsTheRules p.state) (sym c.make_room.ensures.plant) kept }

pub returns-in-Ok-clause-done : goal.returns-in-Ok-clause-done
returns-in-Ok-clause-done c =
    let t = plain_tree (tree_of c.args.tree.now) in
    let r = c.make_room.new.self in
    let room = c.make_room.ensures in
    begun_by t c.args.self.now r (record r { plant = c.begin.new.plant; stage = Some c.in-Ok.staged })
    room.plant room.rest c.begin.new.plant c.in-Ok.staged c.left-edits.result
    (state_after_all (edits_of (meaning t r.plant.state)) r.plant.state)
    (on_ok c.make_room.result c.if-is_err.ensures.value room.room)
    c.in-Ok.ensures.means c.in-Ok.ensures.staged c.left-edits.ensures refl refl refl refl
