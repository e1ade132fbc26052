use Rattle.std.proofs.Common.{◌≤◌, None, Some, length, reverse, ap, ◌∙◌, arith}
use Rattle.std.proofs.lemmas.List.{nil_from_length}
use Rattle.iocm_tree.specs.Trees.{tree_of, parts_of, plain_parts}
use Rattle.iocm_activate.specs.Fitting.{gone_back_along, way_gone}
use Rattle.iocm_activate.proofs.Trying.{Reached, sets_out, goes_on, stops, lacks_its_own, arrives, no_edit, an_edit}
use Rattle.iocm_activate.proofs.fitting.all_go_back.Given as given
use Rattle.iocm_activate.proofs.fitting.all_go_back.Goals as goal
use Rattle.iocm_activate.proofs.fitting.all_go_back.Goals.{After-part-item}

-- a part is reached
reached : (g : given.Over) (c : After-part-item g)
    → Reached (gone_back_along (plain_parts (parts_of c.args.parts.now.items)) (reverse c.args.performed.now)
    c.args.plant.now.state)
    c.deref-part-items.result.now c.loop-part.part-index c.part-item.result c.loop-part.left.now c.args.plant.now
    c.args.log.now
    c.loop-part.plant c.loop-part.log
reached g c = record {
  next = record { within = c.loop-part-test.true; is = c.part-item.is };
  way = c.loop-part.invariant;
}

pub loop-part-init : goal.loop-part-init
loop-part-init g c = sets_out c.what_happens_between.ensures.same_places c.deref-part-items.result.now
    c.args.parts.now.items c.args.performed.now
    c.args.plant.now c.args.log.now c.deref-part-items.ensures.value c.requires.kept

pub returns-in_default-clause-went : goal.returns-in_default-clause-went
returns-in_default-clause-went g c = lacks_its_own
    (reached g (goal.at.returns-in_default-clause-went g c).After-part-item)
    (nil_from_length c.loop-part.left.now c.in_default.ensures.cases)

pub returns-in_default-clause-back : goal.returns-in_default-clause-back
returns-in_default-clause-back g c = c.loop-part.invariant.back

pub returns-in_default-clause-room : goal.returns-in_default-clause-room
returns-in_default-clause-room g c = c.loop-part.invariant.room

pub returns-in_default-clause-kept : goal.returns-in_default-clause-kept
returns-in_default-clause-kept g c = c.loop-part.invariant.kept

pub goes_back-requires : goal.goes_back-requires
goes_back-requires g c = record { kept = c.loop-part.invariant.kept }

pub returns-in_err-goes_back-clause-back : goal.returns-in_err-goes_back-clause-back
returns-in_err-goes_back-clause-back g c = λ s leads. c.goes_back.ensures.back s (c.loop-part.invariant.back s leads)

pub returns-in_err-goes_back-clause-room : goal.returns-in_err-goes_back-clause-room
returns-in_err-goes_back-clause-room g c =
    c.what_happens_between.ensures.places c.args.plant.now.room c.loop-part.plant.room c.goes_back.new.plant.room
    c.loop-part.invariant.room c.goes_back.ensures.room

pub returns-then-not-branch-clause-went : goal.returns-then-not-branch-clause-went
returns-then-not-branch-clause-went g c =
    stops (reached g (goal.at.returns-then-not-branch-clause-went g c).After-part-item)
    c.in-Some.rest.now c.in-Some.was.now c.in-Some.ensures.cases.0
    (an_edit (tree_of c.part-item.result) c.in-Some-edit_of.edit.now c.in-Some.was.now c.loop-part.plant.state None
    c.in-Some-edit_of.ensures
    (c.in_ok-goes_back.ensures.went ∙ ap (λ b. way_gone b c.goes_back.new.plant.state) c.if-not-branch.true))

pub returns-in_default-edit_of-clause-went : goal.returns-in_default-edit_of-clause-went
returns-in_default-edit_of-clause-went g c =
    stops (reached g (goal.at.returns-in_default-edit_of-clause-went g c).After-part-item)
    c.in-Some.rest.now c.in-Some.was.now c.in-Some.ensures.cases.0
    (no_edit (tree_of c.part-item.result) c.in-Some.was.now c.loop-part.plant.state c.in_default-edit_of.ensures)

pub returns-then-not-branch-clause-back : goal.returns-then-not-branch-clause-back
returns-then-not-branch-clause-back g c = λ s leads. c.goes_back.ensures.back s (c.loop-part.invariant.back s leads)

pub returns-then-not-branch-clause-room : goal.returns-then-not-branch-clause-room
returns-then-not-branch-clause-room g c =
    c.what_happens_between.ensures.places c.args.plant.now.room c.loop-part.plant.room c.goes_back.new.plant.room
    c.loop-part.invariant.room c.goes_back.ensures.room

pub loop-part-preserved : goal.loop-part-preserved
loop-part-preserved g c =
    goes_on (reached g (goal.at.loop-part-preserved g c).After-part-item) c.what_happens_between.ensures.places
    c.in-Some.rest.now c.in-Some.was.now c.in-Some.ensures.cases.0 c.goes_back.new.plant c.goes_back.new.log
    (an_edit (tree_of c.part-item.result) c.in-Some-edit_of.edit.now c.in-Some.was.now c.loop-part.plant.state
    (Some c.goes_back.new.plant.state)
    c.in-Some-edit_of.ensures
    (c.in_ok-goes_back.ensures.went ∙ ap (λ b. way_gone b c.goes_back.new.plant.state) c.if-not-branch.false))
    c.goes_back.ensures.back c.goes_back.ensures.room c.goes_back.ensures.kept

pub returns-clause-went : goal.returns-clause-went
returns-clause-went g c =
    let past : length c.deref-part-items.result.now ≤ c.loop-part.part-index = omega (arith, c.loop-part-test.false) in
    arrives c.deref-part-items.result.now c.loop-part.part-index past c.loop-part.invariant

pub returns-clause-back : goal.returns-clause-back
returns-clause-back g c = c.loop-part.invariant.back

pub returns-clause-room : goal.returns-clause-room
returns-clause-room g c = c.loop-part.invariant.room

pub returns-clause-kept : goal.returns-clause-kept
returns-clause-kept g c = c.loop-part.invariant.kept
