use Rattle.std.proofs.Common.{◌+◌, ◌<◌, ◌≤◌, ◌^◌, length, ap, subst, ◌∙◌, arith, rules}
use Rattle.iocm_model.specs.Change.Tree.{nodes_of, nodes_in}
use Rattle.iocm_model.specs.Change.Meaning.{without_parts}
use Rattle.iocm_tree.specs.Trees.{tree_of, plain_tree}
use Rattle.iocm_activate.specs.Walked.{Answers}
use Rattle.iocm_activate.proofs.Kept.{sound_now}
use Rattle.iocm_activate.proofs.Leaves.{on_err}
use Rattle.iocm_activate.proofs.Next.{IsNext, from, fewer, next_among}
use Rattle.iocm_activate.proofs.Parts.{RanFromMark, closed, can_take_back, leads_since}
use Rattle.iocm_activate.proofs.Runs.{ran_on}
use Rattle.iocm_activate.proofs.UnderWay.{walks_first, walks_next, walks_no_further, walks_to_the_end}
use Rattle.iocm_activate.proofs.UnderWay.{tries_first, tries_next, tries_no_further, tries_to_the_end}
use Rattle.iocm_activate.proofs.walk.+walk.Given as given
use Rattle.iocm_activate.proofs.walk.+walk.Goals as goal
use Rattle.iocm_activate.proofs.walk.+walk.Goals.{walk_all-After-part-item, walk_first-After-part-item}
use Rattle.iocm_activate.proofs.walk.+walk.Goals.{walk_first-In-Some}

-- ---- parts in order

-- a part is the next one
next_in_order : (g : given.Over) (t : _) (c : walk_all-After-part-item g t)
    → IsNext c.deref-part-items.result.now c.loop-part.part-index c.part-item.result
next_in_order g t c = record { within = c.loop-part-test.true; is = c.part-item.is }

-- its nodes have numbers, and so have those of the parts after it
few_in_order : (g : given.Over) (t : _) (c : walk_all-After-part-item g t)
    → (c.loop-part.next + nodes_of (plain_tree (tree_of c.part-item.result)))
    + nodes_in (from c.deref-part-items.result.now (c.loop-part.part-index + 1)) < 2 ^ 64
few_in_order g t c = fewer (next_in_order g t c) c.loop-part.next c.loop-part.invariant.few

pub walk_all-loop-part-init : goal.walk_all-loop-part-init
walk_all-loop-part-init g t c =
    walks_first c.what_happens_between.ensures.same_places c.deref-part-items.result.now c.args.parts.now.items
    c.deref-part-items.ensures.value c.args.node c.args.plant.now c.args.log.now c.requires.nodes c.requires.kept

pub walk_all-nodes-size-requires : goal.walk_all-nodes-size-requires
walk_all-nodes-size-requires g t c = let few =
    few_in_order g t (goal.at.walk_all-nodes-size-requires g t c).After-part-item in omega (arith, few)

pub walk_all-walk-requires : goal.walk_all-walk-requires
walk_all-walk-requires g t c κs within =
    let at = (goal.at.walk_all-walk-requires g t c).After-part-item in
    let less = next_among (next_in_order g t at) c.args.parts.now.items c.deref-part-items.ensures.value in
    let few = few_in_order g t at in
    let small : c.loop-part.next + nodes_of (plain_tree (tree_of c.part-item.result)) < 2 ^ 64 = omega (arith, few) in
    let kept = c.loop-part.invariant.kept in
    search rules

pub walk_all-returns-in_err-why-clause-ran : goal.walk_all-returns-in_err-why-clause-ran
walk_all-returns-in_err-why-clause-ran g t c =
    let between = c.what_happens_between.ensures in
    on_err c.from_residual.result
    (ran_on between.places between.still c.loop-part.invariant.goes.ran c.in_err-why.ensures.ran
    (sound_now c.walk.ensures.kept).lived)

pub walk_all-returns-in-Some-clause-answers : goal.walk_all-returns-in-Some-clause-answers
walk_all-returns-in-Some-clause-answers g t c =
    let next = next_in_order g t (goal.at.walk_all-returns-in-Some-clause-answers g t c).After-part-item in
    walks_no_further c.loop-part.invariant next c.what_happens_between.ensures.places
    c.what_happens_between.ensures.still
    (subst (Answers _ _ _ _ _) c.in-Some.is c.in_ok-why.ensures.answers) c.walk.ensures.kept

pub walk_all-overflow_add-next : goal.walk_all-overflow_add-next
walk_all-overflow_add-next g t c =
    let few = few_in_order g t (goal.at.walk_all-overflow_add-next g t c).After-part-item in
    let size = c.nodes-size.ensures in
    omega (arith, few, size)

pub walk_all-loop-part-preserved : goal.walk_all-loop-part-preserved
walk_all-loop-part-preserved g t c =
    let next = next_in_order g t (goal.at.walk_all-loop-part-preserved g t c).After-part-item in
    walks_next c.loop-part.invariant next c.what_happens_between.ensures.places c.what_happens_between.ensures.still
    (subst (Answers _ _ _ _ _) c.in-None.is c.in_ok-why.ensures.answers) c.walk.ensures.kept c.nodes-size.result
    c.nodes-size.ensures

pub walk_all-returns-clause-answers : goal.walk_all-returns-clause-answers
walk_all-returns-clause-answers g t c =
    let past : length c.deref-part-items.result.now ≤ c.loop-part.part-index = omega (arith, c.loop-part-test.false) in
    walks_to_the_end c.loop-part.invariant past

-- ---- where the rules are to be kept

pub walk_closed-returns-in-None-clause-answers : goal.walk_closed-returns-in-None-clause-answers
walk_closed-returns-in-None-clause-answers g t c =
    let between = c.what_happens_between.ensures in
    closed between.same_places between.places between.still c.args.node c.broken.new.log c.broken.result
    (subst (Answers _ _ _ _ _) c.in-None.is c.in_ok-why.ensures.answers) (ap (λ ds. ds.items) c.broken.ensures.done)
    (ap (λ ks. ks.items) c.broken.ensures.keys) (sound_now c.walk.ensures.kept).lived c.broken.ensures.value

pub walk_group-returns-in-None-clause-answers : goal.walk_group-returns-in-None-clause-answers
walk_group-returns-in-None-clause-answers g t c =
    let between = c.what_happens_between.ensures in
    closed between.same_places between.places between.still c.args.node c.broken.new.log c.broken.result
    (subst (Answers _ _ _ _ _) c.in-None.is c.in_ok-why.ensures.answers) (ap (λ ds. ds.items) c.broken.ensures.done)
    (ap (λ ks. ks.items) c.broken.ensures.keys) (sound_now c.walk_all.ensures.kept).lived c.broken.ensures.value

-- ---- the parts of a Choose

-- a part is the next one
next_to_choose : (g : given.Over) (t : _) (c : walk_first-After-part-item g t)
    → IsNext c.deref-part-items.result.now c.loop-part.part-index c.part-item.result
next_to_choose g t c = record { within = c.loop-part-test.true; is = c.part-item.is }

-- its nodes have numbers, and so have those of the parts after it
few_to_choose : (g : given.Over) (t : _) (c : walk_first-After-part-item g t)
    → (c.loop-part.next + nodes_of (plain_tree (tree_of c.part-item.result)))
    + nodes_in (from c.deref-part-items.result.now (c.loop-part.part-index + 1)) < 2 ^ 64
few_to_choose g t c = fewer (next_to_choose g t c) c.loop-part.next c.loop-part.invariant.few

-- what was done for it is after the mark
ran_from_mark : (g : given.Over) (t : _) (c : walk_first-In-Some g t)
    → RanFromMark c.loop-part.plant c.loop-part.log c.walk_closed.new.plant
    c.walk_closed.new.log c.mark-mark.result.done c.mark-mark.result.keys
ran_from_mark g t c = record {
  ran = c.in_ok-walk_closed.ensures.answers.ran;
  done_mark = c.mark-mark.ensures.done;
  keys_mark = c.mark-mark.ensures.keys;
}

pub walk_first-loop-part-init : goal.walk_first-loop-part-init
walk_first-loop-part-init g t c =
    tries_first c.what_happens_between.ensures.same_places c.deref-part-items.result.now c.args.parts.now.items
    c.deref-part-items.ensures.value (c.args.node + 1) c.no_parts-last.result (without_parts c.args.node)
    c.no_parts-last.ensures
    c.args.plant.now c.args.log.now c.requires.nodes c.requires.kept

pub walk_first-nodes-size-requires : goal.walk_first-nodes-size-requires
walk_first-nodes-size-requires g t c = let few =
    few_to_choose g t (goal.at.walk_first-nodes-size-requires g t c).After-part-item in omega (arith, few)

pub walk_first-walk_closed-requires : goal.walk_first-walk_closed-requires
walk_first-walk_closed-requires g t c κs within =
    let at = (goal.at.walk_first-walk_closed-requires g t c).After-part-item in
    let less = next_among (next_to_choose g t at) c.args.parts.now.items c.deref-part-items.ensures.value in
    let few = few_to_choose g t at in
    let small : c.loop-part.next + nodes_of (plain_tree (tree_of c.part-item.result)) < 2 ^ 64 = omega (arith, few) in
    let kept = c.loop-part.invariant.kept in
    search rules

pub walk_first-returns-in_err-walk_closed-clause-ran : goal.walk_first-returns-in_err-walk_closed-clause-ran
walk_first-returns-in_err-walk_closed-clause-ran g t c =
    let between = c.what_happens_between.ensures in
    on_err c.from_residual.result
    (ran_on between.places between.still c.loop-part.invariant.chooses.ran c.in_err-walk_closed.ensures.ran
    (sound_now c.walk_closed.ensures.kept).lived)

pub walk_first-returns-in-None-clause-answers : goal.walk_first-returns-in-None-clause-answers
walk_first-returns-in-None-clause-answers g t c =
    let next = next_to_choose g t (goal.at.walk_first-returns-in-None-clause-answers g t c).After-part-item in
    tries_no_further c.loop-part.invariant next c.what_happens_between.ensures.places
    c.what_happens_between.ensures.still
    (subst (Answers _ _ _ _ _) c.in-None.is c.in_ok-walk_closed.ensures.answers) c.walk_closed.ensures.kept

pub walk_first-take_back-requires : goal.walk_first-take_back-requires
walk_first-take_back-requires g t c =
    can_take_back (ran_from_mark g t (goal.at.walk_first-take_back-requires g t c).In-Some)

pub walk_first-overflow_add-next-in-Some : goal.walk_first-overflow_add-next-in-Some
walk_first-overflow_add-next-in-Some g t c =
    let few = few_to_choose g t (goal.at.walk_first-overflow_add-next-in-Some g t c).After-part-item in
    let size = c.nodes-size.ensures in
    omega (arith, few, size)

pub walk_first-loop-part-preserved : goal.walk_first-loop-part-preserved
walk_first-loop-part-preserved g t c =
    let at = goal.at.walk_first-loop-part-preserved g t c in
    let mark = ran_from_mark g t at.In-Some in
    tries_next c.loop-part.invariant (next_to_choose g t at.After-part-item) c.what_happens_between.ensures.places
    c.what_happens_between.ensures.still
    (subst (Answers _ _ _ _ _) c.in-Some.is c.in_ok-walk_closed.ensures.answers) mark c.take_back.new.plant
    c.take_back.new.log
    (c.take_back.ensures.state c.loop-part.plant.state (leads_since mark)) c.take_back.ensures.room
    c.take_back.ensures.done c.take_back.ensures.keys
    (c.take_back.ensures.kept ∙ c.mark-mark.ensures.kept) c.nodes-size.result c.nodes-size.ensures

pub walk_first-returns-clause-answers : goal.walk_first-returns-clause-answers
walk_first-returns-clause-answers g t c =
    let past : length c.deref-part-items.result.now ≤ c.loop-part.part-index = omega (arith, c.loop-part-test.false) in
    tries_to_the_end c.loop-part.invariant past
