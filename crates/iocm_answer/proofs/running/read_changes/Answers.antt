-- One change deck more is read, or is refused.
use Rattle.std.proofs.Common.{◌+◌, [], ◌∷◌, sym, ap, subst, ◌∙◌, map}
use Rattle.std.proofs.lemmas.List.{map-append}
use Rattle.iocm_types.specs.Fault.{Fails}
use Rattle.iocm_tree.specs.Trees.{tree_of}
use Rattle.iocm_tree_writer.specs.Again.{tree_in}
use Rattle.iocm_console.specs.Refusal.{of_fault}
use Rattle.iocm_answer.proofs.ChangesRead.{all_read, decides_err, one_more, refuses_at, AreReadTo}
use Rattle.iocm_answer.proofs.Told.{handed_on}
use Rattle.iocm_answer.proofs.running.read_changes.Goals as goal

pub loop-change-preserved : goal.loop-change-preserved
loop-change-preserved c =
    let old = c.loop-change.trees.items in
    let tree = c.in_ok-read_change.field-0 in
    subst (λ ts. AreReadTo (λ v. v.items) c.args.changes.now ts (c.loop-change.change-index + 1))
    (sym (ap (map tree_of) c.in_ok-push.ensures.items ∙ map-append tree_of old (tree ∷ [])))
    (one_more (λ v. v.items) c.args.changes.now c.loop-change.change-index c.change-item.result (map tree_of old)
    (tree_of tree) c.loop-change-test.true c.change-item.is c.loop-change.invariant
    (ap tree_in (sym c.deref.ensures.value) ∙ c.in_ok-read_change.ensures.tree))

pub returns-in_err-read_change : goal.returns-in_err-read_change
returns-in_err-read_change c =
    let fault = c.in_err-read_change.field-0.0.fault in
    decides_err _ c.from_residual.result _ (of_fault fault)
    (handed_on c.from_residual.result (of_fault fault) c.from_residual.ensures)
    (refuses_at (λ v. v.items) c.args.changes.now c.loop-change.change-index c.change-item.result
    (map tree_of c.loop-change.trees.items) fault c.loop-change-test.true c.change-item.is c.loop-change.invariant
    (subst (λ xs. Fails fault (tree_in xs)) c.deref.ensures.value c.in_err-read_change.ensures.fault))

pub returns : goal.returns
returns c =
    all_read (λ v. v.items) c.args.changes.now c.loop-change.change-index (map tree_of c.loop-change.trees.items)
    c.loop-change-test.false c.loop-change.invariant
