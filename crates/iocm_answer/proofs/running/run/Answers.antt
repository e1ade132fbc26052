-- The trees and the script were read, and the script is played on a new core.
use Rattle.std.proofs.Common.{[], map, inl, inr, ap, subst, ◌∙◌}
use Rattle.std.proofs.lemmas.List.{length-map}
use Rattle.iocm_model.specs.Operation.State.{State}
use Rattle.iocm_script.specs.Scripts.{script_in}
use Rattle.iocm_tree.specs.Trees.{tree_of}
use Rattle.iocm_answer.specs.Answer.{printed}
use Rattle.iocm_answer.specs.Commands.Run.{IsRun, ShowsOne}
use Rattle.iocm_answer.proofs.RunTexts.{is_of_machine}
use Rattle.iocm_answer.proofs.running.run.Goals as goal

pub returns : goal.returns
returns g c m =
    let config = c.args.plant.state.config in
    let room = c.calls_in.result in
    let new = c.in_ok-core.ensures
    ∙ ap (λ (s : State). record { opening = s; history = []; entries = []; room = room }) c.requires.fresh in
    let played = subst (λ ts. ShowsOne m c.play.result (IsRun m config room (map tree_of ts) c.in_ok-script.script))
    c.deref.ensures.value (c.play.ensures m config room new) in
    elim played [
      | inl is ↦ inl (is_of_machine m config _ c.args.script.now (map tree_of c.in_ok-trees.trees.items)
          c.in_ok-script.script (printed m c.play.result) c.in_ok-trees.ensures
          (ap (λ n. script_in n c.args.script.now) (length-map c.args.changes.now (λ v. v.items))
          ∙ c.in_ok-script.ensures.script)
          (subst (λ n. IsRun m config n (map tree_of c.in_ok-trees.trees.items) c.in_ok-script.script
          (printed m c.play.result)) c.calls_in.ensures is))
      | inr none ↦ inr none
    ]
