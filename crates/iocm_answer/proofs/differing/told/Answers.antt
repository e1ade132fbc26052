-- What is told is that of the actions, as edits that carry nothing.
use Rattle.std.proofs.Common.{◌≡◌, ◌∙◌, List, [], ◌∷◌, map, refl, sym, ap, subst, IfOk}
use Rattle.iocm_model.specs.Change.Edit.{Action}
use Rattle.iocm_tree.specs.Carried.{bare}
use Rattle.iocm_difference.specs.Difference.{difference}
use Rattle.iocm_difference_writer.specs.Runs.{actions_in}
use Rattle.iocm_difference_writer.specs.Text.{difference_text}
use Rattle.iocm_record_lines.specs.Edits.{edit_lines}
use Rattle.iocm_answer.specs.Commands.Diff as meaning
use Rattle.iocm_answer.proofs.differing.told.Goals as goal

their_actions : (actions : List Action) → actions_in (map bare actions) ≡ actions
their_actions [] = refl
their_actions (a ∷ actions) = ap (λ rest. a ∷ rest) (their_actions actions)

own_actions : (actions : List Action) → map (λ e. e.edit.action) (map bare actions) ≡ actions
own_actions [] = refl
own_actions (a ∷ actions) = ap (λ rest. a ∷ rest) (own_actions actions)

pub returns-in-Text : goal.returns-in-Text
returns-in-Text c d same =
    let c0 = c.args.old.now.records in
    let old = meaning.old_if_shown c.args.before c0 in
    subst (λ due. IfOk c.difference_text.result (λ text. text.items ≡ due))
    (ap (λ found. difference_text found (actions_in c.args.edits.now)) c.old_if_shown.ensures
    ∙ ap (λ edits. difference_text old (actions_in edits)) same
    ∙ ap (difference_text old) (their_actions (difference c0 d))
    ∙ ap (λ form. meaning.difference_in form c.args.before c0 d) (sym c.in-Text.is)) c.difference_text.ensures

pub returns-in-Json : goal.returns-in-Json
returns-in-Json c d same =
    let c0 = c.args.old.now.records in
    subst (λ due. IfOk c.edit_lines.result (λ text. text.items ≡ due))
    (ap (λ edits. edit_lines c0 (map (λ e. e.edit.action) edits)) same
    ∙ ap (edit_lines c0) (own_actions (difference c0 d))
    ∙ ap (λ form. meaning.difference_in form c.args.before c0 d) (sym c.in-Json.is)) c.edit_lines.ensures
