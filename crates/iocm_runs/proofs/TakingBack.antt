-- The inverse tree of accepted edits takes them back.
use Rattle.std.proofs.Common.{ap, ◌∙◌, Some}
use Rattle.iocm_model.specs.Operation.State.{State}
use Rattle.iocm_model.specs.Change.Runs.{state_after_all, inverses}
use Rattle.iocm_model.specs.Rules.FirstBreach.{first_breach}
use Rattle.iocm_model.specs.Laws.Trees.{KeepsTheRules}
use Rattle.iocm_model.proofs.Change.RunsGoBack.{accepted_carry, inverses_accepted, run_back, run_goes_back}
use Rattle.iocm_model.proofs.Change.Trees.{inverse_tree_means}
use Rattle.iocm_history.specs.Change.{Change}
use Rattle.iocm_history.specs.JournalLaws.{IsMade}
use Rattle.iocm_history.proofs.Facts.{changes_were_made, stages_are_ready}
use Rattle.iocm_runs.specs.Inverses.{InversesOfEditsTakeBack, IsTakenBackByItsInverse, InversesOfChangesTakeBack}
use Rattle.iocm_runs.specs.Inverses.{InversesOfStagesTakeBack}

pub inverses_of_edits_take_back : InversesOfEditsTakeBack
inverses_of_edits_take_back es s sound kept accepted few u like quiet =
    let free = accepted_carry es s accepted in
    let rules : KeepsTheRules (state_after_all (inverses es s) u) =
    ap (λ (z : State). first_breach z.config z.numbers) (run_back es s u sound free like) ∙ kept in
    inverse_tree_means es s u few (inverses_accepted es s u sound accepted like quiet) rules
    ∙ ap Some (run_goes_back es s u sound free like)

-- a change as it was made
made_taken_back : (c : Change) → IsMade c → IsTakenBackByItsInverse c
made_taken_back c was = inverses_of_edits_take_back c.edits c.from was.used.sound was.used.rules was.accepted was.few

pub inverses_of_changes_take_back : InversesOfChangesTakeBack
inverses_of_changes_take_back opening h n c used legal at =
    made_taken_back c (changes_were_made opening h n c used legal at)

pub inverses_of_stages_take_back : InversesOfStagesTakeBack
inverses_of_stages_take_back opening h g used legal staged =
    made_taken_back g.change (stages_are_ready opening h g used legal staged).was_made
