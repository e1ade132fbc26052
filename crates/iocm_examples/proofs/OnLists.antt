-- What a proof opens to compute on states as lists: `unfolding on_lists` opens all of it.
use Rattle.iocm_model.specs.Change.Renumbering.{gap_from}
use Rattle.iocm_model.specs.Rules.FirstBreach.{first_record, first_breach_of}
use Rattle.iocm_examples.proofs.Listed.Views.{opening_listed, numbers_after_listed}
use Rattle.iocm_examples.proofs.Listed.Rules.{first_breach_listed}
use Rattle.iocm_examples.proofs.Listed.States.{opening_state_listed, state_after_listed, refusal_listed, inverse_listed}
use Rattle.iocm_examples.proofs.Listed.States.{answer_listed, after_step_listed}
use Rattle.iocm_examples.proofs.Listed.Effects.{values_listed, with_effect_listed, edit_cells_listed}
use Rattle.iocm_examples.proofs.Listed.Effects.{state_after_all_listed, edits_cells_listed, inverses_listed}
use Rattle.iocm_examples.proofs.Listed.Trees.{mean_listed, meaning_listed}

-- numbers, rules and states
unfoldable pub states_on_lists : Type 0
unfolding gap_from first_record first_breach_of opening_listed numbers_after_listed first_breach_listed
    opening_state_listed answer_listed after_step_listed
states_on_lists = Unit {0}

-- edits, their effects and change trees
unfoldable pub edits_on_lists : Type 0
unfolding states_on_lists state_after_listed refusal_listed inverse_listed state_after_all_listed inverses_listed
    edit_cells_listed edits_cells_listed
edits_on_lists = Unit {0}

unfoldable pub on_lists : Type 0
unfolding edits_on_lists values_listed with_effect_listed mean_listed meaning_listed
on_lists = Unit {0}
