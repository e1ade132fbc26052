-- Whether changes fit, computed on states as lists.
use Rattle.std.proofs.Common.{◌≡◌, Bool, None, [], ◌∷◌, ap, ◌∙◌}
use Rattle.std.specs.FinMap.{empty, entries}
use Rattle.iocm_types.specs.declared.live.Live.{Live}
use Rattle.iocm_types.specs.SubId.{sub_id_cmp}
use Rattle.iocm_types.specs.KeyOrder.{sub_ids_total, sub_ids_exact}
use Rattle.iocm_types.specs.declared.key.Key.TheVariants as key
use Rattle.iocm_model.specs.Operation.State.{State}
use Rattle.iocm_model.specs.Change.Edit.{Action, add, delete, modify, state_after}
use Rattle.iocm_model.specs.Change.Renumbering.{gap_from}
use Rattle.iocm_model.specs.Rules.FirstBreach.{first_record, first_breach_of}
use Rattle.iocm_history.specs.Fits.{fits}
use Rattle.iocm_examples.specs.BaseDeck.{unit_on}
use Rattle.iocm_examples.specs.Edits.{base_opened, plain}
use Rattle.iocm_examples.proofs.Listed.Maps.{entries_in_order}
use Rattle.iocm_examples.proofs.Listed.Views.{numbers_after_listed}
use Rattle.iocm_examples.proofs.Listed.Rules.{first_breach_listed}
use Rattle.iocm_examples.proofs.Listed.States.{ListedState, listing, state_after_listed, state_after_seen}
use Rattle.iocm_examples.proofs.Listed.States.{inverse_listed}
use Rattle.iocm_examples.proofs.Listed.Fits.{before_listed, before_all_listed, fits_listed, fits_seen}
use Rattle.iocm_examples.proofs.Computed.Edits.{base_listing, base_is, plainly}
use Rattle.iocm_examples.specs.Fitting.{made_in, path_52, FromAnotherValue, NotThereToDelete, ThereToAdd}

no_lives : entries (empty {X = Live} {R = sub_id_cmp}) ≡ []
no_lives = entries_in_order sub_id_cmp sub_ids_total sub_ids_exact [] tt

-- a change of one edit fits as it does on lists
fits_as : (a : Action) (s u : State) (x y : ListedState) → listing s ≡ x → listing u ≡ y
    → fits (made_in (plain a) s) u ≡ fits_listed (plainly a ∷ []) x y
fits_as a s u x y is there =
    fits_seen (made_in (plain a) s) u
    ∙ (λ i. fits_listed (record { action = a; places = []; lives = no_lives i } ∷ []) (is i) (there i))

-- the state after an edit of the example deck, as lists
after_is : (a : Action) → listing (state_after (plain a) base_opened) ≡ state_after_listed (plainly a) base_listing
after_is a = state_after_seen (plainly a) base_opened ∙ ap (state_after_listed (plainly a)) base_is

-- all that computes it, unfolded
unfoldable is_fit : Action → ListedState → ListedState → Bool
unfolding base_listing state_after_listed first_breach_listed numbers_after_listed gap_from first_record first_breach_of
    before_listed before_all_listed fits_listed
    inverse_listed
is_fit a x y = fits_listed (plainly a ∷ []) x y

unfoldable after_listed : Action → ListedState
unfolding base_listing state_after_listed numbers_after_listed gap_from
after_listed a = state_after_listed (plainly a) base_listing

abbrev turn_action : Action
turn_action = modify (unit_on 0x1000 (0x51 ∷ 0x50 ∷ []) None)

pub from_another_value : FromAnotherValue
unfolding is_fit after_listed
from_another_value = record {
  there = fits_as turn_action base_opened (state_after (plain turn_action) base_opened) base_listing
      (after_listed turn_action) base_is (after_is turn_action);
  before = fits_as turn_action base_opened base_opened base_listing base_listing base_is base_is;
}

pub not_there_to_delete : NotThereToDelete
unfolding is_fit after_listed
not_there_to_delete = record {
  there = fits_as (add path_52) base_opened (state_after (plain (add path_52)) base_opened) base_listing
      (after_listed (add path_52)) base_is (after_is (add path_52));
  not_there = fits_as (add path_52) base_opened base_opened base_listing base_listing base_is base_is;
}

pub there_to_add : ThereToAdd
unfolding is_fit after_listed
there_to_add =
    let s : State = state_after (plain (add path_52)) base_opened in record {
      not_there = fits_as (delete (key.Path 0 0x52)) s base_opened (after_listed (add path_52)) base_listing
          (after_is (add path_52)) base_is;
      there = fits_as (delete (key.Path 0 0x52)) s s (after_listed (add path_52)) (after_listed (add path_52))
          (after_is (add path_52)) (after_is (add path_52));
    }
