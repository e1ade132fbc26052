-- Which refusal comes first, computed on states as lists.
use Rattle.std.proofs.Common.{◌≡◌, ℕ, List, [], refl}
use Rattle.iocm_types.specs.declared.place.Place.{Place}
use Rattle.iocm_model.specs.Change.Edit.{modify}
use Rattle.iocm_examples.specs.BaseDeck.{subchannel}
use Rattle.iocm_examples.specs.Edits.{base_opened}
use Rattle.iocm_examples.specs.Numbers.{second_opened}
use Rattle.iocm_examples.specs.FirstRefusals.{turned_on_both, one_for_two, second_started, ANumberForTwo, DepthFirst}
use Rattle.iocm_examples.proofs.OnLists.{on_lists}
use Rattle.iocm_examples.proofs.Listed.States.{ListedState, ListedEdit, listing}
use Rattle.iocm_examples.proofs.Listed.Trees.{one, in_row, no_parts, and_part, meaning_refused}
use Rattle.iocm_examples.proofs.Computed.Edits.{base_listing, base_is, started_listed, started_is}
use Rattle.iocm_examples.proofs.Computed.Numbers.{second_listing, second_is}
use Rattle.iocm_examples.proofs.Computed.Trees.{nested_listed, times_listed}

-- the lists once LPA has started its subchannel of 1000
unfoldable second_started_listing : ListedState
second_started_listing = started_listed (subchannel 1 0) second_listing

second_started_is : listing second_started ≡ second_started_listing
unfolding second_started second_started_listing
second_started_is = started_is (subchannel 1 0) second_opened second_listing second_is

-- the edit on lists
abbrev turned_listed : List (Place × ℕ) → ListedEdit
turned_listed places = record { action = modify turned_on_both; places = places; lives = [] }

pub a_number_for_two : ANumberForTwo
unfolding on_lists second_listing second_started_listing
a_number_for_two = record {
  refused = meaning_refused (one (turned_listed one_for_two)) _ second_opened second_listing second_is refl;
  before_busy = meaning_refused (one (turned_listed one_for_two)) _ second_started second_started_listing
      second_started_is refl;
  busy = meaning_refused (one (turned_listed [])) _ second_started second_started_listing second_started_is refl;
}

pub depth_first : DepthFirst
unfolding on_lists base_listing
depth_first = meaning_refused
    (in_row (and_part (nested_listed 31) (times_listed 17 (in_row (times_listed 241 (in_row no_parts))))))
    _ base_opened base_listing base_is refl
