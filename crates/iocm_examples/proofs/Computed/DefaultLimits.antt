-- The limits of sets, computed.
use Rattle.std.proofs.Common.{◌≡◌, ◌∙◌, ℕ, List, ◌∷◌}
use Rattle.iocm_types.specs.Key.{key_cmp}
use Rattle.iocm_types.specs.Place.{place_cmp}
use Rattle.iocm_types.specs.KeyOrder.{places_total, places_exact}
use Rattle.iocm_model.specs.Machine.Record.{Rec, limit}
use Rattle.iocm_model.specs.Machine.Configuration.{configuration_of, with_keys}
use Rattle.iocm_examples.specs.DefaultLimits.{deck_of_set, number_of_2000, numbering_of_2000, breach_with, LimitsOfSets}
use Rattle.iocm_examples.proofs.OnLists.{states_on_lists}
use Rattle.iocm_examples.proofs.Listed.Maps.{put_all, entries-from_entries}
use Rattle.iocm_examples.proofs.Listed.Rules.{first_breach_listed, first_breach_seen}
use Rattle.iocm_examples.proofs.Listed.Views.{entries-configuration_of}

-- the first breach with a number
breach_is : (rs : List Rec) (set number : ℕ)
    → breach_with rs set number
    ≡ first_breach_listed (put_all key_cmp (with_keys rs)) (put_all place_cmp (number_of_2000 set number))
breach_is rs set number = first_breach_seen (configuration_of rs) (numbering_of_2000 set number)
    ∙ (λ i. first_breach_listed (entries-configuration_of rs i)
    (entries-from_entries places_total places_exact (number_of_2000 set number) i))

-- with the other limits of the same deck
pub limits_of_sets : LimitsOfSets
unfolding states_on_lists
limits_of_sets = record {
  set_0 = record { last_held = breach_is (deck_of_set 0) 0 65279; first_beyond = breach_is (deck_of_set 0) 0 65280 };
  set_1 = record { last_held = breach_is (deck_of_set 1) 1 65534; first_beyond = breach_is (deck_of_set 1) 1 65535 };
  set_2 = record { last_held = breach_is (deck_of_set 2) 2 65534; first_beyond = breach_is (deck_of_set 2) 2 65535 };
  set_3 = record { last_held = breach_is (deck_of_set 3) 3 65534; first_beyond = breach_is (deck_of_set 3) 3 65535 };
  given = record {
    last_held = breach_is (limit (record { css = 0; set = 2; limit = 7 }) ∷ deck_of_set 2) 2 6;
    first_beyond = breach_is (limit (record { css = 0; set = 2; limit = 7 }) ∷ deck_of_set 2) 2 7;
  };
  of_another_set = record {
    last_held = breach_is (limit (record { css = 0; set = 1; limit = 7 }) ∷ deck_of_set 2) 2 65534;
    first_beyond = breach_is (limit (record { css = 0; set = 1; limit = 7 }) ∷ deck_of_set 2) 2 65535;
  };
  of_another_subsystem = record {
    last_held = breach_is (limit (record { css = 1; set = 2; limit = 7 }) ∷ deck_of_set 2) 2 65534;
    first_beyond = breach_is (limit (record { css = 1; set = 2; limit = 7 }) ∷ deck_of_set 2) 2 65535;
  };
}
