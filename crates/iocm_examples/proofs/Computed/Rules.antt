-- The first breaches of decks, computed.
use Rattle.std.proofs.Common.{◌≡◌, List, refl, ap, ◌∙◌}
use Rattle.iocm_types.specs.Key.{key_cmp}
use Rattle.iocm_types.specs.declared.link.Link.TheVariants as link
use Rattle.iocm_model.specs.Machine.Record.{Rec}
use Rattle.iocm_model.specs.Machine.Configuration.{with_keys, configuration_of}
use Rattle.iocm_model.specs.Machine.Numbering.{opening}
use Rattle.iocm_examples.specs.BaseDeck.{base}
use Rattle.iocm_examples.specs.Rules.{first_breach_at_opening, two_on_a_dedicated_path, nine_paths, nine_units}
use Rattle.iocm_examples.specs.Rules.{limit_of_three, BaseKeepsTheRules, ADedicatedPathOfTwo, AUnitOnNinePaths}
use Rattle.iocm_examples.specs.Rules.{ADeviceOfNineUnits, ALimitOfThree, TheOtherRules, AtTheBounds}
use Rattle.iocm_examples.specs.Rules.{address_on_another_unit, linked_to, two_with_access, eight_paths, limit_of_four}
use Rattle.iocm_examples.specs.Rules.{range_to_the_end, name_used_again, path_of_nobody, online_without_access}
use Rattle.iocm_examples.specs.Rules.{online_to_two, no_path, one_path_twice, one_link, range_past_the_end}
use Rattle.iocm_examples.specs.Rules.{address_out_of_range, address_used_again, path_by_two_units, candidate_is_nobody}
use Rattle.iocm_examples.specs.Rules.{answered_by_two}
use Rattle.iocm_examples.proofs.OnLists.{states_on_lists}
use Rattle.iocm_examples.proofs.Listed.Maps.{put_all}
use Rattle.iocm_examples.proofs.Listed.Views.{entries-configuration_of, opening_listed, opening_seen}
use Rattle.iocm_examples.proofs.Listed.Rules.{first_breach_listed, first_breach_seen}

-- the first breach of records at opening
pub first_breach_of_records : (rs : List Rec)
    → first_breach_at_opening rs
    ≡ first_breach_listed (put_all key_cmp (with_keys rs)) (opening_listed (put_all key_cmp (with_keys rs)))
first_breach_of_records rs = let c = configuration_of rs in first_breach_seen c (opening c)
    ∙ (λ i. first_breach_listed (entries-configuration_of rs i)
    ((opening_seen c ∙ ap opening_listed (entries-configuration_of rs)) i))

-- the example deck keeps the rules
pub base_keeps_the_rules : BaseKeepsTheRules
unfolding states_on_lists
base_keeps_the_rules = first_breach_of_records base ∙ refl

-- V3
pub a_dedicated_path_of_two : ADedicatedPathOfTwo
unfolding states_on_lists
a_dedicated_path_of_two = first_breach_of_records two_on_a_dedicated_path ∙ refl

-- V5
pub a_unit_on_nine_paths : AUnitOnNinePaths
unfolding states_on_lists
a_unit_on_nine_paths = first_breach_of_records nine_paths ∙ refl

-- V8
pub a_device_of_nine_units : ADeviceOfNineUnits
unfolding states_on_lists
a_device_of_nine_units = first_breach_of_records nine_units ∙ refl

-- V13
pub a_limit_of_three : ALimitOfThree
unfolding states_on_lists
a_limit_of_three = first_breach_of_records limit_of_three ∙ refl

-- the other rules
pub the_other_rules : TheOtherRules
unfolding states_on_lists
the_other_rules = record {
  v1 = first_breach_of_records name_used_again;
  v2 = first_breach_of_records path_of_nobody;
  v3 = first_breach_of_records two_with_access;
  v4_access = first_breach_of_records online_without_access;
  v4_exclusive = first_breach_of_records online_to_two;
  v5_none = first_breach_of_records no_path;
  v5_twice = first_breach_of_records one_path_twice;
  v6 = first_breach_of_records one_link;
  v7 = first_breach_of_records range_past_the_end;
  v9 = first_breach_of_records address_out_of_range;
  v10 = first_breach_of_records address_used_again;
  v11 = first_breach_of_records path_by_two_units;
  v12 = first_breach_of_records candidate_is_nobody;
  v14 = first_breach_of_records answered_by_two;
  v14_link = first_breach_of_records (linked_to (link.Short 1));
}

-- at the bounds
pub at_the_bounds : AtTheBounds
unfolding states_on_lists
at_the_bounds = record {
  paths = first_breach_of_records eight_paths;
  limit = first_breach_of_records limit_of_four;
  range = first_breach_of_records range_to_the_end;
  other_link = first_breach_of_records (linked_to (link.Short 3));
  long_link = first_breach_of_records (linked_to (link.Long 1));
  other_unit = first_breach_of_records address_on_another_unit;
}
