-- The worked values, computed one by one.
use Rattle.std.proofs.Common.{◌≡◌, true, false, refl}
use Rattle.std.specs.Prelude.{codes}
use Rattle.iocm_statements.specs.Nesting.{is_outside, step, cuts}
use Rattle.iocm_statements.specs.Pieces.{pieces_from}
use Rattle.iocm_values.specs.ItemWords.{item_words_from}
use Rattle.iocm_values.specs.Value.{value}
use Rattle.iocm_keywords.specs.Examples.{ListsSeen, PathsNamed, SubsystemsNamed}
use Rattle.iocm_keywords.specs.LeftOut.{is_list, names_several_css, names_several_paths}

subsystems_plain : names_several_css (codes "(CSS(0,1),50)") ≡ true
unfolding is_outside step cuts pieces_from item_words_from
subsystems_plain = refl

subsystems_in_a_list : names_several_css (codes "((CSS(0,1)),50)") ≡ true
unfolding is_outside step cuts pieces_from item_words_from
subsystems_in_a_list = refl

subsystems_inside : names_several_css (codes "CSS(CSS(0,1))") ≡ false
unfolding is_outside step cuts pieces_from item_words_from
subsystems_inside = refl

subsystems_before_a_number : names_several_css (codes "(CSS(CSS(0,9),0),50)") ≡ false
unfolding is_outside step cuts pieces_from item_words_from
subsystems_before_a_number = refl

subsystems_behind_a_number : names_several_css (codes "(CSS(0,CSS(0,1)),50)") ≡ false
unfolding is_outside step cuts pieces_from item_words_from
subsystems_behind_a_number = refl

subsystems_between_numbers : names_several_css (codes "(CSS(0,CSS(0,1),1),50)") ≡ true
unfolding is_outside step cuts pieces_from item_words_from
subsystems_between_numbers = refl

subsystems_list_inside : names_several_css (codes "CSS((CSS(0,1)))") ≡ false
unfolding is_outside step cuts pieces_from item_words_from
subsystems_list_inside = refl

subsystems_list_of_one : names_several_css (codes "CSS((1))") ≡ false
unfolding is_outside step cuts pieces_from item_words_from
subsystems_list_of_one = refl

subsystems_beside_another : names_several_css (codes "(CSS(CSS(0,1)),CSS(0,9))") ≡ true
unfolding is_outside step cuts pieces_from item_words_from
subsystems_beside_another = refl

subsystems_one_each : names_several_css (codes "CSS(CSS(0),CSS(1))") ≡ false
unfolding is_outside step cuts pieces_from item_words_from
subsystems_one_each = refl

subsystems_another_word : names_several_css (codes "CSS(0,1)X") ≡ false
unfolding is_outside step cuts pieces_from item_words_from
subsystems_another_word = refl

subsystems_in_no_item : names_several_css (codes "(CSS(0,1))X") ≡ false
unfolding is_outside step cuts pieces_from item_words_from
subsystems_in_no_item = refl

subsystems_in_an_item_beside : names_several_css (codes "((CSS(0,1))X,CSS(0,9))") ≡ true
unfolding is_outside step cuts pieces_from item_words_from
subsystems_in_an_item_beside = refl

pub subsystems : SubsystemsNamed
subsystems = record {
  plain = subsystems_plain;
  in_a_list = subsystems_in_a_list;
  inside = subsystems_inside;
  before_a_number = subsystems_before_a_number;
  behind_a_number = subsystems_behind_a_number;
  between_numbers =
      subsystems_between_numbers;
  list_inside = subsystems_list_inside;
  list_of_one =
      subsystems_list_of_one;
  beside_another = subsystems_beside_another;
  one_each =
      subsystems_one_each;
  another_word = subsystems_another_word;
  in_no_item =
      subsystems_in_no_item;
  in_an_item_beside = subsystems_in_an_item_beside;
}

paths_two : names_several_paths (codes "(50,51)") ≡ true
unfolding is_outside step cuts pieces_from item_words_from
paths_two = refl

paths_in_a_list : names_several_paths (codes "(CSS(0),(50,51))") ≡ true
unfolding is_outside step cuts pieces_from item_words_from
paths_in_a_list = refl

paths_one : names_several_paths (codes "(CSS(50,CSS(0,1)),51)") ≡ false
unfolding is_outside step cuts pieces_from item_words_from
paths_one = refl

paths_in_no_item : names_several_paths (codes "((50)51,52)") ≡ false
unfolding is_outside step cuts pieces_from item_words_from
paths_in_no_item = refl

paths_beside_no_item : names_several_paths (codes "((50)51,52,53)") ≡ true
unfolding is_outside step cuts pieces_from item_words_from
paths_beside_no_item = refl

pub paths : PathsNamed
paths = record {
  two = paths_two;
  in_a_list = paths_in_a_list;
  one = paths_one;
  in_no_item = paths_in_no_item;
  beside_no_item = paths_beside_no_item;
}

lists_plain : is_list (value (codes "(0,1)")) ≡ true
unfolding is_outside step cuts pieces_from
lists_plain = refl

lists_two : is_list (value (codes "(0)X(1)")) ≡ false
unfolding is_outside step cuts pieces_from
lists_two = refl

pub lists : ListsSeen
lists = record { plain = lists_plain; two = lists_two }
