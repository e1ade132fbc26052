-- Values in forms that are left out, and some that aren't, as they are stated by hand.
use Rattle.std.specs.Prelude.{◌≡◌, true, false, codes}
use Rattle.iocm_keywords.specs.LeftOut.{is_list, names_several_css, names_several_paths}
use Rattle.iocm_values.specs.Value.{value}

-- several channel subsystems: the numbers of one CSS(..) are counted, and nothing between its
-- parentheses is looked into
pub record SubsystemsNamed : Type 0 where
  pub plain : names_several_css (codes "(CSS(0,1),50)") ≡ true
  pub in_a_list : names_several_css (codes "((CSS(0,1)),50)") ≡ true
  pub inside : names_several_css (codes "CSS(CSS(0,1))") ≡ false
  pub before_a_number : names_several_css (codes "(CSS(CSS(0,9),0),50)") ≡ false
  pub behind_a_number : names_several_css (codes "(CSS(0,CSS(0,1)),50)") ≡ false
  pub between_numbers : names_several_css (codes "(CSS(0,CSS(0,1),1),50)") ≡ true
  pub list_inside : names_several_css (codes "CSS((CSS(0,1)))") ≡ false
  pub list_of_one : names_several_css (codes "CSS((1))") ≡ false
  pub beside_another : names_several_css (codes "(CSS(CSS(0,1)),CSS(0,9))") ≡ true
  pub one_each : names_several_css (codes "CSS(CSS(0),CSS(1))") ≡ false
  pub another_word : names_several_css (codes "CSS(0,1)X") ≡ false
  pub in_no_item : names_several_css (codes "(CSS(0,1))X") ≡ false
  pub in_an_item_beside : names_several_css (codes "((CSS(0,1))X,CSS(0,9))") ≡ true

-- several paths: those between the parentheses of a CSS(..), and those of a piece in which something
-- follows a list, don't count
pub record PathsNamed : Type 0 where
  pub two : names_several_paths (codes "(50,51)") ≡ true
  pub in_a_list : names_several_paths (codes "(CSS(0),(50,51))") ≡ true
  pub one : names_several_paths (codes "(CSS(50,CSS(0,1)),51)") ≡ false
  pub in_no_item : names_several_paths (codes "((50)51,52)") ≡ false
  pub beside_no_item : names_several_paths (codes "((50)51,52,53)") ≡ true

-- a list of subchannel sets is one pair of parentheses
pub record ListsSeen : Type 0 where
  pub plain : is_list (value (codes "(0,1)")) ≡ true
  pub two : is_list (value (codes "(0)X(1)")) ≡ false
