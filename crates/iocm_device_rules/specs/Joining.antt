-- The path lists of a device, one for each channel subsystem, while the paths of its units are
-- joined.
use Rattle.std.specs.Prelude.{◌≡◌, ℕ, ◌<◌, ◌++◌, ◌||◌, nat_lt, Bool, true, false}
use Rattle.std.specs.Prelude.{List, [], length, get_or, Option, Some}
use Rattle.iocm_types.specs.declared.css_path.CssPath.{CssPath}
use Rattle.iocm_model.specs.Machine.Record.{Rec, unit}
use Rattle.iocm_model.specs.Rules.EachRule.{has_twice}

-- a path list is over eight or has a path twice
abbrev pub is_wrong_list : List ℕ → Bool
is_wrong_list paths = nat_lt 8 (length paths) || has_twice paths

-- the paths of a unit in all channel subsystems; of what is no unit none
abbrev pub all_paths : Option Rec → List CssPath
all_paths (Some (unit u)) = u.paths
all_paths _ = []

-- six lists, none of which is wrong
pub record AreRight (lists : List (List ℕ)) : Type 0 where
  pub six : length lists ≡ 6
  pub right : (css : ℕ) → css < 6 → is_wrong_list (get_or lists css []) ≡ false

-- lists after more paths of each channel subsystem
pub record AreJoined (old new : List (List ℕ)) (more : ℕ → List ℕ) : Type 0 where
  pub are_right : AreRight new
  pub joined : (css : ℕ) → css < 6 → get_or new css [] ≡ get_or old css [] ++ more css

-- with more paths the list of some channel subsystem is wrong, whatever comes behind
pub record IsWrongWith (lists : List (List ℕ)) (more : ℕ → List ℕ) : Type 0 where
  pub css : ℕ
  pub within : css < 6
  pub wrong : (rest : List ℕ) → is_wrong_list (get_or lists css [] ++ (more css ++ rest)) ≡ true
