-- Which refusal comes first where two would be right, and one number carried by two devices, as it
-- is stated by hand.
use Rattle.std.specs.Prelude.{◌≡◌, ℕ, List, [], ◌∷◌, None, Err}
use Rattle.std.specs.FinMap.{empty}
use Rattle.iocm_types.specs.declared.place.Place.{Place}
use Rattle.iocm_types.specs.declared.key.Key.TheVariants.{Unit}
use Rattle.iocm_types.specs.declared.refused.At.TheVariants as at
use Rattle.iocm_types.specs.declared.rule.Rule.TheVariants.{B1, C1, E4}
use Rattle.iocm_model.specs.Machine.Record.{Rec, unit}
use Rattle.iocm_model.specs.Operation.State.{State}
use Rattle.iocm_model.specs.Change.Edit.{modify, Edit}
use Rattle.iocm_model.specs.Change.Tree.{ChangeTree, leaf, row, none, part}
use Rattle.iocm_model.specs.Change.Meaning.{meaning}
use Rattle.iocm_examples.specs.BaseDeck.{css_path, subchannel}
use Rattle.iocm_examples.specs.Edits.{IsRefused, base_opened, started_at}
use Rattle.iocm_examples.specs.Numbers.{second_opened, second_place}
use Rattle.iocm_examples.specs.Trees.{nested, times}

-- unit 1000 with its paths the other way round, and on a path of channel subsystem 1 too: there its
-- four devices come in
abbrev pub turned_on_both : Rec
turned_on_both = unit (record {
  number = 0x1000;
  paths = css_path 0x51 ∷ css_path 0x50 ∷ record { css = 1; path = 0x50 } ∷ [];
  ranges = record { start = 0; count = 16 } ∷ [];
  links = [];
  cuadd = None;
  carried = [];
})

-- it is modified so, and these places come along with their numbers
abbrev pub turned_with : List (Place × ℕ) → Edit
turned_with places = record { action = modify turned_on_both; places = places; lives = empty }

-- one number for two devices of one channel subsystem and set
abbrev pub one_for_two : List (Place × ℕ)
one_for_two = second_place 0x1000 7 ∷ second_place 0x1001 7 ∷ []

-- LPA's subchannel of 1000 is started
unfoldable pub second_started : State
second_started = started_at (subchannel 1 0) second_opened

-- E4 where two devices carry one number, and before B1
pub record ANumberForTwo : Type 0 where
  pub refused : IsRefused (leaf (turned_with one_for_two)) E4 0 (at.Key (Unit 0x1000)) second_opened
  pub before_busy : IsRefused (leaf (turned_with one_for_two)) E4 0 (at.Key (Unit 0x1000)) second_started
  pub busy : IsRefused (leaf (turned_with [])) B1 0 (at.Subchannel (subchannel 1 0)) second_started

-- a tree of depth 33 with 4098 leaves: C1 comes before C2
abbrev pub deep_and_wide : ChangeTree
deep_and_wide = row (part (nested 31) (times 17 (row (times 241 (row none)))))

abbrev pub DepthFirst : Type 0
DepthFirst = meaning deep_and_wide base_opened ≡ Err (record { rule = C1; node = None; at = at.Nothing })
