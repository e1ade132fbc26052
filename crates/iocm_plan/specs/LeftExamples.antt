-- What filters leave of small changes, as it is worked by hand on the example deck.
use Rattle.std.specs.Prelude.{◌≡◌, ℕ, Bool, true, false, None, List, [], ◌∷◌, codes}
use Rattle.iocm_types.specs.declared.key.Key.TheVariants as key
use Rattle.iocm_model.specs.Machine.Record.{Rec}
use Rattle.iocm_examples.specs.BaseDeck.{base, lpa, lpb, unit_on}
use Rattle.iocm_filter.specs.Wanted.{Wanted, nothing}
use Rattle.iocm_filter.specs.declared.meant.ImageWord.TheVariants.{Place, Named}
use Rattle.iocm_plan.specs.Examples.{device_1002, lookup_among, qual, renamed, without, words_of}
use Rattle.iocm_plan.specs.Left.{effect_left}
use Rattle.iocm_plan.specs.MoreExamples.{by_range}

-- what is left to say of an image of channel subsystem 0 and device 1002
abbrev pub left_of : ℕ → Wanted → Bool → List Rec → List Rec → List (List ℕ)
left_of mif w is_lost old new = words_of (effect_left w is_lost (lookup_among old) (lookup_among new)
    (record { css = 0; mif = mif }) (record { set = 0; number = 0x1002 }))

abbrev pub to_lpa : Wanted → List Rec → List Rec → List (List ℕ)
to_lpa w old new = left_of 1 w false old new

abbrev pub by_name : List ℕ → Wanted
by_name name = record nothing { images = Named name ∷ [] }

abbrev pub by_place : ℕ → Wanted
by_place mif = record nothing { images = Place (record { css = 0; mif = mif }) ∷ [] }

abbrev pub by_unit : ℕ → Wanted
by_unit number = record nothing { units = number ∷ [] }

abbrev pub by_path : ℕ → Wanted
by_path number = record nothing { paths = record { css = None; path = number } ∷ [] }

-- device 1002 goes, and it is moved to control unit 2000, which is on path 50 alone
abbrev pub gone_deck : List Rec
gone_deck = without (key.Device 0 0x1002) base

abbrev pub moved_deck : List Rec
moved_deck = unit_on 0x2000 (0x50 ∷ []) None ∷ device_1002 0x2000 lpa ∷ base

abbrev pub gone_words : List (List ℕ)
gone_words = codes "gone" ∷ codes "lost" ∷ []

abbrev pub moved_words : List (List ℕ)
moved_words = codes "changed" ∷ codes "interrupted" ∷ codes "one path left" ∷ codes "off and on" ∷ []

abbrev pub renamed_words : List (List ℕ)
renamed_words = codes "same" ∷ codes "interrupted" ∷ codes "off and on" ∷ []

pub record LeftIsAsWorked : Type 0 where
  pub all : to_lpa nothing base gone_deck ≡ gone_words
  -- an image by its place, and by its name
  pub place : to_lpa (by_place 1) base gone_deck ≡ gone_words
  pub other_place : to_lpa (by_place 2) base gone_deck ≡ []
  pub name : to_lpa (by_name lpa) base gone_deck ≡ gone_words
  pub other_name : to_lpa (by_name lpb) base gone_deck ≡ []
  -- of an image with another name both names ask for it
  pub name_before : to_lpa (by_name lpa) base renamed ≡ renamed_words
  pub name_after : to_lpa (by_name qual) base renamed ≡ renamed_words
  -- a control unit, and a path, that the device has before or after
  pub unit_before : to_lpa (by_unit 0x1000) base moved_deck ≡ moved_words
  pub unit_after : to_lpa (by_unit 0x2000) base moved_deck ≡ moved_words
  pub other_unit : to_lpa (by_unit 0x3000) base moved_deck ≡ []
  pub path_before : to_lpa (by_path 0x51) base moved_deck ≡ moved_words
  pub other_path : to_lpa (by_path 0x52) base moved_deck ≡ []
  -- a number in a range
  pub in_range : to_lpa (by_range 0x1000 0x1002) base gone_deck ≡ gone_words
  pub in_no_range : to_lpa (by_range 0x1003 0x1004) base gone_deck ≡ []
  -- what is lost alone
  pub lost : left_of 1 nothing true base gone_deck ≡ gone_words
  pub not_lost : left_of 1 nothing true gone_deck base ≡ []
  pub not_seen : left_of 3 nothing false base gone_deck ≡ []
