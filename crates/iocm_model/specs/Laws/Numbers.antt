-- What subchannel numbers promise: the lowest that is free, the numbers at opening, after a change,
-- and after it is taken back.
use Rattle.std.specs.Prelude.{◌≡◌, ◌⊎◌, is_some, [], ℕ, ◌<◌, nat_eq, Bool, true, false, length, List, Some, None}
use Rattle.std.specs.List.{list_any}
use Rattle.std.specs.FinMap.{get, contains_key, find, empty}
use Rattle.iocm_types.specs.declared.place.Place.{Place}
use Rattle.iocm_types.specs.declared.key.Key.TheVariants.{Device}
use Rattle.iocm_types.specs.Place.{place_cmp}
use Rattle.iocm_model.specs.Machine.Numbering.{Numbering, is_record_reached, is_reached_at, opening}
use Rattle.iocm_model.specs.Machine.Numbering.{cells_of, numbering_of, AreNumbersOf}
use Rattle.iocm_model.specs.Change.Renumbering.{numbers_in, lowest_free, numbers_after}
use Rattle.iocm_model.specs.Machine.Configuration.{Configuration, IsKeyed, lookup_of}
use Rattle.iocm_model.specs.Change.Refusal.{is_number_taken}
use Rattle.iocm_model.specs.Change.Inverse.{freed_numbers}

-- whether a number is given away in a channel subsystem and set
abbrev pub is_used : Numbering → ℕ → ℕ → ℕ → Bool
is_used n css set number = list_any (nat_eq number) (numbers_in n css set)

-- the lowest free number isn't used, and each smaller one is
pub record IsLowestFree (n : Numbering) (css set number : ℕ) : Type 0 where
  pub free : is_used n css set number ≡ false
  pub lowest : (k : ℕ) → k < number → is_used n css set k ≡ true

abbrev pub LowestFreeIsFree : Type 0
LowestFreeIsFree = (n : Numbering) (css set : ℕ) → IsLowestFree n css set (lowest_free n css set)

-- where fewer numbers than these are given away, it is below them: an arriving device always finds
-- one
abbrev pub LowestFreeIsFound : Type 0
LowestFreeIsFound = (n : Numbering) (css set most : ℕ) → length (numbers_in n css set) < most
    → lowest_free n css set < most

-- exactly the devices that the new configuration reaches have a number
abbrev pub NumbersAfterAreExact : Type 0
NumbersAfterAreExact = (c : Configuration) (carried : List (Place × ℕ)) (n : Numbering) (p : Place)
    → contains_key (numbers_after c carried n) p ≡ is_reached_at c p

-- those that stay keep theirs
abbrev pub StayersKeepTheirs : Type 0
StayersKeepTheirs = (c : Configuration) (carried : List (Place × ℕ)) (n : Numbering) (p : Place) (number : ℕ)
    → is_reached_at c p ≡ true → get n p ≡ Some number → get (numbers_after c carried n) p ≡ Some number

-- those that come in with a carried place get it; of several for one place the first counts
abbrev pub CarriedComeBack : Type 0
CarriedComeBack = (c : Configuration) (carried : List (Place × ℕ)) (n : Numbering) (p : Place) (number : ℕ)
    → is_reached_at c p ≡ true → get n p ≡ None → find place_cmp p carried ≡ Some number
    → get (numbers_after c carried n) p ≡ Some number

-- a place of the same channel subsystem and set that has this number after a change: it had one
-- before, one was carried for it, or its device number is smaller
pub record IsHeldBefore (c : Configuration) (carried : List (Place × ℕ)) (n : Numbering) (p : Place)
    (number : ℕ) : Type 0 where
  pub place : Place
  pub css : place.css ≡ p.css
  pub set : place.set ≡ p.set
  pub has : get (numbers_after c carried n) place ≡ Some number
  pub before : (contains_key n place ≡ true)
      ⊎ ((is_some (find place_cmp place carried) ≡ true) ⊎ (place.device < p.device))

-- the rest of those that come in get the lowest free numbers in order of device number: each number
-- below theirs is held by a device that had one, that brought one along, or that has a smaller
-- device number
abbrev pub RestGetTheLowest : Type 0
RestGetTheLowest = (c : Configuration) (carried : List (Place × ℕ)) (n : Numbering) (p : Place) (number : ℕ) → IsKeyed c
    → get n p ≡ None → find place_cmp p carried ≡ None → get (numbers_after c carried n) p ≡ Some number
    → (k : ℕ) → k < number → IsHeldBefore c carried n p k

-- opening is renumbering from none
abbrev pub OpeningIsFromNone : Type 0
OpeningIsFromNone = (c : Configuration) → IsKeyed c → numbers_after c [] empty ≡ opening c

-- no number comes twice, where none did before and no carried number is taken: they are numbers of
-- the new configuration
abbrev pub NumbersAfterAreNumbers : Type 0
NumbersAfterAreNumbers = (before after : Configuration) (carried : List (Place × ℕ)) (n : Numbering)
    → AreNumbersOf before n
    → is_number_taken after n carried ≡ false → AreNumbersOf after (numbers_after after carried n)

-- with the places that were freed the old numbers come back, whatever was carried
abbrev pub RenumberingGoesBack : Type 0
RenumberingGoesBack = (before after : Configuration) (carried : List (Place × ℕ)) (n : Numbering)
    → AreNumbersOf before n
    → let there = numbers_after after carried n in numbers_after before (freed_numbers n there) there ≡ n

-- none of the places that were freed is taken when the change is taken back
abbrev pub FreedAreNotTaken : Type 0
FreedAreNotTaken = (before after : Configuration) (carried : List (Place × ℕ)) (n : Numbering) → AreNumbersOf before n
    → let there = numbers_after after carried n in is_number_taken before there (freed_numbers n there) ≡ false

-- the numbers at opening are those of the configuration
abbrev pub OpeningAreNumbers : Type 0
OpeningAreNumbers = (c : Configuration) → AreNumbersOf c (opening c)

-- where no number comes twice, the number cells say all about the numbers
abbrev pub CellsAreTheNumbers : Type 0
CellsAreTheNumbers = (c : Configuration) (n : Numbering) → AreNumbersOf c n → numbering_of (cells_of n) ≡ n

-- a place is reached exactly where its device is there and its path list isn't empty
abbrev pub ReachedPlacesAreOfDevices : Type 0
ReachedPlacesAreOfDevices = (c : Configuration) (p : Place) → IsKeyed c → p.css < 6 → p.set < 4
    → is_reached_at c p ≡ is_record_reached (lookup_of c) p.css (lookup_of c (Device p.set p.device))
