-- Limits that a running machine may not keep: those after that are less than the devices of their set before and after
-- together. 10 is a line feed.
use Rattle.std.specs.Prelude.{ℕ, ◌==◌, ◌&&◌, ◌||◌, nat_lt, Bool, false, if◌then◌else◌, Option, None, Some, List, ◌++◌, filter, length, codes}
use Rattle.std.specs.List.{filter_map}
use Rattle.std.specs.FinMap.{entries}
use Rattle.iocm_types.specs.Print.{hex1}
use Rattle.iocm_model.specs.Machine.Configuration.{Configuration, lookup_of}
use Rattle.iocm_model.specs.Machine.Numbering.{is_reached}
use Rattle.iocm_model.specs.Machine.Record.{Rec, device, limit}
use Rattle.iocm_difference.specs.Walks.{Pair, pairs_of}

-- a device of a set that a channel subsystem reaches takes a number there
abbrev pub takes_number_as : Configuration → ℕ → ℕ → Rec → Bool
takes_number_as c css set (device d) = d.set == set && is_reached (lookup_of c) css d
takes_number_as c css set _ = false

abbrev pub takes_number : Configuration → ℕ → ℕ → Option Rec → Bool
takes_number c css set None = false
takes_number c css set (Some r) = takes_number_as c css set r

-- before or after
abbrev pub takes_one : Configuration → Configuration → ℕ → ℕ → Pair → Bool
takes_one c d css set p = takes_number c css set p.1.0 || takes_number d css set p.1.1

abbrev pub takers : Configuration → Configuration → ℕ → ℕ → List Pair
takers c d css set = filter (takes_one c d css set) (pairs_of (entries c) (entries d))

abbrev pub is_too_low : Configuration → Configuration → ℕ → ℕ → ℕ → Bool
is_too_low c d css set most = nat_lt most (length (takers c d css set))

-- the subchannel set of a limit that is too low
abbrev pub low_if : Bool → ℕ → ℕ → Option (ℕ × ℕ)
low_if is_low css set = if is_low then Some (css, set) else None

abbrev pub low_limit_of : Configuration → Configuration → Rec → Option (ℕ × ℕ)
low_limit_of c d (limit l) = low_if (is_too_low c d l.css l.set l.limit) l.css l.set
low_limit_of c d _ = None

abbrev pub low_limit : Configuration → Configuration → Option Rec → Option (ℕ × ℕ)
low_limit c d None = None
low_limit c d (Some r) = low_limit_of c d r

-- those after, in the order of keys
abbrev pub low_limits : Configuration → Configuration → List (ℕ × ℕ)
low_limits c d = filter_map (λ (p : Pair). low_limit c d p.1.1) (pairs_of (entries c) (entries d))

-- ---- the note

abbrev pub limit_place : ℕ → ℕ → List ℕ
limit_place css set =
    codes "note: MAXDEV of set " ++ (hex1 set ++ (codes " in channel subsystem " ++ hex1 css))

abbrev pub limit_words : List ℕ
limit_words = codes " is less than the devices of the set before and after: on a running machine one that stays may have too high a number (V13)\n"

unfoldable pub limit_line : ℕ × ℕ → List ℕ
limit_line l = limit_place l.0 l.1 ++ limit_words
