-- The ranges of unit addresses that units have on their paths, each with the path, the link there and
-- the CUADD as one number. Two units that answer to one address have ranges here that meet.
use Rattle.std.specs.Prelude.{ℕ, ◌+◌, ◌&&◌, ◌||◌, nat_eq, nat_le, nat_lt, Bool, true, false, List, [], ◌∷◌, map}
use Rattle.std.specs.List.{list_any, flat_map}
use Rattle.iocm_types.specs.declared.unit_range.UnitRange.{UnitRange}
use Rattle.iocm_model.specs.Machine.Record.{Rec, unit}
use Rattle.iocm_model.specs.Rules.EachRule.{overlap}
use Rattle.iocm_unit_rules.specs.LinkNumbers.{link_numbers}
use Rattle.iocm_unit_rules.specs.declared.link_ranges.LinkRange.{LinkRange}

-- a range on a link
abbrev pub range_on : ℕ → UnitRange → LinkRange
range_on link r = record { link = link; addresses = r }

-- these ranges there
abbrev pub ranges_on : List UnitRange → ℕ → List LinkRange
ranges_on rs link = map (range_on link) rs

-- those of a unit record on all its paths; other records have none
abbrev pub link_ranges : Rec → List LinkRange
link_ranges (unit u) = flat_map (ranges_on u.ranges) (link_numbers (unit u))
link_ranges _ = []

-- two are on one link and overlap
abbrev pub meet : LinkRange → LinkRange → Bool
meet a b = nat_eq a.link b.link && overlap a.addresses b.addresses

-- two of a list do
abbrev pub any_meet : List LinkRange → Bool
any_meet [] = false
any_meet (r ∷ rs) = list_any (meet r) rs || any_meet rs

-- the second is behind the first: on a greater link, or on the same past all its addresses
abbrev pub is_behind : LinkRange → LinkRange → Bool
is_behind a b = nat_lt a.link b.link
    || (nat_eq a.link b.link && nat_le (a.addresses.start + a.addresses.count) b.addresses.start)

-- the first of a list is behind this one, and each further one behind the one before
abbrev pub do_follow_behind : LinkRange → List LinkRange → Bool
do_follow_behind a [] = true
do_follow_behind a (b ∷ bs) = is_behind a b && do_follow_behind b bs

abbrev pub do_follow : List LinkRange → Bool
do_follow [] = true
do_follow (r ∷ rs) = do_follow_behind r rs
