-- What is asked for and seen, computed.
use Rattle.std.proofs.Common.{refl}
use Rattle.iocm_sight.specs.Examples.{AskedIsAsWorked, LinksAreAsWorked, SeenIsAsWorked}

pub asked : AskedIsAsWorked
asked = record {
  by_place = refl;
  other_place = refl;
  by_name = refl;
  other_name = refl;
  one_unit = refl;
  other_unit = refl;
  any_unit = refl;
  in_range = refl;
  other_set = refl;
}

pub seen : SeenIsAsWorked
unfolding lib.Count.ones
seen = record {
  online = refl;
  installed = refl;
  no_view = refl;
  counts = refl;
  wanted = refl;
  unwanted = refl;
  paths = refl;
}

pub links : LinksAreAsWorked
links = record { both = refl; without = refl }

pub ruleset worked = (asked, seen, links)
