-- What is asked for of a plan.
use Rattle.std.specs.Prelude.{Bool, not, ◌||◌}
use Rattle.iocm_filter.specs.Wanted.{Wanted, asks_nothing}

pub record Asked : Type 0 where
  pub wanted : Wanted
  pub is_lost : Bool
  pub is_brief : Bool
  pub is_of_decks : Bool

-- something may be left out
abbrev pub is_filtered : Asked → Bool
is_filtered a = a.is_lost || not (asks_nothing a.wanted)
