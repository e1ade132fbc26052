-- What a change altered, of what is asked for.
use Rattle.std.specs.Prelude.{ℕ, List}
use Rattle.iocm_seats.specs.declared.view_change.ViewChange.{ViewChange}

-- how many subchannels were altered, and some of them
pub record AlteredRows : Type 0 where
  pub altered : ℕ
  pub rows : List ViewChange
