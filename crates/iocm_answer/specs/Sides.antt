-- Rows that pass the sieves of the configurations before and after a change.
use Rattle.std.specs.Prelude.{Bool, false, ◌||◌, Option}
use Rattle.std.specs.Option.{option_map_or}
use Rattle.iocm_types.specs.declared.sub_id.SubId.{SubId}
use Rattle.iocm_types.specs.declared.view.View.{View}
use Rattle.iocm_filter.specs.Sieves.{Sieve, passes}
use Rattle.iocm_seats.specs.declared.view_change.ViewChange.{ViewChange}

abbrev pub does_side_pass : Sieve → SubId → Option View → Bool
does_side_pass s x v = option_map_or (λ view. passes s (x, view)) v false

abbrev pub does_row_pass : Sieve → Sieve → ViewChange → Bool
does_row_pass before after r =
    does_side_pass before r.subchannel r.before || does_side_pass after r.subchannel r.after
