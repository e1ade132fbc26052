-- Which altered subchannels are wanted where an image gets another name, or loses its last path.
use Rattle.std.specs.Prelude.{◌≡◌, true, false, [], ◌∷◌, Option, Some, None, codes}
use Rattle.iocm_types.specs.declared.view.View.{View}
use Rattle.iocm_model.specs.Machine.Configuration.{Configuration, configuration_of}
use Rattle.iocm_filter.specs.RowExamples.{by_lpb, by_online, image_at, image_record, with_online}
use Rattle.iocm_filter.specs.Wanted.{nothing}
use Rattle.iocm_seats.specs.declared.view_change.ViewChange.{ViewChange}
use Rattle.iocm_answer.specs.Commands.Apply.{is_row_wanted}

-- image 0.2 is LPB before, and LPX afterwards
abbrev pub named_before : Configuration
named_before = configuration_of (image_record 0 2 (codes "LPB") ∷ [])

abbrev pub named_afterwards : Configuration
named_afterwards = configuration_of (image_record 0 2 (codes "LPX") ∷ [])

-- a subchannel of image 0.2, with what is seen before and afterwards
abbrev pub seen_then : Option View → Option View → ViewChange
seen_then before after = record {
  subchannel = record { image = image_at 0 2; set = 0; number = 0 };
  before = before;
  after = after;
}

-- a device of three paths: with two of them online, and with none
abbrev pub two_online : Option View
two_online = Some (with_online 0xA0)

abbrev pub none_online : Option View
none_online = Some (with_online 0)

-- which altered subchannels are wanted, worked by hand
pub record AlteredAsWorked : Type 0 where
  -- nothing is asked for: each, also one that is seen neither before nor afterwards
  pub all : is_row_wanted nothing named_before named_afterwards (seen_then None None) ≡ true
  -- LPB is asked for: by the names before where it was seen before, by those afterwards where it is
  -- seen afterwards
  pub was_lpb : is_row_wanted by_lpb named_before named_afterwards (seen_then two_online None) ≡ true
  pub is_lpx : is_row_wanted by_lpb named_before named_afterwards (seen_then None two_online) ≡ false
  pub was_lpx : is_row_wanted by_lpb named_afterwards named_before (seen_then two_online None) ≡ false
  pub is_lpb : is_row_wanted by_lpb named_afterwards named_before (seen_then None two_online) ≡ true
  pub seen_at_both : is_row_wanted by_lpb named_before named_afterwards (seen_then two_online none_online) ≡ true
  pub seen_at_none : is_row_wanted by_lpb named_before named_before (seen_then None None) ≡ false
  -- at most no path is online: one of the two sides is enough
  pub loses_the_last : is_row_wanted (by_online 0) named_before named_before (seen_then two_online none_online) ≡ true
  pub had_none : is_row_wanted (by_online 0) named_before named_before (seen_then none_online two_online) ≡ true
  pub keeps_two : is_row_wanted (by_online 0) named_before named_before (seen_then two_online two_online) ≡ false
  pub goes : is_row_wanted (by_online 0) named_before named_before (seen_then two_online None) ≡ false
