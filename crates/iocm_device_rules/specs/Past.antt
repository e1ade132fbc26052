-- Numbers that are given away, at or above the limit of their channel subsystem and set: by number
-- cell, and by place.
use Rattle.std.specs.Prelude.{ℕ, Bool, false, nat_le}
use Rattle.std.specs.FinMap.{get}
use Rattle.std.specs.Option.{option_map_or}
use Rattle.iocm_types.specs.declared.key.Key.TheVariants as key
use Rattle.iocm_types.specs.declared.place.NumberCell.{NumberCell}
use Rattle.iocm_types.specs.declared.place.Place.{Place}
use Rattle.iocm_model.specs.Machine.Configuration.{Lookup}
use Rattle.iocm_model.specs.Machine.Numbering.{Numbering}
use Rattle.iocm_model.specs.Rules.EachRule.{limit_or_default}

-- the limit of a set in a channel subsystem
abbrev pub limit_there : Lookup → ℕ → ℕ → ℕ
limit_there c css set = limit_or_default set (c (key.Limit css set))

abbrev pub is_past : Lookup → NumberCell × ℕ → Bool
is_past c e = nat_le (limit_there c e.0.css e.0.set) e.0.number

abbrev pub is_row_past : Lookup → Place × ℕ → Bool
is_row_past c e = nat_le (limit_there c e.0.css e.0.set) e.1

-- the number that a device has in a channel subsystem, if it has one there
abbrev pub is_device_past : Lookup → Numbering → ℕ → ℕ → ℕ → Bool
is_device_past c n set device css =
    option_map_or (nat_le (limit_there c css set)) (get n (record { css = css; set = set; device = device })) false
