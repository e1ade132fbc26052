-- The keys of DELETE RESOURCE: images by channel subsystem and digit, limits by their places.
use Rattle.std.specs.Prelude.{ℕ, ◌==◌, Bool, true, false, if◌then◌else◌, Option, None, Some, List}
use Rattle.std.specs.Prelude.{[], ◌∷◌, ◌++◌, map, length, Result, Ok, codes}
use Rattle.std.specs.Option.{option_map}
use Rattle.iocm_types.specs.declared.fault.Fault.{Fault}
use Rattle.iocm_types.specs.declared.key.Key.{Key}
use Rattle.iocm_types.specs.declared.key.Key.TheVariants.{Resource, Image, Limit}
use Rattle.iocm_types.specs.Fault as fault
use Rattle.iocm_statements.specs.Operands.{Operand, text_under}
use Rattle.iocm_operands.specs.Resource.{mif_of}
use Rattle.iocm_values.specs.CssLists.{by_css}
use Rattle.iocm_values.specs.Reading.{◌>>=◌}
use Rattle.iocm_values.specs.SetPlaces.{by_set}
use Rattle.iocm_values.specs.Value.{Value, word, list, items}
use Rattle.iocm_record_reader.specs.Values.{optional}
use Rattle.iocm_change_records.specs.declared.image_keys.ImageKey.{ImageKey}
use Rattle.iocm_change_records.specs.declared.limit_keys.LimitSeat.{LimitSeat}

-- an empty item
abbrev pub is_empty : Value → Bool
is_empty (word text) = length text == 0
is_empty (list inner) = false

-- (anything,digit): what stands for the name isn't looked at, but there is something
abbrev pub image_key_listed : ℕ → List Value → Option ImageKey
image_key_listed css (name ∷ word digit ∷ []) =
    if is_empty name then None else option_map (λ mif. record { css = css; mif = mif }) (mif_of digit)
image_key_listed css _ = None

abbrev pub image_key : ℕ → Value → Option ImageKey
image_key css v = items v >>= image_key_listed css

abbrev pub key_of_image : ImageKey → Key
key_of_image i = Image i.css i.mif

-- the keys of PARTITION
abbrev pub image_keys : Value → Option (List Key)
image_keys v = option_map (map key_of_image) (by_css false image_key (λ (i : ImageKey). i.css) v)

-- a place of MAXDEV, empty or not; the value of a limit isn't looked at
abbrev pub limit_seat : ℕ → Value → Option LimitSeat
limit_seat css v = Some (record { css = css; is_empty = is_empty v })

-- the key of the place of a set, unless it is empty
abbrev pub limit_key_in : ℕ → LimitSeat → Option Key
limit_key_in set p = if p.is_empty then None else Some (Limit p.css set)

-- the keys of MAXDEV: of the places of a channel subsystem the first is that of set 0, and so on
abbrev pub limit_keys : Value → Option (List Key)
limit_keys v = by_set true limit_seat limit_key_in (λ (p : LimitSeat). p.css) v

-- the keys of images and limits; without PARTITION and MAXDEV that of what RESOURCE carries
abbrev pub resource_keys_by : Fault → List Operand → Option (List ℕ) → Option (List ℕ) → Result (List Key) Fault
resource_keys_by f operands None None = Ok (Resource ∷ [])
resource_keys_by f operands _ _ =
    fault.◌>>=◌ (optional f image_keys [] (codes "PARTITION") operands) (λ images.
    fault.◌>>=◌ (optional f limit_keys [] (codes "MAXDEV") operands) (λ limits. Ok (images ++ limits)))

abbrev pub resource_keys : Fault → List Operand → Result (List Key) Fault
resource_keys f operands =
    resource_keys_by f operands (text_under (codes "PARTITION") operands) (text_under (codes "MAXDEV") operands)
