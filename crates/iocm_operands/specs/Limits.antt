-- MAXDEV of RESOURCE: the limits of the subchannel sets.
-- IOCP User's Guide, RESOURCE statement; that empty and absent places give no record is own.
use Rattle.std.specs.Prelude.{ℕ, suc, ◌==◌, ◌&&◌, Bool, true, max, if◌then◌else◌, Option, None}
use Rattle.std.specs.Prelude.{Some, List, [], map, filter, fold, length}
use Rattle.std.specs.Fmt.{decimal}
use Rattle.std.specs.List.{find, flat_map, range_with_len}
use Rattle.std.specs.Option.{option_map, option_map_or}
use Rattle.iocm_model.specs.Machine.Record.{LimitRecord}
use Rattle.iocm_model.specs.Machine.Numbering.{subsystems}
use Rattle.iocm_operands.specs.declared.limits.LimitPlace.{LimitPlace}
use Rattle.iocm_values.specs.declared.texts.CssText.{CssText}
use Rattle.iocm_values.specs.Digits.{decimal_of}
use Rattle.iocm_values.specs.Reading.{◌>>=◌}
use Rattle.iocm_values.specs.SetPlaces.{place_at, set_places_in, by_set}
use Rattle.iocm_values.specs.Texts.{by_css_text}
use Rattle.iocm_values.specs.Value.{Value, word_text}

-- a limit, or an empty place
abbrev pub limit_of : List ℕ → Option (Option ℕ)
limit_of text = if length text == 0 then Some None else option_map Some (decimal_of 65535 text)

abbrev pub limit_item : ℕ → Value → Option LimitPlace
limit_item css v = word_text v >>= limit_of >>= λ l. Some (record { css = css; limit = l })

-- the limit of a subchannel set, if its place has one
abbrev pub limit_in_set : ℕ → LimitPlace → Option LimitRecord
limit_in_set set p = option_map (λ l. record { css = p.css; set = set; limit = l }) p.limit

-- the same of a set that is 0 to 3
abbrev pub limit_at : ℕ → LimitPlace → Option (Option LimitRecord)
limit_at set p = place_at limit_in_set set p

-- of the places of a channel subsystem the first is that of set 0, and so on
abbrev pub limits_in : List LimitPlace → ℕ → Option (List LimitRecord)
limits_in places css = set_places_in limit_in_set (λ (p : LimitPlace). p.css) places css

-- the limits of MAXDEV, a list by channel subsystem whose groups may lack items
abbrev pub limits_of : Value → Option (List LimitRecord)
limits_of v = by_set true limit_item limit_in_set (λ (p : LimitPlace). p.css) v

-- a limit is that of a set of a channel subsystem
abbrev pub is_limit_at : ℕ → ℕ → LimitRecord → Bool
is_limit_at css set l = (l.css == css) && (l.set == set)

-- the place of a set, empty where it has no limit
abbrev pub place_text : List LimitRecord → ℕ → ℕ → CssText
place_text limits css set = record {
  css = css;
  text = option_map_or (λ (l : LimitRecord). decimal l.limit) (find (is_limit_at css set) limits) [];
}

-- how many places a channel subsystem has: up to its last limit
abbrev pub count_places : List LimitRecord → ℕ → ℕ
count_places limits css =
    fold max 0 (map (λ (l : LimitRecord). suc l.set) (filter (λ (l : LimitRecord). l.css == css) limits))

abbrev pub places_in : List LimitRecord → ℕ → List CssText
places_in limits css = map (place_text limits css) (range_with_len 0 (count_places limits css))

-- limits as they are written: ((CSS(0),,5))
abbrev pub limits_text : List LimitRecord → List ℕ
limits_text limits = by_css_text (flat_map (places_in limits) subsystems)
