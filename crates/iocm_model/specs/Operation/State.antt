-- The state of a channel subsystem: the configuration, the numbers of its devices, and a live
-- record for each subchannel.
use Rattle.std.specs.Prelude.{◌≡◌, Bool, List, map, Option}
use Rattle.std.specs.List.{list_any}
use Rattle.std.specs.Ordering.{eq_by_cmp}
use Rattle.std.specs.FinMap.{FinMap, get, contains_key, from_entries}
use Rattle.iocm_types.specs.declared.live.Live.{Live}
use Rattle.iocm_types.specs.declared.sub_id.SubId.{SubId}
use Rattle.iocm_types.specs.declared.view.View.{View}
use Rattle.iocm_types.specs.SubId.{sub_id_cmp}
use Rattle.iocm_model.specs.Machine.Configuration.{Configuration, IsKeyed}
use Rattle.iocm_model.specs.Machine.Numbering.{Numbering, opening, AreNumbersOf}
use Rattle.iocm_model.specs.Machine.View.{views}
use Rattle.iocm_model.specs.Operation.Orders.{fresh}

-- the live records by subchannel
abbrev pub Lives : Type 0
Lives = FinMap sub_id_cmp Live

pub record State : Type 0 where
  pub config : Configuration
  pub numbers : Numbering
  pub lives : Lives

-- what is seen, by subchannel
abbrev pub Views : Type 0
Views = FinMap sub_id_cmp View

abbrev pub views_of : Configuration → Numbering → Views
views_of c n = from_entries (views c n)

-- all subchannels that have a view in a state, with their views
abbrev pub views_in : State → Views
views_in s = views_of s.config s.numbers

-- whether a subchannel is one of these
abbrev pub is_among : SubId → List SubId → Bool
is_among x xs = list_any (eq_by_cmp sub_id_cmp x) xs

-- what is seen at a subchannel in a state, if it has a view
abbrev pub seen_in : State → SubId → Option View
seen_in s x = get (views_in s) x

-- a fresh live record for a subchannel that has a view
abbrev pub fresh_row : SubId × View → SubId × Live
fresh_row row = (row.0, fresh row.1.pim)

-- at opening: the first numbers, and a fresh live record for each subchannel that has a view
abbrev pub opening_state : Configuration → State
opening_state c =
    let n = opening c in record { config = c; numbers = n; lives = from_entries (map fresh_row (views c n)) }

-- exactly the subchannels that have a view have a live record
abbrev pub HasLives : State → Type 0
HasLives s = (x : SubId) → contains_key s.lives x ≡ contains_key (views_in s) x

-- what every state of a machine is: its records stand under their own keys, its numbers are those
-- of its configuration, and its live records those of its subchannels
pub record IsSound (s : State) : Type 0 where
  pub keyed : IsKeyed s.config
  pub numbered : AreNumbersOf s.config s.numbers
  pub lived : HasLives s

-- a state has the configuration and the numbers of another, and live records of its own
pub record HasConfigAndNumbersOf (u s : State) : Type 0 where
  pub config : u.config ≡ s.config
  pub numbers : u.numbers ≡ s.numbers
  pub lived : HasLives u
