-- One edit: what it says, and what it does to the configuration, the numbers and the live records.
use Rattle.std.specs.Prelude.{ℕ, nat_eq, Bool, ◌&&◌, not, if◌then◌else◌, Option, None, Some, List}
use Rattle.std.specs.List.{filter_map}
use Rattle.std.specs.Option.{option_map, option_eq}
use Rattle.std.specs.Cmp.Lexicographic.{pointwise}
use Rattle.std.specs.FinMap.{get, entries, from_entries}
use Rattle.iocm_types.specs.declared.key.Key.{Key}
use Rattle.iocm_types.specs.declared.live.Live.{Live}
use Rattle.iocm_types.specs.declared.place.Place.{Place}
use Rattle.iocm_types.specs.declared.sub_id.SubId.{SubId}
use Rattle.iocm_types.specs.declared.view.View.{View}
use Rattle.iocm_model.specs.Machine.Record.{Rec, key_of}
use Rattle.iocm_model.specs.Machine.Configuration.{Configuration}
use Rattle.iocm_model.specs.Change.Maps.{with_value, differing}
use Rattle.iocm_model.specs.Change.Renumbering.{numbers_after}
use Rattle.iocm_model.specs.Operation.Orders.{fresh}
use Rattle.iocm_model.specs.Operation.State.{State, Lives, Views, views_of, views_in, seen_in}

-- what an edit does with one record of the configuration
pub data Action : Type 0 where
  add : Rec → Action
  delete : Key → Action
  modify : Rec → Action

-- an edit: its action, the places that come along with their numbers, and the live records that
-- come along
pub record Edit : Type 0 where
  pub action : Action
  pub places : List (Place × ℕ)
  pub lives : Lives

-- the key of an action, and what it leaves there
abbrev pub action_key : Action → Key
action_key (add r) = key_of r
action_key (delete key) = key
action_key (modify r) = key_of r

abbrev pub record_after : Action → Option Rec
record_after (add r) = Some r
record_after (delete key) = None
record_after (modify r) = Some r

-- the configuration afterwards
abbrev pub config_after : Action → Configuration → Configuration
config_after a c = with_value c (action_key a) (record_after a)

-- two views are one
abbrev pub same_view : View → View → Bool
same_view a b = nat_eq a.device b.device && pointwise nat_eq a.paths b.paths && nat_eq a.pim b.pim && nat_eq a.pam b.pam

-- an altered subchannel's own record: with LPM equal to PIM where its path list changed
abbrev pub own_live : View → View → Live → Live
own_live old new l = if pointwise nat_eq old.paths new.paths then l else record l { lpm = new.pim }

-- the live record of an altered subchannel that has a view afterwards: the one that comes along;
-- else a fresh one where it is new; else its own (a state with live records has one then)
abbrev pub live_of_altered : Option View → View → Option Live → Option Live → Live
live_of_altered old new (Some k) l = k
live_of_altered None new None l = fresh new.pim
live_of_altered (Some old) new None None = fresh new.pim
live_of_altered (Some old) new None (Some l) = own_live old new l

-- the live record of a subchannel that has a view afterwards: as it was where the view is
abbrev pub live_after_edit : Option View → View → Option Live → Option Live → Option Live
live_after_edit old new carried l =
    if option_eq same_view old (Some new) then l else Some (live_of_altered old new carried l)

-- the live records after the views have changed: those of subchannels that have no view any more
-- are gone
abbrev pub lives_after_edit : Views → Views → Lives → Lives → Lives
lives_after_edit old new carried lives = from_entries (filter_map
    (λ (e : SubId × View). option_map (λ (l : Live). (e.0, l))
    (live_after_edit (get old e.0) e.1 (get carried e.0) (get lives e.0)))
    (entries new))

-- the state after an edit, refused or not
abbrev pub state_after : Edit → State → State
state_after e s =
    let c = config_after e.action s.config in
    let n = numbers_after c e.places s.numbers in
    record { config = c; numbers = n; lives = lives_after_edit (views_in s) (views_of c n) e.lives s.lives }

-- the subchannels whose view differs in two states, or that only one of them has, in order
abbrev pub altered_between : State → State → List SubId
altered_between s t = differing same_view (views_in s) (views_in t)

-- whether a subchannel is one of them
abbrev pub is_altered : State → State → SubId → Bool
is_altered s t x = not (option_eq same_view (seen_in s x) (seen_in t x))

-- the subchannels that an edit alters
abbrev pub altered_by : Edit → State → List SubId
altered_by e s = altered_between s (state_after e s)
