-- What a change does to an image and a device: what the image sees of the device before and after, and the words for
-- how that differs.
use Rattle.std.specs.Prelude.{ℕ, Bool, not, nat_lt, ◌==◌, ◌&&◌, ◌||◌, is_some, Option}
use Rattle.std.specs.List.{list_any}
use Rattle.std.specs.Option.{option_eq}
use Rattle.iocm_types.specs.declared.image.Image.{Image}
use Rattle.iocm_types.specs.declared.view.View.{View}
use Rattle.iocm_model.specs.Change.Edit.{same_view}
use Rattle.iocm_model.specs.Machine.Configuration.{Lookup}
use Rattle.iocm_plan.specs.Routes.{has_one_route}
use Rattle.iocm_plan.specs.Seen.{Side, side, seen, on, paths_of, is_on}
use Rattle.iocm_plan.specs.declared.effect.Effect.{Effect}

-- ---- by what is seen before and after

-- the device isn't seen any more
abbrev pub gone : Option View → Option View → Bool
gone b a = is_some b && not (is_some a)

-- it wasn't seen before
abbrev pub came : Option View → Option View → Bool
came b a = gone a b

-- it is seen in another way
abbrev pub changed : Option View → Option View → Bool
changed b a = is_some b && is_some a && not (option_eq same_view b a)

-- it is seen as it was
abbrev pub same : Option View → Option View → Bool
same b a = is_some b && option_eq same_view b a

-- some path was online, and none is
abbrev pub lost : Option View → Option View → Bool
lost b a = nat_lt 0 (on b) && on a == 0

-- several paths were online, and one is
abbrev pub onepath : Option View → Option View → Bool
onepath b a = nat_lt 1 (on b) && on a == 1

-- ---- by the routes of paths that are online before and after

-- a path is online before and after
abbrev pub stays_on : Option Side → Option Side → ℕ → Bool
stays_on b a p = is_on b p && is_on a p

-- some path that stays online has another route: it may go off and on
abbrev pub offon : Option Side → Option Side → Bool
offon b a = list_any (λ p. stays_on b a p && not (has_one_route b a p)) (paths_of (seen b))

-- some path that stays online has one route
abbrev pub keeps_a_path : Option Side → Option Side → Bool
keeps_a_path b a = list_any (λ p. stays_on b a p && has_one_route b a p) (paths_of (seen b))

-- paths are online before and after, and none of them stays with one route
abbrev pub interrupted : Option Side → Option Side → Bool
interrupted b a = nat_lt 0 (on (seen b)) && nat_lt 0 (on (seen a)) && not (keeps_a_path b a)

-- ---- of an image and a device

abbrev pub effect_between : Option Side → Option Side → Effect
effect_between b a =
    record { before = seen b; after = seen a; interrupted = interrupted b a; offon = offon b a }

abbrev pub effect : Lookup → Lookup → Image → ℕ → ℕ → Effect
effect c d i set number = effect_between (side c i set number) (side d i set number)

-- a row tells it: what is seen differs, or the device is interrupted
abbrev pub has_row : Effect → Bool
has_row e = not (option_eq same_view e.before e.after) || e.interrupted

-- it affects the image: a row tells it, or a path may go off and on
abbrev pub affects : Effect → Bool
affects e = has_row e || e.offon
