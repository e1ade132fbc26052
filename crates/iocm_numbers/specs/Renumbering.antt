-- The three steps of numbering after a change, at the places that it may touch.
use Rattle.std.specs.Prelude.{◌≡◌, ℕ, Bool, true, false, not, ◌&&◌, if◌then◌else◌, List, [], ◌∷◌, fold, filter}
use Rattle.std.specs.List.{list_any}
use Rattle.std.specs.Ordering.{eq_by_cmp}
use Rattle.std.specs.declared.cmp.Ordering.TheVariants.{Less}
use Rattle.std.specs.FinMap.{get, contains_key}
use Rattle.iocm_types.specs.declared.place.Place.{Place}
use Rattle.iocm_types.specs.Place.{place_cmp}
use Rattle.iocm_model.specs.Machine.Configuration.{Configuration}
use Rattle.iocm_model.specs.Machine.Numbering.{Numbering, is_reached_at}
use Rattle.iocm_model.specs.Change.Renumbering.{with_carried, with_lowest}

-- a device is reached at a place and has no number there yet
abbrev pub needs_number : Configuration → Numbering → Place → Bool
needs_number c n p = is_reached_at c p && not (contains_key n p)

-- those of these places at which no device is reached: a device that has a number there loses it
abbrev pub unreached : Configuration → List Place → List Place
unreached c ps = filter (λ p. not (is_reached_at c p)) ps

-- those of these places that have no number
abbrev pub unnumbered : Numbering → List Place → List Place
unnumbered n ps = filter (λ p. not (contains_key n p)) ps

-- a device that is reached at a place and has no number there gets the lowest free one
abbrev pub filled_by : Configuration → Numbering → Place → Numbering
filled_by c n p = if is_reached_at c p then with_lowest n p else n

-- what comes in gets the number that it has carried along, and the rest of it the lowest free ones
abbrev pub given_by : Configuration → List (Place × ℕ) → List Place → Numbering → Numbering
given_by c carried touched n = fold (filled_by c) (fold (with_carried c) n carried) touched

-- places rise strictly: each is before all behind it
abbrev pub Rise : List Place → Type 0
Rise [] = Unit {0}
Rise (p ∷ ps) = ((q : Place) → list_any (eq_by_cmp place_cmp q) ps ≡ true → place_cmp p q ≡ Less) × Rise ps

-- all places whose devices may come in or leave are among these: elsewhere exactly those that are
-- reached have a number
abbrev pub AreAllTouched : Configuration → Numbering → List Place → Type 0
AreAllTouched c n ps = (p : Place) → list_any (eq_by_cmp place_cmp p) ps ≡ false → contains_key n p ≡ is_reached_at c p

-- only devices that are reached and had no number have another now
abbrev pub ChangesComersAlone : Configuration → Numbering → Numbering → Type 0
ChangesComersAlone c old new = (p : Place) → needs_number c old p ≡ false → get new p ≡ get old p
