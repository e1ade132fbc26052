-- Without filters what is left is what the change does.
use Rattle.std.proofs.Common.{◌≡◌, ◌&&◌, ◌||◌, Bool, true, false, not, cond, List, [], ◌∷◌, Option, Some, None, refl}
use Rattle.std.proofs.Common.{ℕ, nat_lt, sym, ap, ◌∙◌}
use Rattle.std.specs.List.{list_any}
use Rattle.std.proofs.lemmas.Bool.{and_parts, false≢true}
use Rattle.iocm_types.specs.declared.view.View.{View}
use Rattle.iocm_filter.specs.Wanted.{Wanted, asks, asks_nothing, one_if_asked}
use Rattle.iocm_sight.specs.declared.devices.DeviceKey.{DeviceKey}
use Rattle.iocm_plan.specs.Effects.{effect_between, keeps_a_path, stays_on}
use Rattle.iocm_plan.specs.Left.{is_asked, is_view_asked, left_between, no_effect}
use Rattle.iocm_plan.specs.Routes.{has_one_route}
use Rattle.iocm_plan.specs.Runs.{wants_key}
use Rattle.iocm_plan.specs.Seen.{Side, on, paths_of, seen, view_in}
use Rattle.iocm_plan.specs.ToldAlike.{WithoutFiltersAllIsTold}
use Rattle.iocm_plan.specs.declared.effect.Effect.{Effect}
use Rattle.iocm_plan.proofs.Alone.{alone_before, seen_before}

-- where nothing of a kind is asked for, no list has anything
none_asked : {A : Type 0} (xs : List A) → not (asks xs) ≡ true → xs ≡ []
none_asked [] h = refl
none_asked (x ∷ xs) h = absurd (false≢true h)

pub record AsksNothing (w : Wanted) : Type 0 where
  pub no_images : w.images ≡ []
  pub no_devices : w.devices ≡ []
  pub no_units : w.units ≡ []
  pub no_paths : w.paths ≡ []
  pub no_online : w.online ≡ []

nothing_asked : (w : Wanted) → asks_nothing w ≡ true → AsksNothing w
nothing_asked w h =
    let p = and_parts _ (not (asks w.online)) h in
    let q = and_parts _ (not (asks w.paths)) p.0 in
    let r = and_parts _ (not (asks w.units)) q.0 in
    let s = and_parts (not (asks w.images)) (not (asks w.devices)) r.0 in record {
      no_images = none_asked w.images s.0;
      no_devices = none_asked w.devices s.1;
      no_units = none_asked w.units r.1;
      no_paths = none_asked w.paths q.1;
      no_online = none_asked w.online p.1;
    }

-- so what is seen is asked for
abbrev is_there : {A : Type 0} → Option A → Bool
is_there None = false
is_there (Some x) = true

abbrev emptied : (w : Wanted) → AsksNothing w
    → w ≡ record { images = []; devices = []; units = []; paths = []; online = [] }
emptied w none = λ i. record {
  images = none.no_images i;
  devices = none.no_devices i;
  units = none.no_units i;
  paths = none.no_paths i;
  online = none.no_online i;
}

view_is_asked : (s : Side) (v : Option View)
    → is_view_asked (record { images = []; devices = []; units = []; paths = []; online = [] }) s v ≡ is_there v
view_is_asked s None = refl
view_is_asked s (Some v) = refl

side_is_asked : (s : Option Side)
    → is_asked (record { images = []; devices = []; units = []; paths = []; online = [] }) s ≡ is_there (seen s)
side_is_asked None = refl
side_is_asked (Some s) = view_is_asked s (view_in s)

-- where nothing is seen before and after, nothing is done
none_done : (b a : Option Side) → seen b ≡ None → seen a ≡ None → effect_between b a ≡ no_effect
none_done None None before after = refl
none_done None (Some t) before after =
    λ i. record { before = None; after = after i; interrupted = false; offon = false }
none_done (Some s) None before after = alone_before s ∙ ap seen_before before
none_done (Some s) (Some t) before after = λ i. record {
  before = before i;
  after = after i;
  interrupted = nat_lt 0 (on (before i)) && nat_lt 0 (on (seen (Some t))) && not (keeps_a_path (Some s) (Some t));
  offon = list_any (λ p. stays_on (Some s) (Some t) p && not (has_one_route (Some s) (Some t) p)) (paths_of (before i));
}

left_if_there : (b a : Option Side) (v u : Option View) → seen b ≡ v → seen a ≡ u
    → cond (is_there v || is_there u) (effect_between b a) no_effect ≡ effect_between b a
left_if_there b a (Some v) u before after = refl
left_if_there b a None (Some u) before after = refl
left_if_there b a None None before after = sym (none_done b a before after)

and_true : (x : Bool) → (x && true) ≡ x
and_true true = refl
and_true false = refl

pub without_filters : WithoutFiltersAllIsTold
without_filters w h k b a =
    ap (λ x. left_between x false k b a) (emptied w (nothing_asked w h))
    ∙ ap (λ x. cond x (effect_between b a) no_effect)
    (and_true (is_asked (record { images = []; devices = []; units = []; paths = []; online = [] }) b
    || is_asked (record { images = []; devices = []; units = []; paths = []; online = [] }) a)
    ∙ (λ i. side_is_asked b i || side_is_asked a i))
    ∙ left_if_there b a (seen b) (seen a) refl refl
