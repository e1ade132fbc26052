-- Why an edit is refused that numbers and seats don't follow.
use Rattle.std.proofs.Common.{◌≡◌, ℕ, Bool, true, false, List, map, Option, None, refl, sym, ap, ◌∙◌}
use Rattle.std.specs.FinMap.{get, contains_key}
use Rattle.std.specs.Option.{option_or}
use Rattle.iocm_types.specs.declared.key.Key.{Key}
use Rattle.iocm_types.specs.declared.place.Place.{Place}
use Rattle.iocm_types.specs.declared.refused.Refused.{Refused}
use Rattle.iocm_model.specs.Machine.Configuration.{Configuration}
use Rattle.iocm_model.specs.Machine.Numbering.{Numbering}
use Rattle.iocm_model.specs.Change.Edit.{Edit, same_view, action_key, config_after, altered_by}
use Rattle.iocm_model.specs.Change.Maps.{differing}
use Rattle.iocm_model.specs.Change.Refusal.{refusal_by_key, is_number_taken, first_not_quiet}
use Rattle.iocm_model.specs.Change.Renumbering.{numbers_after}
use Rattle.iocm_model.specs.Operation.State.{State, views_of}
use Rattle.iocm_seats.specs.declared.view_change.ViewChange.{ViewChange}
use Rattle.iocm_seats.specs.Seated.{Seats, lives_seated, views_seated}
use Rattle.iocm_plant.specs.declared.plant.Plant.TheInside.{Inside}
use Rattle.iocm_plant.specs.declared.quiet.Quiet.{Quiet}
use Rattle.iocm_plant.specs.Following.{seen_changes, seating_refusal, following_refusal}
use Rattle.iocm_plant.specs.Refusing.{refusal_by_number, refusal_by_quiet, refusal_when}
use Rattle.iocm_plant.proofs.Altered.{changed_subchannels}
use Rattle.iocm_plant.proofs.Inside.{AreOperating, state_in}
use Rattle.iocm_plant.proofs.Performed.{altered_are}

-- an edit whose numbers or seats are in the way, as the definition of a refusal says it
abbrev later_refusal : Quiet → Edit → State → Option Refused
later_refusal quiet e s = option_or
    (refusal_by_number (action_key e.action) (is_number_taken (config_after e.action s.config) s.numbers e.places))
    (refusal_by_quiet quiet (first_not_quiet s.lives (altered_by e s)))

module _ (e : Edit) (p : Inside) (before : AreOperating p) (d : Configuration)
    (changed : d ≡ config_after e.action p.config.records) where
  -- the numbers that are given
  abbrev m : Numbering
  m = numbers_after d e.places p.numbers.numbers

  -- the subchannels that are seen differently are those that the edit alters
  subchannels_are : map (λ (ch : ViewChange). ch.subchannel) (seen_changes d m p.seats.seats)
      ≡ altered_by e (state_in p)
  subchannels_are = changed_subchannels (get (views_seated p.seats.seats)) (get (views_of d m))
      (differing same_view (views_seated p.seats.seats) (views_of d m))
      ∙ altered_are {e = e} {p = p} {d = d} {m = m} (record { before = before; changed = changed; renumbered = refl })

  -- numbers and seats don't follow for what is in the way of the edit
  refused_later : (quiet : Quiet)
      → following_refusal d p.numbers.numbers p.seats.seats (action_key e.action) e.places quiet
      ≡ later_refusal quiet e (state_in p)
  refused_later quiet = λ i.
      option_or (refusal_by_number (action_key e.action) (is_number_taken (changed i) p.numbers.numbers e.places))
      (refusal_by_quiet quiet (first_not_quiet (lives_seated p.seats.seats) (subchannels_are i)))

-- where the key isn't in the way, nothing else is than numbers and seats
key_aside : (quiet : Quiet) (e : Edit) (s : State)
    → refusal_by_key e.action (contains_key s.config (action_key e.action)) ≡ None
    → refusal_when quiet e s ≡ later_refusal quiet e s
key_aside quiet e s none = ap (λ r. option_or r (later_refusal quiet e s)) none

-- they don't follow for what the edit is refused for, where its key isn't in the way
pub refusal_is : (e x : Edit) (p : Inside) (s : State) (before : AreOperating p) (d : Configuration)
    → d ≡ config_after e.action p.config.records
    → e ≡ x → state_in p ≡ s → (key : Key) → key ≡ action_key x.action
    → refusal_by_key x.action (contains_key p.config.records (action_key x.action)) ≡ None
    → (quiet : Quiet) → following_refusal d p.numbers.numbers p.seats.seats key e.places quiet ≡ refusal_when quiet x s
refusal_is e x p s before d changed same is key own none quiet =
    ap (λ k. following_refusal d p.numbers.numbers p.seats.seats k e.places quiet)
    (own ∙ ap (λ (y : Edit). action_key y.action) (sym same))
    ∙ refused_later e p before d changed quiet ∙ (λ i. later_refusal quiet (same i) (state_in p))
    ∙ sym (key_aside quiet x (state_in p) none) ∙ ap (refusal_when quiet x) is

-- where no number is taken by the refusal that is due
number_free : (key : Key) (taken : Bool) (rest : Option Refused) → option_or (refusal_by_number key taken) rest ≡ None
    → taken ≡ false
number_free key true rest h = cc
number_free key false rest h = refl

-- where they follow, no number that comes along is taken
pub none_taken : (d : Configuration) (n : Numbering) (seats : Seats) (key : Key) (carried : List (Place × ℕ))
    (quiet : Quiet)
    → following_refusal d n seats key carried quiet ≡ None → is_number_taken d n carried ≡ false
none_taken d n seats key carried quiet h =
    number_free key (is_number_taken d n carried) (seating_refusal d (numbers_after d carried n) seats quiet) h
