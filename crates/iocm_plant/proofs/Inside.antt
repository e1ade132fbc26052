-- The tables inside a machine: the state that they are, and that it is sound.
use Rattle.std.proofs.Common.{◌≡◌, is_some, sym, ap, subst, ◌∙◌}
use Rattle.std.specs.FinMap.{get}
use Rattle.iocm_types.specs.declared.sub_id.SubId.{SubId}
use Rattle.iocm_model.specs.Machine.Configuration.{Configuration}
use Rattle.iocm_model.specs.Machine.Numbering.{Numbering}
use Rattle.iocm_model.specs.Operation.State.{State, IsSound, views_of}
use Rattle.iocm_lookup.specs.Indexed.{IsIndexOf}
use Rattle.iocm_seats.specs.Seated.{Seats, lives_seated}
use Rattle.iocm_seats.proofs.Settled.{view_seated, live_seated, both_there}
use Rattle.iocm_plant.specs.Operating.{Operating, IsOperating, operating_of, state_of}
use Rattle.iocm_plant.specs.declared.plant.Plant.TheInside.{Inside}

-- the state that the tables are
abbrev pub state_in : Inside → State
state_in p = state_of p.config.records p.numbers.numbers p.seats.seats

-- with what has a place in them
abbrev pub operating_in : Inside → Operating
operating_in p = operating_of p.config p.numbers p.index p.seats

-- what always holds of them
abbrev pub AreOperating : Inside → Type 0
AreOperating p = IsOperating p.config.records p.numbers.numbers p.index p.seats.seats

-- a live record is there exactly where something is seen
lived_as_seen : (p : Inside) → AreOperating p → (x : SubId)
    → is_some (get (lives_seated p.seats.seats) x) ≡ is_some (get (views_of p.config.records p.numbers.numbers) x)
lived_as_seen p before x = ap is_some (live_seated p.seats.seats x) ∙ both_there (get p.seats.seats x)
    ∙ sym (ap is_some (view_seated p.seats.seats x)) ∙ ap (λ v. is_some (get v x)) before.seated

-- the state is sound
pub sound_state : (p : Inside) → AreOperating p → IsSound (state_in p)
sound_state p before = record { keyed = before.keyed; numbered = before.numbered; lived = lived_as_seen p before }

-- the configuration, the numbers and the seats are as they were
pub record AreAsBefore (p q : Inside) : Type 0 where
  pub same_config : q.config.records ≡ p.config.records
  pub same_numbers : q.numbers.numbers ≡ p.numbers.numbers
  pub same_seats : q.seats.seats ≡ p.seats.seats

-- then the state is as it was
pub state_as_before : {p q : Inside} → AreAsBefore p q → state_in q ≡ state_in p
state_as_before same = λ i. state_of (same.same_config i) (same.same_numbers i) (same.same_seats i)

-- and what always holds holds still
pub operating_as_before : {p q : Inside} → AreAsBefore p q → AreOperating p → IsIndexOf q.config.records q.index
    → AreOperating q
operating_as_before {p} {q} same before indexed = subst
    (λ (k : Configuration × (Numbering × Seats)). IsOperating k.0 k.1.0 q.index k.1.1)
    (sym (λ i. (same.same_config i, (same.same_numbers i, same.same_seats i)))) (record {
      keyed = before.keyed;
      numbered = before.numbered;
      indexed = subst (λ (k : Configuration). IsIndexOf k q.index) same.same_config indexed;
      seated = before.seated;
    })
