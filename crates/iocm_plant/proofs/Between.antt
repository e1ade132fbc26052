-- Between an edit and its way back: what leaves the configuration, the numbers and the places takes
-- nothing from the edit that takes it back.
use Rattle.std.proofs.Common.{List, [], ◌∷◌, Option, Some, None, refl, sym, ap, subst, ◌∙◌}
use Rattle.std.specs.List.{AllByRecursion}
use Rattle.iocm_types.specs.declared.naming.Naming.{Naming}
use Rattle.iocm_types.specs.declared.sub_id.SubId.{SubId}
use Rattle.iocm_types.specs.Naming.{naming_cmp}
use Rattle.iocm_model.specs.Machine.Record.{Rec}
use Rattle.iocm_model.specs.Operation.State.{State, Lives, IsSound, HasConfigAndNumbersOf}
use Rattle.iocm_model.specs.Operation.Step.{Step, after_step}
use Rattle.iocm_model.specs.Change.Edit.{Edit, action_key, state_after, record_after}
use Rattle.iocm_model.specs.Change.Inverse.{inverse_of, freed_numbers}
use Rattle.iocm_model.specs.Laws.Runs.{HasSameKeys}
use Rattle.iocm_model.proofs.Change.Steps.{steps_stay_sound}
use Rattle.iocm_model.proofs.Change.EditsGoBack.{inverse_gives, lived_after}
use Rattle.iocm_index.specs.Namings.{namings_of}
use Rattle.iocm_plant.specs.Operating.{HasNamingRoom, KeepsPlaces, KeepsRoom}
use Rattle.iocm_plant.specs.Between.{SamePlacesAreKept, PlacesAreKeptOn, StandsAsItDoes, StandsOn, StepsLeaveItStanding}
use Rattle.iocm_plant.specs.Between.{CanStillUnapply}
use Rattle.iocm_plant.specs.Between.{TakenBackItStandsAsBefore}

-- ---- what holds of each holds on

all_on : {A : Type 0} {P Q : A → Type 0} → ((x : A) → P x → Q x) → (xs : List A) → AllByRecursion P xs
    → AllByRecursion Q xs
all_on more [] h = h
all_on more (x ∷ xs) h = (more x h.0, all_on more xs h.1)

-- the namings of a record that comes
pub naming_room_kept : (ps qs : List Naming) → KeepsPlaces naming_cmp ps qs → (o : Option Rec) → HasNamingRoom ps o
    → HasNamingRoom qs o
naming_room_kept ps qs keeps None room = room
naming_room_kept ps qs keeps (Some r) room = all_on keeps (namings_of r) room

-- ---- a machine stands as before

pub places_are_kept_on : PlacesAreKeptOn
places_are_kept_on a b c before after = record {
  same_keys = λ key h. after.same_keys key (before.same_keys key h);
  same_numbers = λ row h. after.same_numbers row (before.same_numbers row h);
  same_namings = λ key h. after.same_namings key (before.same_namings key h);
  same_subchannels = λ key h. after.same_subchannels key (before.same_subchannels key h);
}

-- where the places are the same, none is lost
pub same_places_are_kept : SamePlacesAreKept
same_places_are_kept old new same = subst (KeepsRoom old) (sym same)
    (record {
      same_keys = λ key h. h;
      same_numbers = λ row h. h;
      same_namings = λ key h. h;
      same_subchannels = λ key h. h;
    })

pub stands_as_it_does : StandsAsItDoes
stands_as_it_does p sound = record {
  state = record { config = refl; numbers = refl; lived = sound.lived };
  room = same_places_are_kept p.room p.room refl;
}

pub stands_on : StandsOn
stands_on p q r before after = record {
  state = record {
    config = after.state.config ∙ before.state.config;
    numbers = after.state.numbers ∙ before.state.numbers;
    lived = after.state.lived;
  };
  room = places_are_kept_on p.room q.room r.room before.room after.room;
}

left_standing : (x : SubId) (step : Step) (s : State) → IsSound s → HasConfigAndNumbersOf (after_step x step s) s
left_standing x step s sound = record { config = refl; numbers = refl; lived = (steps_stay_sound x step s sound).lived }

pub steps_leave_it_standing : StepsLeaveItStanding
steps_leave_it_standing x step p q sound is room = record {
  state = subst (λ (s : State). HasConfigAndNumbersOf s p.state) (sym is) (left_standing x step p.state sound);
  room = same_places_are_kept p.room q.room room;
}

-- ---- an edit that takes another one back

pub can_still_unapply : CanStillUnapply
can_still_unapply i p q can stands = record {
  back = record {
    edit = can.back.edit;
    state = can.back.state;
    sound = can.back.sound;
    is_config = stands.state.config ∙ can.back.is_config;
    is_numbers = stands.state.numbers ∙ can.back.is_numbers;
    action = can.back.action;
    places = can.back.places;
    lives = can.back.lives;
    frees = can.back.frees ∙ (λ k. freed_numbers (sym stands.state.numbers k) can.back.state.numbers);
    meets = can.back.meets;
  };
  room = record {
    key = stands.room.same_keys (action_key i.edit.action) can.room.key;
    namings = naming_room_kept p.room.namings q.room.namings stands.room.same_namings (record_after i.edit.action)
        can.room.namings;
    numbers = all_on stands.room.same_numbers i.edit.places can.room.numbers;
    subchannels = λ x h. stands.room.same_subchannels x (can.room.subchannels x h);
  };
}

back_as_before : (e : Edit) (s u : State) (carried : Lives) → IsSound s → HasConfigAndNumbersOf u (state_after e s)
    → HasSameKeys carried (inverse_of e s).lives
    → HasConfigAndNumbersOf (state_after (record (inverse_of e s) { lives = carried }) u) s
back_as_before e s u carried sound like same =
    let is = inverse_gives e s u carried sound like same in record {
      config = ap (λ (t : State). t.config) is;
      numbers = ap (λ (t : State). t.numbers) is;
      lived = lived_after (record (inverse_of e s) { lives = carried }) u like.lived;
    }

pub taken_back_it_stands_as_before : TakenBackItStandsAsBefore
taken_back_it_stands_as_before e i p q r t was =
    let like : HasConfigAndNumbersOf r.state (state_after e p.state) =
    subst (HasConfigAndNumbersOf r.state) was.performed was.stands.state in record {
      state = subst (λ (s : State). HasConfigAndNumbersOf s p.state)
          (sym (was.taken_back ∙ ap (λ (k : Edit). state_after k r.state) was.inverse))
          (back_as_before e p.state r.state i.lives was.sound like was.lives);
      room = places_are_kept_on p.room q.room t.room was.room_kept
          (places_are_kept_on q.room r.room t.room was.stands.room (same_places_are_kept r.room t.room was.same_room));
    }
