-- The live records of altered subchannels, listed along with the changes.
use Rattle.std.proofs.Common.{◌≡◌, Bool, true, false, cond, List, [], ◌++◌, Option, None, Some, refl, sym, ap, ◌∙◌}
use Rattle.std.specs.List.{cons_option}
use Rattle.std.specs.Option.{option_map, option_eq}
use Rattle.std.specs.FinMap.{get}
use Rattle.std.proofs.lemmas.List.Elements.{filter_map-append}
use Rattle.iocm_types.specs.declared.live.Live.{Live}
use Rattle.iocm_types.specs.declared.sub_id.SubId.{SubId}
use Rattle.iocm_types.specs.declared.view.View.{View}
use Rattle.iocm_model.specs.Change.Edit.{same_view}
use Rattle.iocm_model.specs.Operation.State.{Lives}
use Rattle.iocm_seats.specs.declared.seat.Seat.{Seat}
use Rattle.iocm_seats.specs.declared.view_change.ViewChange.{ViewChange}
use Rattle.iocm_seats.specs.Seated.{Seats, lives_seated}
use Rattle.iocm_seats.specs.Changes.{change_from}
use Rattle.iocm_seats.specs.Settling.{lives_met, met_at}
use Rattle.iocm_seats.proofs.Settled.{live_in, live_seated}

-- the live record at the subchannel of a change, in a row
abbrev row_at : Lives → ViewChange → Option (SubId × Live)
row_at lives ch = option_map (λ (l : Live). (ch.subchannel, l)) (get lives ch.subchannel)

-- those of more changes
pub met_more : (lives : Lives) (changes more all : List ViewChange) (met further rows : List (SubId × Live))
    → met ≡ lives_met lives changes → all ≡ changes ++ more
    → rows ≡ met ++ further → further ≡ lives_met lives more → rows ≡ lives_met lives all
met_more lives changes more all met further rows before is rows_are further_are =
    rows_are ∙ (λ i. before i ++ further_are i) ∙ sym (filter_map-append (row_at lives) changes more)
    ∙ ap (lives_met lives) (sym is)

-- those at a subchannel with a seat
pub met_there : (seats : Seats) (x : SubId) (seat : Seat) → get seats x ≡ Some seat → (after : Option View)
    → met_at seat.live (cons_option (change_from (Some seat.view) after x) [])
    ≡ lives_met (lives_seated seats) (cons_option (change_from (Some seat.view) after x) [])
met_there seats x seat is after = by (option_eq same_view (Some seat.view) after)
  where
    change : Bool → Option ViewChange
    change b = cond b None (Some (record { subchannel = x; before = Some seat.view; after = after }))

    by : (b : Bool) → met_at seat.live (cons_option (change b) [])
        ≡ lives_met (lives_seated seats) (cons_option (change b) [])
    by true = refl
    by false = sym (ap (λ (o : Option Live). cons_option (option_map (λ (l : Live). (x, l)) o) [])
        (live_seated seats x ∙ ap live_in is))

-- those at a subchannel without a seat
pub met_nowhere : (seats : Seats) (x : SubId) → get seats x ≡ None → (after : Option View)
    → [] ≡ lives_met (lives_seated seats) (cons_option (change_from None after x) [])
met_nowhere seats x is after = by (option_eq same_view None after)
  where
    change : Bool → Option ViewChange
    change b = cond b None (Some (record { subchannel = x; before = None; after = after }))

    by : (b : Bool) → [] ≡ lives_met (lives_seated seats) (cons_option (change b) [])
    by true = refl
    by false = sym (ap (λ (o : Option Live). cons_option (option_map (λ (l : Live). (x, l)) o) [])
        (live_seated seats x ∙ ap live_in is))
