-- Numbers that followed a change of the configuration: what was freed and given, and that it can be
-- taken back.
use Rattle.std.proofs.Common.{◌≡◌, ℕ, false, List, Some, sym, ap, subst, ◌∙◌}
use Rattle.std.specs.FinMap.{get}
use Rattle.std.specs.Option.{option_or}
use Rattle.iocm_types.specs.declared.key.Key.{Key}
use Rattle.iocm_types.specs.declared.place.Place.{Place}
use Rattle.iocm_model.specs.Machine.Configuration.{Configuration}
use Rattle.iocm_model.specs.Machine.Numbering.{Numbering}
use Rattle.iocm_model.specs.Change.Inverse.{freed_numbers}
use Rattle.iocm_model.specs.Change.Refusal.{is_number_taken}
use Rattle.iocm_model.specs.Change.Renumbering.{numbers_after}
use Rattle.iocm_numbers.specs.Exchange.{Agree, exchanged, without_rows}
use Rattle.iocm_numbers.specs.NumberChanges.{WereBefore}
use Rattle.iocm_numbers.specs.Numbered.{Numbered, HasNoNumberTwice, HasRoom, KeepsRoom}
use Rattle.iocm_numbers.specs.PutBack.{FitIn, HaveRoom}
use Rattle.iocm_numbers.proofs.Exchanging.{exchange_leads, rows_fit_in, rows_have_room, changes_agree, agree_both_ways}
use Rattle.iocm_seats.specs.Seated.{Seats}
use Rattle.iocm_plant.specs.declared.quiet.Quiet.{Quiet}
use Rattle.iocm_plant.specs.Following.{seating_refusal, following_refusal}
use Rattle.iocm_plant.specs.Refusing.{refusal_by_number}

-- numbers followed a change of the configuration, with those that came along: these were freed, and
-- these given
pub record WereRenumbered (d : Configuration) (carried : List (Place × ℕ)) (old new : Numbered)
    (freed given : List (Place × ℕ)) : Type 0 where
  pub apart : HasNoNumberTwice old.numbers
  pub have_room : (place : Place) (number : ℕ) → get old.numbers place ≡ Some number → HasRoom old place number
  pub now : new.numbers ≡ numbers_after d carried old.numbers
  pub gone : freed ≡ freed_numbers old.numbers new.numbers
  pub come : given ≡ freed_numbers new.numbers old.numbers
  pub room : KeepsRoom old new

module _ {d : Configuration} {carried : List (Place × ℕ)} {old new : Numbered} {freed given : List (Place × ℕ)}
    (w : WereRenumbered d carried old new freed given) where
  -- a device that has a number before and after has the same
  agree : Agree old.numbers new.numbers
  agree = subst (Agree old.numbers) (sym w.now) (changes_agree d carried old.numbers)

  -- and the other way round
  agree_back : Agree new.numbers old.numbers
  agree_back = agree_both_ways old.numbers new.numbers agree

  -- what was freed and given tells what changed
  pub were_before : WereBefore old.numbers new.numbers freed given
  were_before = record { agree = agree; apart = w.apart; gone = w.gone; come = w.come }

  -- what was freed has room
  pub freed_have_room : HaveRoom new freed
  freed_have_room = subst (HaveRoom new) (sym w.gone)
      (rows_have_room new new.numbers old.numbers
      (λ place number has. w.room place number (w.have_room place number has)))

  -- and fits in once what was given is out
  pub freed_fit_in : FitIn (without_rows new.numbers given) freed
  freed_fit_in = subst (λ (rows : List (Place × ℕ) × List (Place × ℕ)). FitIn (without_rows new.numbers rows.0) rows.1)
      (sym (λ i. (w.come i, w.gone i))) (rows_fit_in new.numbers old.numbers agree_back w.apart)

  -- exchanged for it, it leads back to the numbers from before
  pub exchanged_back : exchanged new.numbers given freed ≡ old.numbers
  exchanged_back = (λ i. exchanged new.numbers (w.come i) (w.gone i))
      ∙ exchange_leads new.numbers old.numbers agree_back

-- where no number that comes along is taken, only seats are in the way
pub seats_are_in_the_way : (d : Configuration) (n m : Numbering) (seats : Seats) (key : Key)
    (carried : List (Place × ℕ)) (quiet : Quiet)
    → m ≡ numbers_after d carried n → is_number_taken d n carried ≡ false
    → seating_refusal d m seats quiet ≡ following_refusal d n seats key carried quiet
seats_are_in_the_way d n m seats key carried quiet now free = ap (λ k. seating_refusal d k seats quiet) now
    ∙ sym (ap (λ t. option_or (refusal_by_number key t) (seating_refusal d (numbers_after d carried n) seats quiet))
    free)
