-- A configuration that was read from a deck is that of its deck.
use Rattle.std.proofs.Common.{◌≡◌, List, sym, subst}
use Rattle.std.proofs.lemmas.Result.{IfOk-at_ok}
use Rattle.iocm_model.specs.Machine.Record.{Rec}
use Rattle.iocm_model.specs.Machine.Configuration.{configuration_of, records_of}
use Rattle.iocm_round_trip.specs.Again.{expanded, deck_of, IsOfItsDeck}
use Rattle.iocm_round_trip.proofs.Among.{IsAmong, given_by_one, among_all_given}
use Rattle.iocm_round_trip.proofs.Members.{was_among, stays_among, same_configuration}
use Rattle.iocm_round_trip.proofs.Whole.{AreOfDeck, records_are_of_deck}

module _ (records : List Rec) (are : AreOfDeck records) where
  -- what stands in the deck of the configuration is one of the records
  was_read : (r : Rec) → IsAmong r (deck_of (records_of (configuration_of records))) → IsAmong r records
  was_read r is =
      let of = given_by_one expanded r (records_of (configuration_of records)) is in
      subst (IsAmong r) are.whole
      (among_all_given expanded r of.giver records (was_among of.giver records of.there) of.given)

  -- and each of the records stands there
  is_written : (r : Rec) → IsAmong r records → IsAmong r (deck_of (records_of (configuration_of records)))
  is_written r is =
      let of = given_by_one expanded r records (subst (IsAmong r) (sym are.whole) is) in
      among_all_given expanded r of.giver (records_of (configuration_of records))
      (stays_among of.giver records are.apart of.there) of.given

  of_its_deck : configuration_of (deck_of (records_of (configuration_of records))) ≡ configuration_of records
  of_its_deck = same_configuration (deck_of (records_of (configuration_of records))) records are.apart was_read
      is_written

pub is_of_its_deck : IsOfItsDeck
is_of_its_deck bytes records is = of_its_deck records (IfOk-at_ok AreOfDeck is (records_are_of_deck bytes))
