use Rattle.iocm_round_trip.proofs.Deck.{deck_is_read_again}
use Rattle.iocm_round_trip.proofs.GivenRecords.{gives_records}
use Rattle.iocm_round_trip.proofs.Keys.{is_of_its_deck}
use Rattle.iocm_round_trip.proofs.Same.{configuration_is_read_again}
use Rattle.iocm_round_trip.proofs.laws.decks_are_read_again.Goals as goal

pub returns : goal.returns
returns c = record {
  given = gives_records;
  deck = deck_is_read_again;
  own = is_of_its_deck;
  same = configuration_is_read_again;
}
