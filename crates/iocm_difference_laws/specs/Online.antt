-- The deck of a configuration that was read of a deck says all of what is online.
use Rattle.std.specs.Prelude.{◌≡◌, ℕ, List}
use Rattle.std.specs.FinMap.{keys}
use Rattle.iocm_model.specs.Machine.Configuration.{Configuration}
use Rattle.iocm_deck_writer.specs.Canonical.{canonical_deck}
use Rattle.iocm_reports.specs.Deck.{deck_text, online_by_lists, online_in}
use Rattle.iocm_difference_laws.specs.Accepted.{IsAcceptedDeck}

-- exactly the pairs of its access lists are online in it
abbrev pub AreOnlineByTheirLists : Type 0
AreOnlineByTheirLists = (bytes : List ℕ) (d : Configuration) → IsAcceptedDeck bytes d
    → keys (online_by_lists d) ≡ keys (online_in d)

-- so no comment stands behind its canonical deck
abbrev pub DeckOfADeckSaysAll : Type 0
DeckOfADeckSaysAll = (bytes : List ℕ) (d : Configuration) → IsAcceptedDeck bytes d → deck_text d ≡ canonical_deck d
