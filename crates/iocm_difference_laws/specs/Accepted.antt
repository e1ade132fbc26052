-- Decks that `check` accepts, and what their configurations are.
use Rattle.std.specs.Prelude.{◌≡◌, ◌↔◌, ℕ, List, Ok}
use Rattle.iocm_model.specs.Machine.Configuration.{Configuration}
use Rattle.iocm_console.specs.declared.status.Status.TheVariants.{Done}
use Rattle.iocm_console.specs.Opening.{opened_deck}
use Rattle.iocm_answer.specs.Manner.{as_text}
use Rattle.iocm_answer.specs.Commands.Check.{checked}
use Rattle.iocm_difference_laws.specs.Again.{IsConfigurationOfDeck}

-- bytes that are opened as this configuration
abbrev pub IsAcceptedDeck : List ℕ → Configuration → Type 0
IsAcceptedDeck bytes c = opened_deck bytes ≡ Ok c

-- these are exactly the bytes of which `check` ends as done
abbrev pub CheckAcceptsThem : Type 0
CheckAcceptsThem = (bytes : List ℕ) → ((checked as_text bytes).status ≡ Done)
    ↔ ((c : Configuration) × IsAcceptedDeck bytes c)

-- such a configuration is one that a deck gives
abbrev pub AcceptedDecksAreConfigurationsOfDecks : Type 0
AcceptedDecksAreConfigurationsOfDecks = (bytes : List ℕ) (c : Configuration) → IsAcceptedDeck bytes c
    → IsConfigurationOfDeck c
