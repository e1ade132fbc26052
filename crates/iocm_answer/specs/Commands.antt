-- The commands: what each prints of the bytes of a deck, and of the texts after it.
use Rattle.std.specs.Prelude.{◌≡◌, ⊤, ℕ, true, false, List, [], ◌∷◌, Option, None, Some, Ok}
use Rattle.iocm_model.specs.Laws.Trees.{KeepsTheRules}
use Rattle.iocm_model.specs.Machine.Configuration.{Configuration}
use Rattle.iocm_model.specs.Operation.State.{State, opening_state}
use Rattle.iocm_command.specs.declared.table.Breaches.TheVariants.{First, All}
use Rattle.iocm_command.specs.declared.table.Command.{Command}
use Rattle.iocm_command.specs.declared.table.Command.TheVariants as command
use Rattle.iocm_console.specs.Opening.{configuration_in, opened_deck}
use Rattle.iocm_console.specs.Shown.{Shown}
use Rattle.iocm_answer.specs.Census.{census_of}
use Rattle.iocm_answer.specs.declared.manner.Manner.{Manner}
use Rattle.iocm_answer.specs.Manner.{shown_or_refused}
use Rattle.iocm_answer.specs.declared.answer.Answer.{Answer}
use Rattle.iocm_answer.specs.declared.answer.Answer.TheVariants as answer
use Rattle.iocm_answer.specs.declared.answering.Begun.{Begun}
use Rattle.iocm_answer.specs.declared.answering.Begun.TheVariants as begun
use Rattle.iocm_answer.specs.Commands.Apply.{applied, opened_machine}
use Rattle.iocm_answer.specs.Commands.Check.{checked_by, IsAllChecked}
use Rattle.iocm_answer.specs.Commands.Diff.{differed, HasEdits}
use Rattle.iocm_answer.specs.Commands.Listing.{listed_of}
use Rattle.iocm_answer.specs.Commands.Plan.{asked_of, change_planned, planned, SaysIfTold, SaysOfChange}
use Rattle.iocm_answer.specs.Commands.Run.{IsOfTexts}
use Rattle.iocm_answer.specs.Commands.Show.{showed}
use Rattle.iocm_answer.specs.Commands.Vary.{varied_of}
use Rattle.iocm_answer.specs.Commands.Write.{written}
pub mod Apply
pub mod Check
pub mod Diff
pub mod Listing
pub mod Plan
pub mod Run
pub mod Show
pub mod Vary
pub mod Write

-- the first of the texts after a deck, and those after it; a text that isn't there is empty
abbrev pub first_text : List (List ℕ) → List ℕ
first_text [] = []
first_text (text ∷ texts) = text

abbrev pub later_texts : List (List ℕ) → List (List ℕ)
later_texts [] = []
later_texts (text ∷ texts) = texts

-- by a command this is printed, in a manner, of the bytes of a deck and of the texts after it
abbrev pub IsMeant : Manner → Command → List ℕ → List (List ℕ) → Shown → Type 0
IsMeant m (command.Check name breaches) deck others shown = shown ≡ checked_by breaches m deck
IsMeant m (command.Show name filters) deck others shown = shown ≡ showed m filters deck
IsMeant m (command.List listed name filters) deck others shown =
    shown ≡ shown_or_refused m (listed_of m listed filters) (opened_deck deck)
IsMeant m (command.Write name) deck others shown = shown ≡ written m deck
IsMeant m (command.Diff old new before) deck others shown = shown ≡ differed m before deck (first_text others)
IsMeant m (command.Plan old new scope filters) deck others shown =
    shown ≡ planned m (asked_of scope filters true) deck (first_text others)
IsMeant m (command.Vary name to filters) deck others shown =
    shown ≡ shown_or_refused m (varied_of to filters) (opened_deck deck)
IsMeant m (command.Apply name change heap report filters) deck others shown =
    shown ≡ applied m (record { report = report; wanted = filters }) deck (first_text others)
IsMeant m (command.PlanChange name change heap scope filters) deck others shown =
    shown ≡ change_planned m (asked_of scope filters false) deck (first_text others)
IsMeant m (command.Run name script changes heap) deck others shown =
    IsOfTexts m deck (later_texts others) (first_text others) shown
IsMeant m (command.Explain rules) deck others shown = ⊥

-- what an answer tells beside what is printed: how much a deck has, how many edits a difference has, and whether a plan
-- tells something
abbrev pub Counts : Command → List ℕ → List (List ℕ) → Answer → Type 0
Counts (command.Check name First) deck others a =
    (c : Configuration) → opened_deck deck ≡ Ok c → a ≡ answer.Accepted (census_of c)
Counts (command.Check name All) deck others a = IsAllChecked (configuration_in deck) a
Counts (command.Diff old new before) deck others a =
    (c : Configuration) → opened_deck deck ≡ Ok c → HasEdits c (first_text others) a
Counts (command.Plan old new scope filters) deck others a =
    (c : Configuration) → opened_deck deck ≡ Ok c → SaysIfTold (asked_of scope filters true) c (first_text others) a
Counts (command.PlanChange name change heap scope filters) deck others a =
    (s : State) → opened_machine deck ≡ Ok s → SaysOfChange (asked_of scope filters false) s (first_text others) a
Counts _ deck others a = ⊤

-- a command has a deck
abbrev pub HasDeck : Command → Type 0
HasDeck (command.Explain rules) = ⊥
HasDeck _ = ⊤

-- what the bytes of a deck open to: its configuration, its machine, or the bytes
abbrev pub OpensTo : List ℕ → Begun → Type 0
OpensTo deck (begun.Deck config) = opened_deck deck ≡ Ok config.records
OpensTo deck (begun.Machine plant) = opened_machine deck ≡ Ok plant.state
OpensTo deck (begun.Text text) = text.now ≡ deck

-- the configuration, where that is it
abbrev pub configuration_of : Begun → Option Configuration
configuration_of (begun.Deck config) = Some config.records
configuration_of _ = None

-- a command goes on from this: a script from a machine that was just opened
abbrev pub GoesOnFrom : Command → Begun → Type 0
GoesOnFrom (command.Check name First) (begun.Deck config) = ⊤
GoesOnFrom (command.Check name All) (begun.Text text) = ⊤
GoesOnFrom (command.Show name filters) (begun.Deck config) = ⊤
GoesOnFrom (command.List listed name filters) (begun.Deck config) = ⊤
GoesOnFrom (command.Write name) (begun.Deck config) = ⊤
GoesOnFrom (command.Diff old new before) (begun.Deck config) = ⊤
GoesOnFrom (command.Plan old new scope filters) (begun.Deck config) = ⊤
GoesOnFrom (command.Vary name to filters) (begun.Deck config) = ⊤
GoesOnFrom (command.Apply name change heap report filters) (begun.Machine plant) = KeepsTheRules plant.state
GoesOnFrom (command.PlanChange name change heap scope filters) (begun.Machine plant) = KeepsTheRules plant.state
GoesOnFrom (command.Run name script changes heap) (begun.Machine plant) =
    KeepsTheRules plant.state × (plant.state ≡ opening_state plant.state.config)
GoesOnFrom _ _ = ⊥

-- a command looks at the configuration of its deck alone
abbrev pub AsksOfDeck : Command → Type 0
AsksOfDeck (command.Check name First) = ⊤
AsksOfDeck (command.List listed name filters) = ⊤
AsksOfDeck (command.Write name) = ⊤
AsksOfDeck (command.Diff old new before) = ⊤
AsksOfDeck (command.Plan old new scope filters) = ⊤
AsksOfDeck (command.Vary name to filters) = ⊤
AsksOfDeck _ = ⊥
