-- What `plan` prints of two decks, and `apply --plan` of a deck and a change deck.
use Rattle.std.specs.Prelude.{◌≡◌, ℕ, Bool, List, Ok, Err}
use Rattle.iocm_model.specs.Machine.Configuration.{Configuration}
use Rattle.iocm_model.specs.Change.Meaning.{Outcome, meaning}
use Rattle.iocm_model.specs.Operation.State.{State}
use Rattle.iocm_filter.specs.Wanted.{Wanted}
use Rattle.iocm_tree.specs.Trees.{CarriedTree, plain_tree}
use Rattle.iocm_tree_writer.specs.Again.{tree_in}
use Rattle.iocm_plan_text.specs.Asked.{Asked}
use Rattle.iocm_plan_text.specs.Whole.{plan_text, tells}
use Rattle.iocm_command.specs.declared.report.PlanScope.{PlanScope}
use Rattle.iocm_console.specs.Opening.{opened_deck}
use Rattle.iocm_console.specs.Refusal.{or_refused}
use Rattle.iocm_console.specs.Shown.{Shown, done}
use Rattle.iocm_answer.specs.Answer as answer
use Rattle.iocm_answer.specs.declared.answer.Answer.{Answer}
use Rattle.iocm_answer.specs.declared.manner.Manner.{Manner}
use Rattle.iocm_answer.specs.Manner.{shown_or_refused}
use Rattle.iocm_answer.specs.Commands.Apply.{opened_machine, told_or_refused}

abbrev pub asked_of : PlanScope → Wanted → Bool → Asked
asked_of scope w is_of_decks =
    record { wanted = w; is_lost = scope.is_lost; is_brief = scope.is_brief; is_of_decks = is_of_decks }

-- what is printed of the old configuration and the bytes of the new deck: the plan, or the new deck's refusal
abbrev pub planned_from : Manner → Asked → Configuration → List ℕ → Shown
planned_from m a c new = shown_or_refused m (λ d. done (plan_text a c d)) (opened_deck new)

-- of the bytes of two decks: the old deck's refusal comes first
abbrev pub planned : Manner → Asked → List ℕ → List ℕ → Shown
planned m a old new = shown_or_refused m (λ c. planned_from m a c new) (opened_deck old)

-- what is printed of what a change tree means in a state: the plan of the configurations before and after it, or the
-- refusal
abbrev pub planned_change : Manner → Asked → State → Outcome → Shown
planned_change m a s o = told_or_refused m (λ r. plan_text a s.config r.state.config) o

-- of the bytes of a change deck, tried in a state: a fault of the text comes first
abbrev pub change_tried : Manner → Asked → State → List ℕ → Shown
change_tried m a s change =
    shown_or_refused m (λ t. planned_change m a s (meaning (plain_tree t) s)) (or_refused (tree_in change))

-- of the bytes of a deck and of a change deck: the deck's refusal comes first
abbrev pub change_planned : Manner → Asked → List ℕ → List ℕ → Shown
change_planned m a deck change = shown_or_refused m (λ s. change_tried m a s change) (opened_machine deck)

-- ---- whether an answer says that something is told

abbrev pub Says : Asked → Configuration → Configuration → Answer → Type 0
Says a c d x = answer.tells x ≡ tells a c d

abbrev pub SaysIfTold : Asked → Configuration → List ℕ → Answer → Type 0
SaysIfTold a c new x = (d : Configuration) → opened_deck new ≡ Ok d → Says a c d x

-- of a change that was made
abbrev pub SaysOfOutcome : Asked → State → Outcome → Answer → Type 0
SaysOfOutcome a s (Ok r) x = Says a s.config r.state.config x
SaysOfOutcome a s (Err why) x = ⊥

abbrev pub SaysOfChange : Asked → State → List ℕ → Answer → Type 0
SaysOfChange a s change x =
    (t : CarriedTree) → tree_in change ≡ Ok t → SaysOfOutcome a s (meaning (plain_tree t) s) x
