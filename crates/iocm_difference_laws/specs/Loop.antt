-- What `diff` prints of two decks, `apply` makes of the old deck the new one, or refuses it with V13.
use Rattle.std.specs.Prelude.{◌≡◌, ◌≤◌, ℕ, List, Ok, Err}
use Rattle.iocm_model.specs.Machine.Configuration.{Configuration}
use Rattle.iocm_model.specs.Change.Meaning.{Outcome}
use Rattle.iocm_model.specs.Change.Tree.{most_leaves}
use Rattle.iocm_filter.specs.Wanted.{Wanted}
use Rattle.iocm_command.specs.declared.table.Before.{Before}
use Rattle.iocm_console.specs.Refusal.{of_change}
use Rattle.iocm_console.specs.Shown.{Shown, done}
use Rattle.iocm_command.specs.declared.report.Report.TheVariants.{Deck}
use Rattle.iocm_answer.specs.Manner.{as_text, refused}
use Rattle.iocm_answer.specs.Commands.Apply.{applied}
use Rattle.iocm_answer.specs.Commands.Diff.{count_between, differed, text_between}
use Rattle.iocm_answer.specs.Commands.Write.{written}
use Rattle.iocm_difference_laws.specs.Meaning.{outcome_between}
use Rattle.iocm_difference_laws.specs.Accepted.{IsAcceptedDeck}

-- `diff` prints the text of the difference of two decks that are accepted
abbrev pub DiffPrintsTheDifference : Type 0
DiffPrintsTheDifference = (before : Before) (old new : List ℕ) (c d : Configuration) → IsAcceptedDeck old c
    → IsAcceptedDeck new d → differed as_text before old new ≡ done (text_between before c d)

-- what is shown where a change is accepted, or its refusal
abbrev pub deck_or_refusal : Outcome → Shown → Shown
deck_or_refusal (Ok performed) shown = shown
deck_or_refusal (Err why) shown = refused as_text (of_change why)

-- of the old deck and of what `diff` prints, `apply` prints as the deck afterwards what `write` prints
-- of the new deck; or it prints the refusal, where a device has no room
abbrev pub TheLoopCloses : Type 0
TheLoopCloses = (before : Before) (w : Wanted) (old new : List ℕ) (c d : Configuration) → IsAcceptedDeck old c
    → IsAcceptedDeck new d → count_between c d ≤ most_leaves
    → applied as_text (record { report = Deck; wanted = w }) old (differed as_text before old new).text
    ≡ deck_or_refusal (outcome_between c d) (written as_text new)
