-- When the loop of `diff` and `apply` comes to the new deck, and when it is refused.
use Rattle.std.specs.Prelude.{◌≡◌, ◌≤◌, ℕ, Option, Some, List}
use Rattle.iocm_types.specs.declared.refused.At.TheVariants as at
use Rattle.iocm_types.specs.declared.rule.Rule.TheVariants.{V13}
use Rattle.iocm_model.specs.Machine.Configuration.{Configuration}
use Rattle.iocm_model.specs.Machine.Record.{Rec, key_of}
use Rattle.iocm_model.specs.Change.Meaning.{at_node}
use Rattle.iocm_model.specs.Change.Refusal.{refusal_at}
use Rattle.iocm_model.specs.Change.Tree.{most_leaves}
use Rattle.iocm_filter.specs.Wanted.{Wanted}
use Rattle.iocm_command.specs.declared.table.Before.{Before}
use Rattle.iocm_console.specs.Refusal.{of_change}
use Rattle.iocm_command.specs.declared.report.Report.TheVariants.{Deck}
use Rattle.iocm_answer.specs.Manner.{as_text, refused}
use Rattle.iocm_answer.specs.Commands.Apply.{applied}
use Rattle.iocm_answer.specs.Commands.Diff.{count_between, differed}
use Rattle.iocm_answer.specs.Commands.Write.{written}
use Rattle.iocm_difference_laws.specs.Meaning.{first_over_limit}
use Rattle.iocm_difference_laws.specs.Opened.{performed_between}
use Rattle.iocm_difference_laws.specs.Room.{HasLimitsFor}
use Rattle.iocm_difference_laws.specs.Accepted.{IsAcceptedDeck}

-- the first device, in the order of keys, that has a number at or above its limit after the change
abbrev pub without_room : Configuration → Configuration → Option Rec
without_room c d = first_over_limit d (performed_between c d).state.numbers

-- where there is one, `apply` prints the refusal with V13 and its key
abbrev pub NoRoomIsRefused : Type 0
NoRoomIsRefused = (before : Before) (w : Wanted) (old new : List ℕ) (c d : Configuration) (r : Rec)
    → IsAcceptedDeck old c → IsAcceptedDeck new d → count_between c d ≤ most_leaves → without_room c d ≡ Some r
    → applied as_text (record { report = Deck; wanted = w }) old (differed as_text before old new).text
    ≡ refused as_text (of_change (at_node 0 (refusal_at V13 (at.Key (key_of r)))))

-- where the limits of the new deck are enough for the devices of both decks, it prints what `write`
-- prints of the new deck
abbrev pub RoomClosesTheLoop : Type 0
RoomClosesTheLoop = (before : Before) (w : Wanted) (old new : List ℕ) (c d : Configuration)
    → IsAcceptedDeck old c → IsAcceptedDeck new d → count_between c d ≤ most_leaves
    → HasLimitsFor d c → HasLimitsFor d d
    → applied as_text (record { report = Deck; wanted = w }) old (differed as_text before old new).text
    ≡ written as_text new
