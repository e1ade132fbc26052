-- What the outcome of the difference comes to, with room and without.
use Rattle.std.proofs.Common.{◌≡◌, ◌≤◌, ℕ, cond, List, length, Option, Some, None, Err, ap, ◌∙◌}
use Rattle.iocm_types.specs.declared.refused.At.TheVariants.{Nothing}
use Rattle.iocm_types.specs.declared.rule.Rule.TheVariants.{C2}
use Rattle.iocm_model.specs.Machine.Configuration.{Configuration}
use Rattle.iocm_model.specs.Machine.Record.{Rec}
use Rattle.iocm_model.specs.Change.Refusal.{refusal_at}
use Rattle.iocm_model.specs.Change.Tree.{most_leaves}
use Rattle.iocm_filter.specs.Wanted.{Wanted}
use Rattle.iocm_difference.specs.Difference.{difference}
use Rattle.iocm_command.specs.declared.table.Before.{Before}
use Rattle.iocm_command.specs.declared.report.Report.TheVariants.{Deck}
use Rattle.iocm_answer.specs.Manner.{as_text}
use Rattle.iocm_answer.specs.Commands.Apply.{applied}
use Rattle.iocm_answer.specs.Commands.Diff.{count_between, differed}
use Rattle.iocm_answer.specs.Commands.Write.{written}
use Rattle.iocm_difference_laws.specs.Meaning.{outcome_between, unless_over_limit}
use Rattle.iocm_difference_laws.specs.Opened.{performed_between}
use Rattle.iocm_difference_laws.proofs.Least.{names_none_with_room}
use Rattle.iocm_difference_laws.proofs.Meaning.{not_over}
use Rattle.iocm_difference_laws.proofs.Room.{difference_has_room}
use Rattle.iocm_difference_laws.specs.Accepted.{IsAcceptedDeck}
use Rattle.iocm_difference_laws.specs.Loop.{deck_or_refusal}
use Rattle.iocm_difference_laws.specs.LoopRoom.{NoRoomIsRefused, RoomClosesTheLoop, without_room}
use Rattle.iocm_difference_laws.proofs.AcceptedDecks.{accepted_decks_are_configurations_of_decks}
use Rattle.iocm_difference_laws.proofs.Loop.{the_loop_closes}

-- few edits are refused with V13 alone
outcome_of_few : (c d : Configuration) → count_between c d ≤ most_leaves
    → outcome_between c d ≡ unless_over_limit (without_room c d) (performed_between c d)
outcome_of_few c d few =
    ap (λ b. cond b (Err (refusal_at C2 Nothing)) (unless_over_limit (without_room c d) (performed_between c d)))
    (not_over most_leaves (length (difference c d)) few)

-- what is printed, by the first device without room
printed_of : (asked : Before) (w : Wanted) (old new : List ℕ) (c d : Configuration) (o : Option Rec)
    → IsAcceptedDeck old c → IsAcceptedDeck new d
    → count_between c d ≤ most_leaves → without_room c d ≡ o
    → applied as_text (record { report = Deck; wanted = w }) old (differed as_text asked old new).text
    ≡ deck_or_refusal (unless_over_limit o (performed_between c d)) (written as_text new)
printed_of asked w old new c d o first second few is =
    the_loop_closes asked w old new c d first second few
    ∙ ap (λ outcome. deck_or_refusal outcome (written as_text new))
    (outcome_of_few c d few ∙ ap (λ (one : Option Rec). unless_over_limit one (performed_between c d)) is)

pub no_room_is_refused : NoRoomIsRefused
no_room_is_refused asked w old new c d r first second few is =
    printed_of asked w old new c d (Some r) first second few is

pub room_closes_the_loop : RoomClosesTheLoop
room_closes_the_loop asked w old new c d first second few for_old for_new =
    let before = (accepted_decks_are_configurations_of_decks old c first).keyed in
    let after = (accepted_decks_are_configurations_of_decks new d second).keyed in
    printed_of asked w old new c d None first second few
    ((names_none_with_room d (performed_between c d).state.numbers after).1
    (difference_has_room c d before after for_old for_new))
