-- What `apply` prints of what `diff` prints.
use Rattle.std.proofs.Common.{◌≡◌, ℕ, nat_lt, Bool, true, false, cond, List, length, Option, Some, None, Err, refl, sym}
use Rattle.std.proofs.Common.{ap, ◌∙◌}
use Rattle.iocm_types.specs.declared.refused.At.TheVariants.{Nothing}
use Rattle.iocm_types.specs.declared.rule.Rule.TheVariants.{C2}
use Rattle.iocm_model.specs.Machine.Configuration.{Configuration}
use Rattle.iocm_model.specs.Machine.Record.{Rec}
use Rattle.iocm_model.specs.Operation.State.{State, opening_state}
use Rattle.iocm_model.specs.Change.Meaning.{Performed}
use Rattle.iocm_model.specs.Change.Refusal.{refusal_at}
use Rattle.iocm_model.specs.Change.Tree.{most_leaves}
use Rattle.iocm_filter.specs.Wanted.{Wanted}
use Rattle.iocm_difference.specs.Difference.{difference}
use Rattle.iocm_difference_writer.specs.Again.{IsOldOfDecks}
use Rattle.iocm_command.specs.declared.table.Before.{Before}
use Rattle.iocm_command.specs.declared.table.Before.TheVariants as before
use Rattle.iocm_console.specs.Shown.{Shown, done}
use Rattle.iocm_deck_writer.specs.Canonical.{canonical_deck}
use Rattle.iocm_reports.specs.Deck.{deck_text}
use Rattle.iocm_command.specs.declared.report.Report.TheVariants.{Deck}
use Rattle.iocm_answer.specs.Commands.Apply.{applied, made}
use Rattle.iocm_answer.specs.Asked.{Question}
use Rattle.iocm_answer.specs.Manner.{as_text}
use Rattle.iocm_answer.specs.Commands.Diff.{old_if_shown, text_between}
use Rattle.iocm_answer.specs.Commands.Write.{written_of}
use Rattle.iocm_difference_laws.specs.Again.{IsConfigurationOfDeck}
use Rattle.iocm_difference_laws.specs.Meaning.{first_over_limit, outcome_between, unless_over_limit}
use Rattle.iocm_difference_laws.specs.Opened.{performed_between}
use Rattle.iocm_difference_laws.proofs.Again.{difference_is_read_again_as_one, text_means_the_difference}
use Rattle.iocm_difference_laws.proofs.Meaning.{reaches_the_new}
use Rattle.iocm_difference_laws.specs.Accepted.{IsAcceptedDeck}
use Rattle.iocm_difference_laws.specs.Loop.{TheLoopCloses, deck_or_refusal}
use Rattle.iocm_difference_laws.proofs.AcceptedDecks.{accepted_decks_are_configurations_of_decks}
use Rattle.iocm_difference_laws.proofs.Online.{deck_of_a_deck_says_all}
use Rattle.iocm_difference_laws.proofs.Printed.{apply_prints, diff_prints_the_difference, write_prints}

-- the question for the deck afterwards
abbrev deck_asked : Wanted → Question
deck_asked w = record { report = Deck; wanted = w }

-- what was there is that of a deck
old_of_deck : (asked : Before) (c : Configuration) → IsConfigurationOfDeck c → IsOldOfDecks (old_if_shown asked c)
old_of_deck before.Shown c is = (is.keyed, is.given)
old_of_deck before.LeftOut c is = tt

-- where the configuration that is reached has this deck, it is printed, or the refusal is
module _ (w : Wanted) (s : State) (d : Configuration) (p : Performed)
    (same : deck_text p.state.config ≡ canonical_deck d) where
  printed_over : (o : Option Rec)
      → made as_text (deck_asked w) s (unless_over_limit o p)
      ≡ deck_or_refusal (unless_over_limit o p) (written_of as_text d)
  printed_over None = ap done same
  printed_over (Some r) = refl

  printed_by : (b : Bool) (o : Option Rec)
      → made as_text (deck_asked w) s (cond b (Err (refusal_at C2 Nothing)) (unless_over_limit o p))
      ≡ deck_or_refusal (cond b (Err (refusal_at C2 Nothing)) (unless_over_limit o p)) (written_of as_text d)
  printed_by true o = refl
  printed_by false o = printed_over o

-- what is printed of the outcome of the difference
printed_between : (w : Wanted) (bytes : List ℕ) (c d : Configuration) → IsAcceptedDeck bytes d
    → made as_text (deck_asked w) (opening_state c) (outcome_between c d)
    ≡ deck_or_refusal (outcome_between c d) (written_of as_text d)
printed_between w bytes c d is =
    let p = performed_between c d in
    printed_by w (opening_state c) d p
    (ap deck_text (reaches_the_new c d (accepted_decks_are_configurations_of_decks bytes d is).keyed)
    ∙ deck_of_a_deck_says_all bytes d is)
    (nat_lt most_leaves (length (difference c d))) (first_over_limit d p.state.numbers)

pub the_loop_closes : TheLoopCloses
the_loop_closes asked w old new c d first second few =
    let was_deck = accepted_decks_are_configurations_of_decks old c first in
    let after = accepted_decks_are_configurations_of_decks new d second in
    let was = old_if_shown asked c in
    let of = old_of_deck asked c was_deck in
    let again = difference_is_read_again_as_one was c d of was_deck after few in
    ap (λ (shown : Shown). applied as_text (deck_asked w) old shown.text)
    (diff_prints_the_difference asked old new c d first second)
    ∙ apply_prints (deck_asked w) old (text_between asked c d) c again.tree first again.is_read
    ∙ ap (made as_text (deck_asked w) (opening_state c))
    (text_means_the_difference was c d again.tree of was_deck after few again.is_read)
    ∙ printed_between w new c d second
    ∙ ap (deck_or_refusal (outcome_between c d)) (sym (write_prints new d second))
