-- What is written of a deck is read as the same configuration, so each command prints the same of it.
use Rattle.std.proofs.Common.{◌≡◌, ℕ, List, Option, None, Some, Result, Ok, Err, refl, sym, ap, ◌∙◌}
use Rattle.iocm_types.specs.declared.fault.Fault.{Fault}
use Rattle.iocm_model.specs.Machine.Configuration.{Configuration}
use Rattle.iocm_model.specs.Machine.Numbering.{opening}
use Rattle.iocm_model.specs.Rules.FirstBreach.{Breach, first_breach}
use Rattle.iocm_deck_writer.specs.Canonical.{canonical_deck}
use Rattle.iocm_round_trip.proofs.Same.{configuration_is_read_again}
use Rattle.iocm_console.specs.declared.status.Status.TheVariants.{Done}
use Rattle.iocm_console.specs.Opening.{configuration_in, opened, unless_breached}
use Rattle.iocm_console.specs.Refusal.{or_refused, ◌>>-◌}
use Rattle.iocm_answer.specs.declared.manner.Manner.{Manner}
use Rattle.iocm_answer.specs.Manner.{as_text, shown_or_refused}
use Rattle.iocm_answer.specs.Commands.Check.{accepted, all_read}
use Rattle.iocm_answer.specs.Commands.Show.{showed_of}
use Rattle.iocm_answer.specs.Commands.Write.{PrintAlike, PrintsTheSame, written, written_of}

-- decks of one configuration
alike : (one other : List ℕ) (c : Configuration) → configuration_in one ≡ Ok c → configuration_in other ≡ Ok c
    → PrintAlike one other
alike one other c first second = let same = first ∙ sym second in record {
  check = λ m. ap (λ r. shown_or_refused m (accepted m) (or_refused r >>- opened)) same;
  check_all = λ m. ap (all_read m one) first ∙ sym (ap (all_read m other) second);
  show = λ m w. ap (λ r. shown_or_refused m (showed_of m w) (or_refused r >>- opened)) same;
  write = λ m. ap (λ r. shown_or_refused m (written_of m) (or_refused r >>- opened)) same;
}

pub prints_the_same : PrintsTheSame
prints_the_same deck done =
    let read = by (configuration_in deck) refl done in alike (written as_text deck).text deck read.0 read.1 read.2
  where
    kept : (c : Configuration) (breach : Option Breach) → configuration_in deck ≡ Ok c
        → (shown_or_refused as_text (written_of as_text) (unless_breached breach c)).status ≡ Done
        → configuration_in (shown_or_refused as_text (written_of as_text) (unless_breached breach c)).text ≡ Ok c
    kept c (Some b) is done = cc
    kept c None is done = configuration_is_read_again deck c is

    by : (read : Result Configuration Fault) → configuration_in deck ≡ read
        → (shown_or_refused as_text (written_of as_text) (or_refused read >>- opened)).status ≡ Done
        → (c : Configuration)
        × (configuration_in (shown_or_refused as_text (written_of as_text) (or_refused read >>- opened)).text ≡ Ok c)
        × (configuration_in deck ≡ Ok c)
    by (Err fault) is done = cc
    by (Ok c) is done = (c, kept c (first_breach c (opening c)) is done, is)
