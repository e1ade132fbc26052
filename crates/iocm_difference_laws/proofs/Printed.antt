-- What the commands print of decks that are accepted.
use Rattle.std.proofs.Common.{◌≡◌, ℕ, List, Result, Ok, Err, refl, ap, ◌∙◌}
use Rattle.iocm_model.specs.Machine.Configuration.{Configuration}
use Rattle.iocm_model.specs.Operation.State.{opening_state}
use Rattle.iocm_model.specs.Change.Meaning.{meaning}
use Rattle.iocm_tree.specs.Trees.{CarriedTree, plain_tree}
use Rattle.iocm_tree_writer.specs.Again.{tree_in}
use Rattle.iocm_console.specs.declared.refusal.Refusal.{Refusal}
use Rattle.iocm_console.specs.declared.status.Status.TheVariants.{Done}
use Rattle.iocm_console.specs.Opening.{opened_deck}
use Rattle.iocm_console.specs.Refusal.{or_refused, ◌>>-◌}
use Rattle.iocm_console.specs.Shown.{Shown, done}
use Rattle.iocm_answer.specs.Manner.{as_text, shown_or_refused}
use Rattle.iocm_answer.specs.Commands.Apply.{applied, made, tried}
use Rattle.iocm_answer.specs.Asked.{Question}
use Rattle.iocm_answer.specs.Commands.Check.{accepted, checked}
use Rattle.iocm_answer.specs.Commands.Diff.{differed_from, text_between}
use Rattle.iocm_answer.specs.Commands.Write.{written, written_of}
use Rattle.iocm_difference_laws.specs.Accepted.{CheckAcceptsThem, IsAcceptedDeck}
use Rattle.iocm_difference_laws.specs.Loop.{DiffPrintsTheDifference}

pub diff_prints_the_difference : DiffPrintsTheDifference
diff_prints_the_difference before old new c d first second =
    ap (shown_or_refused as_text (λ c. differed_from as_text before c new)) first
    ∙ ap (shown_or_refused as_text (λ d. done (text_between before c d))) second

-- `check`
pub check_accepts_them : CheckAcceptsThem
check_accepts_them bytes = (
  by (opened_deck bytes) refl,
  λ some. ap (λ r. (shown_or_refused as_text (accepted as_text) r).status) some.1,
)
  where
    by : (r : Result Configuration Refusal) → opened_deck bytes ≡ r → (shown_or_refused as_text (accepted as_text) r).status ≡ Done
        → ((c : Configuration) × IsAcceptedDeck bytes c)
    by (Err why) is done = cc
    by (Ok c) is done = (c, is)

-- `write`
pub write_prints : (bytes : List ℕ) (d : Configuration) → IsAcceptedDeck bytes d
    → written as_text bytes ≡ written_of as_text d
write_prints bytes d is = ap (shown_or_refused as_text (written_of as_text)) is

-- `apply`, of a change deck that is read as this tree
pub apply_prints : (asked : Question) (deck change : List ℕ) (c : Configuration) (t : CarriedTree)
    → IsAcceptedDeck deck c → tree_in change ≡ Ok t
    → applied as_text asked deck change
    ≡ made as_text asked (opening_state c) (meaning (plain_tree t) (opening_state c))
apply_prints asked deck change c t is read =
    ap (λ r. shown_or_refused as_text (λ s. tried as_text asked s change) (r >>- λ c. Ok (opening_state c))) is
    ∙ ap (λ r. shown_or_refused as_text
    (λ t. made as_text asked (opening_state c) (meaning (plain_tree t) (opening_state c)))
    (or_refused r)) read
