-- What `write` prints of a deck, and that it is read again.
use Rattle.std.specs.Prelude.{◌≡◌, ℕ, List}
use Rattle.iocm_deck_writer.specs.Canonical.{canonical_deck}
use Rattle.iocm_filter.specs.Wanted.{Wanted}
use Rattle.iocm_lines.specs.declared.form.Form.{Form}
use Rattle.iocm_lines.specs.declared.form.Form.TheVariants.{Text, Json}
use Rattle.iocm_record_lines.specs.Records.{record_lines}
use Rattle.iocm_model.specs.Machine.Configuration.{Configuration}
use Rattle.iocm_console.specs.declared.status.Status.TheVariants.{Done}
use Rattle.iocm_console.specs.Opening.{opened_deck}
use Rattle.iocm_console.specs.Shown.{Shown, done}
use Rattle.iocm_answer.specs.Commands.Check.{all_checked, checked}
use Rattle.iocm_answer.specs.Commands.Show.{showed}
use Rattle.iocm_answer.specs.declared.manner.Manner.{Manner}
use Rattle.iocm_answer.specs.Manner.{as_text, shown_or_refused}

-- the canonical deck of a configuration, or a line for each of its records
abbrev pub deck_in : Form → Configuration → List ℕ
deck_in Text c = canonical_deck c
deck_in Json c = record_lines c

abbrev pub written_of : Manner → Configuration → Shown
written_of m c = done (deck_in m.form c)

-- of a deck, if it is opened
abbrev pub written : Manner → List ℕ → Shown
written m deck = shown_or_refused m (written_of m) (opened_deck deck)

-- of one deck each command prints what it prints of another
pub record PrintAlike (one other : List ℕ) : Type 0 where
  pub check : (m : Manner) → checked m one ≡ checked m other
  pub check_all : (m : Manner) → all_checked m one ≡ all_checked m other
  pub show : (m : Manner) (w : Wanted) → showed m w one ≡ showed m w other
  pub write : (m : Manner) → written m one ≡ written m other

-- where `write` isn't refused, what it writes is a deck of which each prints what it prints of the first
-- one; so what it writes of that is the same bytes
abbrev pub PrintsTheSame : Type 0
PrintsTheSame =
    (deck : List ℕ) → (written as_text deck).status ≡ Done → PrintAlike (written as_text deck).text deck
