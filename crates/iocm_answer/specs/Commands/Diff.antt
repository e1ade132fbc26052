-- What `diff` prints of two decks.
use Rattle.std.specs.Prelude.{◌≡◌, ℕ, List, length, Option, None, Some, Ok}
use Rattle.iocm_model.specs.Machine.Configuration.{Configuration}
use Rattle.iocm_difference.specs.Difference.{difference}
use Rattle.iocm_difference_writer.specs.Text.{difference_text}
use Rattle.iocm_lines.specs.declared.form.Form.{Form}
use Rattle.iocm_lines.specs.declared.form.Form.TheVariants.{Text, Json}
use Rattle.iocm_record_lines.specs.Edits.{edit_lines}
use Rattle.iocm_command.specs.declared.table.Before.{Before}
use Rattle.iocm_command.specs.declared.table.Before.TheVariants as before
use Rattle.iocm_console.specs.Opening.{opened_deck}
use Rattle.iocm_console.specs.Shown.{Shown, done}
use Rattle.iocm_answer.specs.declared.answer.Answer.{Answer}
use Rattle.iocm_answer.specs.declared.answer.Answer.TheVariants as answer
use Rattle.iocm_answer.specs.declared.manner.Manner.{Manner}
use Rattle.iocm_answer.specs.Manner.{shown_or_refused}

-- the old configuration, if what was there is asked for
abbrev pub old_if_shown : Before → Configuration → Option Configuration
old_if_shown before.Shown c = Some c
old_if_shown before.LeftOut c = None

-- the text of the difference of two configurations, with what was there if that is asked for
abbrev pub text_between : Before → Configuration → Configuration → List ℕ
text_between asked c d = difference_text (old_if_shown asked c) (difference c d)

-- or a line for each edit of it
abbrev pub difference_in : Form → Before → Configuration → Configuration → List ℕ
difference_in Text asked c d = text_between asked c d
difference_in Json asked c d = edit_lines c (difference c d)

-- how many edits it has
abbrev pub count_between : Configuration → Configuration → ℕ
count_between c d = length (difference c d)

-- what is printed of the old configuration and the bytes of the new deck: the difference, or the new
-- deck's refusal
abbrev pub differed_from : Manner → Before → Configuration → List ℕ → Shown
differed_from m asked c new = shown_or_refused m (λ d. done (difference_in m.form asked c d)) (opened_deck new)

-- of the bytes of two decks: the old deck's refusal comes first
abbrev pub differed : Manner → Before → List ℕ → List ℕ → Shown
differed m asked old new = shown_or_refused m (λ c. differed_from m asked c new) (opened_deck old)

-- an answer says how many edits the difference has
abbrev pub SaysEdits : Answer → ℕ → Type 0
SaysEdits (answer.Difference d) count = d.edits ≡ count
SaysEdits _ count = ⊥

abbrev pub HasEdits : Configuration → List ℕ → Answer → Type 0
HasEdits c new a = (d : Configuration) → opened_deck new ≡ Ok d → SaysEdits a (count_between c d)
