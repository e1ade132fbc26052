-- How single lines are printed in a form: of a refusal, of counts, and of the answers to a script.
-- Bytes by their codes: 10 ends a line.
use Rattle.std.specs.Prelude.{ℕ, List, [], ◌∷◌, ◌++◌, codes, Option, None, Some, Result, Ok, Err}
use Rattle.std.specs.Fmt.{decimal}
use Rattle.iocm_types.specs.declared.answer.Answer.{Answer}
use Rattle.iocm_types.specs.declared.answer.Answer.TheVariants as answer
use Rattle.iocm_types.specs.declared.refused.At.{At}
use Rattle.iocm_types.specs.declared.refused.At.TheVariants as at
use Rattle.iocm_lines.specs.Accepted.{accepted_value}
use Rattle.iocm_lines.specs.Answer.{answer_value}
use Rattle.iocm_lines.specs.Lines.{line}
use Rattle.iocm_lines.specs.Refused.{Told, refused_value}
use Rattle.iocm_lines.specs.Titles.{title_of}
use Rattle.iocm_lines.specs.Trace.{trace_value}
use Rattle.iocm_lines.specs.declared.form.Form.{Form}
use Rattle.iocm_lines.specs.declared.form.Form.TheVariants.{Text, Json}
use Rattle.iocm_lines.specs.declared.refused.Input.{Input}
use Rattle.iocm_console.specs.Counted.{accepted_line}
use Rattle.iocm_console.specs.declared.refusal.About.{About}
use Rattle.iocm_console.specs.declared.refusal.About.TheVariants as about
use Rattle.iocm_console.specs.declared.refusal.Refusal.{Refusal}
use Rattle.iocm_console.specs.declared.status.Status.TheVariants as status
use Rattle.iocm_console.specs.Refusal.{refusal_line}
use Rattle.iocm_console.specs.Shown.{Shown}
use Rattle.iocm_answer.specs.AnswerText.{answer_line}
use Rattle.iocm_answer.specs.declared.manner.Manner.{Manner}

-- a form, and the text of which a refusal tells
abbrev pub in_form : Form → Option Input → Manner
in_form form input = record { form = form; input = input }

abbrev pub as_text : Manner
as_text = in_form Text None

-- ---- a refusal

-- the line of a text that it names, and what else it is about
abbrev pub named_line : About → Option ℕ
named_line (about.Line number) = Some number
named_line _ = None

abbrev pub named_at : About → At
named_at (about.Key key) = at.Key key
named_at (about.Subchannel s) = at.Subchannel s
named_at (about.Change number) = at.Change number
named_at _ = at.Nothing

abbrev pub told_of : Option Input → Refusal → Told
told_of input why = record {
  number = why.number;
  input = input;
  line = named_line why.about;
  node = why.node;
  about = named_at why.about;
  title = title_of why.number;
}

-- its line: in JSON with its title, and the text where it came
abbrev pub refusal_by : Form → Option Input → Refusal → List ℕ
refusal_by Text input why = refusal_line why
refusal_by Json input why = line (refused_value (told_of input why))

abbrev pub refusal_in : Manner → Refusal → List ℕ
refusal_in m why = refusal_by m.form m.input why

abbrev pub refused : Manner → Refusal → Shown
refused m why = record { text = refusal_in m why; status = status.Refused }

-- what is shown of what there is, or the refusal
abbrev pub shown_or_refused : {A : Type 0} → Manner → (A → Shown) → Result A Refusal → Shown
shown_or_refused m show (Ok x) = show x
shown_or_refused m show (Err why) = refused m why

-- ---- counts

-- how many records an accepted deck has
abbrev pub accepted_in : Form → ℕ → List ℕ
accepted_in Text count = accepted_line count
accepted_in Json count = line (accepted_value count)

-- how many calls were made
abbrev pub trace_in : Form → ℕ → List ℕ
trace_in Text calls = (codes "trace " ++ decimal calls) ++ 10 ∷ []
trace_in Json calls = line (trace_value calls)

-- ---- the answer to a line of a script

-- the title of the refusal that it is, if it is one
abbrev pub title_in : Answer → List ℕ
title_in (answer.Refused why) = title_of why.rule
title_in _ = []

abbrev pub answered_in : Form → ℕ → Answer → List ℕ
answered_in Text number a = answer_line number a
answered_in Json number a = line (answer_value number a (title_in a))
