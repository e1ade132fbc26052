-- What a command prints, and how it ends.
use Rattle.std.specs.Prelude.{ℕ, List, Result, Ok, Err}
use Rattle.iocm_console.specs.declared.refusal.Refusal.{Refusal}
use Rattle.iocm_console.specs.declared.status.Status.{Status}
use Rattle.iocm_console.specs.declared.status.Status.TheVariants as status
use Rattle.iocm_console.specs.Refusal.{refusal_line}

pub record Shown : Type 0 where
  pub text : List ℕ
  pub status : Status

-- a text, where a command does what it was asked to do
abbrev pub done : List ℕ → Shown
done text = record { text = text; status = status.Done }

-- a refusal, on a line of its own
abbrev pub refused : Refusal → Shown
refused why = record { text = refusal_line why; status = status.Refused }

-- what is shown of what there is, or the refusal
abbrev pub shown_or_refused : {A : Type 0} → (A → Shown) → Result A Refusal → Shown
shown_or_refused show (Ok x) = show x
shown_or_refused show (Err why) = refused why
