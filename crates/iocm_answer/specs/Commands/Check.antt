-- What `check` prints of a deck, and `check --all`.
use Rattle.std.specs.Prelude.{◌≡◌, ⊤, ℕ, List, [], ◌∷◌, ◌++◌, Result, Ok, Err}
use Rattle.std.specs.FinMap.{len}
use Rattle.iocm_types.specs.declared.fault.Fault.{Fault}
use Rattle.iocm_model.specs.Machine.Configuration.{Configuration}
use Rattle.iocm_model.specs.Machine.Numbering.{opening}
use Rattle.iocm_model.specs.Rules.FirstBreach.{Breach}
use Rattle.iocm_breaches.specs.Breaches.{all_breaches}
use Rattle.iocm_command.specs.declared.table.Breaches.{Breaches}
use Rattle.iocm_command.specs.declared.table.Breaches.TheVariants.{All, First}
use Rattle.iocm_lines.specs.declared.form.Form.{Form}
use Rattle.iocm_lines.specs.declared.form.Form.TheVariants.{Text, Json}
use Rattle.iocm_origin.specs.Faults.{all_faults}
use Rattle.iocm_console.specs.declared.status.Status.TheVariants as status
use Rattle.iocm_console.specs.Opening.{configuration_in, opened_deck}
use Rattle.iocm_console.specs.Refusal.{of_fault}
use Rattle.iocm_console.specs.Shown.{Shown, done}
use Rattle.iocm_answer.specs.declared.answer.Answer.{Answer}
use Rattle.iocm_answer.specs.declared.answer.Answer.TheVariants as answer
use Rattle.iocm_answer.specs.Answer.{breach_lines, fault_lines}
use Rattle.iocm_answer.specs.Census.{census_of}
use Rattle.iocm_answer.specs.declared.manner.Manner.{Manner}
use Rattle.iocm_answer.specs.Manner.{accepted_in, refused, shown_or_refused}

-- that a configuration is accepted, and how many records it has
abbrev pub accepted : Manner → Configuration → Shown
accepted m c = done (accepted_in m.form (len c))

-- `check`: a deck is opened, or refused
abbrev pub checked : Manner → List ℕ → Shown
checked m deck = shown_or_refused m (accepted m) (opened_deck deck)

-- `check --all`: a deck that is read is refused by each of its breaches, or accepted
abbrev pub unless_any : Manner → List Breach → Shown → Shown
unless_any m [] shown = shown
unless_any m (b ∷ bs) shown = record { text = breach_lines m (b ∷ bs); status = status.Refused }

abbrev pub all_told : Manner → Configuration → Shown
all_told m c = unless_any m (all_breaches c (opening c)) (accepted m c)

-- of a deck that isn't read its first fault is told; in lines of JSON that of each statement which has one
abbrev pub faults_told : Form → List ℕ → List Fault
faults_told Text deck = []
faults_told Json deck = all_faults deck

abbrev pub all_refused : Manner → Fault → List Fault → Shown
all_refused m first [] = refused m (of_fault first)
all_refused m first (f ∷ fs) = record { text = fault_lines m (f ∷ fs); status = status.Refused }

abbrev pub unread : Manner → List ℕ → Fault → Shown
unread m deck first = all_refused m first (faults_told m.form deck)

abbrev pub all_read : Manner → List ℕ → Result Configuration Fault → Shown
all_read m deck (Ok c) = all_told m c
all_read m deck (Err first) = unread m deck first

abbrev pub all_checked : Manner → List ℕ → Shown
all_checked m deck = all_read m deck (configuration_in deck)

-- an answer tells faults
abbrev pub TellsFaults : Answer → Type 0
TellsFaults (answer.Faults fs) = ⊤
TellsFaults _ = ⊥

-- an answer has all counts of a configuration that keeps the rules, or all its breaches, or faults if there is none
abbrev pub IsAllChecked : Result Configuration Fault → Answer → Type 0
IsAllChecked (Ok c) (answer.Accepted census) = census ≡ census_of c
IsAllChecked (Ok c) (answer.Breaches bs) = bs.items ≡ all_breaches c (opening c)
IsAllChecked (Err first) a = TellsFaults a
IsAllChecked _ _ = ⊥

-- which breaches of the rules are printed
abbrev pub checked_by : Breaches → Manner → List ℕ → Shown
checked_by First = checked
checked_by All = all_checked

-- it begins with what `check` prints, and ends as that does
pub record BeginsAs (one all : Shown) : Type 0 where
  pub further : List ℕ
  pub text : all.text ≡ one.text ++ further
  pub status : all.status ≡ one.status

abbrev pub BeginsAsCheck : Type 0
BeginsAsCheck = (m : Manner) (deck : List ℕ) → BeginsAs (checked m deck) (all_checked m deck)
