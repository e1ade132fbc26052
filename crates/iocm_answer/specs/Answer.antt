-- What is printed of an answer in a manner, and how the command ends.
use Rattle.std.specs.Prelude.{◌≡◌, ◌==◌, ◌⊎◌, ℕ, Bool, false, not, List, ◌++◌, Result, Ok, Err}
use Rattle.std.specs.List.{flat_map}
use Rattle.iocm_types.specs.declared.fault.Fault.{Fault}
use Rattle.iocm_model.specs.Rules.FirstBreach.{Breach}
use Rattle.iocm_console.specs.declared.refusal.Refusal.{Refusal}
use Rattle.iocm_console.specs.declared.status.Status.TheVariants as status
use Rattle.iocm_console.specs.Refusal.{no_memory, of_breach, of_fault}
use Rattle.iocm_console.specs.Shown.{Shown, done}
use Rattle.iocm_console.specs.Table.{text_in}
use Rattle.iocm_explain.specs.Explain.{told}
use Rattle.iocm_operation.specs.declared.answered.Answered.{Answered}
use Rattle.iocm_reports.specs.Change.{change_in}
use Rattle.iocm_reports.specs.Counts.{counted_in}
use Rattle.iocm_reports.specs.Lines.{altered_in}
use Rattle.iocm_answer.specs.declared.answer.Answer.{Answer}
use Rattle.iocm_answer.specs.declared.answer.Answer.TheVariants as answer
use Rattle.iocm_answer.specs.declared.manner.Manner.{Manner}
use Rattle.iocm_answer.specs.Manner.{accepted_in, answered_in, refused, refusal_in, trace_in}

-- a line for each of some breaches, or of some faults
abbrev pub breach_lines : Manner → List Breach → List ℕ
breach_lines m bs = flat_map (λ b. refusal_in m (of_breach b)) bs

abbrev pub fault_lines : Manner → List Fault → List ℕ
fault_lines m fs = flat_map (λ f. refusal_in m (of_fault f)) fs

-- a line for each of some answers, with the number of the script's line
abbrev pub answer_lines : Manner → List Answered → List ℕ
answer_lines m xs = flat_map (λ (a : Answered). answered_in m.form a.line a.answer) xs

-- breaches and faults are printed as refusals, and end the command as one does
abbrev pub shown : Manner → Answer → Shown
shown m (answer.Accepted census) = done (accepted_in m.form census.records)
shown m (answer.Breaches bs) = record { text = breach_lines m bs.items; status = status.Refused }
shown m (answer.Faults fs) = record { text = fault_lines m fs.items; status = status.Refused }
shown m (answer.Table table) = done (text_in m.form table)
shown m (answer.Text bytes) = done bytes.items
shown m (answer.Difference d) = done d.text.items
shown m (answer.Plan p) = done p.text.items
shown m (answer.Changed altered table) = done (change_in m.form altered ++ text_in m.form table)
shown m (answer.Altered a) = done (altered_in m.form a.altered a.rows)
shown m (answer.Counted a) = done (counted_in m.form a.altered a.rows)
shown m (answer.Tried altered) = done (change_in m.form altered)
shown m (answer.Ran r) =
    done (answer_lines m r.answers.items ++ (trace_in m.form r.calls ++ text_in m.form r.table))
shown m (answer.Explained e) = done (told e.rules.items)

-- whether something differs, of a difference and of a plan
abbrev pub tells : Answer → Bool
tells (answer.Difference d) = not (d.edits == 0)
tells (answer.Plan p) = p.is_told
tells _ = false

-- what is printed of what a command gives: of its answer, or the refusal
abbrev pub printed : Manner → Result Answer Refusal → Shown
printed m (Ok answer) = shown m answer
printed m (Err why) = refused m why

-- this is printed of it, or that memory is missing
abbrev pub Shows : Manner → Result Answer Refusal → Shown → Type 0
Shows m result what = (printed m result ≡ what) ⊎ (result ≡ Err no_memory)
