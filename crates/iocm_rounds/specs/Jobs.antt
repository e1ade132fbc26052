-- Operators' calls that the worker made.
use Rattle.std.specs.Prelude.{ℕ, ◌==◌, List, [], ◌∷◌, map, filter}
use Rattle.iocm_core.specs.declared.call.Call.{Call}
use Rattle.iocm_queue.specs.declared.message.Message.{Message}
use Rattle.iocm_queue.specs.declared.message.Message.TheVariants.{Line, End}
use Rattle.iocm_system.specs.declared.receipt.Receipt.{Receipt}

-- a call of an operator that was made: the operator's number, the call, and its receipt
pub record Job : Type 0 where
  pub by : ℕ
  pub call : Call
  pub receipt : Receipt

abbrev pub calls_of : List Job → List Call
calls_of js = map (λ (j : Job). j.call) js

abbrev pub receipts_of : List Job → List Receipt
receipts_of js = map (λ (j : Job). j.receipt) js

-- those of one operator
abbrev pub jobs_by : ℕ → List Job → List Job
jobs_by p js = filter (λ (j : Job). j.by == p) js

-- lines that the worker took, each with its operator's number
abbrev pub lines_in : List (Message Call) → List (ℕ × Call)
lines_in [] = []
lines_in (Line p c ∷ ms) = (p, c) ∷ lines_in ms
lines_in (End p ∷ ms) = lines_in ms

abbrev pub line_of : Job → ℕ × Call
line_of j = (j.by, j.call)
