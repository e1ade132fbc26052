-- What the worker makes of the lines that it takes.
use Rattle.std.specs.List.{AllByRecursion}
use Rattle.std.specs.Prelude.{◌≡◌, ◌<◌, ℕ, ◌⊎◌, List, [], ◌∷◌, ◌++◌, map, Option, None, Some, IfSome}
use Rattle.iocm_core.specs.declared.call.Call.{Call}
use Rattle.iocm_queue.specs.Ends.{Taking}
use Rattle.iocm_queue.specs.Taken.{AreOver}
use Rattle.iocm_queue.specs.declared.message.Message.{Message}
use Rattle.iocm_queue.specs.declared.message.Message.TheVariants.{Line}
use Rattle.iocm_system.specs.Backs.{IsBack}
use Rattle.iocm_system.specs.Calling.{IsMade}
use Rattle.iocm_system.specs.Sights.{Sight}
use Rattle.iocm_system.specs.Turns.{EndsATurn, IsTurn}
use Rattle.iocm_system.specs.declared.receipt.Receipt.{Receipt}
use Rattle.iocm_types.specs.declared.rule.Rule.{Rule}
use Rattle.iocm_types.specs.declared.rule.Rule.TheVariants as rules
use Rattle.iocm_rounds.specs.Jobs.{Job, calls_of, jobs_by, line_of, lines_in, receipts_of}
use Rattle.iocm_rounds.specs.declared.worker.Work.{Work}

-- a call is not made, and why: M1, there is no memory for its receipt, and it wasn't tried; or it
-- came back
abbrev pub Stops : Rule → Sight → Sight → Type 0
Stops why old new = ((why ≡ rules.M1) × (new ≡ old)) ⊎ IsBack why old new

-- of the lines that the worker took the first were made, one after the other, and the others
-- weren't; its caller has gained just their receipts
pub record IsWorked (taken : List (Message Call)) (old new : Sight) (first second : List Receipt)
    (stopped : Option Rule) : Type 0 where
  pub made : List Job
  pub rest : List (ℕ × Call)
  pub lines : lines_in taken ≡ map line_of made ++ rest
  pub turn : IsTurn (calls_of made) old new (receipts_of made) []
  pub of_two : AllByRecursion (λ (j : Job). j.by < 2) made
  pub first_are : first ≡ receipts_of (jobs_by 0 made)
  pub second_are : second ≡ receipts_of (jobs_by 1 made)
  pub ends : stopped ≡ None → rest ≡ []
  pub why : IfSome stopped (λ rule. EndsATurn rule new)

-- the work goes on by one line, whatever was taken before it
abbrev pub GoesOn : ℕ → Call → (now new : Sight) → (first first_new second second_new : List Receipt)
    → (stopped stopped_new : Option Rule) → Type 0
GoesOn p call now new first first_new second second_new stopped stopped_new =
    (taken : List (Message Call)) (old : Sight) → IsWorked taken old now first second stopped
    → IsWorked (taken ++ Line p call ∷ []) old new first_new second_new stopped_new

-- a call was made, and its receipt is kept; or it wasn't, and no receipt is
abbrev pub IsKept : Call → Sight → Sight → List Receipt → List Receipt → Option Rule → Type 0
IsKept call old new receipts receipts_new None =
    (r : Receipt) × IsMade call old r new × (receipts_new ≡ receipts ++ r ∷ [])
IsKept call old new receipts receipts_new (Some why) = Stops why old new × (receipts_new ≡ receipts)

-- a worker that had taken nothing took lines until both operators' end marks, and made of them what
-- it could
pub record IsWork (worker : Taking Call) (old : Sight) (worker_new : Taking Call) (new : Sight)
    (first second : List Receipt) (stopped : Option Rule) : Type 0 where
  pub channel : worker_new.channel ≡ worker.channel
  pub over : AreOver worker_new.taken
  pub worked : IsWorked worker_new.taken old new first second stopped

-- the same, told by what a worker has; and that its work goes on by one line
abbrev pub WorkerDid : {B : Type 0} → Taking Call → Sight → Work B → Type 0
WorkerDid worker old w = IsWork worker old w.worker w.caller w.first.items w.second.items w.stopped

abbrev pub WorkGoesOn : {B : Type 0} → ℕ → Call → Work B → Work B → Type 0
WorkGoesOn p call old new =
    GoesOn p call old.caller new.caller old.first.items new.first.items old.second.items new.second.items
    old.stopped new.stopped
