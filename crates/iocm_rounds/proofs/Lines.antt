-- Lines and jobs, one more at the end.
use Rattle.std.proofs.Common.{◌≡◌, ℕ, ◌==◌, true, false, cond, List, [], ◌∷◌, ◌++◌, refl, ap, ◌∙◌}
use Rattle.std.proofs.lemmas.List.{append-nil, map-append}
use Rattle.std.proofs.lemmas.List.Elements.{filter-append}
use Rattle.iocm_core.specs.declared.call.Call.{Call}
use Rattle.iocm_queue.specs.declared.message.Message.{Message}
use Rattle.iocm_queue.specs.declared.message.Message.TheVariants.{Line, End}
use Rattle.iocm_rounds.specs.Jobs.{Job, jobs_by, lines_in, receipts_of}

pub lines_last : (ms : List (Message Call)) (p : ℕ) (x : Call)
    → lines_in (ms ++ Line p x ∷ []) ≡ lines_in ms ++ (p, x) ∷ []
lines_last [] p x = refl
lines_last (Line q y ∷ ms) p x = ap (λ ls. (q, y) ∷ ls) (lines_last ms p x)
lines_last (End q ∷ ms) p x = lines_last ms p x

pub lines_end : (ms : List (Message Call)) (p : ℕ) → lines_in (ms ++ End p ∷ []) ≡ lines_in ms
lines_end [] p = refl
lines_end (Line q y ∷ ms) p = ap (λ ls. (q, y) ∷ ls) (lines_end ms p)
lines_end (End q ∷ ms) p = lines_end ms p

-- those of an operator have one more, if it is of that operator
pub jobs_last : (p : ℕ) (js : List Job) (j : Job) → (j.by == p) ≡ true
    → receipts_of (jobs_by p (js ++ j ∷ [])) ≡ receipts_of (jobs_by p js) ++ j.receipt ∷ []
jobs_last p js j mine =
    ap receipts_of (filter-append (λ (k : Job). k.by == p) js (j ∷ [])
    ∙ ap (λ b. jobs_by p js ++ cond b (j ∷ []) []) mine)
    ∙ map-append (λ (k : Job). k.receipt) (jobs_by p js) (j ∷ [])

pub jobs_other : (p : ℕ) (js : List Job) (j : Job) → (j.by == p) ≡ false
    → receipts_of (jobs_by p (js ++ j ∷ [])) ≡ receipts_of (jobs_by p js)
jobs_other p js j other =
    ap receipts_of (filter-append (λ (k : Job). k.by == p) js (j ∷ [])
    ∙ ap (λ b. jobs_by p js ++ cond b (j ∷ []) []) other)
    ∙ map-append (λ (k : Job). k.receipt) (jobs_by p js) []
    ∙ none
  where
    none : receipts_of (jobs_by p js) ++ [] ≡ receipts_of (jobs_by p js)
    none = append-nil (receipts_of (jobs_by p js))
