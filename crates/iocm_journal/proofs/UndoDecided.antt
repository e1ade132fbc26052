-- Why an undo is refused, by what the journal and the machine say.
use Rattle.std.proofs.Common.{◌≡◌, ℕ, ◌+◌, Bool, true, false, cond, Option, Some, List, length, sym, ap, ◌∙◌}
use Rattle.std.specs.Option.{option_map}
use Rattle.std.specs.FinMap.{keys}
use Rattle.std.specs.List.{slice_get}
use Rattle.iocm_types.specs.declared.answer.Answer.{Answer}
use Rattle.iocm_types.specs.declared.answer.Answer.TheVariants as answers
use Rattle.iocm_types.specs.declared.refused.At.TheVariants.{Nothing}
use Rattle.iocm_types.specs.declared.rule.Rule.TheVariants.{J1}
use Rattle.iocm_types.specs.declared.sub_id.SubId.{SubId}
use Rattle.iocm_model.specs.Operation.State.{State}
use Rattle.iocm_model.specs.Change.Refusal.{refusal_at, first_not_quiet}
use Rattle.iocm_history.specs.Entry.{History}
use Rattle.iocm_history.specs.Fits.{fits}
use Rattle.iocm_history.specs.MarkedEntry.{altered_if}
use Rattle.iocm_history.specs.Account.{marked_entries, state_at}
use Rattle.iocm_history.specs.Journal.{is_in, journal_of}
use Rattle.iocm_history.specs.Legal.{unless_not_quiet, unless_stood_on}
use Rattle.iocm_history.specs.StandsOn.{greatest, greatest_on, standing_on}
use Rattle.iocm_activate.specs.Effects.{effect_in}
use Rattle.iocm_activate.specs.declared.effect.Effect.{Effect}
use Rattle.iocm_plant.specs.Operating.{Operating}
use Rattle.iocm_journal.specs.Kept.{IsKept}
use Rattle.iocm_journal.specs.Now.{IsNow}
use Rattle.iocm_journal.specs.Standing.{is_on, last_passing}
use Rattle.iocm_journal.specs.declared.kept.Kept.{Kept}
use Rattle.iocm_journal.specs.Journaled.{Journaled}
use Rattle.iocm_journal.proofs.Deciding.{greatest_is}
use Rattle.iocm_journal.specs.Deciding.{greatest_now, not_quiet_now, undo_now}

-- the answer to an undo, by whether its change stands
abbrev answer_if : State → History → ℕ → Bool → Answer
answer_if opening h n stands =
    cond stands (unless_stood_on (greatest_now opening h n)
    (unless_not_quiet (not_quiet_now opening h n) (answers.Undone n)))
    (answers.Refused (refusal_at J1 Nothing))

-- the first that isn't quiet of the subchannels of a change, by what it wrote
pub quiet_is : {opening : State} {h : History} {i : Journaled} {fs : List Effect} {p : Operating}
    (now : IsNow opening h i fs p) (n : ℕ) (k : Kept) (f : Effect) → IsKept opening h n k f
    → not_quiet_now opening h n ≡ first_not_quiet p.state.lives (keys (effect_in f).lives)
quiet_is {opening = opening} {h = h} now n k f it =
    ap (λ c. first_not_quiet (state_at opening h).lives (altered_if c)) it.there
    ∙ (λ z. first_not_quiet (State.lives (sym now.state z)) (keys (sym it.effect z).lives))

module _ {opening : State} {h : History} {i : Journaled} {fs : List Effect} {p : Operating}
    (now : IsNow opening h i fs p) (place : ℕ) (k : Kept) (f : Effect)
    (at_k : slice_get i.changes place ≡ Some k) (at_f : slice_get fs place ≡ Some f) (stands : k.stands ≡ true) where
  abbrev it : IsKept opening h (place + 1) k f
  it = now.journal.kept place k f at_k at_f

  here : is_in (place + 1) (journal_of h).standing ≡ true
  here = sym it.stands ∙ stands

  -- what stands on it
  pub stands_on_is : (is_fit : Bool) → is_fit ≡ fits it.change p.state
      → greatest_now opening h (place + 1)
      ≡ option_map (λ at. at + 1) (last_passing (is_on i.changes fs place is_fit) (length i.changes))
  stands_on_is is_fit is =
      ap (λ c. greatest_on (place + 1) c (marked_entries opening h) (state_at opening h)) it.there
      ∙ ap (λ b. greatest (standing_on (place + 1) it.change (marked_entries opening h) b))
      (ap (fits it.change) (sym now.state) ∙ sym is)
      ∙ greatest_is now.journal place k f at_k at_f is_fit

  -- the answer to its undo
  pub undo_decided : (on : Option ℕ) (quiet : Option SubId) → greatest_now opening h (place + 1) ≡ on
      → not_quiet_now opening h (place + 1) ≡ quiet
      → unless_stood_on on (unless_not_quiet quiet (answers.Undone (place + 1))) ≡ undo_now opening h (place + 1)
  undo_decided on quiet on_is quiet_at =
      (λ z. unless_stood_on (sym on_is z) (unless_not_quiet (sym quiet_at z) (answers.Undone (place + 1))))
      ∙ sym (ap (answer_if opening h (place + 1)) here)

-- a change that doesn't stand isn't undone
pub not_standing : (opening : State) (h : History) (n : ℕ) → is_in n (journal_of h).standing ≡ false
    → answers.Refused (refusal_at J1 Nothing) ≡ undo_now opening h n
not_standing opening h n off = sym (ap (answer_if opening h n) off)
