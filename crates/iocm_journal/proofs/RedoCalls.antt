-- Redos as calls: what decides them, and what they leave.
use Rattle.std.proofs.Common.{◌≡◌, ℕ, zero, suc, ◌+◌, ◌≤◌, Bool, true, false, cond, Option, Some, None, Result, Ok}
use Rattle.std.proofs.Common.{Err, List, length, refl, sym, ap, subst, ◌∙◌, arith}
use Rattle.std.specs.Prelude.{OnOk, OnErr, IfErr}
use Rattle.std.proofs.lemmas.Option.{slice_get_within}
use Rattle.std.specs.Option.{option_map}
use Rattle.std.specs.FinMap.{keys}
use Rattle.std.specs.List.{slice_get}
use Rattle.iocm_types.specs.declared.answer.Answer.TheVariants as answers
use Rattle.iocm_types.specs.declared.refused.At.TheVariants.{Nothing}
use Rattle.iocm_types.specs.declared.refused.Refused.{Refused}
use Rattle.iocm_types.specs.declared.rule.Rule.TheVariants.{J1, J3}
use Rattle.iocm_types.specs.declared.sub_id.SubId.{SubId}
use Rattle.iocm_model.specs.Operation.State.{State}
use Rattle.iocm_model.specs.Change.Meaning.{meaning}
use Rattle.iocm_model.specs.Change.Refusal.{refusal_at, first_not_quiet}
use Rattle.iocm_history.specs.Entry.{redo, History, plain_entry}
use Rattle.iocm_history.specs.Journal.{is_in, is_past, journal_of}
use Rattle.iocm_history.specs.Legal.{unless_not_quiet, is_last_undone, IsRight}
use Rattle.iocm_activate.specs.Done.{refusal_in}
use Rattle.iocm_activate.specs.Effects.{effect_in}
use Rattle.iocm_activate.specs.declared.effect.Effect.{Effect}
use Rattle.iocm_plant.specs.Operating.{Operating}
use Rattle.iocm_plant.specs.Refusing.{IsDue}
use Rattle.iocm_journal.specs.Answering.{IsNext, redo_made}
use Rattle.iocm_journal.specs.Deciding.{IsRedoDecided, not_quiet, unless_refused, not_quiet_now}
use Rattle.iocm_journal.specs.Kept.{IsKept}
use Rattle.iocm_journal.specs.Moving.{KeepsTheSame, WasRedone}
use Rattle.iocm_journal.specs.Now.{IsNow}
use Rattle.iocm_journal.specs.Standing.{redo_at_end, is_last}
use Rattle.iocm_journal.specs.declared.kept.Kept.{Kept}
use Rattle.iocm_journal.specs.Journaled.{Journaled}
use Rattle.iocm_journal.proofs.Answers.{unless_busy}
use Rattle.iocm_journal.proofs.Deciding.{stands_is}
use Rattle.iocm_journal.proofs.Places.{stands_item}
use Rattle.iocm_journal.proofs.RedoDecided.{not_accepted, it_stands, not_last, it_is_last, last_is}
use Rattle.iocm_journal.proofs.Redoing.{last_means, redone_now}
use Rattle.iocm_journal.proofs.Refused.{right_redo, lacking_redo, redo_refused}
use Rattle.iocm_journal.proofs.UndoDecided.{quiet_is}
use Rattle.iocm_journal.proofs.UndoCalls.{none_due, same_journal}

module _ {opening : State} {h : History} {j : Journaled} {fs : List Effect} {p : Operating}
    (now : IsNow opening h j fs p) (n : ℕ) where
  abbrev quiet : Option SubId
  quiet = not_quiet_now opening h n

  -- J1: no change of that number was accepted
  pub no_such : (why : Refused) → ((at : ℕ) → n ≡ at + 1 → length j.changes ≤ at) → why ≡ refusal_at J1 Nothing
      → IsRedoDecided opening h n (Some why)
  no_such why past is = ap answers.Refused is
      ∙ not_accepted opening h now.journal.used now.journal.legal n quiet (beyond n past)
    where
      beyond : (m : ℕ) → ((at : ℕ) → m ≡ at + 1 → length j.changes ≤ at) → 1 ≤ m → m ≤ (journal_of h).count → ⊥
      beyond zero past low high = omega (arith, low)
      beyond (suc at) past low high = let all = now.journal.count in let end = past at (one_more at) in
          omega (arith, all, end, high)
        where
          one_more : (k : ℕ) → suc k ≡ k + 1
          one_more k = omega arith

  module _ (place : ℕ) (k : Kept) (number : n ≡ place + 1) (at_k : slice_get j.changes place ≡ Some k) where
    stands_here : is_in n (journal_of h).standing ≡ k.stands
    stands_here = ap (λ m. is_in m (journal_of h).standing) number ∙ stands_is now.journal place
        ∙ stands_item j.changes place k at_k

    within : (1 ≤ n) × (n ≤ (journal_of h).count)
    within = let all = now.journal.count in let low = slice_get_within j.changes place k at_k in
        (omega (arith, number), omega (arith, number, all, low))

    -- J1: it stands
    pub standing : (why : Refused) → k.stands ≡ true → why ≡ refusal_at J1 Nothing
        → IsRedoDecided opening h n (Some why)
    standing why on is = ap answers.Refused is
        ∙ it_stands opening h now.journal.used now.journal.legal n quiet (stands_here ∙ on)

    -- J3: it isn't the last one undone
    pub another_last : (why : Refused) → k.stands ≡ false → is_last j.undone n ≡ false → why ≡ refusal_at J3 Nothing
        → IsRedoDecided opening h n (Some why)
    another_last why gone last is =
        ap answers.Refused is ∙ not_last opening h now.journal.used now.journal.legal n quiet within.0 within.1
        (stands_here ∙ gone)
        (sym (last_is j.undone (journal_of h).undone n now.journal.undone) ∙ last)

    -- B1, or nothing
    pub is_the_last : (f : Effect) (came : Option Refused) → slice_get fs place ≡ Some f → is_last j.undone n ≡ true
        → came ≡ option_map not_quiet (first_not_quiet p.state.lives (keys (effect_in f).lives))
        → IsRedoDecided opening h n came
    is_the_last f came at_f last is =
        let it : IsKept opening h n k f
        = subst (λ m. IsKept opening h m k f) (sym number) (now.journal.kept place k f at_k at_f) in
        let top = sym (last_is j.undone (journal_of h).undone n now.journal.undone) ∙ last in
        ap (unless_refused (answers.Redone n)) is ∙ unless_busy (answers.Redone n) _
        ∙ ap (λ q. unless_not_quiet q (answers.Redone n)) (sym (quiet_is now n k f it))
        ∙ it_is_last opening h now.journal.used now.journal.legal n quiet top

-- ---- a redo that is performed

-- only the last one undone may be done again, and only where its subchannels are quiet
last_then : (n : ℕ) (last among past : Bool) (quiet : Option SubId) (x y z : Refused)
    → answers.Redone n ≡ cond last (unless_not_quiet quiet (answers.Redone n))
    (cond among (answers.Refused x) (cond past (answers.Refused y) (answers.Refused z))) → last ≡ true
last_then n true among past quiet x y z is = refl
last_then n false true past quiet x y z is = cc
last_then n false false true quiet x y z is = cc
last_then n false false false quiet x y z is = cc

quiet_then : (n : ℕ) (last among past : Bool) (quiet : Option SubId) (x y z : Refused)
    → answers.Redone n ≡ cond last (unless_not_quiet quiet (answers.Redone n))
    (cond among (answers.Refused x) (cond past (answers.Refused y) (answers.Refused z))) → quiet ≡ None
quiet_then n true among past None x y z is = refl
quiet_then n true among past (Some q) x y z is = cc
quiet_then n false true past quiet x y z is = cc
quiet_then n false false true quiet x y z is = cc
quiet_then n false false false quiet x y z is = cc

module _ {opening : State} {h : History} {i : Journaled} {fs : List Effect} {p : Operating}
    (now : IsNow opening h i fs p) (n place : ℕ) (number : n ≡ place + 1)
    (decided : IsRedoDecided opening h n None) where
  now_quiet : not_quiet_now opening h n ≡ None
  now_quiet = quiet_then n (is_last_undone n (journal_of h).undone) (is_in n (journal_of h).undone)
      (is_past n (journal_of h))
      (not_quiet_now opening h n) (refusal_at J3 Nothing) (refusal_at J3 Nothing)
      (refusal_at J1 Nothing) decided

  is_quiet : not_quiet_now opening h (place + 1) ≡ None
  is_quiet = sym (ap (λ m. not_quiet_now opening h m) number) ∙ now_quiet

  now_last : is_last_undone n (journal_of h).undone ≡ true
  now_last = last_then n (is_last_undone n (journal_of h).undone) (is_in n (journal_of h).undone)
      (is_past n (journal_of h))
      (not_quiet_now opening h n) (refusal_at J3 Nothing) (refusal_at J3 Nothing)
      (refusal_at J1 Nothing) decided

  pub redo_performed : (result : Result (Unit {0}) Refused) (j : Journaled) (q : Operating)
      → OnOk result (WasRedone i place p.state q.state j)
      → IfErr result (IsDue (refusal_in (meaning (redo_at_end i.undone) p.state))) → OnErr result (q.state ≡ p.state)
      → OnErr result (KeepsTheSame i j)
      → is_last i.undone (place + 1) ≡ true → IsNext opening h (redo_made n result) j fs q
  redo_performed (Ok done) j q was due same kept is_it =
      subst (λ m. IsNext opening h (redo_made m (Ok done)) j fs q) (sym number)
      (redone_now now place j q was is_quiet)
  redo_performed (Err why) j q was due same kept is_it =
      let lack = none_due (meaning (redo_at_end i.undone) p.state) _ why (last_means now place is_it is_quiet) due in
      redo_refused now j q kept same n why
      (subst (λ w. IsRight opening h (plain_entry (redo n) (answers.Refused w))) (sym lack)
      (lacking_redo opening h n now.idle now_last now_quiet))

pub redo_stopped : {opening : State} {h : History} {i : Journaled} {fs : List Effect} {p : Operating}
    (now : IsNow opening h i fs p)
    (n : ℕ) (why : Refused) → IsRedoDecided opening h n (Some why) → IsNext opening h (redo_made n (Err why)) i fs p
redo_stopped {opening = opening} {h = h} {i = i} {p = p} now n why decided =
    redo_refused now i p (same_journal i) refl n why (right_redo opening h n (answers.Refused why) now.idle decided)
