-- Undos and redos as calls: what decides them, and what they leave.
use Rattle.std.proofs.Common.{◌≡◌, inl, inr, ℕ, zero, suc, ◌+◌, Bool, true, false, Option, Some, None, Result, Ok}
use Rattle.std.proofs.Common.{Err, List, ◌∷◌, refl, sym, ap, subst, ◌∙◌, arith}
use Rattle.std.specs.Prelude.{OnOk, OnErr, IfErr}
use Rattle.std.specs.Option.{option_map}
use Rattle.std.specs.FinMap.{keys}
use Rattle.std.specs.List.{slice_get}
use Rattle.iocm_types.specs.declared.answer.Answer.TheVariants as answers
use Rattle.iocm_types.specs.declared.refused.At.TheVariants.{Nothing, Change}
use Rattle.iocm_types.specs.declared.refused.Refused.{Refused}
use Rattle.iocm_types.specs.declared.rule.Rule.TheVariants.{J1, J2}
use Rattle.iocm_model.specs.Operation.State.{State}
use Rattle.iocm_model.specs.Change.InverseTree.{inverse_tree}
use Rattle.iocm_model.specs.Change.Meaning.{Outcome, meaning, state_reached}
use Rattle.iocm_model.specs.Change.Refusal.{refusal_at, first_not_quiet}
use Rattle.iocm_model.specs.Laws.Trees.{KeepsTheRules}
use Rattle.iocm_history.specs.Entry.{undo, History, plain_entry}
use Rattle.iocm_history.specs.Account.{account, state_at}
use Rattle.iocm_history.specs.Fits.{fits}
use Rattle.iocm_history.specs.Journal.{is_in, journal_of}
use Rattle.iocm_history.specs.Legal.{IsRight}
use Rattle.iocm_history.specs.UndoLaws.{undo_entry}
use Rattle.iocm_history.proofs.EachCall.{states_stay_in_use}
use Rattle.iocm_history.proofs.Undoing.{MayBeUndone, may_be_undone}
use Rattle.iocm_history.proofs.Facts.{standing_were_accepted}
use Rattle.iocm_history.proofs.UndoMeans.{undo_means_the_undo}
use Rattle.iocm_activate.specs.Done.{refusal_in}
use Rattle.iocm_activate.specs.Effects.{effect_in}
use Rattle.iocm_activate.specs.declared.effect.Effect.{Effect}
use Rattle.iocm_plant.specs.Operating.{Operating}
use Rattle.iocm_plant.specs.Refusing.{IsDue, no_memory}
use Rattle.iocm_journal.specs.Answering.{IsNext, undo_made}
use Rattle.iocm_journal.specs.Deciding.{IsUndoDecided, not_quiet, unless_refused, greatest_now, not_quiet_now}
use Rattle.iocm_journal.specs.Moving.{KeepsTheSame, WasUndone}
use Rattle.iocm_journal.specs.Now.{IsJournalOf, IsNow, BelongTogether}
use Rattle.iocm_journal.specs.Standing.{IsGreatestOn, stands_at, inverse_at}
use Rattle.iocm_journal.specs.declared.kept.Kept.{Kept}
use Rattle.iocm_journal.specs.Journaled.{Journaled}
use Rattle.iocm_journal.proofs.Answers.{unless_busy}
use Rattle.iocm_journal.proofs.Deciding.{stands_is, effect_there}
use Rattle.iocm_journal.proofs.Places.{stands_low, inverse_item}
use Rattle.iocm_journal.proofs.Refused.{kept_the_same, right_undo, lacking_undo, undo_refused}
use Rattle.iocm_journal.proofs.UndoDecided.{quiet_is, stands_on_is, undo_decided, not_standing}
use Rattle.iocm_journal.proofs.Undoing.{undone_now}

-- ---- what belongs together

-- the machine keeps the rules
pub rules_now : {j : Journaled} {fs : List Effect} {p : Operating} → BelongTogether j fs p → KeepsTheRules p.state
rules_now b = subst KeepsTheRules (sym b.now.state)
    (states_stay_in_use b.opening b.history b.now.journal.used b.now.journal.legal).rules

pub same_journal : (j : Journaled) → KeepsTheSame j j
same_journal j = record { changes = refl; standing = refl; undone = refl }

-- a journal that keeps the same, and a machine in the same state, are of the same history
module _ {j i : Journaled} {fs : List Effect} {p q : Operating} (same : KeepsTheSame j i)
    (stays : q.state ≡ p.state) where
  pub still_now : {opening : State} {h : History} → IsNow opening h j fs p → IsNow opening h i fs q
  still_now {opening} {h} now = record {
    journal = kept_the_same opening h j i fs same now.journal;
    idle = now.idle;
    state = stays ∙ now.state;
  }

  pub still_together : BelongTogether j fs p → BelongTogether i fs q
  still_together b = record { opening = b.opening; history = b.history; now = still_now b.now }

differ : true ≡ false → ⊥
differ e = cc

-- an undo of a number is one of the number of its place
pub by_number : {opening : State} {h : History} {j : Journaled} {fs : List Effect} {q : Operating} {n : ℕ}
    (place : ℕ) (came : Result (Unit {0}) Refused) → n ≡ place + 1
    → IsNext opening h (undo_made (place + 1) came) j fs q
    → IsNext opening h (undo_made n came) j fs q
by_number {opening = opening} {h = h} {j = j} {fs = fs} {q = q} place came number next =
    subst (λ n. IsNext opening h (undo_made n came) j fs q) (sym number) next

-- ---- a change that doesn't stand

pub off : {opening : State} {h : History} {j : Journaled} {fs : List Effect} (i : IsJournalOf opening h j fs) (n : ℕ)
    → ((at : ℕ) → n ≡ at + 1 → stands_at j.changes at ≡ false) → is_in n (journal_of h).standing ≡ false
off {opening = opening} {h = h} i zero none = by (is_in 0 (journal_of h).standing) refl
  where
    by : (b : Bool) → is_in 0 (journal_of h).standing ≡ b → b ≡ false
    by true is = let low = (standing_were_accepted opening h 0 i.used i.legal is).0 in absurd (omega (arith, low))
    by false is = refl
off {h = h} i (suc at) none =
    subst (λ m. is_in m (journal_of h).standing ≡ false) (plus at) (stands_is i at ∙ none at (sym (plus at)))
  where
    plus : (m : ℕ) → m + 1 ≡ suc m
    plus m = omega arith

pub undo_of_none : {opening : State} {h : History} {j : Journaled} {fs : List Effect} {p : Operating}
    (now : IsNow opening h j fs p)
    (n : ℕ) (why : Refused) → ((at : ℕ) → n ≡ at + 1 → stands_at j.changes at ≡ false) → why ≡ refusal_at J1 Nothing
    → IsNext opening h (undo_made n (Err why)) j fs p
undo_of_none {opening = opening} {h = h} {j = j} {p = p} now n why none is =
    undo_refused now j p (same_journal j) refl n why
    (right_undo opening h n (answers.Refused why) now.idle
    (ap answers.Refused is ∙ not_standing opening h n (off now.journal n none)))

-- ---- what decides an undo

module _ {opening : State} {h : History} {j : Journaled} {fs : List Effect} {p : Operating}
    (now : IsNow opening h j fs p) (place : ℕ) (stands : stands_at j.changes place ≡ true)
    (on : Option ℕ) (greatest : IsGreatestOn j.changes fs place p.state on) where
  abbrev k : Kept
  k = (stands_low j.changes place stands).0

  there : slice_get j.changes place ≡ Some k
  there = (stands_low j.changes place stands).1

  it_stands : k.stands ≡ true
  it_stands = (stands_low j.changes place stands).2

  on_is : (f : Effect) → slice_get fs place ≡ Some f
      → greatest_now opening h (place + 1) ≡ option_map (λ at. at + 1) on
  on_is f at_f = let it = now.journal.kept place k f there at_f in
      stands_on_is now place k f there at_f it_stands (fits it.change p.state) refl
      ∙ ap (option_map (λ at. at + 1)) (sym (greatest k it.change.edits it.change.from there it.inverse it.performed))

  -- J2: a change stands on it
  pub stood_on : (other : ℕ) (why : Refused) → on ≡ Some other → why ≡ refusal_at J2 (Change (other + 1))
      → IsUndoDecided opening h (place + 1) (Some why)
  stood_on other why is named =
      let f = effect_there now.journal place k there in
      ap answers.Refused named
      ∙ undo_decided now place k f.0 there f.1 it_stands (Some (other + 1))
      (not_quiet_now opening h (place + 1)) (on_is f.0 f.1 ∙ ap (option_map (λ at. at + 1)) is) refl

  -- B1, or nothing
  pub waits_for : (f : Effect) (why : Option Refused) → slice_get fs place ≡ Some f → on ≡ None
      → why ≡ option_map not_quiet (first_not_quiet p.state.lives (keys (effect_in f).lives))
      → IsUndoDecided opening h (place + 1) why
  waits_for f why at_f none is =
      ap (unless_refused (answers.Undone (place + 1))) is ∙ unless_busy (answers.Undone (place + 1)) _
      ∙ undo_decided now place k f there at_f it_stands None _ (on_is f at_f ∙ ap (option_map (λ at. at + 1)) none)
      (quiet_is now (place + 1) k f (now.journal.kept place k f there at_f))

-- ---- an undo that is performed

pub none_due : (o : Outcome) (t : State) (why : Refused) → state_reached o ≡ Some t → IsDue (refusal_in o) why
    → why ≡ no_memory
none_due (Ok r) t why reached (inl due) = cc
none_due (Ok r) t why reached (inr lack) = lack
none_due (Err other) t why reached due = cc

module _ {opening : State} {h : History} {i : Journaled} {fs : List Effect} {p : Operating}
    (now : IsNow opening h i fs p) (place : ℕ)
    (decided : IsUndoDecided opening h (place + 1) None) (stands : stands_at i.changes place ≡ true) (mid : State)
    (mid_is : mid ≡ p.state) where
  may : MayBeUndone (state_at opening h) (journal_of h) (account opening h) (place + 1)
  may = may_be_undone opening h (place + 1)
      (right_undo opening h (place + 1) (answers.Undone (place + 1)) now.idle decided)

  pub undo_performed : (result : Result (Unit {0}) Refused) (j : Journaled) (q : Operating)
      → OnOk result (WasUndone i place mid q.state j)
      → IfErr result (IsDue (refusal_in (meaning (inverse_at i.changes place) mid))) → OnErr result (q.state ≡ mid)
      → OnErr result (KeepsTheSame i j)
      → IsNext opening h (undo_made (place + 1) result) j fs q
  undo_performed (Ok done) j q was due same kept =
      let l = stands_low i.changes place stands in
      let f = effect_there now.journal place l.0 l.1 in
      let w : WasUndone i place p.state q.state j = subst (λ s. WasUndone i place s q.state j) mid_is was in
      let same_kept : Some w.kept ≡ Some l.0 = sym w.there ∙ l.1 in
      undone_now now place f.0 f.1 j q w (ap (λ k. stands_of k) same_kept ∙ l.2) may.none may.quiet
    where
      stands_of : Option Kept → Bool
      stands_of (Some k) = k.stands
      stands_of None = false
  undo_performed (Err why) j q was due same kept =
      let l = stands_low i.changes place stands in
      let f = effect_there now.journal place l.0 l.1 in
      let it = now.journal.kept place l.0 f.0 l.1 f.1 in
      let meant =
      (undo_means_the_undo opening h (place + 1) it.change now.journal.used now.journal.legal now.idle may.here
      may.none may.quiet it.there).1 in
      let tree : inverse_at i.changes place ≡ inverse_tree it.change.edits it.change.from =
      inverse_item i.changes place l.0 l.1 ∙ it.inverse in
      let reached : state_reached (meaning (inverse_at i.changes place) mid)
      ≡ Some (state_at opening (undo_entry (place + 1) ∷ h))
      = (λ z. state_reached (meaning (tree z) ((mid_is ∙ now.state) z))) ∙ meant in
      let lack = none_due (meaning (inverse_at i.changes place) mid) _ why reached due in
      undo_refused now j q kept (same ∙ mid_is) (place + 1) why
      (subst (λ w. IsRight opening h (plain_entry (undo (place + 1)) (answers.Refused w))) (sym lack)
      (lacking_undo opening h (place + 1) now.idle may.here))

-- ---- an undo that is refused

module _ {opening : State} {h : History} {i : Journaled} {fs : List Effect} {p : Operating}
    (now : IsNow opening h i fs p)
    (q : Operating) (same : q.state ≡ p.state) where
  pub undo_stopped : (n : ℕ) (why : Refused) → IsUndoDecided opening h n (Some why)
      → IsNext opening h (undo_made n (Err why)) i fs q
  undo_stopped n why decided =
      undo_refused now i q (same_journal i) same n why (right_undo opening h n (answers.Refused why) now.idle decided)

  pub undo_lacks : (place : ℕ) → stands_at i.changes place ≡ true
      → IsNext opening h (undo_made (place + 1) (Err no_memory)) i fs q
  undo_lacks place stands =
      undo_refused now i q (same_journal i) same (place + 1) no_memory
      (lacking_undo opening h (place + 1) now.idle (stands_is now.journal place ∙ stands))
