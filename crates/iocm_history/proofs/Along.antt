-- Every legal history is settled.
use Rattle.std.proofs.Common.{◌≡◌, ◌⊎◌, inl, inr, ℕ, ◌+◌, Bool, true, false, cond, List, [], ◌∷◌, Option, Some, None}
use Rattle.std.proofs.Common.{Ok, Err, refl, sym, ap, subst}
use Rattle.std.proofs.lemmas.Bool.{eqb-true}
use Rattle.iocm_types.specs.declared.answer.Answer.TheVariants.{Undone, Redone}
use Rattle.iocm_types.specs.declared.answer.Answer.TheVariants as answers
use Rattle.iocm_types.specs.declared.refused.Refused.{Refused}
use Rattle.iocm_types.specs.declared.sub_id.SubId.{SubId}
use Rattle.iocm_model.specs.Operation.State.{State}
use Rattle.iocm_model.specs.Operation.Step.{Step, order, device_begin, device_end, after_step, answer_in}
use Rattle.iocm_model.specs.Change.Tree.{ChangeTree}
use Rattle.iocm_model.specs.Change.Meaning.{Outcome, meaning}
use Rattle.iocm_history.specs.Entry.{Call, at, activate, begin, advance, commit, abort, undo, redo, show, Entry}
use Rattle.iocm_history.specs.Entry.{History, plain_entry}
use Rattle.iocm_history.specs.Store.{Store, store_of}
use Rattle.iocm_history.specs.Change.{Change, change_of}
use Rattle.iocm_history.specs.Stage.{Stage, is_held, advanced}
use Rattle.iocm_history.specs.MarkedEntry.{step, undoing, nothing, kept, without_change, with_change}
use Rattle.std.specs.FinMap.{get}
use Rattle.iocm_types.specs.declared.refused.At.TheVariants.{Nothing}
use Rattle.iocm_types.specs.declared.rule.Rule.TheVariants.{M1}
use Rattle.iocm_model.specs.Change.Refusal.{refusal_at}
use Rattle.iocm_history.proofs.Striking.{made, entry}
use Rattle.iocm_history.specs.Account.{committed, Account, account_after, account}
use Rattle.iocm_history.specs.StandsOn.{stands_on}
use Rattle.iocm_history.specs.Journal.{Journal, is_in, is_past, without, journal_after, journal_of}
use Rattle.iocm_history.specs.Legal.{unless_held, unless_staged, activated, begun, advance_answer, commit_entry}
use Rattle.iocm_history.specs.Legal.{abort_answer, unless_not_quiet, unless_stood_on, undo_answer, is_last_undone}
use Rattle.iocm_history.specs.Legal.{redo_answer, show_answer, not_quiet_of, entry_in, may_lack_memory, IsLegal}
use Rattle.iocm_history.specs.InUse.{IsInUse}
use Rattle.iocm_history.proofs.WasMade.{was_meant}
use Rattle.iocm_history.proofs.Level.{IsReady}
use Rattle.iocm_history.proofs.Settled.{IsStaged, IsSettled, state_now, settled_in_use, settled_nothing, settled_step}
use Rattle.iocm_history.proofs.Settled.{settled_change, settled_undo, settled_redo}

-- the change that a tree means is made in the state that it is tried in
from_is : (o : Outcome) (s : State) → (change_of o s).from ≡ s
from_is (Ok r) s = refl
from_is (Err why) s = refl

abbrev IsAccepted : Outcome → Type 0
IsAccepted (Ok r) = Unit {0}
IsAccepted (Err why) = ⊥

-- ---- events

module _ (m : Store) (b : Journal) (a : Account) where
  abbrev s : State
  s = state_now m a

  -- what an entry may be. It does nothing, but may begin, advance or abort a stage; it is a step; a
  -- change; the undo of a change on which nothing stands; the redo of the last one undone
  pub data IsEvent (e : Entry) : Type 0 where
    idles : (g : Option Stage) → IsStaged g s
        → account_after e.call e.answer s a ≡ record { entries = entry nothing kept ∷ a.entries; stage = g }
        → journal_after e.answer b ≡ b → IsEvent e
    steps : (x : SubId) (done : Step) → is_held x a.stage ≡ false
        → account_after e.call e.answer s a
        ≡ record {
          entries = entry (step x done (get (after_step x done s).lives x)) kept ∷ a.entries;
          stage = a.stage;
        }
        → journal_after e.answer b ≡ b → IsEvent e
    changes : (c : Change) (g : Option Stage) → IsReady c s → g ≡ None
        → account_after e.call e.answer s a ≡ record { entries = made (b.count + 1) c ∷ a.entries; stage = g }
        → journal_after e.answer b ≡ record { count = b.count + 1; standing = (b.count + 1) ∷ b.standing; undone = [] }
        → IsEvent e
    undoes : (n : ℕ) → is_in n b.standing ≡ true → stands_on n a.entries s ≡ None → a.stage ≡ None → e.answer ≡ Undone n
        → account_after e.call e.answer s a
        ≡ record { entries = entry (undoing n) kept ∷ without_change n a.entries; stage = a.stage }
        → journal_after e.answer b ≡ record { count = b.count; standing = without n b.standing; undone = n ∷ b.undone }
        → IsEvent e
    redoes : (n : ℕ) (us : List ℕ) → b.undone ≡ n ∷ us → a.stage ≡ None → e.answer ≡ Redone n
        → account_after e.call e.answer s a
        ≡ record { entries = entry nothing kept ∷ with_change n a.entries; stage = a.stage }
        → journal_after e.answer b ≡ record { count = b.count; standing = n ∷ b.standing; undone = without n b.undone }
        → IsEvent e

settled_as : (m : Store) (b c : Journal) (a d : Account) → IsSettled m c d → a ≡ d → b ≡ c → IsSettled m b a
settled_as m b c a d settled account_is journal_is =
    subst (λ z. IsSettled m z a) (sym journal_is) (subst (IsSettled m c) (sym account_is) settled)

module _ (m : Store) (b : Journal) (a : Account) (i : IsSettled m b a) where
  abbrev now : State
  now = state_now m a

  abbrev IsEventNow : Entry → Type 0
  IsEventNow e = IsEvent m b a e

  -- an activation that means something is ready
  meant : (p : ChangeTree) (o : Outcome) → meaning p now ≡ o → IsAccepted o
      → IsReady (change_of (meaning p now) now) now
  meant p (Ok r) is ok = record {
    was_made = was_meant p now r (settled_in_use m b a i) is;
    config = ap (λ (z : State). z.config) (sym (from_is (meaning p now) now));
    numbers = ap (λ (z : State). z.numbers) (sym (from_is (meaning p now) now));
    lives = λ x on. ap (λ (z : State). get z.lives x) (sym (from_is (meaning p now) now));
  }
  meant p (Err why) is ok = absurd ok

  -- ---- steps

  step_next : (x : SubId) (done : Step) (held : Bool) → is_held x a.stage ≡ held
      → IsEventNow (plain_entry (at x done) (unless_held held (answer_in now x done)))
  step_next x done true is = idles a.stage i.stage refl refl
  step_next x (order o) false is = steps x (order o) is refl refl
  step_next x device_begin false is = steps x device_begin is refl refl
  step_next x device_end false is = steps x device_end is refl refl

  -- ---- changes

  activated_next : (p : ChangeTree) (o : Outcome) → a.stage ≡ None → meaning p now ≡ o
      → IsEventNow (activated p (b.count + 1) now o)
  activated_next p (Ok r) idle is =
      changes (change_of (meaning p now) now) a.stage (meant p (Ok r) is tt) idle refl refl
  activated_next p (Err why) idle is = idles a.stage i.stage refl refl

  activate_next : (p : ChangeTree) (g : Option Stage) → a.stage ≡ g
      → IsEventNow (unless_staged g (activate p) (activated p (b.count + 1) now (meaning p now)))
  activate_next p (Some g) is = idles a.stage i.stage refl refl
  activate_next p None is = activated_next p (meaning p now) is refl

  begun_next : (p : ChangeTree) (o : Outcome) → meaning p now ≡ o → IsEventNow (begun p o)
  begun_next p (Ok r) is =
      idles (Some (record { change = change_of (meaning p now) now; advances = 0 })) (meant p (Ok r) is tt) refl refl
  begun_next p (Err why) is = idles a.stage i.stage refl refl

  begin_next : (p : ChangeTree) (g : Option Stage) → IsEventNow (unless_staged g (begin p) (begun p (meaning p now)))
  begin_next p (Some g) = idles a.stage i.stage refl refl
  begin_next p None = begun_next p (meaning p now) refl

  advanced_stage : (g : Option Stage) → IsStaged g now → IsStaged (advanced g) now
  advanced_stage (Some g) staged = staged
  advanced_stage None staged = staged

  advance_next : (g : Option Stage) → IsEventNow (plain_entry advance (advance_answer g))
  advance_next (Some g) = idles (advanced a.stage) (advanced_stage a.stage i.stage) refl refl
  advance_next None = idles a.stage i.stage refl refl

  commit_next : (g : Option Stage) → a.stage ≡ g → IsEventNow (commit_entry (b.count + 1) g)
  commit_next (Some g) is =
      changes g.change None (subst (λ (o : Option Stage). IsStaged o now) is i.stage) refl
      (λ j. record { entries = entry (committed (b.count + 1) (is j)) kept ∷ a.entries; stage = None }) refl
  commit_next None is = idles a.stage i.stage refl refl

  abort_next : (g : Option Stage) → IsEventNow (plain_entry abort (abort_answer g))
  abort_next (Some g) = idles None tt refl refl
  abort_next None = idles a.stage i.stage refl refl

  -- ---- undo and redo

  undone_next : (n : ℕ) (here : Bool) (on : Option ℕ) (not_quiet : Option SubId) (why : Refused) → a.stage ≡ None
      → is_in n b.standing ≡ here
      → stands_on n a.entries now ≡ on
      → IsEventNow (plain_entry (undo n)
      (cond here (unless_stood_on on (unless_not_quiet not_quiet (Undone n))) (answers.Refused why)))
  undone_next n true None None why idle here none = undoes n here none idle refl refl refl
  undone_next n true None (Some x) why idle here none = idles a.stage i.stage refl refl
  undone_next n true (Some k) not_quiet why idle here none = idles a.stage i.stage refl refl
  undone_next n false on not_quiet why idle here none = idles a.stage i.stage refl refl

  undo_next : (n : ℕ) (g : Option Stage) → a.stage ≡ g
      → IsEventNow (unless_staged g (undo n)
      (plain_entry (undo n) (undo_answer n b.standing (stands_on n a.entries now) (not_quiet_of n now a))))
  undo_next n (Some g) is = idles a.stage i.stage refl refl
  undo_next n None is = undone_next n (is_in n b.standing) (stands_on n a.entries now) (not_quiet_of n now a) _ is refl
      refl

  redone_next : (n : ℕ) (us : List ℕ) (last here past : Bool) (not_quiet : Option SubId) (why whether other : Refused)
      → a.stage ≡ None → b.undone ≡ us
      → is_last_undone n us ≡ last → IsEventNow (plain_entry (redo n) (cond last (unless_not_quiet not_quiet (Redone n))
      (cond here (answers.Refused why) (cond past (answers.Refused whether) (answers.Refused other)))))
  redone_next n [] true here past not_quiet why whether other idle is last = cc
  redone_next n (u ∷ us) true here past None why whether other idle is last =
      subst (λ j. IsEventNow (plain_entry (redo n) (Redone j))) (sym (eqb-true n u last))
      (redoes u us is idle refl refl refl)
  redone_next n us true here past (Some x) why whether other idle is last = idles a.stage i.stage refl refl
  redone_next n us false true past not_quiet why whether other idle is last = idles a.stage i.stage refl refl
  redone_next n us false false true not_quiet why whether other idle is last = idles a.stage i.stage refl refl
  redone_next n us false false false not_quiet why whether other idle is last = idles a.stage i.stage refl refl

  redo_next : (n : ℕ) (g : Option Stage) → a.stage ≡ g
      → IsEventNow (unless_staged g (redo n) (plain_entry (redo n) (redo_answer n b (not_quiet_of n now a))))
  redo_next n (Some g) is = idles a.stage i.stage refl refl
  redo_next n None is = redone_next n b.undone (is_last_undone n b.undone) (is_in n b.undone) (is_past n b)
      (not_quiet_of n now a) _ _ _ is refl refl

  show_next : (g : Option Stage) → IsEventNow (unless_staged g show (plain_entry show (show_answer now b)))
  show_next (Some g) = idles a.stage i.stage refl refl
  show_next None = idles a.stage i.stage refl refl

  -- ---- any call

  pub call_next : (c : Call) → IsEventNow (entry_in now b a c)
  call_next (at x done) = step_next x done (is_held x a.stage) refl
  call_next (activate p) = activate_next p a.stage refl
  call_next (begin p) = begin_next p a.stage
  call_next advance = advance_next a.stage
  call_next commit = commit_next a.stage refl
  call_next abort = abort_next a.stage
  call_next (undo n) = undo_next n a.stage refl
  call_next (redo n) = redo_next n a.stage refl
  call_next show = show_next a.stage

  -- a call for which memory lacks
  pub lack_next : (c : Call) (why : Refused) → may_lack_memory now b a c ≡ true
      → IsEventNow (plain_entry c (answers.Refused why))
  lack_next (at x done) why may = cc
  lack_next (activate p) why may = idles a.stage i.stage refl refl
  lack_next (begin p) why may = idles a.stage i.stage refl refl
  lack_next advance why may = cc
  lack_next commit why may = cc
  lack_next abort why may = cc
  lack_next (undo n) why may = idles a.stage i.stage refl refl
  lack_next (redo n) why may = idles a.stage i.stage refl refl
  lack_next show why may = cc

  -- an entry that may come is an event
  pub is_event : (e : Entry)
      → (e ≡ entry_in now b a e.call)
      ⊎ ((may_lack_memory now b a e.call ≡ true) × (e ≡ plain_entry e.call (answers.Refused (refusal_at M1 Nothing))))
      → IsEventNow e
  is_event e (inl same) = subst IsEventNow (sym same) (call_next e.call)
  is_event e (inr lack) = subst IsEventNow (sym lack.1) (lack_next e.call (refusal_at M1 Nothing) lack.0)

  -- what an event leaves is settled
  pub settled_by : (e : Entry) → IsEventNow e
      → IsSettled m (journal_after e.answer b) (account_after e.call e.answer now a)
  settled_by e (idles g staged account_is journal_is) =
      settled_as m _ _ _ _ (settled_nothing m b a i g staged) account_is journal_is
  settled_by e (steps x done off account_is journal_is) =
      settled_as m _ _ _ _ (settled_step m b a i x done off) account_is journal_is
  settled_by e (changes c g ready idle account_is journal_is) =
      settled_as m _ _ _ _ (settled_change m b a i c g ready idle) account_is journal_is
  settled_by e (undoes n here none idle answer account_is journal_is) =
      settled_as m _ _ _ _ (settled_undo m b a i n here none idle) account_is journal_is
  settled_by e (redoes n us undone idle answer account_is journal_is) =
      settled_as m _ _ _ _ (settled_redo m b a i n us undone idle) account_is journal_is

-- ---- along a history

pub opened : (opening : State) → IsInUse opening → IsSettled (store_of opening) (journal_of []) (account opening [])
unfolding account
opened opening used = record {
  ahead = record { none = λ j more. refl; unmarked = λ j more. tt };
  level = record { standing = λ k among. cc; only = λ k among. cc; state = opening; is = refl; used = used };
  chain = tt;
  stage = tt;
}

-- a legal history is settled
pub settled : (opening : State) (h : History) → IsInUse opening → IsLegal opening h
    → IsSettled (store_of opening) (journal_of h) (account opening h)
unfolding account
settled opening [] used legal = opened opening used
settled opening (e ∷ h) used legal =
    let i = settled opening h used legal.1 in
    settled_by (store_of opening) (journal_of h) (account opening h) i e
    (is_event (store_of opening) (journal_of h) (account opening h) i e legal.0)
