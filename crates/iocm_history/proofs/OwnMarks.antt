-- What the undo of a change struck is the change, or a step on a subchannel that it altered.
use Rattle.std.proofs.Common.{◌≡◌, ◌≢◌, ◌⊎◌, inl, inr, ℕ, ◌+◌, Bool, true, false, cond, eqb, List, [], ◌∷◌, Some, refl}
use Rattle.std.proofs.Common.{sym, subst, arith}
use Rattle.std.proofs.lemmas.Bool.{eqb-true, eqb-false}
use Rattle.iocm_types.specs.declared.sub_id.SubId.{SubId}
use Rattle.std.specs.FinMap.{get}
use Rattle.iocm_model.specs.Operation.Step.{after_step}
use Rattle.iocm_history.specs.Entry.{Entry}
use Rattle.iocm_history.specs.Store.{Store, store_of}
use Rattle.iocm_history.specs.Change.{Change, altered}
use Rattle.iocm_history.specs.MarkedEntry.{Act, step, change, undoing, nothing, kept, undone_with, MarkedEntry}
use Rattle.iocm_history.specs.MarkedEntry.{is_change, is_step_on, altered_if, altered_by_change, change_at, struck}
use Rattle.iocm_history.specs.MarkedEntry.{struck_if, strike, without_change, with_change}
use Rattle.iocm_history.specs.Account.{Account, account_after, account}
use Rattle.iocm_history.specs.Journal.{Journal, journal_of}
use Rattle.iocm_history.specs.MarkLaws.{IsUnmarked, AreItsOwn, UndosStrikeTheirOwn}
use Rattle.iocm_history.proofs.Remarked.{AreRemarked, NotNew, not_new_strike, not_new_restore, change_strike}
use Rattle.iocm_history.proofs.Remarked.{change_restore}
use Rattle.iocm_history.proofs.Striking.{made, entry}
use Rattle.iocm_history.proofs.Settled.{IsSettled, state_now}
use Rattle.iocm_history.proofs.Along.{IsEvent, idles, steps, changes, undoes, redoes, is_event, settled}

-- where nothing is newly struck by an undo, what is struck by it is its own as before
own_then : (n : ℕ) (xs : List SubId) (ls ms : List MarkedEntry) → AreRemarked (NotNew n) ls ms → AreItsOwn n xs ls
    → AreItsOwn n xs ms
unfolding AreRemarked
own_then n xs [] [] r own = tt
own_then n xs [] (m ∷ ms) r own = absurd r
own_then n xs (l ∷ ls) [] r own = absurd r
own_then n xs (l ∷ ls) (m ∷ ms) r own = (
  λ is. subst (λ (a : Act). (is_change n a ≡ true) ⊎ (is_step_on xs a ≡ true)) (sym r.0) (own.0 (r.1 is)),
  own_then n xs ls ms r.2 own.1,
)

-- where a change has no marks, it has none wrongly
own_unmarked : (n : ℕ) (xs : List SubId) (ls : List MarkedEntry) → IsUnmarked n ls → AreItsOwn n xs ls
own_unmarked n xs [] none = tt
own_unmarked n xs (l ∷ ls) none = (λ is. absurd (none.0 is), own_unmarked n xs ls none.1)

own_if : (c : Bool) (n : ℕ) (xs : List SubId) (l : MarkedEntry) (ls ms : List MarkedEntry) → is_step_on xs l.act ≡ c
    → AreItsOwn n xs (l ∷ ls)
    → AreItsOwn n xs ms → AreItsOwn n xs (struck_if c (undone_with n) l ∷ ms)
own_if true n xs l ls ms on own rest = (λ is. inr on, rest)
own_if false n xs l ls ms on own rest = (own.0, rest)

own_at : (b : Bool) (n : ℕ) (xs : List SubId) (l : MarkedEntry) (ls : List MarkedEntry) → is_change n l.act ≡ b
    → AreItsOwn n xs (l ∷ ls)
    → AreItsOwn n xs (strike xs n ls)
    → AreItsOwn n xs (cond b (struck (undone_with n) l ∷ ls)
    (struck_if (is_step_on xs l.act) (undone_with n) l ∷ strike xs n ls))
own_at true n xs l ls it own rest = (λ is. inl it, own.1)
own_at false n xs l ls it own rest = own_if (is_step_on xs l.act) n xs l ls (strike xs n ls) refl own rest

-- its own undo strikes the change, and steps on its subchannels
own_strike : (n : ℕ) (xs : List SubId) (ls : List MarkedEntry) → AreItsOwn n xs ls → AreItsOwn n xs (strike xs n ls)
unfolding strike
own_strike n xs [] own = tt
own_strike n xs (l ∷ ls) own = own_at (is_change n l.act) n xs l ls refl own (own_strike n xs ls own.1)

-- the marks of a change are its own
abbrev AreOwn : ℕ → List MarkedEntry → Type 0
AreOwn n ls = AreItsOwn n (altered_by_change n ls) ls

kept_mark : (n : ℕ) → kept ≢ undone_with n
kept_mark n e = cc

module _ (m : Store) (b : Journal) (a : Account) (i : IsSettled m b a) (n : ℕ) (own : AreOwn n a.entries) where
  -- an entry that counts, in front
  front_own : (xs : List SubId) (act : Act) (ls : List MarkedEntry) → AreItsOwn n xs ls
      → AreItsOwn n xs (entry act kept ∷ ls)
  front_own xs act ls rest = (λ is. absurd (kept_mark n is), rest)

  change_own : (c : Change) (same : Bool) → eqb n (b.count + 1) ≡ same
      → AreItsOwn n (altered_if (cond same (Some c) (change_at n a.entries))) (made (b.count + 1) c ∷ a.entries)
  change_own c true is =
      let number = eqb-true n (b.count + 1) is in
      front_own (altered c) (change (b.count + 1) c) a.entries
      (own_unmarked n (altered c) a.entries (i.ahead.unmarked n (omega arith)))
  change_own c false is = front_own (altered_by_change n a.entries) (change (b.count + 1) c) a.entries own

  undo_own : (k : ℕ) (same : Bool) → eqb k n ≡ same
      → AreItsOwn n (altered_by_change n a.entries) (without_change k a.entries)
  undo_own k true is =
      subst (λ (j : ℕ). AreItsOwn n (altered_by_change n a.entries) (without_change j a.entries))
      (sym (eqb-true k n is))
      (own_strike n (altered_by_change n a.entries) a.entries own)
  undo_own k false is = own_then n _ a.entries _
      (not_new_strike (altered_by_change k a.entries) n k (eqb-false k n is) a.entries) own

  next_own : (e : Entry) → IsEvent m b a e → AreOwn n (account_after e.call e.answer (state_now m a) a).entries
  next_own e (idles g staged account_is journal_is) =
      subst (λ (d : Account). AreOwn n d.entries) (sym account_is)
      (front_own (altered_by_change n a.entries) nothing a.entries own)
  next_own e (steps x done off account_is journal_is) =
      subst (λ (d : Account). AreOwn n d.entries) (sym account_is)
      (front_own (altered_by_change n a.entries) (step x done (get (after_step x done (state_now m a)).lives x))
      a.entries own)
  next_own e (changes c g ready idle account_is journal_is) =
      subst (λ (d : Account). AreOwn n d.entries) (sym account_is) (change_own c (eqb n (b.count + 1)) refl)
  next_own e (undoes k here none idle answer account_is journal_is) =
      subst (λ (d : Account). AreOwn n d.entries) (sym account_is)
      (subst (λ o. AreItsOwn n (altered_if o) (entry (undoing k) kept ∷ without_change k a.entries))
      (sym (change_strike (altered_by_change k a.entries) k n a.entries))
      (front_own (altered_by_change n a.entries) (undoing k) (without_change k a.entries) (undo_own k (eqb k n) refl)))
  next_own e (redoes k us undone idle answer account_is journal_is) =
      subst (λ (d : Account). AreOwn n d.entries) (sym account_is)
      (subst (λ o. AreItsOwn n (altered_if o) (entry nothing kept ∷ with_change k a.entries))
      (sym (change_restore (altered_by_change k a.entries) k n a.entries))
      (front_own (altered_by_change n a.entries) nothing (with_change k a.entries)
      (own_then n (altered_by_change n a.entries) a.entries _
      (not_new_restore (altered_by_change k a.entries) n k a.entries) own)))

pub undos_strike_their_own : UndosStrikeTheirOwn
unfolding account
undos_strike_their_own opening [] n used legal = tt
undos_strike_their_own opening (e ∷ h) n used legal =
    let i = settled opening h used legal.1 in
    next_own (store_of opening) (journal_of h) (account opening h) i n (undos_strike_their_own opening h n used legal.1)
    e
    (is_event (store_of opening) (journal_of h) (account opening h) i e legal.0)
