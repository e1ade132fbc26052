-- Changes that never were undone.
use Rattle.std.proofs.Common.{◌≡◌, ◌⊎◌, inl, inr, ℕ, ◌<◌, ◌≤◌, true, false, cond, eqb, List, [], ◌∷◌, length, refl}
use Rattle.std.proofs.Common.{sym, ap, subst, ◌∙◌, arith}
use Rattle.std.proofs.lemmas.Bool.{ne_eqb}
use Rattle.iocm_types.specs.declared.answer.Answer.{Answer}
use Rattle.iocm_types.specs.declared.answer.Answer.TheVariants as answers
use Rattle.iocm_model.specs.Operation.State.{State}
use Rattle.iocm_history.specs.Entry.{Entry, History}
use Rattle.iocm_history.specs.Store.{store_of}
use Rattle.iocm_history.specs.Account.{account}
use Rattle.iocm_history.specs.Journal.{Journal, is_in, journal_after, journal_of}
use Rattle.iocm_history.specs.Legal.{IsLegal}
use Rattle.iocm_history.specs.InUse.{IsInUse}
use Rattle.iocm_history.proofs.Along.{IsEvent, is_event, settled}
use Rattle.iocm_history.specs.Reckoning.{undone_then, last_undone}
use Rattle.iocm_history.proofs.Facts.{standing_were_accepted}

longer : (m : ℕ) (ms : List ℕ) → m ∷ ms ≡ ms → ⊥
longer m ms same = let more : length (m ∷ ms) ≡ length ms = ap length same in omega (arith, more)

-- an accepted undo is of a standing change
undo_of_standing : (opening : State) (h : History) (e : Entry) (m : ℕ)
    → IsEvent (store_of opening) (journal_of h) (account opening h) e
    → e.answer ≡ answers.Undone m → is_in m (journal_of h).standing ≡ true
undo_of_standing opening h e m (IsEvent.idles g staged account_is journal_is) is =
    absurd (longer m (journal_of h).undone
    (ap (λ (b : Journal). b.undone) (ap (λ a. journal_after a (journal_of h)) (sym is) ∙ journal_is)))
undo_of_standing opening h e m (IsEvent.steps x done off account_is journal_is) is =
    absurd (longer m (journal_of h).undone
    (ap (λ (b : Journal). b.undone) (ap (λ a. journal_after a (journal_of h)) (sym is) ∙ journal_is)))
undo_of_standing opening h e m (IsEvent.changes c g ready idle account_is journal_is) is =
    let more = ap (λ (b : Journal). b.count) (ap (λ a. journal_after a (journal_of h)) (sym is) ∙ journal_is) in
    absurd (omega (arith, more))
undo_of_standing opening h e m (IsEvent.undoes n here none idle answer account_is journal_is) is =
    let same : n ≡ m = let both = sym answer ∙ is in cc in subst (λ k. is_in k (journal_of h).standing ≡ true) same here
undo_of_standing opening h e m (IsEvent.redoes n us undone idle answer account_is journal_is) is = let both =
    sym answer ∙ is in cc

-- ---- the count only grows

count_grows : (e : Entry) (opening : State) (h : History)
    → IsEvent (store_of opening) (journal_of h) (account opening h) e
    → (journal_of h).count ≤ (journal_of (e ∷ h)).count
count_grows e opening h (IsEvent.idles g staged account_is journal_is) = let same =
    ap (λ (b : Journal). b.count) journal_is in omega (arith, same)
count_grows e opening h (IsEvent.steps x done off account_is journal_is) = let same =
    ap (λ (b : Journal). b.count) journal_is in omega (arith, same)
count_grows e opening h (IsEvent.changes c g ready idle account_is journal_is) = let more =
    ap (λ (b : Journal). b.count) journal_is in omega (arith, more)
count_grows e opening h (IsEvent.undoes n here none idle answer account_is journal_is) = let same =
    ap (λ (b : Journal). b.count) journal_is in omega (arith, same)
count_grows e opening h (IsEvent.redoes n us undone idle answer account_is journal_is) = let same =
    ap (λ (b : Journal). b.count) journal_is in omega (arith, same)

-- ---- what is no change that was accepted was never undone

abbrev IsNoChange : ℕ → ℕ → Type 0
IsNoChange n count = (n ≡ 0) ⊎ (count < n)

still_none : (n few count : ℕ) → few ≤ count → IsNoChange n count → IsNoChange n few
still_none n few count less (inl zero_is) = inl zero_is
still_none n few count less (inr past) = inr (omega arith)

other : (n m count : ℕ) → IsNoChange n count → 1 ≤ m → m ≤ count → n ≡ m → ⊥
other n m count (inl zero_is) low high same = omega arith
other n m count (inr past) low high same = omega arith

pub never_undone : (opening : State) (h : History) (n : ℕ) → IsInUse opening → IsLegal opening h
    → IsNoChange n (journal_of h).count → last_undone n h ≡ 0
never_undone opening [] n used legal none = refl
never_undone opening (e ∷ h) n used legal none =
    let event = is_event (store_of opening) (journal_of h) (account opening h) (settled opening h used legal.1) e
    legal.0 in
    let out = still_none n (journal_of h).count (journal_of (e ∷ h)).count (count_grows e opening h event) none in
    let before = never_undone opening h n used legal.1 out in
    let apart = (λ (m : ℕ) (is : e.answer ≡ answers.Undone m). let here = undo_of_standing opening h e m event is in
    let bounds = standing_were_accepted opening h m used legal.1 here in
    ne_eqb n m (other n m (journal_of h).count out bounds.0 bounds.1)) in
    by e.answer refl before apart
  where
    by : (a : Answer) → e.answer ≡ a → last_undone n h ≡ 0 → ((m : ℕ) → e.answer ≡ answers.Undone m → eqb n m ≡ false)
        → undone_then n a (journal_of h).count (last_undone n h) ≡ 0
    by (answers.Io io) is before apart = before
    by (answers.Begun was) is before apart = before
    by (answers.Ended was) is before apart = before
    by answers.Held is before apart = before
    by (answers.Changed m) is before apart = before
    by (answers.Staged k) is before apart = before
    by (answers.Left k) is before apart = before
    by answers.Aborted is before apart = before
    by (answers.Undone m) is before apart =
        ap (λ b. cond b (journal_of h).count (last_undone n h)) (apart m is) ∙ before
    by (answers.Redone m) is before apart = before
    by (answers.Shown counts) is before apart = before
    by (answers.Refused why) is before apart = before
