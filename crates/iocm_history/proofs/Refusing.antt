-- Why an undo is refused.
use Rattle.std.proofs.Common.{◌≡◌, ◌⊎◌, inl, inr, ⊎_elim, ℕ, max, Bool, true, false, cond, eqb, List, [], ◌∷◌, Option}
use Rattle.std.proofs.Common.{Some, None, is_none, refl, sym, ap, subst, ◌∙◌, arith, map, filter}
use Rattle.std.proofs.lemmas.Bool.{eq-eqb, or_left, or_right, and_parts, cases_lt}
use Rattle.std.specs.List.{fold, find}
use Rattle.std.specs.declared.cmp.Ordering.TheVariants.{Less}
use Rattle.std.specs.FinMap.{get, entries, entries_sorted}
use Rattle.iocm_types.specs.declared.answer.Answer.TheVariants.{Undone}
use Rattle.iocm_types.specs.declared.answer.Answer.TheVariants as answers
use Rattle.iocm_types.specs.declared.refused.At.TheVariants.{Nothing}
use Rattle.iocm_types.specs.declared.rule.Rule.TheVariants.{J1}
use Rattle.iocm_types.specs.declared.sub_id.SubId.{SubId}
use Rattle.iocm_types.specs.SubId.{sub_id_cmp}
use Rattle.iocm_types.specs.KeyOrder.{sub_ids_total, sub_ids_exact}
use Rattle.iocm_model.specs.Operation.State.{State, Lives, is_among}
use Rattle.iocm_model.specs.Change.Refusal.{refusal_at, is_not_quiet, first_not_quiet}
use Rattle.iocm_model.proofs.Change.LeastNotQuiet.{found_passes, least_found}
use Rattle.iocm_history.specs.Entry.{undo, Entry, History, plain_entry}
use Rattle.iocm_history.specs.Change.{Change, effect_of_change}
use Rattle.iocm_history.specs.Fits.{fits}
use Rattle.iocm_history.specs.MarkedEntry.{change_at, altered_if, altered_by_change}
use Rattle.iocm_history.specs.Stage.{Stage}
use Rattle.iocm_history.specs.Account.{Account, account, state_at}
use Rattle.iocm_history.specs.StandsOn.{standing_on, greatest, greatest_on, stands_on}
use Rattle.iocm_history.specs.Journal.{is_in, journal_of}
use Rattle.iocm_history.specs.Legal.{unless_staged, unless_not_quiet, unless_stood_on, not_quiet_of, entry_of}
use Rattle.iocm_history.specs.Legal.{may_lack_memory_after, IsRight}
use Rattle.iocm_history.specs.UndoLaws.{IsGreatestOf, IsRefusedFor, staged, not_standing, stood_on, waits, lacks_memory}
use Rattle.iocm_history.specs.UndoLaws.{UndoIsRefusedOnlyFor}
use Rattle.iocm_history.proofs.Latest.{greatest_bounds}
use Rattle.iocm_history.proofs.Numbers.{first_or_rest}

-- an option that a test found empty
pub none_is : {A : Type 0} (o : Option A) → is_none o ≡ true → o ≡ None
none_is None is = refl
none_is (Some x) is = cc

-- ---- the greatest of some numbers is one of them

which_max : (m n : ℕ) → (max m n ≡ m) ⊎ (max m n ≡ n)
which_max m n = ⊎_elim (λ less. inr (omega arith)) (λ le. inl (omega arith)) (cases_lt m n)

among_greatest : (m : ℕ) (ms : List ℕ) → is_in (fold max m ms) (m ∷ ms) ≡ true
among_greatest m [] = or_left (eqb m m) false (eq-eqb m m refl)
among_greatest m (n ∷ ns) = by (first_or_rest (fold max (max m n) ns) (max m n) ns (among_greatest (max m n) ns))
  where
    k : ℕ
    k = fold max (max m n) ns

    one : (max m n ≡ m) ⊎ (max m n ≡ n) → k ≡ max m n → is_in k (m ∷ n ∷ ns) ≡ true
    one (inl first) is = or_left (eqb k m) _ (eq-eqb k m (is ∙ first))
    one (inr second) is = or_right (eqb k m) _ (or_left (eqb k n) _ (eq-eqb k n (is ∙ second)))

    by : (k ≡ max m n) ⊎ (is_in k ns ≡ true) → is_in k (m ∷ n ∷ ns) ≡ true
    by (inl is) = one (which_max m n) is
    by (inr among) = or_right (eqb k m) _ (or_right (eqb k n) _ among)

pub greatest_among : (ns : List ℕ) (k : ℕ) → greatest ns ≡ Some k → is_in k ns ≡ true
greatest_among [] k is = cc
greatest_among (m ∷ ms) k is = subst (λ j. is_in j (m ∷ ms) ≡ true) (inner is) (among_greatest m ms)
  where
    inner : {x y : ℕ} → Some x ≡ Some y → x ≡ y
    inner e = cc

greatest_is : (ns : List ℕ) (k : ℕ) → greatest ns ≡ Some k → IsGreatestOf k ns
greatest_is ns k is = record { among = greatest_among ns k is; bounds = λ j there. greatest_bounds ns k j is there }

-- ---- the least of some subchannels

filter_all : (xs : List SubId) → filter (λ x. true) xs ≡ xs
filter_all [] = refl
filter_all (x ∷ xs) = ap (λ ys. x ∷ ys) (filter_all xs)

-- of the subchannels that a change altered, one that is less than the first that isn't quiet is
-- quiet
least_of : (o : Option Change) (lives : Lives) (x y : SubId) → first_not_quiet lives (altered_if o) ≡ Some x
    → is_among y (altered_if o) ≡ true → sub_id_cmp y x ≡ Less
    → is_not_quiet (get lives y) ≡ false
least_of None lives x y found among less = cc
least_of (Some c) lives x y found among less =
    let es = entries (effect_of_change c).lives in
    let same = filter_all (map (λ e. e.0) es) in
    least_found sub_id_cmp sub_ids_total sub_ids_exact (λ z. true) (λ z. is_not_quiet (get lives z)) es
    (entries_sorted (effect_of_change c).lives) x y
    (ap (find (λ z. is_not_quiet (get lives z))) same ∙ found) (ap (is_among y) same ∙ among) less

-- ---- an undo

module _ (opening : State) (h : History) (n : ℕ) (e : Entry) where
  abbrev a : Account
  a = account opening h

  abbrev s : State
  s = state_at opening h

  abbrev Verdict : Type 0
  Verdict = (e.answer ≡ Undone n) ⊎ IsRefusedFor opening h n e

  by_stand : (o : Option Change) (k : ℕ) → change_at n a.entries ≡ o → greatest_on n o a.entries s ≡ Some k
      → e.answer ≡ unless_stood_on (Some k) (Undone n) → Verdict
  by_stand None k at is answer = cc
  by_stand (Some c) k at is answer =
      inr (stood_on k c at (greatest_is (standing_on n c a.entries (fits c s)) k is) answer)

  by_wait : (x : SubId) → not_quiet_of n s a ≡ Some x → e.answer ≡ unless_not_quiet (Some x) (Undone n) → Verdict
  by_wait x is answer =
      let found = found_passes sub_id_cmp sub_ids_total sub_ids_exact (λ y. is_not_quiet (get s.lives y))
      (altered_by_change n a.entries) x is in
      inr (waits x (record {
        altered = found.0;
        not_quiet = found.1;
        least = λ y among less. least_of (change_at n a.entries) s.lives x y is among less;
      }) answer)

  verdict : (g : Option Stage) (here : Bool) (on : Option ℕ) (quiet : Option SubId) → a.stage ≡ g
      → is_in n (journal_of h).standing ≡ here
      → stands_on n a.entries s ≡ on → not_quiet_of n s a ≡ quiet
      → e.answer ≡ (unless_staged g (undo n)
      (plain_entry (undo n) (cond here (unless_stood_on on (unless_not_quiet quiet (Undone n)))
      (answers.Refused (refusal_at J1 Nothing))))).answer → Verdict
  verdict (Some g) here on quiet stage there stands wait answer =
      inr (staged (λ none. let no : Some g ≡ None = sym stage ∙ none in cc) answer)
  verdict None false on quiet stage there stands wait answer = inr (not_standing there answer)
  verdict None true (Some k) quiet stage there stands wait answer =
      by_stand (change_at n a.entries) k refl stands answer
  verdict None true None (Some x) stage there stands wait answer = by_wait x wait answer
  verdict None true None None stage there stands wait answer = inl answer

  judged : IsRight opening h e → e.call ≡ undo n → Verdict
  judged (inl same) call =
      verdict a.stage (is_in n (journal_of h).standing) (stands_on n a.entries s) (not_quiet_of n s a) refl refl refl
      refl
      (ap (λ (z : Entry). z.answer) same ∙ ap (λ c. (entry_of opening h c).answer) call)
  judged (inr lack) call =
      let may = and_parts (is_none a.stage) (is_in n (journal_of h).standing)
      (sym (ap (may_lack_memory_after opening h) call) ∙ lack.0) in
      inr (lacks_memory (none_is a.stage may.0) may.1 (ap (λ (z : Entry). z.answer) lack.1))

pub undo_is_refused_only_for : UndoIsRefusedOnlyFor
undo_is_refused_only_for opening h n e used legal call = judged opening h n e legal.0 call
