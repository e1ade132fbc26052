-- The least subchannel of a change that isn't quiet, and the greatest of some numbers.
use Rattle.std.proofs.Common.{◌≡◌, ℕ, true, false, List, [], ◌∷◌, Option, Some, None, refl, ap, ◌∙◌, map, filter}
use Rattle.std.specs.List.{find}
use Rattle.std.specs.declared.cmp.Ordering.TheVariants.{Less}
use Rattle.std.specs.FinMap.{get, entries, entries_sorted}
use Rattle.iocm_types.specs.declared.sub_id.SubId.{SubId}
use Rattle.iocm_types.specs.SubId.{sub_id_cmp}
use Rattle.iocm_types.specs.KeyOrder.{sub_ids_total, sub_ids_exact}
use Rattle.iocm_model.specs.Operation.State.{Lives, State, is_among}
use Rattle.iocm_model.specs.Change.Refusal.{is_not_quiet, first_not_quiet}
use Rattle.iocm_model.proofs.Change.LeastNotQuiet.{found_passes, least_found}
use Rattle.iocm_history.specs.Entry.{History}
use Rattle.iocm_history.specs.Change.{Change, effect_of_change}
use Rattle.iocm_history.specs.MarkedEntry.{change_at, altered_if, altered_by_change}
use Rattle.iocm_history.specs.Account.{account, state_at}
use Rattle.iocm_history.specs.StandsOn.{greatest}
use Rattle.iocm_history.specs.Legal.{not_quiet_of}
use Rattle.iocm_history.specs.UndoLaws.{WaitsFor, IsGreatestOf}
use Rattle.iocm_history.proofs.Latest.{greatest_bounds}
use Rattle.iocm_history.proofs.Refusing.{greatest_among}

pub greatest_is : (ns : List ℕ) (k : ℕ) → greatest ns ≡ Some k → IsGreatestOf k ns
greatest_is ns k is = record { among = greatest_among ns k is; bounds = λ j there. greatest_bounds ns k j is there }

filter_all : (xs : List SubId) → filter (λ x. true) xs ≡ xs
filter_all [] = refl
filter_all (x ∷ xs) = ap (λ ys. x ∷ ys) (filter_all xs)

-- of the subchannels that a change altered, one that is less than the first that isn't quiet is
-- quiet
least_of : (o : Option Change) (lives : Lives) (x y : SubId) → first_not_quiet lives (altered_if o) ≡ Some x
    → is_among y (altered_if o) ≡ true → sub_id_cmp y x ≡ Less
    → is_not_quiet (get lives y) ≡ false
least_of None lives x y found among less = cc
least_of (Some c) lives x y found among less =
    let es = entries (effect_of_change c).lives in
    let same = filter_all (map (λ e. e.0) es) in
    least_found sub_id_cmp sub_ids_total sub_ids_exact (λ z. true) (λ z. is_not_quiet (get lives z)) es
    (entries_sorted (effect_of_change c).lives) x y
    (ap (find (λ z. is_not_quiet (get lives z))) same ∙ found) (ap (is_among y) same ∙ among) less

-- the subchannel for which an undo or a redo has to wait
pub waits_for : (opening : State) (h : History) (n : ℕ) (x : SubId)
    → not_quiet_of n (state_at opening h) (account opening h) ≡ Some x → WaitsFor opening h n x
waits_for opening h n x is =
    let lives = (state_at opening h).lives in let ls = (account opening h).entries in
    let found = found_passes sub_id_cmp sub_ids_total sub_ids_exact (λ y. is_not_quiet (get lives y))
    (altered_by_change n ls) x is in
    record {
      altered = found.0;
      not_quiet = found.1;
      least = λ y among less. least_of (change_at n ls) lives x y is among less;
    }
