-- A change fits a state that has the configuration and the numbers that it left.
use Rattle.std.proofs.Common.{◌≡◌, ℕ, Bool, true, false, cond, not, ◌&&◌, nat_eq, eq-eqb, eqb-true, List, [], ◌∷◌, ◌++◌}
use Rattle.std.proofs.Common.{Option, Some, None, is_some, refl, sym, ap, ◌∙◌}
use Rattle.std.proofs.lemmas.Bool.{and_from, or_from}
use Rattle.std.specs.List.{list_all}
use Rattle.std.specs.Option.{option_eq, option_and_then}
use Rattle.std.specs.declared.cmp.Ordering.{Ordering}
use Rattle.std.specs.FinMap.{FinMap, get, keys, contains_key}
use Rattle.iocm_model.specs.Machine.Numbering.{cells_of}
use Rattle.iocm_model.specs.Rules.FirstBreach.{first_breach}
use Rattle.iocm_model.specs.Operation.State.{State, views_of, views_in, IsSound, HasConfigAndNumbersOf}
use Rattle.iocm_model.specs.Change.Edit.{Edit, action_key, record_after, config_after, same_view, state_after}
use Rattle.iocm_model.specs.Change.Edit.{altered_by}
use Rattle.iocm_model.specs.Change.Inverse.{inverse_of}
use Rattle.iocm_model.specs.Change.Refusal.{refusal_by_key, is_number_taken}
use Rattle.iocm_model.specs.Change.Runs.{state_after_all, AreAccepted}
use Rattle.iocm_model.proofs.Numbers.Freed.{freed_are_not_taken}
use Rattle.iocm_model.proofs.Change.SameViews.{own_sight, sight_turned}
use Rattle.iocm_model.proofs.Change.EditsGoBack.{given, back_key, config_back, lived_after}
use Rattle.iocm_model.proofs.Change.RunsGoBack.{no_key_refusal, no_number_taken, sound_after, one_back, back_passes}
use Rattle.iocm_model.proofs.Change.RunsGoBack.{key_there}
use Rattle.iocm_model.proofs.Machine.OwnKeys.{keyed_own}
use Rattle.iocm_history.specs.Change.{Change}
use Rattle.iocm_history.specs.Fits.{goes_back_at, goes_back, is_barred, goes_back_in, state_before, state_before_all}
use Rattle.iocm_history.specs.Fits.{keeps_the_rules, fits}
use Rattle.iocm_history.proofs.WasMade.{WasMade}

-- ---- cells that are turned round

all_of : {A : Type 0} (test : A → Bool) (xs : List A) → ((x : A) → test x ≡ true) → list_all test xs ≡ true
all_of test [] all = refl
all_of test (x ∷ xs) all = and_from _ _ (all x) (all_of test xs all)

module _ {X : Type 0} (same : X → X → Bool) (itself : (a : Option X) → option_eq same a a ≡ true)
    (turned : (a b : Option X) → option_eq same a b ≡ option_eq same b a) where
  turned_by : (b : Bool) (old new : Option X) → option_eq same old new ≡ b
      → cond b (option_eq same new old) (option_eq same new new && option_eq same old old) ≡ true
  turned_by true old new is = turned new old ∙ is
  turned_by false old new is = and_from _ _ (itself new) (itself old)

  -- from the value after to the value before is back
  pub turned_at : (old new : Option X) → goes_back_at same old new new old ≡ true
  turned_at old new = turned_by (option_eq same old new) old new refl

module _ {K X : Type 0} {R : K → K → Ordering} (same : X → X → Bool)
    (itself : (a : Option X) → option_eq same a a ≡ true)
    (turned : (a b : Option X) → option_eq same a b ≡ option_eq same b a) where
  -- and so for whole maps
  pub turned_maps : (old new : FinMap R X) → goes_back same old new new old ≡ true
  turned_maps old new =
      all_of (λ key. goes_back_at same (get old key) (get new key) (get new key) (get old key))
      (keys old ++ (keys new ++ (keys new ++ keys old)))
      (λ key. turned_at same itself turned (get old key) (get new key))

device_itself : (a : Option ℕ) → option_eq nat_eq a a ≡ true
device_itself None = refl
device_itself (Some x) = eq-eqb x x refl

device_turned : (a b : Option ℕ) → option_eq nat_eq a b ≡ option_eq nat_eq b a
device_turned None None = refl
device_turned None (Some y) = refl
device_turned (Some x) None = refl
device_turned (Some x) (Some y) = nat_turned x y
  where
    by : (p q : Bool) → (p ≡ true → q ≡ true) → (q ≡ true → p ≡ true) → p ≡ q
    by true true f g = refl
    by true false f g = sym (f refl)
    by false true f g = g refl
    by false false f g = refl

    nat_turned : (x y : ℕ) → nat_eq x y ≡ nat_eq y x
    nat_turned x y = by (nat_eq x y) (nat_eq y x) (λ h. eq-eqb y x (sym (eqb-true x y h)))
        (λ h. eq-eqb x y (sym (eqb-true y x h)))

-- ---- one edit

module _ (e : Edit) (s w : State) (sound : IsSound s)
    (fine : refusal_by_key e.action (contains_key s.config (action_key e.action)) ≡ None)
    (like : HasConfigAndNumbersOf w (state_after e s)) where
  abbrev t : State
  t = state_after e s

  abbrev v : State
  v = state_after (inverse_of e s) w

  v_is : v ≡ given s s.lives (altered_by e s) w
  v_is = one_back e s w sound like

  not_by_key : refusal_by_key (inverse_of e s).action (contains_key w.config (action_key (inverse_of e s).action))
      ≡ None
  not_by_key =
      let a = (inverse_of e s).action in let k = action_key e.action in
      (λ i. refusal_by_key a (contains_key (like.config i)
      (back_key k (get s.config k) (record_after e.action) (keyed_own s.config sound.keyed k) i)))
      ∙ ap (λ o. refusal_by_key a (is_some o)) (key_there e.action s.config)
      ∙ back_passes k (get s.config k) e.action fine

  not_by_number : is_number_taken (config_after (inverse_of e s).action w.config) w.numbers (inverse_of e s).places
      ≡ false
  not_by_number =
      let config : config_after (inverse_of e s).action w.config ≡ s.config =
      ap (config_after (inverse_of e s).action) like.config ∙ config_back e.action s.config sound.keyed in
      (λ i. is_number_taken (config i) (like.numbers i) (inverse_of e s).places)
      ∙ freed_are_not_taken s.config t.config e.places s.numbers sound.numbered

  not_barred : is_barred (inverse_of e s) w ≡ false
  not_barred = or_from _ _ (ap is_some not_by_key) not_by_number

  numbers_turned : goes_back nat_eq (cells_of s.numbers) (cells_of t.numbers) (cells_of w.numbers) (cells_of v.numbers)
      ≡ true
  numbers_turned =
      (λ i. goes_back nat_eq (cells_of s.numbers) (cells_of t.numbers) (cells_of (like.numbers i))
      (cells_of (v_is i).numbers))
      ∙ turned_maps nat_eq device_itself device_turned (cells_of s.numbers) (cells_of t.numbers)

  views_turned : goes_back same_view (views_in s) (views_in t) (views_in w) (views_in v) ≡ true
  views_turned =
      (λ i. goes_back same_view (views_in s) (views_in t) (views_of (like.config i) (like.numbers i))
      (views_in (v_is i)))
      ∙ turned_maps same_view own_sight sight_turned (views_in s) (views_in t)

  -- where the configuration and the numbers are those after an edit, it goes back
  pub goes_back_as_made : goes_back_in e s w ≡ true
  goes_back_as_made = and_from _ _ (and_from _ _ (ap not not_barred) numbers_turned) views_turned

  pub like_before : HasConfigAndNumbersOf v s
  like_before = record {
    config = ap (λ (z : State). z.config) v_is;
    numbers = ap (λ (z : State). z.numbers) v_is;
    lived = lived_after (inverse_of e s) w like.lived;
  }

-- ---- all edits

-- the state before edits, with the configuration and the numbers that it had
pub record IsBefore (es : List Edit) (s u : State) : Type 0 where
  pub state : State
  pub is : state_before_all es s u ≡ Some state
  pub like : HasConfigAndNumbersOf state s

pub all_before : (es : List Edit) (s u : State) → IsSound s → AreAccepted es s
    → HasConfigAndNumbersOf u (state_after_all es s) → IsBefore es s u
all_before [] s u sound accepted like = record { state = u; is = refl; like = like }
all_before (e ∷ es) s u sound accepted like =
    let later = all_before es (state_after e s) u (sound_after e s sound (no_number_taken e s accepted.0)) accepted.1
    like in
    let fine = no_key_refusal e s accepted.0 in
    let back = goes_back_as_made e s later.state sound fine later.like in
    record {
      state = state_after (inverse_of e s) later.state;
      is = ap (option_and_then (state_before e s)) later.is
          ∙ ap (λ b. cond b (Some (state_after (inverse_of e s) later.state)) None) back;
      like = like_before e s later.state sound fine later.like;
    }

-- a change fits a state that has the configuration and the numbers that it left
pub fits_as_made : (c : Change) (u : State) → WasMade c → HasConfigAndNumbersOf u (state_after_all c.edits c.from)
    → fits c u ≡ true
fits_as_made c u was like =
    let before = all_before c.edits c.from u was.used.sound was.accepted like in
    ap keeps_the_rules before.is
    ∙ ap (λ o. not (is_some o)) ((λ i. first_breach (before.like.config i) (before.like.numbers i)) ∙ was.used.rules)
