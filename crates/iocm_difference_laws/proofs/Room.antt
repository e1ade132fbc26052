-- Where the limits are enough for both configurations, each device has room after the difference.
use Rattle.std.proofs.Common.{◌≡◌, ℕ, ◌<◌, ◌≤◌, nat_eq, nat_le, Bool, true, false, cond, List, [], ◌∷◌, ◌++◌, length}
use Rattle.std.proofs.Common.{Option, Some, None, is_some, refl, sym, ap, subst, ◌∙◌, arith}
use Rattle.std.specs.Prelude.{Err}
use Rattle.std.proofs.lemmas.Bool.Decides.{nat_tests}
use Rattle.std.proofs.lemmas.List.Elements.{All-nil, All-head, All-tail, All-append}
use Rattle.std.specs.List.{All, list_any}
use Rattle.std.specs.Option.{option_map_or}
use Rattle.std.specs.FinMap.{get}
use Rattle.iocm_types.specs.declared.key.Key.TheVariants.{Device}
use Rattle.iocm_types.specs.declared.place.Place.{Place}
use Rattle.iocm_types.specs.declared.refused.At.TheVariants.{Nothing}
use Rattle.iocm_types.specs.declared.rule.Rule.TheVariants.{C2}
use Rattle.iocm_model.specs.Machine.Record.{Rec, id, resource, image, limit, path, unit, device, online}
use Rattle.iocm_model.specs.Machine.Configuration.{Configuration, IsKeyed}
use Rattle.iocm_model.specs.Machine.Numbering.{Numbering, subsystems, is_reached_at}
use Rattle.iocm_model.specs.Operation.State.{State, opening_state}
use Rattle.iocm_model.specs.Rules.EachRule.{breaks_v13}
use Rattle.iocm_model.specs.Change.Edit.{Action, action_key, record_after, state_after}
use Rattle.iocm_model.specs.Change.Refusal.{refusal_at}
use Rattle.iocm_model.specs.Change.Runs.{state_after_all}
use Rattle.iocm_model.specs.Change.Tree.{most_leaves}
use Rattle.iocm_model.proofs.Change.RunsGoBack.{keyed_after}
use Rattle.iocm_tree.specs.Carried.{bare}
use Rattle.iocm_difference.specs.Difference.{in_pass, actions_between, difference}
use Rattle.iocm_difference.specs.Laws.{config_after_all}
use Rattle.iocm_difference.proofs.Between.{each_leaves}
use Rattle.iocm_difference_laws.specs.Opened.{edits_of, performed_between}
use Rattle.iocm_difference_laws.specs.Meaning.{first_over_limit, unless_over_limit}
use Rattle.iocm_difference_laws.specs.Room.{devices_in, limit_in, DifferenceHasRoom, RoomIsEnough}
use Rattle.iocm_difference_laws.proofs.Accepted.{Fits, actions_fit}
use Rattle.iocm_difference_laws.proofs.Devices.{in_devices, reached_place_in}
use Rattle.iocm_difference_laws.proofs.Least.{names_none_with_room}
use Rattle.iocm_difference_laws.proofs.LowNumbers.{AreBelow, stay_below, open_below}
use Rattle.iocm_difference_laws.proofs.Meaning.{reaches_the_new, difference_means, config_of_all, not_over}
use Rattle.iocm_difference_laws.proofs.TwoParts.{HasDevicesOf, StaysIn, one_more, all_in_pass, stays_before}
use Rattle.iocm_difference_laws.proofs.TwoParts.{stays_in_new, IsPut, last_puts, puts_keep, before_last, last}
use Rattle.iocm_difference_laws.proofs.TwoParts.{two_parts, all_before}

-- ---- numbers on the way

module _ (css set most : ℕ) (c : Configuration) (keyed : IsKeyed c) (few : length (devices_in c set) ≤ most) where
  -- the devices of a set that are reached are those of the configuration
  are_among : (e : Configuration) → IsKeyed e → HasDevicesOf e c → (p : Place) → p.css ≡ css → p.set ≡ set
      → is_reached_at e p ≡ true
      → list_any (nat_eq p.device) (devices_in c set) ≡ true
  are_among e keyed_e has p c_is s_is reach =
      ap (λ s. list_any (nat_eq p.device) (devices_in c s)) (sym s_is)
      ∙ sym (in_devices c keyed p.set p.device)
      ∙ has p.set p.device (in_devices e keyed_e p.set p.device ∙ reached_place_in e p reach)

  -- actions that put no other devices keep the numbers below the bound
  run_below : (actions : List Action) (s : State) → IsKeyed s.config → HasDevicesOf s.config c → All (StaysIn c) actions
      → AreBelow css set most s.numbers
      → AreBelow css set most (state_after_all (edits_of actions) s).numbers
  run_below [] s keyed_s has stay below = below
  run_below (a ∷ actions) s keyed_s has stay below =
      let t = state_after (bare a).edit s in
      let keyed_t : IsKeyed t.config = keyed_after a s.config keyed_s in
      let has_t : HasDevicesOf t.config c = one_more c s.config a (All-head (StaysIn c) a actions stay) has in
      run_below actions t keyed_t has_t (All-tail (StaysIn c) a actions stay)
      (stay_below css set t.config (devices_in c set) most few (are_among t.config keyed_t has_t) s.numbers below)

  -- so it is at opening
  opens_below : AreBelow css set most (opening_state c).numbers
  opens_below = open_below css set c (devices_in c set) most few (are_among c keyed (λ s x h. h)) keyed

run_keyed : (actions : List Action) (s : State) → IsKeyed s.config
    → IsKeyed (state_after_all (edits_of actions) s).config
run_keyed [] s keyed = keyed
run_keyed (a ∷ actions) s keyed = run_keyed actions (state_after (bare a).edit s) (keyed_after a s.config keyed)

-- ---- the difference

edits_both : (xs ys : List Action) (s : State)
    → state_after_all (edits_of (xs ++ ys)) s ≡ state_after_all (edits_of ys) (state_after_all (edits_of xs) s)
edits_both [] ys s = refl
edits_both (a ∷ xs) ys s = edits_both xs ys (state_after (bare a).edit s)

-- the numbers after the difference are below each bound that is enough for both
difference_below : (c d : Configuration) → IsKeyed c → IsKeyed d → (css set most : ℕ) → length (devices_in c set) ≤ most
    → length (devices_in d set) ≤ most
    → AreBelow css set most (performed_between c d).state.numbers
difference_below c d keyed_c keyed_d css set most few_c few_d =
    let all = actions_between c d in
    let xs = before_last all in
    let ys = last all in
    let s = opening_state c in
    let t = state_after_all (edits_of xs) s in
    let keyed_t : IsKeyed t.config = run_keyed xs s keyed_c in
    let first : AreBelow css set most t.numbers = run_below css set most c keyed_c few_c xs s keyed_c (λ z x h. h)
    (all_before (StaysIn c) all
    (λ pass other. all_in_pass (Fits c) (StaysIn c) pass (stays_before c pass other) all (actions_fit c d keyed_d)))
    (opens_below css set most c keyed_c few_c) in
    let whole : state_after_all (edits_of (difference c d)) s ≡ state_after_all (edits_of ys) t =
    ap (λ zs. state_after_all (edits_of zs) s) (two_parts c d) ∙ edits_both xs ys s in
    let puts : All IsPut ys =
    All-append IsPut (in_pass all 4) []
    (all_in_pass (Fits c) IsPut 4 (λ a is fit. last_puts a is) all (actions_fit c d keyed_d)) (All-nil IsPut) in
    let reached : config_after_all ys t.config ≡ d =
    sym (config_of_all ys t) ∙ sym (ap (λ (z : State). z.config) whole) ∙ reaches_the_new c d keyed_d in
    let has : HasDevicesOf t.config d =
    λ z x there. ap (λ (e : Configuration). is_some (get e (Device z x))) (sym reached)
    ∙ puts_keep ys t.config (Device z x) puts there in
    let stay : All (StaysIn d) ys = All-append (StaysIn d) (in_pass all 4) []
    (all_in_pass (λ a. record_after a ≡ get d (action_key a)) (StaysIn d) 4 (λ a is leaves. stays_in_new d a leaves) all
    (each_leaves c d keyed_d)) (All-nil (StaysIn d)) in
    subst (λ (z : State). AreBelow css set most z.numbers) (sym whole)
    (run_below css set most d keyed_d few_d ys t keyed_t has stay first)

-- ---- room

none_over : (most : ℕ) (o : Option ℕ) → ((k : ℕ) → o ≡ Some k → k < most) → option_map_or (nat_le most) o false ≡ false
none_over most None low = refl
none_over most (Some k) low = let less = low k refl in grind (arith, nat_tests)

none_any : (test : ℕ → Bool) → ((i : ℕ) → test i ≡ false) → (is : List ℕ) → list_any test is ≡ false
none_any test none [] = refl
none_any test none (i ∷ is) = rw (none i) (none_any test none is)

has_room_by : (d : Configuration) (n : Numbering) → ((css set : ℕ) → AreBelow css set (limit_in d css set) n)
    → (r : Rec) → breaks_v13 d n r ≡ false
has_room_by d n below (device x) = none_any
    (λ css. option_map_or (nat_le (limit_in d css x.set)) (get n (record { css = css; set = x.set; device = x.number }))
    false)
    (λ css. none_over (limit_in d css x.set) (get n (record { css = css; set = x.set; device = x.number }))
    (λ k has. below css x.set (record { css = css; set = x.set; device = x.number }) k refl refl has)) subsystems
has_room_by d n below (id x) = refl
has_room_by d n below (resource x) = refl
has_room_by d n below (image x) = refl
has_room_by d n below (limit x) = refl
has_room_by d n below (path x) = refl
has_room_by d n below (unit x) = refl
has_room_by d n below (online x) = refl

pub difference_has_room : DifferenceHasRoom
difference_has_room c d keyed_c keyed_d first second key r there = has_room_by d (performed_between c d).state.numbers
    (λ css set. difference_below c d keyed_c keyed_d css set (limit_in d css set) (first css set) (second css set)) r

pub room_is_enough : RoomIsEnough
room_is_enough c d t keyed_c keyed_d kept first second is few =
    let p = performed_between c d in
    let none : first_over_limit d p.state.numbers ≡ None =
    (names_none_with_room d p.state.numbers keyed_d).1 (difference_has_room c d keyed_c keyed_d first second) in
    difference_means c d t keyed_d kept is
    ∙ ap (λ b. cond b (Err (refusal_at C2 Nothing)) (unless_over_limit (first_over_limit d p.state.numbers) p))
    (not_over most_leaves (length (difference c d)) few)
    ∙ ap (λ o. unless_over_limit o p) none
