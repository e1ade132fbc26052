-- The difference in two parts: before the last pass no device comes, and in the last one none goes.
use Rattle.std.proofs.Common.{◌≡◌, ℕ, nat_eq, eqb-true, Bool, true, false, cond, List, [], ◌∷◌, ◌++◌, Option, None}
use Rattle.std.proofs.Common.{is_some, refl, sym, ap, ◌∙◌, append_assoc}
use Rattle.std.proofs.lemmas.List.Elements.{All-nil, All-cons, All-head, All-tail, All-append}
use Rattle.std.specs.List.{All}
use Rattle.std.specs.Ordering.{eq_by_cmp}
use Rattle.std.specs.FinMap.{get, contains_key}
use Rattle.iocm_types.specs.declared.key.Key.{Key}
use Rattle.iocm_types.specs.declared.key.Key.TheVariants.{Device}
use Rattle.iocm_types.specs.Key.{key_cmp}
use Rattle.iocm_types.specs.KeyOrder.{keys_total, keys_exact}
use Rattle.iocm_types.proofs.Found.{same_key}
use Rattle.iocm_model.specs.Machine.Record.{Rec, key_of}
use Rattle.iocm_model.specs.Machine.Configuration.{Configuration}
use Rattle.iocm_model.specs.Change.Edit.{Action, add, delete, modify, action_key, record_after, config_after}
use Rattle.iocm_model.specs.Change.Refusal.{refusal_by_key}
use Rattle.iocm_model.proofs.Maps.Cells.{get_with_value}
use Rattle.iocm_difference.specs.Difference.{is_end, pass_of, in_pass, actions_between, difference}
use Rattle.iocm_difference.specs.Laws.{config_after_all}
use Rattle.iocm_difference_laws.proofs.Accepted.{Fits}

-- ---- devices of a configuration on the way

-- each device of one configuration is one of another
abbrev pub HasDevicesOf : Configuration → Configuration → Type 0
HasDevicesOf e c = (set x : ℕ) → is_some (get e (Device set x)) ≡ true → is_some (get c (Device set x)) ≡ true

-- an action puts no device that a configuration hasn't
abbrev pub StaysIn : Configuration → Action → Type 0
StaysIn c a = (set x : ℕ) → action_key a ≡ Device set x → is_some (record_after a) ≡ true
    → is_some (get c (Device set x)) ≡ true

one_more_by : (b : Bool) (o p : Option Rec) (there : Bool) → is_some (cond b o p) ≡ true
    → (b ≡ true → is_some o ≡ true → there ≡ true) → (is_some p ≡ true → there ≡ true)
    → there ≡ true
one_more_by true o p there h first rest = first refl h
one_more_by false o p there h first rest = rest h

pub one_more : (c e : Configuration) (a : Action) → StaysIn c a → HasDevicesOf e c → HasDevicesOf (config_after a e) c
one_more c e a stays has set x h =
    one_more_by (eq_by_cmp key_cmp (Device set x) (action_key a)) (record_after a) (get e (Device set x))
    (is_some (get c (Device set x)))
    (sym (ap is_some (get_with_value keys_total keys_exact e (action_key a) (record_after a) (Device set x))) ∙ h)
    (λ t there. stays set x (sym (same_key key_cmp keys_exact (Device set x) (action_key a) t)) there) (has set x)

-- ---- the passes

in_pass_by : (P Q : Action → Type 0) (a : Action) (b : Bool) (rest : List Action) → P a → (b ≡ true → P a → Q a)
    → All Q rest → All Q (cond b (a ∷ rest) rest)
in_pass_by P Q a true rest holds on all = All-cons Q a rest (on refl holds) all
in_pass_by P Q a false rest holds on all = all

-- what holds of the actions of a pass
pub all_in_pass : (P Q : Action → Type 0) (pass : ℕ) → ((a : Action) → pass_of a ≡ pass → P a → Q a)
    → (actions : List Action) → All P actions → All Q (in_pass actions pass)
all_in_pass P Q pass on [] all = All-nil Q
all_in_pass P Q pass on (a ∷ actions) all = in_pass_by P Q a (nat_eq (pass_of a) pass) (in_pass actions pass)
    (All-head P a actions all)
    (λ is holds. on a (eqb-true (pass_of a) pass is) holds) (all_in_pass P Q pass on actions (All-tail P a actions all))

there_by : (c : Configuration) (r : Rec) (b : Bool) → contains_key c (key_of r) ≡ b → refusal_by_key (modify r) b ≡ None
    → contains_key c (key_of r) ≡ true
there_by c r true there fit = there
there_by c r false there fit = cc

last_of : (b : Bool) (pass : ℕ) → b ≡ true → (pass ≡ 4 → ⊥) → cond b 4 1 ≡ pass → ⊥
last_of true pass is other same = other (sym same)
last_of false pass is other same = cc

-- before the last pass no device comes that wasn't there
pub stays_before : (c : Configuration) (pass : ℕ) → (pass ≡ 4 → ⊥) → (a : Action) → pass_of a ≡ pass → Fits c a
    → StaysIn c a
stays_before c pass other (delete k) is fit set x own there = cc
stays_before c pass other (modify r) is fit set x own there =
    ap (λ k. contains_key c k) (sym own) ∙ there_by c r (contains_key c (key_of r)) refl fit
stays_before c pass other (add r) is fit set x own there =
    absurd (last_of (is_end (key_of r)) pass (ap is_end own) other is)

-- all that comes is there in the new configuration
pub stays_in_new : (d : Configuration) (a : Action) → record_after a ≡ get d (action_key a) → StaysIn d a
stays_in_new d a leaves set x own there = ap (λ k. is_some (get d k)) (sym own) ∙ sym (ap is_some leaves) ∙ there

-- an action of the last pass adds
abbrev pub IsPut : Action → Type 0
IsPut a = is_some (record_after a) ≡ true

gone_not_last : (b : Bool) → ◌≡◌ {A = ℕ} (cond b 0 3) 4 → ⊥
gone_not_last true h = cc
gone_not_last false h = cc

pub last_puts : (a : Action) → pass_of a ≡ 4 → IsPut a
last_puts (add r) is = refl
last_puts (modify r) is = refl
last_puts (delete k) is = absurd (gone_not_last (is_end k) is)

still_by : (b : Bool) (o p : Option Rec) → is_some o ≡ true → is_some p ≡ true → is_some (cond b o p) ≡ true
still_by true o p first second = first
still_by false o p first second = second

-- what is there stays there while records are put
pub puts_keep : (actions : List Action) (c : Configuration) (q : Key) → All IsPut actions → is_some (get c q) ≡ true
    → is_some (get (config_after_all actions c) q) ≡ true
puts_keep [] c q puts there = there
puts_keep (a ∷ actions) c q puts there = puts_keep actions (config_after a c) q (All-tail IsPut a actions puts)
    (ap is_some (get_with_value keys_total keys_exact c (action_key a) (record_after a) q)
    ∙ still_by (eq_by_cmp key_cmp q (action_key a)) (record_after a) (get c q) (All-head IsPut a actions puts) there)

-- ---- the difference in two parts

-- the passes before the last one, and the last one
unfoldable pub before_last : List Action → List Action
before_last actions = in_pass actions 0 ++ (in_pass actions 1 ++ (in_pass actions 2 ++ in_pass actions 3))

abbrev pub last : List Action → List Action
last actions = in_pass actions 4 ++ []

pub two_parts : (c d : Configuration) → difference c d ≡ before_last (actions_between c d) ++ last (actions_between c d)
unfolding before_last
two_parts c d = let all = actions_between c d in
    sym (append_assoc (in_pass all 0) (in_pass all 1 ++ (in_pass all 2 ++ in_pass all 3)) (last all)
    ∙ ap (λ xs. in_pass all 0 ++ xs) (append_assoc (in_pass all 1) (in_pass all 2 ++ in_pass all 3) (last all)
    ∙ ap (λ xs. in_pass all 1 ++ xs) (append_assoc (in_pass all 2) (in_pass all 3) (last all))))

pub all_before : (Q : Action → Type 0) (actions : List Action)
    → ((pass : ℕ) → (pass ≡ 4 → ⊥) → All Q (in_pass actions pass)) → All Q (before_last actions)
unfolding before_last
all_before Q actions each =
    All-append Q (in_pass actions 0) (in_pass actions 1 ++ (in_pass actions 2 ++ in_pass actions 3)) (each 0 (λ h. cc))
    (All-append Q (in_pass actions 1) (in_pass actions 2 ++ in_pass actions 3) (each 1 (λ h. cc))
    (All-append Q (in_pass actions 2) (in_pass actions 3) (each 2 (λ h. cc)) (each 3 (λ h. cc))))
