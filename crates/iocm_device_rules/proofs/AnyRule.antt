-- Devices that break one of some rules: where none does, none breaks either of them.
use Rattle.std.proofs.Common.{◌≡◌, ℕ, Bool, true, false, cond, is_none, unwrap_or, ◌||◌, Option, None, Some, List, []}
use Rattle.std.proofs.Common.{◌∷◌, refl, sym, ap, ◌∙◌}
use Rattle.std.proofs.lemmas.Bool.{false≢true}
use Rattle.std.specs.List.{list_any}
use Rattle.std.specs.Option.{option_map}
use Rattle.iocm_model.specs.Machine.Configuration.{Configuration, records_of}
use Rattle.iocm_model.specs.Machine.Record.{Rec, key_of}
use Rattle.iocm_model.specs.Rules.EachRule.{breaks_v8, breaks_v11, breaks_v12}
use Rattle.iocm_model.specs.Rules.FirstBreach.{first_record}
use Rattle.iocm_lookup.specs.First.{first_key}
use Rattle.iocm_device_rules.specs.WrongDevices.{breaks_any}

-- ---- devices that are like each other

none_listed : (is_so : List ℕ → Bool) (candidates : Option (List (List ℕ))) → is_none candidates ≡ true
    → list_any is_so (unwrap_or candidates []) ≡ false
none_listed is_so None is = refl
none_listed is_so (Some names) is = absurd (false≢true is)

-- ---- where none breaks any of the rules

module _ (p q : Rec → Bool) (less : (r : Rec) → q r ≡ false → p r ≡ false) where
  none_first : (rs : List Rec) → list_any q rs ≡ false → None ≡ option_map key_of (first_record p rs)
  unfolding first_record
  none_first [] none = refl
  none_first (r ∷ rs) none = by (q r) refl none (none_first rs)
    where
      by : (b : Bool) → q r ≡ b → (b || list_any q rs) ≡ false
          → (list_any q rs ≡ false → None ≡ option_map key_of (first_record p rs))
          → None ≡ option_map key_of (cond (p r) (Some r) (first_record p rs))
      by true is h more = absurd (false≢true (sym h))
      by false is h more = more h ∙ ap (λ b. option_map key_of (cond b (Some r) (first_record p rs))) (sym (less r is))

first_of_three : (a b c : Bool) → (a || (b || c)) ≡ false → a ≡ false
first_of_three true b c is = absurd (false≢true (sym is))
first_of_three false b c is = refl

second_of_three : (a b c : Bool) → (a || (b || c)) ≡ false → b ≡ false
second_of_three true b c is = absurd (false≢true (sym is))
second_of_three false true c is = absurd (false≢true (sym is))
second_of_three false false c is = refl

third_of_three : (a b c : Bool) → (a || (b || c)) ≡ false → c ≡ false
third_of_three true b c is = absurd (false≢true (sym is))
third_of_three false true c is = absurd (false≢true (sym is))
third_of_three false false c is = is

module _ (c : Configuration) (none : list_any (breaks_any c) (records_of c) ≡ false) where
  pub v8_is_kept : None ≡ first_key (breaks_v8 c) c
  v8_is_kept = none_first (breaks_v8 c) (breaks_any c)
      (λ r. first_of_three (breaks_v8 c r) (breaks_v11 c r) (breaks_v12 c r)) (records_of c) none

  pub v11_is_kept : None ≡ first_key (breaks_v11 c) c
  v11_is_kept = none_first (breaks_v11 c) (breaks_any c)
      (λ r. second_of_three (breaks_v8 c r) (breaks_v11 c r) (breaks_v12 c r)) (records_of c) none

  pub v12_is_kept : None ≡ first_key (breaks_v12 c) c
  v12_is_kept = none_first (breaks_v12 c) (breaks_any c)
      (λ r. third_of_three (breaks_v8 c r) (breaks_v11 c r) (breaks_v12 c r)) (records_of c) none
