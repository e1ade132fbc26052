-- Where no record at some keys breaks one of some rules, and none at another key can break one of
-- them, none breaks this one.
use Rattle.std.proofs.Common.{◌≡◌, Bool, true, false, cond, ◌||◌, Option, None, Some, List, [], ◌∷◌, refl, sym, ap, ◌∙◌}
use Rattle.std.proofs.lemmas.Bool.{false≢true}
use Rattle.std.specs.List.{list_any}
use Rattle.std.specs.Option.{option_map_or}
use Rattle.iocm_types.specs.declared.key.Key.{Key}
use Rattle.iocm_model.specs.Machine.Configuration.{Configuration, IsKeyed, lookup_of}
use Rattle.iocm_model.specs.Machine.Numbering.{Numbering}
use Rattle.iocm_model.specs.Machine.Record.{Rec}
use Rattle.iocm_model.specs.Rules.EachRule.{breaks_v8, breaks_v9, breaks_v11, breaks_v12, breaks_v13}
use Rattle.iocm_lookup.specs.Among.{least_of, lesser, is_so_at, key_if, IsOnlyAt}
use Rattle.iocm_lookup.specs.First.{first_key}
use Rattle.iocm_lookup.proofs.LeastAmong.{least_wanted_is_first}
use Rattle.iocm_device_rules.specs.WrongDevices.{breaks_by_itself}

module _ (c : Configuration) (p q : Rec → Bool) (less : (r : Rec) → q r ≡ false → p r ≡ false) where
  not_there : (o : Option Rec) → option_map_or q o false ≡ false → option_map_or p o false ≡ false
  not_there None h = refl
  not_there (Some r) h = less r h

  none_given : (keys : List Key) → list_any (is_so_at q (lookup_of c)) keys ≡ false
      → None ≡ least_of (key_if p (lookup_of c)) None keys
  none_given [] none = refl
  none_given (k ∷ keys) none = by (is_so_at q (lookup_of c) k) refl none (none_given keys)
    where
      by : (b : Bool) → is_so_at q (lookup_of c) k ≡ b → (b || list_any (is_so_at q (lookup_of c)) keys) ≡ false
          → (list_any (is_so_at q (lookup_of c)) keys ≡ false → None ≡ least_of (key_if p (lookup_of c)) None keys)
          → None ≡ least_of (key_if p (lookup_of c)) (lesser None (key_if p (lookup_of c) k)) keys
      by true is h more = absurd (false≢true (sym h))
      by false is h more = more h
          ∙ ap (λ b. least_of (key_if p (lookup_of c)) (lesser None (cond b (Some k) None)) keys)
          (sym (not_there (lookup_of c k) is))

  none_first : IsKeyed c → (keys : List Key) → IsOnlyAt keys c p → list_any (is_so_at q (lookup_of c)) keys ≡ false
      → None ≡ first_key p c
  none_first keyed keys only none = none_given keys none ∙ least_wanted_is_first c p keyed keys only

-- ---- of five tests none passes

first_fails : (a b : Bool) → (a || b) ≡ false → a ≡ false
first_fails true b h = absurd (false≢true (sym h))
first_fails false b h = refl

rest_fails : (a b : Bool) → (a || b) ≡ false → b ≡ false
rest_fails true b h = absurd (false≢true (sym h))
rest_fails false b h = h

module _ (c : Configuration) (n : Numbering) (keyed : IsKeyed c) (keys : List Key)
    (none : list_any (is_so_at (breaks_by_itself c n) (lookup_of c)) keys ≡ false) where
  pub v8_is_kept : IsOnlyAt keys c (breaks_v8 c) → None ≡ first_key (breaks_v8 c) c
  v8_is_kept only = none_first c (breaks_v8 c) (breaks_by_itself c n) (λ r h. first_fails _ _ h) keyed keys only none

  pub v9_is_kept : IsOnlyAt keys c (breaks_v9 c) → None ≡ first_key (breaks_v9 c) c
  v9_is_kept only = none_first c (breaks_v9 c) (breaks_by_itself c n)
      (λ r h. first_fails _ _ (rest_fails (breaks_v8 c r) _ h)) keyed keys only none

  pub v11_is_kept : IsOnlyAt keys c (breaks_v11 c) → None ≡ first_key (breaks_v11 c) c
  v11_is_kept only = none_first c (breaks_v11 c) (breaks_by_itself c n)
      (λ r h. first_fails _ _ (rest_fails (breaks_v9 c r) _ (rest_fails (breaks_v8 c r) _ h))) keyed keys only none

  pub v12_is_kept : IsOnlyAt keys c (breaks_v12 c) → None ≡ first_key (breaks_v12 c) c
  v12_is_kept only = none_first c (breaks_v12 c) (breaks_by_itself c n)
      (λ r h. first_fails _ _ (rest_fails (breaks_v11 c r) _
      (rest_fails (breaks_v9 c r) _ (rest_fails (breaks_v8 c r) _ h)))) keyed keys only none

  pub v13_is_kept : IsOnlyAt keys c (breaks_v13 c n) → None ≡ first_key (breaks_v13 c n) c
  v13_is_kept only = none_first c (breaks_v13 c n) (breaks_by_itself c n)
      (λ r h. rest_fails (breaks_v12 c r) _
      (rest_fails (breaks_v11 c r) _ (rest_fails (breaks_v9 c r) _ (rest_fails (breaks_v8 c r) _ h)))) keyed keys
      only none
