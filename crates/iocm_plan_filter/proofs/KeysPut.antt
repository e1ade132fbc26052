-- Keys put with others, one item after the other: those of an item more, and at the end those of all.
use Rattle.std.proofs.Common.{◌≡◌, ℕ, ◌+◌, ◌<◌, ◌++◌, ◌||◌, Bool, false, List, drop, length, get_or, is_some}
use Rattle.std.proofs.Common.{sym, ap, ◌∙◌}
use Rattle.std.proofs.Math.Bool.{or-false, or_assoc}
use Rattle.std.proofs.lemmas.List.Folds.{list_any-append}
use Rattle.std.specs.FinMap.{empty, get-empty}
use Rattle.std.specs.List.{flat_map}
use Rattle.std.specs.Ordering.{eq_by_cmp}
use Rattle.iocm_types.proofs.Lists.{drop-item}
use Rattle.iocm_types.specs.Key.{key_cmp}
use Rattle.iocm_types.specs.declared.key.Key.{Key}
use Rattle.iocm_filter.specs.Sieves.{Keys, has_key}
use Rattle.iocm_plan_filter.specs.Connected.{is_among}

among-append : (k : Key) (ks ls : List Key) → is_among k (ks ++ ls) ≡ (is_among k ks || is_among k ls)
among-append k ks ls = list_any-append (eq_by_cmp key_cmp k) ks ls

module _ {A : Type 0} (f : A → List Key) (k : Key) (xs : List A) where
  -- has, had: whether the key is there after an item is put, and before
  pub one_more : (has had all : Bool) (i : ℕ) (x : A) → i < length xs → x ≡ get_or xs i x
      → has ≡ (had || is_among k (f x)) → (had || is_among k (flat_map f (drop i xs))) ≡ all
      → (has || is_among k (flat_map f (drop (i + 1) xs))) ≡ all
  one_more has had all i x within item put so_far =
      let rest = flat_map f (drop (i + 1) xs) in
      ap (λ b. b || is_among k rest) put
      ∙ or_assoc had (is_among k (f x)) (is_among k rest)
      ∙ ap (λ b. had || b) (sym (among-append k (f x) rest))
      ∙ ap (λ ys. had || is_among k (flat_map f ys)) (sym (drop-item xs i x within item))
      ∙ so_far

-- the same of keys themselves
module _ (k : Key) (ks : List Key) where
  pub one_key_more : (has had all : Bool) (i : ℕ) (x : Key) → i < length ks → x ≡ get_or ks i x
      → has ≡ (had || eq_by_cmp key_cmp k x) → (had || is_among k (drop i ks)) ≡ all
      → (has || is_among k (drop (i + 1) ks)) ≡ all
  one_key_more has had all i x within item put so_far =
      let rest = drop (i + 1) ks in
      ap (λ b. b || is_among k rest) put
      ∙ or_assoc had (eq_by_cmp key_cmp k x) (is_among k rest)
      ∙ ap (λ ys. had || is_among k ys) (sym (drop-item ks i x within item))
      ∙ so_far

-- at the end none is left
pub none_left : (has all : Bool) → (has || false) ≡ all → has ≡ all
none_left has all h = sym (or-false has) ∙ h

-- at first there is none
pub none_yet : (m : Keys) (k : Key) (all : Bool) → m ≡ empty → (has_key m k || all) ≡ all
none_yet m k all none = ap (λ (t : Keys). has_key t k || all) none
    ∙ ap (λ o. is_some o || all) (get-empty key_cmp k)
