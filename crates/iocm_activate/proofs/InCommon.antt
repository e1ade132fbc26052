-- Whether two maps have a key in common, asked from either side.
use Rattle.std.proofs.Common.{◌≡◌, Bool, true, false, ◌||◌, List, [], ◌∷◌, refl, sym, ap, ◌∙◌}
use Rattle.std.proofs.lemmas.Bool.{or_right}
use Rattle.std.specs.List.{list_any}
use Rattle.std.specs.Ordering.{eq_by_cmp}
use Rattle.std.specs.declared.cmp.Ordering.{Ordering}
use Rattle.std.specs.Cmp.{IsTotalOrder}
use Rattle.std.specs.FinMap.{FinMap, IsAntisymmetric, contains_key, contains_key-keys, keys}
use Rattle.iocm_types.proofs.Found.{same_key, ties_itself}

both : (a b : Bool) → (a ≡ true → b ≡ true) → (b ≡ true → a ≡ true) → a ≡ b
both true b there back = sym (there refl)
both false true there back = back refl
both false false there back = refl

module _ {K : Type 0} {R : K → K → Ordering} (total : IsTotalOrder R) (exact : IsAntisymmetric R) where
  -- what holds of a key holds of one of those among which it is
  holds_among : (p : K → Bool) (q : K) (ks : List K) → list_any (eq_by_cmp R q) ks ≡ true → p q ≡ true
      → list_any p ks ≡ true
  holds_among p q [] among holds = cc
  holds_among p q (k ∷ ks) among holds = by (eq_by_cmp R q k) refl among (λ later. holds_among p q ks later holds)
    where
      by : (b : Bool) → eq_by_cmp R q k ≡ b → (b || list_any (eq_by_cmp R q) ks) ≡ true
          → (list_any (eq_by_cmp R q) ks ≡ true → list_any p ks ≡ true) → (p k || list_any p ks) ≡ true
      by true tied here more = ap (λ b. b || list_any p ks) (ap p (sym (same_key R exact q k tied)) ∙ holds)
      by false other later more = or_right (p k) (list_any p ks) (more later)

  module _ {X Y : Type 0} (m : FinMap R X) (n : FinMap R Y) where
    from_keys : (ks : List K) → ((k : K) → list_any (eq_by_cmp R k) ks ≡ true → contains_key n k ≡ true)
        → list_any (contains_key m) ks ≡ true → list_any (contains_key n) (keys m) ≡ true
    from_keys [] inside some = cc
    from_keys (k ∷ ks) inside some = by (contains_key m k) refl some
        (from_keys ks (λ j among. inside j (or_right (eq_by_cmp R j k) (list_any (eq_by_cmp R j) ks) among)))
      where
        by : (b : Bool) → contains_key m k ≡ b → (b || list_any (contains_key m) ks) ≡ true
            → (list_any (contains_key m) ks ≡ true → list_any (contains_key n) (keys m) ≡ true)
            → list_any (contains_key n) (keys m) ≡ true
        by true is some more = holds_among (contains_key n) k (keys m) (sym (contains_key-keys m k) ∙ is)
            (inside k (ap (λ b. b || list_any (eq_by_cmp R k) ks) (ties_itself R total k)))
        by false is some more = more some

    from_other : list_any (contains_key m) (keys n) ≡ true → list_any (contains_key n) (keys m) ≡ true
    from_other = from_keys (keys n) (λ k among. contains_key-keys n k ∙ among)

  -- a map has one of another's keys where that has one of its own
  pub common_both : {X Y : Type 0} (m : FinMap R X) (n : FinMap R Y)
      → list_any (contains_key m) (keys n) ≡ list_any (contains_key n) (keys m)
  common_both m n = both _ _ (from_other m n) (from_other n m)
