-- Finite maps: values turned into others, keys taken out, and keys written one after the other.
use Rattle.std.proofs.Common.{◌≡◌, Bool, true, false, cond, ◌||◌, List, [], ◌∷◌, map, Option, Some, None, T, refl, sym}
use Rattle.std.proofs.Common.{ap, ◌∙◌}
use Rattle.std.specs.List.{fold, list_any, filter}
use Rattle.std.specs.Option.{option_map}
use Rattle.std.specs.Ordering.{eq_by_cmp, is_eq}
use Rattle.std.specs.declared.cmp.Ordering.{Ordering}
use Rattle.std.specs.Cmp.{IsTotalOrder}
use Rattle.std.specs.FinMap.{FinMap, IsAntisymmetric, find, is_sorted, get, entries, from_entries, remove}
use Rattle.std.specs.FinMap.{get-from_entries, get-entries, get-remove}
use Rattle.std.specs.FinMap.Entries.{below_all}
use Rattle.iocm_types.proofs.Found.{same_key}
use Rattle.iocm_types.proofs.Orderings.{less_is}
use Rattle.iocm_types.proofs.Tests.{first_holds, second_holds}
use Rattle.iocm_model.specs.Change.Maps.{with_value}
use Rattle.iocm_model.proofs.Maps.Cells.{get_with_value}

turned : {X Y : Type 0} (f : X → Y) (b : Bool) (x : X) (o : Option X)
    → cond b (Some (f x)) (option_map f o) ≡ option_map f (cond b (Some x) o)
turned f true x o = refl
turned f false x o = refl

module _ {K X Y : Type 0} (R : K → K → Ordering) (f : X → Y) where
  find_turned : (q : K) (es : List (K × X))
      → find R q (map (λ (e : K × X). (e.0, f e.1)) es) ≡ option_map f (find R q es)
  find_turned q [] = refl
  find_turned q (e ∷ es) =
      ap (cond (eq_by_cmp R q e.0) (Some (f e.1))) (find_turned q es) ∙ turned f (eq_by_cmp R q e.0) e.1 (find R q es)

  -- a map with each value turned into another
  pub get_turned : IsTotalOrder R → (m : FinMap R X) (q : K)
      → get (from_entries {R = R} (map (λ (e : K × X). (e.0, f e.1)) (entries m))) q ≡ option_map f (get m q)
  get_turned total m q = get-from_entries total (map (λ (e : K × X). (e.0, f e.1)) (entries m)) q
      ∙ find_turned q (entries m) ∙ ap (option_map f) (sym (get-entries m q))

-- no key stands twice
pub Apart : {K : Type 0} → (K → K → Ordering) → List K → Type 0
Apart R [] = Unit {0}
Apart R (k ∷ ks) = (list_any (eq_by_cmp R k) ks ≡ false) × Apart R ks

module _ {K : Type 0} (R : K → K → Ordering) where
  none_by : (k e : K) (b : Bool) (rest : List K) → eq_by_cmp R k e ≡ false → list_any (eq_by_cmp R k) rest ≡ false
      → list_any (eq_by_cmp R k) (cond b (e ∷ rest) rest) ≡ false
  none_by k e true rest other none = rw other none
  none_by k e false rest other none = none

  apart_by : (e : K) (b : Bool) (rest : List K) → list_any (eq_by_cmp R e) rest ≡ false → Apart R rest
      → Apart R (cond b (e ∷ rest) rest)
  unfolding Apart
  apart_by e true rest none apart = (none, apart)
  apart_by e false rest none apart = apart

module _ {K X : Type 0} (R : K → K → Ordering) (test : K → Bool) where
  -- a key below all entries isn't among their keys
  none_above : (k : K) (es : List (K × X)) → T (below_all R k es)
      → list_any (eq_by_cmp R k) (filter test (map (λ (e : K × X). e.0) es)) ≡ false
  none_above k [] below = refl
  none_above k (e ∷ es) below = none_by R k e.0 (test e.0) (filter test (map (λ (f : K × X). f.0) es))
      (ap is_eq (less_is (R k e.0) (first_holds _ _ below))) (none_above k es (second_holds _ _ below))

  -- of entries in order, no key that passes a test stands twice
  pub sorted_apart : (es : List (K × X)) → T (is_sorted R es) → Apart R (filter test (map (λ (e : K × X). e.0) es))
  unfolding Apart
  sorted_apart [] up = tt
  sorted_apart (e ∷ es) up =
      apart_by R e.0 (test e.0) (filter test (map (λ (f : K × X). f.0) es)) (none_above e.0 es (first_holds _ _ up))
      (sorted_apart es (second_holds _ _ up))

module _ {K X : Type 0} {R : K → K → Ordering} (total : IsTotalOrder R) (exact : IsAntisymmetric R) where
  gone_by : (b c : Bool) (o : Option X) → cond c None (cond b None o) ≡ cond (b || c) None o
  gone_by true true o = refl
  gone_by true false o = refl
  gone_by false c o = refl

  -- a map without some keys
  pub get_without : (m : FinMap R X) (ks : List K) (q : K)
      → get (fold remove m ks) q ≡ cond (list_any (eq_by_cmp R q) ks) None (get m q)
  get_without m [] q = refl
  get_without m (k ∷ ks) q =
      get_without (remove m k) ks q ∙ ap (cond (list_any (eq_by_cmp R q) ks) None) (get-remove total m k q)
      ∙ gone_by (eq_by_cmp R q k) (list_any (eq_by_cmp R q) ks) (get m q)

  -- keys that are written one after the other, each with a value that its own value before
  -- determines
  module _ (g : K → Option X → Option X) where
    written_by : (m : FinMap R X) (k q : K) (ks : List K) (b : Bool) → eq_by_cmp R q k ≡ b
        → list_any (eq_by_cmp R k) ks ≡ false
        → cond (list_any (eq_by_cmp R q) ks) (g q (cond b (g k (get m k)) (get m q))) (cond b (g k (get m k)) (get m q))
        ≡ cond (b || list_any (eq_by_cmp R q) ks) (g q (get m q)) (get m q)
    written_by m k q ks true tied none =
        let same : q ≡ k = same_key R exact q k tied in
        let later : list_any (eq_by_cmp R q) ks ≡ false = ap (λ z. list_any (eq_by_cmp R z) ks) same ∙ none in
        rw later (ap (λ z. g z (get m z)) (sym same))
    written_by m k q ks false other none = refl

    pub get_written : (m : FinMap R X) (ks : List K) → Apart R ks → (q : K)
        → get (fold (λ (n : FinMap R X) (k : K). with_value n k (g k (get n k))) m ks) q
        ≡ cond (list_any (eq_by_cmp R q) ks) (g q (get m q)) (get m q)
    unfolding Apart
    get_written m [] apart q = refl
    get_written m (k ∷ ks) apart q =
        get_written (with_value m k (g k (get m k))) ks apart.1 q
        ∙ ap (λ o. cond (list_any (eq_by_cmp R q) ks) (g q o) o) (get_with_value total exact m k (g k (get m k)) q)
        ∙ written_by m k q ks (eq_by_cmp R q k) refl apart.0
