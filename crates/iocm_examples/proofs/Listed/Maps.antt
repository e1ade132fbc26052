-- Finite maps seen as lists of entries in the order of their keys: what each operation does to the
-- list.
use Rattle.std.proofs.Common.{◌≡◌, List, T, sym, ap, ◌∙◌, Bool, true, false, cond, not, Option, None, Some, [], ◌∷◌}
use Rattle.std.proofs.Common.{◌++◌, map, filter, refl}
use Rattle.std.specs.declared.cmp.Ordering.{Ordering}
use Rattle.std.specs.Cmp.{IsTotalOrder, eq_by_cmp_equiv}
use Rattle.std.specs.FinMap.{IsAntisymmetric, is_sorted, entries, from_entries, same_map, get-from_entries}
use Rattle.std.specs.FinMap.{get-from_sorted, entries-from_sorted, FinMap, find, put, entries_sorted, get, remove}
use Rattle.std.specs.FinMap.{retain_keys, empty, get-entries, get-empty, get-remove, get-retain_keys, entries-insert}
use Rattle.std.specs.List.{fold}
use Rattle.std.specs.Option.{option_eq}
use Rattle.std.specs.Ordering.{eq_by_cmp}
use Rattle.std.specs.declared.cmp.Ordering.TheVariants.{Equal}
use Rattle.std.specs.FinMap.Entries.{where_key, is_sorted-where_key, find-where_key, same_entries}
use Rattle.iocm_model.specs.Change.Maps.{with_value, with_cells, cells_at, differing}

-- the entries of a map that is made of a list in order are that list
pub entries_in_order : {K X : Type 0} (R : K → K → Ordering) → IsTotalOrder R → IsAntisymmetric R → (es : List (K × X))
    → T (is_sorted R es)
    → entries (from_entries {R = R} es) ≡ es
entries_in_order R total exact es sorted =
    ap entries (same_map total exact _ _ (λ q. get-from_entries total es q ∙ sym (get-from_sorted R es q sorted)))
    ∙ entries-from_sorted R es sorted

-- a function of the first items of a fold is the fold of its steps
pub fold_seen : {A B X : Type 0} (see : A → B) (f : A → X → A) (g : B → X → B)
    → ((a : A) (x : X) → see (f a x) ≡ g (see a) x)
    → (a : A) (xs : List X) → see (fold f a xs) ≡ fold g (see a) xs
fold_seen see f g step a [] = refl
fold_seen see f g step a (x ∷ xs) = fold_seen see f g step (f a x) xs ∙ ap (λ b. fold g b xs) (step a x)

-- a function of one of two is one of its two values
pub cond_seen : {A B : Type 0} (see : A → B) (b : Bool) (x y : A) → see (cond b x y) ≡ cond b (see x) (see y)
cond_seen see true x y = refl
cond_seen see false x y = refl

-- the two values of a test that is negated change places
turned : {A : Type 0} (b : Bool) (x y : A) → cond b x y ≡ cond (not b) y x
turned true x y = refl
turned false x y = refl

module _ {K X : Type 0} (R : K → K → Ordering) where
  -- the entries of the map that is made of a list
  abbrev pub put_all : List (K × X) → List (K × X)
  put_all [] = []
  put_all (e ∷ es) = put R e.0 e.1 (put_all es)

  -- the entries without a key
  abbrev pub without : K → List (K × X) → List (K × X)
  without key es = where_key R (λ x. not (eq_by_cmp R key x)) es

  -- the entries with this at a key: a value, or none
  abbrev pub put_or_without : K → Option X → List (K × X) → List (K × X)
  put_or_without key (Some x) es = put R key x es
  put_or_without key None es = without key es

  -- the entries with these cells overwritten
  abbrev pub put_cells : List (K × Option X) → List (K × X) → List (K × X)
  put_cells [] es = es
  put_cells (w ∷ ws) es = put_or_without w.0 w.1 (put_cells ws es)

  -- what a list has at these keys, absent included
  abbrev pub cells_found : List (K × X) → List K → List (K × Option X)
  cells_found es [] = []
  cells_found es (key ∷ ks) = put R key (find R key es) (cells_found es ks)

  -- the keys at which two lists differ
  abbrev pub keys_differing : (X → X → Bool) → List (K × X) → List (K × X) → List K
  keys_differing same es fs =
      filter (λ key. not (option_eq same (find R key es) (find R key fs))) (map (λ e. e.0) (put_all (es ++ fs)))

module _ {K X : Type 0} {R : K → K → Ordering} (total : IsTotalOrder R) (exact : IsAntisymmetric R) where
  -- a list in order that answers as a map does has its entries
  pub entries_found : (m : FinMap R X) (es : List (K × X)) → T (is_sorted R es) → ((q : K) → get m q ≡ find R q es)
      → entries m ≡ es
  entries_found m es sorted found =
      same_entries R total exact (entries m) es (entries_sorted m) sorted (λ q. sym (get-entries m q) ∙ found q)

  -- two maps with the same entries are one
  pub same_by_entries : (m n : FinMap R X) → entries m ≡ entries n → m ≡ n
  same_by_entries m n is = same_map total exact m n (λ q. get-entries m q ∙ ap (find R q) is ∙ sym (get-entries n q))

  -- the empty map has no entries
  pub entries-empty : entries (empty {X = X} {R = R}) ≡ []
  entries-empty = entries_found empty [] tt (get-empty R)

  -- the entries of a map that is made of a list
  pub entries-from_entries : (es : List (K × X)) → entries (from_entries {R = R} es) ≡ put_all R es
  entries-from_entries [] = entries-empty
  entries-from_entries (e ∷ es) =
      entries-insert total (from_entries es) e.0 e.1 ∙ ap (put R e.0 e.1) (entries-from_entries es)

  -- the entries of a map whose keys pass a test
  pub entries-retain_keys : (m : FinMap R X) (p : K → Bool) → entries (retain_keys m p) ≡ where_key R p (entries m)
  entries-retain_keys m p = entries_found (retain_keys m p) (where_key R p (entries m))
      (is_sorted-where_key R p (entries m) (entries_sorted m))
      (λ q. get-retain_keys m p q (alike q) ∙ ap (λ o. cond (p q) o None) (get-entries m q)
      ∙ sym (find-where_key R p q (alike q) (entries m)))
    where
      alike : (q x : K) → R q x ≡ Equal → p x ≡ p q
      alike q x is = ap p (sym (exact q x is))

  -- the entries of a map without a key
  pub entries-remove : (m : FinMap R X) (key : K) → entries (remove m key) ≡ without R key (entries m)
  entries-remove m key = entries_found (remove m key) (without R key (entries m))
      (is_sorted-where_key R other (entries m) (entries_sorted m))
      (λ q. get-remove total m key q ∙ ap (λ b. cond b None (get m q)) ((eq_by_cmp_equiv total).symm q key)
      ∙ turned (eq_by_cmp R key q) None (get m q)
      ∙ ap (λ o. cond (other q) o None) (get-entries m q) ∙ sym (find-where_key R other q (alike q) (entries m)))
    where
      other : K → Bool
      other x = not (eq_by_cmp R key x)

      alike : (q x : K) → R q x ≡ Equal → other x ≡ other q
      alike q x is = ap other (sym (exact q x is))

  -- the entries of a map with this at a key
  pub entries-with_value : (m : FinMap R X) (key : K) (o : Option X)
      → entries (with_value m key o) ≡ put_or_without R key o (entries m)
  entries-with_value m key (Some x) = entries-insert total m key x
  entries-with_value m key None = entries-remove m key

  -- the entries of a map with cells overwritten
  pub entries-with_cells : (ws : List (K × Option X)) (m : FinMap R X)
      → entries (with_cells ws m) ≡ put_cells R ws (entries m)
  entries-with_cells [] m = refl
  entries-with_cells (w ∷ ws) m =
      entries-with_value (with_cells ws m) w.0 w.1 ∙ ap (put_or_without R w.0 w.1) (entries-with_cells ws m)

  -- two maps differ at the keys at which their entries do
  pub differing_seen : (same : X → X → Bool) (m n : FinMap R X)
      → differing same m n ≡ keys_differing R same (entries m) (entries n)
  differing_seen same m n = λ i. filter (λ key. not (option_eq same (get-entries m key i) (get-entries n key i)))
      (map (λ e. e.0) (entries-from_entries (entries m ++ entries n) i))

module _ {K X : Type 0} {R : K → K → Ordering} (total : IsTotalOrder R) (exact : IsAntisymmetric R) where
  -- the entries of the cells of a map at these keys
  pub entries-cells_at : (m : FinMap R X) (ks : List K) → entries (cells_at m ks) ≡ cells_found R (entries m) ks
  entries-cells_at m [] = entries-empty total exact
  entries-cells_at m (key ∷ ks) = entries-insert total (cells_at m ks) key (get m key)
      ∙ (λ i. put R key (get-entries m key i) (entries-cells_at m ks i))
