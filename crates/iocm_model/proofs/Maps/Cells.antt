-- Finite maps of which cells are overwritten: what they have at a key.
use Rattle.std.proofs.Common.{◌≡◌, Bool, true, false, cond, not, ◌&&◌, ◌||◌, List, [], ◌∷◌, ◌++◌, map, Option, Some}
use Rattle.std.proofs.Common.{None, T, refl, sym, ap, subst, ◌∙◌}
use Rattle.std.specs.List.{filter, filter_map, cons_option, list_any}
use Rattle.std.specs.Option.{option_map, option_and_then, option_eq, unwrap_or, is_some, option_or}
use Rattle.std.specs.Ordering.{eq_by_cmp}
use Rattle.std.specs.declared.cmp.Ordering.{Ordering}
use Rattle.std.specs.Cmp.{IsTotalOrder}
use Rattle.std.specs.FinMap.{FinMap, IsAntisymmetric, find, is_sorted, get, entries, entries_sorted, keys, from_entries}
use Rattle.std.specs.FinMap.{retain_keys, get-insert, get-remove, get-from_entries, get-entries, get-retain_keys}
use Rattle.std.specs.FinMap.{contains_key-keys}
use Rattle.std.specs.FinMap.Entries.{below_all}
use Rattle.iocm_types.proofs.Found.{same_key}
use Rattle.iocm_types.proofs.Parts.{find_append}
use Rattle.iocm_types.proofs.Tests.{first_holds, second_holds}
use Rattle.iocm_types.proofs.Entries.{not_found}
use Rattle.iocm_model.specs.Change.Maps.{with_value, with_cells, cells_at, differing}

unwrapped : {A : Type 0} (b : Bool) (x : A) (o : Option A) (d : A)
    → cond b x (unwrap_or o d) ≡ unwrap_or (cond b (Some x) o) d
unwrapped true x o d = refl
unwrapped false x o d = refl

under : {A : Type 0} (b c : Bool) (x y d : A) → unwrap_or (cond b (Some x) (cond c (Some x) None)) d ≡ cond (b || c) x d
under true c x y d = refl
under false true x y d = refl
under false false x y d = refl

joined : {A : Type 0} (b c : Bool) (x : A) → cond b (Some x) (cond c (Some x) None) ≡ cond (b || c) (Some x) None
joined true c x = refl
joined false c x = refl

either_there : {A : Type 0} (a b : Option A) (same : A → A → Bool)
    → (is_some (option_or a b) && not (option_eq same a b)) ≡ not (option_eq same a b)
either_there None None same = refl
either_there None (Some y) same = refl
either_there (Some x) None same = refl
either_there (Some x) (Some y) same = refl

unwrap_cond : {A : Type 0} (b : Bool) (x d : A) → unwrap_or (cond b (Some x) None) d ≡ cond b x d
unwrap_cond true x d = refl
unwrap_cond false x d = refl

apart_or : (a b t : Bool) → ((a && t) || (b && t)) ≡ ((a || b) && t)
apart_or true b true = refl
apart_or true true false = refl
apart_or true false false = refl
apart_or false b t = refl

module _ {K : Type 0} {R : K → K → Ordering} (exact : IsAntisymmetric R) where
  any_by : (b c : Bool) (q k : K) (ks : List K) (test : K → Bool) → eq_by_cmp R q k ≡ b → test k ≡ c
      → list_any (eq_by_cmp R q) (cond c (k ∷ filter test ks) (filter test ks)) ≡ (b && test q)
      || list_any (eq_by_cmp R q) (filter test ks)
  any_by true true q k ks test e f = let here : test q ≡ true = ap test (same_key R exact q k e) ∙ f in
      rw (e, here) refl
  any_by true false q k ks test e f = let here : test q ≡ false = ap test (same_key R exact q k e) ∙ f in rw here refl
  any_by false true q k ks test e f = rw e refl
  any_by false false q k ks test e f = refl

  -- a key stands among those that pass a test if it stands among all and passes
  pub any_filter : (q : K) (ks : List K) (test : K → Bool)
      → list_any (eq_by_cmp R q) (filter test ks) ≡ (list_any (eq_by_cmp R q) ks && test q)
  any_filter q [] test = refl
  any_filter q (k ∷ ks) test = any_by (eq_by_cmp R q k) (test k) q k ks test refl refl
      ∙ ap (λ b. (eq_by_cmp R q k && test q) || b) (any_filter q ks test)
      ∙ apart_or (eq_by_cmp R q k) (list_any (eq_by_cmp R q) ks) (test q)

module _ {K X : Type 0} {R : K → K → Ordering} (total : IsTotalOrder R) (exact : IsAntisymmetric R) where
  -- a map with this at a key has it there, and else what it had
  pub get_with_value : (m : FinMap R X) (k : K) (v : Option X) (q : K)
      → get (with_value m k v) q ≡ cond (eq_by_cmp R q k) v (get m q)
  get_with_value m k None q = get-remove total m k q
  get_with_value m k (Some x) q = get-insert total m k x q

  -- overwritten cells have what was written, and the others what they had
  pub get_with_cells : (ws : List (K × Option X)) (m : FinMap R X) (q : K)
      → get (with_cells ws m) q ≡ unwrap_or (find R q ws) (get m q)
  get_with_cells [] m q = refl
  get_with_cells (w ∷ ws) m q =
      get_with_value (with_cells ws m) w.0 w.1 q ∙ ap (cond (eq_by_cmp R q w.0) w.1) (get_with_cells ws m q)
      ∙ unwrapped (eq_by_cmp R q w.0) w.1 (find R q ws) (get m q)

  found_cell : (b : Bool) (m : FinMap R X) (k q : K) (ks : List K) → eq_by_cmp R q k ≡ b
      → cond b (Some (get m k)) (cond (list_any (eq_by_cmp R q) ks) (Some (get m q)) None)
      ≡ cond (b || list_any (eq_by_cmp R q) ks) (Some (get m q)) None
  found_cell true m k q ks e = ap (λ x. Some (get m x)) (sym (same_key R exact q k e))
  found_cell false m k q ks e = refl

  find_cells : (m : FinMap R X) (ks : List K) (q : K)
      → find R q (map (λ key. (key, get m key)) ks) ≡ cond (list_any (eq_by_cmp R q) ks) (Some (get m q)) None
  find_cells m [] q = refl
  find_cells m (k ∷ ks) q =
      ap (cond (eq_by_cmp R q k) (Some (get m k))) (find_cells m ks q) ∙ found_cell (eq_by_cmp R q k) m k q ks refl

  -- the cells at some keys are those keys, each with what the map has there
  pub get_cells_at : (m : FinMap R X) (ks : List K) (q : K)
      → get (cells_at m ks) q ≡ cond (list_any (eq_by_cmp R q) ks) (Some (get m q)) None
  get_cells_at m ks q = get-from_entries total (map (λ key. (key, get m key)) ks) q ∙ find_cells m ks q

  -- cells overwritten as another map has them
  pub get_with_cells_as : (n : FinMap R X) (ks : List K) (m : FinMap R X) (q : K)
      → get (with_cells (entries (cells_at n ks)) m) q ≡ cond (list_any (eq_by_cmp R q) ks) (get n q) (get m q)
  get_with_cells_as n ks m q =
      get_with_cells (entries (cells_at n ks)) m q
      ∙ ap (λ o. unwrap_or o (get m q)) (sym (get-entries (cells_at n ks) q) ∙ get_cells_at n ks q)
      ∙ unwrap_cond (list_any (eq_by_cmp R q) ks) (get n q) (get m q)

  there_in_both : (m n : FinMap R X) (q : K)
      → list_any (eq_by_cmp R q) (keys (from_entries {R = R} (entries m ++ entries n)))
      ≡ is_some (option_or (get m q) (get n q))
  there_in_both m n q = sym (contains_key-keys (from_entries {R = R} (entries m ++ entries n)) q)
      ∙ ap is_some (get-from_entries total (entries m ++ entries n) q ∙ find_append R q (entries m) (entries n)
      ∙ (λ i. option_or (sym (get-entries m q) i) (sym (get-entries n q) i)))

  -- a key stands among those at which two maps differ exactly where they differ
  pub in_differing : (same : X → X → Bool) (m n : FinMap R X) (q : K)
      → list_any (eq_by_cmp R q) (differing same m n) ≡ not (option_eq same (get m q) (get n q))
  in_differing same m n q =
      any_filter exact q (keys (from_entries {R = R} (entries m ++ entries n)))
      (λ key. not (option_eq same (get m key) (get n key)))
      ∙ ap (λ b. b && not (option_eq same (get m q) (get n q))) (there_in_both m n q)
      ∙ either_there (get m q) (get n q) same

  -- a map of the keys that pass a test
  pub get_retained : (m : FinMap R X) (test : K → Bool) (q : K)
      → get (retain_keys m test) q ≡ cond (test q) (get m q) None
  get_retained m test q = get-retain_keys m test q (λ x t. sym (ap test (exact q x t)))

module _ {K X Y : Type 0} {R : K → K → Ordering} (total : IsTotalOrder R) (exact : IsAntisymmetric R) where
  one_by : (b : Bool) (g : K → X → Option Y) (q : K) (e : K × X) (o : Option Y) (rest : List (K × Y)) (found : Option X)
      → eq_by_cmp R q e.0 ≡ b → g e.0 e.1 ≡ o → find R q rest ≡ option_and_then (g q) found → (b ≡ true → found ≡ None)
      → find R q (cons_option (option_map (λ (y : Y). (e.0, y)) o) rest)
      ≡ option_and_then (g q) (cond b (Some e.1) found)
  one_by true g q e None rest found h is more none =
      more ∙ ap (option_and_then (g q)) (none refl) ∙ sym (ap (λ k. g k e.1) (same_key R exact q e.0 h) ∙ is)
  one_by true g q e (Some y) rest found h is more none = rw h (sym (ap (λ k. g k e.1) (same_key R exact q e.0 h) ∙ is))
  one_by false g q e None rest found h is more none = more
  one_by false g q e (Some y) rest found h is more none = rw h more

  find_each : (g : K → X → Option Y) (es : List (K × X)) → T (is_sorted R es) → (q : K)
      → find R q (filter_map (λ (e : K × X). option_map (λ (y : Y). (e.0, y)) (g e.0 e.1)) es)
      ≡ option_and_then (g q) (find R q es)
  find_each g [] up q = refl
  find_each g (e ∷ es) up q =
      one_by (eq_by_cmp R q e.0) g q e (g e.0 e.1) _ (find R q es) refl refl (find_each g es (second_holds _ _ up) q)
      (λ h. not_found R q es (subst (λ k. T (below_all R k es)) (sym (same_key R exact q e.0 h)) (first_holds _ _ up)))

  -- what is made of each entry of a map, where something is
  pub get_each : (g : K → X → Option Y) (m : FinMap R X) (q : K)
      → get (from_entries {R = R}
      (filter_map (λ (e : K × X). option_map (λ (y : Y). (e.0, y)) (g e.0 e.1)) (entries m))) q
      ≡ option_and_then (g q) (get m q)
  get_each g m q = get-from_entries total _ q ∙ find_each g (entries m) (entries_sorted m) q
      ∙ ap (option_and_then (g q)) (sym (get-entries m q))
