-- Tables of paths that are filled from rows in the order of keys, one row after the other.
use Rattle.std.proofs.Common.{◌≡◌, ◌∙◌, ℕ, ◌<◌, Bool, true, false, ◌&&◌, ◌||◌, cond, nat_eq, List, [], ◌∷◌, length}
use Rattle.std.proofs.Common.{get_or, set, replicate, Option, None, Some, T, refl, sym, ap, subst, arith}
use Rattle.std.proofs.Common.{get_or-set_other, get_or-set_same, ◌≢◌}
use Rattle.std.proofs.lemmas.Bool.{eq-eqb, eqb-true}
use Rattle.std.proofs.lemmas.List.{length-set, length-replicate, get_or-replicate}
use Rattle.std.specs.List.{AllByRecursion}
use Rattle.std.specs.Ordering.{is_le, eq_by_cmp}
use Rattle.std.specs.declared.cmp.Ordering.TheVariants.{Less}
use Rattle.std.specs.FinMap.{find, get, entries, is_sorted, entries_sorted, get-entries}
use Rattle.std.specs.FinMap.Entries.{is_sorted-where_key, find-where_key, below_all}
use Rattle.iocm_types.specs.declared.key.Key.{Key}
use Rattle.iocm_types.specs.Key.{key_cmp}
use Rattle.iocm_types.specs.KeyOrder.{keys_total, keys_exact}
use Rattle.iocm_types.proofs.Entries.{not_found}
use Rattle.iocm_types.proofs.Found.{same_key}
use Rattle.iocm_types.proofs.Orderings.{less_is}
use Rattle.iocm_types.proofs.Tests.{first_holds, second_holds}
use Rattle.iocm_table.specs.Slots.{rows_from}
use Rattle.iocm_model.specs.Machine.Record.{Rec}
use Rattle.iocm_model.specs.Machine.Configuration.{Configuration}

-- a table of 256 paths, with what a test says of those of their records that are still to come, has
-- what it says of all; the rows that are left stand in order, none before a first key
pub record IsFilling (first : Key) (key : ℕ → Key) (test : Option Rec → Bool) (right : ℕ → Bool) (table : List Bool)
    (rest : List (Key × Rec)) : Type 0 where
  pub long : length table ≡ 256
  pub rise : T (is_sorted key_cmp rest)
  pub after : AllByRecursion (λ e. is_le (key_cmp first e.0) ≡ true) rest
  pub sum : (number : ℕ) → number < 256
      → (get_or table number false || test (find key_cmp (key number) rest)) ≡ right number

-- numbers that a test tells apart differ
apart : (a b : ℕ) → nat_eq a b ≡ false → a ≢ b
apart a b differ same = let yes : nat_eq a b ≡ true = eq-eqb a b same in cc

-- the rows from a key on are not before it
kept_after : (first : Key) (e : Key × Rec) (es : List (Key × Rec)) (b : Bool) → is_le (key_cmp first e.0) ≡ b
    → AllByRecursion (λ f. is_le (key_cmp first f.0) ≡ true) es
    → AllByRecursion (λ f. is_le (key_cmp first f.0) ≡ true) (cond b (e ∷ es) es)
kept_after first e es true is rest = (is, rest)
kept_after first e es false is rest = rest

pub all_after : (first : Key) (es : List (Key × Rec))
    → AllByRecursion (λ e. is_le (key_cmp first e.0) ≡ true) (rows_from key_cmp first es)
all_after first [] = tt
all_after first (e ∷ es) =
    kept_after first e (rows_from key_cmp first es) (is_le (key_cmp first e.0)) refl (all_after first es)

-- what isn't before a key is found in the rows from it on
pub found_after : (m : Configuration) (first q : Key) → is_le (key_cmp first q) ≡ true
    → find key_cmp q (rows_from key_cmp first (entries m)) ≡ get m q
found_after m first q le =
    find-where_key key_cmp (λ k. is_le (key_cmp first k)) q
    (λ x tie. ap (λ k. is_le (key_cmp first k)) (sym (keys_exact q x tie))) (entries m)
    ∙ ap (λ b. cond b (find key_cmp q (entries m)) None) le
    ∙ sym (get-entries m q)

-- a key that is before the first row is none's
pub none_before : (e : Key × Rec) (es : List (Key × Rec)) → T (is_sorted key_cmp (e ∷ es)) → (q : Key)
    → key_cmp q e.0 ≡ Less → find key_cmp q (e ∷ es) ≡ None
none_before e es rise q less = rw less (not_found key_cmp q es (later q es less (first_holds _ _ rise)))
  where
    later : (q : Key) (fs : List (Key × Rec)) → key_cmp q e.0 ≡ Less → T (below_all key_cmp e.0 fs)
        → T (below_all key_cmp q fs)
    later q [] less below = tt
    later q (f ∷ fs) less below =
        let here : key_cmp q f.0 ≡ Less = keys_total.trans q e.0 f.0 less (less_is _ (first_holds _ _ below)) in
        rw here (later q fs less (second_holds _ _ below))

module _ (first : Key) (key : ℕ → Key) (test : Option Rec → Bool) (none : test None ≡ false) where
  -- before the first row
  pub fill_begins : (m : Configuration) (right : ℕ → Bool) → ((n : ℕ) → is_le (key_cmp first (key n)) ≡ true)
      → ((n : ℕ) → test (get m (key n)) ≡ right n)
      → (rows : List (Key × Rec)) → rows ≡ rows_from key_cmp first (entries m)
      → IsFilling first key test right (replicate 256 false) rows
  fill_begins m right le is rows walked =
      subst (IsFilling first key test right (replicate 256 false)) (sym walked) (record {
        long = length-replicate 256 false;
        rise = is_sorted-where_key key_cmp (λ k. is_le (key_cmp first k)) (entries m) (entries_sorted m);
        after = all_after first (entries m);
        sum = λ n low. ap (λ b. b || test (find key_cmp (key n) (rows_from key_cmp first (entries m))))
            (get_or-replicate 256 n false false low)
            ∙ ap test (found_after m first (key n) (le n)) ∙ is n;
      })

  -- what is found with a row in front
  opened_by : (q : Key) (e : Key × Rec) (es : List (Key × Rec)) (b : Bool) → eq_by_cmp key_cmp q e.0 ≡ b
      → T (below_all key_cmp e.0 es)
      → test (cond b (Some e.1) (find key_cmp q es)) ≡ ((b && test (Some e.1)) || test (find key_cmp q es))
  opened_by q e es true tie below =
      let absent : find key_cmp q es ≡ None =
      ap (λ k. find key_cmp k es) (same_key key_cmp keys_exact q e.0 tie) ∙ not_found key_cmp e.0 es below in
      rw (absent, none) (ends (test (Some e.1)))
    where
      ends : (b : Bool) → b ≡ (b || false)
      ends true = refl
      ends false = refl
  opened_by q e es false tie below = refl

  opened : (q : Key) (e : Key × Rec) (es : List (Key × Rec)) → T (is_sorted key_cmp (e ∷ es))
      → test (find key_cmp q (e ∷ es)) ≡ ((eq_by_cmp key_cmp q e.0 && test (Some e.1)) || test (find key_cmp q es))
  opened q e es up = opened_by q e es (eq_by_cmp key_cmp q e.0) refl (first_holds _ _ up)

  -- one row more
  pub fill_more : (right : ℕ → Bool) (table next : List Bool) (e : Key × Rec) (rows es : List (Key × Rec)) (place : ℕ)
      (b : Bool)
      → IsFilling first key test right table rows → rows ≡ e ∷ es → place < 256
      → next ≡ set table place (get_or table place false || b)
      → ((n : ℕ) → (eq_by_cmp key_cmp (key n) e.0 && test (Some e.1)) ≡ (nat_eq n place && b))
      → IsFilling first key test right next es
  fill_more right table next e rows es place b filling walked low is here =
      let before = subst (IsFilling first key test right table) walked filling in
      subst (λ t. IsFilling first key test right t es) (sym is) (record {
        long = length-set table place _ ∙ before.long;
        rise = second_holds _ _ before.rise;
        after = before.after.1;
        sum = λ n within. step filling.long n (nat_eq n place) refl ∙ sym (ap (λ r. get_or table n false || r)
            (opened (key n) e es before.rise ∙ ap (λ r. r || test (find key_cmp (key n) es)) (here n)))
            ∙ before.sum n within;
      })
    where
      shift : (x y z : Bool) → ((x || y) || z) ≡ (x || (y || z))
      shift true y z = refl
      shift false y z = refl

      step : length table ≡ 256 → (n : ℕ) (same : Bool) → nat_eq n place ≡ same
          → (get_or (set table place (get_or table place false || b)) n false || test (find key_cmp (key n) es))
          ≡ (get_or table n false || ((nat_eq n place && b) || test (find key_cmp (key n) es)))
      step long n true tie =
          let at : n ≡ place = eqb-true n place tie in
          let there : place < length table = omega (arith, long) in
          rw (tie, at, get_or-set_same table place (get_or table place false || b) false there)
          (shift (get_or table place false) b (test (find key_cmp (key place) es)))
      step long n false tie =
          let other : n ≢ place = apart n place tie in
          rw (tie, get_or-set_other table place n (get_or table place false || b) false other) refl

  last : (b c : Bool) (o : Option Rec) → o ≡ None → (b || test o) ≡ c → b ≡ c
  last true c o is sum = sum
  last false c o is sum = sym none ∙ ap test (sym is) ∙ sum

  -- at a row that is behind all paths
  pub fill_stops : (right : ℕ → Bool) (table : List Bool) (e : Key × Rec) (rows es : List (Key × Rec))
      → IsFilling first key test right table rows
      → rows ≡ e ∷ es → ((n : ℕ) → is_le (key_cmp first e.0) ≡ true → key_cmp (key n) e.0 ≡ Less) → (n : ℕ) → n < 256
      → get_or table n false ≡ right n
  fill_stops right table e rows es filling walked behind n low =
      let before = subst (IsFilling first key test right table) walked filling in
      last _ _ (find key_cmp (key n) (e ∷ es)) (none_before e es before.rise (key n) (behind n before.after.0))
      (before.sum n low)
