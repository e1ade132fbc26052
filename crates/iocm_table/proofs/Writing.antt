-- What is written to one slot, as a change of the rows: look-ups decide, since finite maps with the
-- same look-ups are one.
use Rattle.std.proofs.Common.{◌≡◌, ℕ, zero, suc, ◌+◌, ◌-◌, ◌≤◌, Bool, true, false, not, cond, T, List, [], ◌∷◌, Option}
use Rattle.std.proofs.Common.{None, Some, is_some, length, refl, sym, ap, subst, ◌∙◌, arith}
use Rattle.std.specs.List.{list_any}
use Rattle.std.specs.Option.{option_flatten}
use Rattle.std.specs.Ordering.{eq_by_cmp}
use Rattle.std.specs.Cmp.{IsTotalOrder}
use Rattle.std.specs.declared.cmp.Ordering.{Ordering}
use Rattle.std.specs.BTreeMap.{BTreeMap, IsOrdered, get_by, is_at, UpdatesBy}
use Rattle.std.specs.FinMap.{IsAntisymmetric, get, len, insert, remove, contains_key, get-insert, get-remove, get_tied}
use Rattle.std.specs.FinMap.{len-insert, len-remove, same_map, empty_of_len, get-empty}
use Rattle.std.proofs.lemmas.Cmp.{eq_by_cmp_equiv}
use Rattle.std.proofs.lemmas.Map.Made.{is_some-lookup}
use Rattle.iocm_table.specs.Slots.{Stored, present, listed_first, rows, HasPlace}
use Rattle.iocm_table.proofs.Lookups.{seen_of, row_at, len_of_rows}
use Rattle.iocm_table.proofs.Presence.{equal_is}

-- there are no more rows than slots
fewer : {K X : Type 0} (key : K) (o : Option X) (es : List (K × X)) (n : ℕ) → length es ≤ n
    → length (listed_first key o es) ≤ n + 1
fewer key None es n h = omega arith
fewer key (Some row) es n h = omega arith

pub present_short : {K X : Type 0} (es : List (K × Option X)) → length (present es) ≤ length es
present_short [] = omega arith
present_short (e ∷ es) = let less = fewer e.0 e.1 (present es) (length es) (present_short es) in omega arith

-- a look-up under a slot that is written
flat : {X : Type 0} (b : Bool) (w : Option X) (r : Option (Option X))
    → option_flatten (cond b (Some w) r) ≡ cond b w (option_flatten r)
flat true w r = refl
flat false w r = refl

module _ {K X : Type 0} {R : K → K → Ordering} (o : IsTotalOrder R) (exact : IsAntisymmetric R)
    (m n : BTreeMap K (Option X)) (key : K)
    (rise : IsOrdered R m) (rises : IsOrdered R n) where
  -- the row of a key once the slot of one key is written
  row_after : (w : Option X) → UpdatesBy R (R key) m n (Some w) → (q : K)
      → get (rows R (seen_of n)) q ≡ cond (eq_by_cmp R q key) w (get (rows R (seen_of m)) q)
  row_after w u q = row_at refl n (seen_of n) refl rises o q ∙ ap option_flatten (u.0 q)
      ∙ flat (is_at (R key) q) w (get_by (R q) m)
      ∙ ap (λ b. cond b w (option_flatten (get_by (R q) m))) ((eq_by_cmp_equiv o).symm key q)
      ∙ ap (cond (eq_by_cmp R q key) w) (sym (row_at refl m (seen_of m) refl rise o q))

  -- a row is put there, or taken out
  pub put_in : (row : X) → UpdatesBy R (R key) m n (Some (Some row))
      → rows R (seen_of n) ≡ insert (rows R (seen_of m)) key row
  put_in row u = same_map o exact _ _
      (λ q. row_after (Some row) u q ∙ sym (get-insert o (rows R (seen_of m)) key row q))

  pub taken_out : UpdatesBy R (R key) m n (Some None) → rows R (seen_of n) ≡ remove (rows R (seen_of m)) key
  taken_out u = same_map o exact _ _ (λ q. row_after None u q ∙ sym (get-remove o (rows R (seen_of m)) key q))

  -- whether the key had a row
  had_row : (before : Option X) → Some before ≡ get_by (R key) m
      → contains_key (rows R (seen_of m)) key ≡ is_some before
  had_row before found = ap is_some (row_at refl m (seen_of m) refl rise o key ∙ sym (ap option_flatten found))

  -- the count of rows after a row is put in, and after one is taken out
  one_more : (b : Bool) (c d : ℕ) → cond (not b) c (c + 1) ≡ d → c + cond b 1 0 ≡ d
  one_more true c d e = e
  one_more false c d e = omega arith

  one_less : (b : Bool) (c d : ℕ) → cond b (c - 1) c ≡ d → c - cond b 1 0 ≡ d
  one_less true c d e = e
  one_less false c d e = omega arith

  pub counted_in : (row : X) (before : Option X) (is_new : Bool) (c : ℕ) → UpdatesBy R (R key) m n (Some (Some row))
      → Some before ≡ get_by (R key) m
      → is_some before ≡ not is_new → c ≡ length (present m.entries) → c + cond is_new 1 0 ≡ length (present n.entries)
  counted_in row before is_new c u found new count = one_more is_new c _
      (ap (λ d. cond (not is_new) d (d + 1)) (count ∙ sym (len_of_rows refl m (seen_of m) refl rise))
      ∙ ap (λ b. cond b (len (rows R (seen_of m))) (len (rows R (seen_of m)) + 1)) (sym (had_row before found ∙ new))
      ∙ sym (len-insert o (rows R (seen_of m)) key row) ∙ ap len (sym (put_in row u))
      ∙ len_of_rows refl n (seen_of n) refl rises)

  pub counted_out : (before : Option X) (was : Bool) (c : ℕ) → UpdatesBy R (R key) m n (Some None)
      → Some before ≡ get_by (R key) m
      → was ≡ is_some before → c ≡ length (present m.entries) → c - cond was 1 0 ≡ length (present n.entries)
  counted_out before was c u found is count = one_less was c _
      (ap (λ d. cond was (d - 1) d) (count ∙ sym (len_of_rows refl m (seen_of m) refl rise))
      ∙ ap (λ b. cond b (len (rows R (seen_of m)) - 1) (len (rows R (seen_of m)))) (is ∙ sym (had_row before found))
      ∙ sym (len-remove o (rows R (seen_of m)) key) ∙ ap len (sym (taken_out u))
      ∙ len_of_rows refl n (seen_of n) refl rises)

module _ {K X : Type 0} {R S : K → K → Ordering} (same : ◌≡◌ {A = K → K → Ordering} R S) (o : IsTotalOrder R)
    (exact : IsAntisymmetric R)
    (m n : BTreeMap K (Option X)) (t : Stored K X) (is : seen_of m ≡ t) (key : K) (rise : IsOrdered R m)
    (rises : IsOrdered R n) where
  -- the same in the order that clauses name, of what they see
  pub rows_put : (row : X) → UpdatesBy R (R key) m n (Some (Some row)) → rows S (seen_of n) ≡ insert (rows S t) key row
  rows_put row u = subst (λ (r : K → K → Ordering). rows r (seen_of n) ≡ insert (rows r t) key row) same
      (subst (λ v. rows R (seen_of n) ≡ insert (rows R v) key row) is (put_in o exact m n key rise rises row u))

  pub rows_taken : UpdatesBy R (R key) m n (Some None) → rows S (seen_of n) ≡ remove (rows S t) key
  rows_taken u = subst (λ (r : K → K → Ordering). rows r (seen_of n) ≡ remove (rows r t) key) same
      (subst (λ v. rows R (seen_of n) ≡ remove (rows R v) key) is (taken_out o exact m n key rise rises u))

-- a key that has a place is found among the slots, and the other way round
pub place_found : {K X : Type 0} {R S : K → K → Ordering} → ◌≡◌ {A = K → K → Ordering} R S
    → (m : BTreeMap K (Option X)) (t : Stored K X)
    → seen_of m ≡ t → (key : K) → HasPlace S t key → is_some (get_by (R key) m) ≡ true
place_found {K} {X} {R} same m t is key has = is_some-lookup (is_at (R key)) m.entries
    ∙ truth _ (subst (λ u. T (list_any (eq_by_cmp R key) u.places)) (sym is)
    (subst (λ (r : K → K → Ordering). HasPlace r t key) (sym same) has))
  where
    truth : (b : Bool) → T b → b ≡ true
    truth true h = refl
    truth false h = absurd h

-- a key without a row: to take it out changes nothing
pub rows_untaken : {K X : Type 0} {R S : K → K → Ordering} → ◌≡◌ {A = K → K → Ordering} R S → IsTotalOrder R
    → IsAntisymmetric R
    → (m : BTreeMap K (Option X)) (t : Stored K X) → seen_of m ≡ t → (key : K) → IsOrdered R m
    → option_flatten (get_by (R key) m) ≡ None → rows S t ≡ remove (rows S t) key
rows_untaken {K} {X} {R} same o exact m t is key rise none = subst
    (λ (r : K → K → Ordering). rows r t ≡ remove (rows r t) key) same
    (subst (λ v. rows R v ≡ remove (rows R v) key) is
    (same_map o exact _ _ (λ q. stays q ∙ sym (get-remove o (rows R (seen_of m)) key q))))
  where
    absent_at : get (rows R (seen_of m)) key ≡ None
    absent_at = row_at refl m (seen_of m) refl rise o key ∙ none

    at_tie : (q : K) (b : Bool) → eq_by_cmp R q key ≡ b
        → get (rows R (seen_of m)) q ≡ cond b None (get (rows R (seen_of m)) q)
    at_tie q true tie = get_tied o (rows R (seen_of m)) key q (equal_is _ ((eq_by_cmp_equiv o).symm key q ∙ tie))
        ∙ absent_at
    at_tie q false tie = refl

    stays : (q : K) → get (rows R (seen_of m)) q ≡ cond (eq_by_cmp R q key) None (get (rows R (seen_of m)) q)
    stays q = at_tie q (eq_by_cmp R q key) refl

-- a count of rows isn't zero where a key has one
pub one_row : {K X : Type 0} {R : K → K → Ordering} → IsTotalOrder R → (m : BTreeMap K (Option X)) (key : K)
    → IsOrdered R m → (before : Option X)
    → Some before ≡ get_by (R key) m → (was : Bool) → was ≡ is_some before → (c : ℕ) → c ≡ length (present m.entries)
    → cond was 1 0 ≤ c
one_row {R = R} o m key rise before found false is c count = omega arith
one_row {R = R} o m key rise before found true is zero count =
    let empty_is = empty_of_len (rows R (seen_of m)) (len_of_rows refl m (seen_of m) refl rise ∙ sym count) in
    let none : get (rows R (seen_of m)) key ≡ None = ap (λ rs. get rs key) empty_is ∙ get-empty R key in
    let bad : true ≡ false =
    is ∙ ap is_some (ap option_flatten found ∙ sym (row_at refl m (seen_of m) refl rise o key) ∙ none) in cc
one_row {R = R} o m key rise before found true is (suc c) count = omega arith

pub place_of : {K X : Type 0} {R S : K → K → Ordering} → ◌≡◌ {A = K → K → Ordering} R S
    → (m : BTreeMap K (Option X)) (t : Stored K X)
    → seen_of m ≡ t → (key : K) → is_some (get_by (R key) m) ≡ true → HasPlace S t key
place_of {K} {X} {R} same m t is key has = subst (λ (r : K → K → Ordering). HasPlace r t key) same
    (subst (λ u. T (list_any (eq_by_cmp R key) u.places)) is
    (subst T (sym (sym (is_some-lookup (is_at (R key)) m.entries) ∙ has)) tt))

-- a slot with a row is a slot
pub inner_some : {X : Type 0} (r : Option (Option X)) → is_some (option_flatten r) ≡ true → is_some r ≡ true
inner_some None has = has
inner_some (Some o) has = refl
