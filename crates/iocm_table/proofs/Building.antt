-- Slots that are made of rows at once: their rows are these, as many as there are.
use Rattle.std.proofs.Common.{◌≡◌, ℕ, suc, ◌+◌, ◌||◌, Bool, true, false, cond, List, [], ◌∷◌, Option, None, Some}
use Rattle.std.proofs.Common.{is_some, length, refl, sym, ap, subst, ◌∙◌, arith}
use Rattle.std.specs.List.{IsDistinct, AllByRecursion, list_any}
use Rattle.std.specs.Option.{option_flatten}
use Rattle.std.specs.Ordering.{eq_by_cmp}
use Rattle.std.specs.Cmp.{IsTotalOrder}
use Rattle.std.specs.declared.cmp.Ordering.{Ordering}
use Rattle.std.specs.Map.{keys_of, lookup}
use Rattle.std.specs.BTreeMap.{BTreeMap, IsFromIterResult, is_at}
use Rattle.std.specs.FinMap.{IsAntisymmetric, len, from_entries, get-from_entries, len-insert, len-empty, same_map}
use Rattle.std.specs.FinMap.Entries.{find, is_some-find}
use Rattle.std.proofs.lemmas.Cmp.{eq_by_cmp_equiv}
use Rattle.std.proofs.lemmas.Map.Entries.{length-keys_of}
use Rattle.std.proofs.lemmas.Map.Keys.{IsDistinct-tail, IsDistinct-head, IsDistinct-from_sorted}
use Rattle.std.proofs.lemmas.Map.Made.{update_all_none, is_some-lookup, is_some-update_all, length-from_same_keys}
use Rattle.iocm_table.specs.Slots.{rows, full_slots, present, listed_first}
use Rattle.iocm_table.proofs.Lookups.{seen_of, row_at, len_of_rows}
use Rattle.iocm_table.proofs.Presence.{find_full}
use Rattle.iocm_table.proofs.Writing.{present_short}
use Rattle.std.specs.Set.{is_member}

module _ {K X : Type 0} where
  keys_filled : (es : List (K × X)) → keys_of (full_slots es) ≡ keys_of es
  keys_filled [] = refl
  keys_filled (e ∷ es) = ap (λ ks. e.0 ∷ ks) (keys_filled es)

  -- slots that are as many as their rows are all full
  full_first : (key : K) (o : Option X) (es : List (K × Option X))
      → length (listed_first key o (present es)) ≡ suc (length es)
      → (length (present es) ≡ length es → keys_of (present es) ≡ keys_of es)
      → keys_of (listed_first key o (present es)) ≡ key ∷ keys_of es
  full_first key None es many rest = let short = present_short es in absurd (omega arith)
  full_first key (Some row) es many rest = ap (λ ks. key ∷ ks) (rest (omega arith))

  full_of_many : (es : List (K × Option X)) → length (present es) ≡ length es → keys_of (present es) ≡ keys_of es
  full_of_many [] many = refl
  full_of_many (e ∷ es) many = full_first e.0 e.1 es many (full_of_many es)

none_passes : {K : Type 0} (p : K → Bool) (ks : List K) → AllByRecursion (λ k. p k ≡ false) ks → list_any p ks ≡ false
none_passes p [] none = refl
none_passes p (k ∷ ks) none = ap (λ b. b || list_any p ks) none.0 ∙ none_passes p ks none.1

one_longer : (b : Bool) (m n : ℕ) → b ≡ false → m ≡ n → cond b m (m + 1) ≡ suc n
one_longer true m n is same = cc
one_longer false m n is same = omega arith

module _ {K X : Type 0} {R : K → K → Ordering} (o : IsTotalOrder R) where
  -- a look-up among rows is one among the slots that are made of them
  find_filled : (q : K) (es : List (K × X)) → find R q es ≡ option_flatten (lookup (is_at (R q)) (full_slots es))
  find_filled q [] = refl
  find_filled q (e ∷ es) =
      find_full o (eq_by_cmp R q e.0) e.1 (find R q es) (lookup (is_at (R q)) (full_slots es)) (find_filled q es)

  -- the rows of slots that were made of these rows
  pub built : IsAntisymmetric R → (es : List (K × X)) (m : BTreeMap K (Option X))
      → IsDistinct (eq_by_cmp R) (keys_of es)
      → IsFromIterResult R (full_slots es) m → rows R (seen_of m) ≡ from_entries es
  built exact es m apart made = same_map o exact _ _ (λ q. row_at refl m (seen_of m) refl made.1 o q
      ∙ ap option_flatten (made.0 q
      ∙ update_all_none (eq_by_cmp_equiv o) (eq_by_cmp R) (λ x y. refl) (full_slots es) q
      (subst (IsDistinct (eq_by_cmp R)) (sym (keys_filled es)) apart))
      ∙ sym (find_filled q es) ∙ sym (get-from_entries o es q))

  -- rows no two of which have one key are as many as their finite map has
  pub len_apart : (es : List (K × X)) → IsDistinct (eq_by_cmp R) (keys_of es)
      → len (from_entries {R = R} es) ≡ length es
  len_apart [] apart = len-empty R X
  len_apart (e ∷ es) apart = len-insert o (from_entries es) e.0 e.1
      ∙ one_longer _ _ _ (ap is_some (get-from_entries o es e.0) ∙ is_some-find R e.0 es
      ∙ none_passes (eq_by_cmp R e.0) (keys_of es) (IsDistinct-head (eq_by_cmp R) e.0 (keys_of es) apart))
      (len_apart es (IsDistinct-tail (eq_by_cmp R) e.0 (keys_of es) apart))

  -- slots that were made of these rows are as many as these
  many_apart : (es : List (K × X)) (m : BTreeMap K (Option X)) → IsDistinct (eq_by_cmp R) (keys_of es)
      → IsFromIterResult R (full_slots es) m
      → length (keys_of m.entries) ≡ length (keys_of es)
  many_apart es m apart made = length-from_same_keys (eq_by_cmp_equiv o) (keys_of m.entries) (keys_of es)
      (IsDistinct-from_sorted R _ made.1) apart
      (λ q. sym (is_some-lookup (is_at (R q)) m.entries) ∙ ap is_some (made.0 q)
      ∙ is_some-update_all (eq_by_cmp_equiv o) q (λ _. None) (full_slots es)
      ∙ ap (λ ks. is_member (eq_by_cmp R) ks q) (keys_filled es))

  -- each of them is full: their keys are those of their rows
  pub all_full : IsAntisymmetric R → (es : List (K × X)) (m : BTreeMap K (Option X))
      → IsDistinct (eq_by_cmp R) (keys_of es)
      → IsFromIterResult R (full_slots es) m → keys_of (present m.entries) ≡ keys_of m.entries
  all_full exact es m apart made = full_of_many m.entries
      (sym (len_of_rows refl m (seen_of m) refl made.1) ∙ ap len (built exact es m apart made) ∙ len_apart es apart
      ∙ sym (length-keys_of es) ∙ sym (many_apart es m apart made) ∙ length-keys_of m.entries)
