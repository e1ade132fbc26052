-- The keys of the paths of a range, and of those by which they are online, in the order of keys.
use Rattle.std.proofs.Common.{◌≡◌, ◌∙◌, ℕ, ◌<◌, ◌≤◌, ◌≢◌, Bool, true, false, not, ◌&&◌, cond, nat_eq, nat_le, IsTrue}
use Rattle.std.proofs.Common.{List, [], ◌∷◌, length, codes, Option, None, Some, refl, sym, ap, subst, arith}
use Rattle.std.proofs.lemmas.Bool.{eqb-true, eqb-false, leb-true, leb-false}
use Rattle.std.specs.List.{list_all}
use Rattle.std.specs.Ordering.{nat_cmp, is_le, is_eq, eq_by_cmp, ordering_then}
use Rattle.std.specs.declared.cmp.Ordering.{Ordering}
use Rattle.std.specs.declared.cmp.Ordering.TheVariants.{Less, Equal, Greater}
use Rattle.std.specs.Cmp.{nat_cmp_is, unsigned_tied}
use Rattle.std.specs.Cmp.Lexicographic.{slice_cmp, pointwise, texts_ties}
use Rattle.iocm_types.specs.declared.key.Key.{Key}
use Rattle.iocm_types.specs.declared.key.Key.TheVariants.{Id, Resource, Image, Limit, Path, Unit, Device, Online}
use Rattle.iocm_types.specs.Key.{key_cmp}
use Rattle.iocm_types.specs.Name.{is_name, is_letter_or_digit}
use Rattle.iocm_derive.proofs.PathKeys.{past_tie, other_is_after, ends}
use Rattle.iocm_reach.specs.declared.online.OnlinePath.{OnlinePath}
use Rattle.iocm_reach.specs.declared.range.PathRange.{PathRange}
use Rattle.iocm_reach.specs.Ranges.{least, path_within, online_within}

-- two comparisons tie where both do
both_tie : (r s : Ordering) → is_eq (ordering_then r s) ≡ (is_eq r && is_eq s)
both_tie Less s = refl
both_tie Equal s = refl
both_tie Greater s = refl

-- a first number isn't after another, whatever comes then where they are one
from_first : (a n : ℕ) (s : Ordering) → a ≤ n → is_le s ≡ true → is_le (ordering_then (nat_cmp a n) s) ≡ true
from_first a n s low le = by (nat_eq a n) refl
  where
    by : (b : Bool) → nat_eq a n ≡ b → is_le (ordering_then (nat_cmp a n) s) ≡ true
    by true tie = subst (λ (k : ℕ). is_le (ordering_then (nat_cmp a k) s) ≡ true) (eqb-true a n tie)
        (ap is_le (past_tie a s) ∙ le)
    by false tie =
        let other : a ≢ n = eqb-false a n tie in
        let less : a < n = omega arith in
        ap (λ r. is_le (ordering_then r s)) (sym (nat_cmp_is a n Less less))

-- the first of five tests that hold together
first_of_five : (a b c d e : Bool) → (a && b && c && d && e) ≡ true → a ≡ true
first_of_five true b c d e h = refl
first_of_five false b c d e h = h

-- a name is not before the least one
least_first : (n : List ℕ) → IsTrue (is_name n) → is_le (slice_cmp nat_cmp least n) ≡ true
least_first [] named = cc
least_first (x ∷ xs) named = by (nat_eq 65 x) refl
    (leb-true 65 x (first_of_five (nat_le 65 x) (nat_le x 90) (list_all is_letter_or_digit (x ∷ xs))
    (nat_le (length (x ∷ xs)) 8) (not (pointwise nat_eq (x ∷ xs) (codes "REC"))) named))
  where
    ends_first : (ys : List ℕ) → is_le (slice_cmp nat_cmp [] ys) ≡ true
    ends_first [] = refl
    ends_first (y ∷ ys) = refl

    by : (b : Bool) → nat_eq 65 x ≡ b → 65 ≤ x → is_le (ordering_then (nat_cmp 65 x) (slice_cmp nat_cmp [] xs)) ≡ true
    by true tie le = ap (λ y. is_le (ordering_then (nat_cmp 65 y) (slice_cmp nat_cmp [] xs))) (sym (eqb-true 65 x tie))
        ∙ ap is_le (past_tie 65 (slice_cmp nat_cmp [] xs)) ∙ ends_first xs
    by false tie le =
        let other : 65 ≢ x = eqb-false 65 x tie in
        let less : 65 < x = omega arith in
        ap (λ r. is_le (ordering_then r (slice_cmp nat_cmp [] xs))) (sym (nat_cmp_is 65 x Less less))

-- the next numbers are after a last one
after_last : (css of p q last : ℕ) (s : Ordering) → nat_eq of css ≡ true → nat_le q last ≡ false → p ≤ last
    → ordering_then (nat_cmp css of) (ordering_then (nat_cmp p q) s) ≡ Less
after_last css of p q last s here far low =
    let same : of ≡ css = eqb-true of css here in
    let past : last < q = leb-false q last far in
    let less : p < q = omega arith in
    subst (λ (k : ℕ). ordering_then (nat_cmp css k) (ordering_then (nat_cmp p q) s) ≡ Less) (sym same)
    (past_tie css (ordering_then (nat_cmp p q) s) ∙ ap (λ r. ordering_then r s) (sym (nat_cmp_is p q Less less)))

module _ (r : PathRange) where
  -- ---- paths

  pub first_path : (p : ℕ) → r.first ≤ p → is_le (key_cmp (Path r.css r.first) (Path r.css p)) ≡ true
  first_path p low = ap is_le (past_tie r.css (ordering_then (nat_cmp r.first p) Equal))
      ∙ from_first r.first p Equal low refl

  -- a key that isn't one of these, and isn't before them, is after them
  pub behind_paths : (k : Key) → path_within r k ≡ None → is_le (key_cmp (Path r.css r.first) k) ≡ true → (p : ℕ)
      → p ≤ r.last → key_cmp (Path r.css p) k ≡ Less
  behind_paths Id none le p low = cc
  behind_paths Resource none le p low = cc
  behind_paths (Image a b) none le p low = cc
  behind_paths (Limit a b) none le p low = cc
  behind_paths (Unit a) none le p low = refl
  behind_paths (Device a b) none le p low = refl
  behind_paths (Online a b c) none le p low = refl
  behind_paths (Path of q) none le p low = by (nat_eq of r.css) refl (nat_le q r.last) refl none
    where
      by : (b : Bool) → nat_eq of r.css ≡ b → (d : Bool) → nat_le q r.last ≡ d → cond (b && d) (Some q) None ≡ None
          → key_cmp (Path r.css p) (Path of q) ≡ Less
      by true here true near none = cc
      by true here false far none = after_last r.css of p q r.last Equal here far low
      by false here d near none = other_is_after r.css of _ _ here le

  -- the key of one of these ties with that of the path of this number, and with no other
  pub ties_with_path : (q : ℕ) (k : Key) → path_within r k ≡ Some q → (p : ℕ)
      → eq_by_cmp key_cmp (Path r.css p) k ≡ nat_eq p q
  ties_with_path q Id is p = cc
  ties_with_path q Resource is p = cc
  ties_with_path q (Image a b) is p = cc
  ties_with_path q (Limit a b) is p = cc
  ties_with_path q (Unit a) is p = cc
  ties_with_path q (Device a b) is p = cc
  ties_with_path q (Online a b c) is p = cc
  ties_with_path q (Path of path) is p = by (nat_eq of r.css) refl (nat_le path r.last) is
    where
      by : (b : Bool) → nat_eq of r.css ≡ b → (d : Bool) → cond (b && d) (Some path) None ≡ Some q
          → eq_by_cmp key_cmp (Path r.css p) (Path of path) ≡ nat_eq p q
      by true here true is =
          let same : of ≡ r.css = eqb-true of r.css here in
          let there : path ≡ q = cc in
          ap (eq_by_cmp key_cmp (Path r.css p)) (λ i. Path (same i) (there i))
          ∙ ap is_eq (past_tie r.css (ordering_then (nat_cmp p q) Equal)) ∙ both_tie (nat_cmp p q) Equal
          ∙ ends (is_eq (nat_cmp p q)) ∙ unsigned_tied p q
      by true here false is = cc
      by false here d is = cc

  -- ---- paths that are online

  pub first_online : (p : ℕ) (n : List ℕ) → r.first ≤ p → IsTrue (is_name n)
      → is_le (key_cmp (Online r.css r.first least) (Online r.css p n)) ≡ true
  first_online p n low named =
      ap is_le (past_tie r.css (ordering_then (nat_cmp r.first p) (slice_cmp nat_cmp least n)))
      ∙ from_first r.first p (slice_cmp nat_cmp least n) low (least_first n named)

  -- a key that isn't one of these, and isn't before them, is after them
  pub behind_online : (k : Key) → online_within r k ≡ None → is_le (key_cmp (Online r.css r.first least) k) ≡ true
      → (p : ℕ) (n : List ℕ) → p ≤ r.last → key_cmp (Online r.css p n) k ≡ Less
  behind_online Id none le p n low = cc
  behind_online Resource none le p n low = cc
  behind_online (Image a b) none le p n low = cc
  behind_online (Limit a b) none le p n low = cc
  behind_online (Path a b) none le p n low = cc
  behind_online (Unit a) none le p n low = cc
  behind_online (Device a b) none le p n low = cc
  behind_online (Online of q other) none le p n low = by (nat_eq of r.css) refl (nat_le q r.last) refl none
    where
      by : (b : Bool) → nat_eq of r.css ≡ b → (d : Bool) → nat_le q r.last ≡ d
          → cond {A = Option OnlinePath} (b && d) (Some (record { path = q; name = other })) None ≡ None
          → key_cmp (Online r.css p n) (Online of q other) ≡ Less
      by true here true near none = cc
      by true here false far none = after_last r.css of p q r.last (slice_cmp nat_cmp n other) here far low
      by false here d near none = other_is_after r.css of _ _ here le

  -- the key of one of these ties with that of the path of this number that is online to this image,
  -- and with no other
  pub ties_with_online : (row : OnlinePath) (k : Key) → online_within r k ≡ Some row → (p : ℕ) (n : List ℕ)
      → eq_by_cmp key_cmp (Online r.css p n) k ≡ (nat_eq p row.path && pointwise nat_eq n row.name)
  ties_with_online row Id is p n = cc
  ties_with_online row Resource is p n = cc
  ties_with_online row (Image a b) is p n = cc
  ties_with_online row (Limit a b) is p n = cc
  ties_with_online row (Path a b) is p n = cc
  ties_with_online row (Unit a) is p n = cc
  ties_with_online row (Device a b) is p n = cc
  ties_with_online row (Online of path other) is p n = by (nat_eq of r.css) refl (nat_le path r.last) is
    where
      by : (b : Bool) → nat_eq of r.css ≡ b → (d : Bool)
          → cond {A = Option OnlinePath} (b && d) (Some (record { path = path; name = other })) None ≡ Some row
          → eq_by_cmp key_cmp (Online r.css p n) (Online of path other)
          ≡ (nat_eq p row.path && pointwise nat_eq n row.name)
      by true here true is =
          let css : of ≡ r.css = eqb-true of r.css here in
          let found : OnlinePath = record { path = path; name = other } in
          let same : found ≡ row = cc in
          ap (λ k. eq_by_cmp key_cmp (Online r.css p n) k) (λ i. Online (css i) (same i).path (same i).name)
          ∙ ap is_eq (past_tie r.css (ordering_then (nat_cmp p row.path) (slice_cmp nat_cmp n row.name)))
          ∙ both_tie (nat_cmp p row.path) (slice_cmp nat_cmp n row.name)
          ∙ ap (λ b. b && eq_by_cmp (slice_cmp nat_cmp) n row.name) (unsigned_tied p row.path)
          ∙ ap (λ b. nat_eq p row.path && b) (sym (texts_ties n row.name))
      by true here false is = cc
      by false here d is = cc
