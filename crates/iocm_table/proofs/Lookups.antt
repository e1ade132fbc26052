-- Tables as finite maps: what a look-up, the number of rows and the rows in order are, in the order
-- that clauses name.
use Rattle.std.proofs.Common.{◌≡◌, List, [], Option, length, refl, sym, ap, subst, ◌∙◌}
use Rattle.std.specs.Option.{option_flatten}
use Rattle.std.specs.Cmp.{IsTotalOrder}
use Rattle.std.specs.declared.cmp.Ordering.{Ordering}
use Rattle.std.specs.BTreeMap.{BTreeMap, IsOrdered, keys, get_by}
use Rattle.std.specs.FinMap.{get, len, entries, empty, from_sorted, get-from_sorted, len-entries, entries-from_sorted}
use Rattle.std.specs.FinMap.{empty_of_len}
use Rattle.iocm_table.specs.Slots.{Stored, present, rows, rows_from}
use Rattle.iocm_table.proofs.Presence.{sorted_present, find_present}

-- what contracts see of slots
abbrev pub seen_of : {K X : Type 0} → BTreeMap K (Option X) → Stored K X
seen_of m = record { listed = present m.entries; places = keys m }

module _ {K X : Type 0} {R S : K → K → Ordering} (same : ◌≡◌ {A = K → K → Ordering} R S) (m : BTreeMap K (Option X))
    (t : Stored K X)
    (is : seen_of m ≡ t) (rise : IsOrdered R m) where
  -- the rows in order
  pub entries_of_rows : entries (rows S t) ≡ present m.entries
  entries_of_rows = subst (λ (r : K → K → Ordering). entries (rows r t) ≡ present m.entries) same
      (subst (λ u. entries (rows R u) ≡ present m.entries) is
      (entries-from_sorted R (present m.entries) (sorted_present R m.entries rise)))

  -- how many there are
  pub len_of_rows : len (rows S t) ≡ length (present m.entries)
  len_of_rows = len-entries (rows S t) ∙ ap length entries_of_rows

  -- the row of a key
  pub row_at : IsTotalOrder R → (q : K) → get (rows S t) q ≡ option_flatten (get_by (R q) m)
  row_at o q = subst (λ (r : K → K → Ordering). get (rows r t) q ≡ option_flatten (get_by (R q) m)) same
      (subst (λ u. get (rows R u) q ≡ option_flatten (get_by (R q) m)) is
      (get-from_sorted R (present m.entries) q (sorted_present R m.entries rise) ∙ find_present o q m.entries rise))

  -- those from a key on
  pub rows_from_key : (q : K) → rows_from R q (present m.entries) ≡ rows_from S q (entries (rows S t))
  rows_from_key q = ap (λ es. rows_from R q es) (sym entries_of_rows)
      ∙ subst (λ (r : K → K → Ordering). rows_from R q (entries (rows S t)) ≡ rows_from r q (entries (rows S t))) same
      refl

-- no slots are the empty map
pub no_rows : {K X : Type 0} {R S : K → K → Ordering} → ◌≡◌ {A = K → K → Ordering} R S → (m : BTreeMap K (Option X))
    → IsOrdered R m
    → m.entries ≡ [] → rows S (seen_of m) ≡ empty
no_rows {K = K} {X = X} same m rise is =
    empty_of_len _ (len_of_rows same m (seen_of m) refl rise
    ∙ ap (λ (es : List (K × Option X)). length (present es)) is)

-- slots with the same rows are the same finite map
pub same_rows : {K X : Type 0} (S : K → K → Ordering) (m n : BTreeMap K (Option X)) (t : Stored K X) → seen_of m ≡ t
    → present n.entries ≡ present m.entries → rows S (seen_of n) ≡ rows S t
same_rows S m n t is same = ap from_sorted (same ∙ ap (λ u. u.listed) is)
