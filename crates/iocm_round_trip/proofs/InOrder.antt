-- The records of a configuration stand in the order of their keys. So they stand by kind, and its
-- images and limits by channel subsystem.
use Rattle.std.proofs.Common.{◌≡◌, ℕ, ◌≤◌, ◌==◌, nat_lt, Bool, true, false, cond, List, [], ◌∷◌, ◌++◌, T, refl, sym}
use Rattle.std.proofs.Common.{◌∙◌, subst, arith}
use Rattle.std.proofs.lemmas.Bool.Decides.{nat_tests}
use Rattle.std.specs.List.{AllByRecursion, flat_map}
use Rattle.std.specs.Ordering.{nat_cmp, ordering_then}
use Rattle.std.specs.Cmp.Lexicographic.{slice_cmp}
use Rattle.std.specs.declared.cmp.Ordering.{Ordering}
use Rattle.std.specs.declared.cmp.Ordering.TheVariants.{Less, Equal, Greater}
use Rattle.std.specs.FinMap.{entries_sorted, is_sorted}
use Rattle.std.specs.FinMap.Entries.{below_all}
use Rattle.iocm_types.specs.Key.{key_cmp, numbers_of}
use Rattle.iocm_types.proofs.Orderings.{less_is}
use Rattle.iocm_types.proofs.Tests.{first_holds, second_holds}
use Rattle.iocm_model.specs.Machine.Configuration.{Configuration, IsKeyed, with_keys, records_of}
use Rattle.iocm_model.specs.Machine.Record.{Rec, id, resource, image, limit, path, unit, device, online, key_of}
use Rattle.iocm_round_trip.proofs.ByKind.{AreOrdered, AreByKind, kind_of}

-- ---- by key

abbrev pub ComesBefore : Rec → Rec → Type 0
ComesBefore a b = key_cmp (key_of a) (key_of b) ≡ Less

all_behind : (r : Rec) (rs : List Rec) → T (below_all key_cmp (key_of r) (with_keys rs))
    → AllByRecursion (ComesBefore r) rs
all_behind r [] up = tt
all_behind r (s ∷ rs) up = (less_is _ (first_holds _ _ up), all_behind r rs (second_holds _ _ up))

all_ordered : (rs : List Rec) → T (is_sorted key_cmp (with_keys rs)) → AreOrdered ComesBefore rs
all_ordered [] up = tt
all_ordered (r ∷ rs) up = (all_behind r rs (first_holds _ _ up), all_ordered rs (second_holds _ _ up))

pub records_ordered : (c : Configuration) → IsKeyed c → AreOrdered ComesBefore (records_of c)
records_ordered c own = all_ordered (records_of c) (subst (λ es. T (is_sorted key_cmp es)) own (entries_sorted c))

-- ---- what is of an order is of what follows from it

-- each of these behind each of those
abbrev pub AreBehind : {A : Type 0} → (A → A → Type 0) → List A → List A → Type 0
AreBehind S xs ys = AllByRecursion (λ x. AllByRecursion (S x) ys) xs

module _ {A : Type 0} (S : A → A → Type 0) where
  all_both : (P : A → Type 0) (xs ys : List A) → AllByRecursion P xs → AllByRecursion P ys → AllByRecursion P (xs ++ ys)
  all_both P [] ys first second = second
  all_both P (x ∷ xs) ys first second = (first.0, all_both P xs ys first.1 second)

  ordered_both : (xs ys : List A) → AreOrdered S xs → AreOrdered S ys → AreBehind S xs ys → AreOrdered S (xs ++ ys)
  ordered_both [] ys first second behind = second
  ordered_both (x ∷ xs) ys first second behind =
      (all_both (S x) xs ys first.0 behind.0, ordered_both xs ys first.1 second behind.1)

  behind_both : (xs ys zs : List A) → AreBehind S xs ys → AreBehind S xs zs → AreBehind S xs (ys ++ zs)
  behind_both [] ys zs first second = tt
  behind_both (x ∷ xs) ys zs first second =
      (all_both (S x) ys zs first.0 second.0, behind_both xs ys zs first.1 second.1)

  nothing_behind : (xs : List A) → AreBehind S xs []
  nothing_behind [] = tt
  nothing_behind (x ∷ xs) = (tt, nothing_behind xs)

  -- what each record gives is in order, where it is so of each one and of each two
  module _ (g : Rec → List A) (alone : (r : Rec) → AreOrdered S (g r))
      (two : (r s : Rec) → ComesBefore r s → AreBehind S (g r) (g s)) where
    given_behind : (r : Rec) (rs : List Rec) → AllByRecursion (ComesBefore r) rs → AreBehind S (g r) (flat_map g rs)
    given_behind r [] behind = nothing_behind (g r)
    given_behind r (s ∷ rs) behind =
        behind_both (g r) (g s) (flat_map g rs) (two r s behind.0) (given_behind r rs behind.1)

    pub given_ordered : (rs : List Rec) → AreOrdered ComesBefore rs → AreOrdered S (flat_map g rs)
    given_ordered [] ordered = tt
    given_ordered (r ∷ rs) ordered =
        ordered_both (g r) (flat_map g rs) (alone r) (given_ordered rs ordered.1) (given_behind r rs ordered.0)

-- ---- by kind

pub first_within : (m n : ℕ) (o : Ordering) → ordering_then (nat_cmp m n) o ≡ Less → m ≤ n
first_within m n o less = by (nat_lt m n) (m == n) refl refl less
  where
    by : (b c : Bool) → nat_lt m n ≡ b → m == n ≡ c → ordering_then (cond b Less (cond c Equal Greater)) o ≡ Less
        → m ≤ n
    by true c below same e = grind (arith, nat_tests)
    by false true below same e = grind (arith, nat_tests)
    by false false below same e = cc

-- what the key of a record has behind its kind
tail_of : Rec → List ℕ
tail_of (id carried) = []
tail_of (resource carried) = []
tail_of (image i) = i.css ∷ i.mif ∷ []
tail_of (limit l) = l.css ∷ l.set ∷ []
tail_of (path p) = p.css ∷ p.number ∷ []
tail_of (unit u) = u.number ∷ []
tail_of (device d) = d.set ∷ d.number ∷ []
tail_of (online o) = o.css ∷ o.path ∷ o.name

begins : (r : Rec) → numbers_of (key_of r) ≡ kind_of r ∷ tail_of r
unfolding tail_of
begins (id carried) = refl
begins (resource carried) = refl
begins (image i) = refl
begins (limit l) = refl
begins (path p) = refl
begins (unit u) = refl
begins (device d) = refl
begins (online o) = refl

kinds_rise : (a b : Rec) → ComesBefore a b → kind_of a ≤ kind_of b
kinds_rise a b less =
    let begun : slice_cmp nat_cmp (kind_of a ∷ tail_of a) (kind_of b ∷ tail_of b) ≡ Less =
    (λ i. slice_cmp nat_cmp (sym (begins a) i) (sym (begins b) i)) ∙ less in
    first_within (kind_of a) (kind_of b) (slice_cmp nat_cmp (tail_of a) (tail_of b)) begun

kind_behind : (r : Rec) (rs : List Rec) → AllByRecursion (ComesBefore r) rs
    → AllByRecursion (λ s. kind_of r ≤ kind_of s) rs
kind_behind r [] behind = tt
kind_behind r (s ∷ rs) behind = (kinds_rise r s behind.0, kind_behind r rs behind.1)

pub by_kind : (rs : List Rec) → AreOrdered ComesBefore rs → AreByKind rs
by_kind [] ordered = tt
by_kind (r ∷ rs) ordered = (kind_behind r rs ordered.0, by_kind rs ordered.1)
