-- The objects of the runs, one by one, are the objects.
use Rattle.std.proofs.Common.{◌≡◌, ℕ, zero, suc, ◌+◌, ◌&&◌, ◌==◌, cond, Bool, true, false, Option, None, Some, List, []}
use Rattle.std.proofs.Common.{◌∷◌, ◌++◌, map, append_assoc, refl, sym, ap, ◌∙◌, arith, eqb-true}
use Rattle.std.specs.Cmp.Lexicographic.{pointwise}
use Rattle.std.specs.List.{flat_map}
use Rattle.std.specs.Str.{bytes_eq}
use Rattle.std.proofs.lemmas.Slice.Eq.{bytes_eq-Decides}
use Rattle.std.proofs.lemmas.Bool.{and_parts, false≢true}
use Rattle.iocm_types.specs.declared.key.Key.{Key}
use Rattle.iocm_types.specs.declared.key.Key.TheVariants as key
use Rattle.iocm_objects.specs.declared.object.Change.{Change}
use Rattle.iocm_objects.specs.declared.object.Change.TheVariants as change
use Rattle.iocm_objects.specs.declared.object.Object.{Object}
use Rattle.iocm_objects.specs.declared.told.Told.{Told}
use Rattle.iocm_objects.specs.declared.told.Told.TheVariants as told
use Rattle.iocm_objects.specs.Laws.{RunsAreObjects}
use Rattle.iocm_objects.specs.Runs.{Entry, Run, alone, by_count, continued, entries_from, entries_in, entry_after}
use Rattle.iocm_objects.specs.Runs.{entry_of, follows, is_told_alike, key_after, next_count, next_number}
use Rattle.iocm_objects.specs.Runs.{runs_from, same_change, told_after}

-- ---- nothing after an object it is as it is

no_more : (a : ℕ) → a + 0 ≡ a
no_more a = omega arith

told_at_once : (t : Told) → told_after 0 t ≡ t
told_at_once (told.Words name text) = refl
told_at_once (told.Address address) = ap told.Address (no_more address)
told_at_once (told.OtherAddress old new) = λ i. told.OtherAddress (no_more old i) (no_more new i)

all_at_once : (ts : List Told) → map (told_after 0) ts ≡ ts
all_at_once [] = refl
all_at_once (t ∷ ts) = λ i. told_at_once t i ∷ all_at_once ts i

key_at_once : (k : Key) → key_after 0 k ≡ k
key_at_once (key.Device set number) = ap (key.Device set) (no_more number)
key_at_once key.Id = refl
key_at_once key.Resource = refl
key_at_once (key.Image css mif) = refl
key_at_once (key.Limit css set) = refl
key_at_once (key.Path css number) = refl
key_at_once (key.Unit number) = refl
key_at_once (key.Online css path name) = refl

entry_at_once : (o : Object) → entry_after 0 o ≡ entry_of o
entry_at_once o = λ i. record { key = key_at_once o.key i; change = o.change; told = all_at_once o.told i }

-- ---- what is told alike is told so many after

bytes_are : (a b : List ℕ) → bytes_eq a b ≡ true → a ≡ b
bytes_are a b same = (bytes_eq-Decides a b).0 same

told_follows : (n : ℕ) (t u : Told) → is_told_alike n t u ≡ true → told_after n t ≡ u
told_follows n (told.Words name text) (told.Words other another) alike =
    let p = and_parts (bytes_eq name other) (bytes_eq text another) alike in
    λ i. told.Words (bytes_are name other p.0 i) (bytes_are text another p.1 i)
told_follows n (told.Address first) (told.Address address) alike =
    ap told.Address (sym (eqb-true address (first + n) alike))
told_follows n (told.OtherAddress old new) (told.OtherAddress before after) alike =
    let p = and_parts (follows old n before) (follows new n after) alike in
    λ i. told.OtherAddress (sym (eqb-true before (old + n) p.0) i) (sym (eqb-true after (new + n) p.1) i)
told_follows n (told.Words name text) (told.Address address) alike = absurd (false≢true alike)
told_follows n (told.Words name text) (told.OtherAddress old new) alike = absurd (false≢true alike)
told_follows n (told.Address first) (told.Words name text) alike = absurd (false≢true alike)
told_follows n (told.Address first) (told.OtherAddress old new) alike = absurd (false≢true alike)
told_follows n (told.OtherAddress old new) (told.Words name text) alike = absurd (false≢true alike)
told_follows n (told.OtherAddress old new) (told.Address address) alike = absurd (false≢true alike)

all_follow : (n : ℕ) (ts us : List Told) → pointwise (is_told_alike n) ts us ≡ true → map (told_after n) ts ≡ us
all_follow n [] [] alike = refl
all_follow n [] (u ∷ us) alike = absurd (false≢true alike)
all_follow n (t ∷ ts) [] alike = absurd (false≢true alike)
all_follow n (t ∷ ts) (u ∷ us) alike =
    let p = and_parts (is_told_alike n t u) (pointwise (is_told_alike n) ts us) alike in
    λ i. told_follows n t u p.0 i ∷ all_follow n ts us p.1 i

change_is : (a b : Change) → same_change a b ≡ true → a ≡ b
change_is change.Added change.Added same = refl
change_is change.Deleted change.Deleted same = refl
change_is change.Changed change.Changed same = refl
change_is change.Added change.Deleted same = absurd (false≢true same)
change_is change.Added change.Changed same = absurd (false≢true same)
change_is change.Deleted change.Added same = absurd (false≢true same)
change_is change.Deleted change.Changed same = absurd (false≢true same)
change_is change.Changed change.Added same = absurd (false≢true same)
change_is change.Changed change.Deleted same = absurd (false≢true same)

-- ---- a key that follows

record Follows (first : Key) (n : ℕ) (k : Key) (longer : ℕ) : Type 0 where
  key : key_after n first ≡ k
  count : longer ≡ n + 1

number_follows : (set own first count number longer : ℕ) (b : Bool) → (number == first + count) ≡ b → own ≡ set
    → cond b (Some (count + 1)) None ≡ Some longer
    → Follows (key.Device set first) count (key.Device own number) longer
number_follows set own first count number longer true is same next = record {
  key = λ i. key.Device (sym same i) (sym (eqb-true number (first + count) is) i);
  count = cc;
}
number_follows set own first count number longer false is same next = cc

set_follows : (set own first count number longer : ℕ) (b : Bool) → (own == set) ≡ b
    → cond b (next_number first count number) None ≡ Some longer
    → Follows (key.Device set first) count (key.Device own number) longer
set_follows set own first count number longer true is next =
    number_follows set own first count number longer (number == first + count) refl (eqb-true own set is) next
set_follows set own first count number longer false is next = cc

key_follows : (first : Key) (count : ℕ) (k : Key) (longer : ℕ) → next_count first count k ≡ Some longer
    → Follows first count k longer
key_follows (key.Device set first) count (key.Device own number) longer next =
    set_follows set own first count number longer (own == set) refl next
key_follows _ count _ longer next = cc

-- ---- an object that continues a run

record Continues (r : Run) (o : Object) (longer : ℕ) : Type 0 where
  entry : entry_after r.count r.first ≡ entry_of o
  count : longer ≡ r.count + 1

run_continues : (r : Run) (o : Object) (longer : ℕ) (b : Bool)
    → (same_change r.first.change o.change && pointwise (is_told_alike r.count) r.first.told o.told) ≡ b
    → cond b (next_count r.first.key r.count o.key) None ≡ Some longer → Continues r o longer
run_continues r o longer true alike next =
    let p = and_parts (same_change r.first.change o.change) (pointwise (is_told_alike r.count) r.first.told o.told) alike
    in
    let f = key_follows r.first.key r.count o.key longer next in record {
      entry = λ i. record {
        key = f.key i;
        change = change_is r.first.change o.change p.0 i;
        told = all_follow r.count r.first.told o.told p.1 i;
      };
      count = f.count;
    }
run_continues r o longer false alike next = cc

-- ---- runs

one_more : (o : Object) (n k : ℕ) → entries_from o n (suc k) ≡ entries_from o n k ++ entry_after (n + k) o ∷ []
one_more o n zero = ap (λ m. entry_after m o ∷ []) (sym (no_more n))
one_more o n (suc k) =
    let e : n + 1 + k ≡ n + suc k = omega arith in
    ap (λ (es : List Entry). entry_after n o ∷ es)
    (one_more o (n + 1) k ∙ ap (λ m. entries_from o (n + 1) k ++ entry_after m o ∷ []) e)

-- a run with an object that continues it
longer_run : (r : Run) (o : Object) (longer : ℕ) → Continues r o longer
    → entries_in (record { first = r.first; count = longer }) ≡ entries_in r ++ entry_of o ∷ []
longer_run r o longer c =
    let e : longer ≡ suc r.count = omega (arith, c.count) in
    let f : 0 + r.count ≡ r.count = omega arith in
    ap (entries_from r.first 0) e ∙ one_more r.first 0 r.count
    ∙ ap (λ x. entries_in r ++ x ∷ []) (ap (λ n. entry_after n r.first) f ∙ c.entry)

from_run : (r : Run) (os : List Object) → flat_map entries_in (runs_from r os) ≡ entries_in r ++ map entry_of os
from_run r [] = refl
from_run r (o ∷ os) = by (continued r o) refl (λ longer. from_run longer os) (from_run (alone o) os)
  where
    by : (n : Option ℕ) → continued r o ≡ n
        → ((longer : Run) → flat_map entries_in (runs_from longer os) ≡ entries_in longer ++ map entry_of os)
        → flat_map entries_in (runs_from (alone o) os) ≡ entries_in (alone o) ++ map entry_of os
        → flat_map entries_in (by_count r n (λ longer. runs_from longer os) (runs_from (alone o) os))
        ≡ entries_in r ++ (entry_of o ∷ map entry_of os)
    by (Some longer) is more other = more (record { first = r.first; count = longer })
        ∙ ap (λ es. es ++ map entry_of os)
        (longer_run r o longer (run_continues r o longer _ refl is))
        ∙ append_assoc (entries_in r) (entry_of o ∷ []) (map entry_of os)
    by None is more other = ap (λ es. entries_in r ++ es)
        (other ∙ ap (λ (x : Entry). x ∷ map entry_of os) (entry_at_once o))

pub runs_are_objects : RunsAreObjects
runs_are_objects [] = refl
runs_are_objects (o ∷ os) =
    from_run (alone o) os ∙ ap (λ (x : Entry). x ∷ map entry_of os) (entry_at_once o)
