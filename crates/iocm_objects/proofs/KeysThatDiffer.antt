-- A key is among the objects exactly where it is added, deleted or changed, and they stand in the order of keys.
use Rattle.std.proofs.Common.{◌≡◌, Bool, true, false, not, cond, ◌&&◌, ◌||◌, is_some, Option, None, Some, List, [], ◌∷◌}
use Rattle.std.proofs.Common.{◌++◌, map, filter, refl, sym, ap, subst, ◌∙◌}
use Rattle.std.proofs.lemmas.List.Kept.{IsStrictlySortedBy-filter}
use Rattle.std.specs.List.Sorted.{IsStrictlySortedBy}
use Rattle.iocm_types.proofs.InOrder.{keys_rise}
use Rattle.std.proofs.lemmas.Bool.{and_parts, false≢true}
use Rattle.std.specs.FinMap.{entries, entries_sorted, from_entries, get}
use Rattle.std.specs.List.{flat_map, list_any}
use Rattle.std.specs.Option.{option_or}
use Rattle.std.specs.Ordering.{eq_by_cmp}
use Rattle.iocm_types.specs.declared.key.Key.{Key}
use Rattle.iocm_types.specs.Key.{key_cmp}
use Rattle.iocm_types.specs.KeyOrder.{keys_exact}
use Rattle.iocm_types.proofs.Found.{same_key}
use Rattle.iocm_model.specs.Machine.Record.{Rec}
use Rattle.iocm_model.specs.Machine.Configuration.{Configuration}
use Rattle.iocm_difference.specs.Walks.{Pair}
use Rattle.iocm_difference.proofs.Paired.{has_at, keys_of_both, pairs_listed, there_in_both}
use Rattle.iocm_plan.specs.Objects.{is_added, is_changed, is_deleted, is_of_object, is_same_object}
use Rattle.iocm_objects.specs.declared.object.Change.{Change}
use Rattle.iocm_objects.specs.declared.object.Change.TheVariants.{Added, Deleted, Changed}
use Rattle.iocm_objects.specs.declared.object.Object.{Object}
use Rattle.iocm_objects.specs.Laws.{ObjectsAreTheKeysThatDiffer, ObjectsStandInOrder, has_object}
use Rattle.iocm_objects.specs.Objects.{change_of, object_if, objects, objects_at}

absorbed : (b rest : Bool) → (b || (rest && b)) ≡ b
absorbed true rest = refl
absorbed false true = refl
absorbed false false = refl

both : (a b : Bool) → a ≡ true → b ≡ true → (a && b) ≡ true
both true b is so = so
both false b is so = is

-- an object that differs is told
told_if : (added deleted changed : Bool)
    → (added || (deleted || changed))
    ≡ is_some (cond added (Some Added) (cond deleted (Some Deleted) (cond changed (Some Changed) None)))
told_if true deleted changed = refl
told_if false true changed = refl
told_if false false true = refl
told_if false false false = refl

-- and it is there before or after
there : (is_object : Bool) (a b : Option Rec) (differs : Bool)
    → ((is_object && not (is_some a) && is_some b) || ((is_object && not (is_some b) && is_some a)
    || (is_object && is_some a && is_some b && differs))) ≡ true
    → is_some (option_or a b) ≡ true
there is_object (Some a) b differs is = refl
there is_object None (Some b) differs is = refl
there true None None differs is = absurd (false≢true is)
there false None None differs is = absurd (false≢true is)

module _ (c d : Configuration) where
  -- ---- the objects by their keys

  of_pairs : (ks : List Key)
      → flat_map (λ (p : Pair). objects_at c d p.0) (map (λ key. (key, has_at c d key)) ks)
      ≡ flat_map (objects_at c d) ks
  of_pairs [] = refl
  of_pairs (k ∷ ks) = ap (λ os. objects_at c d k ++ os) (of_pairs ks)

  by_keys : objects c d ≡ flat_map (objects_at c d) (keys_of_both c d)
  by_keys = ap (flat_map (λ (p : Pair). objects_at c d p.0)) (pairs_listed c d) ∙ of_pairs (keys_of_both c d)

  -- ---- a key among them

  told_or : (q k : Key) (o : Option Change) (os : List Object)
      → has_object q (object_if c d k o ++ os) ≡ (cond (eq_by_cmp key_cmp q k) (is_some o) false || has_object q os)
  told_or q k None os = by (eq_by_cmp key_cmp q k)
    where
      by : (b : Bool) → has_object q os ≡ (cond b false false || has_object q os)
      by true = refl
      by false = refl
  told_or q k (Some becomes) os = by (eq_by_cmp key_cmp q k)
    where
      by : (b : Bool) → (b || has_object q os) ≡ (cond b true false || has_object q os)
      by true = refl
      by false = refl

  among : (q : Key) (ks : List Key)
      → has_object q (flat_map (objects_at c d) ks)
      ≡ (list_any (eq_by_cmp key_cmp q) ks && is_some (change_of c d q))
  among q [] = refl
  among q (k ∷ ks) = told_or q k (change_of c d k) (flat_map (objects_at c d) ks)
      ∙ by (eq_by_cmp key_cmp q k) refl (among q ks)
    where
      by : (b : Bool) → eq_by_cmp key_cmp q k ≡ b
          → has_object q (flat_map (objects_at c d) ks)
          ≡ (list_any (eq_by_cmp key_cmp q) ks && is_some (change_of c d q))
          → (cond b (is_some (change_of c d k)) false || has_object q (flat_map (objects_at c d) ks))
          ≡ ((b || list_any (eq_by_cmp key_cmp q) ks) && is_some (change_of c d q))
      by true is rest =
          let same = ap (λ (x : Key). is_some (change_of c d x)) (sym (same_key key_cmp keys_exact q k is)) in
          ap (λ b. b || has_object q (flat_map (objects_at c d) ks)) same
          ∙ ap (λ b. is_some (change_of c d q) || b) rest
          ∙ absorbed (is_some (change_of c d q)) (list_any (eq_by_cmp key_cmp q) ks)
      by false is rest = rest

  found : (q : Key) → has_object q (objects c d)
      ≡ (is_some (option_or (get c q) (get d q)) && is_some (change_of c d q))
  found q = ap (has_object q) by_keys ∙ among q (keys_of_both c d)
      ∙ ap (λ b. b && is_some (change_of c d q)) (there_in_both c d q)

  -- ---- their order

  keys_kept : (ks : List Key)
      → map (λ (o : Object). o.key) (flat_map (objects_at c d) ks) ≡ filter (λ k. is_some (change_of c d k)) ks
  keys_kept [] = refl
  keys_kept (k ∷ ks) = by (change_of c d k) (keys_kept ks)
    where
      by : (o : Option Change)
          → map (λ (o : Object). o.key) (flat_map (objects_at c d) ks) ≡ filter (λ k. is_some (change_of c d k)) ks
          → map (λ (o : Object). o.key) (object_if c d k o ++ flat_map (objects_at c d) ks)
          ≡ cond (is_some o) (k ∷ filter (λ k. is_some (change_of c d k)) ks) (filter (λ k. is_some (change_of c d k)) ks)
      by None rest = rest
      by (Some becomes) rest = ap (λ (qs : List Key). k ∷ qs) rest

  keys_of_objects : map (λ (o : Object). o.key) (objects c d)
      ≡ filter (λ k. is_some (change_of c d k)) (keys_of_both c d)
  keys_of_objects = ap (map (λ (o : Object). o.key)) by_keys ∙ keys_kept (keys_of_both c d)

  both_rise : IsStrictlySortedBy key_cmp (keys_of_both c d)
  both_rise = keys_rise key_cmp (entries all) (entries_sorted all)
    where
      all : Configuration
      all = from_entries (entries c ++ entries d)

pub objects_in_order : ObjectsStandInOrder
objects_in_order c d = subst (IsStrictlySortedBy key_cmp) (sym (keys_of_objects c d))
    (IsStrictlySortedBy-filter key_cmp (λ k. is_some (change_of c d k)) (keys_of_both c d) (both_rise c d))

pub objects_are_keys : ObjectsAreTheKeysThatDiffer
objects_are_keys c d k = (
  λ among. told_if (is_added c d k) (is_deleted c d k) (is_changed c d k)
      ∙ (and_parts (is_some (option_or (get c k) (get d k))) (is_some (change_of c d k)) (sym (found c d k) ∙ among)).1,
  λ differ. found c d k ∙ both (is_some (option_or (get c k) (get d k))) (is_some (change_of c d k))
      (there (is_of_object k) (get c k) (get d k) (not (is_same_object c d k)) differ)
      (sym (told_if (is_added c d k) (is_deleted c d k) (is_changed c d k)) ∙ differ),
)
