-- A walk over the records of one kind finds the first of all records that is so.
use Rattle.std.proofs.Common.{◌≡◌, ℕ, ◌≤◌, Bool, true, false, cond, nat_lt, ◌||◌, is_some, None, Some, List, [], ◌∷◌, T}
use Rattle.std.proofs.Common.{refl, sym, ap, subst, ◌∙◌, arith}
use Rattle.std.proofs.lemmas.Bool.{false≢true}
use Rattle.std.proofs.lemmas.Bool.Decides.{nat_tests}
use Rattle.std.proofs.lemmas.Map.Keys.{ge_from_not_lt}
use Rattle.std.specs.Cmp.{nat_cmp_total}
use Rattle.std.specs.Cmp.Lexicographic.{slice_cmp}
use Rattle.std.specs.List.{list_any}
use Rattle.std.specs.Option.{option_map}
use Rattle.std.specs.Ordering.{is_le, is_lt, nat_cmp, ordering_then, ordering_reverse}
use Rattle.std.specs.declared.cmp.Ordering.{Ordering}
use Rattle.std.specs.declared.cmp.Ordering.TheVariants.{Less, Equal, Greater}
use Rattle.std.specs.FinMap.{entries, entries_sorted, is_sorted}
use Rattle.std.specs.FinMap.Entries.{below_all, is_sorted-where_key}
use Rattle.iocm_types.specs.declared.key.Key.{Key}
use Rattle.iocm_types.specs.declared.key.Key.TheVariants as key
use Rattle.iocm_types.specs.Key.{key_cmp, numbers_of}
use Rattle.iocm_types.proofs.Orderings.{less_is}
use Rattle.iocm_types.proofs.Tests.{first_holds, second_holds}
use Rattle.iocm_table.specs.Slots.{rows_from}
use Rattle.iocm_model.specs.Machine.Record.{Rec, key_of}
use Rattle.iocm_model.specs.Machine.Configuration.{Configuration, IsKeyed, with_keys, records_of}
use Rattle.iocm_model.specs.Rules.FirstBreach.{first_record}
use Rattle.iocm_lookup.specs.Entries.{in_entries, AreOwn}
use Rattle.iocm_lookup.specs.Kinds.{kind_of, IsBeforeKind}

own_keys : (rs : List Rec) → AreOwn (with_keys rs)
own_keys [] = tt
own_keys (r ∷ rs) = (refl, own_keys rs)

-- so are those of a configuration
pub own_entries : (c : Configuration) → IsKeyed c → AreOwn (entries c)
own_entries c keyed = subst AreOwn (sym keyed) (own_keys (records_of c))

-- what a walk that looks for the first record that is so has left: entries in order, of which the
-- first is that of all records
pub record IsLeft (is_so : Rec → Bool) (records : List Rec) (es : List (Key × Rec)) : Type 0 where
  pub own : AreOwn es
  pub up : T (is_sorted key_cmp es)
  pub same : first_record is_so (in_entries es) ≡ first_record is_so records

-- only records of a kind are so
abbrev pub AreOfKind : (Rec → Bool) → ℕ → Type 0
AreOfKind is_so place = (r : Rec) → is_so r ≡ true → kind_of (key_of r) ≡ place

-- ---- from the first key on

pub own_from : (first : Key) (es : List (Key × Rec)) → AreOwn es → AreOwn (rows_from key_cmp first es)
own_from first [] own = tt
own_from first (e ∷ es) own = by (is_le (key_cmp first e.0)) (own_from first es own.1)
  where
    by : (b : Bool) → AreOwn (rows_from key_cmp first es)
        → AreOwn (cond b (e ∷ rows_from key_cmp first es) (rows_from key_cmp first es))
    by true rest = (own.0, rest)
    by false rest = rest

module _ (is_so : Rec → Bool) (first : Key)
    (from : (r : Rec) → is_so r ≡ true → is_le (key_cmp first (key_of r)) ≡ true) where
  -- a record that stands before the first key is not so
  not_so : (e : Key × Rec) → e.0 ≡ key_of e.1 → is_le (key_cmp first e.0) ≡ false → (b : Bool) → is_so e.1 ≡ b
      → is_so e.1 ≡ false
  not_so e own behind true so =
      let no : is_le (key_cmp first e.0) ≡ true = ap (λ (k : Key). is_le (key_cmp first k)) own ∙ from e.1 so in cc
  not_so e own behind false so = so

  same_from : (es : List (Key × Rec)) → AreOwn es
      → first_record is_so (in_entries (rows_from key_cmp first es)) ≡ first_record is_so (in_entries es)
  unfolding first_record
  same_from [] own = refl
  same_from (e ∷ es) own = by (is_le (key_cmp first e.0)) refl (same_from es own.1)
    where
      by : (b : Bool) → is_le (key_cmp first e.0) ≡ b
          → first_record is_so (in_entries (rows_from key_cmp first es)) ≡ first_record is_so (in_entries es)
          → first_record is_so (in_entries (cond b (e ∷ rows_from key_cmp first es) (rows_from key_cmp first es)))
          ≡ cond (is_so e.1) (Some e.1) (first_record is_so (in_entries es))
      by true is same = ap (cond (is_so e.1) (Some e.1)) same
      by false is same = same ∙ ap (λ b. cond b (Some e.1) (first_record is_so (in_entries es)))
          (sym (not_so e own.0 is (is_so e.1) refl))

  -- from a key on that none that is so stands before nothing is missed
  pub left_from : (c : Configuration) → IsKeyed c → IsLeft is_so (records_of c) (rows_from key_cmp first (entries c))
  left_from c keyed =
      let own = own_entries c keyed in record {
        own = own_from first (entries c) own;
        up = is_sorted-where_key key_cmp (λ k. is_le (key_cmp first k)) (entries c) (entries_sorted c);
        same = same_from (entries c) own;
      }

-- from the first key of its kind on nothing is missed
pub left_at_first : (is_so : Rec → Bool) (place : ℕ) (first : Key) → IsBeforeKind first place → AreOfKind is_so place
    → (c : Configuration) → IsKeyed c → IsLeft is_so (records_of c) (rows_from key_cmp first (entries c))
left_at_first is_so place first before of_kind = left_from is_so first (λ r so. before (key_of r) (of_kind r so))

-- ---- one entry more

module _ (is_so : Rec → Bool) (records : List Rec) (e : Key × Rec) (es : List (Key × Rec)) where
  -- one that isn't so is passed by
  pub passed_by : is_so e.1 ≡ false → IsLeft is_so records (e ∷ es) → IsLeft is_so records es
  unfolding first_record
  passed_by not left = record {
    own = left.own.1;
    up = second_holds _ _ left.up;
    same = ap (λ b. cond b (Some e.1) (first_record is_so (in_entries es))) (sym not) ∙ left.same;
  }

  -- one that is so is the first
  pub found_here : is_so e.1 ≡ true → IsLeft is_so records (e ∷ es)
      → Some e.0 ≡ option_map key_of (first_record is_so records)
  unfolding first_record
  found_here so left =
      ap Some left.own.0 ∙ ap (λ b. option_map key_of (cond b (Some e.1) (first_record is_so (in_entries es)))) (sym so)
      ∙ ap (option_map key_of) left.same

-- ---- past the kind

-- the numbers of a key without the place of its kind
abbrev rest_of : Key → List ℕ
rest_of key.Id = []
rest_of key.Resource = []
rest_of (key.Image css mif) = css ∷ mif ∷ []
rest_of (key.Limit css set) = css ∷ set ∷ []
rest_of (key.Path css number) = css ∷ number ∷ []
rest_of (key.Unit number) = number ∷ []
rest_of (key.Device set number) = set ∷ number ∷ []
rest_of (key.Online css path name) = css ∷ path ∷ name

begins_with_kind : (k : Key) → numbers_of k ≡ kind_of k ∷ rest_of k
begins_with_kind key.Id = refl
begins_with_kind key.Resource = refl
begins_with_kind (key.Image css mif) = refl
begins_with_kind (key.Limit css set) = refl
begins_with_kind (key.Path css number) = refl
begins_with_kind (key.Unit number) = refl
begins_with_kind (key.Device set number) = refl
begins_with_kind (key.Online css path name) = refl

pub not_behind : (a b : ℕ) (r s : Ordering) → nat_cmp a b ≡ r → ordering_then r s ≡ Less → a ≤ b
not_behind a b Less s is less = ge_from_not_lt b a (ap is_lt (nat_cmp_total.antisymm b a ∙ ap ordering_reverse is))
not_behind a b Equal s is less = ge_from_not_lt b a (ap is_lt (nat_cmp_total.antisymm b a ∙ ap ordering_reverse is))
not_behind a b Greater s is less = cc

-- a key that stands behind another is not of a kind before it
pub kinds_rise : (a b : Key) → key_cmp a b ≡ Less → kind_of a ≤ kind_of b
kinds_rise a b less = not_behind (kind_of a) (kind_of b) (nat_cmp (kind_of a) (kind_of b))
    (slice_cmp nat_cmp (rest_of a) (rest_of b)) refl
    (sym (λ i. slice_cmp nat_cmp (begins_with_kind a i) (begins_with_kind b i)) ∙ less)

-- keys behind all records that are so; what is behind such a key is one
pub record AreBehind (is_so : Rec → Bool) (past : Key → Bool) : Type 0 where
  pub rise : (a b : Key) → key_cmp a b ≡ Less → past a ≡ true → past b ≡ true
  pub none : (r : Rec) → is_so r ≡ true → past (key_of r) ≡ false

module _ (is_so : Rec → Bool) (past : Key → Bool) (behind : AreBehind is_so past) where
  -- a record at such a key is not so
  not_past : (e : Key × Rec) → e.0 ≡ key_of e.1 → past e.0 ≡ true → (b : Bool) → is_so e.1 ≡ b → is_so e.1 ≡ false
  not_past e own is true so = absurd (false≢true (sym (ap past own ∙ behind.none e.1 so) ∙ is))
  not_past e own is false so = so

  none_behind : (k : Key) (es : List (Key × Rec)) → past k ≡ true → AreOwn es → T (below_all key_cmp k es)
      → first_record is_so (in_entries es) ≡ None
  unfolding first_record
  none_behind k [] is own below = refl
  none_behind k (e ∷ es) is own below =
      let here = behind.rise k e.0 (less_is _ (first_holds (is_lt (key_cmp k e.0)) _ below)) is in
      ap (λ b. cond b (Some e.1) (first_record is_so (in_entries es))) (not_past e own.0 here (is_so e.1) refl)
      ∙ none_behind k es is own.1 (second_holds _ _ below)

  -- where the walk is behind them, no record is so
  pub none_from : (records : List Rec) (e : Key × Rec) (es : List (Key × Rec)) → past e.0 ≡ true
      → IsLeft is_so records (e ∷ es)
      → None ≡ option_map key_of (first_record is_so records)
  unfolding first_record
  none_from records e es is left =
      sym (ap (option_map key_of) (sym left.same
      ∙ ap (λ b. cond b (Some e.1) (first_record is_so (in_entries es))) (not_past e left.own.0 is (is_so e.1) refl)
      ∙ none_behind e.0 es is left.own.1 (first_holds _ _ left.up)))

later_kind : (is_so : Rec → Bool) (place : ℕ) → AreOfKind is_so place → AreBehind is_so (λ k. nat_lt place (kind_of k))
later_kind is_so place of_kind = record {
  rise = λ a b less past. let up = kinds_rise a b less in grind (arith, nat_tests);
  none = λ r so. let same = of_kind r so in grind (arith, nat_tests);
}

-- where the walk is past the kind, no record is so
pub none_past : (is_so : Rec → Bool) (place : ℕ) → AreOfKind is_so place
    → (records : List Rec) (e : Key × Rec) (es : List (Key × Rec))
    → nat_lt place (kind_of e.0) ≡ true → IsLeft is_so records (e ∷ es)
    → None ≡ option_map key_of (first_record is_so records)
none_past is_so place of_kind = none_from is_so (λ k. nat_lt place (kind_of k)) (later_kind is_so place of_kind)

-- where nothing is left, no record is so
pub none_left : (is_so : Rec → Bool) (records : List Rec) → IsLeft is_so records []
    → None ≡ option_map key_of (first_record is_so records)
unfolding first_record
none_left is_so records left = ap (option_map key_of) left.same

-- the first is there where any is
pub first_of_any : (is_so : Rec → Bool) (rs : List Rec)
    → is_some (option_map key_of (first_record is_so rs)) ≡ list_any is_so rs
unfolding first_record
first_of_any is_so [] = refl
first_of_any is_so (r ∷ rs) = by (is_so r) (first_of_any is_so rs)
  where
    by : (b : Bool) → is_some (option_map key_of (first_record is_so rs)) ≡ list_any is_so rs
        → is_some (option_map key_of (cond b (Some r) (first_record is_so rs))) ≡ (b || list_any is_so rs)
    by true more = refl
    by false more = more

-- where none is so, there is no first
pub none_so : (is_so : Rec → Bool) → ((r : Rec) → is_so r ≡ true → ⊥) → (rs : List Rec)
    → None ≡ option_map key_of (first_record is_so rs)
unfolding first_record
none_so is_so never [] = refl
none_so is_so never (r ∷ rs) = by (is_so r) refl (none_so is_so never rs)
  where
    by : (b : Bool) → is_so r ≡ b → None ≡ option_map key_of (first_record is_so rs)
        → None ≡ option_map key_of (cond b (Some r) (first_record is_so rs))
    by true is more = absurd (never r is)
    by false is more = more
