-- A walk over the records of one kind: from its first key on, past it, and what they give.
use Rattle.std.proofs.Common.{◌≡◌, ◌==◌, ◌<◌, ◌≤◌, ◌^◌, ℕ, suc, Bool, true, false, cond, nat_lt, None, Some, List, []}
use Rattle.std.proofs.Common.{◌∷◌, ◌++◌, filter, length, refl, sym, ap, ◌∙◌, arith}
use Rattle.std.proofs.lemmas.Bool.{false≢true}
use Rattle.std.proofs.lemmas.Bool.Decides.{nat_tests}
use Rattle.std.specs.FinMap.{entries, entries_sorted}
use Rattle.std.specs.FinMap.Entries.{is_sorted-where_key}
use Rattle.std.specs.List.{flat_map}
use Rattle.std.specs.Option.{option_map}
use Rattle.std.specs.Ordering.{is_le}
use Rattle.iocm_types.specs.declared.key.Key.{Key}
use Rattle.iocm_types.specs.Key.{key_cmp}
use Rattle.iocm_table.specs.Slots.{rows_from}
use Rattle.iocm_model.specs.Machine.Record.{Rec, key_of}
use Rattle.iocm_model.specs.Machine.Configuration.{Configuration, IsKeyed, records_of}
use Rattle.iocm_model.specs.Rules.FirstBreach.{first_record}
use Rattle.iocm_lookup.specs.Entries.{AreInOrder, AreOwn, in_entries}
use Rattle.iocm_lookup.specs.Kinds.{IsBeforeKind, kind_of, of_kind}
use Rattle.iocm_lookup.proofs.Walks.{own_entries, own_from, none_past}

-- a record is of the kind of a place
abbrev pub is_of : ℕ → Rec → Bool
is_of place r = kind_of (key_of r) == place

pub kind_is : (place : ℕ) (r : Rec) → is_of place r ≡ true → kind_of (key_of r) ≡ place
kind_is place r is = grind (arith, nat_tests)

-- ---- from the first key of the kind on

module _ (place : ℕ) (first : Key) (before : IsBeforeKind first place) where
  -- a record that stands before it is of another kind
  not_of : (e : Key × Rec) → e.0 ≡ key_of e.1 → is_le (key_cmp first e.0) ≡ false → (b : Bool) → is_of place e.1 ≡ b
      → is_of place e.1 ≡ false
  not_of e own behind true so =
      let no : is_le (key_cmp first e.0) ≡ true =
      ap (λ (k : Key). is_le (key_cmp first k)) own ∙ before (key_of e.1) (kind_is place e.1 so) in
      absurd (false≢true (sym behind ∙ no))
  not_of e own behind false so = so

  same_from : (es : List (Key × Rec)) → AreOwn es
      → of_kind place (in_entries (rows_from key_cmp first es)) ≡ of_kind place (in_entries es)
  same_from [] own = refl
  same_from (e ∷ es) own = by (is_le (key_cmp first e.0)) refl (same_from es own.1)
    where
      by : (b : Bool) → is_le (key_cmp first e.0) ≡ b
          → of_kind place (in_entries (rows_from key_cmp first es)) ≡ of_kind place (in_entries es)
          → of_kind place (in_entries (cond b (e ∷ rows_from key_cmp first es) (rows_from key_cmp first es)))
          ≡ cond (is_of place e.1) (e.1 ∷ of_kind place (in_entries es)) (of_kind place (in_entries es))
      by true is same = ap (λ rs. cond (is_of place e.1) (e.1 ∷ rs) rs) same
      by false is same = same ∙ ap (λ b. cond b (e.1 ∷ of_kind place (in_entries es)) (of_kind place (in_entries es)))
          (sym (not_of e own.0 is (is_of place e.1) refl))

  -- nothing is missed
  pub all_from : (c : Configuration) → IsKeyed c
      → of_kind place (in_entries (rows_from key_cmp first (entries c))) ≡ of_kind place (records_of c)
  all_from c keyed = same_from (entries c) (own_entries c keyed)

-- and what is walked over is in order
pub in_order_from : (first : Key) (c : Configuration) → IsKeyed c → AreInOrder (rows_from key_cmp first (entries c))
in_order_from first c keyed = record {
  own = own_from first (entries c) (own_entries c keyed);
  up = is_sorted-where_key key_cmp (λ k. is_le (key_cmp first k)) (entries c) (entries_sorted c);
}

-- ---- one entry more

-- one of the kind is the next
pub next_of : (place : ℕ) (e : Key × Rec) (es : List (Key × Rec)) → AreInOrder (e ∷ es) → (kind_of e.0 == place) ≡ true
    → of_kind place (in_entries (e ∷ es)) ≡ e.1 ∷ of_kind place (in_entries es)
next_of place e es up is = ap (λ b. cond b (e.1 ∷ of_kind place (in_entries es)) (of_kind place (in_entries es)))
    (ap (λ (k : Key). kind_of k == place) (sym up.own.0) ∙ is)

-- one of another kind is passed by
pub passed : (place : ℕ) (e : Key × Rec) (es : List (Key × Rec)) → AreInOrder (e ∷ es) → (kind_of e.0 == place) ≡ false
    → of_kind place (in_entries (e ∷ es)) ≡ of_kind place (in_entries es)
passed place e es up is = ap (λ b. cond b (e.1 ∷ of_kind place (in_entries es)) (of_kind place (in_entries es)))
    (ap (λ (k : Key). kind_of k == place) (sym up.own.0) ∙ is)

-- ---- past the kind

none_kept : (p : Rec → Bool) (rs : List Rec) → None ≡ option_map key_of (first_record p rs) → filter p rs ≡ []
unfolding first_record
none_kept p [] none = refl
none_kept p (r ∷ rs) none = by (p r) none (none_kept p rs)
  where
    by : (b : Bool) → None ≡ option_map key_of (cond b (Some r) (first_record p rs))
        → (None ≡ option_map key_of (first_record p rs) → filter p rs ≡ [])
        → cond b (r ∷ filter p rs) (filter p rs) ≡ []
    by true is more = cc
    by false is more = more is

-- where the walk is past the kind, none of it is left
pub none_is_left : (place : ℕ) (e : Key × Rec) (es : List (Key × Rec)) → AreInOrder (e ∷ es)
    → nat_lt place (kind_of e.0) ≡ true
    → of_kind place (in_entries (e ∷ es)) ≡ []
none_is_left place e es up past = none_kept (is_of place) (in_entries (e ∷ es))
    (none_past (is_of place) place (kind_is place) (in_entries (e ∷ es)) e es past
    (record { own = up.own; up = up.up; same = refl }))

-- nor behind it
pub none_behind_it : (place : ℕ) (e : Key × Rec) (es : List (Key × Rec)) → AreInOrder (e ∷ es)
    → nat_lt place (kind_of e.0) ≡ true
    → of_kind place (in_entries es) ≡ []
none_behind_it place e es up past = sym (passed place e es up not) ∙ none_is_left place e es up past
  where
    not : (kind_of e.0 == place) ≡ false
    not = grind (arith, nat_tests)

-- ---- how many there are

at_most_all : (place : ℕ) (es : List (Key × Rec)) → length (of_kind place (in_entries es)) ≤ length es
at_most_all place [] = omega arith
at_most_all place (e ∷ es) = by (is_of place e.1) (at_most_all place es)
  where
    by : (b : Bool) → length (of_kind place (in_entries es)) ≤ length es
        → length (cond b (e.1 ∷ of_kind place (in_entries es)) (of_kind place (in_entries es))) ≤ suc (length es)
    by true more = omega arith
    by false more = omega arith

pub kind_fits : (place : ℕ) (es : List (Key × Rec)) → length es < 2 ^ 63
    → length (of_kind place (in_entries es)) < 2 ^ 63
kind_fits place es fits = let most = at_most_all place es in omega arith

-- ---- what records give, of which those of other kinds give nothing

-- records of other kinds give nothing
abbrev pub GivesOfKind : {B : Type 0} → ℕ → (Rec → List B) → Type 0
GivesOfKind place gives = (r : Rec) → is_of place r ≡ false → gives r ≡ []

pub given_by_kind : {B : Type 0} (place : ℕ) (gives : Rec → List B) → GivesOfKind place gives → (rs : List Rec)
    → flat_map gives (of_kind place rs) ≡ flat_map gives rs
given_by_kind place gives only [] = refl
given_by_kind place gives only (r ∷ rs) = by (is_of place r) refl (given_by_kind place gives only rs)
  where
    by : (b : Bool) → is_of place r ≡ b → flat_map gives (of_kind place rs) ≡ flat_map gives rs
        → flat_map gives (cond b (r ∷ of_kind place rs) (of_kind place rs)) ≡ gives r ++ flat_map gives rs
    by true is more = ap (λ xs. gives r ++ xs) more
    by false is more = more ∙ ap (λ xs. xs ++ flat_map gives rs) (sym (only r is))
