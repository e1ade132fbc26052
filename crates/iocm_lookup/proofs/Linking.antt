-- The namings of all records are those that are in an index of the configuration.
use Rattle.std.proofs.Common.{◌≡◌, Bool, true, false, ◌||◌, ◌&&◌, Option, None, Some, List, [], ◌∷◌, map, refl, sym, ap}
use Rattle.std.proofs.Common.{◌∙◌}
use Rattle.std.proofs.lemmas.Bool.{false≢true}
use Rattle.std.specs.List.{list_any}
use Rattle.std.specs.Ordering.{is_eq, eq_by_cmp, ordering_then}
use Rattle.std.specs.declared.cmp.Ordering.{Ordering}
use Rattle.std.specs.declared.cmp.Ordering.TheVariants.{Less, Equal, Greater}
use Rattle.std.specs.FinMap.{get}
use Rattle.iocm_types.specs.declared.key.Key.{Key}
use Rattle.iocm_types.specs.declared.named.Named.{Named}
use Rattle.iocm_types.specs.declared.naming.Naming.{Naming}
use Rattle.iocm_types.specs.Key.{key_cmp}
use Rattle.iocm_types.specs.KeyOrder.{keys_total, keys_exact}
use Rattle.iocm_types.specs.Naming.{named_cmp, naming_cmp}
use Rattle.iocm_types.proofs.Found.{same_key, ties_itself}
use Rattle.iocm_model.specs.Machine.Record.{Rec, key_of}
use Rattle.iocm_model.specs.Machine.Naming.{named_by}
use Rattle.iocm_model.specs.Machine.Configuration.{Configuration, IsKeyed, records_of, lookup_of}
use Rattle.iocm_model.proofs.Machine.OwnKeys.{keyed_own}
use Rattle.iocm_index.specs.Namings.{naming, is_naming_of}
use Rattle.iocm_lookup.specs.Indexed.{names}
use Rattle.iocm_lookup.proofs.Members.{same_tests, record_found, record_there, IsMember}

by_both : (r s : Ordering) → is_eq (ordering_then r s) ≡ (is_eq s && is_eq r)
by_both Less Less = refl
by_both Less Equal = refl
by_both Less Greater = refl
by_both Equal Less = refl
by_both Equal Equal = refl
by_both Equal Greater = refl
by_both Greater Less = refl
by_both Greater Equal = refl
by_both Greater Greater = refl

-- a naming is a record's where the record is its user and names its thing
of_record_by : (n : Naming) (k : Key) (things : List Named) → list_any (eq_by_cmp naming_cmp n) (map (naming k) things)
    ≡ (eq_by_cmp key_cmp n.user k && list_any (eq_by_cmp named_cmp n.named) things)
of_record_by n k [] = sym (and_false (eq_by_cmp key_cmp n.user k))
  where
    and_false : (a : Bool) → (a && false) ≡ false
    and_false true = refl
    and_false false = refl
of_record_by n k (x ∷ xs) =
    (λ i. by_both (named_cmp n.named x) (key_cmp n.user k) i || of_record_by n k xs i)
    ∙ spread (eq_by_cmp key_cmp n.user k) (eq_by_cmp named_cmp n.named x) (list_any (eq_by_cmp named_cmp n.named) xs)
  where
    spread : (a b c : Bool) → ((a && b) || (a && c)) ≡ (a && (b || c))
    spread true b c = refl
    spread false b c = refl

first_part : (a b : Bool) → (a && b) ≡ true → a ≡ true
first_part true b h = refl
first_part false b h = cc

second_part : (a b : Bool) → (a && b) ≡ true → b ≡ true
second_part true b h = h
second_part false b h = cc

module _ (c : Configuration) (keyed : IsKeyed c) (n : Naming) where
  named_there : (o : Option Rec) → get c n.user ≡ o → names n.named o ≡ true
      → list_any (λ r. is_naming_of r n) (records_of c) ≡ true
  named_there None is h = absurd (false≢true h)
  named_there (Some r) is h = record_there c (λ s. is_naming_of s n) n.user r is
      (of_record_by n (key_of r) (named_by r)
      ∙ ap (λ b. b && list_any (eq_by_cmp named_cmp n.named) (named_by r))
      (ap (eq_by_cmp key_cmp n.user) (keyed_own c keyed n.user r is) ∙ ties_itself key_cmp keys_total n.user)
      ∙ h)

  of_member : IsMember c (λ r. is_naming_of r n) → names n.named (get c n.user) ≡ true
  of_member m =
      let both = sym (of_record_by n (key_of m.member) (named_by m.member)) ∙ m.passes in
      let user = same_key key_cmp keys_exact n.user (key_of m.member)
      (first_part (eq_by_cmp key_cmp n.user (key_of m.member)) _ both) in
      ap (names n.named) (ap (get c) user ∙ m.there) ∙ second_part (eq_by_cmp key_cmp n.user (key_of m.member)) _ both

  -- a naming of some record is that of its user's
  pub of_some_record : list_any (λ r. is_naming_of r n) (records_of c) ≡ names n.named (lookup_of c n.user)
  of_some_record = same_tests _ _ (λ any. of_member (record_found c (λ r. is_naming_of r n) keyed any))
      (λ h. named_there (get c n.user) refl h)

-- one record more
pub more_listed : (is rest was now all : Bool) → now ≡ (was || is) → ((is || rest) || was) ≡ all → (rest || now) ≡ all
more_listed true true was now all e f = f
more_listed false true was now all e f = f
more_listed true false true now all e f = e ∙ f
more_listed true false false now all e f = e ∙ f
more_listed false false true now all e f = e ∙ f
more_listed false false false now all e f = e ∙ f

-- none at first
pub none_listed : (all : Bool) → (all || false) ≡ all
none_listed true = refl
none_listed false = refl
