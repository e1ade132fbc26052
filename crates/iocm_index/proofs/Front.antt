-- Who names a thing stands together in the order of namings: from the first of them on, at the
-- front.
use Rattle.std.proofs.Common.{◌≡◌, T, Bool, true, cond, List, [], ◌∷◌, map, filter, refl, sym, ap, ◌∙◌}
use Rattle.std.specs.Ordering.{is_le, is_eq, eq_by_cmp, ordering_then, ordering_reverse}
use Rattle.std.specs.Cmp.{IsTotalOrder, on_total, then_total}
use Rattle.std.specs.Cmp.Lexicographic.{nat_list_cmp_total}
use Rattle.std.specs.declared.cmp.Ordering.{Ordering}
use Rattle.std.specs.declared.cmp.Ordering.TheVariants.{Less, Equal, Greater}
use Rattle.std.specs.FinMap.Entries.{below_all, is_sorted}
use Rattle.iocm_types.specs.declared.key.Key.{Key}
use Rattle.iocm_types.specs.declared.key.Key.TheVariants as key
use Rattle.iocm_types.specs.declared.named.Named.{Named}
use Rattle.iocm_types.specs.declared.naming.Naming.{Naming}
use Rattle.iocm_types.specs.Key.{key_cmp}
use Rattle.iocm_types.specs.KeyOrder.{keys_total}
use Rattle.iocm_types.specs.Naming.{numbers_of_named, named_cmp, naming_cmp}
use Rattle.iocm_types.proofs.Orderings.{less_is}
use Rattle.iocm_types.proofs.Tests.{first_holds, second_holds}
use Rattle.iocm_table.specs.Slots.{rows_from}
use Rattle.iocm_index.specs.Namings.{users_in_front}

abbrev pub Listed : Type 0
Listed = List (Naming × Unit {0})

pub named_total : IsTotalOrder named_cmp
named_total = on_total numbers_of_named nat_list_cmp_total

pub namings_total : IsTotalOrder naming_cmp
namings_total = then_total (on_total (λ (n : Naming). n.named) named_total)
    (on_total (λ (n : Naming). n.user) keys_total)

-- no key is before that of the ID statement
first_key : (k : Key) → is_le (key_cmp key.Id k) ≡ true
first_key key.Id = refl
first_key key.Resource = refl
first_key (key.Image a b) = refl
first_key (key.Limit a b) = refl
first_key (key.Path a b) = refl
first_key (key.Unit a) = refl
first_key (key.Device a b) = refl
first_key (key.Online a b c) = refl

-- the namings of a thing, in any order
abbrev pub is_of : Named → Naming × Unit {0} → Bool
is_of named e = eq_by_cmp named_cmp named e.0.named

abbrev pub users : Named → Listed → List Key
users named es = map (λ e. e.0.user) (filter (is_of named) es)

-- of two comparisons one after the other that are less, the first isn't greater
not_after : (r s : Ordering) → ordering_then r s ≡ Less → (named x y : Named) → named_cmp x y ≡ r
    → named_cmp named x ≡ Less → named_cmp named y ≡ Less
not_after Less s e named x y is less = named_total.trans named x y less is
not_after Equal s e named x y is less = sym (apart named x y is) ∙ less
  where
    apart : (n a b : Named) → named_cmp a b ≡ Equal → named_cmp n a ≡ named_cmp n b
    apart n a b tie = named_total.antisymm n a ∙ ap ordering_reverse (named_total.congr a b n tie)
        ∙ sym (named_total.antisymm n b)
not_after Greater s e named x y is less = cc

-- what is after a naming of a later thing is of later things
none_after : (named : Named) (n : Naming) (es : Listed) → named_cmp named n.named ≡ Less → T (below_all naming_cmp n es)
    → users named es ≡ []
none_after named n [] less below = refl
none_after named n (e ∷ es) less below =
    let later = not_after (named_cmp n.named e.0.named) (key_cmp n.user e.0.user) (less_is _ (first_holds _ _ below))
    named n.named e.0.named refl less in
    ap (λ r. map (λ (f : Naming × Unit {0}). f.0.user)
    (cond (is_eq r) (e ∷ filter (is_of named) es) (filter (is_of named) es))) later
    ∙ none_after named n es less (second_holds _ _ below)

-- the first naming of a thing that there can be
abbrev first_of : Named → Naming
first_of named = record { named = named; user = key.Id }

front_at : (named : Named) (e : Naming × Unit {0}) (es : Listed) (r : Ordering) → named_cmp named e.0.named ≡ r
    → T (below_all naming_cmp e.0 es)
    → users_in_front named (rows_from naming_cmp (first_of named) es) ≡ users named es
    → users_in_front named (cond (is_le (ordering_then r (key_cmp key.Id e.0.user)))
    (e ∷ rows_from naming_cmp (first_of named) es) (rows_from naming_cmp (first_of named) es))
    ≡ map (λ (f : Naming × Unit {0}). f.0.user) (cond (is_eq r) (e ∷ filter (is_of named) es) (filter (is_of named) es))
front_at named e es Less is below same =
    ap (λ r. cond (is_eq r) (e.0.user ∷ users_in_front named (rows_from naming_cmp (first_of named) es)) []) is
    ∙ sym (none_after named e.0 es is below)
front_at named e es Equal is below same =
    ap (λ b. users_in_front named
    (cond b (e ∷ rows_from naming_cmp (first_of named) es) (rows_from naming_cmp (first_of named) es)))
    (first_key e.0.user)
    ∙ ap (λ r. cond (is_eq r) (e.0.user ∷ users_in_front named (rows_from naming_cmp (first_of named) es)) []) is
    ∙ ap (λ ks. e.0.user ∷ ks) same
front_at named e es Greater is below same = same

-- of namings in order, from the first of a thing on its namings are at the front
pub users_stand_in_front : (named : Named) (es : Listed) → T (is_sorted naming_cmp es)
    → users_in_front named (rows_from naming_cmp (first_of named) es) ≡ users named es
users_stand_in_front named [] sorted = refl
users_stand_in_front named (e ∷ es) sorted = front_at named e es (named_cmp named e.0.named) refl
    (first_holds _ _ sorted)
    (users_stand_in_front named es (second_holds _ _ sorted))
