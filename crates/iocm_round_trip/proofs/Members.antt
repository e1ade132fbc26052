-- A configuration is told by which records are in it, where no key stands twice.
use Rattle.std.proofs.Common.{◌≡◌, ◌⊎◌, inl, inr, true, false, Bool, cond, Option, Some, None, List, [], ◌∷◌, map, refl}
use Rattle.std.proofs.Common.{sym, ap, subst, ◌∙◌}
use Rattle.std.specs.Ordering.{eq_by_cmp}
use Rattle.std.specs.declared.cmp.Ordering.{Ordering}
use Rattle.std.specs.declared.cmp.Ordering.TheVariants.{Less, Equal, Greater}
use Rattle.std.specs.FinMap.{find, entries, put, get-entries, get-from_entries, entries-insert, same_map}
use Rattle.std.specs.FinMap.Entries.{by_order}
use Rattle.iocm_types.specs.declared.key.Key.{Key}
use Rattle.iocm_types.specs.Key.{key_cmp}
use Rattle.iocm_types.specs.KeyOrder.{keys_total, keys_exact}
use Rattle.iocm_types.proofs.Found.{same_key, ties_itself}
use Rattle.iocm_model.specs.Machine.Record.{Rec, key_of}
use Rattle.iocm_model.specs.Machine.Configuration.{with_keys, configuration_of, records_of, HasNoKeyTwice}
use Rattle.iocm_config.proofs.Keyed.{keyed_made}
use Rattle.iocm_round_trip.proofs.Among.{IsAmong}

-- the first of these records that stands under a key
abbrev found : Key → List Rec → Option Rec
found q rs = find key_cmp q (with_keys rs)

some_is_not_none : {X : Type 0} (x : X) → ◌≡◌ {A = Option X} (Some x) None → ⊥
some_is_not_none x e = cc

-- ---- what is found is among the records, and what is among them is found

-- a record of these, under its own key
record IsMember (q : Key) (r : Rec) (rs : List Rec) : Type 0 where
  pub there : IsAmong r rs
  pub own : key_of r ≡ q

found_is_member : (q : Key) (r : Rec) (rs : List Rec) → found q rs ≡ Some r → IsMember q r rs
found_is_member q r [] is = cc
found_is_member q r (x ∷ rs) is = by (eq_by_cmp key_cmp q (key_of x)) refl is (found_is_member q r rs)
  where
    by : (b : Bool) → eq_by_cmp key_cmp q (key_of x) ≡ b → cond b (Some x) (found q rs) ≡ Some r
        → (found q rs ≡ Some r → IsMember q r rs) → IsMember q r (x ∷ rs)
    by true ties is later =
        let same : x ≡ r = cc in
        record { there = inl same; own = ap key_of (sym same) ∙ sym (same_key key_cmp keys_exact q (key_of x) ties) }
    by false differs is later = let member = later is in record { there = inr member.there; own = member.own }

-- a record that is there is not missing
not_missing : (r : Rec) (rs : List Rec) → IsAmong r rs → found (key_of r) rs ≡ None → ⊥
not_missing r [] is none = is
not_missing r (x ∷ rs) (inl e) none =
    let ties : eq_by_cmp key_cmp (key_of r) (key_of x) ≡ true =
    ap (λ y. eq_by_cmp key_cmp (key_of r) (key_of y)) e ∙ ties_itself key_cmp keys_total (key_of r) in
    some_is_not_none x (ap (λ b. cond b (Some x) (found (key_of r) rs)) (sym ties) ∙ none)
not_missing r (x ∷ rs) (inr is) none = by (eq_by_cmp key_cmp (key_of r) (key_of x)) none (not_missing r rs is)
  where
    by : (b : Bool) → cond b (Some x) (found (key_of r) rs) ≡ None → (found (key_of r) rs ≡ None → ⊥) → ⊥
    by true none later = some_is_not_none x none
    by false none later = later none

-- ---- where no key stands twice, records of one key are one

same_member : (r s : Rec) (rs : List Rec) → HasNoKeyTwice rs → IsAmong r rs → IsAmong s rs → key_of r ≡ key_of s → r ≡ s
same_member r s [] apart first second key = absurd first
same_member r s (x ∷ rs) apart (inl e) (inl f) key = sym e ∙ f
same_member r s (x ∷ rs) apart (inl e) (inr is) key =
    absurd (not_missing s rs is (ap (λ k. found k rs) (sym key ∙ ap key_of (sym e)) ∙ apart.0))
same_member r s (x ∷ rs) apart (inr is) (inl f) key =
    absurd (not_missing r rs is (ap (λ k. found k rs) (key ∙ ap key_of (sym f)) ∙ apart.0))
same_member r s (x ∷ rs) apart (inr is) (inr is') key = same_member r s rs apart.1 is is' key

-- lists with the same records have the same configuration, where no key stands twice
module _ (xs ys : List Rec) (apart : HasNoKeyTwice ys)
    (there : (r : Rec) → IsAmong r xs → IsAmong r ys) (back : (r : Rec) → IsAmong r ys → IsAmong r xs) where
  same_found : (q : Key) → found q xs ≡ found q ys
  same_found q = by (found q xs) refl (found q ys) refl
    where
      by : (o : Option Rec) → found q xs ≡ o → (p : Option Rec) → found q ys ≡ p → o ≡ p
      by None here None others = refl
      by (Some r) here None others =
          let member = found_is_member q r xs here in
          absurd (not_missing r ys (there r member.there) (ap (λ k. found k ys) member.own ∙ others))
      by None here (Some s) others =
          let member = found_is_member q s ys others in
          absurd (not_missing s xs (back s member.there) (ap (λ k. found k xs) member.own ∙ here))
      by (Some r) here (Some s) others =
          let first = found_is_member q r xs here in
          let second = found_is_member q s ys others in
          ap Some (same_member r s ys apart (there r first.there) second.there (first.own ∙ sym second.own))

  pub same_configuration : configuration_of xs ≡ configuration_of ys
  same_configuration =
      same_map keys_total keys_exact (configuration_of xs) (configuration_of ys)
      (λ q. get-from_entries keys_total (with_keys xs) q ∙ same_found q
      ∙ sym (get-from_entries keys_total (with_keys ys) q))

-- ---- the records of a configuration

-- of each key the configuration has what is found first
found_in : (rs : List Rec) (q : Key) → found q (records_of (configuration_of rs)) ≡ found q rs
found_in rs q =
    ap (find key_cmp q) (sym (keyed_made rs)) ∙ sym (get-entries (configuration_of rs) q)
    ∙ get-from_entries keys_total (with_keys rs) q

-- what was put into entries, or was among them
among_put : (k : Key) (v r : Rec) (es : List (Key × Rec))
    → IsAmong r (map (λ e. e.1) (put key_cmp k v es)) → (v ≡ r) ⊎ IsAmong r (map (λ e. e.1) es)
among_put k v r [] is = is
among_put k v r (e ∷ es) is = by (key_cmp k e.0) is (among_put k v r es)
  where
    by : (o : Ordering) → IsAmong r
        (map (λ e. e.1) (by_order o ((k, v) ∷ e ∷ es) ((e.0, v) ∷ es) (e ∷ put key_cmp k v es)))
        → (IsAmong r (map (λ e. e.1) (put key_cmp k v es)) → (v ≡ r) ⊎ IsAmong r (map (λ e. e.1) es))
        → (v ≡ r) ⊎ IsAmong r (map (λ e. e.1) (e ∷ es))
    by Less is later = is
    by Equal (inl new) later = inl new
    by Equal (inr old) later = inr (inr old)
    by Greater (inl first) later = inr (inl first)
    by Greater (inr rest) later = in_rest (later rest)
      where
        in_rest : (v ≡ r) ⊎ IsAmong r (map (λ e. e.1) es) → (v ≡ r) ⊎ IsAmong r (map (λ e. e.1) (e ∷ es))
        in_rest (inl new) = inl new
        in_rest (inr old) = inr (inr old)

-- a record of the configuration of records is one of these
pub was_among : (r : Rec) (rs : List Rec) → IsAmong r (records_of (configuration_of rs)) → IsAmong r rs
was_among r [] is = absurd (not_missing r (records_of (configuration_of [])) is (found_in [] (key_of r)))
was_among r (x ∷ rs) is =
    by (among_put (key_of x) x r (entries (configuration_of rs))
    (subst (λ es. IsAmong r (map (λ (e : Key × Rec). e.1) es))
    (entries-insert keys_total (configuration_of rs) (key_of x) x) is)) (was_among r rs)
  where
    by : (x ≡ r) ⊎ IsAmong r (records_of (configuration_of rs))
        → (IsAmong r (records_of (configuration_of rs)) → IsAmong r rs) → IsAmong r (x ∷ rs)
    by (inl first) earlier = inl first
    by (inr rest) earlier = inr (earlier rest)

-- and where no key stands twice, each of these is in it
pub stays_among : (r : Rec) (rs : List Rec) → HasNoKeyTwice rs → IsAmong r rs
    → IsAmong r (records_of (configuration_of rs))
stays_among r rs apart is = by (found (key_of r) rs) refl
  where
    by : (o : Option Rec) → found (key_of r) rs ≡ o → IsAmong r (records_of (configuration_of rs))
    by None none = absurd (not_missing r rs is none)
    by (Some s) here =
        let member = found_is_member (key_of r) s rs here in
        let kept = found_is_member (key_of r) s (records_of (configuration_of rs)) (found_in rs (key_of r) ∙ here) in
        subst (λ x. IsAmong x (records_of (configuration_of rs))) (same_member s r rs apart member.there is member.own)
        kept.there
