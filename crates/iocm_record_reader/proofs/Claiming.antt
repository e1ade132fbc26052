-- Which keys the records of a deck have, and what a further record does to what is claimed.
use Rattle.std.proofs.Common.{◌≡◌, ℕ, ◌+◌, ◌<◌, ◌≤◌, ◌||◌, ◌⊎◌, ◌==◌, Bool, true, false, cond, List, [], ◌∷◌, ◌++◌}
use Rattle.std.proofs.Common.{length, get_or, take, drop, map, Option, Some, None, is_some, not, Result, Ok, Err}
use Rattle.std.proofs.Common.{add-zero, inl, inr, refl, sym, ap, subst, ◌∙◌}
use Rattle.std.proofs.Math.ListN.{drop_of_length-le}
use Rattle.std.proofs.lemmas.Bool.{true≢false, eq-eqb, eqb-true}
use Rattle.std.proofs.lemmas.List.{get_or-drop, take_all, take_more, map-append, take-append-drop}
use Rattle.std.proofs.lemmas.List.Folds.{list_any-append}
use Rattle.std.specs.Prelude.{IfOk, OnOk}
use Rattle.std.specs.List.{list_any}
use Rattle.std.specs.Ordering.{is_eq, eq_by_cmp}
use Rattle.std.specs.Cmp.{eq_by_cmp_equiv, both_ways, Equal-is}
use Rattle.std.specs.declared.cmp.Ordering.TheVariants.{Less}
use Rattle.std.specs.BTreeSet.{BTreeSet}
use Rattle.std.specs.FinMap.{find}
use Rattle.std.specs.FinMap.Entries.{find-append, is_some-find}
use Rattle.iocm_types.specs.declared.fault.Fault.{Fault}
use Rattle.iocm_types.specs.declared.key.Key.{Key}
use Rattle.iocm_types.specs.Key.{key_cmp}
use Rattle.iocm_types.specs.KeyOrder.{keys_total, keys_exact}
use Rattle.iocm_model.specs.Machine.Record.{Rec, key_of}
use Rattle.iocm_model.specs.Machine.Configuration.{with_keys, HasNoKeyTwice}
use Rattle.iocm_record_reader.specs.declared.claimed.Claimed.{Claimed}
use Rattle.iocm_record_reader.specs.Deck.{with_records, AreRefusedBehind, GoBehind}
use Rattle.iocm_record_reader.specs.Progress.{has_claimed, has_key, last_like, place_of, Claims, IsAfter, IsInSet}
use Rattle.iocm_record_reader.specs.Progress.{IsKept, IsNoted, IsOpened, IsPast, WasNoted}
use Rattle.iocm_types.proofs.Lists.{drop-item}
use Rattle.iocm_types.proofs.Tests.{absent}

-- ---- tests

some_of : {A : Type 0} (b : Bool) (x : A) (o : Option A) → is_some (cond b (Some x) o) ≡ cond b true (is_some o)
some_of true x o = refl
some_of false x o = refl

neither : (b c : Bool) → cond b true c ≡ false → (b ≡ false) × (c ≡ false)
neither true c e = cc
neither false c e = (refl, e)

either : (b c : Bool) → (b ≡ true) ⊎ (c ≡ true) → cond b true c ≡ true
either true c e = refl
either false c (inl e) = absurd (true≢false (sym e))
either false c (inr e) = e

one_holds : (b c : Bool) → cond b true c ≡ true → (b ≡ true) ⊎ (c ≡ true)
one_holds true c e = inl refl
one_holds false c e = inr e

-- ---- keys

ties_alike : (p q : Key) → is_eq (key_cmp p q) ≡ is_eq (key_cmp q p)
ties_alike p q = (eq_by_cmp_equiv keys_total).symm p q

same_key : (p q : Key) → is_eq (key_cmp p q) ≡ true → p ≡ q
same_key p q e = keys_exact p q ((Equal-is (key_cmp p q)).0 e)

before_ties_not : (p q : Key) → key_cmp p q ≡ Less → is_eq (key_cmp q p) ≡ false
before_ties_not p q before = ties_alike q p ∙ ap is_eq before

-- ---- the records' keys

keyed_push : (records : List Rec) (r : Rec) → with_keys (records ++ r ∷ []) ≡ with_keys records ++ (key_of r, r) ∷ []
keyed_push records r = map-append (λ (x : Rec). (key_of x, x)) records (r ∷ [])

-- the keys with a further record whose key is new
pub has_key_push : (records : List Rec) (r : Rec) (q : Key) → has_key records (key_of r) ≡ false
    → has_key (records ++ r ∷ []) q ≡ cond (is_eq (key_cmp q (key_of r))) true (has_key records q)
has_key_push records r q new =
    rw (keyed_push records r, find-append key_cmp keys_total (with_keys records) (key_of r) r q (absent _ new))
    (some_of (is_eq (key_cmp q (key_of r))) r (find key_cmp q (with_keys records)))

-- a key that isn't there is neither the first record's nor another's
new_to_both : (x : Rec) (records : List Rec) (key : Key) → has_key (x ∷ records) key ≡ false
    → (is_eq (key_cmp key (key_of x)) ≡ false) × (has_key records key ≡ false)
new_to_both x records key new = neither (is_eq (key_cmp key (key_of x))) (has_key records key)
    (sym (some_of (is_eq (key_cmp key (key_of x))) x (find key_cmp key (with_keys records))) ∙ new)

-- no key stands twice with a further record whose key is new
pub apart_push : (records : List Rec) (r : Rec) → has_key records (key_of r) ≡ false → HasNoKeyTwice records
    → HasNoKeyTwice (records ++ r ∷ [])
apart_push [] r new apart = (refl, tt)
apart_push (x ∷ records) r new apart =
    let both = new_to_both x records (key_of r) new in (
      rw (
        keyed_push records r,
        find-append key_cmp keys_total (with_keys records) (key_of r) r (key_of x) (absent _ both.1),
        (eq_by_cmp_equiv keys_total).symm (key_of x) (key_of r),
        both.0,
      ) apart.0,
      apart_push records r both.1 apart.1,
    )

-- ---- a key that goes into the set

-- the set tells of a key whether it is new
set_tells : (old : Claimed) (earlier : List Rec) (key : Key) → IsKept old earlier → IsInSet old.lasts
    → has_claimed old.keys key ≡ has_key earlier key
set_tells old earlier key kept inside =
    both_ways (has_claimed old.keys key) (has_key earlier key) (kept.only key) (kept.all key inside)

-- where only the set tells, no key is past the others
inside_not_past : (lasts : Option (List (Option Key))) (q : Key) → IsInSet lasts → IsPast lasts q → ⊥
inside_not_past None q inside past = past
inside_not_past (Some lasts) q inside past = inside

pub put_claims : (old new : Claimed) (earlier : List Rec) (key : Key) (is_new : Bool) → IsInSet old.lasts
    → is_new ≡ not (has_claimed old.keys key)
    → ((q : Key) → has_claimed new.keys q ≡ cond (is_eq (key_cmp key q)) true (has_claimed old.keys q))
    → new.lasts ≡ old.lasts → Claims old earlier key is_new new
put_claims old new earlier key is_new inside told grows same kept =
    (told ∙ ap not (set_tells old earlier key kept inside), goes_in)
  where
    goes_in : (r : Rec) → key_of r ≡ key → has_key earlier key ≡ false → IsKept new (earlier ++ r ∷ [])
    goes_in r is none = record
        { only = only; all = all; past = past; apart = apart_push earlier r none_of_r kept.apart }
      where
        none_of_r : has_key earlier (key_of r) ≡ false
        none_of_r = ap (has_key earlier) is ∙ none

        pushed : (q : Key) → has_key (earlier ++ r ∷ []) q ≡ cond (is_eq (key_cmp q key)) true (has_key earlier q)
        pushed q = has_key_push earlier r q none_of_r ∙ ap (λ k. cond (is_eq (key_cmp q k)) true (has_key earlier q)) is

        put : (q : Key) → has_claimed new.keys q ≡ cond (is_eq (key_cmp q key)) true (has_claimed old.keys q)
        put q = grows q ∙ ap (λ b. cond b true (has_claimed old.keys q)) (ties_alike key q)

        only : (q : Key) → has_claimed new.keys q ≡ true → has_key (earlier ++ r ∷ []) q ≡ true
        only q claimed = pushed q
            ∙ by (one_holds (is_eq (key_cmp q key)) (has_claimed old.keys q) (sym (put q) ∙ claimed))
          where
            by : (is_eq (key_cmp q key) ≡ true) ⊎ (has_claimed old.keys q ≡ true)
                → cond (is_eq (key_cmp q key)) true (has_key earlier q) ≡ true
            by (inl e) = either _ _ (inl e)
            by (inr e) = either _ _ (inr (kept.only q e))

        all : (q : Key) → IsInSet new.lasts → has_key (earlier ++ r ∷ []) q ≡ true → has_claimed new.keys q ≡ true
        all q within there = put q ∙ by (one_holds (is_eq (key_cmp q key)) (has_key earlier q) (sym (pushed q) ∙ there))
          where
            by : (is_eq (key_cmp q key) ≡ true) ⊎ (has_key earlier q ≡ true)
                → cond (is_eq (key_cmp q key)) true (has_claimed old.keys q) ≡ true
            by (inl e) = either _ _ (inl e)
            by (inr e) = either _ _ (inr (kept.all q (subst IsInSet same within) e))

        past : (q : Key) → IsPast new.lasts q → has_key (earlier ++ r ∷ []) q ≡ false
        past q far = absurd (inside_not_past old.lasts q inside (subst (λ l. IsPast l q) same far))

-- the same where the set was asked
pub put_claims_if : {E : Type 0} (result : Result Bool E) (old new : Claimed) (earlier : List Rec) (key : Key)
    → IsInSet old.lasts
    → IfOk result (λ added. added ≡ not (has_claimed old.keys key))
    → OnOk result ((q : Key) → has_claimed new.keys q ≡ cond (is_eq (key_cmp key q)) true (has_claimed old.keys q))
    → new.lasts ≡ old.lasts → IfOk result (λ is_new. Claims old earlier key is_new new)
put_claims_if (Ok is_new) old new earlier key inside told grows same =
    put_claims old new earlier key is_new inside told grows same
put_claims_if (Err e) old new earlier key inside told grows same = tt

-- and where all keys went into it before
pub put_claims_after : {E : Type 0} (result : Result Bool E) (old whole new : Claimed) (earlier : List Rec) (key : Key)
    → IsOpened old earlier whole
    → IfOk result (λ added. added ≡ not (has_claimed whole.keys key))
    → OnOk result ((q : Key) → has_claimed new.keys q ≡ cond (is_eq (key_cmp key q)) true (has_claimed whole.keys q))
    → new.lasts ≡ whole.lasts → IfOk result (λ is_new. Claims old earlier key is_new new)
put_claims_after (Ok is_new) old whole new earlier key opened told grows same = λ kept.
    let now = opened kept in
    put_claims whole new earlier key is_new (subst IsInSet (sym now.1) tt) told grows same now.0
put_claims_after (Err e) old whole new earlier key opened told grows same = tt

-- ---- a key that is greater than the last one of its kind

-- so is one that is greater than such a key, and of its kind
after_both : (last : Option Key) (key q : Key) → IsAfter last key → key_cmp key q ≡ Less → IsAfter last q
after_both None key q after far = tt
after_both (Some last) key q after far = keys_total.trans last key q after far

-- keys of kinds at different places don't tie
kinds_apart : (q key : Key) → (place_of q == place_of key) ≡ false → is_eq (key_cmp q key) ≡ false
kinds_apart q key other = by (is_eq (key_cmp q key)) refl
  where
    by : (b : Bool) → is_eq (key_cmp q key) ≡ b → b ≡ false
    by true e = absurd (true≢false (sym (eq-eqb (place_of q) (place_of key) (ap place_of (same_key q key e))) ∙ other))
    by false e = refl

noted : (old new : Claimed) (lasts now : List (Option Key)) (earlier : List Rec) (key : Key) → old.lasts ≡ Some lasts
    → new.lasts ≡ Some now
    → IsAfter (last_like lasts key) key → IsNoted lasts key now → new.keys ≡ old.keys → Claims old earlier key true new
noted old new lasts now earlier key was is_now after notes same kept = (sym (ap not new_key), goes_in)
  where
    past_last : (q : Key) → IsAfter (last_like lasts q) q → has_key earlier q ≡ false
    past_last q far = kept.past q (subst (λ l. IsPast l q) (sym was) far)

    new_key : has_key earlier key ≡ false
    new_key = past_last key after

    goes_in : (r : Rec) → key_of r ≡ key → has_key earlier key ≡ false → IsKept new (earlier ++ r ∷ [])
    goes_in r is none = record
        { only = only; all = all; past = past; apart = apart_push earlier r none_of_r kept.apart }
      where
        none_of_r : has_key earlier (key_of r) ≡ false
        none_of_r = ap (has_key earlier) is ∙ none

        pushed : (q : Key) → has_key (earlier ++ r ∷ []) q ≡ cond (is_eq (key_cmp q key)) true (has_key earlier q)
        pushed q = has_key_push earlier r q none_of_r ∙ ap (λ k. cond (is_eq (key_cmp q k)) true (has_key earlier q)) is

        only : (q : Key) → has_claimed new.keys q ≡ true → has_key (earlier ++ r ∷ []) q ≡ true
        only q claimed = pushed q
            ∙ either _ _ (inr (kept.only q (ap (λ keys. has_claimed keys q) (sym same) ∙ claimed)))

        all : (q : Key) → IsInSet new.lasts → has_key (earlier ++ r ∷ []) q ≡ true → has_claimed new.keys q ≡ true
        all q within there = absurd (subst IsInSet is_now within)

        by : (q : Key) (b : Bool) → (place_of q == place_of key) ≡ b → IsAfter (cond b (Some key) (last_like lasts q)) q
            → (is_eq (key_cmp q key) ≡ false) × (has_key earlier q ≡ false)
        by q true alike far = (
          before_ties_not key q far,
          past_last q (subst (λ n. IsAfter (get_or lasts n None) q) (sym (eqb-true (place_of q) (place_of key) alike))
              (after_both (last_like lasts key) key q after far)),
        )
        by q false other far = (kinds_apart q key other, past_last q far)

        past : (q : Key) → IsPast new.lasts q → has_key (earlier ++ r ∷ []) q ≡ false
        past q far =
            let it = by q (place_of q == place_of key) refl
            (subst (λ o. IsAfter o q) (notes q) (subst (λ l. IsPast l q) is_now far)) in
            pushed q ∙ ap (λ b. cond b true (has_key earlier q)) it.0 ∙ it.1

pub noted_claims : (old new : Claimed) (earlier : List Rec) (key : Key) → IsPast old.lasts key → new.keys ≡ old.keys
    → WasNoted old.lasts key new.lasts → Claims old earlier key true new
noted_claims old new earlier key past same notes = by old.lasts new.lasts refl refl past notes
  where
    by : (l m : Option (List (Option Key))) → old.lasts ≡ l → new.lasts ≡ m → IsPast l key → WasNoted l key m
        → Claims old earlier key true new
    by None m was is_now past notes = absurd past
    by (Some lasts) None was is_now past notes = absurd notes
    by (Some lasts) (Some now) was is_now past notes = noted old new lasts now earlier key was is_now past notes same

-- ---- all keys go into the set

has_key_is : (records : List Rec) (q : Key)
    → has_key records q ≡ list_any (eq_by_cmp key_cmp q) (map (λ e. e.0) (with_keys records))
has_key_is records q = is_some-find key_cmp q (with_keys records)

-- the records up to a place, and one more
pub taken_more : (xs : List Rec) (i : ℕ) (r : Rec) → i < length xs → r ≡ get_or xs i r
    → take (i + 1) xs ≡ take i xs ++ r ∷ []
taken_more xs i r within item = rw (take_more xs i r within, ← item) refl

-- the keys of two parts
has_key_append : (xs ys : List Rec) (q : Key) → has_key (xs ++ ys) q ≡ has_key xs q || has_key ys q
has_key_append xs ys q =
    has_key_is (xs ++ ys) q
    ∙ ap (λ es. list_any (eq_by_cmp key_cmp q) (map (λ (e : Key × Rec). e.0) es))
    (map-append (λ (x : Rec). (key_of x, x)) xs ys)
    ∙ ap (list_any (eq_by_cmp key_cmp q)) (map-append (λ (e : Key × Rec). e.0) (with_keys xs) (with_keys ys))
    ∙ list_any-append (eq_by_cmp key_cmp q) (map (λ (e : Key × Rec). e.0) (with_keys xs))
    (map (λ (e : Key × Rec). e.0) (with_keys ys))
    ∙ (λ i. sym (has_key_is xs q) i || sym (has_key_is ys q) i)

one_or : (b c : Bool) → b || c ≡ true → (b ≡ true) ⊎ (c ≡ true)
one_or true c e = inl refl
one_or false c e = inr e

or_one : (b c : Bool) → (b ≡ true) ⊎ (c ≡ true) → b || c ≡ true
or_one true c e = refl
or_one false c (inl e) = absurd (true≢false (sym e))
or_one false c (inr e) = e

or_none : (b : Bool) → b || false ≡ b
or_none true = refl
or_none false = refl

-- one record has its own key alone
key_of_one : (r : Rec) (q : Key) → has_key (r ∷ []) q ≡ is_eq (key_cmp q (key_of r))
key_of_one r q = has_key_is (r ∷ []) q ∙ or_none (is_eq (key_cmp q (key_of r)))

-- a record among others has one of their keys
key_there : (xs : List Rec) (i : ℕ) (r : Rec) (q : Key) → i < length xs → r ≡ get_or xs i r
    → is_eq (key_cmp q (key_of r)) ≡ true
    → has_key xs q ≡ true
key_there xs i r q within item same =
    ap (λ ys. has_key ys q) (sym (take-append-drop (i + 1) xs)
    ∙ ap (λ ys. ys ++ drop (i + 1) xs) (taken_more xs i r within item))
    ∙ has_key_append (take i xs ++ r ∷ []) (drop (i + 1) xs) q
    ∙ or_one _ _ (inl (has_key_append (take i xs) (r ∷ []) q ∙ or_one _ _ (inr (key_of_one r q ∙ same))))

-- the set has what it had and the keys of some of these records, and no others
pub record AreIn (old new : BTreeSet Key) (some all : List Rec) : Type 0 where
  pub grown : (q : Key) → (has_claimed old q ≡ true) ⊎ (has_key some q ≡ true) → has_claimed new q ≡ true
  pub only : (q : Key) → has_claimed new q ≡ true → (has_claimed old q ≡ true) ⊎ (has_key all q ≡ true)

pub none_in : (old : BTreeSet Key) (all : List Rec) → AreIn old old [] all
none_in old all = record { grown = grown; only = λ q e. inl e }
  where
    grown : (q : Key) → (has_claimed old q ≡ true) ⊎ (has_key [] q ≡ true) → has_claimed old q ≡ true
    grown q (inl e) = e
    grown q (inr e) = absurd (true≢false (sym e))

pub one_in : (old now new : BTreeSet Key) (all : List Rec) (i : ℕ) (r : Rec) (key : Key) → i < length all
    → r ≡ get_or all i r → key ≡ key_of r
    → ((q : Key) → has_claimed new q ≡ cond (is_eq (key_cmp key q)) true (has_claimed now q))
    → AreIn old now (take i all) all → AreIn old new (take (i + 1) all) all
one_in old now new all i r key within item is grows before = record { grown = grown; only = only }
  where
    put : (q : Key) → has_claimed new q ≡ cond (is_eq (key_cmp q (key_of r))) true (has_claimed now q)
    put q = grows q ∙ ap (λ b. cond b true (has_claimed now q)) (ties_alike key q ∙ ap (λ k. is_eq (key_cmp q k)) is)

    grown : (q : Key) → (has_claimed old q ≡ true) ⊎ (has_key (take (i + 1) all) q ≡ true) → has_claimed new q ≡ true
    grown q (inl e) = put q ∙ either _ _ (inr (before.grown q (inl e)))
    grown q (inr e) = put q ∙ by (one_or (has_key (take i all) q) (has_key (r ∷ []) q)
        (sym (ap (λ xs. has_key xs q) (taken_more all i r within item) ∙ has_key_append (take i all) (r ∷ []) q) ∙ e))
      where
        by : (has_key (take i all) q ≡ true) ⊎ (has_key (r ∷ []) q ≡ true)
            → cond (is_eq (key_cmp q (key_of r))) true (has_claimed now q) ≡ true
        by (inl there) = either _ _ (inr (before.grown q (inr there)))
        by (inr same) = either _ _ (inl (sym (key_of_one r q) ∙ same))

    only : (q : Key) → has_claimed new q ≡ true → (has_claimed old q ≡ true) ⊎ (has_key all q ≡ true)
    only q claimed = by (one_holds (is_eq (key_cmp q (key_of r))) (has_claimed now q) (sym (put q) ∙ claimed))
      where
        by : (is_eq (key_cmp q (key_of r)) ≡ true) ⊎ (has_claimed now q ≡ true)
            → (has_claimed old q ≡ true) ⊎ (has_key all q ≡ true)
        by (inl same) = inr (key_there all i r q within item same)
        by (inr was) = before.only q was

pub all_opened : (old new : Claimed) (earlier : List Rec) → AreIn old.keys new.keys earlier earlier → new.lasts ≡ None
    → IsOpened old earlier new
all_opened old new earlier are none kept = (
  record {
    only = λ q e. by q (are.only q e);
    all = λ q inside there. are.grown q (inr there);
    past = λ q far. absurd (subst (λ l. IsPast l q) none far);
    apart = kept.apart;
  },
  none,
)
  where
    by : (q : Key) → (has_claimed old.keys q ≡ true) ⊎ (has_key earlier q ≡ true) → has_key earlier q ≡ true
    by q (inl e) = kept.only q e
    by q (inr e) = e

-- ---- the records in turn

-- a record whose key is new goes behind the others
goes_in : (fault : Fault) (records xs : List Rec) (i : ℕ) (r : Rec) → i < length xs → r ≡ get_or xs i r
    → has_key records (key_of r) ≡ false
    → with_records fault records (drop i xs) ≡ with_records fault (records ++ r ∷ []) (drop (i + 1) xs)
unfolding with_records
goes_in fault records xs i r within item new = rw (drop-item xs i r within item, new) refl

-- a record whose key is there is refused
refused : (fault : Fault) (records xs : List Rec) (i : ℕ) (r : Rec) → i < length xs → r ≡ get_or xs i r
    → has_key records (key_of r) ≡ true
    → with_records fault records (drop i xs) ≡ Err fault
unfolding with_records
refused fault records xs i r within item there = rw (drop-item xs i r within item, there) refl

-- after the last one
all_in : (fault : Fault) (records xs : List Rec) (i : ℕ) → length xs ≤ i
    → with_records fault records (drop i xs) ≡ Ok records
unfolding with_records
all_in fault records xs i past = rw (drop_of_length-le xs past) refl

-- the keys of the records up to a place are claimed, and the rest decides
abbrev pub IsClaimedTo : Fault → List Rec → ℕ → Claimed → ℕ → Claimed → Type 0
IsClaimedTo fault records from first at now = IsKept first (take from records)
    → IsKept now (take at records)
    × (with_records fault (take at records) (drop at records)
    ≡ with_records fault (take from records) (drop from records))

not_true : (b c : Bool) → b ≡ true → b ≡ not c → c ≡ false
not_true b true is e = absurd (true≢false (sym is ∙ e))
not_true b false is e = refl

not_false : (b c : Bool) → b ≡ false → b ≡ not c → c ≡ true
not_false b true is e = refl
not_false b false is e = absurd (true≢false (sym e ∙ is))

-- one record more, whose key is new
pub claimed_next : (fault : Fault) (records earlier : List Rec) (from at : ℕ) (r : Rec) (key : Key) (is_new : Bool)
    (first old new : Claimed)
    → at < length records → r ≡ get_or records at r → key ≡ key_of r → earlier ≡ take at records
    → Claims old earlier key is_new new
    → is_new ≡ true → IsClaimedTo fault records from first at old → IsClaimedTo fault records from first (at + 1) new
claimed_next fault records earlier from at r key is_new first old new within item is front claims new_key so_far =
    λ kept.
    let before = so_far kept in
    let claimed : Claims old (take at records) key is_new new =
    subst (λ xs. Claims old xs key is_new new) front claims in
    let it = claimed before.0 in
    let none : has_key (take at records) key ≡ false = not_true is_new _ new_key it.0 in
    let more = taken_more records at r within item in (
      subst (IsKept new) (sym more) (it.1 r (sym is) none),
      ap (λ xs. with_records fault xs (drop (at + 1) records)) more
          ∙ sym (goes_in fault (take at records) records at r within item
          (ap (has_key (take at records)) (sym is) ∙ none))
          ∙ before.1,
    )

-- one whose key is there already
pub claim_refused : (fault : Fault) (records earlier : List Rec) (from at : ℕ) (r : Rec) (key : Key) (is_new : Bool)
    (first old new : Claimed)
    → at < length records → r ≡ get_or records at r → key ≡ key_of r → earlier ≡ take at records
    → Claims old earlier key is_new new
    → is_new ≡ false → IsClaimedTo fault records from first at old → AreRefusedBehind fault first records from
claim_refused fault records earlier from at r key is_new first old new within item is front claims old_key so_far =
    λ kept.
    let before = so_far kept in
    let claimed : Claims old (take at records) key is_new new =
    subst (λ xs. Claims old xs key is_new new) front claims in
    let there : has_key (take at records) key ≡ true = not_false is_new _ old_key (claimed before.0).0 in
    sym before.1 ∙ refused fault (take at records) records at r within item
    (ap (has_key (take at records)) (sym is) ∙ there)

-- after the last one
pub all_claimed : (fault : Fault) (records : List Rec) (from at : ℕ) (first now : Claimed) → length records ≤ at
    → IsClaimedTo fault records from first at now → GoBehind fault first records from now
all_claimed fault records from at first now past so_far = λ kept.
    let it = so_far kept in
    let all = take_all at records past in (
      subst (IsKept now) all it.0,
      sym it.1 ∙ all_in fault (take at records) records at past ∙ ap Ok all,
    )

-- the first record of those from a place on
pub first_behind : (records rest : List Rec) (at : ℕ) (r : Rec) → rest ≡ drop at records → r ≡ get_or rest 0 r
    → r ≡ get_or records at r
first_behind records rest at r is item =
    item ∙ ap (λ xs. get_or xs 0 r) is ∙ get_or-drop at records 0 r ∙ ap (λ n. get_or records n r) (add-zero at)
