-- Changes that count among the entries newer than a standing change: they stand and are later. So
-- none is newer than the latest.
use Rattle.std.proofs.Common.{◌≡◌, ◌⊎◌, inl, inr, ℕ, ◌<◌, ◌≤◌, max, Bool, true, false, ◌||◌, eqb, List, [], ◌∷◌, ◌++◌}
use Rattle.std.proofs.Common.{Some, refl, sym, ap, subst, ◌∙◌, arith}
use Rattle.std.proofs.lemmas.Bool.{or_parts, or_left, or_right, eq-eqb, eqb-true, false_from_ne_true}
use Rattle.std.specs.List.{fold}
use Rattle.iocm_types.specs.declared.sub_id.SubId.{SubId}
use Rattle.iocm_history.specs.Store.{Store}
use Rattle.iocm_history.specs.MarkedEntry.{Act, MarkedEntry, is_change, strike}
use Rattle.iocm_history.specs.StandsOn.{Numbered, changes_in, numbers_of, greatest}
use Rattle.iocm_history.specs.Journal.{is_in}
use Rattle.iocm_history.proofs.Striking.{has, made}
use Rattle.iocm_history.proofs.Numbers.{first_or_rest}
use Rattle.iocm_history.proofs.Passing.{has_append, changes_append, number_append, changes_struck, not_there}
use Rattle.iocm_history.proofs.Standing.{IsStanding, standing_there}
use Rattle.iocm_history.proofs.Level.{IsLevel}

-- ---- the greatest of some numbers

grows : (m : ℕ) (ms : List ℕ) → m ≤ fold max m ms
grows m [] = omega arith
grows m (n ∷ ns) = let more = grows (max m n) ns in omega arith

at_most : (k m : ℕ) (ms : List ℕ) → is_in k (m ∷ ms) ≡ true → k ≤ fold max m ms
at_most k m [] among = by (first_or_rest k m [] among)
  where
    by : (k ≡ m) ⊎ (is_in k [] ≡ true) → k ≤ m
    by (inl same) = omega arith
    by (inr none) = cc
at_most k m (n ∷ ns) among =
    by (λ rest. at_most k (max m n) ns (or_right (eqb k (max m n)) _ rest)) (first_or_rest k m (n ∷ ns) among)
  where
    later : (is_in k ns ≡ true → k ≤ fold max (max m n) ns) → (k ≡ n) ⊎ (is_in k ns ≡ true) → k ≤ fold max (max m n) ns
    later low (inl same) = let more = grows (max m n) ns in omega arith
    later low (inr rest) = low rest

    by : (is_in k ns ≡ true → k ≤ fold max (max m n) ns) → (k ≡ m) ⊎ (is_in k (n ∷ ns) ≡ true)
        → k ≤ fold max (max m n) ns
    by low (inl same) = let more = grows (max m n) ns in omega arith
    by low (inr rest) = later low (first_or_rest k n ns rest)

pub greatest_bounds : (ns : List ℕ) (n k : ℕ) → greatest ns ≡ Some n → is_in k ns ≡ true → k ≤ n
greatest_bounds [] n k is among = cc
greatest_bounds (m ∷ ms) n k is among = subst (λ j. k ≤ j) (inner (fold max m ms) n is) (at_most k m ms among)
  where
    inner : (x y : ℕ) → Some x ≡ Some y → x ≡ y
    inner x y e = cc

-- ---- no change that counts is newer

-- of two ways to part a list, where the first part of one has what the first part of the other has
-- not, that one is longer
longer : (test other : Act → Bool) (xs ys cs ds : List MarkedEntry) → xs ++ cs ≡ ys ++ ds → has test xs ≡ true
    → has test ys ≡ false
    → has other xs ≡ false → has other ys ≡ false
longer test other xs [] cs ds is has_x none_y none_x = refl
longer test other [] (y ∷ ys) cs ds is has_x none_y none_x = cc
longer test other (x ∷ xs) (y ∷ ys) cs ds is has_x none_y none_x =
    let same : x ≡ y = first x y (xs ++ cs) (ys ++ ds) is in
    let both = or_parts _ _ none_x in let both_y = or_parts _ _ none_y in
    by (ap (λ (l : MarkedEntry). other l.act) (sym same) ∙ both.0)
    (longer test other xs ys cs ds (rest x y (xs ++ cs) (ys ++ ds) is)
    (later (ap (λ (l : MarkedEntry). test l.act) same ∙ both_y.0) has_x) both_y.1 both.1)
  where
    first : (a b : MarkedEntry) (cs ds : List MarkedEntry) → a ∷ cs ≡ b ∷ ds → a ≡ b
    first a b cs ds e = cc

    rest : (a b : MarkedEntry) (cs ds : List MarkedEntry) → a ∷ cs ≡ b ∷ ds → cs ≡ ds
    rest a b cs ds e = cc

    later : test x.act ≡ false → (test x.act || has test xs) ≡ true → has test xs ≡ true
    later none here = sym (ap (λ b. b || has test xs) none) ∙ here

    by : other y.act ≡ false → has other ys ≡ false → (other y.act || has other ys) ≡ false
    by a b = ap (λ c. c || has other ys) a ∙ b

-- what none is among is empty
none_at_all : (ds : List Numbered) → ((k : ℕ) → is_in k (numbers_of ds) ≡ false) → ds ≡ []
none_at_all [] none = refl
none_at_all (d ∷ ds) none =
    let here : is_in d.0 (numbers_of (d ∷ ds)) ≡ true = or_left (eqb d.0 d.0) _ (eq-eqb d.0 d.0 refl) in
    let no : true ≡ false = sym here ∙ none d.0 in cc

no_or_yes : (b : Bool) (P : Type 0) → (b ≡ true → P) → (b ≡ false → P) → P
no_or_yes true P if_so if_not = if_so refl
no_or_yes false P if_so if_not = if_not refl

module _ (m : Store) (ls : List MarkedEntry) (ns : List ℕ) (v : IsLevel m ls ns) (n : ℕ)
    (here : is_in n ns ≡ true) where
  abbrev s : IsStanding m n ls
  s = v.standing n here

  -- a change that counts among the newer entries stands
  newer_stands : (k : ℕ) → is_in k (numbers_of (changes_in s.newer)) ≡ true → is_in k ns ≡ true
  newer_stands k counts = v.only k (ap (λ ms. is_in k (numbers_of (changes_in ms))) s.parts
      ∙ ap (λ ds. is_in k (numbers_of ds)) (changes_append s.newer (made n s.change ∷ s.older))
      ∙ number_append k (changes_in s.newer) (changes_in (made n s.change ∷ s.older)) ∙ or_left _ _ counts)

  -- and is later
  newer_follows : (k : ℕ) → is_in k ns ≡ true → has (is_change k) s.newer ≡ true → n < k
  newer_follows k among there =
      let t = v.standing k among in
      let none_before = longer (is_change k) (is_change n) s.newer t.newer (made n s.change ∷ s.older)
      (made k t.change ∷ t.older) (sym s.parts ∙ t.parts) there t.others s.others in
      let all_there : (has (is_change n) t.newer || (eqb n k || has (is_change n) t.older)) ≡ true =
      sym (has_append (is_change n) t.newer (made k t.change ∷ t.older)) ∙ sym (ap (has (is_change n)) t.parts)
      ∙ standing_there m n ls s in
      let after : (eqb n k || has (is_change n) t.older) ≡ true =
      sym (ap (λ b. b || (eqb n k || has (is_change n) t.older)) none_before) ∙ all_there in
      no_or_yes (eqb n k) (n < k)
      (λ same. let is : n ≡ k = eqb-true n k same in let none : has (is_change n) s.newer
      ≡ true = ap (λ j. has (is_change j) s.newer) is ∙ there in let no : true ≡ false = sym none ∙ s.others in cc)
      (λ other. t.first n (sym (ap (λ b. b || has (is_change n) t.older) other) ∙ after))

  pub newer_is_later : (k : ℕ) → is_in k (numbers_of (changes_in s.newer)) ≡ true → (is_in k ns ≡ true) × (n < k)
  newer_is_later k counts =
      let among = newer_stands k counts in (
        among,
        no_or_yes (has (is_change k) s.newer) (n < k) (newer_follows k among)
            (λ none. let no : true ≡ false = sym counts ∙ not_there k s.newer none in cc),
      )

  -- no change that counts is newer than the latest
  pub no_newer : greatest ns ≡ Some n → changes_in s.newer ≡ []
  no_newer latest = none_at_all (changes_in s.newer) (λ k. false_from_ne_true _ (λ counts.
      let later = newer_is_later k counts in let more = later.1 in let low = greatest_bounds ns n k latest later.0 in
      omega arith))

-- where none counts, none counts once more is struck
pub none_struck : (xs : List SubId) (n : ℕ) (ls : List MarkedEntry) → changes_in ls ≡ []
    → changes_in (strike xs n ls) ≡ []
none_struck xs n ls none = none_at_all (changes_in (strike xs n ls)) (λ k. false_from_ne_true _ (λ counts.
    let before = changes_struck xs n k ls counts in
    let gone : is_in k (numbers_of (changes_in ls)) ≡ false = ap (λ ds. is_in k (numbers_of ds)) none in
    let no : true ≡ false = sym before ∙ gone in cc))
