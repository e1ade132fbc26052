-- Lists of numbers of changes.
use Rattle.std.proofs.Common.{◌≡◌, ◌≢◌, ◌⊎◌, inl, inr, ℕ, Bool, true, false, cond, not, ◌&&◌, ◌||◌, eqb, List, [], ◌∷◌}
use Rattle.std.proofs.Common.{refl, sym, ap, ◌∙◌}
use Rattle.std.proofs.lemmas.Bool.{and_from, and_parts, eq-eqb, ne_eqb, eqb-true}
use Rattle.iocm_history.specs.Journal.{is_in, without}

-- a number of a list is the first, or among those after it
pub first_or_rest : (k n : ℕ) (ns : List ℕ) → is_in k (n ∷ ns) ≡ true → (k ≡ n) ⊎ (is_in k ns ≡ true)
first_or_rest k n ns is = by (eqb k n) refl is
  where
    by : (b : Bool) → eqb k n ≡ b → (b || is_in k ns) ≡ true → (k ≡ n) ⊎ (is_in k ns ≡ true)
    by true e is = inl (eqb-true k n e)
    by false e is = inr is

-- a number is among those without another exactly where it is among them and isn't that one
pub is_in_without : (n k : ℕ) (ns : List ℕ) → is_in k (without n ns) ≡ (is_in k ns && not (eqb n k))
is_in_without n k [] = refl
is_in_without n k (m ∷ ns) = by (eqb n m) (eqb k m) refl refl (is_in_without n k ns)
  where
    second : (b : Bool) → eqb n k ≡ b → (true ≡ not b) → true ≡ not (eqb n k)
    second b is h = h ∙ ap not (sym is)

    by : (b d : Bool) → eqb n m ≡ b → eqb k m ≡ d → is_in k (without n ns) ≡ (is_in k ns && not (eqb n k))
        → is_in k (cond (not b) (m ∷ without n ns) (without n ns)) ≡ ((d || is_in k ns) && not (eqb n k))
    by true true e f more =
        let same : eqb n k ≡ true = eq-eqb n k (eqb-true n m e ∙ sym (eqb-true k m f)) in
        more ∙ ap (λ b. is_in k ns && not b) same ∙ none (is_in k ns) ∙ sym (ap not same)
      where
        none : (b : Bool) → (b && false) ≡ false
        none true = refl
        none false = refl
    by true false e f more = more
    by false true e f more =
        let same : k ≡ m = eqb-true k m f in
        let other : eqb n k ≡ false = ap (eqb n) same ∙ e in
        ap (λ b. b || is_in k (without n ns)) f ∙ sym (ap not other)
    by false false e f more = ap (λ b. b || is_in k (without n ns)) f ∙ more

pub in_without : (n k : ℕ) (ns : List ℕ) → is_in k (without n ns) ≡ true → (is_in k ns ≡ true) × (n ≢ k)
in_without n k ns among =
    let both = and_parts _ _ (sym (is_in_without n k ns) ∙ among) in (
      both.0,
      λ same. let here : eqb n k ≡ true = eq-eqb n k same in let no : true ≡ false = sym both.1
          ∙ ap not here in cc,
    )

pub among_without : (n k : ℕ) (ns : List ℕ) → is_in k ns ≡ true → n ≢ k → is_in k (without n ns) ≡ true
among_without n k ns among other = is_in_without n k ns ∙ and_from _ _ among (ap not (ne_eqb n k other))

-- it isn't itself
pub not_in_without : (n : ℕ) (ns : List ℕ) → is_in n (without n ns) ≡ false
not_in_without n ns = is_in_without n n ns ∙ ap (λ b. is_in n ns && not b) (eq-eqb n n refl) ∙ none (is_in n ns)
  where
    none : (b : Bool) → (b && false) ≡ false
    none true = refl
    none false = refl

-- put in front again, it is among the same numbers
pub in_front_again : (n k : ℕ) (ns : List ℕ) → is_in n ns ≡ true → is_in k (n ∷ without n ns) ≡ is_in k ns
in_front_again n k ns here = by (eqb k n) refl
  where
    by : (b : Bool) → eqb k n ≡ b → (b || is_in k (without n ns)) ≡ is_in k ns
    by true e = sym (ap (λ j. is_in j ns) (eqb-true k n e) ∙ here)
    by false e =
        let other : eqb n k ≡ false =
        ne_eqb n k (λ same. let is : eqb k n ≡ true = eq-eqb k n (sym same) in let no : true ≡ false = sym is
        ∙ e in cc) in
        is_in_without n k ns ∙ ap (λ b. is_in k ns && not b) other ∙ whole (is_in k ns)
      where
        whole : (b : Bool) → (b && true) ≡ b
        whole true = refl
        whole false = refl
