-- Operands of which no keyword stands twice are those whose keys have no twins.
use Rattle.std.proofs.Common.{◌≡◌, ℕ, suc, ◌+◌, ◌<◌, ◌||◌, Bool, true, false, cond, Option, None, Some, List, [], ◌∷◌}
use Rattle.std.proofs.Common.{All, map, refl, arith}
use Rattle.std.specs.Prelude.{nat_eq, filter}
use Rattle.std.proofs.lemmas.Bool.{or_parts}
use Rattle.std.proofs.lemmas.Bool.Decides.{nat_tests}
use Rattle.std.proofs.lemmas.List.Elements.{All-nil, All-cons, All-head, All-tail}
use Rattle.std.proofs.lemmas.List.Kept.{AllPairs-cons}
use Rattle.std.specs.List.{AllPairs, list_any}
use Rattle.iocm_model.specs.Machine.Record.{CarriedOperand}
use Rattle.iocm_statements.specs.declared.operands.OperandKey.TheVariants.{Keyword, Bare}
use Rattle.iocm_statements.specs.Operands.{Operand, same_key, has_twins}
use Rattle.iocm_record_reader.specs.Values.{as_carried}
use Rattle.iocm_deck_writer.specs.Again.{key_at, placed, repeats, AreApart}

-- ---- no keyword twice, no twins

first_of_pairs : {X : Type 0} (R : X → X → Type 0) (x : X) (xs : List X) → AllPairs R (x ∷ xs) → All (R x) xs
first_of_pairs R x xs pairs k d within = pairs 0 (suc k) d (omega arith) (omega (arith, within))

other_pairs : {X : Type 0} (R : X → X → Type 0) (x : X) (xs : List X) → AllPairs R (x ∷ xs) → AllPairs R xs
other_pairs R x xs pairs i j d before within = pairs (suc i) (suc j) d (omega (arith, before)) (omega (arith, within))

other_place : (i j : ℕ) → i < j → nat_eq j i ≡ false
other_place i j before = grind (arith, nat_tests, before)

-- no operand behind a place stands at it
bare_alone : (i j : ℕ) (os : List CarriedOperand) → i < j
    → list_any (λ (other : Operand). same_key other.0 (Bare i)) (placed j os) ≡ false
unfolding placed
bare_alone i j [] before = refl
bare_alone i j (o ∷ os) before = by o.keyword (bare_alone i (j + 1) os (omega (arith, before)))
  where
    by : (keyword : Option (List ℕ))
        → list_any (λ (other : Operand). same_key other.0 (Bare i)) (placed (j + 1) os) ≡ false
        → (same_key (key_at j keyword) (Bare i)
        || list_any (λ (other : Operand). same_key other.0 (Bare i)) (placed (j + 1) os)) ≡ false
    by (Some word) rest = rest
    by None rest = rw (other_place i j before, rest) refl

keyword_alone : (word : List ℕ) (j : ℕ) (os : List CarriedOperand)
    → All (λ (o : CarriedOperand). repeats (Some word) o.keyword ≡ false) os
    → list_any (λ (other : Operand). same_key other.0 (Keyword word)) (placed j os) ≡ false
unfolding placed
keyword_alone word j [] others = refl
keyword_alone word j (o ∷ os) others =
    by o.keyword (All-head (λ (x : CarriedOperand). repeats (Some word) x.keyword ≡ false) o os others)
    (keyword_alone word (j + 1) os
    (All-tail (λ (x : CarriedOperand). repeats (Some word) x.keyword ≡ false) o os others))
  where
    by : (keyword : Option (List ℕ)) → repeats (Some word) keyword ≡ false
        → list_any (λ (other : Operand). same_key other.0 (Keyword word)) (placed (j + 1) os) ≡ false
        → (same_key (key_at j keyword) (Keyword word)
        || list_any (λ (other : Operand). same_key other.0 (Keyword word)) (placed (j + 1) os)) ≡ false
    by (Some later) other rest = rw (other, rest) refl
    by None other rest = rest

key_alone : (place : ℕ) (keyword : Option (List ℕ)) (os : List CarriedOperand)
    → All (λ (o : CarriedOperand). repeats keyword o.keyword ≡ false) os
    → list_any (λ (other : Operand). same_key other.0 (key_at place keyword)) (placed (place + 1) os) ≡ false
key_alone place (Some word) os others = keyword_alone word (place + 1) os others
key_alone place None os others = bare_alone place (place + 1) os (omega arith)

pub apart_brings_no_twins : (place : ℕ) (os : List CarriedOperand) → AreApart os → has_twins (placed place os) ≡ false
unfolding placed
apart_brings_no_twins place [] apart = refl
apart_brings_no_twins place (o ∷ os) apart =
    let first = first_of_pairs (λ (a b : CarriedOperand). repeats a.keyword b.keyword ≡ false) o os apart in
    let others = other_pairs (λ (a b : CarriedOperand). repeats a.keyword b.keyword ≡ false) o os apart in
    rw (key_alone place o.keyword os first, apart_brings_no_twins (place + 1) os others) refl

-- ---- no twins, no keyword twice

key_differs : (a b : Operand) → same_key b.0 a.0 ≡ false → repeats (as_carried a).keyword (as_carried b).keyword ≡ false
key_differs ((Keyword k), s) ((Keyword l), t) other = other
key_differs ((Keyword k), s) ((Bare j), t) other = refl
key_differs ((Bare i), s) ((Keyword l), t) other = refl
key_differs ((Bare i), s) ((Bare j), t) other = refl

keys_differ : (a : Operand) (es : List Operand) → list_any (λ (other : Operand). same_key other.0 a.0) es ≡ false
    → All (λ (o : CarriedOperand). repeats (as_carried a).keyword o.keyword ≡ false) (map as_carried es)
keys_differ a [] none = All-nil (λ (o : CarriedOperand). repeats (as_carried a).keyword o.keyword ≡ false)
keys_differ a (e ∷ es) none =
    let parts = or_parts (same_key e.0 a.0) (list_any (λ (other : Operand). same_key other.0 a.0) es) none in
    All-cons (λ (o : CarriedOperand). repeats (as_carried a).keyword o.keyword ≡ false) (as_carried e)
    (map as_carried es)
    (key_differs a e parts.0) (keys_differ a es parts.1)

pub no_twins_are_apart : (es : List Operand) → has_twins es ≡ false → AreApart (map as_carried es)
no_twins_are_apart [] none = λ i j d before within. absurd (omega (arith, within))
no_twins_are_apart (e ∷ es) none =
    let parts = or_parts (list_any (λ (other : Operand). same_key other.0 e.0) es) (has_twins es) none in
    AllPairs-cons (λ (a b : CarriedOperand). repeats a.keyword b.keyword ≡ false) (as_carried e) (map as_carried es)
    (keys_differ e es parts.0) (no_twins_are_apart es parts.1)

-- ---- some of the operands

none_kept : {X : Type 0} (p q : X → Bool) (xs : List X) → list_any q xs ≡ false → list_any q (filter p xs) ≡ false
none_kept p q [] none = refl
none_kept p q (x ∷ xs) none = by (p x) (or_parts (q x) (list_any q xs) none) (none_kept p q xs)
  where
    by : (kept : Bool) → (q x ≡ false) × (list_any q xs ≡ false)
        → (list_any q xs ≡ false → list_any q (filter p xs) ≡ false)
        → list_any q (cond kept (x ∷ filter p xs) (filter p xs)) ≡ false
    by true parts rest = rw (parts.0, rest parts.1) refl
    by false parts rest = rest parts.1

pub some_have_no_twins : (p : Operand → Bool) (es : List Operand) → has_twins es ≡ false
    → has_twins (filter p es) ≡ false
some_have_no_twins p [] none = refl
some_have_no_twins p (e ∷ es) none =
    by (p e) (or_parts (list_any (λ (other : Operand). same_key other.0 e.0) es) (has_twins es) none)
    (some_have_no_twins p es)
  where
    by : (kept : Bool) → (list_any (λ (other : Operand). same_key other.0 e.0) es ≡ false) × (has_twins es ≡ false)
        → (has_twins es ≡ false → has_twins (filter p es) ≡ false)
        → has_twins (cond kept (e ∷ filter p es) (filter p es)) ≡ false
    by true parts rest = rw (none_kept p (λ (other : Operand). same_key other.0 e.0) es parts.0, rest parts.1) refl
    by false parts rest = rest parts.1
