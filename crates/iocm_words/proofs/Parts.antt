-- What stands between the bytes at which a text is cut, and isn't empty.
use Rattle.std.proofs.Common.{◌≡◌, ℕ, zero, suc, ◌<◌, ◌==◌, not, Bool, true, false, cond, List, [], ◌∷◌, ◌++◌, length}
use Rattle.std.proofs.Common.{replicate, refl, sym, ap, ◌∙◌, arith, append_assoc}
use Rattle.std.specs.Prelude.{filter}
use Rattle.std.specs.List.{list_all, slice_split, onto_first}
use Rattle.std.proofs.lemmas.Bool.{and_parts}
use Rattle.std.proofs.lemmas.List.{append-nil}
use Rattle.std.proofs.lemmas.List.Elements.{filter-append}
use Rattle.std.proofs.lemmas.List.Splits.{length-slice_split}

not_true : (b : Bool) → not b ≡ true → b ≡ false
not_true true e = cc
not_true false e = refl

abbrev is_some : List ℕ → Bool
is_some part = not (length part == 0)

onto_end : (x : ℕ) (parts others : List (List ℕ)) → 0 < length parts
    → onto_first x (parts ++ others) ≡ onto_first x parts ++ others
onto_end x [] others some = absurd (omega (arith, some))
onto_end x (part ∷ parts) others some = refl

module _ (p : ℕ → Bool) where
  -- the parts of a text
  abbrev pub parts : List ℕ → List (List ℕ)
  parts text = filter is_some (slice_split p text)

  split_first : (xs : List ℕ) (y : ℕ) (ys : List ℕ) → list_all (λ b. not (p b)) xs ≡ true → p y ≡ true
      → slice_split p (xs ++ y ∷ ys) ≡ xs ∷ slice_split p ys
  split_first [] y ys none is = rw is refl
  split_first (x ∷ xs) y ys none is =
      let both = and_parts (not (p x)) (list_all (λ b. not (p b)) xs) none in
      rw (not_true (p x) both.0) (ap (onto_first x) (split_first xs y ys both.1 is))

  -- a part ends at the next such byte
  pub part-first : (xs : List ℕ) (y : ℕ) (ys : List ℕ) → list_all (λ b. not (p b)) xs ≡ true → length xs == 0 ≡ false
      → p y ≡ true → parts (xs ++ y ∷ ys) ≡ xs ∷ parts ys
  part-first xs y ys none some is = ap (filter is_some) (split_first xs y ys none is) ∙ rw some refl

  -- such a byte at the beginning goes
  pub parts-behind : (y : ℕ) (ys : List ℕ) → p y ≡ true → parts (y ∷ ys) ≡ parts ys
  parts-behind y ys is = rw is refl

  pub parts-behind_all : (n y : ℕ) (ys : List ℕ) → p y ≡ true → parts (replicate n y ++ ys) ≡ parts ys
  parts-behind_all zero y ys is = refl
  parts-behind_all (suc n) y ys is = parts-behind y (replicate n y ++ ys) is ∙ parts-behind_all n y ys is

  -- and so it does at the end
  split_end : (xs : List ℕ) (y : ℕ) → p y ≡ true → slice_split p (xs ++ y ∷ []) ≡ slice_split p xs ++ [] ∷ []
  split_end [] y is = rw is refl
  split_end (x ∷ xs) y is = by (p x) (split_end xs y is)
    where
      by : (cut : Bool) → slice_split p (xs ++ y ∷ []) ≡ slice_split p xs ++ [] ∷ []
          → cond cut ([] ∷ slice_split p (xs ++ y ∷ [])) (onto_first x (slice_split p (xs ++ y ∷ [])))
          ≡ cond cut ([] ∷ slice_split p xs) (onto_first x (slice_split p xs)) ++ [] ∷ []
      by true rest = ap (λ r. [] ∷ r) rest
      by false rest =
          ap (onto_first x) rest
          ∙ onto_end x (slice_split p xs) ([] ∷ []) (omega (arith, length-slice_split p xs))

  pub parts-before : (xs : List ℕ) (y : ℕ) → p y ≡ true → parts (xs ++ y ∷ []) ≡ parts xs
  parts-before xs y is =
      ap (filter is_some) (split_end xs y is) ∙ filter-append is_some (slice_split p xs) ([] ∷ [])
      ∙ append-nil (parts xs)

  pub parts-before_all : (n y : ℕ) (xs : List ℕ) → p y ≡ true → parts (xs ++ replicate n y) ≡ parts xs
  parts-before_all zero y xs is = ap parts (append-nil xs)
  parts-before_all (suc n) y xs is =
      ap parts (sym (append_assoc xs (y ∷ []) (replicate n y)))
      ∙ parts-before_all n y (xs ++ y ∷ []) is ∙ parts-before xs y is

  -- a part with some such bytes behind it
  pub part-before_all : (n y : ℕ) (xs ys : List ℕ) → list_all (λ b. not (p b)) xs ≡ true → length xs == 0 ≡ false
      → p y ≡ true → parts (xs ++ (replicate n y ++ (y ∷ ys))) ≡ xs ∷ parts ys
  part-before_all zero y xs ys none some is = part-first xs y ys none some is
  part-before_all (suc n) y xs ys none some is =
      part-first xs y (replicate n y ++ (y ∷ ys)) none some is
      ∙ ap (λ r. xs ∷ r) (parts-behind_all n y (y ∷ ys) is ∙ parts-behind y ys is)
