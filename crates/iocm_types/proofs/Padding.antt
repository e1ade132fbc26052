-- Names in eight bytes, filled up with zeros.
use Rattle.std.proofs.Common.{◌≡◌, ℕ, ◌-◌, ◌≤◌, Bool, true, false, ◌&&◌, not, nat_le, nat_eq, List, [], ◌∷◌, ◌++◌}
use Rattle.std.proofs.Common.{length, get_or, take, replicate, codes, refl, arith, length-append}
use Rattle.std.proofs.Math.Seq.{take-append_seam, drop-append_seam}
use Rattle.std.proofs.lemmas.List.{length-replicate}
use Rattle.std.proofs.lemmas.Bool.{leb-true}
use Rattle.std.specs.List.{list_all}
use Rattle.std.specs.Cmp.Lexicographic.{pointwise}
use Rattle.iocm_types.specs.Name.{is_name, begins_with_letter, is_letter_or_digit, IsPadded}

third : (a b c d : Bool) → (a && b && c && d) ≡ true → c ≡ true
third a b true d e = refl
third true true false d e = e
third true false false d e = e
third false b false d e = e

-- a name has at most eight bytes
pub name_is_short : (bytes : List ℕ) → is_name bytes ≡ true → length bytes ≤ 8
name_is_short bytes e = leb-true (length bytes) 8
    (third (begins_with_letter bytes) (list_all is_letter_or_digit bytes) (nat_le (length bytes) 8)
    (not (pointwise nat_eq bytes (codes "REC"))) e)

read_back : (bs : List ℕ) → length bs ≤ 8
    → get_or bs 0 0 ∷ get_or bs 1 0 ∷ get_or bs 2 0 ∷ get_or bs 3 0 ∷ get_or bs 4 0 ∷ get_or bs 5 0 ∷ get_or bs 6 0
    ∷ get_or bs 7 0 ∷ []
    ≡ bs ++ replicate (8 - length bs) 0
read_back [] short = refl
read_back (a ∷ []) short = refl
read_back (a ∷ b ∷ []) short = refl
read_back (a ∷ b ∷ c ∷ []) short = refl
read_back (a ∷ b ∷ c ∷ d ∷ []) short = refl
read_back (a ∷ b ∷ c ∷ d ∷ e ∷ []) short = refl
read_back (a ∷ b ∷ c ∷ d ∷ e ∷ f ∷ []) short = refl
read_back (a ∷ b ∷ c ∷ d ∷ e ∷ f ∷ g ∷ []) short = refl
read_back (a ∷ b ∷ c ∷ d ∷ e ∷ f ∷ g ∷ h ∷ []) short = refl
read_back (a ∷ b ∷ c ∷ d ∷ e ∷ f ∷ g ∷ h ∷ j ∷ more) short = absurd (omega arith)

-- eight bytes that are read at their places, with zeros past the end
pub filled : (bs : List ℕ) (a b c d e f g h : ℕ) → length bs ≤ 8
    → a ≡ get_or bs 0 0 → b ≡ get_or bs 1 0 → c ≡ get_or bs 2 0 → d ≡ get_or bs 3 0
    → e ≡ get_or bs 4 0 → f ≡ get_or bs 5 0 → g ≡ get_or bs 6 0 → h ≡ get_or bs 7 0
    → a ∷ b ∷ c ∷ d ∷ e ∷ f ∷ g ∷ h ∷ [] ≡ bs ++ replicate (8 - length bs) 0
filled bs a b c d e f g h short is_a is_b is_c is_d is_e is_f is_g is_h =
    rw (is_a, is_b, is_c, is_d, is_e, is_f, is_g, is_h) (read_back bs short)

-- a name that was filled up is one
pub padded : (bytes xs : List ℕ) → is_name bytes ≡ true → xs ≡ bytes ++ replicate (8 - length bytes) 0
    → IsPadded xs (length bytes)
padded bytes xs name is = rw is (record {
  within = name_is_short bytes name;
  eight = let short = name_is_short bytes name in
      omega (
        arith,
        length-append bytes (replicate (8 - length bytes) 0),
        length-replicate {A = ℕ} (8 - length bytes) 0,
      );
  zeros = drop-append_seam bytes (replicate (8 - length bytes) 0);
  name = rw (take-append_seam bytes (replicate (8 - length bytes) 0)) name;
})

-- the bytes of a name that was filled up
pub taken_back : (bytes xs : List ℕ) → xs ≡ bytes ++ replicate (8 - length bytes) 0 → take (length bytes) xs ≡ bytes
taken_back bytes xs is = rw is (take-append_seam bytes (replicate (8 - length bytes) 0))
