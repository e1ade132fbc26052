-- What several reads took from a reader's known bytes.
use Rattle.std.proofs.Common.{◌≡◌, ℕ, Option, None, Some, IfSome, List, [], ◌++◌, refl, sym, ap, ◌∙◌, append-nil}
use Rattle.std.proofs.Common.{append_assoc, take}
use Rattle.std.specs.Io.KnownBytes.{Consumes, IsAtEnd}

-- nothing is taken before the first read
pub consumed_none : (a : Option (List ℕ)) (bs : List ℕ) → bs ≡ [] → Consumes a a bs
consumed_none None bs is = tt
consumed_none (Some xs) bs is = rw is refl

-- what one more read takes comes behind what was taken
pub consumed_more : (a b c : Option (List ℕ)) (bs cs all : List ℕ) → Consumes a b bs → Consumes b c cs → all ≡ bs ++ cs
    → Consumes a c all
consumed_more None b c bs cs all first more is = tt
consumed_more (Some xs) None c bs cs all first more is = absurd first
consumed_more (Some xs) (Some ys) None bs cs all first more is = absurd more
consumed_more (Some xs) (Some ys) (Some zs) bs cs all first more is =
    first ∙ ap (λ l. bs ++ l) more ∙ sym (append_assoc bs cs zs) ∙ ap (λ l. l ++ zs) (sym is)

-- at the end, what was taken is all there was
pub consumed_all : (a b c : Option (List ℕ)) (n : ℕ) (bs buffer : List ℕ) → n ≡ 0 → Consumes a b bs
    → Consumes b c (take n buffer) → IsAtEnd c → IfSome a (λ xs. bs ≡ xs)
consumed_all None b c n bs buffer is first more end = tt
consumed_all (Some xs) None c n bs buffer is first more end = absurd first
consumed_all (Some xs) (Some ys) None n bs buffer is first more end = absurd more
consumed_all (Some xs) (Some ys) (Some zs) n bs buffer is first more end =
    let empty : ys ≡ zs = rw is at more in
    sym (first ∙ ap (λ l. bs ++ l) (empty ∙ end) ∙ append-nil bs)

pub ruleset consuming = (consumed_none, consumed_more, consumed_all)
