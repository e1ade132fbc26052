-- Lists of values that are read item by item, up to the first that is malformed.
use Rattle.std.specs.Prelude.{ℕ, ◌+◌, Option, None, Some, List, [], ◌∷◌, ◌++◌}

-- go on with what was read, or there is nothing
infixl 10 ◌>>=◌
abbrev pub ◌>>=◌ : {A B : Type 0} → Option A → (A → Option B) → Option B
(Some x) >>= f = f x
None >>= f = None

-- what each item gives, in order
unfoldable pub every : {A B : Type 0} → (A → Option B) → List A → Option (List B)
every read [] = Some []
every read (x ∷ xs) = read x >>= λ y. every read xs >>= λ ys. Some (y ∷ ys)

-- the same where read is told the item's place, counted from i
unfoldable pub every_at : {A B : Type 0} → (ℕ → A → Option B) → ℕ → List A → Option (List B)
every_at read i [] = Some []
every_at read i (x ∷ xs) = read i x >>= λ y. every_at read (i + 1) xs >>= λ ys. Some (y ∷ ys)

-- what each item gives, end to end
unfoldable pub gathered : {A B : Type 0} → (A → Option (List B)) → List A → Option (List B)
gathered read [] = Some []
gathered read (x ∷ xs) = read x >>= λ ys. gathered read xs >>= λ zs. Some (ys ++ zs)

-- what was gathered, with what the rest gives behind it
abbrev pub after_front : {B : Type 0} → List B → Option (List B) → Option (List B)
after_front front rest = rest >>= λ ys. Some (front ++ ys)
