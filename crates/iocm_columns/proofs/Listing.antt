-- The steps of a loop that takes the items of a list off its front: what was gathered, with what
-- the rest gives, is what all give.
use Rattle.std.proofs.Common.{◌≡◌, ℕ, ◌+◌, List, [], ◌∷◌, ◌++◌, Result, Ok, Err, refl}
use Rattle.std.proofs.lemmas.List.{append-nil}
use Rattle.iocm_types.specs.declared.fault.Fault.{Fault}
use Rattle.iocm_types.specs.Each.{each, after_front}
use Rattle.iocm_types.proofs.Each.{front_grows}

-- the first item is read and goes to what was gathered
pub first_goes_on : {A B : Type 0} (read : ℕ → A → Result B Fault) (front : List B) (n : ℕ) (items : List A) (x : A)
    (xs : List A) (y : B)
    → items ≡ x ∷ xs → read n x ≡ Ok y
    → after_front front (each read n items) ≡ after_front (front ++ y ∷ []) (each read (n + 1) xs)
unfolding each
first_goes_on read front n items x xs y are is = rw (are, is) (front_grows front (y ∷ []) (each read (n + 1) xs))

-- the first item is refused, and that is the answer
pub first_fails : {A B : Type 0} (read : ℕ → A → Result B Fault) (front : List B) (n : ℕ) (items : List A) (x : A)
    (xs : List A) (f : Fault)
    → items ≡ x ∷ xs → read n x ≡ Err f → after_front front (each read n items) ≡ Err f
unfolding each
first_fails read front n items x xs f are is = rw (are, is) refl

-- no item is left, and what was gathered is the answer
pub none_left : {A B : Type 0} (read : ℕ → A → Result B Fault) (front : List B) (n : ℕ) (items : List A)
    → items ≡ [] → after_front front (each read n items) ≡ Ok front
unfolding each
none_left read front n items are = rw (are, append-nil front) refl

pub ruleset first_steps = (first_goes_on, first_fails, none_left)
