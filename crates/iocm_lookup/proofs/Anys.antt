-- Whether an item of a list passes a test: by another test, and what follows.
use Rattle.std.proofs.Common.{◌≡◌, Bool, true, false, ◌||◌, List, [], ◌∷◌, refl, ap}
use Rattle.std.specs.List.{list_any}

pub or_later : (a b : Bool) → b ≡ true → (a || b) ≡ true
or_later true b h = refl
or_later false b h = h

module _ {A : Type 0} where
  -- what follows from an item that passes follows
  pub any_implies : {P : Type 0} (test : A → Bool) (xs : List A) → ((x : A) → test x ≡ true → P)
      → list_any test xs ≡ true → P
  any_implies test [] follows any = cc
  any_implies {P} test (x ∷ xs) follows any = by (test x) refl any (any_implies test xs follows)
    where
      by : (b : Bool) → test x ≡ b → (b || list_any test xs) ≡ true → (list_any test xs ≡ true → P) → P
      by true is h more = follows x is
      by false is h more = more h

  -- a test that holds wherever another does
  pub any_weaker : (test other : A → Bool) → ((x : A) → test x ≡ true → other x ≡ true) → (xs : List A)
      → list_any test xs ≡ true → list_any other xs ≡ true
  any_weaker test other weaker [] any = any
  any_weaker test other weaker (x ∷ xs) any = by (test x) refl any (any_weaker test other weaker xs)
    where
      by : (b : Bool) → test x ≡ b → (b || list_any test xs) ≡ true
          → (list_any test xs ≡ true → list_any other xs ≡ true) → (other x || list_any other xs) ≡ true
      by true is h more = ap (λ b. b || list_any other xs) (weaker x is)
      by false is h more = or_later (other x) _ (more h)
