-- What is gathered of some edits, edit by edit.
use Rattle.std.proofs.Common.{◌≡◌, ◌∙◌, ◌+◌, ◌<◌, ◌≤◌, ℕ, List, [], ◌∷◌, ◌++◌, length, take, get_or, map, ap, sym}
use Rattle.std.proofs.Common.{append_assoc, append-nil}
use Rattle.std.proofs.lemmas.Grind.{flat_map-append}
use Rattle.std.proofs.lemmas.List.{take_all, take_more, map-append}
use Rattle.std.specs.List.{flat_map}
use Rattle.iocm_model.specs.Change.Edit.{Action}
use Rattle.iocm_tree.specs.Carried.{Carried}
use Rattle.iocm_difference_writer.specs.Runs.{action_in, actions_in}

-- ---- what each edit gives

module _ {Y : Type 0} (give : Action → List Y) (edits : List Carried) (i : ℕ) where
  -- one more edit
  pub gives_more : (e : Carried) (before after : List Y) → i < length edits → e ≡ get_or edits i e
      → before ≡ flat_map give (actions_in (take i edits)) → after ≡ before ++ give (action_in e)
      → after ≡ flat_map give (actions_in (take (i + 1) edits))
  gives_more e before after within is so_far more =
      let one : flat_map give (actions_in (get_or edits i e ∷ [])) ≡ give (action_in e) =
      append-nil (give (action_in (get_or edits i e))) ∙ ap (λ x. give (action_in x)) (sym is) in
      more ∙ ap (λ x. x ++ give (action_in e)) so_far
      ∙ ap (λ x. flat_map give (actions_in (take i edits)) ++ x) (sym one)
      ∙ sym (flat_map-append give (actions_in (take i edits)) (actions_in (get_or edits i e ∷ [])))
      ∙ ap (flat_map give) (sym (map-append action_in (take i edits) (get_or edits i e ∷ [])))
      ∙ ap (λ x. flat_map give (actions_in x)) (sym (take_more edits i e within))

  -- no edit is left
  pub gives_all : (before : List Y) → length edits ≤ i → before ≡ flat_map give (actions_in (take i edits))
      → before ≡ flat_map give (actions_in edits)
  gives_all before past so_far = so_far ∙ ap (λ x. flat_map give (actions_in x)) (take_all i edits past)

-- ---- what is put of each item

module _ {X Y Z : Type 0} (f : Y → Z) (g : X → Y) (xs : List X) (i : ℕ) (start : List Z) where
  pub put_more : (x : X) (before after : List Z) → i < length xs → x ≡ get_or xs i x
      → before ≡ start ++ map f (map g (take i xs)) → after ≡ before ++ f (g x) ∷ []
      → after ≡ start ++ map f (map g (take (i + 1) xs))
  put_more x before after within is so_far more =
      more ∙ ap (λ y. y ++ f (g x) ∷ []) so_far
      ∙ append_assoc start (map f (map g (take i xs))) (f (g x) ∷ [])
      ∙ ap (λ y. start ++ (map f (map g (take i xs)) ++ f (g y) ∷ [])) is
      ∙ ap (λ y. start ++ y) (sym (map-append f (map g (take i xs)) (map g (get_or xs i x ∷ []))))
      ∙ ap (λ y. start ++ map f y) (sym (map-append g (take i xs) (get_or xs i x ∷ [])))
      ∙ ap (λ y. start ++ map f (map g y)) (sym (take_more xs i x within))

  pub put_all : (before : List Z) → length xs ≤ i → before ≡ start ++ map f (map g (take i xs))
      → before ≡ start ++ map f (map g xs)
  put_all before past so_far = so_far ∙ ap (λ y. start ++ map f (map g y)) (take_all i xs past)

-- the same of edits
pub put_each_more : {Y Z : Type 0} (f : Y → Z) (g : Action → Y) (edits : List Carried) (i : ℕ) (start : List Z)
    (e : Carried) (before after : List Z)
    → i < length edits → e ≡ get_or edits i e → before ≡ start ++ map f (map g (actions_in (take i edits)))
    → after ≡ before ++ f (g (action_in e)) ∷ []
    → after ≡ start ++ map f (map g (actions_in (take (i + 1) edits)))
put_each_more f g edits i start e before after within is so_far more =
    more ∙ ap (λ y. y ++ f (g (action_in e)) ∷ []) so_far
    ∙ append_assoc start (map f (map g (actions_in (take i edits)))) (f (g (action_in e)) ∷ [])
    ∙ ap (λ y. start ++ (map f (map g (actions_in (take i edits))) ++ f (g (action_in y)) ∷ [])) is
    ∙ ap (λ y. start ++ y) (sym
    (map-append f (map g (actions_in (take i edits))) (map g (actions_in (get_or edits i e ∷ [])))))
    ∙ ap (λ y. start ++ map f y) (sym (map-append g (actions_in (take i edits)) (actions_in (get_or edits i e ∷ []))))
    ∙ ap (λ y. start ++ map f (map g y)) (sym (map-append action_in (take i edits) (get_or edits i e ∷ [])))
    ∙ ap (λ y. start ++ map f (map g (actions_in y))) (sym (take_more edits i e within))
