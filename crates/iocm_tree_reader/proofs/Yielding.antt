-- What is said of all that a loop took is said of the whole list.
use Rattle.std.proofs.Common.{◌≡◌, List, map, sym, ap, ◌∙◌}
use Rattle.std.proofs.lemmas.List.{map-id}

pub of_all : {A B : Type 0} (f : List A → B) (y : B) (xs all : List A) → y ≡ f xs → map (λ z. z) xs ≡ all → y ≡ f all
of_all f y xs all is same = is ∙ ap f (sym (map-id xs) ∙ same)
