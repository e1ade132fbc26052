-- What passes a test among what items give, and one more; what each channel subsystem or set gives.
use Rattle.std.proofs.Common.{◌≡◌, ℕ, ◌+◌, ◌<◌, Bool, List, []}
use Rattle.std.proofs.Common.{◌∷◌, ◌++◌, drop, get_or, filter, map}
use Rattle.std.proofs.Common.{append_assoc, sym, ap, ◌∙◌, zero-add}
use Rattle.std.proofs.lemmas.List.Elements.{filter-append}
use Rattle.std.proofs.lemmas.List.{get_or-map}
use Rattle.std.proofs.lemmas.List.FromFn.{get_or-range_with_len}
use Rattle.iocm_types.proofs.Lists.{drop-range}
use Rattle.iocm_model.specs.Machine.Numbering.{sets, subsystems}

-- the rows so far, that of an item, and those of the items behind it
pub next_passes : {X Y : Type 0} (p : Y → Bool) (f : X → Y) (front : List Y) (all rest : List X) (x : X)
    → all ≡ x ∷ rest → (front ++ filter p (f x ∷ [])) ++ filter p (map f rest) ≡ front ++ filter p (map f all)
next_passes p f front all rest x is =
    append_assoc front (filter p (f x ∷ [])) (filter p (map f rest))
    ∙ ap (λ l. front ++ l) (sym (filter-append p (f x ∷ []) (map f rest)))
    ∙ ap (λ l. front ++ filter p (map f l)) (sym is)

pub next_set : {X : Type 0} (p : X → Bool) (f : ℕ → X) (front : List X) (n : ℕ) → n < 4
    → (front ++ filter p (f n ∷ [])) ++ filter p (map f (drop (n + 1) sets)) ≡ front ++ filter p (map f (drop n sets))
next_set p f front n within = next_passes p f front (drop n sets) (drop (n + 1) sets) n (drop-range 4 n within)

-- what each channel subsystem gives so far, what one gives, and what those behind it give
pub next_subsystem : {Y : Type 0} (f : ℕ → Y) (front : List Y) (n : ℕ) → n < 6
    → (front ++ f n ∷ []) ++ map f (drop (n + 1) subsystems) ≡ front ++ map f (drop n subsystems)
next_subsystem f front n within =
    append_assoc front (f n ∷ []) (map f (drop (n + 1) subsystems))
    ∙ ap (λ l. front ++ map f l) (sym (drop-range 6 n within))

pub of_subsystem : {Y : Type 0} (f : ℕ → Y) (n : ℕ) (d : Y) → n < 6 → get_or (map f subsystems) n d ≡ f n
of_subsystem f n d within =
    get_or-map f subsystems n 0 d within
    ∙ ap f (get_or-range_with_len 0 6 n 0 within ∙ zero-add n)
