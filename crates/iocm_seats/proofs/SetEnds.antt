-- The last subchannels of the sets of number cells, one cell after the other.
use Rattle.std.proofs.Common.{◌≡◌, ℕ, zero, suc, ◌+◌, ◌<◌, Bool, true, false, cond, List, [], ◌∷◌, length, get_or, drop}
use Rattle.std.proofs.Common.{slice_get, refl, sym, ap, subst, ◌∙◌}
use Rattle.std.specs.List.{AllByRecursion}
use Rattle.iocm_types.proofs.Lists.{drop-item}
use Rattle.iocm_types.specs.declared.sub_id.SubId.{SubId}
use Rattle.iocm_seats.specs.Seated.{Seated, HasPlace, KeepsPlaces}
use Rattle.iocm_seats.specs.Taken.{Taken, ends_set, last_subchannel, set_ends}

-- the first of the items from a place on is the item there
first_there : {A : Type 0} (xs : List A) (i : ℕ) → slice_get (drop i xs) 0 ≡ slice_get xs i
first_there [] zero = refl
first_there [] (suc i) = refl
first_there (x ∷ xs) zero = refl
first_there (x ∷ xs) (suc i) = first_there xs i

-- what holds where the sets end that a cell and those after it end
pub ends_more : (P : SubId → Type 0) (cells : List Taken) (i : ℕ) (t : Taken) → i < length cells → t ≡ get_or cells i t
    → (b : Bool) → ends_set t.cell.set (slice_get cells (i + 1)) ≡ b → (b ≡ true → P (last_subchannel t.cell))
    → AllByRecursion P (set_ends (drop (i + 1) cells)) → AllByRecursion P (set_ends (drop i cells))
ends_more P cells i t within item b is here all =
    subst (λ ts. AllByRecursion P (set_ends ts)) (sym (drop-item cells i t within item))
    (subst (λ e. AllByRecursion P
    (cond e (last_subchannel t.cell ∷ set_ends (drop (i + 1) cells)) (set_ends (drop (i + 1) cells))))
    (sym (ap (ends_set t.cell.set) (first_there cells (i + 1)) ∙ is)) (by b here))
  where
    by : (e : Bool) → (e ≡ true → P (last_subchannel t.cell))
        → AllByRecursion P (cond e (last_subchannel t.cell ∷ set_ends (drop (i + 1) cells))
        (set_ends (drop (i + 1) cells)))
    by true there = (there refl, all)
    by false there = all

-- seats in which each set has its place where those from a cell on have theirs
abbrev pub Places : List Taken → Seated → ℕ → Type 0
Places cells now i = (s : Seated) → KeepsPlaces now s → AllByRecursion (HasPlace s) (set_ends (drop i cells))
    → AllByRecursion (HasPlace s) (set_ends cells)

-- one cell more
pub more_places : (cells : List Taken) (i : ℕ) (t : Taken) → i < length cells → t ≡ get_or cells i t
    → (old new : Seated) → KeepsPlaces old new → (b : Bool) → ends_set t.cell.set (slice_get cells (i + 1)) ≡ b
    → (b ≡ true → HasPlace new (last_subchannel t.cell)) → Places cells old i → Places cells new (i + 1)
more_places cells i t within item old new kept b is here before s keeps all =
    before s (λ x had. keeps x (kept x had))
    (ends_more (HasPlace s) cells i t within item b is (λ e. keeps (last_subchannel t.cell) (here e)) all)
