-- The number cells of a channel subsystem among some in order stand side by side, and give the same
-- candidates as all.
use Rattle.std.proofs.Common.{◌≡◌, ◌==◌, ◌≤◌, ◌<◌, ◌+◌, ℕ, Bool, true, false, cond, List, [], ◌∷◌, ◌++◌, map, filter}
use Rattle.std.proofs.Common.{length, take, drop, eqb-true, refl, sym, ap, ◌∙◌, arith}
use Rattle.std.proofs.lemmas.Bool.Decides.{nat_tests}
use Rattle.std.proofs.lemmas.Map.Keys.{sorted_head, sorted_tail}
use Rattle.std.specs.List.{AllByRecursion}
use Rattle.std.specs.List.Sorted.{IsStrictlySortedBy}
use Rattle.std.specs.declared.cmp.Ordering.TheVariants.{Less}
use Rattle.iocm_types.specs.declared.image.Image.{Image}
use Rattle.iocm_types.specs.declared.place.NumberCell.{NumberCell}
use Rattle.iocm_types.specs.Place.{cell_cmp}
use Rattle.iocm_reach.specs.SightedCells.{SightedCell}
use Rattle.iocm_seats.specs.Changes.{subchannel_at, candidates}
use Rattle.iocm_seats.specs.Sights.{cells_of_sights, IsIn, is_in, is_before, sights_in}
use Rattle.iocm_seats.proofs.CellsTogether.{css_rises}
use Rattle.iocm_seats.proofs.Everywhere.{of_any, of_passing, weaker}

-- what holds of all holds of those of a channel subsystem
pub all_own : (P : SightedCell → Type 0) (css : ℕ) (sights : List SightedCell) → AllByRecursion P sights
    → AllByRecursion P (sights_in css sights)
all_own P css sights all =
    of_passing P (is_in css) sights (weaker P (λ s. is_in css s ≡ true → P s) (λ s holds is. holds) sights all)

pub are_own : (css : ℕ) (sights : List SightedCell) → AllByRecursion (IsIn css) (sights_in css sights)
are_own css sights = of_passing (IsIn css) (is_in css) sights
    (of_any (λ s. is_in css s ≡ true → IsIn css s) (λ s is. eqb-true s.cell.css css is) sights)

-- ---- the same candidates

passes_once : {X Y : Type 0} (f : X → Y) (p : Y → Bool) (xs : List X)
    → filter p (map f (filter (λ x. p (f x)) xs)) ≡ filter p (map f xs)
passes_once f p [] = refl
passes_once f p (x ∷ xs) = by (p (f x)) refl (passes_once f p xs)
  where
    by : (b : Bool) → p (f x) ≡ b → filter p (map f (filter (λ z. p (f z)) xs)) ≡ filter p (map f xs)
        → filter p (map f (cond b (x ∷ filter (λ z. p (f z)) xs) (filter (λ z. p (f z)) xs)))
        ≡ cond b (f x ∷ filter p (map f xs)) (filter p (map f xs))
    by true is rest = ap (λ b.
        cond b (f x ∷ filter p (map f (filter (λ z. p (f z)) xs))) (filter p (map f (filter (λ z. p (f z)) xs)))) is
        ∙ ap (λ ys. f x ∷ ys) rest
    by false is rest = rest

pub same_candidates : (i : Image) (sights : List SightedCell)
    → candidates (i ∷ []) (cells_of_sights (sights_in i.css sights)) ≡ candidates (i ∷ []) (cells_of_sights sights)
same_candidates i sights =
    ap (λ cells. map (subchannel_at i) cells ++ [])
    (passes_once (λ (s : SightedCell). s.cell) (λ (c : NumberCell). c.css == i.css) sights)

-- ---- side by side

-- a number cell is of this channel subsystem, or of a later one
abbrev IsFrom : ℕ → SightedCell → Type 0
IsFrom css s = css ≤ s.cell.css

none_before : (css : ℕ) (sights : List SightedCell) → AllByRecursion (IsFrom css) sights
    → filter (is_before css) sights ≡ []
none_before css [] all = refl
none_before css (s ∷ sights) all = by (is_before css s) refl (none_before css sights all.1)
  where
    by : (b : Bool) → is_before css s ≡ b → filter (is_before css) sights ≡ []
        → cond b (s ∷ filter (is_before css) sights) (filter (is_before css) sights) ≡ []
    by true is rest = absurd (grind (arith, nat_tests))
    by false is rest = rest

none_past : (css : ℕ) (sights : List SightedCell) → AllByRecursion (λ (s : SightedCell). css < s.cell.css) sights
    → sights_in css sights ≡ []
none_past css [] all = refl
none_past css (s ∷ sights) all = by (is_in css s) refl (none_past css sights all.1)
  where
    by : (b : Bool) → is_in css s ≡ b → sights_in css sights ≡ []
        → cond b (s ∷ sights_in css sights) (sights_in css sights) ≡ []
    by true is rest = absurd (grind (arith, nat_tests))
    by false is rest = rest

-- the channel subsystems of those behind a cell aren't before its own
rising : (s : SightedCell) (sights : List SightedCell)
    → AllByRecursion (λ c. cell_cmp s.cell c ≡ Less) (cells_of_sights sights)
    → AllByRecursion (IsFrom s.cell.css) sights
rising s [] below = tt
rising s (t ∷ sights) below = (css_rises s.cell t.cell below.0, rising s sights below.1)

-- what is from a number of cells on, for so many
abbrev side_by_side : ℕ → ℕ → List SightedCell → List SightedCell
side_by_side before own sights = take own (drop before sights)

pub own_slice : (css : ℕ) (sights : List SightedCell) → IsStrictlySortedBy cell_cmp (cells_of_sights sights)
    → side_by_side (length (filter (is_before css) sights)) (length (sights_in css sights)) sights
    ≡ sights_in css sights
own_slice css [] up = refl
own_slice css (s ∷ sights) up =
    by (is_before css s) (is_in css s) refl refl
    (own_slice css sights (sorted_tail cell_cmp s.cell (cells_of_sights sights) up))
  where
    here : AllByRecursion (IsFrom s.cell.css) sights
    here = rising s sights (sorted_head cell_cmp s.cell (cells_of_sights sights) up)

    none : css ≤ s.cell.css → filter (is_before css) sights ≡ []
    none from = none_before css sights
        (weaker (IsFrom s.cell.css) (IsFrom css) (λ t later. omega (arith, later, from)) sights here)

    by : (a b : Bool) → is_before css s ≡ a → is_in css s ≡ b
        → side_by_side (length (filter (is_before css) sights)) (length (sights_in css sights)) sights
        ≡ sights_in css sights
        → side_by_side (length (cond a (s ∷ filter (is_before css) sights) (filter (is_before css) sights)))
        (length (cond b (s ∷ sights_in css sights) (sights_in css sights))) (s ∷ sights)
        ≡ cond b (s ∷ sights_in css sights) (sights_in css sights)
    by true true before own rest = absurd (grind (arith, nat_tests))
    by true false before own rest = rest
    by false true before own rest = let first = none (grind (arith, nat_tests)) in
        ap (λ (ts : List SightedCell). side_by_side (length ts) (length (s ∷ sights_in css sights)) (s ∷ sights)) first
        ∙ ap (λ ts. s ∷ ts) (sym
        (ap (λ (ts : List SightedCell). side_by_side (length ts) (length (sights_in css sights)) sights) first)
        ∙ rest)
    by false false before own rest =
        let past : sights_in css sights ≡ [] =
        none_past css sights (weaker (IsFrom s.cell.css) (λ (t : SightedCell). css < t.cell.css)
        (λ t later. grind (arith, nat_tests)) sights here) in
        ap (λ (ts : List SightedCell). side_by_side (length (filter (is_before css) sights)) (length ts) (s ∷ sights))
        past ∙ sym past

-- and they are among those that there are
pub own_room : (css : ℕ) (sights : List SightedCell)
    → length (filter (is_before css) sights) + length (sights_in css sights) ≤ length sights
own_room css [] = omega arith
own_room css (s ∷ sights) = by (is_before css s) (is_in css s) refl refl (own_room css sights)
  where
    by : (a b : Bool) → is_before css s ≡ a → is_in css s ≡ b
        → length (filter (is_before css) sights) + length (sights_in css sights) ≤ length sights
        → length (cond a (s ∷ filter (is_before css) sights) (filter (is_before css) sights))
        + length (cond b (s ∷ sights_in css sights) (sights_in css sights)) ≤ length (s ∷ sights)
    by true true before own room = absurd (grind (arith, nat_tests))
    by true false before own room = omega (arith, room)
    by false true before own room = omega (arith, room)
    by false false before own room = omega (arith, room)
