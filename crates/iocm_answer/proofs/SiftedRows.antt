-- Of rows in order some: those that are wanted are those that pass the sieves.
use Rattle.std.proofs.Common.{◌≡◌, ◌||◌, Bool, true, false, cond, List, [], ◌∷◌, map, filter, Option, None, Some, refl}
use Rattle.std.proofs.Common.{sym, ap, ap₂, ◌∙◌}
use Rattle.std.specs.List.{AllByRecursion}
use Rattle.std.specs.List.Sorted.{IsStrictlySortedBy}
use Rattle.std.specs.declared.cmp.Ordering.TheVariants.{Less}
use Rattle.iocm_types.specs.SubId.{sub_id_cmp}
use Rattle.iocm_types.specs.declared.sub_id.SubId.{SubId}
use Rattle.iocm_types.specs.declared.view.View.{View}
use Rattle.iocm_filter.specs.Sieves.{Sieve, IsSieveFor}
use Rattle.iocm_filter.specs.Wanted.{Wanted, asks_nothing}
use Rattle.iocm_filter.proofs.WantedLaws.{passes_wanted}
use Rattle.iocm_model.specs.Machine.Configuration.{Configuration}
use Rattle.iocm_reports.specs.Altered.{AreInOrder}
use Rattle.iocm_seats.specs.declared.view_change.ViewChange.{ViewChange}
use Rattle.iocm_answer.specs.Commands.Apply.{is_row_wanted, is_side_wanted}
use Rattle.iocm_answer.specs.Sides.{does_row_pass, does_side_pass}

-- ---- order

above : (p : ViewChange → Bool) (x : SubId) (rows : List ViewChange)
    → AllByRecursion (λ y. sub_id_cmp x y ≡ Less) (map (λ (r : ViewChange). r.subchannel) rows)
    → AllByRecursion (λ y. sub_id_cmp x y ≡ Less) (map (λ (r : ViewChange). r.subchannel) (filter p rows))
above p x [] all = all
above p x (r ∷ rs) all = by (p r) (above p x rs all.1)
  where
    by : (b : Bool) → AllByRecursion (λ y. sub_id_cmp x y ≡ Less) (map (λ (r : ViewChange). r.subchannel) (filter p rs))
        → AllByRecursion (λ y. sub_id_cmp x y ≡ Less)
        (map (λ (r : ViewChange). r.subchannel) (cond b (r ∷ filter p rs) (filter p rs)))
    by true rest = (all.0, rest)
    by false rest = rest

pub order_kept : (p : ViewChange → Bool) (rows : List ViewChange) → AreInOrder rows → AreInOrder (filter p rows)
unfolding IsStrictlySortedBy
order_kept p [] order = order
order_kept p (r ∷ rs) order = by (p r) (order_kept p rs order.1)
  where
    by : (b : Bool) → AreInOrder (filter p rs) → AreInOrder (cond b (r ∷ filter p rs) (filter p rs))
    by true rest = (above p r.subchannel rs order.0, rest)
    by false rest = rest

-- ---- what is wanted

side_same : (w : Wanted) (c : Configuration) (s : Sieve) → IsSieveFor w c s → (x : SubId) (v : Option View)
    → does_side_pass s x v ≡ is_side_wanted w c x v
side_same w c s fits x None = refl
side_same w c s fits x (Some v) = passes_wanted w c s fits (x, v)

row_same : (w : Wanted) (c d : Configuration) (before after : Sieve) → IsSieveFor w c before → IsSieveFor w d after
    → asks_nothing w ≡ false
    → (r : ViewChange) → does_row_pass before after r ≡ is_row_wanted w c d r
row_same w c d before after fits fits_after asks r =
    ap₂ (λ a b. a || b) (side_same w c before fits r.subchannel r.before)
    (side_same w d after fits_after r.subchannel r.after)
    ∙ sym (ap (λ b. b || (is_side_wanted w c r.subchannel r.before || is_side_wanted w d r.subchannel r.after)) asks)

-- the rows that pass are those that are wanted
pub wanted_pass : (w : Wanted) (c d : Configuration) (before after : Sieve) → IsSieveFor w c before
    → IsSieveFor w d after → asks_nothing w ≡ false
    → (rows : List ViewChange) → filter (does_row_pass before after) rows ≡ filter (is_row_wanted w c d) rows
wanted_pass w c d before after fits fits_after asks rows =
    λ j. filter (λ r. row_same w c d before after fits fits_after asks r j) rows

-- where nothing is asked for, all are
all_kept : (p : ViewChange → Bool) (rows : List ViewChange) → ((r : ViewChange) → p r ≡ true) → rows ≡ filter p rows
all_kept p [] all = refl
all_kept p (r ∷ rs) all =
    ap (λ xs. r ∷ xs) (all_kept p rs all) ∙ sym (ap (λ b. cond b (r ∷ filter p rs) (filter p rs)) (all r))

pub all_wanted : (w : Wanted) (c d : Configuration) (rows : List ViewChange) → asks_nothing w ≡ true
    → rows ≡ filter (is_row_wanted w c d) rows
all_wanted w c d rows none =
    all_kept (is_row_wanted w c d) rows
    (λ r. ap (λ b. b || (is_side_wanted w c r.subchannel r.before || is_side_wanted w d r.subchannel r.after)) none)
