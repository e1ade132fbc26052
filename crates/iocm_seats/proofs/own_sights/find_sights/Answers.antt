use Rattle.std.proofs.Common.{rules, ◌≡◌, ◌+◌, ◌-◌, ◌≤◌, ℕ, List, length, filter, take, drop, sym, ap, subst, ◌∙◌}
use Rattle.std.proofs.Common.{arith}
use Rattle.iocm_reach.specs.SightedCells.{SightedCell}
use Rattle.iocm_seats.specs.Sights.{is_before, sights_in}
use Rattle.iocm_seats.proofs.OwnSights.{own_room, own_slice}
use Rattle.iocm_seats.proofs.own_sights.find_sights.Goals as goal

-- those before and those of the channel subsystem, as they were counted, are among all
counted : (css : ℕ) (sights : List SightedCell) (before own : ℕ) → before ≡ length (filter (is_before css) sights)
    → own ≡ length (sights_in css sights)
    → before + own ≤ length sights
counted css sights before own first second =
    subst (λ n. n ≤ length sights) (sym (λ i. first i + second i)) (own_room css sights)

pub overflow_add-result : goal.overflow_add-result
overflow_add-result g c = let room =
    counted c.args.css c.args.sights.now _ _ c.count_before-before.ensures c.count_in-own.ensures in search rules

pub offset_bounds-sights-before : goal.offset_bounds-sights-before
offset_bounds-sights-before g c = let room =
    counted c.args.css c.args.sights.now _ _ c.count_before-before.ensures c.count_in-own.ensures in search rules

pub slice_bounds-result-end : goal.slice_bounds-result-end
slice_bounds-result-end g c = let room =
    counted c.args.css c.args.sights.now _ _ c.count_before-before.ensures c.count_in-own.ensures in search rules

less : (a b : ℕ) → a + b - a ≡ b
less a b = omega arith

pub returns : goal.returns
returns g c = ap (λ n. take n (drop c.count_before-before.result c.args.sights.now))
    (less c.count_before-before.result c.count_in-own.result)
    ∙ (λ i. take (c.count_in-own.ensures i) (drop (c.count_before-before.ensures i) c.args.sights.now))
    ∙ own_slice c.args.css c.args.sights.now c.requires
