-- Ranges that overlap, one range after the other.
use Rattle.std.proofs.Common.{◌≡◌, ℕ, ◌+◌, ◌<◌, ◌≤◌, true, false, ◌||◌, List, length, get_or, drop, ap, ◌∙◌}
use Rattle.std.proofs.Math.ListN.{drop_of_length-le}
use Rattle.std.specs.List.{list_any}
use Rattle.iocm_types.proofs.Lists.{drop-item}
use Rattle.iocm_types.specs.declared.unit_range.UnitRange.{UnitRange}
use Rattle.iocm_model.specs.Rules.EachRule.{overlap, has_overlap}

pub apart_from_rest : (rs : List UnitRange) (i : ℕ) (r : UnitRange) → i < length rs → r ≡ get_or rs i r
    → list_any (overlap r) (drop (i + 1) rs) ≡ false
    → has_overlap (drop i rs) ≡ has_overlap (drop (i + 1) rs)
apart_from_rest rs i r within item apart =
    ap has_overlap (drop-item rs i r within item) ∙ ap (λ b. b || has_overlap (drop (i + 1) rs)) apart

pub overlaps_rest : (rs : List UnitRange) (i : ℕ) (r : UnitRange) → i < length rs → r ≡ get_or rs i r
    → list_any (overlap r) (drop (i + 1) rs) ≡ true
    → has_overlap (drop i rs) ≡ true
overlaps_rest rs i r within item there =
    ap has_overlap (drop-item rs i r within item) ∙ ap (λ b. b || has_overlap (drop (i + 1) rs)) there

pub none_overlap : (rs : List UnitRange) (i : ℕ) → length rs ≤ i → has_overlap (drop i rs) ≡ false
none_overlap rs i past = ap has_overlap (drop_of_length-le rs past)

pub ruleset overlap_steps = (apart_from_rest, overlaps_rest, none_overlap)
