-- A unit that stands twice, one unit after the other.
use Rattle.std.proofs.Common.{◌≡◌, ℕ, ◌+◌, ◌<◌, ◌≤◌, true, false, ◌||◌, nat_eq, List, length, get_or, drop, ap, ◌∙◌}
use Rattle.std.proofs.Math.ListN.{drop_of_length-le}
use Rattle.std.specs.List.{list_any}
use Rattle.iocm_types.proofs.Lists.{drop-item}
use Rattle.iocm_model.specs.Rules.EachRule.{has_twice}

pub not_twice : (us : List ℕ) (i u : ℕ) → i < length us → u ≡ get_or us i u
    → list_any (nat_eq u) (drop (i + 1) us) ≡ false
    → has_twice (drop i us) ≡ has_twice (drop (i + 1) us)
not_twice us i u within item apart =
    ap has_twice (drop-item us i u within item) ∙ ap (λ b. b || has_twice (drop (i + 1) us)) apart

pub is_twice : (us : List ℕ) (i u : ℕ) → i < length us → u ≡ get_or us i u
    → list_any (nat_eq u) (drop (i + 1) us) ≡ true → has_twice (drop i us) ≡ true
is_twice us i u within item there =
    ap has_twice (drop-item us i u within item) ∙ ap (λ b. b || has_twice (drop (i + 1) us)) there

pub none_twice : (us : List ℕ) (i : ℕ) → length us ≤ i → has_twice (drop i us) ≡ false
none_twice us i past = ap has_twice (drop_of_length-le us past)

pub ruleset unit_twice = (not_twice, is_twice, none_twice)
