-- All breaches of decks, computed.
use Rattle.std.proofs.Common.{◌≡◌, List, map, refl, ap, ◌∙◌}
use Rattle.std.specs.List.{filter_map}
use Rattle.std.specs.FinMap.{entries, find, get-entries}
use Rattle.iocm_types.specs.Key.{key_cmp}
use Rattle.iocm_types.specs.Place.{place_cmp}
use Rattle.iocm_model.specs.Machine.Record.{Rec}
use Rattle.iocm_model.specs.Machine.Configuration.{Configuration, records_of, as_image, with_keys, configuration_of}
use Rattle.iocm_model.specs.Machine.Numbering.{Numbering, opening}
use Rattle.iocm_model.specs.Rules.FirstBreach.{Breach}
use Rattle.iocm_examples.specs.BaseDeck.{base}
use Rattle.iocm_examples.proofs.OnLists.{states_on_lists}
use Rattle.iocm_examples.proofs.Listed.Maps.{put_all}
use Rattle.iocm_examples.proofs.Listed.Views.{Records, Numbers, record_in, lookup_seen, entries-configuration_of}
use Rattle.iocm_examples.proofs.Listed.Views.{opening_listed, opening_seen}
use Rattle.iocm_examples.proofs.Listed.Rules.{rules_by, rules_seen}
use Rattle.iocm_breaches.specs.Breaches.{breaches_of, all_breaches}
use Rattle.iocm_breaches.specs.Examples.{Breaks, mistakes, with_limit, missing_path, one_address, BreachesOfMany}
use Rattle.iocm_breaches.specs.Examples.{BreachesOfOthers}

-- all breaches, from the entries of a configuration and of a numbering as lists
unfoldable pub all_listed : Records → Numbers → List Breach
all_listed es n = let rs = map (λ e. e.1) es in
    breaches_of (rules_by (record_in es) rs (filter_map as_image rs) (λ p. find place_cmp p n)) rs

all_seen : (c : Configuration) (n : Numbering) → all_breaches c n ≡ all_listed (entries c) (entries n)
unfolding all_listed
all_seen c n = ap (λ rules. breaches_of rules (records_of c)) (rules_seen c n)
    ∙ (λ i. breaches_of (rules_by (lookup_seen c i) (records_of c) (filter_map as_image (records_of c))
    (λ p. get-entries n p i)) (records_of c))

computed : (rs : List Rec) (breaches : List Breach)
    → all_listed (put_all key_cmp (with_keys rs)) (opening_listed (put_all key_cmp (with_keys rs))) ≡ breaches
    → Breaks rs breaches
computed rs breaches is = let c = configuration_of rs in all_seen c (opening c)
    ∙ (λ i. all_listed (entries-configuration_of rs i)
    ((opening_seen c ∙ ap opening_listed (entries-configuration_of rs)) i))
    ∙ is

pub breaches_of_many : BreachesOfMany
unfolding states_on_lists all_listed
breaches_of_many = computed mistakes _ refl

pub breaches_of_others : BreachesOfOthers
unfolding states_on_lists all_listed
breaches_of_others = record {
  none = computed base _ refl;
  numbers = computed with_limit _ refl;
  paths = computed missing_path _ refl;
  addresses = computed one_address _ refl;
}
