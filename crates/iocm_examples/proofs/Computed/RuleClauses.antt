-- The first breaches of decks that break one clause of a rule, and of decks at the bounds,
-- computed.
use Rattle.std.proofs.Common.{◌≡◌, ◌∙◌, List, Bool, [], ◌∷◌, None, Some, map}
use Rattle.iocm_types.specs.declared.path_kind.PathKind.TheVariants.{Dedicated, Shared}
use Rattle.iocm_types.specs.Key.{key_cmp}
use Rattle.iocm_model.specs.Machine.Record.{Rec}
use Rattle.iocm_model.specs.Machine.Configuration.{configuration_of, with_keys, records_of}
use Rattle.iocm_model.specs.Rules.EachRule.{breaks_v4}
use Rattle.iocm_examples.specs.BaseDeck.{lpa, lpb, online_record}
use Rattle.iocm_examples.specs.Rules.{unit_with}
use Rattle.iocm_examples.specs.RuleClauses.{online_at_no_path, ranges_from, device_on, five_and, candidate_elsewhere}
use Rattle.iocm_examples.specs.RuleClauses.{eight_in_both, sharing_elsewhere, online_to_both, BrokenByOneClause}
use Rattle.iocm_examples.specs.RuleClauses.{OnlineAtADedicatedPath, KeptAtTheBound}
use Rattle.iocm_examples.proofs.OnLists.{states_on_lists}
use Rattle.iocm_examples.proofs.Listed.Maps.{put_all}
use Rattle.iocm_examples.proofs.Listed.Rules.{v4_by}
use Rattle.iocm_examples.proofs.Listed.Views.{Records, entries-configuration_of, lookup_seen, record_in}
use Rattle.iocm_examples.proofs.Computed.Rules.{first_breach_of_records}

pub broken_by_one_clause : BrokenByOneClause
unfolding states_on_lists
broken_by_one_clause = record {
  v4_no_path = first_breach_of_records online_at_no_path;
  v7_overlap = first_breach_of_records (unit_with (ranges_from 0x0F) []);
  v8_no_unit = first_breach_of_records (device_on []);
  v8_twice = first_breach_of_records (device_on (0x1000 ∷ 0x1000 ∷ []));
  v8_not_there = first_breach_of_records (device_on (0x1000 ∷ 0x1001 ∷ []));
  v11_nine = first_breach_of_records (five_and (0x55 ∷ 0x56 ∷ 0x57 ∷ 0x58 ∷ []));
  v14_absent_is_00 = first_breach_of_records (sharing_elsewhere (Some 0));
  v14_elsewhere = first_breach_of_records (sharing_elsewhere None);
}

pub kept_at_the_bound : KeptAtTheBound
unfolding states_on_lists
kept_at_the_bound = record {
  v5_eight_in_both = first_breach_of_records eight_in_both;
  v7_touch = first_breach_of_records (unit_with (ranges_from 0x10) []);
  v11_eight = first_breach_of_records (five_and (0x55 ∷ 0x56 ∷ 0x57 ∷ []));
  v12_elsewhere = first_breach_of_records candidate_elsewhere;
  v14_other_cuadd = first_breach_of_records (sharing_elsewhere (Some 1));
}

-- what breaks V4 among the records of a configuration, from its entries
abbrev v4_listed : Records → Rec → Bool
v4_listed es r = v4_by (record_in es) (map (λ e. e.1) es) r

-- V4 of records
v4_of_records : (rs : List Rec) (r : Rec)
    → breaks_v4 (configuration_of rs) r ≡ v4_listed (put_all key_cmp (with_keys rs)) r
v4_of_records rs r = (λ i. v4_by (lookup_seen (configuration_of rs) i) (records_of (configuration_of rs)) r)
    ∙ (λ i. v4_listed (entries-configuration_of rs i) r)

pub online_at_a_dedicated_path : OnlineAtADedicatedPath
unfolding states_on_lists
online_at_a_dedicated_path = record {
  first = v4_of_records (online_to_both Dedicated) (online_record 0x52 lpa);
  second = v4_of_records (online_to_both Dedicated) (online_record 0x52 lpb);
  shared = v4_of_records (online_to_both Shared) (online_record 0x52 lpb);
}
