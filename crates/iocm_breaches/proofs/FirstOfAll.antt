-- The first of all breaches is the first breach.
use Rattle.std.proofs.Common.{◌≡◌, Bool, true, false, cond, None, Some, List, [], ◌∷◌, ◌++◌, map, filter, refl, sym, ap}
use Rattle.std.proofs.Common.{◌∙◌}
use Rattle.iocm_types.specs.declared.rule.Rule.{Rule}
use Rattle.iocm_model.specs.Machine.Record.{Rec}
use Rattle.iocm_model.specs.Machine.Configuration.{records_of}
use Rattle.iocm_model.specs.Rules.FirstBreach.{Breach, rules_of, first_record, breach_or, first_breach_of}
use Rattle.iocm_breaches.specs.Breaches.{breach_of, breaches_of_rule, breaches_of, all_breaches}
use Rattle.iocm_breaches.specs.Laws.{first_of, FirstComesFirst, NoneWhereNoFirst}

-- of a rule's breaches the first is that of the first record, and behind them the others come
of_rule : (rule : Rule) (breaks : Rec → Bool) (rs : List Rec) (others : List Breach)
    → first_of (breaches_of_rule rule breaks rs ++ others) ≡ breach_or rule (first_record breaks rs) (first_of others)
unfolding first_record
of_rule rule breaks [] others = refl
of_rule rule breaks (r ∷ rs) others = by (breaks r) (of_rule rule breaks rs others)
  where
    by : (b : Bool) → first_of (map (breach_of rule) (filter breaks rs) ++ others)
        ≡ breach_or rule (first_record breaks rs) (first_of others)
        → first_of (map (breach_of rule) (cond b (r ∷ filter breaks rs) (filter breaks rs)) ++ others)
        ≡ breach_or rule (cond b (Some r) (first_record breaks rs)) (first_of others)
    by true more = refl
    by false more = more

of_rules : (rules : List (Rule × (Rec → Bool))) (rs : List Rec)
    → first_of (breaches_of rules rs) ≡ first_breach_of rules rs
unfolding first_breach_of
of_rules [] rs = refl
of_rules (rule ∷ rules) rs =
    of_rule rule.0 rule.1 rs (breaches_of rules rs) ∙ ap (breach_or rule.0 (first_record rule.1 rs)) (of_rules rules rs)

pub first_comes_first : FirstComesFirst
first_comes_first c n = of_rules (rules_of c n) (records_of c)

-- a list without a first is empty
empty_without : (bs : List Breach) → first_of bs ≡ None → bs ≡ []
empty_without [] none = refl
empty_without (b ∷ bs) none = cc

pub none_where_no_first : NoneWhereNoFirst
none_where_no_first c n = (
  λ none. sym (first_comes_first c n) ∙ ap first_of none,
  λ none. empty_without (all_breaches c n) (first_comes_first c n ∙ none),
)
