-- Every breach of the rules.
use Rattle.std.specs.Prelude.{Bool, List, map, filter}
use Rattle.std.specs.List.{flat_map}
use Rattle.iocm_types.specs.declared.rule.Rule.{Rule}
use Rattle.iocm_model.specs.Machine.Record.{Rec, key_of}
use Rattle.iocm_model.specs.Machine.Configuration.{Configuration, records_of}
use Rattle.iocm_model.specs.Machine.Numbering.{Numbering}
use Rattle.iocm_model.specs.Rules.FirstBreach.{Breach, rules_of}

-- a record breaks a rule
abbrev pub breach_of : Rule → Rec → Breach
breach_of rule r = record { rule = rule; key = key_of r }

-- of some records those that break a rule, in their order
abbrev pub breaches_of_rule : Rule → (Rec → Bool) → List Rec → List Breach
breaches_of_rule rule breaks records = map (breach_of rule) (filter breaks records)

-- those of several rules, by rule
abbrev pub breaches_of : List (Rule × (Rec → Bool)) → List Rec → List Breach
breaches_of rules records = flat_map (λ (rule : Rule × (Rec → Bool)). breaches_of_rule rule.0 rule.1 records) rules

-- all breaches: by rule, then by key
abbrev pub all_breaches : Configuration → Numbering → List Breach
all_breaches c n = breaches_of (rules_of c n) (records_of c)
