-- The rules in their order, and the first that is broken.
use Rattle.std.specs.Prelude.{Bool, if◌then◌else◌, Option, None, Some, List, [], ◌∷◌}
use Rattle.iocm_types.specs.declared.rule.Rule.{Rule}
use Rattle.iocm_types.specs.declared.rule.Rule.TheVariants.{V1, V2, V3, V4, V5, V6, V7, V8, V9, V10, V11, V12, V13, V14}
use Rattle.iocm_types.specs.declared.key.Key.{Key}
use Rattle.iocm_model.specs.Machine.Record.{Rec, key_of}
use Rattle.iocm_model.specs.Machine.Configuration.{Configuration, records_of}
use Rattle.iocm_model.specs.Machine.Numbering.{Numbering}
use Rattle.iocm_model.specs.Rules.EachRule.{breaks_v1, breaks_v2, breaks_v3, breaks_v4, breaks_v5}
use Rattle.iocm_model.specs.Rules.EachRule.{breaks_v6, breaks_v7, breaks_v8, breaks_v9, breaks_v10}
use Rattle.iocm_model.specs.Rules.EachRule.{breaks_v11, breaks_v12, breaks_v13, breaks_v14}

-- the rules in their order, each with the records that break it
abbrev pub rules_of : Configuration → Numbering → List (Rule × (Rec → Bool))
rules_of c n =
    (V1, breaks_v1 c) ∷ (V2, breaks_v2 c) ∷ (V3, breaks_v3 c) ∷ (V4, breaks_v4 c)
    ∷ (V5, breaks_v5 c) ∷ (V6, breaks_v6 c) ∷ (V7, breaks_v7 c) ∷ (V8, breaks_v8 c)
    ∷ (V9, breaks_v9 c) ∷ (V10, breaks_v10 c) ∷ (V11, breaks_v11 c) ∷ (V12, breaks_v12 c)
    ∷ (V13, breaks_v13 c n) ∷ (V14, breaks_v14 c) ∷ []

-- a rule that is broken, and the key of the record that breaks it
pub record Breach : Type 0 where
  pub rule : Rule
  pub key : Key

-- the first of these records that is so
unfoldable pub first_record : (Rec → Bool) → List Rec → Option Rec
first_record is_so [] = None
first_record is_so (r ∷ rs) = if is_so r then Some r else first_record is_so rs

-- the breach of a rule that this record breaks, or else what the further rules say
abbrev pub breach_or : Rule → Option Rec → Option Breach → Option Breach
breach_or rule (Some r) further = Some (record { rule = rule; key = key_of r })
breach_or rule None further = further

-- the first breach: by rule, then by key
unfoldable pub first_breach_of : List (Rule × (Rec → Bool)) → List Rec → Option Breach
first_breach_of [] records = None
first_breach_of (rule ∷ rules) records = breach_or rule.0 (first_record rule.1 records) (first_breach_of rules records)

abbrev pub first_breach : Configuration → Numbering → Option Breach
first_breach c n = first_breach_of (rules_of c n) (records_of c)
