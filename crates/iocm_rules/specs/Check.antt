-- The rules on which others rest, and those that rest on them.
use Rattle.std.specs.Prelude.{◌≡◌, Bool, Option, List, [], ◌∷◌}
use Rattle.iocm_types.specs.declared.rule.Rule.{Rule}
use Rattle.iocm_types.specs.declared.rule.Rule.TheVariants.{V1, V2, V3, V4, V5, V6, V7, V8, V9, V10, V11, V12, V13, V14}
use Rattle.iocm_types.specs.declared.key.Key.{Key}
use Rattle.iocm_model.specs.Machine.Record.{Rec}
use Rattle.iocm_model.specs.Machine.Configuration.{Configuration}
use Rattle.iocm_model.specs.Machine.Numbering.{Numbering}
use Rattle.iocm_model.specs.Rules.EachRule.{breaks_v1, breaks_v2, breaks_v3, breaks_v4, breaks_v5}
use Rattle.iocm_model.specs.Rules.EachRule.{breaks_v6, breaks_v7, breaks_v8, breaks_v9, breaks_v10}
use Rattle.iocm_model.specs.Rules.EachRule.{breaks_v11, breaks_v12, breaks_v13, breaks_v14}
use Rattle.iocm_lookup.specs.First.{first_key}

-- rules, each with the records that break it
abbrev pub Laws : Type 0
Laws = List (Rule × (Rec → Bool))

-- V1 to V8; a rule behind them may rest on V5 and on V8
abbrev pub to_v8 : Configuration → Laws
to_v8 c =
    (V1, breaks_v1 c) ∷ (V2, breaks_v2 c) ∷ (V3, breaks_v3 c) ∷ (V4, breaks_v4 c)
    ∷ (V5, breaks_v5 c) ∷ (V6, breaks_v6 c) ∷ (V7, breaks_v7 c) ∷ (V8, breaks_v8 c) ∷ []

-- V9 to V14
abbrev pub from_v9 : Configuration → Numbering → Laws
from_v9 c n =
    (V9, breaks_v9 c) ∷ (V10, breaks_v10 c) ∷ (V11, breaks_v11 c) ∷ (V12, breaks_v12 c)
    ∷ (V13, breaks_v13 c n) ∷ (V14, breaks_v14 c) ∷ []

-- what V13 answers with this numbering
abbrev pub IsFirstPast : Configuration → Numbering → Option Key → Type 0
IsFirstPast c n past = past ≡ first_key (breaks_v13 c n) c
