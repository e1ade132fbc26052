-- The refusal numbers as they are printed.
use Rattle.std.specs.Prelude.{ℕ, List, codes}
use Rattle.iocm_types.specs.declared.rule.Rule.{Rule}
use Rattle.iocm_types.specs.declared.rule.Rule.TheVariants.{L1, L2, L3, L4, L5, L6}
use Rattle.iocm_types.specs.declared.rule.Rule.TheVariants.{S1, S2, S3, S4, S5, S6, S7, S8, S9, S10}
use Rattle.iocm_types.specs.declared.rule.Rule.TheVariants.{V1, V2, V3, V4, V5, V6, V7}
use Rattle.iocm_types.specs.declared.rule.Rule.TheVariants.{V8, V9, V10, V11, V12, V13, V14}
use Rattle.iocm_types.specs.declared.rule.Rule.TheVariants.{E1, E2, E3, E4, B1, J1, J2, J3}
use Rattle.iocm_types.specs.declared.rule.Rule.TheVariants.{O1, O2, O3, K1, K2, K3, Q1, G1, C1, C2, M1, X1}

-- a refusal's number, as a text
abbrev pub rule_text : Rule → List ℕ
rule_text L1 = codes "L1"
rule_text L2 = codes "L2"
rule_text L3 = codes "L3"
rule_text L4 = codes "L4"
rule_text L5 = codes "L5"
rule_text L6 = codes "L6"
rule_text S1 = codes "S1"
rule_text S2 = codes "S2"
rule_text S3 = codes "S3"
rule_text S4 = codes "S4"
rule_text S5 = codes "S5"
rule_text S6 = codes "S6"
rule_text S7 = codes "S7"
rule_text S8 = codes "S8"
rule_text S9 = codes "S9"
rule_text S10 = codes "S10"
rule_text V1 = codes "V1"
rule_text V2 = codes "V2"
rule_text V3 = codes "V3"
rule_text V4 = codes "V4"
rule_text V5 = codes "V5"
rule_text V6 = codes "V6"
rule_text V7 = codes "V7"
rule_text V8 = codes "V8"
rule_text V9 = codes "V9"
rule_text V10 = codes "V10"
rule_text V11 = codes "V11"
rule_text V12 = codes "V12"
rule_text V13 = codes "V13"
rule_text V14 = codes "V14"
rule_text E1 = codes "E1"
rule_text E2 = codes "E2"
rule_text E3 = codes "E3"
rule_text E4 = codes "E4"
rule_text B1 = codes "B1"
rule_text J1 = codes "J1"
rule_text J2 = codes "J2"
rule_text J3 = codes "J3"
rule_text O1 = codes "O1"
rule_text O2 = codes "O2"
rule_text O3 = codes "O3"
rule_text K1 = codes "K1"
rule_text K2 = codes "K2"
rule_text K3 = codes "K3"
rule_text Q1 = codes "Q1"
rule_text G1 = codes "G1"
rule_text C1 = codes "C1"
rule_text C2 = codes "C2"
rule_text M1 = codes "M1"
rule_text X1 = codes "X1"
