-- What the entry of a refusal says: its title, and its text.
-- Written by tests/messages --write from docs/MESSAGES.md: change the entries there, not here.
use Rattle.std.specs.Prelude.{ℕ, List}
use Rattle.iocm_types.specs.declared.rule.Rule.{Rule}
use Rattle.iocm_types.specs.declared.rule.Rule.TheVariants.{L1, L2, L3, L4, L5, L6, S1, S2, S3, S4}
use Rattle.iocm_types.specs.declared.rule.Rule.TheVariants.{S5, S6, S7, S8, S9, S10, V1, V2, V3, V4}
use Rattle.iocm_types.specs.declared.rule.Rule.TheVariants.{V5, V6, V7, V8, V9, V10, V11, V12, V13, V14}
use Rattle.iocm_types.specs.declared.rule.Rule.TheVariants.{E1, E2, E3, E4, B1, C1, C2, J1, J2, J3}
use Rattle.iocm_types.specs.declared.rule.Rule.TheVariants.{O1, O2, O3, K1, K2, K3, M1, Q1, X1, G1}
use Rattle.iocm_explain.specs.declared.entries.texts.TheConstants as texts
use Rattle.iocm_explain.specs.declared.entries.rules.TheConstants as rules
use Rattle.iocm_explain.specs.declared.entries.changes.TheConstants as changes
use Rattle.iocm_explain.specs.declared.entries.machine.TheConstants as machine

-- what is wrong, in a few words
abbrev pub title_of : Rule → List ℕ
title_of L1 = texts.L1_TITLE.now
title_of L2 = texts.L2_TITLE.now
title_of L3 = texts.L3_TITLE.now
title_of L4 = texts.L4_TITLE.now
title_of L5 = texts.L5_TITLE.now
title_of L6 = texts.L6_TITLE.now
title_of S1 = texts.S1_TITLE.now
title_of S2 = texts.S2_TITLE.now
title_of S3 = texts.S3_TITLE.now
title_of S4 = texts.S4_TITLE.now
title_of S5 = texts.S5_TITLE.now
title_of S6 = texts.S6_TITLE.now
title_of S7 = texts.S7_TITLE.now
title_of S8 = texts.S8_TITLE.now
title_of S9 = texts.S9_TITLE.now
title_of S10 = texts.S10_TITLE.now
title_of V1 = rules.V1_TITLE.now
title_of V2 = rules.V2_TITLE.now
title_of V3 = rules.V3_TITLE.now
title_of V4 = rules.V4_TITLE.now
title_of V5 = rules.V5_TITLE.now
title_of V6 = rules.V6_TITLE.now
title_of V7 = rules.V7_TITLE.now
title_of V8 = rules.V8_TITLE.now
title_of V9 = rules.V9_TITLE.now
title_of V10 = rules.V10_TITLE.now
title_of V11 = rules.V11_TITLE.now
title_of V12 = rules.V12_TITLE.now
title_of V13 = rules.V13_TITLE.now
title_of V14 = rules.V14_TITLE.now
title_of E1 = changes.E1_TITLE.now
title_of E2 = changes.E2_TITLE.now
title_of E3 = changes.E3_TITLE.now
title_of E4 = changes.E4_TITLE.now
title_of B1 = changes.B1_TITLE.now
title_of C1 = changes.C1_TITLE.now
title_of C2 = changes.C2_TITLE.now
title_of J1 = changes.J1_TITLE.now
title_of J2 = changes.J2_TITLE.now
title_of J3 = changes.J3_TITLE.now
title_of O1 = machine.O1_TITLE.now
title_of O2 = machine.O2_TITLE.now
title_of O3 = machine.O3_TITLE.now
title_of K1 = machine.K1_TITLE.now
title_of K2 = machine.K2_TITLE.now
title_of K3 = machine.K3_TITLE.now
title_of M1 = machine.M1_TITLE.now
title_of Q1 = machine.Q1_TITLE.now
title_of X1 = machine.X1_TITLE.now
title_of G1 = machine.G1_TITLE.now

-- what the program found and did, and what its user does
abbrev pub text_of : Rule → List ℕ
text_of L1 = texts.L1_TEXT.now
text_of L2 = texts.L2_TEXT.now
text_of L3 = texts.L3_TEXT.now
text_of L4 = texts.L4_TEXT.now
text_of L5 = texts.L5_TEXT.now
text_of L6 = texts.L6_TEXT.now
text_of S1 = texts.S1_TEXT.now
text_of S2 = texts.S2_TEXT.now
text_of S3 = texts.S3_TEXT.now
text_of S4 = texts.S4_TEXT.now
text_of S5 = texts.S5_TEXT.now
text_of S6 = texts.S6_TEXT.now
text_of S7 = texts.S7_TEXT.now
text_of S8 = texts.S8_TEXT.now
text_of S9 = texts.S9_TEXT.now
text_of S10 = texts.S10_TEXT.now
text_of V1 = rules.V1_TEXT.now
text_of V2 = rules.V2_TEXT.now
text_of V3 = rules.V3_TEXT.now
text_of V4 = rules.V4_TEXT.now
text_of V5 = rules.V5_TEXT.now
text_of V6 = rules.V6_TEXT.now
text_of V7 = rules.V7_TEXT.now
text_of V8 = rules.V8_TEXT.now
text_of V9 = rules.V9_TEXT.now
text_of V10 = rules.V10_TEXT.now
text_of V11 = rules.V11_TEXT.now
text_of V12 = rules.V12_TEXT.now
text_of V13 = rules.V13_TEXT.now
text_of V14 = rules.V14_TEXT.now
text_of E1 = changes.E1_TEXT.now
text_of E2 = changes.E2_TEXT.now
text_of E3 = changes.E3_TEXT.now
text_of E4 = changes.E4_TEXT.now
text_of B1 = changes.B1_TEXT.now
text_of C1 = changes.C1_TEXT.now
text_of C2 = changes.C2_TEXT.now
text_of J1 = changes.J1_TEXT.now
text_of J2 = changes.J2_TEXT.now
text_of J3 = changes.J3_TEXT.now
text_of O1 = machine.O1_TEXT.now
text_of O2 = machine.O2_TEXT.now
text_of O3 = machine.O3_TEXT.now
text_of K1 = machine.K1_TEXT.now
text_of K2 = machine.K2_TEXT.now
text_of K3 = machine.K3_TEXT.now
text_of M1 = machine.M1_TEXT.now
text_of Q1 = machine.Q1_TEXT.now
text_of X1 = machine.X1_TEXT.now
text_of G1 = machine.G1_TEXT.now
