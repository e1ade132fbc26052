-- Of a configuration that keeps the rules with some numbers, only V13 is broken with other numbers.
use Rattle.std.proofs.Common.{◌≡◌, Option, None, Some, List, [], ◌∷◌, ◌++◌, refl, ap, ◌∙◌}
use Rattle.iocm_types.specs.declared.rule.Rule.{Rule}
use Rattle.iocm_types.specs.declared.rule.Rule.TheVariants.{V1, V2, V3, V4, V5, V6, V7, V8, V9, V10, V11, V12, V13, V14}
use Rattle.iocm_model.specs.Machine.Record.{Rec}
use Rattle.iocm_model.specs.Machine.Configuration.{Configuration, records_of}
use Rattle.iocm_model.specs.Machine.Numbering.{Numbering}
use Rattle.iocm_model.specs.Rules.EachRule.{breaks_v1, breaks_v2, breaks_v3, breaks_v4, breaks_v5, breaks_v6, breaks_v7}
use Rattle.iocm_model.specs.Rules.EachRule.{breaks_v8, breaks_v9, breaks_v10, breaks_v11, breaks_v12, breaks_v13}
use Rattle.iocm_model.specs.Rules.EachRule.{breaks_v14}
use Rattle.iocm_model.specs.Rules.FirstBreach.{Breach, first_record, first_breach_of, first_breach, breach_or, rules_of}
use Rattle.iocm_model.specs.Laws.Breaches.{Law}
use Rattle.iocm_model.specs.Change.Meaning.{Performed, unless_broken}
use Rattle.iocm_difference_laws.specs.Meaning.{first_over_limit, unless_over_limit}

-- ---- rules that are kept don't count

-- no record breaks one of these rules
abbrev AreSilent : List Law → List Rec → Type 0
AreSilent [] records = Unit {0}
AreSilent (law ∷ laws) records = (first_record law.1 records ≡ None) × AreSilent laws records

none_here : (rule : Rule) (o : Option Rec) (further : Option Breach) → breach_or rule o further ≡ None
    → (o ≡ None) × (further ≡ None)
none_here rule None further is = (refl, is)
none_here rule (Some r) further is = cc

are_silent : (laws : List Law) (records : List Rec) → first_breach_of laws records ≡ None → AreSilent laws records
unfolding first_breach_of
are_silent [] records is = tt
are_silent (law ∷ laws) records is =
    let both = none_here law.0 (first_record law.1 records) (first_breach_of laws records) is in
    (both.0, are_silent laws records both.1)

silent_parts : (before after : List Law) (records : List Rec) → AreSilent (before ++ after) records
    → AreSilent before records × AreSilent after records
silent_parts [] after records are = (tt, are)
silent_parts (law ∷ before) after records are = let rest = silent_parts before after records are.1 in
    ((are.0, rest.0), rest.1)

silent_pass : (before after : List Law) (records : List Rec) → AreSilent before records
    → first_breach_of (before ++ after) records ≡ first_breach_of after records
unfolding first_breach_of
silent_pass [] after records are = refl
silent_pass (law ∷ before) after records are =
    ap (λ o. breach_or law.0 o (first_breach_of (before ++ after) records)) are.0
    ∙ silent_pass before after records are.1

-- the rules before V13
abbrev twelve : Configuration → List Law
twelve c =
    (V1, breaks_v1 c) ∷ (V2, breaks_v2 c) ∷ (V3, breaks_v3 c) ∷ (V4, breaks_v4 c)
    ∷ (V5, breaks_v5 c) ∷ (V6, breaks_v6 c) ∷ (V7, breaks_v7 c) ∷ (V8, breaks_v8 c)
    ∷ (V9, breaks_v9 c) ∷ (V10, breaks_v10 c) ∷ (V11, breaks_v11 c) ∷ (V12, breaks_v12 c) ∷ []

last_two : (n : Numbering) (c : Configuration) (records : List Rec) → first_record (breaks_v14 c) records ≡ None
    → first_breach_of ((V13, breaks_v13 c n) ∷ (V14, breaks_v14 c) ∷ []) records
    ≡ breach_or V13 (first_record (breaks_v13 c n) records) None
unfolding first_breach_of
last_two n c records none = ap (λ o. breach_or V13 (first_record (breaks_v13 c n) records) (breach_or V14 o None)) none

pub only_limits : (c : Configuration) (n m : Numbering) → first_breach c n ≡ None
    → first_breach c m ≡ breach_or V13 (first_over_limit c m) None
only_limits c n m kept =
    let parts = silent_parts (twelve c) ((V13, breaks_v13 c n) ∷ (V14, breaks_v14 c) ∷ []) (records_of c)
    (are_silent (rules_of c n) (records_of c) kept) in
    silent_pass (twelve c) ((V13, breaks_v13 c m) ∷ (V14, breaks_v14 c) ∷ []) (records_of c) parts.0
    ∙ last_two m c (records_of c) parts.1.1.0

-- where the rules are checked at the root
pub checked_limits : (o : Option Rec) (r : Performed) → unless_broken (breach_or V13 o None) 0 r ≡ unless_over_limit o r
checked_limits None r = refl
checked_limits (Some x) r = refl
