-- What is found of rules, each tried by itself, is the first breach of them.
use Rattle.std.proofs.Common.{◌≡◌, Bool, Option, None, Some, List, [], ◌∷◌, ◌++◌, refl, sym, ap, ◌∙◌}
use Rattle.std.specs.Option.{option_map}
use Rattle.iocm_types.specs.declared.rule.Rule.{Rule}
use Rattle.iocm_types.specs.declared.key.Key.{Key}
use Rattle.iocm_model.specs.Machine.Record.{Rec, key_of}
use Rattle.iocm_types.specs.declared.rule.Rule.TheVariants.{V5, V6, V7, V8}
use Rattle.iocm_model.specs.Machine.Configuration.{Configuration, records_of}
use Rattle.iocm_model.specs.Machine.Numbering.{Numbering}
use Rattle.iocm_model.specs.Rules.EachRule.{breaks_v5, breaks_v6, breaks_v7, breaks_v8}
use Rattle.iocm_model.specs.Rules.FirstBreach.{Breach, first_record, first_breach, first_breach_of, breach_or}
use Rattle.iocm_rules.specs.Check.{Laws, to_v8, from_v9}
use Rattle.iocm_rules.specs.Found.{found_or, first_found}

-- ---- each of some rules

-- of each rule the key of the first record that breaks it
abbrev pub AreFound : List (Rule × Option Key) → Laws → List Rec → Type 0
AreFound [] [] records = Unit {0}
AreFound (f ∷ fs) (l ∷ ls) records =
    (f.0 ≡ l.0) × ((f.1 ≡ option_map key_of (first_record l.1 records)) × AreFound fs ls records)
AreFound _ _ records = ⊥

pub found_is : (fs : List (Rule × Option Key)) (ls : Laws) (records : List Rec) → AreFound fs ls records
    → first_found fs ≡ first_breach_of ls records
unfolding first_breach_of
found_is [] [] records all = refl
found_is [] (l ∷ ls) records all = absurd all
found_is (f ∷ fs) [] records all = absurd all
found_is (f ∷ fs) (l ∷ ls) records all =
    (λ i. found_or (all.0 i) (all.1.0 i) (found_is fs ls records all.1.1 i)) ∙ by (first_record l.1 records)
  where
    by : (o : Option Rec) → found_or l.0 (option_map key_of o) (first_breach_of ls records)
        ≡ breach_or l.0 o (first_breach_of ls records)
    by None = refl
    by (Some r) = refl

-- ---- rules and further ones

abbrev pub else_breach : Option Breach → Option Breach → Option Breach
else_breach (Some b) further = Some b
else_breach None further = further

pub behind : (ls more : Laws) (records : List Rec)
    → first_breach_of (ls ++ more) records ≡ else_breach (first_breach_of ls records) (first_breach_of more records)
unfolding first_breach_of
behind [] more records = refl
behind (l ∷ ls) more records =
    ap (breach_or l.0 (first_record l.1 records)) (behind ls more records) ∙ by (first_record l.1 records)
  where
    by : (o : Option Rec) → breach_or l.0 o (else_breach (first_breach_of ls records) (first_breach_of more records))
        ≡ else_breach (breach_or l.0 o (first_breach_of ls records)) (first_breach_of more records)
    by None = refl
    by (Some r) = refl

-- where none was found, each rule is kept
none_or : (rule : Rule) (o : Option Rec) (further : Option Breach) → None ≡ breach_or rule o further
    → (o ≡ None) × (None ≡ further)
none_or rule None further is = (refl, is)
none_or rule (Some r) further is = cc

pub kept_and_others : (rule : Rule) (breaks : Rec → Bool) (ls : Laws) (records : List Rec)
    → None ≡ first_breach_of ((rule, breaks) ∷ ls) records
    → (first_record breaks records ≡ None) × (None ≡ first_breach_of ls records)
unfolding first_breach_of
kept_and_others rule breaks ls records is = none_or rule (first_record breaks records) (first_breach_of ls records) is

module _ (c : Configuration) (none : None ≡ first_breach_of (to_v8 c) (records_of c)) where
  after_v4 : None ≡ first_breach_of ((V5, breaks_v5 c) ∷ (V6, breaks_v6 c) ∷ (V7, breaks_v7 c) ∷ (V8, breaks_v8 c) ∷ [])
      (records_of c)
  after_v4 = (kept_and_others _ _ _ _
      (kept_and_others _ _ _ _ (kept_and_others _ _ _ _ (kept_and_others _ _ _ _ none).1).1).1).1

  pub v5_is_kept : first_record (breaks_v5 c) (records_of c) ≡ None
  v5_is_kept = (kept_and_others _ _ _ _ after_v4).0

  pub v8_is_kept : first_record (breaks_v8 c) (records_of c) ≡ None
  v8_is_kept = (kept_and_others _ _ _ _
      (kept_and_others _ _ _ _ (kept_and_others _ _ _ _ (kept_and_others _ _ _ _ after_v4).1).1).1).0

  -- and the first breach is that of the further rules
  pub from_v9_is_first : (n : Numbering) → first_breach_of (from_v9 c n) (records_of c) ≡ first_breach c n
  from_v9_is_first n = sym
      (behind (to_v8 c) (from_v9 c n) (records_of c)
      ∙ ap (λ o. else_breach o (first_breach_of (from_v9 c n) (records_of c))) (sym none))

-- where one was found, it is the first
pub to_v8_is_first : (c : Configuration) (n : Numbering) (b : Breach)
    → Some b ≡ first_breach_of (to_v8 c) (records_of c) → Some b ≡ first_breach c n
to_v8_is_first c n b is =
    sym (behind (to_v8 c) (from_v9 c n) (records_of c)
    ∙ ap (λ o. else_breach o (first_breach_of (from_v9 c n) (records_of c))) (sym is))
