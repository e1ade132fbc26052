-- What the first breach promises.
use Rattle.std.specs.Prelude.{◌≡◌, Bool, true, false, ◌↔◌, None, Some, List, [], ◌∷◌, ◌++◌}
use Rattle.std.specs.List.{list_any}
use Rattle.std.specs.FinMap.{get}
use Rattle.std.specs.declared.cmp.Ordering.TheVariants.{Less}
use Rattle.iocm_types.specs.declared.rule.Rule.{Rule}
use Rattle.iocm_types.specs.declared.key.Key.{Key}
use Rattle.iocm_types.specs.Key.{key_cmp}
use Rattle.iocm_model.specs.Machine.Record.{Rec, key_of}
use Rattle.iocm_model.specs.Machine.Configuration.{Configuration, IsKeyed, records_of}
use Rattle.iocm_model.specs.Machine.Numbering.{Numbering}
use Rattle.iocm_model.specs.Rules.FirstBreach.{Breach, rules_of, first_breach}

-- a rule with the records that break it
abbrev pub Law : Type 0
Law = Rule × (Rec → Bool)

-- no record breaks one of these rules
abbrev pub AreKept : List Law → List Rec → Type 0
AreKept [] records = Unit {0}
AreKept (law ∷ laws) records = (list_any law.1 records ≡ false) × AreKept laws records

-- a breach is the first of some rules: its rule is broken at its key, no record before breaks that
-- rule, and no record breaks a rule before it
pub record IsFirst (laws : List Law) (records : List Rec) (b : Breach) : Type 0 where
  pub before : List Law
  pub law : Law
  pub after : List Law
  pub front : List Rec
  pub culprit : Rec
  pub back : List Rec
  pub of_laws : laws ≡ before ++ law ∷ after
  pub of_records : records ≡ front ++ culprit ∷ back
  pub rule : b.rule ≡ law.0
  pub key : b.key ≡ key_of culprit
  pub broken : law.1 culprit ≡ true
  pub kept_before : AreKept before records
  pub kept_in_front : list_any law.1 front ≡ false

-- a breach that is answered is the first
abbrev pub AnswersTheFirst : Type 0
AnswersTheFirst = (c : Configuration) (n : Numbering) (b : Breach) → first_breach c n ≡ Some b
    → IsFirst (rules_of c n) (records_of c) b

-- none is answered exactly where every rule is kept
abbrev pub AnswersNone : Type 0
AnswersNone = (c : Configuration) (n : Numbering) → (first_breach c n ≡ None) ↔ AreKept (rules_of c n) (records_of c)

-- a breach is at the least key that breaks its rule, and no rule before it is broken
pub record IsLeast (c : Configuration) (n : Numbering) (b : Breach) : Type 0 where
  pub before : List Law
  pub breaks : Rec → Bool
  pub after : List Law
  pub culprit : Rec
  pub of_laws : rules_of c n ≡ before ++ (b.rule, breaks) ∷ after
  pub kept_before : AreKept before (records_of c)
  pub there : get c b.key ≡ Some culprit
  pub broken : breaks culprit ≡ true
  pub least : (key : Key) (r : Rec) → get c key ≡ Some r → key_cmp key b.key ≡ Less → breaks r ≡ false

-- the one that is answered is, where each record stands under its own key
abbrev pub AnswersTheLeast : Type 0
AnswersTheLeast = (c : Configuration) (n : Numbering) (b : Breach) → IsKeyed c → first_breach c n ≡ Some b
    → IsLeast c n b
