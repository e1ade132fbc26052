-- The breaches of a rule, record by record of its kind.
use Rattle.std.proofs.Common.{◌≡◌, ◌==◌, ℕ, Bool, true, false, cond, List, [], ◌∷◌, ◌++◌, map, filter, append_assoc}
use Rattle.std.proofs.Common.{refl, sym, ap, ◌∙◌, arith}
use Rattle.std.proofs.lemmas.Bool.{false≢true}
use Rattle.std.proofs.lemmas.Bool.Decides.{nat_tests}
use Rattle.iocm_types.specs.declared.rule.Rule.{Rule}
use Rattle.iocm_model.specs.Machine.Record.{Rec, key_of}
use Rattle.iocm_model.specs.Rules.FirstBreach.{Breach}
use Rattle.iocm_lookup.specs.Kinds.{kind_of, of_kind}
use Rattle.iocm_breaches.specs.Breaches.{breach_of, breaches_of_rule}

-- no record of another kind breaks the rule
abbrev pub BreakOfKind : ℕ → (Rec → Bool) → Type 0
BreakOfKind place breaks = (r : Rec) → breaks r ≡ true → kind_of (key_of r) ≡ place

is_kind : (a b : ℕ) → a ≡ b → (a == b) ≡ true
is_kind a b is = grind (arith, nat_tests)

-- so those of the kind are all that do
pub all_of_kind : (rule : Rule) (place : ℕ) (breaks : Rec → Bool) → BreakOfKind place breaks → (rs : List Rec)
    → breaches_of_rule rule breaks (of_kind place rs) ≡ breaches_of_rule rule breaks rs
all_of_kind rule place breaks only [] = refl
all_of_kind rule place breaks only (r ∷ rs) =
    by (kind_of (key_of r) == place) refl (breaks r) refl (all_of_kind rule place breaks only rs)
  where
    by : (k : Bool) → (kind_of (key_of r) == place) ≡ k → (b : Bool) → breaks r ≡ b
        → breaches_of_rule rule breaks (of_kind place rs) ≡ breaches_of_rule rule breaks rs
        → breaches_of_rule rule breaks (cond k (r ∷ of_kind place rs) (of_kind place rs))
        ≡ map (breach_of rule) (cond b (r ∷ filter breaks rs) (filter breaks rs))
    by true here true so more =
        ap (λ d. map (breach_of rule)
        (cond d (r ∷ filter breaks (of_kind place rs)) (filter breaks (of_kind place rs)))) so
        ∙ ap (λ bs. breach_of rule r ∷ bs) more
    by true here false so more =
        ap (λ d. map (breach_of rule)
        (cond d (r ∷ filter breaks (of_kind place rs)) (filter breaks (of_kind place rs)))) so ∙ more
    by false here true so more = absurd (false≢true (sym here ∙ is_kind (kind_of (key_of r)) place (only r so)))
    by false here false so more = more

-- a record, and those behind it
pub of_more : (rule : Rule) (breaks : Rec → Bool) (r : Rec) (rs : List Rec)
    → breaches_of_rule rule breaks (r ∷ []) ++ breaches_of_rule rule breaks rs ≡ breaches_of_rule rule breaks (r ∷ rs)
of_more rule breaks r rs = by (breaks r)
  where
    by : (b : Bool) → map (breach_of rule) (cond b (r ∷ []) []) ++ breaches_of_rule rule breaks rs
        ≡ map (breach_of rule) (cond b (r ∷ filter breaks rs) (filter breaks rs))
    by true = refl
    by false = refl

pub one_more : (rule : Rule) (breaks : Rec → Bool) (r : Rec) (rs : List Rec) (old new : List Breach)
    → new ≡ old ++ breaches_of_rule rule breaks (r ∷ [])
    → new ++ breaches_of_rule rule breaks rs ≡ old ++ breaches_of_rule rule breaks (r ∷ rs)
one_more rule breaks r rs old new grown = ap (λ bs. bs ++ breaches_of_rule rule breaks rs) grown
    ∙ append_assoc old (breaches_of_rule rule breaks (r ∷ [])) (breaches_of_rule rule breaks rs)
    ∙ ap (λ bs. old ++ bs) (of_more rule breaks r rs)
