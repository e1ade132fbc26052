-- What is put behind a list step by step.
use Rattle.std.proofs.Common.{◌≡◌, Bool, List, [], ◌∷◌, ◌++◌, append_assoc, sym, ap, ◌∙◌}
use Rattle.std.proofs.lemmas.List.{append-nil}
use Rattle.iocm_types.specs.declared.rule.Rule.{Rule}
use Rattle.iocm_model.specs.Machine.Record.{Rec}
use Rattle.iocm_model.specs.Rules.FirstBreach.{Breach}
use Rattle.iocm_breaches.specs.Breaches.{breaches_of_rule, breaches_of}

-- behind a list the breaches of these rules were put
pub record AreBehind (rs : List Rec) (rules : List (Rule × (Rec → Bool))) (old new : List Breach) : Type 0 where
  pub is : new ≡ old ++ breaches_of rules rs

pub none_behind : (rs : List Rec) (old : List Breach) → AreBehind rs [] old old
none_behind rs old = record { is = sym (append-nil old) }

-- those of one rule, and those of further rules
pub one_behind : {rs : List Rec} {rule : Rule} {breaks : Rec → Bool} {rules : List (Rule × (Rec → Bool))}
    {old new all : List Breach}
    → new ≡ old ++ breaches_of_rule rule breaks rs → AreBehind rs rules new all
    → AreBehind rs ((rule, breaks) ∷ rules) old all
one_behind {rs} {rule} {breaks} {rules} {old} {new} {all} one others = record {
  is = others.is ∙ ap (λ bs. bs ++ breaches_of rules rs) one
      ∙ append_assoc old (breaches_of_rule rule breaks rs) (breaches_of rules rs);
}
