-- A rule that no record breaks has no breaches.
use Rattle.std.proofs.Common.{◌≡◌, Bool, true, false, cond, Option, None, Some, List, [], ◌∷◌, ◌++◌, map, filter, refl}
use Rattle.std.proofs.Common.{sym, ap, ◌∙◌}
use Rattle.std.proofs.lemmas.List.{append-nil}
use Rattle.std.specs.Option.{option_map}
use Rattle.iocm_types.specs.declared.rule.Rule.{Rule}
use Rattle.iocm_model.specs.Machine.Record.{Rec, key_of}
use Rattle.iocm_model.specs.Machine.Configuration.{Configuration, records_of}
use Rattle.iocm_model.specs.Rules.FirstBreach.{Breach, first_record}
use Rattle.iocm_lookup.specs.First.{first_key}
use Rattle.iocm_breaches.specs.Breaches.{breach_of, breaches_of_rule}

-- where there is no first key, there is no first record
pub no_record : (o : Option Rec) → option_map key_of o ≡ None → o ≡ None
no_record None none = refl
no_record (Some r) none = cc

none_so : (rule : Rule) (breaks : Rec → Bool) (rs : List Rec) → first_record breaks rs ≡ None
    → breaches_of_rule rule breaks rs ≡ []
unfolding first_record
none_so rule breaks [] none = refl
none_so rule breaks (r ∷ rs) none = by (breaks r) none (none_so rule breaks rs)
  where
    by : (b : Bool) → cond b (Some r) (first_record breaks rs) ≡ None
        → (first_record breaks rs ≡ None → breaches_of_rule rule breaks rs ≡ [])
        → map (breach_of rule) (cond b (r ∷ filter breaks rs) (filter breaks rs)) ≡ []
    by true is more = cc
    by false is more = more is

-- so nothing is put behind a list
pub nothing_behind : (rule : Rule) (breaks : Rec → Bool) (c : Configuration) (old : List Breach)
    → first_key breaks c ≡ None
    → old ≡ old ++ breaches_of_rule rule breaks (records_of c)
nothing_behind rule breaks c old none = sym (append-nil old)
    ∙ ap (λ bs. old ++ bs) (sym
    (none_so rule breaks (records_of c) (no_record (first_record breaks (records_of c)) none)))
