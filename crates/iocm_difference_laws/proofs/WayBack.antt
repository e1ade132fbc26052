-- The inverse tree of the change of a difference has the actions of the difference the other way
-- round.
use Rattle.std.proofs.Common.{◌≡◌, nat_lt, Bool, true, false, cond, List, [], ◌∷◌, ◌++◌, map, length, Option, Some}
use Rattle.std.proofs.Common.{None, refl, sym, ap, subst, ◌∙◌}
use Rattle.std.specs.Prelude.{Ok, Err}
use Rattle.std.specs.List.{AllByRecursion, IsDistinct}
use Rattle.std.specs.List.Sorted.{IsPermutation}
use Rattle.std.specs.Ordering.{eq_by_cmp}
use Rattle.std.proofs.lemmas.List.{map-append}
use Rattle.std.proofs.lemmas.List.Sorted.{IsPermutation-refl, IsPermutation-trans, IsPermutation-cons}
use Rattle.std.proofs.lemmas.List.Sorted.{IsPermutation-to_front}
use Rattle.std.proofs.lemmas.Map.Keys.{IsDistinct-head, IsDistinct-tail}
use Rattle.iocm_types.specs.declared.refused.Refused.{Refused}
use Rattle.iocm_types.specs.declared.refused.At.TheVariants.{Nothing}
use Rattle.iocm_types.specs.declared.rule.Rule.TheVariants.{C2}
use Rattle.iocm_types.specs.Key.{key_cmp}
use Rattle.iocm_model.specs.Machine.Record.{Rec}
use Rattle.iocm_model.specs.Machine.Configuration.{Configuration}
use Rattle.iocm_model.specs.Operation.State.{State, opening_state}
use Rattle.iocm_model.specs.Change.Edit.{Action, Edit, action_key, record_after, config_after, state_after}
use Rattle.iocm_model.specs.Change.Inverse.{action_back, inverse_of}
use Rattle.iocm_model.specs.Change.InverseTree.{parts_of, inverse_tree}
use Rattle.iocm_model.specs.Change.Meaning.{Performed, Outcome}
use Rattle.iocm_model.specs.Change.Refusal.{refusal_at}
use Rattle.iocm_model.specs.Change.Runs.{inverses}
use Rattle.iocm_model.specs.Change.Tree.{most_leaves}
use Rattle.iocm_tree.specs.Carried.{bare}
use Rattle.iocm_difference.specs.Difference.{difference}
use Rattle.iocm_difference.specs.Laws.{back_in}
use Rattle.iocm_difference.proofs.Differences.{edits_each_key_once}
use Rattle.iocm_difference.proofs.GoingBack.{difference_goes_back}
use Rattle.iocm_difference_laws.specs.Opened.{edits_of, performed_between}
use Rattle.iocm_difference_laws.specs.Meaning.{first_over_limit, unless_over_limit, outcome_between}
use Rattle.iocm_difference_laws.specs.WayBack.{actions_in, actions_among, InverseIsTheOtherDifference}
use Rattle.iocm_difference_laws.proofs.Accepted.{off_key}
use Rattle.iocm_difference_laws.proofs.Meaning.{difference_means}

-- ---- what was performed, if the change was accepted

by_limit : (o : Option Rec) (p r : Performed) → unless_over_limit o p ≡ Ok r → p ≡ r
by_limit None p r h = cc
by_limit (Some x) p r h = cc

by_count : (b : Bool) (why : Refused) (o : Outcome) (r : Performed) → cond b (Err why) o ≡ Ok r → o ≡ Ok r
by_count true why o r h = cc
by_count false why o r h = h

was_performed : (c d : Configuration) (r : Performed) → outcome_between c d ≡ Ok r → performed_between c d ≡ r
was_performed c d r h =
    let p = performed_between c d in
    by_limit (first_over_limit d p.state.numbers) p r
    (by_count (nat_lt most_leaves (length (difference c d))) (refusal_at C2 Nothing)
    (unless_over_limit (first_over_limit d p.state.numbers) p) r h)

-- ---- the actions of an inverse tree

actions_listed : (es : List Edit) → actions_among (parts_of es) ≡ map (λ (e : Edit). e.action) es
actions_listed [] = refl
actions_listed (e ∷ es) = ap (λ xs. e.action ∷ xs) (actions_listed es)

-- what takes actions of other keys back is the same after an edit
back_same : (a : Action) (c : Configuration) (actions : List Action)
    → AllByRecursion (λ k. eq_by_cmp key_cmp (action_key a) k ≡ false) (map action_key actions)
    → map (back_in (config_after a c)) actions ≡ map (back_in c) actions
back_same a c [] apart = refl
back_same a c (b ∷ actions) apart =
    λ i. action_back (action_key b) (off_key a c (action_key b) apart.0 i) (record_after b)
    ∷ back_same a c actions apart.1 i

-- the inverses of actions of different keys are what takes each back by itself
inverse_actions : (actions : List Action) (s : State) → IsDistinct (eq_by_cmp key_cmp) (map action_key actions)
    → IsPermutation (map (λ (e : Edit). e.action) (inverses (edits_of actions) s)) (map (back_in s.config) actions)
inverse_actions [] s distinct = IsPermutation-refl []
inverse_actions (a ∷ actions) s distinct =
    let t = state_after (bare a).edit s in
    let later = map (λ (e : Edit). e.action) (inverses (edits_of actions) t) in
    let back = back_in s.config a in
    let apart = IsDistinct-head (eq_by_cmp key_cmp) (action_key a) (map action_key actions) distinct in
    let rest : IsPermutation later (map (back_in s.config) actions) =
    subst (IsPermutation later) (back_same a s.config actions apart)
    (inverse_actions actions t (IsDistinct-tail (eq_by_cmp key_cmp) (action_key a) (map action_key actions) distinct))
    in
    subst (λ xs. IsPermutation xs (back ∷ map (back_in s.config) actions))
    (sym (map-append (λ (e : Edit). e.action) (inverses (edits_of actions) t) (inverse_of (bare a).edit s ∷ [])))
    (IsPermutation-trans (later ++ back ∷ []) (back ∷ later) (back ∷ map (back_in s.config) actions)
    (IsPermutation-to_front later back) (IsPermutation-cons back later (map (back_in s.config) actions) rest))

pub inverse_is_the_other_difference : InverseIsTheOtherDifference
inverse_is_the_other_difference c d t r keyed kept is accepted =
    let s = opening_state c in
    let es = edits_of (difference c d) in
    let same : performed_between c d ≡ r =
    was_performed c d r (sym (difference_means c d t keyed kept is) ∙ accepted) in
    let there : IsPermutation (actions_in (inverse_tree es s)) (difference d c) =
    subst (λ xs. IsPermutation xs (difference d c)) (sym (actions_listed (inverses es s)))
    (IsPermutation-trans (map (λ (e : Edit). e.action) (inverses es s)) (map (back_in c) (difference c d))
    (difference d c)
    (inverse_actions (difference c d) s (edits_each_key_once c d keyed)) (difference_goes_back c d keyed)) in
    subst (λ (z : Performed). IsPermutation (actions_in (inverse_tree z.edits s)) (difference d c)) same there
