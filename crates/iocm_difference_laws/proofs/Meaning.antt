-- What the change of a difference means, proved of the definitions.
use Rattle.std.proofs.Common.{◌≡◌, ℕ, ◌≤◌, nat_lt, Bool, true, false, cond, List, [], ◌∷◌, map, length, refl, sym, ap}
use Rattle.std.proofs.Common.{subst, ◌∙◌, arith}
use Rattle.std.specs.Prelude.{Ok, Err}
use Rattle.std.proofs.lemmas.Bool.Decides.{nat_tests}
use Rattle.std.proofs.lemmas.List.Sorted.{IsPermutation-refl}
use Rattle.iocm_types.specs.declared.refused.At.TheVariants.{Nothing}
use Rattle.iocm_types.specs.declared.rule.Rule.TheVariants.{C1, C2}
use Rattle.iocm_model.specs.Machine.Configuration.{Configuration}
use Rattle.iocm_model.specs.Operation.State.{State, opening_state}
use Rattle.iocm_model.specs.Rules.FirstBreach.{first_breach}
use Rattle.iocm_model.specs.Laws.Trees.{KeepsTheRules}
use Rattle.iocm_model.specs.Change.Edit.{Action, state_after}
use Rattle.iocm_model.specs.Change.Refusal.{refusal_at}
use Rattle.iocm_model.specs.Change.Runs.{state_after_all, AreAccepted}
use Rattle.iocm_model.specs.Change.Tree.{leaves_of, depth_of, most_depth, most_leaves}
use Rattle.iocm_model.specs.Change.Meaning.{Performed, unless_broken, if_rules_hold, node_meaning}
use Rattle.iocm_tree.specs.Carried.{bare}
use Rattle.iocm_tree.specs.Trees.{CarriedTree, plain_tree}
use Rattle.iocm_difference.specs.Difference.{difference}
use Rattle.iocm_difference.specs.Laws.{config_after_all}
use Rattle.iocm_difference.proofs.Differences.{difference_leads}
use Rattle.iocm_difference_writer.specs.Again.{edits_in}
use Rattle.iocm_difference_laws.specs.Opened.{edits_of, performed_between}
use Rattle.iocm_difference_laws.specs.Meaning.{IsTreeOfActions, first_over_limit, unless_over_limit, DifferenceMeans}
use Rattle.iocm_difference_laws.specs.Meaning.{ReachesTheNew}
use Rattle.iocm_difference_laws.proofs.Accepted.{difference_accepted}
use Rattle.iocm_difference_laws.proofs.Limits.{only_limits, checked_limits}
use Rattle.iocm_difference_laws.proofs.Rows.{plain_edits, performed, rows_mean, edits_few}

-- ---- the configuration that is reached

pub config_of_all : (actions : List Action) (s : State)
    → (state_after_all (edits_of actions) s).config ≡ config_after_all actions s.config
config_of_all [] s = refl
config_of_all (a ∷ actions) s = config_of_all actions (state_after (bare a).edit s)

pub reaches_the_new : ReachesTheNew
reaches_the_new c d keyed = config_of_all (difference c d) (opening_state c)
    ∙ difference_leads c d (difference c d) keyed (IsPermutation-refl (difference c d))

-- ---- the limits of a tree

pub not_over : (most n : ℕ) → n ≤ most → nat_lt most n ≡ false
not_over most n within = grind (arith, nat_tests)

over : (most n m : ℕ) → nat_lt most n ≡ true → n ≤ m → nat_lt most m ≡ true
over most n m is within = grind (arith, nat_tests)

at_most : (most n : ℕ) → nat_lt most n ≡ false → n ≤ most
at_most most n is = grind (arith, nat_tests)

same_limit_by : (most n m : ℕ) (b : Bool) → nat_lt most n ≡ b → n ≤ m → (n ≤ most → m ≤ most) → nat_lt most m ≡ b
same_limit_by most n m true is fewer few = over most n m is fewer
same_limit_by most n m false is fewer few = not_over most m (few (at_most most n is))

same_length : (actions : List Action) → length (map bare actions) ≡ length actions
same_length [] = refl
same_length (a ∷ actions) = omega (arith, same_length actions)

-- a tree has too many leaves exactly where there are too many actions
same_limit : (actions : List Action) (t : CarriedTree) → IsTreeOfActions actions t
    → nat_lt most_leaves (leaves_of (plain_tree t)) ≡ nat_lt most_leaves (length actions)
same_limit actions t is =
    let listed : length (edits_in t) ≡ length actions = ap length is.edits ∙ same_length actions in
    same_limit_by most_leaves (length actions) (leaves_of (plain_tree t)) (nat_lt most_leaves (length actions)) refl
    (omega (arith, listed, edits_few t)) is.leaves

-- ---- the edits of a tree

plain_bare : (actions : List Action) → plain_edits (map bare actions) ≡ edits_of actions
plain_bare [] = refl
plain_bare (a ∷ actions) = ap (λ es. (bare a).edit ∷ es) (plain_bare actions)

tree_means : (actions : List Action) (t : CarriedTree) (s : State) → IsTreeOfActions actions t
    → AreAccepted (edits_of actions) s
    → node_meaning (plain_tree t) 0 s ≡ Ok (performed (edits_of actions) s)
tree_means actions t s is accepted =
    let same : plain_edits (edits_in t) ≡ edits_of actions = ap plain_edits is.edits ∙ plain_bare actions in
    rows_mean t 0 s is.in_rows (subst (λ es. AreAccepted es s) (sym same) accepted)
    ∙ ap (λ es. Ok (performed es s)) same

-- ---- the whole

checked : (d : Configuration) (r : Performed) → r.state.config ≡ d → KeepsTheRules (opening_state d)
    → if_rules_hold 0 (Ok r) ≡ unless_over_limit (first_over_limit d r.state.numbers) r
checked d r same kept =
    ap (λ c. unless_broken (first_breach c r.state.numbers) 0 r) same
    ∙ ap (λ b. unless_broken b 0 r) (only_limits d (opening_state d).numbers r.state.numbers kept)
    ∙ checked_limits (first_over_limit d r.state.numbers) r

pub difference_means : DifferenceMeans
difference_means c d t keyed kept is =
    let s = opening_state c in
    let r = performed_between c d in
    let whole = if_rules_hold 0 (node_meaning (plain_tree t) 0 s) in
    let many = nat_lt most_leaves (leaves_of (plain_tree t)) in
    ap (λ deep. cond deep (Err (refusal_at C1 Nothing)) (cond many (Err (refusal_at C2 Nothing)) whole))
    (not_over most_depth (depth_of (plain_tree t)) is.depth)
    ∙ ap (λ over_leaves. cond over_leaves (Err (refusal_at C2 Nothing)) whole) (same_limit (difference c d) t is)
    ∙ ap (λ o. cond (nat_lt most_leaves (length (difference c d))) (Err (refusal_at C2 Nothing)) o)
    (ap (if_rules_hold 0) (tree_means (difference c d) t s is (difference_accepted c d keyed))
    ∙ checked d r (reaches_the_new c d keyed) kept)
