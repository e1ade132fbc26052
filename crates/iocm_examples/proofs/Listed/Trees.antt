-- Change trees over edits with listed live records, and what they mean in states as lists.
use Rattle.std.proofs.Common.{◌≡◌, ℕ, ◌+◌, nat_lt, Option, Some, None, Result, Ok, Err, List, [], ◌∷◌, ◌++◌}
use Rattle.std.proofs.Common.{if◌then◌else◌, refl, sym, ap, ◌∙◌}
use Rattle.iocm_types.specs.declared.refused.At.TheVariants.{Key, Nothing}
use Rattle.iocm_types.specs.declared.refused.Refused.{Refused}
use Rattle.iocm_types.specs.declared.rule.Rule.TheVariants.{C1, C2}
use Rattle.iocm_model.specs.Rules.FirstBreach.{Breach, first_breach}
use Rattle.iocm_model.specs.Operation.State.{State}
use Rattle.iocm_model.specs.Change.Edit.{Edit}
use Rattle.iocm_model.specs.Change.Refusal.{refusal_at, refusal_of}
use Rattle.iocm_model.specs.Change.Tree.{ChangeTree, Parts, leaf, row, group, choose, none, part, leaves_of, depth_of}
use Rattle.iocm_model.specs.Change.Tree.{nodes_of, most_depth, most_leaves}
use Rattle.iocm_model.specs.Change.Meaning.{Performed, Outcome, at_node, unless_refused, after_run, and_then, or_else}
use Rattle.iocm_model.specs.Change.Meaning.{unless_broken, if_rules_hold, without_parts, node_meaning, parts_meaning}
use Rattle.iocm_model.specs.Change.Meaning.{choice_meaning, meaning, state_reached}
use Rattle.iocm_model.specs.Change.Runs.{state_after_all}
use Rattle.iocm_model.specs.Change.InverseTree.{parts_of, inverse_tree}
use Rattle.iocm_examples.proofs.Listed.Maps.{cond_seen}
use Rattle.iocm_examples.proofs.Listed.Rules.{first_breach_listed, first_breach_seen}
use Rattle.iocm_examples.proofs.Listed.Effects.{edits_from, state_after_all_listed, state_after_all_seen}
use Rattle.iocm_examples.proofs.Listed.Effects.{state_after_all_is, inverses_listed, inverses_seen}
use Rattle.iocm_examples.proofs.Listed.States.{ListedState, listing, same_by_listing, ListedEdit, edit_from}
use Rattle.iocm_examples.proofs.Listed.States.{state_after_listed, state_after_seen, refusal_listed, refusal_seen}

mutual
  -- a tree, and the parts of a node
  pub data ListedPlan : Type 0 where
    one : ListedEdit → ListedPlan
    in_row : ListedPlans → ListedPlan
    in_group : ListedPlans → ListedPlan
    in_choose : ListedPlans → ListedPlan

  pub data ListedPlans : Type 0 where
    no_parts : ListedPlans
    and_part : ListedPlan → ListedPlans → ListedPlans

abbrev mutual
  -- the tree of these edits
  pub plan_from : ListedPlan → ChangeTree
  plan_from (one e) = leaf (edit_from e)
  plan_from (in_row ps) = row (plans_from ps)
  plan_from (in_group ps) = group (plans_from ps)
  plan_from (in_choose ps) = choose (plans_from ps)

  pub plans_from : ListedPlans → Parts
  plans_from no_parts = none
  plans_from (and_part p ps) = part (plan_from p) (plans_from ps)

-- what was done: the state that was reached, and the edits that were performed
pub record ListedRun : Type 0 where
  pub state : ListedState
  pub edits : List Edit

abbrev pub ListedOutcome : Type 0
ListedOutcome = Result ListedRun Refused

-- an outcome as it is listed
abbrev pub outcome_listing : Outcome → ListedOutcome
outcome_listing (Ok r) = Ok (record { state = listing r.state; edits = r.edits })
outcome_listing (Err why) = Err why

-- an edit by itself
abbrev unless_refused_listed : Option Refused → ℕ → ListedEdit → ListedState → ListedOutcome
unless_refused_listed (Some why) n e y = Err (at_node n why)
unless_refused_listed None n e y = Ok (record { state = y; edits = edit_from e ∷ [] })

-- what was done before, too
abbrev after_run_listed : ListedRun → ListedOutcome → ListedOutcome
after_run_listed r (Ok next) = Ok (record { state = next.state; edits = r.edits ++ next.edits })
after_run_listed r (Err why) = Err why

-- go on from what was done; the first refusal is the answer
abbrev and_then_listed : ListedOutcome → (ListedState → ListedOutcome) → ListedOutcome
and_then_listed (Ok r) further = after_run_listed r (further r.state)
and_then_listed (Err why) further = Err why

-- the first that is accepted; else go on with what else there is
abbrev or_else_listed : ListedOutcome → (Refused → ListedOutcome) → ListedOutcome
or_else_listed (Ok r) further = Ok r
or_else_listed (Err why) further = further why

-- a breach of the rules names the node whose end was checked
abbrev unless_broken_listed : Option Breach → ℕ → ListedRun → ListedOutcome
unless_broken_listed (Some b) n r = Err (record { rule = b.rule; node = Some n; at = Key b.key })
unless_broken_listed None n r = Ok r

-- the rules hold where this node ends
abbrev if_rules_hold_listed : ℕ → ListedOutcome → ListedOutcome
if_rules_hold_listed n (Ok r) = unless_broken_listed (first_breach_listed r.state.records r.state.numbers) n r
if_rules_hold_listed n (Err why) = Err why

unfoldable mutual
  -- what a tree means, and its parts
  pub mean_listed : ListedPlan → ℕ → ListedState → ListedOutcome
  mean_listed (one e) n x = unless_refused_listed (refusal_listed e x) n e (state_after_listed e x)
  mean_listed (in_row ps) n x = mean_all_listed ps (n + 1) x
  mean_listed (in_group ps) n x = if_rules_hold_listed n (mean_all_listed ps (n + 1) x)
  mean_listed (in_choose ps) n x = mean_first_listed ps (n + 1) (without_parts n) x

  pub mean_all_listed : ListedPlans → ℕ → ListedState → ListedOutcome
  mean_all_listed no_parts n x = Ok (record { state = x; edits = [] })
  mean_all_listed (and_part p ps) n x =
      and_then_listed (mean_listed p n x) (mean_all_listed ps (n + nodes_of (plan_from p)))

  pub mean_first_listed : ListedPlans → ℕ → Refused → ListedState → ListedOutcome
  mean_first_listed no_parts n last x = Err last
  mean_first_listed (and_part p ps) n last x =
      or_else_listed (if_rules_hold_listed n (mean_listed p n x))
      (λ why. mean_first_listed ps (n + nodes_of (plan_from p)) why x)

-- a whole tree
unfoldable pub meaning_listed : ListedPlan → ListedState → ListedOutcome
meaning_listed p x =
    if nat_lt most_depth (depth_of (plan_from p)) then Err (refusal_at C1 Nothing)
    else if nat_lt most_leaves (leaves_of (plan_from p)) then Err (refusal_at C2 Nothing)
    else if_rules_hold_listed 0 (mean_listed p 0 x)

-- an edit by itself is listed as it is on lists
unless_refused_seen : (o : Option Refused) (n : ℕ) (e : ListedEdit) (s : State)
    → outcome_listing (unless_refused o n (edit_from e) s)
    ≡ unless_refused_listed o n e (state_after_listed e (listing s))
unless_refused_seen (Some why) n e s = refl
unless_refused_seen None n e s = λ i. Ok (record { state = state_after_seen e s i; edits = edit_from e ∷ [] })

-- what was done before is listed with what was done next
after_seen : (r : Performed) (o : Outcome)
    → outcome_listing (after_run r o)
    ≡ after_run_listed (record { state = listing r.state; edits = r.edits }) (outcome_listing o)
after_seen r (Ok next) = refl
after_seen r (Err why) = refl

-- to go on is to go on with what is listed
then_seen : (o : Outcome) (further : State → Outcome) (next : ListedState → ListedOutcome)
    → ((s : State) → outcome_listing (further s) ≡ next (listing s))
    → outcome_listing (and_then o further) ≡ and_then_listed (outcome_listing o) next
then_seen (Ok r) further next same =
    after_seen r (further r.state)
    ∙ ap (after_run_listed (record { state = listing r.state; edits = r.edits })) (same r.state)
then_seen (Err why) further next same = refl

-- to go on with what else there is is to go on with what else is listed
else_seen : (o : Outcome) (further : Refused → Outcome) (next : Refused → ListedOutcome)
    → ((why : Refused) → outcome_listing (further why) ≡ next why)
    → outcome_listing (or_else o further) ≡ or_else_listed (outcome_listing o) next
else_seen (Ok r) further next same = refl
else_seen (Err why) further next same = same why

-- a breach is listed as it is
broken_seen : (b : Option Breach) (n : ℕ) (r : Performed)
    → outcome_listing (unless_broken b n r)
    ≡ unless_broken_listed b n (record { state = listing r.state; edits = r.edits })
broken_seen (Some b) n r = refl
broken_seen None n r = refl

-- the rules hold in what was done where they hold in what is listed
if_rules_hold_seen : (n : ℕ) (o : Outcome)
    → outcome_listing (if_rules_hold n o) ≡ if_rules_hold_listed n (outcome_listing o)
if_rules_hold_seen n (Ok r) = broken_seen (first_breach r.state.config r.state.numbers) n r
    ∙ ap (λ b. unless_broken_listed b n (record { state = listing r.state; edits = r.edits }))
    (first_breach_seen r.state.config r.state.numbers)
if_rules_hold_seen n (Err why) = refl

mutual
  unfolding mean_listed

  pub mean_seen : (p : ListedPlan) (n : ℕ) (s : State)
      → outcome_listing (node_meaning (plan_from p) n s) ≡ mean_listed p n (listing s)
  mean_seen (one e) n s = unless_refused_seen (refusal_of (edit_from e) s) n e s
      ∙ ap (λ o. unless_refused_listed o n e (state_after_listed e (listing s))) (refusal_seen e s)
  mean_seen (in_row ps) n s = mean_all_seen ps (n + 1) s
  mean_seen (in_group ps) n s =
      if_rules_hold_seen n (parts_meaning (plans_from ps) (n + 1) s)
      ∙ ap (if_rules_hold_listed n) (mean_all_seen ps (n + 1) s)
  mean_seen (in_choose ps) n s = mean_first_seen ps (n + 1) (without_parts n) s

  -- parts mean in a state what they mean in its lists
  mean_all_seen : (ps : ListedPlans) (n : ℕ) (s : State)
      → outcome_listing (parts_meaning (plans_from ps) n s) ≡ mean_all_listed ps n (listing s)
  mean_all_seen no_parts n s = refl
  mean_all_seen (and_part p ps) n s =
      let following = n + nodes_of (plan_from p) in
      then_seen (node_meaning (plan_from p) n s) (parts_meaning (plans_from ps) following)
      (mean_all_listed ps following) (mean_all_seen ps following)
      ∙ ap (λ o. and_then_listed o (mean_all_listed ps following)) (mean_seen p n s)

  -- the first part that is accepted in a state is that in its lists
  mean_first_seen : (ps : ListedPlans) (n : ℕ) (last : Refused) (s : State)
      → outcome_listing (choice_meaning (plans_from ps) n last s) ≡ mean_first_listed ps n last (listing s)
  mean_first_seen no_parts n last s = refl
  mean_first_seen (and_part p ps) n last s =
      let further = n + nodes_of (plan_from p) in
      else_seen (if_rules_hold n (node_meaning (plan_from p) n s)) (λ why. choice_meaning (plans_from ps) further why s)
      (λ why. mean_first_listed ps further why (listing s))
      (λ why. mean_first_seen ps further why s)
      ∙ ap (λ o. or_else_listed o (λ why. mean_first_listed ps further why (listing s)))
      (if_rules_hold_seen n (node_meaning (plan_from p) n s) ∙ ap (if_rules_hold_listed n) (mean_seen p n s))

-- a whole tree means in a state what it means in its lists
pub meaning_seen : (p : ListedPlan) (s : State)
    → outcome_listing (meaning (plan_from p) s) ≡ meaning_listed p (listing s)
unfolding meaning_listed
meaning_seen p s =
    let deep = nat_lt most_depth (depth_of (plan_from p)) in
    let many = nat_lt most_leaves (leaves_of (plan_from p)) in
    cond_seen outcome_listing deep _ _
    ∙ ap (λ o. if deep then Err (refusal_at C1 Nothing) else o)
    (cond_seen outcome_listing many _ _
    ∙ ap (λ o. if many then Err (refusal_at C2 Nothing) else o)
    (if_rules_hold_seen 0 (node_meaning (plan_from p) 0 s) ∙ ap (if_rules_hold_listed 0) (mean_seen p 0 s)))

-- an outcome that is listed as accepted, with a state and edits
pub accepted_as : (o : Outcome) (t : State) (es : List Edit)
    → outcome_listing o ≡ Ok (record { state = listing t; edits = es })
    → o ≡ Ok (record { state = t; edits = es })
accepted_as (Ok r) t es is =
    let same : ◌≡◌ {A = ListedRun} (record { state = listing r.state; edits = r.edits })
    (record { state = listing t; edits = es }) = cc in
    λ i. Ok (record {
      state = same_by_listing r.state t (ap (λ (x : ListedRun). x.state) same) i;
      edits = (same i).edits;
    })
accepted_as (Err why) t es is = cc

-- an outcome that is listed as refused
pub refused_as : (o : Outcome) (why : Refused) → outcome_listing o ≡ Err why → o ≡ Err why
refused_as (Ok r) why is = cc
refused_as (Err other) why is = let same : other ≡ why = cc in ap Err same

-- a tree that is accepted on lists, with the edits that were performed
pub meaning_is : (p : ListedPlan) (es : List ListedEdit) (s : State) (x : ListedState) → listing s ≡ x
    → meaning_listed p x ≡ Ok (record { state = state_after_all_listed es x; edits = edits_from es })
    → meaning (plan_from p) s ≡ Ok (record { state = state_after_all (edits_from es) s; edits = edits_from es })
meaning_is p es s x is computed = accepted_as (meaning (plan_from p) s) (state_after_all (edits_from es) s)
    (edits_from es)
    (meaning_seen p s ∙ ap (meaning_listed p) is ∙ computed
    ∙ sym (λ i. Ok (record {
      state = (state_after_all_seen es s ∙ ap (state_after_all_listed es) is) i;
      edits = edits_from es;
    })))

-- a tree that is refused on lists
pub meaning_refused : (p : ListedPlan) (why : Refused) (s : State) (x : ListedState) → listing s ≡ x
    → meaning_listed p x ≡ Err why
    → meaning (plan_from p) s ≡ Err why
meaning_refused p why s x is computed =
    refused_as (meaning (plan_from p) s) why (meaning_seen p s ∙ ap (meaning_listed p) is ∙ computed)

-- edits as the parts of a node
abbrev pub parts_listed : List ListedEdit → ListedPlans
parts_listed [] = no_parts
parts_listed (e ∷ es) = and_part (one e) (parts_listed es)

-- the parts of a node are the edits of the list
parts_seen : (es : List ListedEdit) → parts_of (edits_from es) ≡ plans_from (parts_listed es)
parts_seen [] = refl
parts_seen (e ∷ es) = ap (part (leaf (edit_from e))) (parts_seen es)

-- the tree that takes edits back
pub inverse_tree_seen : (es : List ListedEdit) (s : State)
    → inverse_tree (edits_from es) s ≡ plan_from (in_row (parts_listed (inverses_listed es (listing s))))
inverse_tree_seen es s =
    ap (λ fs. row (parts_of fs)) (inverses_seen es s) ∙ ap row (parts_seen (inverses_listed es (listing s)))

-- the inverse tree of edits of a state that is listed
abbrev pub inverse_tree_listed : List ListedEdit → ListedState → ListedPlan
inverse_tree_listed es x = in_row (parts_listed (inverses_listed es x))

-- the inverse tree of edits of a state is that of its lists
pub inverse_tree_is : (es : List ListedEdit) (s : State) (x : ListedState) → listing s ≡ x
    → inverse_tree (edits_from es) s ≡ plan_from (inverse_tree_listed es x)
inverse_tree_is es s x is = inverse_tree_seen es s ∙ ap (λ y. plan_from (inverse_tree_listed es y)) is

-- edits of one state that are taken back in another, which leads to a third
pub taken_back_at : (es : List ListedEdit) (s u t : State) (x y z : ListedState) → listing s ≡ x → listing u ≡ y
    → listing t ≡ z
    → meaning_listed (inverse_tree_listed es x) y ≡ Ok (record { state = z; edits = edits_from (inverses_listed es x) })
    → state_reached (meaning (inverse_tree (edits_from es) s) u) ≡ Some t
taken_back_at es s u t x y z is_x is_y is_z computed =
    let p = inverse_tree_listed es x in
    let inverse = edits_from (inverses_listed es x) in
    ap (λ tree. state_reached (meaning tree u)) (inverse_tree_is es s x is_x)
    ∙ ap state_reached (accepted_as (meaning (plan_from p) u) t inverse
    (meaning_seen p u ∙ ap (meaning_listed p) is_y ∙ computed
    ∙ sym (λ i. Ok (record { state = is_z i; edits = inverse }))))

-- edits that are taken back directly
pub taken_back : (es : List ListedEdit) (s : State) (x : ListedState) → listing s ≡ x
    → meaning_listed (inverse_tree_listed es x) (state_after_all_listed es x)
    ≡ Ok (record { state = x; edits = edits_from (inverses_listed es x) })
    → state_reached (meaning (inverse_tree (edits_from es) s) (state_after_all (edits_from es) s)) ≡ Some s
taken_back es s x is computed =
    taken_back_at es s (state_after_all (edits_from es) s) s x (state_after_all_listed es x) x is
    (state_after_all_is es s x is) is computed

-- edits of one state that can't be taken back in another
pub inverse_refused : (es : List ListedEdit) (why : Refused) (s u : State) (x y : ListedState) → listing s ≡ x
    → listing u ≡ y
    → meaning_listed (inverse_tree_listed es x) y ≡ Err why → meaning (inverse_tree (edits_from es) s) u ≡ Err why
inverse_refused es why s u x y is_x is_y computed =
    ap (λ tree. meaning tree u) (inverse_tree_is es s x is_x)
    ∙ meaning_refused (inverse_tree_listed es x) why u y is_y computed
