-- A whole tree: what its activation answers, from the walk through it.
use Rattle.std.proofs.Common.{◌≡◌, ℕ, ◌+◌, ◌<◌, ◌≤◌, ◌^◌, nat_lt, Bool, true, false, cond, arith, List, [], ◌++◌, map}
use Rattle.std.proofs.Common.{Option, Some, None, refl, sym, ap, subst, ◌∙◌}
use Rattle.std.specs.Prelude.{Ok, Err, Result}
use Rattle.std.specs.Result.{IfOk, OnOk, OnErr}
use Rattle.std.proofs.Math.Nat.{mul-le-mul_right}
use Rattle.iocm_types.specs.declared.refused.Refused.{Refused}
use Rattle.iocm_model.specs.Operation.State.{State, IsSound}
use Rattle.iocm_model.specs.Change.Effect.{Effect, values_in}
use Rattle.iocm_model.specs.Change.InverseTree.{inverse_tree, TakesBack}
use Rattle.iocm_model.specs.Change.Edit.{Edit}
use Rattle.iocm_model.specs.Change.Meaning.{if_rules_hold, node_meaning, meaning, Outcome}
use Rattle.iocm_model.specs.Change.Runs.{cells_written_by_all, effect_of}
use Rattle.iocm_model.specs.Change.Tree.{ChangeTree, depth_of, leaves_of, nodes_of, most_depth, most_leaves}
use Rattle.iocm_model.specs.Laws.Trees.{KeepsTheRules}
use Rattle.iocm_model.proofs.Change.Trees.{accepted_trees_are_runs, inverse_trees_take_back}
use Rattle.iocm_model.proofs.Change.Nodes.{nodes_are_bounded}
use Rattle.iocm_tree.specs.Limits.{limit_refusal, meaning_unless}
use Rattle.iocm_tree.specs.Trees.{CarriedTree, row, plain_tree}
use Rattle.iocm_plant.specs.Operating.{Operating}
use Rattle.iocm_plant.specs.declared.touched.Touched.{Touched}
use Rattle.iocm_activate.specs.Done.{edits_of, edits_meant, leaves_from, touched_in, AreToldBy}
use Rattle.iocm_activate.specs.Effects.{cells_told}
use Rattle.iocm_activate.specs.Told.{key_of_edit, told_in, told_of_all, way_back, LeadsTo, CanTakeBack, HaveLedTo}
use Rattle.iocm_activate.specs.Walked.{Ran, Answers, WasAccepted}
use Rattle.iocm_activate.specs.declared.log.Log.{Log}
use Rattle.iocm_activate.proofs.Activated.{inverse_is, cells_told_are, are_told}

-- a machine was changed by a walk, and the log told of nothing before
pub record WasWalked (p q : Operating) (log : Log) : Type 0 where
  pub first : Log
  pub none : first.done.items ≡ []
  pub ran : Ran p first q log

-- ---- what was done can be taken back

module _ {p q : Operating} {log : Log} (w : WasWalked p q log) where
  -- the log tells of these edits alone
  told_alone : log.done.items ≡ w.ran.done
  told_alone = w.ran.log ∙ ap (λ ds. ds ++ w.ran.done) w.none

  -- and what is told of them is what they did
  pub all_told : map told_in log.done.items ≡ told_of_all w.ran.edits p.state
  all_told = ap (map told_in) told_alone ∙ w.ran.told

  -- the way back leads to the state from before
  pub leads_back : LeadsTo (way_back log.done.items) p.state q
  leads_back = subst (λ ds. LeadsTo (way_back ds) p.state q) (sym told_alone) w.ran.back

  -- so all can be taken back
  pub can_take_all_back : CanTakeBack log.done.items q
  can_take_all_back = record { state = p.state; leads = leads_back }

  -- and they led to the state as it is
  pub have_led : HaveLedTo log.done.items q.state
  have_led = record { before = p.state; edits = w.ran.edits; told = all_told; now = w.ran.state }

-- ---- what is told of a tree that was accepted

module _ {t : ChangeTree} {p q : Operating} {log : Log} (w : WasAccepted t p q log) where
  -- it is a walk
  abbrev pub walked : WasWalked p q log
  walked = record { first = w.first; none = w.none; ran = w.answers.ran }

  -- the edits that were performed are those that the tree means
  edits_are : w.answers.ran.edits ≡ edits_meant t p.state
  edits_are = sym (ap edits_of w.answers.means)

  -- the tree means this state and these edits
  abbrev meant_by : State → List Edit → Outcome
  meant_by s es = Ok (record { state = s; edits = es })

  pub means_now : (r : Operating) → r ≡ q → meaning t p.state ≡ meant_by r.state (edits_meant t p.state)
  means_now r same = w.answers.means ∙ ap (meant_by q.state) edits_are
      ∙ ap (λ (o : Operating). meant_by o.state (edits_meant t p.state)) (sym same)

  -- the row of what takes each of them back is the inverse tree
  pub inverse_now : (r : CarriedTree) → r ≡ row (leaves_from (way_back log.done.items))
      → plain_tree r ≡ inverse_tree (edits_meant t p.state) p.state
  inverse_now r shape = ap plain_tree shape ∙ inverse_is log.done.items w.answers.ran.edits p.state (all_told walked)
      ∙ ap (λ es. inverse_tree es p.state) edits_are

  -- and takes them back by its meaning
  pub takes_back_now : (r : CarriedTree) → IsSound p.state → KeepsTheRules p.state
      → r ≡ row (leaves_from (way_back log.done.items))
      → TakesBack (plain_tree r) (edits_meant t p.state) p.state
  takes_back_now r sound kept shape = subst (λ x. TakesBack x (edits_meant t p.state) p.state)
      (sym (inverse_now r shape))
      (subst (λ es. TakesBack (inverse_tree es p.state) es p.state) edits_are
      (inverse_trees_take_back t p.state (record { state = q.state; edits = w.answers.ran.edits }) sound kept
      w.answers.means))

  -- the rules are kept
  pub kept_by : KeepsTheRules q.state
  kept_by = (accepted_trees_are_runs t p.state (record { state = q.state; edits = w.answers.ran.edits })
      w.answers.means).rules

  -- the effect is that of the edits
  pub effect_now : (f : Effect) → f ≡ values_in q.state (cells_told log) → f ≡ effect_of (edits_meant t p.state) p.state
  effect_now f is = is
      ∙ ap (values_in q.state) (cells_told_are log w.answers.ran.edits p.state (all_told walked)
      (w.answers.ran.keys ∙ ap (λ ks. ks ++ map key_of_edit w.answers.ran.edits) w.no_keys))
      ∙ ap (λ s. values_in s (cells_written_by_all w.answers.ran.edits p.state)) w.answers.ran.state
      ∙ ap (λ es. effect_of es p.state) edits_are

  -- and so is what is told of each
  pub told_now : (performed : List Touched) → performed ≡ touched_in log.done.items
      → AreToldBy performed (told_of_all (edits_meant t p.state) p.state)
  told_now performed is = subst (λ es. AreToldBy performed (told_of_all es p.state)) edits_are
      (are_told log.done.items performed w.answers.ran.edits p.state is (all_told walked))

-- ---- the answer of a whole tree

-- within the limits a tree means what its walk means
pub whole : {answer field : Option Refused} {p : Operating} {first : Log} {q : Operating} {log : Log}
    → (t : ChangeTree) (over : Option Refused)
    → over ≡ None
    → ((s : State) → meaning t s ≡ meaning_unless over t s) → field ≡ answer
    → Answers (if_rules_hold 0 (node_meaning t 0 p.state)) p first q log field
    → Answers (meaning t p.state) p first q log answer
whole {answer} {field} {p} {first} {q} {log} t over within means is a =
    subst (λ m. Answers m p first q log answer) (sym (means p.state ∙ ap (λ o. meaning_unless o t p.state) within))
    (subst (Answers (if_rules_hold 0 (node_meaning t 0 p.state)) p first q log) is a)

-- a tree within the limits has few nodes
neither : (a b : Bool) (x y : Refused) → cond a (Some x) (cond b (Some y) None) ≡ None → (a ≡ false) × (b ≡ false)
neither true b x y h = cc
neither false true x y h = cc
neither false false x y h = (refl, refl)

-- what is not more than a limit is within it
no_more : (n most : ℕ) → nat_lt most n ≡ false → n ≤ most
no_more n most h = grind arith

-- so the numbers of its nodes fit
pub few_nodes : (t : ChangeTree) → limit_refusal t ≡ None → 0 + nodes_of t < 2 ^ 64
few_nodes t within =
    let both = neither (nat_lt most_depth (depth_of t)) (nat_lt most_leaves (leaves_of t)) _ _ within in
    let depth = no_more (depth_of t) most_depth both.0 in
    let leaves = no_more (leaves_of t) most_leaves both.1 in
    let product = mul-le-mul_right (leaves_of t) depth in
    let nodes = nodes_are_bounded t in
    omega (arith, nodes, product, leaves)

-- ---- whether it is finished or not

-- what follows from an answer's fact holds of the answer
pub ok_then : {T E : Type 0} (r : Result T E) {P Q : T → Type 0} → IfOk r P → ((x : T) → P x → Q x) → IfOk r Q
ok_then (Ok x) h f = f x h
ok_then (Err e) h f = tt

-- and so does what follows where all went well
pub on_ok_then : {T E : Type 0} (r : Result T E) {P Q : Type 0} → OnOk r P → (P → Q) → OnOk r Q
on_ok_then (Ok x) p f = f p
on_ok_then (Err e) p f = tt

-- what follows on both answers holds
pub either_way : {T E : Type 0} (r : Result T E) {P Q A : Type 0} → OnOk r P → OnErr r Q → (P → A) → (Q → A) → A
either_way (Ok x) p q f g = f p
either_way (Err e) p q f g = g q
