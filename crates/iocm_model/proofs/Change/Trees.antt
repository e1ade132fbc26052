-- An accepted tree is a run of accepted edits, and its inverse tree takes it back.
use Rattle.std.proofs.Common.{◌≡◌, ℕ, ◌+◌, nat_eq, eqb-true, ◌≤◌, nat_lt, length, Bool, true, false, cond, List, []}
use Rattle.std.proofs.Common.{◌∷◌, ◌++◌, Option, Some, None, refl, sym, ap, subst, ◌∙◌, arith}
use Rattle.std.specs.Prelude.{Ok, Err}
use Rattle.std.proofs.lemmas.List.{length-append}
use Rattle.iocm_types.specs.declared.refused.Refused.{Refused}
use Rattle.iocm_model.specs.Rules.FirstBreach.{Breach, first_breach}
use Rattle.iocm_model.specs.Operation.State.{State}
use Rattle.iocm_model.specs.Change.Edit.{Edit, state_after}
use Rattle.iocm_model.specs.Change.Refusal.{refusal_of}
use Rattle.iocm_model.specs.Change.Runs.{state_after_all, AreAccepted, inverses}
use Rattle.iocm_model.specs.Change.Tree.{ChangeTree, Parts, leaf, row, group, choose, none, part, or_one, leaves_of}
use Rattle.iocm_model.specs.Change.Tree.{leaves_in, depth_of, depth_in, nodes_of, most_depth, most_leaves}
use Rattle.iocm_model.specs.Change.Meaning.{Performed, Outcome, unless_refused, after_run, and_then, or_else}
use Rattle.iocm_model.specs.Change.Meaning.{unless_broken, if_rules_hold, without_parts, node_meaning, parts_meaning}
use Rattle.iocm_model.specs.Change.Meaning.{choice_meaning, meaning, state_reached}
use Rattle.iocm_model.specs.Laws.Trees.{KeepsTheRules, AcceptedTreesAreRuns, InverseTreesTakeBack}
use Rattle.iocm_model.specs.Change.Inverse.{inverse_of}
use Rattle.iocm_model.specs.Change.InverseTree.{parts_of, inverse_tree}
use Rattle.iocm_model.proofs.Change.RunsGoBack.{accepted_append, all_append, accepted_carry, inverses_accepted}
use Rattle.iocm_model.proofs.Change.RunsGoBack.{run_back, run_goes_back}

inner : (x y : Performed) → ◌≡◌ {A = Outcome} (Ok x) (Ok y) → x ≡ y
inner x y h = cc

-- what was done is a run of accepted edits, at most so many
record IsRunOf (most : ℕ) (s : State) (r : Performed) : Type 0 where
  state : r.state ≡ state_after_all r.edits s
  accepted : AreAccepted r.edits s
  few : length r.edits ≤ most

by_leaf : (why : Option Refused) (e : Edit) (n : ℕ) (s : State) (r : Performed) → refusal_of e s ≡ why
    → unless_refused why n e s ≡ Ok r → IsRunOf 1 s r
by_leaf None e n s r is h =
    subst (IsRunOf 1 s) (inner _ r h) (record { state = refl; accepted = (is, tt); few = omega arith })
by_leaf (Some why) e n s r is h = cc

-- after what was done, more was done
joined : (a b : ℕ) (s : State) (r next : Performed) → IsRunOf a s r → IsRunOf b r.state next
    → IsRunOf (a + b) s (record { state = next.state; edits = r.edits ++ next.edits })
joined a b s r next first second = record {
  state = second.state ∙ ap (state_after_all next.edits) first.state ∙ sym (all_append r.edits next.edits s);
  accepted = accepted_append r.edits next.edits s first.accepted
      (subst (AreAccepted next.edits) first.state second.accepted);
  few = let both : length (r.edits ++ next.edits) ≡ length r.edits + length next.edits =
      length-append r.edits next.edits in
      omega (arith, both, first.few, second.few);
}

by_joined : (a b : ℕ) (s : State) (r : Performed) (later : Outcome) (w : Performed) → IsRunOf a s r
    → ((next : Performed) → later ≡ Ok next → IsRunOf b r.state next)
    → after_run r later ≡ Ok w → IsRunOf (a + b) s w
by_joined a b s r (Ok next) w first second h =
    subst (IsRunOf (a + b) s) (inner _ w h) (joined a b s r next first (second next refl))
by_joined a b s r (Err why) w first second h = cc

-- a part, and then further parts
by_parts : (a b : ℕ) (s : State) (o : Outcome) (further : State → Outcome) (w : Performed)
    → ((r : Performed) → o ≡ Ok r → IsRunOf a s r)
    → ((t : State) (next : Performed) → further t ≡ Ok next → IsRunOf b t next) → and_then o further ≡ Ok w
    → IsRunOf (a + b) s w
by_parts a b s (Ok r) further w first second h = by_joined a b s r (further r.state) w (first r refl) (second r.state) h
by_parts a b s (Err why) further w first second h = cc

-- where the rules were checked
by_rules : (b : Option Breach) (n : ℕ) (r w : Performed) → unless_broken b n r ≡ Ok w → (b ≡ None) × (r ≡ w)
by_rules None n r w h = (refl, inner r w h)
by_rules (Some b) n r w h = cc

rules_hold : (n : ℕ) (o : Outcome) (w : Performed) → if_rules_hold n o ≡ Ok w
    → (o ≡ Ok w) × (first_breach w.state.config w.state.numbers ≡ None)
rules_hold n (Ok r) w h =
    let both = by_rules (first_breach r.state.config r.state.numbers) n r w h in
    (ap Ok both.1, subst (λ (z : Performed). first_breach z.state.config z.state.numbers ≡ None) both.1 both.0)
rules_hold n (Err why) w h = cc

more : (a b : ℕ) (s : State) (r : Performed) → a ≤ b → IsRunOf a s r → IsRunOf b s r
more a b s r le run = record { state = run.state; accepted = run.accepted; few = let f = run.few in omega arith }

-- the first part that is accepted, or a later one
by_first : (a b : ℕ) (s : State) (o : Outcome) (further : Refused → Outcome) (w : Performed)
    → (o ≡ Ok w → IsRunOf a s w)
    → ((why : Refused) → further why ≡ Ok w → IsRunOf b s w) → or_else o further ≡ Ok w → IsRunOf (a + b) s w
by_first a b s (Ok r) further w first second h = more a (a + b) s w (omega arith) (first h)
by_first a b s (Err why) further w first second h = more b (a + b) s w (omega arith) (second why h)

least_by : (b : Bool) (n : ℕ) → nat_eq n 0 ≡ b → n ≤ cond b 1 n
least_by true n is = let none : n ≡ 0 = eqb-true n 0 is in omega arith
least_by false n is = omega arith

at_least : (n : ℕ) → n ≤ or_one n
at_least n = least_by (nat_eq n 0) n refl

mutual
  mean_run : (p : ChangeTree) (n : ℕ) (s : State) (w : Performed) → node_meaning p n s ≡ Ok w
      → IsRunOf (leaves_of p) s w
  mean_run (leaf e) n s w h = by_leaf (refusal_of e s) e n s w refl h
  mean_run (row ps) n s w h = more _ _ s w (at_least (leaves_in ps)) (all_run ps (n + 1) s w h)
  mean_run (group ps) n s w h =
      more _ _ s w (at_least (leaves_in ps)) (all_run ps (n + 1) s w (rules_hold n (parts_meaning ps (n + 1) s) w h).0)
  mean_run (choose ps) n s w h = more _ _ s w (at_least (leaves_in ps)) (first_run ps (n + 1) (without_parts n) s w h)

  all_run : (ps : Parts) (n : ℕ) (s : State) (w : Performed) → parts_meaning ps n s ≡ Ok w → IsRunOf (leaves_in ps) s w
  all_run none n s w h = subst (IsRunOf 0 s) (inner _ w h) (record { state = refl; accepted = tt; few = omega arith })
  all_run (part p ps) n s w h = by_parts (leaves_of p) (leaves_in ps) s (node_meaning p n s)
      (parts_meaning ps (n + nodes_of p)) w
      (λ r e. mean_run p n s r e) (λ t next e. all_run ps (n + nodes_of p) t next e) h

  first_run : (ps : Parts) (n : ℕ) (last : Refused) (s : State) (w : Performed) → choice_meaning ps n last s ≡ Ok w
      → IsRunOf (leaves_in ps) s w
  first_run none n last s w h = cc
  first_run (part p ps) n last s w h = by_first (leaves_of p) (leaves_in ps) s (if_rules_hold n (node_meaning p n s))
      (λ why. choice_meaning ps (n + nodes_of p) why s) w
      (λ e. mean_run p n s w (rules_hold n (node_meaning p n s) w e).0)
      (λ why e. first_run ps (n + nodes_of p) why s w e) h

-- an accepted tree keeps within the limits
unless_over : (a b : Bool) (x y z : Outcome) (w : Performed) → ((v : Performed) → x ≡ Ok v → ⊥)
    → ((v : Performed) → y ≡ Ok v → ⊥)
    → cond a x (cond b y z) ≡ Ok w → (b ≡ false) × (z ≡ Ok w)
unless_over true b x y z w f g h = absurd (f w h)
unless_over false true x y z w f g h = absurd (g w h)
unless_over false false x y z w f g h = (refl, h)

refused_not : (why : Refused) (v : Performed) → Err why ≡ Ok v → ⊥
refused_not why v h = cc

record IsWithin (p : ChangeTree) (s : State) (w : Performed) : Type 0 where
  run : IsRunOf (leaves_of p) s w
  leaves : nat_lt most_leaves (leaves_of p) ≡ false
  rules : first_breach w.state.config w.state.numbers ≡ None

meaning_within : (p : ChangeTree) (s : State) (w : Performed) → meaning p s ≡ Ok w → IsWithin p s w
meaning_within p s w h =
    let z = unless_over (nat_lt most_depth (depth_of p)) (nat_lt most_leaves (leaves_of p)) _ _
    (if_rules_hold 0 (node_meaning p 0 s)) w (refused_not _) (refused_not _) h in
    let c = rules_hold 0 (node_meaning p 0 s) w z.1 in
    record { run = mean_run p 0 s w c.0; leaves = z.0; rules = c.1 }

pub accepted_trees_are_runs : AcceptedTreesAreRuns
accepted_trees_are_runs p s w h =
    let within = meaning_within p s w h in
    record { state = within.run.state; accepted = within.run.accepted; rules = within.rules }

-- ---- the inverse tree

parts_mean : (es : List Edit) (n : ℕ) (s : State) → AreAccepted es s
    → parts_meaning (parts_of es) n s ≡ Ok (record { state = state_after_all es s; edits = es })
parts_mean [] n s accepted = refl
parts_mean (e ∷ es) n s accepted =
    ap (λ why. and_then (unless_refused why n e s) (parts_meaning (parts_of es) (n + 1))) accepted.0
    ∙ ap (after_run (record { state = state_after e s; edits = e ∷ [] }))
    (parts_mean es (n + 1) (state_after e s) accepted.1)

parts_leaves : (es : List Edit) → leaves_in (parts_of es) ≡ length es
parts_leaves [] = refl
parts_leaves (e ∷ es) = let more = parts_leaves es in omega arith

parts_depth : (es : List Edit) → depth_in (parts_of es) ≤ 1
parts_depth [] = omega arith
parts_depth (e ∷ es) = let more = parts_depth es in omega arith

pub inverses_length : (es : List Edit) (s : State) → length (inverses es s) ≡ length es
inverses_length [] s = refl
inverses_length (e ∷ es) s =
    let more = inverses_length es (state_after e s) in
    let both = length-append (inverses es (state_after e s)) (inverse_of e s ∷ []) in
    omega arith

not_over : (n : ℕ) → n ≤ 4096 → nat_lt most_leaves n ≡ false
not_over n le = grind arith

at_most : (n : ℕ) → nat_lt most_leaves n ≡ false → n ≤ 4096
at_most n h = grind arith

one_or : (b : Bool) (k : ℕ) → k ≤ 4096 → cond b 1 k ≤ 4096
one_or true k le = omega arith
one_or false k le = le

unless_nothing : (a b : Bool) (x y z : Outcome) → a ≡ false → b ≡ false → cond a x (cond b y z) ≡ z
unless_nothing a b x y z p q = rw (p, q) refl

-- an accepted tree performs no more edits than a tree may have leaves
pub few_performed : (p : ChangeTree) (s : State) (w : Performed) → meaning p s ≡ Ok w → length w.edits ≤ most_leaves
few_performed p s w h =
    let within = meaning_within p s w h in
    let bound = at_most (leaves_of p) within.leaves in
    let few = within.run.few in omega (arith, bound, few)

-- where the inverses of so many edits are accepted and the rules hold after them, the inverse tree
-- means what they do
pub inverse_tree_means : (es : List Edit) (s u : State) → length es ≤ most_leaves → AreAccepted (inverses es s) u
    → KeepsTheRules (state_after_all (inverses es s) u)
    → state_reached (meaning (inverse_tree es s) u) ≡ Some (state_after_all (inverses es s) u)
inverse_tree_means es s u few accepted rules =
    let t = inverse_tree es s in
    let deep : nat_lt most_depth (depth_of t) ≡ false = let d = parts_depth (inverses es s) in grind arith in
    let many : nat_lt most_leaves (leaves_of t) ≡ false =
    not_over (leaves_of t) (one_or (nat_eq (leaves_in (parts_of (inverses es s))) 0)
    (leaves_in (parts_of (inverses es s)))
    (let k = parts_leaves (inverses es s) in let l = inverses_length es s in omega (arith, few, k, l))) in
    let there = parts_mean (inverses es s) 1 u accepted in
    ap state_reached (unless_nothing _ _ _ _ _ deep many ∙ ap (if_rules_hold 0) there
    ∙ ap (λ b. unless_broken b 0 (record { state = state_after_all (inverses es s) u; edits = inverses es s })) rules)

pub inverse_trees_take_back : InverseTreesTakeBack
inverse_trees_take_back p s w sound kept h u like quiet =
    let within = meaning_within p s w h in
    let es = w.edits in
    let free = accepted_carry es s within.run.accepted in
    let accepted = inverses_accepted es s u sound within.run.accepted like quiet in
    let rules : KeepsTheRules (state_after_all (inverses es s) u) =
    ap (λ (z : State). first_breach z.config z.numbers) (run_back es s u sound free like) ∙ kept in
    inverse_tree_means es s u (few_performed p s w h) accepted rules ∙ ap Some (run_goes_back es s u sound free like)
