-- A tree of Rows alone performs its edits one after the other, and has a leaf for each.
use Rattle.std.proofs.Common.{◌≡◌, ℕ, ◌+◌, ◌≤◌, nat_eq, eqb-true, cond, Bool, true, false, List, [], ◌∷◌, ◌++◌, map}
use Rattle.std.proofs.Common.{length, refl, sym, ap, subst, ◌∙◌, length-append, arith}
use Rattle.std.specs.Prelude.{Ok}
use Rattle.std.proofs.lemmas.List.{map-append}
use Rattle.iocm_model.specs.Operation.State.{State}
use Rattle.iocm_model.specs.Change.Edit.{Action, Edit, state_after}
use Rattle.iocm_model.specs.Change.Runs.{state_after_all, AreAccepted}
use Rattle.iocm_model.specs.Change.Tree.{or_one, leaves_of, leaves_in, depth_in, nodes_of}
use Rattle.iocm_model.specs.Change.Meaning.{Performed, unless_refused, after_run, and_then, node_meaning, parts_meaning}
use Rattle.iocm_model.proofs.Change.RunsGoBack.{all_append}
use Rattle.iocm_tree.specs.Carried.{Carried, bare}
use Rattle.iocm_tree.specs.Trees.{CarriedTree, CarriedParts, leaf, row, group, choose, none, part, parts_from}
use Rattle.iocm_tree.specs.Trees.{plain_tree, plain_parts}
use Rattle.iocm_difference_writer.specs.Again.{edits_in, edits_among, IsOfRows, AreOfRows}
use Rattle.iocm_difference_laws.specs.Meaning.{OneRowIsATree}

-- edits without their room
abbrev pub plain_edits : List Carried → List Edit
plain_edits edits = map (λ c. c.edit) edits

-- edits that were performed from a state on
abbrev pub performed : List Edit → State → Performed
performed es s = record { state = state_after_all es s; edits = es }

accepted_front : (xs ys : List Edit) (s : State) → AreAccepted (xs ++ ys) s → AreAccepted xs s
accepted_front [] ys s accepted = tt
accepted_front (x ∷ xs) ys s accepted = (accepted.0, accepted_front xs ys (state_after x s) accepted.1)

accepted_behind : (xs ys : List Edit) (s : State) → AreAccepted (xs ++ ys) s → AreAccepted ys (state_after_all xs s)
accepted_behind [] ys s accepted = accepted
accepted_behind (x ∷ xs) ys s accepted = accepted_behind xs ys (state_after x s) accepted.1

performed_both : (xs ys : List Edit) (s : State)
    → after_run (performed xs s) (Ok (performed ys (state_after_all xs s))) ≡ Ok (performed (xs ++ ys) s)
performed_both xs ys s = λ i. Ok (record { state = sym (all_append xs ys s) i; edits = xs ++ ys })

mutual
  -- where its edits are accepted one after the other, they are all that it performs
  pub rows_mean : (t : CarriedTree) (n : ℕ) (s : State) → IsOfRows t → AreAccepted (plain_edits (edits_in t)) s
      → node_meaning (plain_tree t) n s ≡ Ok (performed (plain_edits (edits_in t)) s)
  rows_mean (leaf c) n s rows accepted = ap (λ why. unless_refused why n c.edit s) accepted.0
  rows_mean (row ps) n s rows accepted = parts_mean ps (n + 1) s rows accepted
  rows_mean (group ps) n s rows accepted = absurd rows
  rows_mean (choose ps) n s rows accepted = absurd rows

  parts_mean : (ps : CarriedParts) (n : ℕ) (s : State) → AreOfRows ps → AreAccepted (plain_edits (edits_among ps)) s
      → parts_meaning (plain_parts ps) n s ≡ Ok (performed (plain_edits (edits_among ps)) s)
  parts_mean none n s rows accepted = refl
  parts_mean (part p ps) n s rows accepted =
      let xs = plain_edits (edits_in p) in
      let ys = plain_edits (edits_among ps) in
      let next = n + nodes_of (plain_tree p) in
      let split : plain_edits (edits_in p ++ edits_among ps) ≡ xs ++ ys =
      map-append (λ (c : Carried). c.edit) (edits_in p) (edits_among ps) in
      let both : AreAccepted (xs ++ ys) s = subst (λ es. AreAccepted es s) split accepted in
      ap (λ o. and_then o (parts_meaning (plain_parts ps) next)) (rows_mean p n s rows.0 (accepted_front xs ys s both))
      ∙ ap (after_run (performed xs s))
      (parts_mean ps next (state_after_all xs s) rows.1 (accepted_behind xs ys s both))
      ∙ performed_both xs ys s
      ∙ ap (λ es. Ok (performed es s)) (sym split)

least_by : (b : Bool) (n : ℕ) → nat_eq n 0 ≡ b → n ≤ cond b 1 n
least_by true n is = let none : n ≡ 0 = eqb-true n 0 is in omega arith
least_by false n is = omega arith

at_least : (n : ℕ) → n ≤ or_one n
at_least n = least_by (nat_eq n 0) n refl

mutual
  -- it has no more edits than leaves
  pub edits_few : (t : CarriedTree) → length (edits_in t) ≤ leaves_of (plain_tree t)
  edits_few (leaf c) = omega arith
  edits_few (row ps) = omega (arith, edits_few_among ps, at_least (leaves_in (plain_parts ps)))
  edits_few (group ps) = omega (arith, edits_few_among ps, at_least (leaves_in (plain_parts ps)))
  edits_few (choose ps) = omega (arith, edits_few_among ps, at_least (leaves_in (plain_parts ps)))

  edits_few_among : (ps : CarriedParts) → length (edits_among ps) ≤ leaves_in (plain_parts ps)
  edits_few_among none = omega arith
  edits_few_among (part p ps) =
      omega (arith, length-append (edits_in p) (edits_among ps), edits_few p, edits_few_among ps)

-- ---- one Row with a leaf for each action

rows_beside : (actions : List Action) → AreOfRows (parts_from (map (λ a. leaf (bare a)) actions))
rows_beside [] = tt
rows_beside (a ∷ actions) = (tt, rows_beside actions)

edits_beside : (actions : List Action) → edits_among (parts_from (map (λ a. leaf (bare a)) actions)) ≡ map bare actions
edits_beside [] = refl
edits_beside (a ∷ actions) = ap (λ es. bare a ∷ es) (edits_beside actions)

depth_beside : (actions : List Action) → depth_in (plain_parts (parts_from (map (λ a. leaf (bare a)) actions))) ≤ 1
depth_beside [] = omega arith
depth_beside (a ∷ actions) = omega (arith, depth_beside actions)

leaves_beside : (actions : List Action)
    → leaves_in (plain_parts (parts_from (map (λ a. leaf (bare a)) actions))) ≡ length actions
leaves_beside [] = refl
leaves_beside (a ∷ actions) = omega (arith, leaves_beside actions)

one_or : (b : Bool) (k : ℕ) → k ≤ 4096 → cond b 1 k ≤ 4096
one_or true k le = omega arith
one_or false k le = le

pub one_row_is_a_tree : OneRowIsATree
one_row_is_a_tree actions = record {
  in_rows = rows_beside actions;
  edits = edits_beside actions;
  depth = omega (arith, depth_beside actions);
  leaves = λ few. let n = leaves_in (plain_parts (parts_from (map (λ a. leaf (bare a)) actions))) in
      one_or (nat_eq n 0) n (omega (arith, few, leaves_beside actions));
}
