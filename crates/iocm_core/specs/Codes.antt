-- How a history is stored as data, by which a proof tells two of them apart: a change tree as the
-- list of the steps that build it. No contract speaks of these.
use Rattle.std.specs.Prelude.{◌≡◌, ℕ, zero, suc, List, [], ◌∷◌, ◌++◌, refl}
use Rattle.std.specs.Coded.{Coded, code_by, coded×, coded_list, coded_ℕ}
use Rattle.std.proofs.Common.{ap, ◌∙◌}
use Rattle.iocm_types.specs.declared.answer.Answer.{Answer}
use Rattle.iocm_types.specs.declared.sub_id.SubId.{SubId}
use Rattle.iocm_model.specs.Change.Edit.{Edit}
use Rattle.iocm_model.specs.Change.Effect.{Effect}
use Rattle.iocm_model.specs.Change.Tree.{ChangeTree, Parts, leaf, row, group, choose, none, part}
use Rattle.iocm_model.specs.Operation.State.{State}
use Rattle.iocm_model.specs.Operation.Step.{Step}
use Rattle.iocm_core.specs.Seen.{Core}
use Rattle.iocm_core.specs.declared.trace.Entry as trace
use Rattle.iocm_history.specs.Entry.{Call, at, activate, begin, advance, commit, abort, undo, redo, show, Entry}

-- ---- trees

-- a step that builds parts from the last to the first: an edit comes before them; a node begins;
-- its parts are a Row, a Group or a Choose
pub data Move : Type 0 where
  edit : Edit → Move
  start : Move
  as_row : Move
  as_group : Move
  as_choose : Move

-- the parts of the nodes that were begun, the innermost first
abbrev pub Begun : Type 0
Begun = List Parts

-- the innermost parts with a part before them; a node that ends comes before those of the node
-- around it
abbrev pub with_part : ChangeTree → Begun → Begun
with_part t [] = part t none ∷ []
with_part t (ps ∷ outer) = part t ps ∷ outer

abbrev pub ended : (Parts → ChangeTree) → Begun → Begun
ended node [] = []
ended node (ps ∷ outer) = with_part (node ps) outer

abbrev pub moved : Move → Begun → Begun
moved (edit e) outer = with_part (leaf e) outer
moved start outer = none ∷ outer
moved as_row outer = ended row outer
moved as_group outer = ended group outer
moved as_choose outer = ended choose outer

abbrev pub built : List Move → Begun → Begun
built [] outer = outer
built (m ∷ ms) outer = built ms (moved m outer)

abbrev mutual
  -- the moves that build a tree as a part, and parts
  pub moves_of : ChangeTree → List Move
  moves_of (leaf e) = edit e ∷ []
  moves_of (row ps) = start ∷ (moves_in ps ++ as_row ∷ [])
  moves_of (group ps) = start ∷ (moves_in ps ++ as_group ∷ [])
  moves_of (choose ps) = start ∷ (moves_in ps ++ as_choose ∷ [])

  pub moves_in : Parts → List Move
  moves_in none = []
  moves_in (part p ps) = moves_in ps ++ moves_of p

pub built_append : (ms ns : List Move) (outer : Begun) → built (ms ++ ns) outer ≡ built ns (built ms outer)
built_append [] ns outer = refl
built_append (m ∷ ms) ns outer = built_append ms ns (moved m outer)

mutual
  pub built_of : (t : ChangeTree) (ps : Parts) (outer : Begun) → built (moves_of t) (ps ∷ outer) ≡ part t ps ∷ outer
  built_of (leaf e) ps outer = refl
  built_of (row qs) ps outer = built_append (moves_in qs) (as_row ∷ []) (none ∷ ps ∷ outer)
      ∙ ap (λ o. built (as_row ∷ []) o) (built_in qs (ps ∷ outer))
  built_of (group qs) ps outer = built_append (moves_in qs) (as_group ∷ []) (none ∷ ps ∷ outer)
      ∙ ap (λ o. built (as_group ∷ []) o) (built_in qs (ps ∷ outer))
  built_of (choose qs) ps outer = built_append (moves_in qs) (as_choose ∷ []) (none ∷ ps ∷ outer)
      ∙ ap (λ o. built (as_choose ∷ []) o) (built_in qs (ps ∷ outer))

  pub built_in : (ps : Parts) (outer : Begun) → built (moves_in ps) (none ∷ outer) ≡ ps ∷ outer
  built_in none outer = refl
  built_in (part p ps) outer = built_append (moves_in ps) (moves_of p) (none ∷ outer)
      ∙ ap (built (moves_of p)) (built_in ps outer) ∙ built_of p ps outer

-- the first part of what was built, or a Row of nothing
abbrev pub first_in : Begun → ChangeTree
first_in ((part t ps) ∷ outer) = t
first_in _ = row none

pub first_built : (t : ChangeTree) → first_in (built (moves_of t) (none ∷ [])) ≡ t
first_built t = ap first_in (built_of t none [])

-- a move as a number, with its edit
abbrev pub number_of : Move → ℕ × List Edit
number_of (edit e) = (0, e ∷ [])
number_of start = (1, [])
number_of as_row = (2, [])
number_of as_group = (3, [])
number_of as_choose = (4, [])

abbrev pub move_at : ℕ × List Edit → Move
move_at (zero, e ∷ es) = edit e
move_at (suc zero, es) = start
move_at (suc (suc zero), es) = as_row
move_at (suc (suc (suc zero)), es) = as_group
move_at _ = as_choose

pub move_back : (m : Move) → move_at (number_of m) ≡ m
move_back (edit e) = refl
move_back start = refl
move_back as_row = refl
move_back as_group = refl
move_back as_choose = refl

module _ (edits : Coded Edit) where
  abbrev pub move_code : Coded Move
  move_code = code_by (ℕ × List Edit) (coded× coded_ℕ (coded_list edits)) number_of move_at move_back

  abbrev pub tree_code : Coded ChangeTree
  tree_code = code_by (List Move) (coded_list move_code) moves_of (λ ms. first_in (built ms (none ∷ []))) first_built

-- ---- calls

-- a call by a number: what it is on, its tree, and the number that it names
abbrev pub call_parts : Call → ℕ × (List (SubId × Step) × (List ChangeTree × ℕ))
call_parts (at x made) = (0, ((x, made) ∷ [], ([], 0)))
call_parts (activate p) = (1, ([], (p ∷ [], 0)))
call_parts (begin p) = (2, ([], (p ∷ [], 0)))
call_parts advance = (3, ([], ([], 0)))
call_parts commit = (4, ([], ([], 0)))
call_parts abort = (5, ([], ([], 0)))
call_parts (undo n) = (6, ([], ([], n)))
call_parts (redo n) = (7, ([], ([], n)))
call_parts show = (8, ([], ([], 0)))

abbrev pub call_of : ℕ × (List (SubId × Step) × (List ChangeTree × ℕ)) → Call
call_of (zero, (step ∷ steps, rest)) = at step.0 step.1
call_of (suc zero, (steps, (p ∷ ps, n))) = activate p
call_of (suc (suc zero), (steps, (p ∷ ps, n))) = begin p
call_of (suc (suc (suc zero)), rest) = advance
call_of (suc (suc (suc (suc zero))), rest) = commit
call_of (suc (suc (suc (suc (suc zero)))), rest) = abort
call_of (suc (suc (suc (suc (suc (suc zero))))), (steps, (ps, n))) = undo n
call_of (suc (suc (suc (suc (suc (suc (suc zero)))))), (steps, (ps, n))) = redo n
call_of _ = show

pub call_back : (c : Call) → call_of (call_parts c) ≡ c
call_back (at x made) = refl
call_back (activate p) = refl
call_back (begin p) = refl
call_back advance = refl
call_back commit = refl
call_back abort = refl
call_back (undo n) = refl
call_back (redo n) = refl
call_back show = refl

-- ---- cores

module _ (steps : Coded (SubId × Step)) (edits : Coded Edit) (answers : Coded Answer) (effects : Coded Effect)
    (states : Coded State) where
  abbrev pub call_code : Coded Call
  call_code = code_by (ℕ × (List (SubId × Step) × (List ChangeTree × ℕ)))
      (coded× coded_ℕ (coded× (coded_list steps) (coded× (coded_list (tree_code edits)) coded_ℕ)))
      call_parts call_of call_back

  abbrev pub entry_code : Coded Entry
  entry_code = code_by (Call × (Answer × Effect)) (coded× call_code (coded× answers effects))
      (λ e. (e.call, (e.answer, e.effect))) (λ p. record { call = p.0; answer = p.1.0; effect = p.1.1 }) (λ _. refl)

  abbrev pub core_code : Coded trace.Entry → Coded Core
  core_code told = code_by (State × (List Entry × (List trace.Entry × ℕ)))
      (coded× states (coded× (coded_list entry_code) (coded× (coded_list told) coded_ℕ)))
      (λ c. (c.opening, (c.history, (c.entries, c.room))))
      (λ p. record { opening = p.0; history = p.1.0; entries = p.1.1.0; room = p.1.1.1 }) (λ _. refl)
