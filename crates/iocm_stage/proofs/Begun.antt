-- A change that was performed is a stage with all of its edits advanced.
use Rattle.std.proofs.Common.{◌≡◌, ◌≤◌, List, [], ◌∷◌, length, drop, reverse, Vec, Global, refl, sym, ap, subst, ◌∙◌}
use Rattle.std.proofs.Common.{arith}
use Rattle.std.specs.Prelude.{Ok, Err}
use Rattle.std.specs.Vec.{vec_len, vec_capacity}
use Rattle.std.proofs.lemmas.List.{take_all, drop_all}
use Rattle.iocm_model.specs.Operation.State.{State, IsSound}
use Rattle.iocm_model.specs.Change.Edit.{Edit}
use Rattle.iocm_model.specs.Change.InverseTree.{inverse_tree, parts_of}
use Rattle.iocm_model.specs.Change.Meaning.{Outcome, Performed, meaning}
use Rattle.iocm_model.specs.Change.Runs.{inverses, state_after_all, effect_of}
use Rattle.iocm_model.specs.Change.Tree as model
use Rattle.iocm_model.specs.Laws.Trees.{KeepsTheRules, IsRunFrom}
use Rattle.iocm_model.proofs.Change.Trees.{accepted_trees_are_runs}
use Rattle.iocm_history.specs.Change.{change_of}
use Rattle.iocm_tree.specs.Carried.{Carried}
use Rattle.iocm_tree.specs.Trees.{CarriedTree, row, plain_parts, plain_tree, tree_of}
use Rattle.iocm_plant.specs.Operating.{Operating}
use Rattle.iocm_activate.specs.Done.{AreToldBy, IsWayBack, edits_of, leaves_from}
use Rattle.iocm_activate.specs.Effects.{effect_in}
use Rattle.iocm_activate.specs.declared.done.Done.{Done}
use Rattle.iocm_activate.specs.Told.{told_of_all, LeadsTo}
use Rattle.iocm_stage.specs.Along.{edits_in, StandsAlong}
use Rattle.iocm_stage.specs.Staged.{WasMade, HasRoomBothWays, IsStageOf}
use Rattle.iocm_stage.specs.declared.staged.Staged.{Staged}

-- the edits of an inverse tree
leaves_plain : (is : List Carried) → plain_parts (leaves_from is) ≡ parts_of (edits_in is)
leaves_plain [] = refl
leaves_plain (i ∷ is) = ap (model.part (model.leaf i.edit)) (leaves_plain is)

one_part : (e f : Edit) (ps qs : model.Parts) → model.part (model.leaf e) ps ≡ model.part (model.leaf f) qs
    → (e ≡ f) × (ps ≡ qs)
one_part e f ps qs h = (cc, cc)

same_parts : (es fs : List Edit) → parts_of es ≡ parts_of fs → es ≡ fs
same_parts [] [] h = refl
same_parts [] (f ∷ fs) h = cc
same_parts (e ∷ es) [] h = cc
same_parts (e ∷ es) (f ∷ fs) h =
    let both = one_part e f (parts_of es) (parts_of fs) h in let more = same_parts es fs both.1 in
    λ i. both.0 i ∷ more i

same_rows : (ps qs : model.Parts) → model.row ps ≡ model.row qs → ps ≡ qs
same_rows ps qs h = cc

way_edits : (t : CarriedTree) (is : List Carried) (es : List Edit) (s : State) → t ≡ row (leaves_from is)
    → plain_tree t ≡ inverse_tree es s → edits_in is ≡ inverses es s
way_edits t is es s shape inverse = same_parts (edits_in is) (inverses es s)
    (sym (leaves_plain is) ∙ same_rows (plain_parts (leaves_from is)) (parts_of (inverses es s))
    (sym (ap plain_tree shape) ∙ inverse))

-- there is room for the edits that take a change back, one way and the other
pub room_for : (done : Done) (back forward : Vec Carried Global) → vec_len back ≡ length back.items
    → vec_len back ≤ vec_capacity back
    → forward.items ≡ [] → length back.items ≤ vec_capacity forward
    → HasRoomBothWays (record { done = done; forward = forward; back = back })
room_for done back forward long within none room = let z = ap length none in
    record { back = omega (arith, long, within, z); forward = omega (arith, z, room) }

-- the change that a tree means
pub change_is : (m : Outcome) (s : State) → record { edits = edits_of m; from = s } ≡ change_of m s
change_is (Ok r) s = refl
change_is (Err why) s = refl

module _ (t : model.ChangeTree) (s : State) (p : Operating) (sound : IsSound s) (kept : KeepsTheRules s)
    (means : meaning t s ≡ Ok (record { state = p.state; edits = edits_of (meaning t s) })) where
  abbrev es : List Edit
  es = edits_of (meaning t s)

  abbrev done : Performed
  done = record { state = p.state; edits = es }

  run : IsRunFrom s done
  run = accepted_trees_are_runs t s done means

  pub means_all : meaning t s ≡ Ok (record { state = state_after_all es s; edits = es })
  means_all = means ∙ ap (λ u. Ok (record { state = u; edits = es })) run.state

  made : WasMade (record { edits = es; from = s })
  made = record {
    used = record { sound = sound; rules = kept };
    accepted = run.accepted;
    rules = subst KeepsTheRules run.state run.rules;
  }

  module _ (g : Staged) (inverse : plain_tree (tree_of g.done.inverse) ≡ inverse_tree es s)
      (way : IsWayBack (tree_of g.done.inverse) s p)
      (effect : effect_in g.done.effect ≡ effect_of es s) (told : AreToldBy g.done.performed.items (told_of_all es s))
      (copied : (is : List Carried) → tree_of g.done.inverse ≡ row (leaves_from is) → reverse g.back.items ≡ is)
      (none : g.forward.items ≡ []) (room : HasRoomBothWays g) where
    backs : reverse g.back.items ≡ way.edits
    backs = copied way.edits way.shape

    along : StandsAlong es [] s s (reverse g.back.items) (reverse g.forward.items) p
    along = record {
      state = run.state;
      back_edits = ap edits_in backs ∙ way_edits (tree_of g.done.inverse) way.edits es s way.shape inverse;
      forward_edits = ap (λ is. edits_in (reverse is)) none;
      back = subst (λ is. LeadsTo is s p) (sym backs) way.leads;
      forward = subst (λ is. LeadsTo (reverse is) (state_after_all es s) p) (sym none) run.state;
    }

    stage : IsStageOf g (record { change = record { edits = es; from = s }; advances = length es }) s p
    stage = record {
      ready = record {
        made = made;
        like = record { config = refl; numbers = refl; lived = sound.lived };
        lives = λ x among. refl;
      };
      tells = record { inverse = inverse; effect = effect; performed = told };
      along = subst (λ f. StandsAlong f (drop (length es) es) s s (reverse g.back.items) (reverse g.forward.items) p)
          (sym (take_all (length es) es (omega arith)))
          (subst (λ r. StandsAlong es r s s (reverse g.back.items) (reverse g.forward.items) p)
          (sym (drop_all (length es) es (omega arith))) along);
      room = room;
    }

    -- with all edits advanced
    pub all_advanced : IsStageOf g (record { change = change_of (meaning t s) s; advances = length es }) s p
    all_advanced = subst (λ c. IsStageOf g (record { change = c; advances = length es }) s p)
        (change_is (meaning t s) s) stage
