-- In the middle of performing edits, or the parts of a Row, without memory.
use Rattle.std.proofs.Common.{◌≡◌, List, [], ◌∷◌, ◌++◌, reverse, Some, None, sym, ap, subst, ◌∙◌}
use Rattle.iocm_model.specs.Operation.State.{State}
use Rattle.iocm_model.specs.Change.Edit.{state_after}
use Rattle.iocm_tree.specs.Carried.{Carried}
use Rattle.iocm_tree.specs.Trees.{CarriedTree, CarriedParts, leaf, row, none, part, edit_in, parts_from}
use Rattle.iocm_plant.specs.Operating.{Operating}
use Rattle.iocm_plant.specs.TakingBack.{CanUnapply}
use Rattle.iocm_activate.specs.Done.{IsWayBack, leaves_from}
use Rattle.iocm_activate.specs.Told.{LeadsTo}
use Rattle.iocm_stage.specs.Performing.{LeadsOn, GoesBack}
use Rattle.iocm_stage.proofs.Lists.{reverse_last}

-- some edits were performed: the others still lead to where all of them led
pub record IsPerforming (before : Operating) (all : List Carried) (now : Operating) (left : List Carried) : Type 0 where
  pub can : LeadsOn left now
  pub leads : (s : State) → LeadsTo all s before → LeadsTo left s now
  pub room : now.room ≡ before.room

pub next_is : (left new : List Carried) (i : Carried) → left ≡ new ++ i ∷ [] → reverse left ≡ i ∷ reverse new
next_is left new i is = ap reverse is ∙ reverse_last new i

pub next_performed : (p q r : Operating) (all left rest : List Carried) (i : Carried) → IsPerforming p all q left
    → left ≡ i ∷ rest
    → r.state ≡ state_after i.edit q.state → r.room ≡ q.room → IsPerforming p all r rest
next_performed p q r all left rest i doing is state room = record {
  can = record {
    state = doing.can.state;
    leads = (subst (λ is. LeadsTo is doing.can.state q) is doing.can.leads).1 r state room;
  };
  leads = λ s h. (subst (λ is. LeadsTo is s q) is (doing.leads s h)).1 r state room;
  room = room ∙ doing.room;
}

-- ---- the parts of a Row

-- the first part of a Row that takes a change back is an edit that can be performed, and the others
-- take back the rest
pub record BeginsWith (t : CarriedTree) (ps : CarriedParts) (s : State) (p : Operating) : Type 0 where
  pub edit : Carried
  pub is : t ≡ leaf edit
  pub can : CanUnapply edit p
  pub rest : (q : Operating) → q.state ≡ state_after edit.edit p.state → q.room ≡ p.room → IsWayBack (row ps) s q

first_leaf : (t : CarriedTree) (ps : CarriedParts) (i : Carried) (is : List Carried)
    → row (part t ps) ≡ row (leaves_from (i ∷ is)) → t ≡ leaf i
first_leaf t ps i is h = cc

other_leaves : (t : CarriedTree) (ps : CarriedParts) (i : Carried) (is : List Carried)
    → row (part t ps) ≡ row (leaves_from (i ∷ is)) → row ps ≡ row (leaves_from is)
other_leaves t ps i is h = cc

some_leaves : (t : CarriedTree) (ps : CarriedParts) → row (part t ps) ≡ row (leaves_from []) → ⊥
some_leaves t ps h = cc

no_leaves : (i : Carried) (is : List Carried) → row none ≡ row (leaves_from (i ∷ is)) → ⊥
no_leaves i is h = cc

pub begins_with : (t : CarriedTree) (ps : CarriedParts) (s : State) (p : Operating) → IsWayBack (row (part t ps)) s p
    → BeginsWith t ps s p
begins_with t ps s p way = by way.edits way.shape way.leads
  where
    by : (is : List Carried) → row (part t ps) ≡ row (leaves_from is) → LeadsTo is s p → BeginsWith t ps s p
    by [] shape leads = absurd (some_leaves t ps shape)
    by (i ∷ is) shape leads = record {
      edit = i;
      is = first_leaf t ps i is shape;
      can = leads.0;
      rest = λ q state room. record { edits = is; shape = other_leaves t ps i is shape; leads = leads.1 q state room };
    }

-- a Row without parts takes back nothing
pub nothing_left : (s : State) (p : Operating) → IsWayBack (row none) s p → p.state ≡ s
nothing_left s p way = by way.edits way.shape way.leads
  where
    by : (is : List Carried) → row none ≡ row (leaves_from is) → LeadsTo is s p → p.state ≡ s
    by [] shape leads = leads
    by (i ∷ is) shape leads = absurd (no_leaves i is shape)

-- some parts took back what they are to: the others still lead to where all of them led
pub record IsTakingBack (before : Operating) (whole : CarriedTree) (now : Operating) (left : List CarriedTree) : Type
    0 where
  pub can : GoesBack (row (parts_from left)) now
  pub leads : (s : State) → IsWayBack whole s before → IsWayBack (row (parts_from left)) s now
  pub room : now.room ≡ before.room

module _ (p q : Operating) (whole t : CarriedTree) (left ts : List CarriedTree) (taking : IsTakingBack p whole q left)
    (is : left ≡ t ∷ ts) where
  abbrev starts : (s : State) → IsWayBack (row (parts_from left)) s q → BeginsWith t (parts_from ts) s q
  starts s way = begins_with t (parts_from ts) s q (subst (λ xs. IsWayBack (row (parts_from xs)) s q) is way)

  abbrev begun : BeginsWith t (parts_from ts) taking.can.state q
  begun = starts taking.can.state taking.can.way

  pub is_edit : edit_in t ≡ None → ⊥
  is_edit h = no begun.edit (ap edit_in (sym begun.is) ∙ h)
    where
      no : (a : Carried) → Some a ≡ None → ⊥
      no a e = cc

  module _ (i : Carried) (edit : edit_in t ≡ Some i) where
    same_edit : (j : Carried) → t ≡ leaf j → i ≡ j
    same_edit j h = inner i j (sym edit ∙ ap edit_in h)
      where
        inner : (a b : Carried) → Some a ≡ Some b → a ≡ b
        inner a b e = cc

    pub part_can : CanUnapply i q
    part_can = subst (λ j. CanUnapply j q) (sym (same_edit begun.edit begun.is)) begun.can

    pub part_taken : (r : Operating) → r.state ≡ state_after i.edit q.state → r.room ≡ q.room
        → IsTakingBack p whole r ts
    part_taken r state room = record {
      can = record { state = taking.can.state; way = further taking.can.state begun };
      leads = λ s way. further s (starts s (taking.leads s way));
      room = room ∙ taking.room;
    }
      where
        further : (s : State) → BeginsWith t (parts_from ts) s q → IsWayBack (row (parts_from ts)) s r
        further s b = b.rest r (state ∙ ap (λ (j : Carried). state_after j.edit q.state) (same_edit b.edit b.is)) room

pub all_taken_back : (p q : Operating) (whole : CarriedTree) (left : List CarriedTree) → IsTakingBack p whole q left
    → left ≡ [] → (s : State) → IsWayBack whole s p → q.state ≡ s
all_taken_back p q whole left taking empty s way =
    nothing_left s q (subst (λ xs. IsWayBack (row (parts_from xs)) s q) empty (taking.leads s way))
