-- In the middle of taking edits back.
use Rattle.std.proofs.Common.{◌≡◌, ℕ, ◌<◌, ◌≤◌, List, [], ◌∷◌, ◌++◌, length, take, drop, refl, sym, ap, subst, ◌∙◌}
use Rattle.std.proofs.Common.{arith}
use Rattle.std.proofs.lemmas.List.{drop-append-le, take-append-le, take_all, drop_all, length-append}
use Rattle.iocm_model.specs.Operation.State.{State}
use Rattle.iocm_model.specs.Change.Edit.{state_after}
use Rattle.iocm_plant.specs.Operating.{Operating}
use Rattle.iocm_plant.specs.TakingBack.{CanUnapply}
use Rattle.iocm_plant.specs.declared.touched.Applied.{Applied}
use Rattle.iocm_activate.specs.Told.{way_back, LeadsTo, CanTakeBack}
use Rattle.iocm_activate.proofs.Back.{way_back_append}

-- some of the edits since a mark are taken back: the others still lead to where all of them led
pub record IsTaking (mark : ℕ) (before : Operating) (all : List Applied) (now : Operating) (left : List Applied) : Type
    0 where
  pub can : CanTakeBack (drop mark left) now
  pub leads : (s : State) → LeadsTo (way_back (drop mark all)) s before → LeadsTo (way_back (drop mark left)) s now
  pub room : now.room ≡ before.room
  pub first : take mark left ≡ take mark all

-- at first nothing was taken back
pub begins : (mark : ℕ) (p : Operating) (all : List Applied) → CanTakeBack (drop mark all) p → IsTaking mark p all p all
begins mark p all can = record { can = can; leads = λ s h. h; room = refl; first = refl }

-- what is before the mark stays
kept_all : (mark : ℕ) (old new : List Applied) (a : Applied) → mark < length old → old ≡ new ++ a ∷ []
    → mark ≤ length new
kept_all mark old new a more is = let both = ap length is ∙ length-append new (a ∷ []) in omega (arith, more, both)

-- the last that was done since the mark
latest_is : (mark : ℕ) (old new : List Applied) (a : Applied) → mark < length old → old ≡ new ++ a ∷ []
    → way_back (drop mark old) ≡ a.inverse ∷ way_back (drop mark new)
latest_is mark old new a more is =
    ap (λ ds. way_back (drop mark ds)) is
    ∙ ap way_back (drop-append-le mark new (a ∷ []) (kept_all mark old new a more is))
    ∙ way_back_append (drop mark new) (a ∷ [])

-- it can be taken back first
latest : (mark : ℕ) (old new : List Applied) (a : Applied) (s : State) (p : Operating) → mark < length old
    → old ≡ new ++ a ∷ []
    → LeadsTo (way_back (drop mark old)) s p → LeadsTo (a.inverse ∷ way_back (drop mark new)) s p
latest mark old new a s p more is h = subst (λ js. LeadsTo js s p) (latest_is mark old new a more is) h

-- the last edit can be taken back
pub last_can : (mark : ℕ) (p q : Operating) (all old new : List Applied) (a : Applied) → IsTaking mark p all q old
    → mark < length old
    → old ≡ new ++ a ∷ []
    → CanUnapply a.inverse q
last_can mark p q all old new a taking more is = (latest mark old new a taking.can.state q more is taking.can.leads).0

-- it is taken back
pub one_taken : (mark : ℕ) (p q r : Operating) (all old new : List Applied) (a : Applied) → IsTaking mark p all q old
    → mark < length old
    → old ≡ new ++ a ∷ []
    → r.state ≡ state_after a.inverse.edit q.state → r.room ≡ q.room → IsTaking mark p all r new
one_taken mark p q r all old new a taking more is state room = record {
  can = record {
    state = taking.can.state;
    leads = (latest mark old new a taking.can.state q more is taking.can.leads).1 r state room;
  };
  leads = λ s h. (latest mark old new a s q more is (taking.leads s h)).1 r state room;
  room = room ∙ taking.room;
  first = sym (take-append-le mark new (a ∷ []) (kept_all mark old new a more is)) ∙ ap (take mark) (sym is)
      ∙ taking.first;
}

-- all are taken back
pub all_taken : (mark : ℕ) (p q : Operating) (all left : List Applied) → IsTaking mark p all q left → length left ≤ mark
    → (s : State) → LeadsTo (way_back (drop mark all)) s p → q.state ≡ s
all_taken mark p q all left taking few s h =
    subst (λ ds. LeadsTo (way_back ds) s q) (drop_all mark left few) (taking.leads s h)

-- at last what was done before the mark is left
pub first_left : (mark : ℕ) (p q : Operating) (all left : List Applied) → IsTaking mark p all q left
    → length left ≤ mark → left ≡ take mark all
first_left mark p q all left taking few = sym (take_all mark left few) ∙ taking.first
