-- Stages on a machine: an edit forth or back, steps between, and the two ends.
use Rattle.std.proofs.Common.{◌≡◌, ℕ, suc, ◌+◌, Bool, false, ◌||◌, List, [], ◌∷◌, ◌++◌, Some, length, take, drop}
use Rattle.std.proofs.Common.{reverse, refl, sym, ap, subst, append_assoc, ◌∙◌, arith}
use Rattle.std.proofs.lemmas.Bool.{or_parts}
use Rattle.std.proofs.lemmas.List.{take-append-drop, length-append, length-drop, length-map, length-reverse}
use Rattle.std.specs.FinMap.{contains_key, contains_key-keys}
use Rattle.std.specs.Vec.{vec_capacity}
use Rattle.iocm_types.specs.declared.sub_id.SubId.{SubId}
use Rattle.iocm_model.proofs.Change.Trees.{inverses_length}
use Rattle.iocm_model.specs.Operation.State.{State, HasLives, IsSound, HasConfigAndNumbersOf, is_among}
use Rattle.iocm_model.specs.Operation.Step.{Step, after_step, answer_in}
use Rattle.iocm_model.specs.Change.Edit.{Edit, state_after}
use Rattle.iocm_model.specs.Change.Effect.{Effect}
use Rattle.iocm_model.specs.Change.Inverse.{inverse_of}
use Rattle.iocm_model.specs.Change.Runs.{inverses, state_after_all, cells_written_by_all, CarryFreeNumbers}
use Rattle.iocm_model.specs.Laws.Trees.{KeepsTheRules}
use Rattle.iocm_model.specs.Rules.FirstBreach.{first_breach}
use Rattle.iocm_model.proofs.Change.RunsGoBack.{accepted_carry, all_append, stays_sound}
use Rattle.iocm_history.specs.Change.{Change, altered, cells_of_change, effect_of_change}
use Rattle.iocm_history.specs.Stage.{Stage, is_held, left_of, once_more}
use Rattle.iocm_history.proofs.OneCell.{altered_cells}
use Rattle.iocm_tree.specs.Carried.{Carried}
use Rattle.iocm_plant.specs.Operating.{Operating, KeepsRoom}
use Rattle.iocm_plant.specs.Between.{CanStillUnapply, StandsAsBefore}
use Rattle.iocm_plant.specs.TakingBack.{CanUnapply}
use Rattle.iocm_activate.specs.Effects.{effect_in}
use Rattle.iocm_activate.specs.Told.{LeadsTo}
use Rattle.iocm_stage.specs.Again.{all_again}
use Rattle.iocm_stage.specs.Along.{edits_in, StandsAlong}
use Rattle.iocm_stage.specs.Staged.{WasMade, IsReady, Tells, HasRoomBothWays, IsStageOf, IsStaged}
use Rattle.iocm_stage.specs.StageLaws.{PassesAStage, StepsElsewherePassAStage}
use Rattle.iocm_stage.specs.declared.staged.Staged.{Staged}
use Rattle.iocm_stage.proofs.Agreeing.{Agrees, agrees_first, agrees_rest, agrees_after_step, all_do_again, step_passes}
use Rattle.iocm_stage.proofs.Agreeing.{same_answer, taken_back, among_all}
use Rattle.iocm_stage.proofs.Going.{forth, back_again, free_first, free_rest, leads_elsewhere}
use Rattle.iocm_stage.proofs.Like.{like_after_all}
use Rattle.iocm_stage.proofs.Lists.{take_more, drop_more, take_no_more, drop_no_more, has_last, HasLast, reverse_last}

-- a change that is ready agrees with how it was made
pub agrees_ready : (c : Change) (s : State) → IsReady c s → Agrees c.edits c.from s
agrees_ready c s ready = record { like = ready.like; lives = λ x among. ready.lives x (altered_cells c x ∙ among) }

pub free_made : (c : Change) → WasMade c → CarryFreeNumbers c.edits c.from
free_made c made = accepted_carry c.edits c.from made.accepted

-- ---- an edit forth

again_none : (es : List Edit) (s : State) → [] ≡ all_again es s → es ≡ []
again_none [] s h = refl
again_none (e ∷ es) s h = cc

again_some : (e : Edit) (es : List Edit) → e ∷ es ≡ [] → ⊥
again_some e es h = cc

module _ (es : List Edit) (from s : State) (made : IsSound from) (free : CarryFreeNumbers es from)
    (agrees : Agrees es from s) where
  -- the edits up to a place and the rest are all
  abbrev Free : List Edit → Type 0
  Free fs = CarryFreeNumbers fs from

  abbrev Agree : List Edit → Type 0
  Agree fs = Agrees fs from s

  pub next_done : (k : ℕ) (i j : Carried) (back forward : List Carried) (p q : Operating)
      → StandsAlong (take k es) (drop k es) from s back (i ∷ forward) p
      → q.state ≡ state_after i.edit p.state → j.edit ≡ inverse_of i.edit p.state → CanUnapply j q → q.room ≡ p.room
      → StandsAlong (take (k + 1) es) (drop (k + 1) es) from s (j ∷ back) forward q
  next_done k i j back forward p q stands state inverse can room = by (drop k es) refl
    where
      by : (rest : List Edit) → drop k es ≡ rest
          → StandsAlong (take (k + 1) es) (drop (k + 1) es) from s (j ∷ back) forward q
      by [] is = absurd (again_some i.edit (edits_in forward)
          (stands.forward_edits ∙ ap (λ r. all_again r (state_after_all (take k es) from)) is))
      by (e ∷ rest) is =
          let whole : take k es ++ (e ∷ rest) ≡ es = ap (λ r. take k es ++ r) (sym is) ∙ take-append-drop k es in
          let there = forth (take k es) rest e from s made (subst Free (sym whole) free)
          (subst Agree (sym whole) agrees) i j back forward p q
          (subst (λ r. StandsAlong (take k es) r from s back (i ∷ forward) p) is stands) state inverse can room in
          subst (λ f. StandsAlong f (drop (k + 1) es) from s (j ∷ back) forward q) (sym (take_more k es e rest is))
          (subst (λ r. StandsAlong (take k es ++ (e ∷ [])) r from s (j ∷ back) forward q)
          (sym (drop_more k es e rest is)) there)

  pub none_left : (k : ℕ) (back : List Carried) (p : Operating) → StandsAlong (take k es) (drop k es) from s back [] p
      → StandsAlong (take (k + 1) es) (drop (k + 1) es) from s back [] p
  none_left k back p stands =
      let none = again_none (drop k es) (state_after_all (take k es) from) stands.forward_edits in
      subst (λ f. StandsAlong f (drop (k + 1) es) from s back [] p) (sym (take_no_more k es none))
      (subst (λ r. StandsAlong (take k es) r from s back [] p) (none ∙ sym (drop_no_more k es none)) stands)

-- ---- edits back

-- some first edits are done
pub record HasGone (es : List Edit) (from s : State) (back forward : List Carried) (p : Operating) : Type 0 where
  pub first : List Edit
  pub rest : List Edit
  pub whole : first ++ rest ≡ es
  pub stands : StandsAlong first rest from s back forward p

inverses_some : (e : Edit) (es : List Edit) (s : State) → [] ≡ inverses (e ∷ es) s → ⊥
inverses_some e es s h = none (inverses es (state_after e s)) h
  where
    none : (xs : List Edit) → [] ≡ xs ++ (inverse_of e s ∷ []) → ⊥
    none [] g = cc
    none (x ∷ xs) g = cc

inverses_none : (es : List Edit) (s : State) → [] ≡ inverses es s → es ≡ []
inverses_none [] s h = refl
inverses_none (e ∷ es) s h = absurd (inverses_some e es s h)

module _ (es : List Edit) (from s : State) (made : IsSound from) (free : CarryFreeNumbers es from)
    (agrees : Agrees es from s) where
  pub latest_taken : (i j : Carried) (back forward : List Carried) (p q : Operating)
      → HasGone es from s (i ∷ back) forward p
      → q.state ≡ state_after i.edit p.state → j.edit ≡ inverse_of i.edit p.state → CanUnapply j q → q.room ≡ p.room
      → HasGone es from s back (j ∷ forward) q
  latest_taken i j back forward p q gone state inverse can room = by gone.first refl
    where
      on : (f : List Edit) → gone.first ≡ f → HasLast f → HasGone es from s back (j ∷ forward) q
      on f is last =
          let first = is ∙ last.is in
          let whole : last.before ++ (last.last ∷ gone.rest) ≡ es =
          sym (append_assoc last.before (last.last ∷ []) gone.rest) ∙ ap (λ g. g ++ gone.rest) (sym first)
          ∙ gone.whole in
          record {
            first = last.before;
            rest = last.last ∷ gone.rest;
            whole = whole;
            stands = back_again last.before gone.rest last.last from s made
                (subst (λ g. CarryFreeNumbers g from) (sym whole) free)
                (subst (λ g. Agrees g from s) (sym whole) agrees)
                i j back forward p q (subst (λ g. StandsAlong g gone.rest from s (i ∷ back) forward p) first
                gone.stands) state inverse can room;
          }

      by : (f : List Edit) → gone.first ≡ f → HasGone es from s back (j ∷ forward) q
      by [] is = absurd (again_some i.edit (edits_in back) (gone.stands.back_edits ∙ ap (λ g. inverses g from) is))
      by (e ∷ f) is = on (e ∷ f) is (has_last e f)

  -- all are taken back
  pub all_taken : (forward : List Carried) (p : Operating) → HasGone es from s [] forward p
      → StandsAlong [] es from s [] forward p
  all_taken forward p gone =
      let none = inverses_none gone.first from gone.stands.back_edits in
      subst (λ r. StandsAlong [] r from s [] forward p) (ap (λ f. f ++ gone.rest) (sym none) ∙ gone.whole)
      (subst (λ f. StandsAlong f gone.rest from s [] forward p) none gone.stands)

-- ---- a whole stage

-- an edit went from one side to the other
pub room_on : (g h : Staged) (i j : Carried) → HasRoomBothWays g → g.forward.items ≡ h.forward.items ++ i ∷ []
    → h.back.items ≡ g.back.items ++ j ∷ []
    → vec_capacity h.forward ≡ vec_capacity g.forward → vec_capacity h.back ≡ vec_capacity g.back → HasRoomBothWays h
room_on g h i j room out put forward back =
    let o = ap length out ∙ length-append h.forward.items (i ∷ []) in let n =
    ap length put ∙ length-append g.back.items (j ∷ []) in
    let r = room.back in let f = room.forward in
    record { back = omega (arith, o, n, r, back); forward = omega (arith, o, n, f, forward) }

pub room_back : (g h : Staged) (i j : Carried) → HasRoomBothWays g → g.back.items ≡ h.back.items ++ i ∷ []
    → h.forward.items ≡ g.forward.items ++ j ∷ []
    → vec_capacity h.forward ≡ vec_capacity g.forward → vec_capacity h.back ≡ vec_capacity g.back → HasRoomBothWays h
room_back g h i j room out put forward back =
    let o = ap length out ∙ length-append h.back.items (i ∷ []) in let n =
    ap length put ∙ length-append g.forward.items (j ∷ []) in
    let r = room.back in let f = room.forward in
    record { back = omega (arith, o, n, r, back); forward = omega (arith, o, n, f, forward) }

pub advanced : (g h : Staged) (i j : Carried) (p q : Operating) → g.forward.items ≡ h.forward.items ++ i ∷ []
    → h.back.items ≡ g.back.items ++ j ∷ []
    → vec_capacity h.forward ≡ vec_capacity g.forward → vec_capacity h.back ≡ vec_capacity g.back → h.done ≡ g.done
    → q.state ≡ state_after i.edit p.state → j.edit ≡ inverse_of i.edit p.state → CanUnapply j q → q.room ≡ p.room
    → (t : Stage) (s : State) → IsStageOf g t s p → IsStageOf h (once_more t) s q
advanced g h i j p q out put forward back done state inverse can room t s stage = record {
  ready = stage.ready;
  tells = subst (λ d. Tells d t.change) (sym done) stage.tells;
  along = subst (λ is. StandsAlong (take (t.advances + 1) t.change.edits) (drop (t.advances + 1) t.change.edits)
      t.change.from s is (reverse h.forward.items) q)
      (sym (ap reverse put ∙ reverse_last g.back.items j))
      (next_done t.change.edits t.change.from s stage.ready.made.used.sound (free_made t.change stage.ready.made)
      (agrees_ready t.change s stage.ready)
      t.advances i j (reverse g.back.items) (reverse h.forward.items) p q
      (subst (λ is. StandsAlong (take t.advances t.change.edits) (drop t.advances t.change.edits) t.change.from s
      (reverse g.back.items) is p)
      (ap reverse out ∙ reverse_last h.forward.items i) stage.along) state inverse can room);
  room = room_on g h i j stage.room out put forward back;
}

-- where none is left, a stage may be said to be advanced
pub not_advanced : (g h : Staged) (p : Operating) → g.forward.items ≡ [] → h.forward.items ≡ []
    → h.back.items ≡ g.back.items
    → vec_capacity h.forward ≡ vec_capacity g.forward → vec_capacity h.back ≡ vec_capacity g.back → h.done ≡ g.done
    → (t : Stage) (s : State) → IsStageOf g t s p → IsStageOf h (once_more t) s p
not_advanced g h p empty still items forward back done t s stage = record {
  ready = stage.ready;
  tells = subst (λ d. Tells d t.change) (sym done) stage.tells;
  along = subst (λ is. StandsAlong (take (t.advances + 1) t.change.edits) (drop (t.advances + 1) t.change.edits)
      t.change.from s (reverse is) (reverse h.forward.items) p)
      (sym items)
      (subst (λ is. StandsAlong (take (t.advances + 1) t.change.edits) (drop (t.advances + 1) t.change.edits)
      t.change.from s (reverse g.back.items) (reverse is) p) (sym still)
      (none_left t.change.edits t.change.from s stage.ready.made.used.sound (free_made t.change stage.ready.made)
      (agrees_ready t.change s stage.ready)
      t.advances (reverse g.back.items) p
      (subst (λ is. StandsAlong (take t.advances t.change.edits) (drop t.advances t.change.edits) t.change.from s
      (reverse g.back.items) (reverse is) p) empty stage.along)));
  room = let e = ap length empty in let z = ap length still in let l = ap length items in let r = stage.room.back in
      let f = stage.room.forward in
      record { back = omega (arith, e, z, l, r, back); forward = omega (arith, e, z, l, f, forward) };
}

-- how many were advanced
pub how_many_back : (g : Staged) (t : Stage) (s : State) (p : Operating) → IsStageOf g t s p
    → length g.back.items ≡ length (take t.advances t.change.edits)
how_many_back g t s p stage =
    sym (length-reverse g.back.items) ∙ sym (length-map (reverse g.back.items) (λ (i : Carried). i.edit))
    ∙ ap length stage.along.back_edits
    ∙ inverses_length (take t.advances t.change.edits) t.change.from

-- how many are left
pub how_many : (g : Staged) (t : Stage) (s : State) (p : Operating) → IsStageOf g t s p
    → length g.forward.items ≡ left_of t
how_many g t s p stage =
    sym (length-reverse g.forward.items) ∙ sym (length-map (reverse g.forward.items) (λ (i : Carried). i.edit))
    ∙ ap length stage.along.forward_edits
    ∙ all_long (drop t.advances t.change.edits) (state_after_all (take t.advances t.change.edits) t.change.from)
    ∙ length-drop t.advances t.change.edits
  where
    all_long : (es : List Edit) (u : State) → length (all_again es u) ≡ length es
    all_long [] u = refl
    all_long (e ∷ es) u = ap suc (all_long es (state_after e u))

-- what is held
pub is_held_by : (g : Staged) (t : Stage) (s : State) (p : Operating) (x : SubId) → IsStageOf g t s p
    → contains_key (effect_in g.done.effect).lives x ≡ is_held x (Some t)
is_held_by g t s p x stage =
    ap (λ (f : Effect). contains_key f.lives x) stage.tells.effect
    ∙ contains_key-keys (effect_of_change t.change).lives x

-- ---- all edits back

-- some edits of a stage are taken back
pub record IsGoingBack (before : Staged) (at : Operating) (now : Staged) (here : Operating) : Type 0 where
  pub gone : (t : Stage) (s : State) → IsStageOf before t s at
      → HasGone t.change.edits t.change.from s (reverse now.back.items) (reverse now.forward.items) here
  pub can : (t : Stage) (s : State) → IsStageOf before t s at → IsReady t.change s
  pub done : now.done ≡ before.done
  pub same_room : here.room ≡ at.room
  pub room : HasRoomBothWays now
  pub staged : IsStaged before at

pub one_back : (before : Staged) (at : Operating) (g h : Staged) (i j : Carried) (p q : Operating)
    → IsGoingBack before at g p
    → g.back.items ≡ h.back.items ++ i ∷ [] → h.forward.items ≡ g.forward.items ++ j ∷ []
    → vec_capacity h.forward ≡ vec_capacity g.forward → vec_capacity h.back ≡ vec_capacity g.back → h.done ≡ g.done
    → q.state ≡ state_after i.edit p.state → j.edit ≡ inverse_of i.edit p.state → CanUnapply j q → q.room ≡ p.room
    → IsGoingBack before at h q
one_back before at g h i j p q going out put forward back done state inverse can room = record {
  gone = λ t s stage.
      let ready = going.can t s stage in
      subst (λ is. HasGone t.change.edits t.change.from s (reverse h.back.items) is q)
      (sym (ap reverse put ∙ reverse_last g.forward.items j))
      (latest_taken t.change.edits t.change.from s ready.made.used.sound (free_made t.change ready.made)
      (agrees_ready t.change s ready)
      i j (reverse h.back.items) (reverse g.forward.items) p q
      (subst (λ is. HasGone t.change.edits t.change.from s is (reverse g.forward.items) p)
      (ap reverse out ∙ reverse_last h.back.items i) (going.gone t s stage))
      state inverse can room);
  can = going.can;
  done = done ∙ going.done;
  same_room = room ∙ going.same_room;
  room = room_back g h i j going.room out put forward back;
  staged = going.staged;
}

-- all are
pub gone_back : (before : Staged) (at : Operating) (g h : Staged) (p : Operating) → IsGoingBack before at g p
    → g.back.items ≡ [] → h.back.items ≡ []
    → h.forward.items ≡ g.forward.items → vec_capacity h.forward ≡ vec_capacity g.forward
    → vec_capacity h.back ≡ vec_capacity g.back → h.done ≡ g.done
    → (t : Stage) (s : State) → IsStageOf before t s at → IsStageOf h (record { change = t.change; advances = 0 }) s p
gone_back before at g h p going empty still items forward back done t s stage =
    let ready = going.can t s stage in record {
      ready = ready;
      tells = subst (λ d. Tells d t.change) (sym (done ∙ going.done)) stage.tells;
      along = subst (λ is. StandsAlong [] t.change.edits t.change.from s (reverse is) (reverse h.forward.items) p)
          (sym still)
          (subst (λ is. StandsAlong [] t.change.edits t.change.from s [] (reverse is) p) (sym items)
          (all_taken t.change.edits t.change.from s ready.made.used.sound (free_made t.change ready.made)
          (agrees_ready t.change s ready) (reverse g.forward.items) p
          (subst (λ is. HasGone t.change.edits t.change.from s (reverse is) (reverse g.forward.items) p) empty
          (going.gone t s stage))));
      room = let e = ap length empty in let z = ap length still in let l = ap length items in let r = going.room.back in
          let f = going.room.forward in
          record { back = omega (arith, e, z, l, r, back); forward = omega (arith, e, z, l, f, forward) };
    }

-- ---- the two ends

all_along : (es : List Edit) (k : ℕ) (s : State)
    → state_after_all (drop k es) (state_after_all (take k es) s) ≡ state_after_all es s
all_along es k s = sym (all_append (take k es) (drop k es) s) ∙ ap (λ fs. state_after_all fs s) (take-append-drop k es)

pub end_reached : (g : Staged) (t : Stage) (s : State) (p : Operating) (u : State) → IsStageOf g t s p
    → u ≡ state_after_all (drop t.advances t.change.edits) (state_after_all (take t.advances t.change.edits) s)
    → u ≡ state_after_all t.change.edits s
end_reached g t s p u stage is = is ∙ all_along t.change.edits t.advances s

rules_like : (u s : State) → HasConfigAndNumbersOf u s → KeepsTheRules s → KeepsTheRules u
rules_like u s like kept = (λ i. first_breach (like.config i) (like.numbers i)) ∙ kept

pub kept_at_end : (c : Change) (s : State) → IsReady c s → KeepsTheRules (state_after_all c.edits s)
kept_at_end c s ready = rules_like _ _ (like_after_all c.edits s c.from ready.like) ready.made.rules

pub kept_at_start : (c : Change) (s : State) → IsReady c s → KeepsTheRules s
kept_at_start c s ready = rules_like s c.from ready.like ready.made.used.rules

-- ---- steps

module _ (still : CanStillUnapply) (g : Staged) (t : Stage) (s : State) (x : SubId) (step : Step) (p q : Operating)
    (stage : IsStageOf g t s p) (off : is_among x (altered t.change) ≡ false)
    (state : q.state ≡ after_step x step p.state) (room : KeepsRoom p.room q.room) where
  abbrev c : Change
  c = t.change

  abbrev first : List Edit
  first = take t.advances c.edits

  abbrev rest : List Edit
  rest = drop t.advances c.edits

  off_cells : is_among x (cells_of_change c).subchannels ≡ false
  off_cells = sym (altered_cells c x) ∙ off

  free : CarryFreeNumbers (first ++ rest) c.from
  free = subst (λ fs. CarryFreeNumbers fs c.from) (sym (take-append-drop t.advances c.edits))
      (free_made c stage.ready.made)

  agrees : Agrees (first ++ rest) c.from s
  agrees = subst (λ fs. Agrees fs c.from s) (sym (take-append-drop t.advances c.edits)) (agrees_ready c s stage.ready)

  off_first : is_among x (cells_written_by_all first c.from).subchannels ≡ false
  off_first = not_first _ _
      (sym (among_all first rest c.from x)
      ∙ ap (λ fs. is_among x (cells_written_by_all fs c.from).subchannels) (take-append-drop t.advances c.edits)
      ∙ off_cells)
    where
      not_first : (a b : Bool) → (a || b) ≡ false → a ≡ false
      not_first a b h = (or_parts _ _ h).0

  ready_then : IsReady c (after_step x step s)
  ready_then =
      let then = agrees_after_step c.edits c.from s (agrees_ready c s stage.ready) x step off_cells
      stage.ready.made.used.sound in
      record {
        made = stage.ready.made;
        like = then.like;
        lives = λ y among. then.lives y (sym (altered_cells c y) ∙ among);
      }

  agrees_then : Agrees (first ++ rest) c.from (after_step x step s)
  agrees_then = subst (λ fs. Agrees fs c.from (after_step x step s)) (sym (take-append-drop t.advances c.edits))
      (agrees_ready c (after_step x step s) ready_then)

  sound : IsSound c.from
  sound = stage.ready.made.used.sound

  free_now : CarryFreeNumbers first c.from
  free_now = free_first first rest c.from free

  here : q.state ≡ state_after_all first (after_step x step s)
  here = state ∙ ap (after_step x step) stage.along.state
      ∙ step_passes first c.from s (agrees_first first rest c.from s agrees) x step off_first sound free_now

  stands : StandsAsBefore p q
  stands = record {
    state = record {
      config = ap (λ (u : State). u.config) state;
      numbers = ap (λ (u : State). u.numbers) state;
      lived = subst HasLives (sym here) (like_after_all first (after_step x step s) c.from ready_then.like).lived;
    };
    room = room;
  }

  pub passes : PassesAStage g t s x step p q
  passes = record {
    stage = record {
      ready = ready_then;
      tells = stage.tells;
      along = record {
        state = here;
        back_edits = stage.along.back_edits;
        forward_edits = stage.along.forward_edits;
        back = subst (λ u. LeadsTo (reverse g.back.items) u q)
            ((λ i. state_after_all (stage.along.back_edits i) (here i))
            ∙ taken_back first c.from (after_step x step s)
            (agrees_first first rest c.from (after_step x step s) agrees_then) sound free_now)
            (leads_elsewhere still (reverse g.back.items) s p q stage.along.back stands);
        forward = subst (λ u. LeadsTo (reverse g.forward.items) u q)
            ((λ i. state_after_all (stage.along.forward_edits i) (here i))
            ∙ all_do_again rest (state_after_all first c.from) (state_after_all first (after_step x step s))
            (agrees_rest first rest c.from (after_step x step s) agrees_then)
            (stays_sound first c.from sound free_now) (free_rest first rest c.from free))
            (leads_elsewhere still (reverse g.forward.items) _ p q stage.along.forward stands);
      };
      room = stage.room;
    };
    answer = ap (λ u. answer_in u x step) stage.along.state
        ∙ same_answer first c.from s (agrees_first first rest c.from s agrees) x step off_first sound free_now;
  }

pub steps_elsewhere_pass_a_stage : CanStillUnapply → StepsElsewherePassAStage
steps_elsewhere_pass_a_stage still g t s x step p q stage off state room =
    passes still g t s x step p q stage off state room
