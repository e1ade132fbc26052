-- Going forth and back along edits that were performed, taken back, and are done again.
use Rattle.std.proofs.Common.{◌≡◌, true, List, [], ◌∷◌, ◌++◌, refl, sym, ap, subst, ◌∙◌}
use Rattle.std.specs.FinMap.{get}
use Rattle.iocm_types.specs.declared.sub_id.SubId.{SubId}
use Rattle.iocm_model.specs.Operation.State.{State, IsSound, HasConfigAndNumbersOf, is_among}
use Rattle.iocm_model.specs.Change.Edit.{Edit, state_after, altered_by}
use Rattle.iocm_model.specs.Change.Inverse.{inverse_of}
use Rattle.iocm_model.specs.Change.Runs.{inverses, state_after_all, CarryFreeNumbers}
use Rattle.iocm_model.proofs.Change.RunsGoBack.{all_append, stays_sound}
use Rattle.iocm_tree.specs.Carried.{Carried}
use Rattle.iocm_plant.specs.Operating.{Operating, KeepsRoom}
use Rattle.iocm_plant.specs.Between.{CanStillUnapply, StandsAsBefore}
use Rattle.iocm_plant.specs.TakingBack.{CanUnapply}
use Rattle.iocm_activate.specs.Told.{LeadsTo}
use Rattle.iocm_stage.specs.Again.{again, all_again}
use Rattle.iocm_stage.specs.Along.{edits_in, StandsAlong}
use Rattle.iocm_stage.proofs.Again.{does_again, taken_back_alike, again_alike}
use Rattle.iocm_stage.proofs.Agreeing.{Agrees, agrees_first, agrees_one, agrees_rest, taken_back}
use Rattle.iocm_stage.proofs.Like.{like_after, live_like}
use Rattle.iocm_stage.proofs.Lists.{same_head, same_tail}

-- ---- where edits lead

-- they lead on where a machine stands as before
pub leads_elsewhere : CanStillUnapply → (is : List Carried) (s : State) (p q : Operating) → LeadsTo is s p
    → StandsAsBefore p q → LeadsTo is (state_after_all (edits_in is) q.state) q
leads_elsewhere still [] s p q leads stands = refl
leads_elsewhere still (i ∷ is) s p q leads stands = (
  still i p q leads.0 stands,
  λ t after places.
      let then : Operating = record { state = state_after i.edit p.state; room = p.room } in
      subst (λ u. LeadsTo is (state_after_all (edits_in is) u) t) after
      (leads_elsewhere still is s then t (leads.1 then refl refl) (record {
        state = subst (λ u. HasConfigAndNumbersOf u (state_after i.edit p.state)) (sym after)
            (like_after i.edit q.state p.state stands.state);
        room = subst (KeepsRoom p.room) (sym places) stands.room;
      })),
)

-- one more in front, that leads to where the others begin
pub leads_in_front : (j : Carried) (is : List Carried) (s : State) (p q : Operating) → CanUnapply j q
    → state_after j.edit q.state ≡ p.state → q.room ≡ p.room
    → LeadsTo is s p → LeadsTo (j ∷ is) s q
leads_in_front j is s p q can goes room leads = (
  can,
  λ t after places. subst (λ (u : Operating). LeadsTo is s u)
      (λ k. record { state = sym (after ∙ goes) k; room = sym (places ∙ room) k }) leads,
)

-- ---- runs with one more edit at the end

pub inverses_last : (es : List Edit) (e : Edit) (s : State)
    → inverses (es ++ (e ∷ [])) s ≡ inverse_of e (state_after_all es s) ∷ inverses es s
inverses_last [] e s = refl
inverses_last (f ∷ fs) e s = ap (λ is. is ++ (inverse_of f s ∷ [])) (inverses_last fs e (state_after f s))

pub free_first : (es fs : List Edit) (s : State) → CarryFreeNumbers (es ++ fs) s → CarryFreeNumbers es s
free_first [] fs s free = tt
free_first (e ∷ es) fs s free = (free.0, free_first es fs (state_after e s) free.1)

pub free_rest : (es fs : List Edit) (s : State) → CarryFreeNumbers (es ++ fs) s
    → CarryFreeNumbers fs (state_after_all es s)
free_rest [] fs s free = free
free_rest (e ∷ es) fs s free = free_rest es fs (state_after e s) free.1

-- ---- one edit forth or back

module _ (first rest : List Edit) (e : Edit) (from s : State) (sound : IsSound from)
    (free : CarryFreeNumbers (first ++ (e ∷ rest)) from)
    (agrees : Agrees (first ++ (e ∷ rest)) from s) where
  -- where the edit was performed, and where it is done again
  abbrev then : State
  then = state_after_all first from

  abbrev now : State
  now = state_after_all first s

  sound_then : IsSound then
  sound_then = stays_sound first from sound (free_first first (e ∷ rest) from free)

  free_then : CarryFreeNumbers (e ∷ rest) then
  free_then = free_rest first (e ∷ rest) from free

  agrees_now : Agrees (e ∷ rest) then now
  agrees_now = agrees_rest first (e ∷ rest) from s agrees

  same_now : (x : SubId) → is_among x (altered_by e then) ≡ true → get now.lives x ≡ get then.lives x
  same_now = agrees_one e rest then now agrees_now

  again_there : state_after (again e then) now ≡ state_after e now
  again_there = does_again e then sound_then free_then.0 now agrees_now.like same_now

  back_there : state_after (inverse_of e then) (state_after e now) ≡ now
  back_there = taken_back (e ∷ [])
      then now (agrees_first (e ∷ []) rest then now agrees_now) sound_then (free_then.0, tt)

  one_more : (u : State) → state_after_all (first ++ (e ∷ [])) u ≡ state_after e (state_after_all first u)
  one_more u = all_append first (e ∷ []) u

  -- the next edit is done again
  pub forth : (i j : Carried) (back forward : List Carried) (p q : Operating)
      → StandsAlong first (e ∷ rest) from s back (i ∷ forward) p
      → q.state ≡ state_after i.edit p.state → j.edit ≡ inverse_of i.edit p.state → CanUnapply j q → q.room ≡ p.room
      → StandsAlong (first ++ (e ∷ [])) rest from s (j ∷ back) forward q
  forth i j back forward p q stands state inverse can room =
      let is : i.edit ≡ again e then = same_head _ _ _ _ stands.forward_edits in
      let done : q.state ≡ state_after e now = state ∙ (λ k. state_after (is k) (stands.state k)) ∙ again_there in
      let taking : j.edit ≡ inverse_of e then =
      inverse ∙ (λ k. inverse_of (is k) (stands.state k))
      ∙ taken_back_alike e then sound_then free_then.0 now agrees_now.like same_now in
      record {
        state = done ∙ sym (one_more s);
        back_edits = (λ k. taking k ∷ stands.back_edits k) ∙ sym (inverses_last first e from);
        forward_edits = same_tail _ _ _ _ stands.forward_edits ∙ ap (all_again rest) (sym (one_more from));
        back = leads_in_front j back s p q can ((λ k. state_after (taking k) (done k)) ∙ back_there ∙ sym stands.state)
            room
            stands.back;
        forward = subst (λ u. LeadsTo forward (state_after_all rest u) q) (sym (one_more s))
            (stands.forward.1 q state room);
      }

  -- the latest edit is taken back
  pub back_again : (i j : Carried) (back forward : List Carried) (p q : Operating)
      → StandsAlong (first ++ (e ∷ [])) rest from s (i ∷ back) forward p
      → q.state ≡ state_after i.edit p.state → j.edit ≡ inverse_of i.edit p.state → CanUnapply j q → q.room ≡ p.room
      → StandsAlong first (e ∷ rest) from s back (j ∷ forward) q
  back_again i j back forward p q stands state inverse can room =
      let edits = stands.back_edits ∙ inverses_last first e from in
      let is : i.edit ≡ inverse_of e then = same_head _ _ _ _ edits in
      let here : p.state ≡ state_after e now = stands.state ∙ one_more s in
      let done : q.state ≡ now = state ∙ (λ k. state_after (is k) (here k)) ∙ back_there in
      let doing : j.edit ≡ again e then = inverse ∙ (λ k. inverse_of (is k) (here k))
      ∙ again_alike e then sound_then free_then.0 (state_after e now) (like_after e now then agrees_now.like)
      (λ x among. live_like e now then x agrees_now.like (same_now x among)) in
      record {
        state = done;
        back_edits = same_tail _ _ _ _ edits;
        forward_edits = λ k. doing k ∷ (stands.forward_edits ∙ ap (all_again rest) (one_more from)) k;
        back = stands.back.1 q state room;
        forward = leads_in_front j forward (state_after_all rest (state_after e now)) p q can
            ((λ k. state_after (doing k) (done k)) ∙ again_there ∙ sym here) room
            (subst (λ u. LeadsTo forward (state_after_all rest u) p) (one_more s) stands.forward);
      }
