-- The live records after an edit, at one subchannel.
use Rattle.std.proofs.Common.{◌≡◌, Bool, true, false, cond, not, Option, Some, None, refl, sym, ap, ◌∙◌}
use Rattle.std.specs.Option.{option_eq, option_and_then, is_some}
use Rattle.std.specs.FinMap.{get}
use Rattle.iocm_types.specs.declared.live.Live.{Live}
use Rattle.iocm_types.specs.declared.sub_id.SubId.{SubId}
use Rattle.iocm_types.specs.declared.view.View.{View}
use Rattle.iocm_types.specs.KeyOrder.{sub_ids_total, sub_ids_exact}
use Rattle.iocm_types.proofs.Tests.{absent}
use Rattle.iocm_model.specs.Operation.State.{Lives, Views}
use Rattle.iocm_model.specs.Change.Edit.{same_view, live_of_altered, live_after_edit, lives_after_edit}
use Rattle.iocm_model.proofs.Maps.Cells.{get_each}
use Rattle.iocm_model.proofs.Change.SameViews.{sight_turned}

-- what an edit leaves at a subchannel of which this was seen, and this is seen afterwards
abbrev pub left_at : Option View → Option View → Option Live → Option Live → Option Live
left_at v w k l = option_and_then (λ (z : View). live_after_edit v z k l) w

pub lives_after_edit_at : (old new : Views) (carried lives : Lives) (x : SubId)
    → get (lives_after_edit old new carried lives) x ≡ left_at (get old x) (get new x) (get carried x) (get lives x)
lives_after_edit_at old new carried lives x =
    get_each sub_ids_total sub_ids_exact
    (λ (y : SubId) (w : View). live_after_edit (get old y) w (get carried y) (get lives y)) new x

-- where the same is seen, the record stays
pub same_keeps : (v w : Option View) (k l : Option Live) → option_eq same_view v w ≡ true → is_some l ≡ is_some v
    → left_at v w k l ≡ l
same_keeps None None k l same there = sym (absent l there)
same_keeps None (Some b) k l same there = cc
same_keeps (Some a) None k l same there = cc
same_keeps (Some a) (Some b) k l same there = rw same refl

some_by : (b : Bool) (l : Option Live) (other : Live) → is_some l ≡ true → is_some (cond b l (Some other)) ≡ true
some_by true l other h = h
some_by false l other h = refl

-- there is a record exactly where something is seen
pub left_there : (v w : Option View) (k l : Option Live) → is_some l ≡ is_some v → is_some (left_at v w k l) ≡ is_some w
left_there v None k l there = refl
left_there None (Some b) k l there = refl
left_there (Some a) (Some b) k l there = some_by (same_view a b) l (live_of_altered (Some a) b k l) there

back_by : (b : Bool) (a c : View) (k ul : Option Live) → same_view c a ≡ b → (b ≡ false → is_some k ≡ true)
    → left_at (Some c) (Some a) k ul ≡ cond (not b) k ul
back_by true a c k ul same kept = rw same refl
back_by false a c None ul other kept = absurd (nothing (kept refl))
  where
    nothing : false ≡ true → ⊥
    nothing e = cc
back_by false a c (Some y) ul other kept = rw other refl

-- there and back: where something else was seen in between, the record that is kept, and else the
-- one that is there
pub left_back : (v w : Option View) (k l ul : Option Live) → is_some l ≡ is_some v → is_some ul ≡ is_some w
    → is_some k ≡ is_some (cond (not (option_eq same_view v w)) l None)
    → left_at w v k ul ≡ cond (not (option_eq same_view v w)) k ul
left_back None None k l ul there here kept = sym (absent ul here)
left_back None (Some c) k l ul there here kept = sym (absent k (kept ∙ there))
left_back (Some a) None None l ul there here kept = absurd (nothing (kept ∙ there))
  where
    nothing : false ≡ true → ⊥
    nothing e = cc
left_back (Some a) None (Some y) l ul there here kept = refl
left_back (Some a) (Some c) k l ul there here kept =
    back_by (same_view c a) a c k ul refl
    (λ other. kept ∙ ap (λ b. is_some (cond (not b) l None)) (sight_turned (Some a) (Some c) ∙ other) ∙ there)
    ∙ ap (λ b. cond (not b) k ul) (sight_turned (Some c) (Some a))
