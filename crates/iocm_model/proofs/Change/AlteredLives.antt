-- The live records that altered subchannels have after an edit.
use Rattle.std.proofs.Common.{◌≡◌, ◌≢◌, Bool, true, false, cond, not, Option, Some, None, refl, sym, ap, ◌∙◌}
use Rattle.std.specs.Option.{option_eq}
use Rattle.std.specs.Cmp.Lexicographic.{pointwise, same_text}
use Rattle.std.specs.Prelude.{nat_eq}
use Rattle.std.specs.FinMap.{get}
use Rattle.std.proofs.lemmas.Cmp.{nat_list_eq_equiv}
use Rattle.iocm_types.specs.declared.live.Live.{Live}
use Rattle.iocm_types.specs.declared.view.View.{View}
use Rattle.iocm_model.specs.Operation.State.{views_in, seen_in}
use Rattle.iocm_model.specs.Change.Edit.{same_view, own_live, state_after}
use Rattle.iocm_model.specs.Laws.Edits.{AlteredHaveTheirLives}
use Rattle.iocm_model.proofs.Change.Lives.{left_at, lives_after_edit_at}
use Rattle.iocm_model.proofs.Change.EditsGoBack.{among_altered}

-- what comes along is what is left
left_carried : (v : Option View) (new : View) (l : Live) (own : Option Live) → option_eq same_view v (Some new) ≡ false
    → left_at v (Some new) (Some l) own ≡ Some l
left_carried v new l own other = rw other refl

-- an own live record stays as it was where the path list does
own_same : (old new : View) (l : Live) → old.paths ≡ new.paths → own_live old new l ≡ l
own_same old new l same =
    let is : pointwise nat_eq old.paths new.paths ≡ true =
    ap (pointwise nat_eq old.paths) (sym same) ∙ nat_list_eq_equiv.refl old.paths in rw is refl

own_other : (b : Bool) (old new : View) (l : Live) → pointwise nat_eq old.paths new.paths ≡ b → old.paths ≢ new.paths
    → cond b l (record l { lpm = new.pim }) ≡ record l { lpm = new.pim }
own_other true old new l is other = absurd (other (same_text old.paths new.paths (sym is)))
own_other false old new l is other = refl

-- an own live record is left where nothing comes along
left_own : (old new : View) (l : Live) → same_view old new ≡ false
    → left_at (Some old) (Some new) None (Some l) ≡ Some (own_live old new l)
left_own old new l other = rw other refl

not_true : (b : Bool) → not b ≡ true → b ≡ false
not_true true h = sym h
not_true false h = refl

pub altered_have_their_lives : AlteredHaveTheirLives
altered_have_their_lives e s x among =
    let t = state_after e s in
    let is : get t.lives x ≡ left_at (seen_in s x) (seen_in t x) (get e.lives x) (get s.lives x)
    = lives_after_edit_at (views_in s) (views_in t) e.lives s.lives x in
    let other : option_eq same_view (seen_in s x) (seen_in t x) ≡ false =
    not_true _ (sym (among_altered s t x) ∙ among) in record {
      gone = λ none. is ∙ ap (λ w. left_at (seen_in s x) w (get e.lives x) (get s.lives x)) none;
      carried = λ new l seen here. is ∙ (λ i. left_at (seen_in s x) (seen i) (here i) (get s.lives x))
          ∙ left_carried (seen_in s x) new l (get s.lives x)
          (ap (option_eq same_view (seen_in s x)) (sym seen) ∙ other);
      fresh = λ new none seen without. is ∙ (λ i. left_at (none i) (seen i) (without i) (get s.lives x));
      same_paths = λ old new l was seen same without own. is ∙ (λ i. left_at (was i) (seen i) (without i) (own i))
          ∙ left_own old new l (sym (λ i. option_eq same_view (was i) (seen i)) ∙ other)
          ∙ ap Some (own_same old new l same);
      other_paths = λ old new l was seen differ without own. is ∙ (λ i. left_at (was i) (seen i) (without i) (own i))
          ∙ left_own old new l (sym (λ i. option_eq same_view (was i) (seen i)) ∙ other)
          ∙ ap Some (own_other _ old new l refl differ);
    }
