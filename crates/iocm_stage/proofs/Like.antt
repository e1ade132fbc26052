-- Edits on a state that has the configuration and the numbers of another: they alter the same, and
-- leave the same live record where it was the same.
use Rattle.std.proofs.Common.{◌≡◌, Bool, true, false, cond, not, List, [], ◌∷◌, ◌++◌, Option, None, refl, sym, ap, ◌∙◌}
use Rattle.std.specs.Option.{option_eq}
use Rattle.std.specs.FinMap.{get, same_map}
use Rattle.iocm_types.specs.declared.live.Live.{Live}
use Rattle.iocm_types.specs.declared.sub_id.SubId.{SubId}
use Rattle.iocm_types.specs.KeyOrder.{sub_ids_total, sub_ids_exact}
use Rattle.iocm_model.specs.Change.Maps.{differing}
use Rattle.iocm_model.specs.Change.Renumbering.{numbers_after}
use Rattle.iocm_model.specs.Operation.State.{State, HasConfigAndNumbersOf, is_among, views_of, views_in, seen_in}
use Rattle.iocm_model.specs.Change.Edit.{Edit, action_key, record_after, config_after, same_view, state_after}
use Rattle.iocm_model.specs.Change.Edit.{altered_by, is_altered}
use Rattle.iocm_model.specs.Change.Inverse.{action_back, freed_numbers, inverse_of}
use Rattle.iocm_model.specs.Change.Runs.{state_after_all, cells_written_by_all}
use Rattle.iocm_model.proofs.Maps.Cells.{get_retained}
use Rattle.iocm_model.proofs.Change.EditsGoBack.{among_altered, lived_after}
use Rattle.iocm_model.proofs.Change.Lives.{left_at, lives_after_edit_at}

pub like_after : (e : Edit) (u s : State) → HasConfigAndNumbersOf u s
    → HasConfigAndNumbersOf (state_after e u) (state_after e s)
like_after e u s like = record {
  config = ap (config_after e.action) like.config;
  numbers = λ i. numbers_after (config_after e.action (like.config i)) e.places (like.numbers i);
  lived = lived_after e u like.lived;
}

pub like_after_all : (es : List Edit) (u s : State) → HasConfigAndNumbersOf u s
    → HasConfigAndNumbersOf (state_after_all es u) (state_after_all es s)
like_after_all [] u s like = like
like_after_all (e ∷ es) u s like = like_after_all es (state_after e u) (state_after e s) (like_after e u s like)

-- they see the same
pub sees_like : (u s : State) (x : SubId) → HasConfigAndNumbersOf u s → seen_in u x ≡ seen_in s x
sees_like u s x like = λ i. get (views_of (like.config i) (like.numbers i)) x

-- edits alter the same
pub altered_like : (e : Edit) (u s : State) → HasConfigAndNumbersOf u s → altered_by e u ≡ altered_by e s
altered_like e u s like =
    let after = like_after e u s like in
    λ i. differing same_view (views_of (like.config i) (like.numbers i)) (views_of (after.config i) (after.numbers i))

pub cells_like : (es : List Edit) (u s : State) → HasConfigAndNumbersOf u s
    → (cells_written_by_all es u).subchannels ≡ (cells_written_by_all es s).subchannels
cells_like [] u s like = refl
cells_like (e ∷ es) u s like =
    λ i. altered_like e u s like i ++ cells_like es (state_after e u) (state_after e s) (like_after e u s like) i

-- and leave the same live record where it was the same
pub live_like : (e : Edit) (u s : State) (x : SubId) → HasConfigAndNumbersOf u s → get u.lives x ≡ get s.lives x
    → get (state_after e u).lives x ≡ get (state_after e s).lives x
live_like e u s x like same =
    lives_after_edit_at (views_in u) (views_in (state_after e u)) e.lives u.lives x
    ∙ (λ i. left_at (sees_like u s x like i) (sees_like (state_after e u) (state_after e s) x (like_after e u s like) i)
    (get e.lives x) (same i))
    ∙ sym (lives_after_edit_at (views_in s) (views_in (state_after e s)) e.lives s.lives x)

pub lives_like : (es : List Edit) (u s : State) (x : SubId) → HasConfigAndNumbersOf u s → get u.lives x ≡ get s.lives x
    → get (state_after_all es u).lives x ≡ get (state_after_all es s).lives x
lives_like [] u s x like same = same
lives_like (e ∷ es) u s x like same =
    lives_like es (state_after e u) (state_after e s) x (like_after e u s like) (live_like e u s x like same)

-- and have the same inverse, where the live records are the same that they alter
retained : (b : Bool) (x y : Option Live) → (b ≡ true → x ≡ y) → cond b x None ≡ cond b y None
retained true x y same = same refl
retained false x y same = refl

pub inverse_like : (e : Edit) (u s : State) → HasConfigAndNumbersOf u s
    → ((x : SubId) → is_among x (altered_by e s) ≡ true → get u.lives x ≡ get s.lives x)
    → inverse_of e u ≡ inverse_of e s
inverse_like e u s like same =
    let after = like_after e u s like in
    let lives = same_map sub_ids_total sub_ids_exact (inverse_of e u).lives (inverse_of e s).lives (λ x.
    get_retained sub_ids_total sub_ids_exact u.lives (is_altered u (state_after e u)) x
    ∙ (λ i. cond (not (option_eq same_view (sees_like u s x like i)
    (sees_like (state_after e u) (state_after e s) x after i))) (get u.lives x) None)
    ∙ retained (is_altered s (state_after e s) x) (get u.lives x) (get s.lives x)
    (λ altered. same x (among_altered s (state_after e s) x ∙ altered))
    ∙ sym (get_retained sub_ids_total sub_ids_exact s.lives (is_altered s (state_after e s)) x)) in
    λ i. record {
      action = action_back (action_key e.action) (get (like.config i) (action_key e.action)) (record_after e.action);
      places = freed_numbers (like.numbers i) (after.numbers i);
      lives = lives i;
    }
