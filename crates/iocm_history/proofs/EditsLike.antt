-- Edits on a state that has the configuration and the numbers of another, and its live records
-- where they alter it.
use Rattle.std.proofs.Common.{◌≡◌, Bool, true, false, cond, List, [], ◌∷◌, ◌++◌, refl, sym, ap, ◌∙◌}
use Rattle.std.specs.FinMap.{get, same_map}
use Rattle.iocm_types.specs.declared.sub_id.SubId.{SubId}
use Rattle.iocm_types.specs.KeyOrder.{sub_ids_total, sub_ids_exact}
use Rattle.iocm_model.specs.Change.Maps.{differing}
use Rattle.iocm_model.specs.Change.Renumbering.{numbers_after}
use Rattle.iocm_model.specs.Operation.State.{State, is_among, views_of, views_in, seen_in}
use Rattle.iocm_model.specs.Change.Edit.{Edit, config_after, same_view, state_after, altered_by}
use Rattle.iocm_model.specs.Change.Runs.{state_after_all, cells_written_by_all}
use Rattle.iocm_model.proofs.Maps.Cells.{get_with_cells_as}
use Rattle.iocm_model.proofs.Change.Lives.{left_at, lives_after_edit_at}
use Rattle.iocm_model.proofs.Change.RunsGoBack.{off_lives}
use Rattle.iocm_history.specs.Change.{Change, cells_of_change}
use Rattle.iocm_history.specs.InUse.{IsInUse}
use Rattle.iocm_history.proofs.OneCell.{altered_cells}
use Rattle.iocm_history.proofs.Level.{IsReady, state_changed}

-- one state has the configuration and the numbers of another
record IsLike (s u : State) : Type 0 where
  config : s.config ≡ u.config
  numbers : s.numbers ≡ u.numbers

after_like : (e : Edit) (s u : State) → IsLike s u → IsLike (state_after e s) (state_after e u)
after_like e s u like = record {
  config = ap (config_after e.action) like.config;
  numbers = λ i. numbers_after (config_after e.action (like.config i)) e.places (like.numbers i);
}

all_like : (es : List Edit) (s u : State) → IsLike s u → IsLike (state_after_all es s) (state_after_all es u)
all_like [] s u like = like
all_like (e ∷ es) s u like = all_like es (state_after e s) (state_after e u) (after_like e s u like)

-- they see the same
sees_like : (s u : State) (x : SubId) → IsLike s u → seen_in s x ≡ seen_in u x
sees_like s u x like = λ i. get (views_of (like.config i) (like.numbers i)) x

-- edits alter the same
altered_like : (e : Edit) (s u : State) → IsLike s u → altered_by e s ≡ altered_by e u
altered_like e s u like =
    let after = after_like e s u like in
    λ i. differing same_view (views_of (like.config i) (like.numbers i)) (views_of (after.config i) (after.numbers i))

cells_like : (es : List Edit) (s u : State) → IsLike s u
    → (cells_written_by_all es s).subchannels ≡ (cells_written_by_all es u).subchannels
cells_like [] s u like = refl
cells_like (e ∷ es) s u like =
    λ i. altered_like e s u like i ++ cells_like es (state_after e s) (state_after e u) (after_like e s u like) i

-- and leave the same live record where it was the same
lives_like : (es : List Edit) (s u : State) (x : SubId) → IsLike s u → get s.lives x ≡ get u.lives x
    → get (state_after_all es s).lives x ≡ get (state_after_all es u).lives x
lives_like [] s u x like same = same
lives_like (e ∷ es) s u x like same =
    let after = after_like e s u like in
    lives_like es (state_after e s) (state_after e u) x after
    (lives_after_edit_at (views_in s) (views_in (state_after e s)) e.lives s.lives x
    ∙ (λ i. left_at (sees_like s u x like i) (sees_like (state_after e s) (state_after e u) x after i) (get e.lives x)
    (same i))
    ∙ sym (lives_after_edit_at (views_in u) (views_in (state_after e u)) e.lives u.lives x))

-- a change that is ready leaves what its edits do
pub edits_do : (c : Change) (s : State) → IsReady c s → IsInUse s → state_changed c s ≡ state_after_all c.edits s
edits_do c s ready used = λ i. record { config = sym after.config i; numbers = sym after.numbers i; lives = lives i }
  where
    like : IsLike s c.from
    like = record { config = ready.config; numbers = ready.numbers }

    after : IsLike (state_after_all c.edits s) (state_after_all c.edits c.from)
    after = all_like c.edits s c.from like

    by : (x : SubId) (b : Bool) → is_among x (cells_of_change c).subchannels ≡ b
        → cond b (get (state_after_all c.edits c.from).lives x) (get s.lives x)
        ≡ get (state_after_all c.edits s).lives x
    by x true is = sym (lives_like c.edits s c.from x like (ready.lives x (altered_cells c x ∙ is)))
    by x false is = sym (off_lives c.edits s x used.sound.lived
        (ap (is_among x) (cells_like c.edits s c.from like) ∙ is))

    lives : (state_changed c s).lives ≡ (state_after_all c.edits s).lives
    lives = same_map sub_ids_total sub_ids_exact _ _ (λ x.
        get_with_cells_as sub_ids_total sub_ids_exact (state_after_all c.edits c.from).lives
        (cells_of_change c).subchannels s.lives x
        ∙ by x (is_among x (cells_of_change c).subchannels) refl)
