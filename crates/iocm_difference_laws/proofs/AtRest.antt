-- Where all live records are quiet, an edit that carries none leaves them all quiet.
use Rattle.std.proofs.Common.{◌≡◌, ℕ, nat_eq, Bool, true, false, cond, List, [], ◌∷◌, map, Option, Some, None, refl, ap}
use Rattle.std.proofs.Common.{◌∙◌}
use Rattle.std.specs.Ordering.{eq_by_cmp}
use Rattle.std.specs.Cmp.Lexicographic.{pointwise}
use Rattle.std.specs.FinMap.{get, find, empty, get-empty, get-from_entries}
use Rattle.iocm_types.specs.declared.live.Live.{Live}
use Rattle.iocm_types.specs.declared.sub_id.SubId.{SubId}
use Rattle.iocm_types.specs.declared.view.View.{View}
use Rattle.iocm_types.specs.SubId.{sub_id_cmp}
use Rattle.iocm_types.specs.KeyOrder.{sub_ids_total}
use Rattle.iocm_model.specs.Machine.Configuration.{Configuration}
use Rattle.iocm_model.specs.Machine.Numbering.{opening}
use Rattle.iocm_model.specs.Machine.View.{views}
use Rattle.iocm_model.specs.Operation.State.{State, Lives, views_in, fresh_row, opening_state}
use Rattle.iocm_model.specs.Change.Edit.{Action, same_view, live_of_altered, state_after}
use Rattle.iocm_model.specs.Change.Refusal.{is_not_quiet}
use Rattle.iocm_model.proofs.Change.Lives.{left_at, lives_after_edit_at}
use Rattle.iocm_tree.specs.Carried.{bare}

-- no live record isn't quiet
abbrev pub IsAtRest : Lives → Type 0
IsAtRest lives = (x : SubId) → is_not_quiet (get lives x) ≡ false

either_rests : (b : Bool) (k l : Option Live) → is_not_quiet k ≡ false → is_not_quiet l ≡ false
    → is_not_quiet (cond b k l) ≡ false
either_rests true k l first second = first
either_rests false k l first second = second

fresh_rest : (rows : List (SubId × View)) (x : SubId) → is_not_quiet (find sub_id_cmp x (map fresh_row rows)) ≡ false
fresh_rest [] x = refl
fresh_rest (row ∷ rows) x =
    either_rests (eq_by_cmp sub_id_cmp x row.0) (Some (fresh_row row).1) (find sub_id_cmp x (map fresh_row rows)) refl
    (fresh_rest rows x)

-- at opening all are fresh
pub opening_rests : (c : Configuration) → IsAtRest (opening_state c).lives
opening_rests c x = ap is_not_quiet (get-from_entries sub_ids_total (map fresh_row (views c (opening c))) x)
    ∙ fresh_rest (views c (opening c)) x

own_rests : (b : Bool) (l : Live) (pim : ℕ) → is_not_quiet (Some l) ≡ false
    → is_not_quiet (Some (cond b l (record l { lpm = pim }))) ≡ false
own_rests true l pim rest = rest
own_rests false l pim rest = rest

-- what an edit leaves where nothing comes along
left_rests : (v w : Option View) (l : Option Live) → is_not_quiet l ≡ false → is_not_quiet (left_at v w None l) ≡ false
left_rests v None l rest = refl
left_rests None (Some b) l rest = refl
left_rests (Some a) (Some b) None rest =
    either_rests (same_view a b) None (Some (live_of_altered (Some a) b None None)) refl refl
left_rests (Some a) (Some b) (Some l) rest =
    either_rests (same_view a b) (Some l) (Some (live_of_altered (Some a) b None (Some l))) rest
    (own_rests (pointwise nat_eq a.paths b.paths) l b.pim rest)

pub edit_rests : (a : Action) (s : State) → IsAtRest s.lives → IsAtRest (state_after (bare a).edit s).lives
edit_rests a s rest x =
    let t = state_after (bare a).edit s in
    ap is_not_quiet (lives_after_edit_at (views_in s) (views_in t) empty s.lives x
    ∙ ap (λ k. left_at (get (views_in s) x) (get (views_in t) x) k (get s.lives x)) (get-empty sub_id_cmp x))
    ∙ left_rests (get (views_in s) x) (get (views_in t) x) (get s.lives x) (rest x)
