-- The table of who reaches which path is that of the configuration before an edit, and again where
-- the edit's record was changed back.
use Rattle.std.proofs.Common.{◌≡◌, ◌≢◌, Bool, true, false, cond, List, refl, sym, ap, ◌∙◌}
use Rattle.std.specs.Ordering.{eq_by_cmp}
use Rattle.std.specs.FinMap.{get}
use Rattle.iocm_types.specs.declared.key.Key.{Key}
use Rattle.iocm_types.specs.Key.{key_cmp}
use Rattle.iocm_types.specs.KeyOrder.{keys_total, keys_exact}
use Rattle.iocm_types.proofs.Found.{same_key}
use Rattle.iocm_model.specs.Machine.Configuration.{Configuration}
use Rattle.iocm_model.specs.Change.Edit.{Action, action_key, config_after, record_after}
use Rattle.iocm_model.proofs.Maps.Cells.{get_with_value}
use Rattle.iocm_reach.specs.declared.image_path.ImagePath.{ImagePath}
use Rattle.iocm_reach.specs.Tabled.{IsReachOf, IsSameBut, WasReach}

-- keys that aren't one don't tie
apart : (other key : Key) → other ≢ key → (b : Bool) → eq_by_cmp key_cmp other key ≡ b → b ≡ false
apart other key off true is = absurd (off (same_key key_cmp keys_exact other key is))
apart other key off false is = refl

-- an action leaves the records of all other keys
same_but : (a : Action) (m : Configuration) → IsSameBut (action_key a) m (config_after a m)
same_but a m other off = get_with_value keys_total keys_exact m (action_key a) (record_after a) other
    ∙ ap (λ b. cond b (record_after a) (get m other))
    (apart other (action_key a) off (eq_by_cmp key_cmp other (action_key a)) refl)

module _ (a : Action) (key : Key) (m then : Configuration) (of : key ≡ action_key a)
    (after : then ≡ config_after a m) where
  others : (other : Key) → other ≢ key → get then other ≡ get m other
  others other off = ap (λ (c : Configuration). get c other) after ∙ same_but a m other (λ e. off (e ∙ sym of))

  -- before the action
  pub was_reach : (table : List ImagePath) → IsReachOf m table → WasReach key then table
  was_reach table reach = record { before = m; same = others; reach = reach }

  -- and where it was taken back
  pub was_reach_there : (now : Configuration) → now ≡ m → (table : List ImagePath) → IsReachOf then table
      → WasReach key now table
  was_reach_there now back table reach = record {
    before = then;
    same = λ other off. ap (λ (c : Configuration). get c other) back ∙ sym (others other off);
    reach = reach;
  }
