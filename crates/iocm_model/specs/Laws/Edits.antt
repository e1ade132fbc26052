-- What one edit promises: which subchannels it alters, what live records these have then, and which
-- one a refusal names.
use Rattle.std.specs.Prelude.{◌≡◌, ◌≢◌, ◌↔◌, true, false, None, Some}
use Rattle.std.specs.FinMap.{get, contains_key}
use Rattle.std.specs.declared.cmp.Ordering.TheVariants.{Less}
use Rattle.iocm_types.specs.declared.live.Live.{Live}
use Rattle.iocm_types.specs.declared.refused.At.TheVariants.{Subchannel}
use Rattle.iocm_types.specs.declared.refused.Refused.{Refused}
use Rattle.iocm_types.specs.declared.rule.Rule.TheVariants.{B1}
use Rattle.iocm_types.specs.declared.sub_id.SubId.{SubId}
use Rattle.iocm_types.specs.declared.view.View.{View}
use Rattle.iocm_types.specs.SubId.{sub_id_cmp}
use Rattle.iocm_model.specs.Operation.State.{State, HasLives, seen_in, is_among}
use Rattle.iocm_model.specs.Operation.Orders as orders
use Rattle.iocm_model.specs.Change.Edit.{Edit, action_key, config_after, state_after, altered_by}
use Rattle.iocm_model.specs.Change.Refusal.{is_not_quiet, is_number_taken, AreQuiet, first_not_quiet}
use Rattle.iocm_model.specs.Change.Refusal.{refusal_at, refusal_by_key, refusal_of}

-- an edit alters exactly the subchannels at which what is seen differs
abbrev pub AltersWhatDiffers : Type 0
AltersWhatDiffers = (e : Edit) (s : State) (x : SubId) → (is_among x (altered_by e s) ≡ false)
    ↔ (seen_in s x ≡ seen_in (state_after e s) x)

-- off them no live record changes
abbrev pub KeepsTheOthers : Type 0
KeepsTheOthers = (e : Edit) (s : State) (x : SubId) → HasLives s → is_among x (altered_by e s) ≡ false
    → get (state_after e s).lives x ≡ get s.lives x

-- of the subchannels that an edit alters this is the least that isn't quiet
pub record IsLeastNotQuiet (e : Edit) (s : State) (x : SubId) : Type 0 where
  pub altered : is_among x (altered_by e s) ≡ true
  pub busy_or_pending : is_not_quiet (get s.lives x) ≡ true
  pub least : (y : SubId) → is_among y (altered_by e s) ≡ true → sub_id_cmp y x ≡ Less
      → is_not_quiet (get s.lives y) ≡ false

-- the one that B1 names is the least that isn't quiet; none is named exactly where all are quiet
abbrev pub NamesTheLeast : Type 0
NamesTheLeast = (e : Edit) (s : State) (x : SubId) → first_not_quiet s.lives (altered_by e s) ≡ Some x
    → IsLeastNotQuiet e s x

abbrev pub NamesNoneWhereQuiet : Type 0
NamesNoneWhereQuiet = (e : Edit) (s : State) → (first_not_quiet s.lives (altered_by e s) ≡ None)
    ↔ AreQuiet s.lives (altered_by e s)

-- a refusal for a subchannel that isn't quiet: it names the least of those that the edit alters,
-- with no node, and neither the key (E1, E2) nor a carried number (E4) stands in the way of the
-- edit
pub record IsForTheLeast (e : Edit) (s : State) (why : Refused) : Type 0 where
  pub subchannel : SubId
  pub least : IsLeastNotQuiet e s subchannel
  pub names : why ≡ refusal_at B1 (Subchannel subchannel)
  pub key : refusal_by_key e.action (contains_key s.config (action_key e.action)) ≡ None
  pub numbers : is_number_taken (config_after e.action s.config) s.numbers e.places ≡ false

-- a refusal by B1 is one
abbrev pub RefusalNamesTheLeast : Type 0
RefusalNamesTheLeast = (e : Edit) (s : State) (why : Refused) → refusal_of e s ≡ Some why → why.rule ≡ B1
    → IsForTheLeast e s why

-- the live record of a subchannel afterwards: gone with its view; the one that comes along; fresh
-- where the view is new; else its own, with LPM equal to PIM where the path list changed
pub record HasLiveAfter (e : Edit) (s : State) (x : SubId) : Type 0 where
  pub gone : seen_in (state_after e s) x ≡ None → get (state_after e s).lives x ≡ None
  pub carried : (new : View) (l : Live) → seen_in (state_after e s) x ≡ Some new → get e.lives x ≡ Some l
      → get (state_after e s).lives x ≡ Some l
  pub fresh : (new : View) → seen_in s x ≡ None → seen_in (state_after e s) x ≡ Some new → get e.lives x ≡ None
      → get (state_after e s).lives x ≡ Some (orders.fresh new.pim)
  pub same_paths : (old new : View) (l : Live) → seen_in s x ≡ Some old → seen_in (state_after e s) x ≡ Some new
      → old.paths ≡ new.paths
      → get e.lives x ≡ None → get s.lives x ≡ Some l → get (state_after e s).lives x ≡ Some l
  pub other_paths : (old new : View) (l : Live) → seen_in s x ≡ Some old
      → seen_in (state_after e s) x ≡ Some new → old.paths ≢ new.paths
      → get e.lives x ≡ None → get s.lives x ≡ Some l
      → get (state_after e s).lives x ≡ Some (record l { lpm = new.pim })

-- each subchannel that an edit alters has that one
abbrev pub AlteredHaveTheirLives : Type 0
AlteredHaveTheirLives = (e : Edit) (s : State) (x : SubId) → is_among x (altered_by e s) ≡ true → HasLiveAfter e s x
