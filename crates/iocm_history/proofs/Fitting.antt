-- Where a change fits a sound state, its inverses give it back its cells, and leave a sound state
-- that sees the same elsewhere.
use Rattle.std.proofs.Common.{◌≡◌, ℕ, Bool, true, false, cond, not, ◌&&◌, ◌||◌, nat_eq, eqb-true, List, [], ◌∷◌, ◌++◌}
use Rattle.std.proofs.Common.{Option, Some, None, is_some, refl, sym, ap, subst, ◌∙◌}
use Rattle.std.proofs.lemmas.Bool.{or_parts, or_right, and_parts}
use Rattle.std.proofs.lemmas.List.Folds.{list_any-append}
use Rattle.std.specs.List.{list_any, list_all}
use Rattle.std.specs.Option.{option_eq, option_or, option_and_then}
use Rattle.std.specs.Ordering.{eq_by_cmp}
use Rattle.std.specs.declared.cmp.Ordering.{Ordering}
use Rattle.std.specs.FinMap.{FinMap, IsAntisymmetric, get, keys, contains_key, contains_key-keys}
use Rattle.iocm_types.specs.declared.key.Key.{Key}
use Rattle.iocm_types.specs.declared.live.Live.{Live}
use Rattle.iocm_types.specs.declared.place.NumberCell.{NumberCell}
use Rattle.iocm_types.specs.declared.sub_id.SubId.{SubId}
use Rattle.iocm_types.specs.Key.{key_cmp}
use Rattle.iocm_types.specs.Place.{cell_cmp}
use Rattle.iocm_types.specs.SubId.{sub_id_cmp}
use Rattle.iocm_types.specs.KeyOrder.{keys_total, keys_exact, cells_total, cells_exact, sub_ids_total, sub_ids_exact}
use Rattle.iocm_types.proofs.Found.{same_key}
use Rattle.iocm_types.proofs.Tests.{absent}
use Rattle.iocm_model.specs.Machine.Numbering.{cells_of}
use Rattle.iocm_model.specs.Operation.State.{State, views_in, seen_in, is_among, HasLives, IsSound}
use Rattle.iocm_model.specs.Change.Edit.{Edit, action_key, record_after, config_after, same_view, state_after}
use Rattle.iocm_model.specs.Change.Edit.{altered_by, is_altered}
use Rattle.iocm_model.specs.Change.Effect.{Cells, cells_written, no_cells, both_cells}
use Rattle.iocm_model.specs.Change.Inverse.{inverse_of}
use Rattle.iocm_model.specs.Change.Refusal.{refusal_by_key, is_number_taken, is_not_quiet, AreQuiet}
use Rattle.iocm_model.specs.Change.Refusal.{refusal_by_subchannel, refusal_of}
use Rattle.iocm_model.specs.Change.Runs.{state_after_all, cells_written_by_all, inverses, AreAccepted, CarryFreeNumbers}
use Rattle.iocm_model.proofs.Maps.Cells.{get_with_value, in_differing, get_retained}
use Rattle.iocm_model.proofs.Maps.Overwriting.{not_in_first, not_in_second, find_none}
use Rattle.iocm_model.proofs.Change.SameViews.{sight_is, sight_turned}
use Rattle.iocm_model.proofs.Change.Lives.{lives_after_edit_at, same_keeps, left_back, left_at}
use Rattle.iocm_model.proofs.Change.EditsGoBack.{among_altered, back_key, back_record, off_key, off_numbers}
use Rattle.iocm_model.proofs.Change.EditsGoBack.{keeps_the_others}
use Rattle.iocm_model.proofs.Change.RunsGoBack.{sound_after, all_append, accepted_append, altered_were_quiet}
use Rattle.iocm_model.proofs.Machine.OwnKeys.{keyed_own}
use Rattle.iocm_history.specs.Store.{store_of}
use Rattle.iocm_history.specs.Fits.{goes_back_at, goes_back, is_barred, goes_back_in, state_before, state_before_all}
use Rattle.iocm_history.proofs.OneCell.{Cell, at_key, at_number, at_subchannel, Value, of_record, of_device, of_live}
use Rattle.iocm_history.proofs.OneCell.{read, is_one_of}

-- ---- one cell

module _ {X : Type 0} (same : X → X → Bool) (old new here there : Option X) where
  -- where an edit leaves a cell alone, so does what goes back
  pub stays_at : option_eq same old new ≡ true → goes_back_at same old new here there ≡ true
      → option_eq same here there ≡ true
  stays_at e h = sym (ap (λ b. cond b (option_eq same here there) (option_eq same here new && option_eq same there old))
      e) ∙ h

  -- and else it goes from the value after to the value before
  pub turns_at : option_eq same old new ≡ false → goes_back_at same old new here there ≡ true
      → (option_eq same here new ≡ true) × (option_eq same there old ≡ true)
  turns_at e h = and_parts _ _
      (sym (ap (λ b. cond b (option_eq same here there) (option_eq same here new && option_eq same there old)) e) ∙ h)

module _ {K : Type 0} {R : K → K → Ordering} (exact : IsAntisymmetric R) where
  -- a test that holds at each of some keys holds at a key that is among them
  holds_among : (test : K → Bool) (ks : List K) (q : K) → list_all test ks ≡ true → list_any (eq_by_cmp R q) ks ≡ true
      → test q ≡ true
  holds_among test [] q all is = cc
  holds_among test (k ∷ ks) q all is =
      let both = and_parts _ _ all in
      by (eq_by_cmp R q k) refl is both.0 (λ more. holds_among test ks q both.1 more)
    where
      by : (b : Bool) → eq_by_cmp R q k ≡ b → (b || list_any (eq_by_cmp R q) ks) ≡ true → test k ≡ true
          → (list_any (eq_by_cmp R q) ks ≡ true → test q ≡ true) → test q ≡ true
      by true e is first more = ap test (same_key R exact q k e) ∙ first
      by false e is first more = more is

module _ {K X : Type 0} {R : K → K → Ordering} (exact : IsAntisymmetric R) where
  -- a key that isn't among those of a map has nothing there
  not_there : (m : FinMap R X) (q : K) → list_any (eq_by_cmp R q) (keys m) ≡ false → get m q ≡ None
  not_there m q off = absent (get m q) (contains_key-keys m q ∙ off)

  -- what holds at all keys holds at each
  pub goes_back_here : (same : X → X → Bool) (old new here there : FinMap R X)
      → goes_back same old new here there ≡ true
      → (q : K) → goes_back_at same (get old q) (get new q) (get here q) (get there q) ≡ true
  goes_back_here same old new here there all q = by (list_any (eq_by_cmp R q) ks) refl
    where
      ks : List K
      ks = keys old ++ (keys new ++ (keys here ++ keys there))

      by : (b : Bool) → list_any (eq_by_cmp R q) ks ≡ b
          → goes_back_at same (get old q) (get new q) (get here q) (get there q) ≡ true
      by true e = holds_among exact
          (λ key. goes_back_at same (get old key) (get new key) (get here key) (get there key)) ks q all e
      by false e =
          let none_old = not_there old q (not_in_first R q (keys old) (keys new ++ (keys here ++ keys there)) e) in
          let rest = not_in_second R q (keys old) (keys new ++ (keys here ++ keys there)) e in
          let none_new = not_there new q (not_in_first R q (keys new) (keys here ++ keys there) rest) in
          let last = not_in_second R q (keys new) (keys here ++ keys there) rest in
          let none_here = not_there here q (not_in_first R q (keys here) (keys there) last) in
          let none_there = not_there there q (not_in_second R q (keys here) (keys there) last) in
          (λ i. goes_back_at same (none_old i) (none_new i) (none_here i) (none_there i))

-- ---- one edit

-- the device of a number
abbrev device : State → NumberCell → Option ℕ
device s c = get (cells_of s.numbers) c

not_holds : (b : Bool) → not b ≡ true → b ≡ false
not_holds true h = sym h
not_holds false h = refl

same_device : (a b : Option ℕ) → option_eq nat_eq a b ≡ true → a ≡ b
same_device None None h = refl
same_device None (Some y) h = cc
same_device (Some x) None h = cc
same_device (Some x) (Some y) h = ap Some (eqb-true x y h)

module _ (e : Edit) (s u : State) where
  -- the state after the edit, and the state after its inverse
  abbrev t : State
  t = state_after e s

  abbrev v : State
  v = state_after (inverse_of e s) u

  -- what it is to go back
  pub record IsBack : Type 0 where
    pub key : refusal_by_key (inverse_of e s).action (contains_key u.config (action_key (inverse_of e s).action)) ≡ None
    pub free : is_number_taken (config_after (inverse_of e s).action u.config) u.numbers (inverse_of e s).places ≡ false
    pub numbers : (c : NumberCell)
        → goes_back_at nat_eq (get (cells_of s.numbers) c) (get (cells_of t.numbers) c) (get (cells_of u.numbers) c)
        (get (cells_of v.numbers) c) ≡ true
    pub views : (x : SubId) → goes_back_at same_view (seen_in s x) (seen_in t x) (seen_in u x) (seen_in v x) ≡ true

  pub is_back : goes_back_in e s u ≡ true → IsBack
  is_back h =
      let first = and_parts (not (is_barred (inverse_of e s) u)
      && goes_back nat_eq (cells_of s.numbers) (cells_of t.numbers) (cells_of u.numbers) (cells_of v.numbers))
      (goes_back same_view (views_in s) (views_in t) (views_in u) (views_in v)) h in
      let second = and_parts _ _ first.0 in
      let barred = or_parts _ _ (not_holds _ second.0) in
      record {
        key = absent _ barred.0;
        free = barred.1;
        numbers = goes_back_here cells_exact nat_eq _ _ _ _ second.1;
        views = goes_back_here sub_ids_exact same_view _ _ _ _ first.1;
      }

  module _ (sound_s : IsSound s) (sound_u : IsSound u) (back : IsBack) where
    -- the record of its key
    key_is : action_key (inverse_of e s).action ≡ action_key e.action
    key_is = back_key (action_key e.action) (get s.config (action_key e.action)) (record_after e.action)
        (keyed_own s.config sound_s.keyed (action_key e.action))

    record_is : record_after (inverse_of e s).action ≡ get s.config (action_key e.action)
    record_is = back_record (action_key e.action) (get s.config (action_key e.action)) (record_after e.action)

    own_key : (b : Bool) (k : Key) → eq_by_cmp key_cmp k (action_key e.action) ≡ b
        → cond b (get s.config (action_key e.action)) (get u.config k)
        ≡ cond (b || false) (get s.config k) (get u.config k)
    own_key true k is = ap (get s.config) (sym (same_key key_cmp keys_exact k (action_key e.action) is))
    own_key false k is = refl

    records_back : (k : Key)
        → get v.config k ≡ cond (is_one_of (cells_written e s) (at_key k)) (get s.config k) (get u.config k)
    records_back k = get_with_value keys_total keys_exact u.config (action_key (inverse_of e s).action)
        (record_after (inverse_of e s).action) k
        ∙ (λ i. cond (eq_by_cmp key_cmp k (key_is i)) (record_is i) (get u.config k))
        ∙ own_key (eq_by_cmp key_cmp k (action_key e.action)) k refl

    -- the devices of the number cells
    numbers_by : (b : Bool) (c : NumberCell)
        → option_eq nat_eq (get (cells_of s.numbers) c) (get (cells_of t.numbers) c) ≡ b
        → get (cells_of v.numbers) c ≡ cond (not b) (get (cells_of s.numbers) c) (get (cells_of u.numbers) c)
    numbers_by true c is = sym
        (same_device _ _ (stays_at nat_eq (device s c) (device t c) (device u c) (device v c) is (back.numbers c)))
    numbers_by false c is = same_device _ _
        (turns_at nat_eq (device s c) (device t c) (device u c) (device v c) is (back.numbers c)).1

    numbers_back : (c : NumberCell)
        → get (cells_of v.numbers) c
        ≡ cond (is_one_of (cells_written e s) (at_number c)) (get (cells_of s.numbers) c) (get (cells_of u.numbers) c)
    numbers_back c = numbers_by _ c refl
        ∙ ap (λ b. cond b (get (cells_of s.numbers) c) (get (cells_of u.numbers) c))
        (sym (in_differing cells_total cells_exact nat_eq (cells_of s.numbers) (cells_of t.numbers) c))

    -- what it alters there is what the edit altered
    alters_by : (b : Bool) (x : SubId) → option_eq same_view (seen_in s x) (seen_in t x) ≡ b
        → option_eq same_view (seen_in u x) (seen_in v x) ≡ b
    alters_by true x is = stays_at same_view (seen_in s x) (seen_in t x) (seen_in u x) (seen_in v x) is (back.views x)
    alters_by false x is =
        let turn = turns_at same_view (seen_in s x) (seen_in t x) (seen_in u x) (seen_in v x) is (back.views x) in
        (λ i. option_eq same_view (sight_is (seen_in u x) (seen_in t x) turn.0 i)
        (sight_is (seen_in v x) (seen_in s x) turn.1 i))
        ∙ sight_turned (seen_in t x) (seen_in s x) ∙ is

    pub alters_the_same : (x : SubId) → is_altered u v x ≡ is_altered s t x
    alters_the_same x = ap not (alters_by (option_eq same_view (seen_in s x) (seen_in t x)) x refl)

    -- elsewhere it sees the same
    pub sees_elsewhere : (x : SubId) → is_among x (altered_by e s) ≡ false → seen_in v x ≡ seen_in u x
    sees_elsewhere x off =
        let same : option_eq same_view (seen_in s x) (seen_in t x) ≡ true =
        not_altered _ (sym (among_altered s t x) ∙ off) in
        sym (sight_is (seen_in u x) (seen_in v x) (alters_by true x same))
      where
        not_altered : (b : Bool) → not b ≡ false → b ≡ true
        not_altered true h = refl
        not_altered false h = sym h

    -- the live records
    lives_by : (b : Bool) (x : SubId) → option_eq same_view (seen_in s x) (seen_in t x) ≡ b
        → left_at (seen_in u x) (seen_in v x) (cond (not b) (get s.lives x) None) (get u.lives x)
        ≡ cond (not b) (get s.lives x) (get u.lives x)
    lives_by true x is = same_keeps (seen_in u x) (seen_in v x) None (get u.lives x) (alters_by true x is)
        (sound_u.lived x)
    lives_by false x is =
        let turn = turns_at same_view (seen_in s x) (seen_in t x) (seen_in u x) (seen_in v x) is (back.views x) in
        let seen_v = sight_is (seen_in v x) (seen_in s x) turn.1 in
        let differ : option_eq same_view (seen_in v x) (seen_in u x) ≡ false =
        sight_turned (seen_in v x) (seen_in u x) ∙ alters_by false x is in
        left_back (seen_in v x) (seen_in u x) (get s.lives x) (get s.lives x) (get u.lives x)
        (sound_s.lived x ∙ ap is_some (sym seen_v)) (sound_u.lived x)
        (ap (λ b. is_some (cond (not b) (get s.lives x) None)) (sym differ))
        ∙ ap (λ b. cond (not b) (get s.lives x) (get u.lives x)) differ

    lives_back : (x : SubId)
        → get v.lives x ≡ cond (is_one_of (cells_written e s) (at_subchannel x)) (get s.lives x) (get u.lives x)
    lives_back x = lives_after_edit_at (views_in u) (views_in v) (inverse_of e s).lives u.lives x
        ∙ ap (λ k. left_at (seen_in u x) (seen_in v x) k (get u.lives x))
        (get_retained sub_ids_total sub_ids_exact s.lives (is_altered s t) x)
        ∙ lives_by (option_eq same_view (seen_in s x) (seen_in t x)) x refl
        ∙ ap (λ b. cond b (get s.lives x) (get u.lives x)) (sym (among_altered s t x))

    value_by : {A : Type 0} (f : A → Value) (b : Bool) (x y : A) → f (cond b x y) ≡ cond b (f x) (f y)
    value_by f true x y = refl
    value_by f false x y = refl

    -- each cell: as before the edit where the edit wrote it, and else as it is
    pub cells_back : (q : Cell)
        → read (store_of v) q ≡ cond (is_one_of (cells_written e s) q) (read (store_of s) q) (read (store_of u) q)
    cells_back (at_key k) = ap of_record (records_back k) ∙ value_by of_record _ (get s.config k) (get u.config k)
    cells_back (at_number c) =
        ap of_device (numbers_back c) ∙ value_by of_device _ (get (cells_of s.numbers) c) (get (cells_of u.numbers) c)
    cells_back (at_subchannel x) = ap of_live (lives_back x) ∙ value_by of_live _ (get s.lives x) (get u.lives x)

    pub sound_back : IsSound v
    sound_back = sound_after (inverse_of e s) u sound_u back.free

    none_of_three : {A : Type 0} (a c : Option A) (b : Bool) (y : A) → a ≡ None → b ≡ false → c ≡ None
        → option_or a (option_or (cond b (Some y) None) c) ≡ None
    none_of_three None None false y p q r = refl
    none_of_three None (Some z) false y p q r = cc
    none_of_three None c true y p q r = cc
    none_of_three (Some x) c b y p q r = cc

    -- where the altered subchannels are quiet, it is accepted
    pub accepted_back : ((x : SubId) → is_among x (altered_by e s) ≡ true → is_not_quiet (get u.lives x) ≡ false)
        → refusal_of (inverse_of e s) u ≡ None
    accepted_back quiet =
        none_of_three _ _ _ _ back.key back.free
        (ap refusal_by_subchannel
        (find_none sub_id_cmp sub_ids_total sub_ids_exact (λ x. is_not_quiet (get u.lives x))
        (altered_by (inverse_of e s) u)
        (λ x h. quiet x (among_altered s t x ∙ sym (alters_the_same x) ∙ sym (among_altered u v x) ∙ h))))

-- ---- a run of edits

-- off its cells an edit leaves a state as it was
pub off_edit : (e : Edit) (s : State) → HasLives s → (q : Cell) → is_one_of (cells_written e s) q ≡ false
    → read (store_of (state_after e s)) q ≡ read (store_of s) q
off_edit e s lived (at_key k) off = ap of_record (off_key e.action s.config k off)
off_edit e s lived (at_number c) off = ap of_device (sym (off_numbers s.numbers (state_after e s).numbers c off))
off_edit e s lived (at_subchannel x) off = ap of_live (keeps_the_others e s x lived off)

-- the cells of one and of another
pub one_of_both : (a b : Cells) (q : Cell) → is_one_of (both_cells a b) q ≡ (is_one_of a q || is_one_of b q)
one_of_both a b (at_key k) = list_any-append (eq_by_cmp key_cmp k) a.keys b.keys
one_of_both a b (at_number c) = list_any-append (eq_by_cmp cell_cmp c) a.numbers b.numbers
one_of_both a b (at_subchannel x) = list_any-append (eq_by_cmp sub_id_cmp x) a.subchannels b.subchannels

-- what it is for all edits to go back
pub record AreBack (es : List Edit) (s u v : State) : Type 0 where
  pub is : v ≡ state_after_all (inverses es s) u
  pub cells : (q : Cell) → read (store_of v) q
      ≡ cond (is_one_of (cells_written_by_all es s) q) (read (store_of s) q) (read (store_of u) q)
  pub sound : IsSound v
  pub seen : (x : SubId) → is_among x (cells_written_by_all es s).subchannels ≡ false → seen_in v x ≡ seen_in u x
  pub accepted : AreAccepted es s → AreQuiet u.lives (cells_written_by_all es s).subchannels
      → AreAccepted (inverses es s) u

merged : {A : Type 0} (a b : Bool) (x y z : A) → (a ≡ false → y ≡ x) → cond a x (cond b y z) ≡ cond (a || b) x z
merged true b x y z same = refl
merged false true x y z same = same refl
merged false false x y z same = refl

none_read : (q : Cell) → is_one_of no_cells q ≡ false
none_read (at_key k) = refl
none_read (at_number c) = refl
none_read (at_subchannel x) = refl

quiet_by : (a : Bool) (x y : Option Live) → (a ≡ true → is_not_quiet x ≡ false) → (a ≡ false → is_not_quiet y ≡ false)
    → is_not_quiet (cond a x y) ≡ false
quiet_by true x y f g = f refl
quiet_by false x y f g = g refl

live_inner : (a b : Option Live) → of_live a ≡ of_live b → a ≡ b
live_inner a b e = cc

module _ (e : Edit) (es : List Edit) (s u w : State) (sound_s : IsSound s) (sound_t : IsSound (state_after e s))
    (later : AreBack es (state_after e s) u w) (back : IsBack e s w) where
  abbrev first_cells : Cells
  first_cells = cells_written e s

  abbrev later_cells : Cells
  later_cells = cells_written_by_all es (state_after e s)

  both_back_cells : (q : Cell) → read (store_of (state_after (inverse_of e s) w)) q
      ≡ cond (is_one_of (both_cells first_cells later_cells) q) (read (store_of s) q) (read (store_of u) q)
  both_back_cells q = cells_back e s w sound_s later.sound back q
      ∙ ap (cond (is_one_of first_cells q) (read (store_of s) q)) (later.cells q)
      ∙ merged (is_one_of first_cells q) (is_one_of later_cells q) (read (store_of s) q)
      (read (store_of (state_after e s)) q) (read (store_of u) q)
      (off_edit e s sound_s.lived q)
      ∙ ap (λ b. cond b (read (store_of s) q) (read (store_of u) q)) (sym (one_of_both first_cells later_cells q))

  live_later : (x : SubId)
      → get w.lives x ≡ cond (is_among x later_cells.subchannels) (get (state_after e s).lives x) (get u.lives x)
  live_later x = live_inner _ _ (later.cells (at_subchannel x) ∙ sym (by (is_among x later_cells.subchannels)))
    where
      by : (b : Bool) → of_live (cond b (get (state_after e s).lives x) (get u.lives x))
          ≡ cond b (of_live (get (state_after e s).lives x)) (of_live (get u.lives x))
      by true = refl
      by false = refl

  both_back : AreBack (e ∷ es) s u (state_after (inverse_of e s) w)
  both_back = record {
    is = ap (state_after (inverse_of e s)) later.is
        ∙ sym (all_append (inverses es (state_after e s)) (inverse_of e s ∷ []) u);
    cells = both_back_cells;
    sound = sound_back e s w sound_s later.sound back;
    seen = λ x off. sees_elsewhere e s w sound_s later.sound back x
        (not_in_first sub_id_cmp x first_cells.subchannels later_cells.subchannels off)
        ∙ later.seen x (not_in_second sub_id_cmp x first_cells.subchannels later_cells.subchannels off);
    accepted = λ accepted quiet.
        let quiet_at = λ (x : SubId).
        λ (h : (is_among x first_cells.subchannels || is_among x later_cells.subchannels) ≡ true).
        quiet x (one_of_both first_cells later_cells (at_subchannel x) ∙ h) in
        accepted_append (inverses es (state_after e s)) (inverse_of e s ∷ []) u
        (later.accepted accepted.1 (λ x h. quiet_at x (or_right (is_among x first_cells.subchannels) _ h))) (
          ap (refusal_of (inverse_of e s)) (sym later.is) ∙ accepted_back e s w sound_s later.sound back
              (λ x h. ap is_not_quiet (live_later x)
              ∙ quiet_by (is_among x later_cells.subchannels) (get (state_after e s).lives x) (get u.lives x)
              (λ l. altered_were_quiet es (state_after e s) x sound_t.lived accepted.1 l)
              (λ l. quiet_at x (ap (λ b. b || is_among x later_cells.subchannels) h))),
          tt,
        );
  }

there : (b : Bool) (v w : State) → cond b (Some v) None ≡ Some w → (b ≡ true) × (v ≡ w)
there true v w h = (refl, cc)
there false v w h = cc

step_from : (o : Option State) (f : State → Option State) (v : State) → option_and_then f o ≡ Some v
    → (w : State) × (o ≡ Some w) × (f w ≡ Some v)
step_from None f v h = cc
step_from (Some w) f v h = (w, refl, h)

-- where edits go back, this is what they leave
pub all_back : (es : List Edit) (s u v : State) → IsSound s → CarryFreeNumbers es s → IsSound u
    → state_before_all es s u ≡ Some v → AreBack es s u v
all_back [] s u v sound free sound_u h =
    let same : u ≡ v = cc in record {
      is = sym same;
      cells = λ q. ap (λ z. read (store_of z) q) (sym same)
          ∙ ap (λ b. cond b (read (store_of s) q) (read (store_of u) q)) (sym (none_read q));
      sound = subst IsSound same sound_u;
      seen = λ x off. ap (λ z. seen_in z x) (sym same);
      accepted = λ accepted quiet. tt;
    }
all_back (e ∷ es) s u v sound free sound_u h =
    let parts = step_from (state_before_all es (state_after e s) u) (state_before e s) v h in
    let w = parts.0 in
    let sound_t = sound_after e s sound free.0 in
    let later = all_back es (state_after e s) u w sound_t free.1 sound_u parts.1 in
    let last = there (goes_back_in e s w) (state_after (inverse_of e s) w) v parts.2 in
    subst (AreBack (e ∷ es) s u) last.1 (both_back e es s u w sound sound_t later (is_back e s w last.0))
