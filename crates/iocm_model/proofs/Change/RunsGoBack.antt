-- Runs of edits: what they leave alone, and that their inverses take them back.
use Rattle.std.proofs.Common.{◌≡◌, Bool, true, false, cond, not, ◌||◌, List, [], ◌∷◌, ◌++◌, Option, Some, None, refl}
use Rattle.std.proofs.Common.{sym, ap, ◌∙◌}
use Rattle.std.specs.List.{list_any}
use Rattle.std.specs.Option.{option_or, option_eq, is_some}
use Rattle.std.specs.Ordering.{is_eq, eq_by_cmp}
use Rattle.std.specs.Cmp.{tied_itself}
use Rattle.std.specs.FinMap.{get, entries, contains_key, same_map}
use Rattle.std.proofs.lemmas.Bool.{or_right}
use Rattle.std.proofs.lemmas.List.Folds.{list_any-append}
use Rattle.iocm_types.specs.declared.key.Key.{Key}
use Rattle.iocm_types.specs.declared.place.NumberCell.{NumberCell}
use Rattle.iocm_types.specs.declared.live.Live.{Live}
use Rattle.iocm_types.specs.declared.refused.Refused.{Refused}
use Rattle.iocm_types.specs.declared.view.View.{View}
use Rattle.iocm_types.specs.declared.sub_id.SubId.{SubId}
use Rattle.iocm_types.specs.Key.{key_cmp}
use Rattle.iocm_types.specs.Place.{cell_cmp}
use Rattle.iocm_types.specs.SubId.{sub_id_cmp}
use Rattle.iocm_types.specs.KeyOrder.{keys_total, keys_exact, cells_total, cells_exact, sub_ids_total, sub_ids_exact}
use Rattle.iocm_types.proofs.Found.{same_key}
use Rattle.iocm_model.specs.Machine.Record.{Rec, key_of}
use Rattle.iocm_model.specs.Machine.Configuration.{Configuration, IsKeyed}
use Rattle.iocm_model.specs.Machine.Numbering.{cells_of, numbering_of}
use Rattle.iocm_model.specs.Change.Maps.{with_cells, cells_at}
use Rattle.iocm_model.specs.Operation.State.{State, Lives, views_of, seen_in, HasLives, IsSound, HasConfigAndNumbersOf}
use Rattle.iocm_model.specs.Change.Edit.{Action, add, delete, modify, Edit, action_key, record_after, config_after}
use Rattle.iocm_model.specs.Change.Edit.{same_view, state_after, altered_by, is_altered}
use Rattle.iocm_model.specs.Change.Refusal.{refusal_by_key, is_number_taken, is_not_quiet, first_not_quiet}
use Rattle.iocm_model.specs.Change.Refusal.{refusal_by_subchannel, refusal_of}
use Rattle.iocm_model.specs.Change.Inverse.{action_back, inverse_of}
use Rattle.iocm_model.specs.Change.Runs.{inverses, state_after_all, cells_written_by_all, AreAccepted, CarryFreeNumbers}
use Rattle.iocm_model.specs.Change.Effect.{values_in, with_effect, cells_written}
use Rattle.iocm_model.specs.Laws.Runs.{AcceptedCarryFreeNumbers, StaysSound, WritesItsEffect, PutsBack, RunGoesBack}
use Rattle.iocm_model.specs.Laws.Runs.{InversesAreAccepted}
use Rattle.iocm_model.proofs.Maps.Cells.{get_with_value, get_with_cells_as, get_retained}
use Rattle.iocm_model.proofs.Numbers.Cells.{cells_give_numbers}
use Rattle.iocm_model.proofs.Numbers.Freed.{freed_are_not_taken}
use Rattle.iocm_model.proofs.Numbers.Apart.{numbers_after_are_numbers}
use Rattle.iocm_model.proofs.Maps.Overwriting.{not_in_first, not_in_second, find_none, none_found, with_cells_is}
use Rattle.iocm_model.proofs.Change.SameViews.{sight_turned}
use Rattle.iocm_model.proofs.Machine.OwnKeys.{keyed_own, own_keyed}
use Rattle.iocm_model.proofs.Change.EditsGoBack.{IsNotAmong, among_altered, unaltered_sees, keeps_the_others}
use Rattle.iocm_model.proofs.Change.EditsGoBack.{lived_after, back_key, config_back, off_key, off_numbers, given}
use Rattle.iocm_model.proofs.Change.EditsGoBack.{inverse_gives}

-- ---- why an accepted edit was not refused

first_none : {A : Type 0} (a b : Option A) → option_or a b ≡ None → a ≡ None
first_none None b h = refl
first_none (Some x) b h = cc

second_none : {A : Type 0} (a b : Option A) → option_or a b ≡ None → b ≡ None
second_none None b h = h
second_none (Some x) b h = cc

taken_not : {A : Type 0} (b : Bool) (x : A) → cond b (Some x) None ≡ None → b ≡ false
taken_not true x h = cc
taken_not false x h = refl

none_busy : (o : Option SubId) → refusal_by_subchannel o ≡ None → o ≡ None
none_busy None h = refl
none_busy (Some x) h = cc

-- E1 and E2, E4 and B1 weren't answered
pub no_key_refusal : (e : Edit) (s : State) → refusal_of e s ≡ None
    → refusal_by_key e.action (contains_key s.config (action_key e.action)) ≡ None
no_key_refusal e s h = first_none _ _ h

pub no_number_taken : (e : Edit) (s : State) → refusal_of e s ≡ None
    → is_number_taken (config_after e.action s.config) s.numbers e.places ≡ false
no_number_taken e s h = taken_not _ _ (first_none _ _ (second_none _ _ h))

pub no_subchannel_busy : (e : Edit) (s : State) → refusal_of e s ≡ None
    → first_not_quiet s.lives (altered_by e s) ≡ None
no_subchannel_busy e s h = none_busy _ (second_none _ _ (second_none _ _ h))

-- a subchannel among these is quiet where none is found busy
pub quiet_at : (lives : Lives) (xs : List SubId) → first_not_quiet lives xs ≡ None
    → (x : SubId) → list_any (eq_by_cmp sub_id_cmp x) xs ≡ true → is_not_quiet (get lives x) ≡ false
quiet_at lives xs none x h =
    none_found sub_id_cmp sub_ids_total sub_ids_exact (λ y. is_not_quiet (get lives y)) xs none x h

-- ---- off the cells of edits nothing changes

pub off_keys : (es : List Edit) (s : State) (q : Key)
    → list_any (eq_by_cmp key_cmp q) (cells_written_by_all es s).keys ≡ false
    → get (state_after_all es s).config q ≡ get s.config q
off_keys [] s q off = refl
off_keys (e ∷ es) s q off =
    off_keys es (state_after e s) q
    (not_in_second key_cmp q (action_key e.action ∷ []) (cells_written_by_all es (state_after e s)).keys off)
    ∙ off_key e.action s.config q
    (not_in_first key_cmp q (action_key e.action ∷ []) (cells_written_by_all es (state_after e s)).keys off)

pub off_cells : (es : List Edit) (s : State) (q : NumberCell)
    → list_any (eq_by_cmp cell_cmp q) (cells_written_by_all es s).numbers ≡ false
    → get (cells_of (state_after_all es s).numbers) q ≡ get (cells_of s.numbers) q
off_cells [] s q off = refl
off_cells (e ∷ es) s q off =
    off_cells es (state_after e s) q
    (not_in_second cell_cmp q (cells_written e s).numbers (cells_written_by_all es (state_after e s)).numbers off)
    ∙ sym (off_numbers s.numbers (state_after e s).numbers q
    (not_in_first cell_cmp q (cells_written e s).numbers (cells_written_by_all es (state_after e s)).numbers off))

pub off_sight : (es : List Edit) (s : State) (x : SubId) → IsNotAmong x (cells_written_by_all es s).subchannels
    → seen_in (state_after_all es s) x ≡ seen_in s x
off_sight [] s x off = refl
off_sight (e ∷ es) s x off =
    off_sight es (state_after e s) x
    (not_in_second sub_id_cmp x (altered_by e s) (cells_written_by_all es (state_after e s)).subchannels off)
    ∙ sym (unaltered_sees s (state_after e s) x
    (not_in_first sub_id_cmp x (altered_by e s) (cells_written_by_all es (state_after e s)).subchannels off))

pub off_lives : (es : List Edit) (s : State) (x : SubId) → HasLives s
    → IsNotAmong x (cells_written_by_all es s).subchannels
    → get (state_after_all es s).lives x ≡ get s.lives x
off_lives [] s x lived off = refl
off_lives (e ∷ es) s x lived off =
    off_lives es (state_after e s) x (lived_after e s lived)
    (not_in_second sub_id_cmp x (altered_by e s) (cells_written_by_all es (state_after e s)).subchannels off)
    ∙ keeps_the_others e s x lived
    (not_in_first sub_id_cmp x (altered_by e s) (cells_written_by_all es (state_after e s)).subchannels off)

-- ---- states stay sound

own_by : (b : Bool) (key k : Key) (after old : Option Rec) → eq_by_cmp key_cmp key k ≡ b
    → ((r : Rec) → after ≡ Some r → key_of r ≡ k)
    → ((r : Rec) → old ≡ Some r → key_of r ≡ key) → (r : Rec) → cond b after old ≡ Some r → key_of r ≡ key
own_by true key k after old e own kept r h = own r h ∙ sym (same_key key_cmp keys_exact key k e)
own_by false key k after old e own kept r h = kept r h

after_own : (a : Action) (r : Rec) → record_after a ≡ Some r → key_of r ≡ action_key a
after_own (add r) x h = ap key_of (inner x r (sym h))
  where
    inner : (x r : Rec) → Some x ≡ Some r → x ≡ r
    inner x r e = cc
after_own (delete key) x h = cc
after_own (modify r) x h = ap key_of (inner x r (sym h))
  where
    inner : (x r : Rec) → Some x ≡ Some r → x ≡ r
    inner x r e = cc

pub keyed_after : (a : Action) (c : Configuration) → IsKeyed c → IsKeyed (config_after a c)
keyed_after a c own = own_keyed (config_after a c) (λ key r h.
    own_by (eq_by_cmp key_cmp key (action_key a)) key (action_key a) (record_after a) (get c key) refl (after_own a)
    (keyed_own c own key) r
    (sym (get_with_value keys_total keys_exact c (action_key a) (record_after a) key) ∙ h))

pub sound_after : (e : Edit) (s : State) → IsSound s
    → is_number_taken (config_after e.action s.config) s.numbers e.places ≡ false → IsSound (state_after e s)
sound_after e s sound free = record {
  keyed = keyed_after e.action s.config sound.keyed;
  numbered = numbers_after_are_numbers s.config (config_after e.action s.config) e.places s.numbers sound.numbered free;
  lived = lived_after e s sound.lived;
}

pub stays_sound : StaysSound
stays_sound [] s sound free = sound
stays_sound (e ∷ es) s sound free = stays_sound es (state_after e s) (sound_after e s sound free.0) free.1

pub accepted_carry : AcceptedCarryFreeNumbers
accepted_carry [] s accepted = tt
accepted_carry (e ∷ es) s accepted = (no_number_taken e s accepted.0, accepted_carry es (state_after e s) accepted.1)

-- ---- what edits do is to write their effect

pub writes_its_effect : WritesItsEffect
writes_its_effect es s sound free =
    let t = state_after_all es s in let w = cells_written_by_all es s in
    let config = with_cells_is keys_total keys_exact s.config t.config w.keys (λ q off. sym (off_keys es s q off)) in
    let numbers = ap numbering_of
    (with_cells_is cells_total cells_exact (cells_of s.numbers) (cells_of t.numbers) w.numbers
    (λ q off. sym (off_cells es s q off)))
    ∙ cells_give_numbers t.config t.numbers (stays_sound es s sound free).numbered in
    let lives = with_cells_is sub_ids_total sub_ids_exact s.lives t.lives w.subchannels
    (λ x off. sym (off_lives es s x sound.lived off)) in
    λ i. record { config = config i; numbers = numbers i; lives = lives i }

pub puts_back : PutsBack
puts_back es s sound =
    let t = state_after_all es s in let w = cells_written_by_all es s in
    let config = with_cells_is keys_total keys_exact t.config s.config w.keys (off_keys es s) in
    let numbers = ap numbering_of
    (with_cells_is cells_total cells_exact (cells_of t.numbers) (cells_of s.numbers) w.numbers (off_cells es s))
    ∙ cells_give_numbers s.config s.numbers sound.numbered in
    let lives = with_cells_is sub_ids_total sub_ids_exact t.lives s.lives w.subchannels
    (λ x off. off_lives es s x sound.lived off) in
    λ i. record { config = config i; numbers = numbers i; lives = lives i }

-- ---- there and back

kept_by : (b : Bool) (k l u : Option Live) → k ≡ cond b l None → cond b k u ≡ cond b l u
kept_by true k l u e = e
kept_by false k l u e = refl

there_by : (b : Bool) (l u : Option Live) (seen : Option View) → is_some l ≡ is_some seen
    → (b ≡ false → is_some u ≡ is_some seen)
    → is_some (cond b l u) ≡ is_some seen
there_by true l u seen own other = own
there_by false l u seen own other = other refl

merged_by : (a b : Bool) (x y z : Option Live) → (a ≡ false → y ≡ x) → cond a x (cond b y z) ≡ cond (a || b) x z
merged_by true b x y z same = refl
merged_by false true x y z same = same refl
merged_by false false x y z same = refl

quiet_by : (b : Bool) (x y : Option Live) → (b ≡ true → is_not_quiet x ≡ false) → (b ≡ false → is_not_quiet y ≡ false)
    → is_not_quiet (cond b x y) ≡ false
quiet_by true x y f g = f refl
quiet_by false x y f g = g refl

-- the records of a state overwrite those of another at some subchannels
abbrev overlaid : Lives → List SubId → Lives → Lives
overlaid from xs lives = with_cells (entries (cells_at from xs)) lives

overlaid_at : (from : Lives) (xs : List SubId) (lives : Lives) (x : SubId)
    → get (overlaid from xs lives) x ≡ cond (list_any (eq_by_cmp sub_id_cmp x) xs) (get from x) (get lives x)
overlaid_at from xs lives x = get_with_cells_as sub_ids_total sub_ids_exact from xs lives x

-- the inverse of an edit, with the records that it keeps
pub one_back : (e : Edit) (s u : State) → IsSound s → HasConfigAndNumbersOf u (state_after e s)
    → state_after (inverse_of e s) u ≡ given s s.lives (altered_by e s) u
one_back e s u sound like =
    let carried = (inverse_of e s).lives in
    let lives : overlaid carried (altered_by e s) u.lives ≡ overlaid s.lives (altered_by e s) u.lives =
    same_map sub_ids_total sub_ids_exact _ _ (λ x.
    overlaid_at carried (altered_by e s) u.lives x
    ∙ kept_by (list_any (eq_by_cmp sub_id_cmp x) (altered_by e s)) (get carried x) (get s.lives x) (get u.lives x)
    (get_retained sub_ids_total sub_ids_exact s.lives (is_altered s (state_after e s)) x
    ∙ ap (λ b. cond b (get s.lives x) None) (sym (among_altered s (state_after e s) x)))
    ∙ sym (overlaid_at s.lives (altered_by e s) u.lives x)) in
    inverse_gives e s u carried sound like (λ x. refl)
    ∙ (λ i. record { config = s.config; numbers = s.numbers; lives = lives i })

-- a state that is given its records at some subchannels has them where something is seen
pub given_like : (t u : State) (xs : List SubId) → HasLives t
    → ((x : SubId) → IsNotAmong x xs → is_some (get u.lives x) ≡ is_some (seen_in t x))
    → HasConfigAndNumbersOf (given t t.lives xs u) t
given_like t u xs lived other = record {
  config = refl;
  numbers = refl;
  lived = λ x. ap is_some (overlaid_at t.lives xs u.lives x)
      ∙ there_by (list_any (eq_by_cmp sub_id_cmp x) xs) (get t.lives x) (get u.lives x) (seen_in t x) (lived x)
      (other x);
}

pub all_append : (es fs : List Edit) (u : State)
    → state_after_all (es ++ fs) u ≡ state_after_all fs (state_after_all es u)
all_append [] fs u = refl
all_append (e ∷ es) fs u = all_append es fs (state_after e u)

pub accepted_append : (es fs : List Edit) (u : State) → AreAccepted es u → AreAccepted fs (state_after_all es u)
    → AreAccepted (es ++ fs) u
accepted_append [] fs u first second = second
accepted_append (e ∷ es) fs u first second = (first.0, accepted_append es fs (state_after e u) first.1 second)

-- what is seen at the end of a run, where nothing of it was altered
pub seen_like : (es : List Edit) (s u : State) → HasConfigAndNumbersOf u (state_after_all es s) → (x : SubId)
    → IsNotAmong x (cells_written_by_all es s).subchannels
    → is_some (get u.lives x) ≡ is_some (seen_in s x)
seen_like es s u like x off =
    like.lived x ∙ (λ i. is_some (get (views_of (like.config i) (like.numbers i)) x))
    ∙ ap is_some (off_sight es s x off)

later_by : (b c : Bool) → (b || c) ≡ true → b ≡ false → c ≡ true
later_by true c h e = cc
later_by false c h e = h

by_first : {A : Type 0} (b : Bool) → (b ≡ true → A) → (b ≡ false → A) → A
by_first true f g = f refl
by_first false f g = g refl

-- what a run alters was quiet before it
pub altered_were_quiet : (es : List Edit) (s : State) (x : SubId) → HasLives s → AreAccepted es s
    → list_any (eq_by_cmp sub_id_cmp x) (cells_written_by_all es s).subchannels ≡ true
    → is_not_quiet (get s.lives x) ≡ false
altered_were_quiet [] s x lived accepted h = cc
altered_were_quiet (e ∷ es) s x lived accepted h =
    let t = state_after e s in
    by_first (list_any (eq_by_cmp sub_id_cmp x) (altered_by e s))
    (λ here. quiet_at s.lives (altered_by e s) (no_subchannel_busy e s accepted.0) x here)
    (λ off. ap is_not_quiet (sym (keeps_the_others e s x lived off))
    ∙ altered_were_quiet es t x (lived_after e s lived) accepted.1
    (later_by _ _ (sym (list_any-append (eq_by_cmp sub_id_cmp x) (altered_by e s)
    (cells_written_by_all es t).subchannels) ∙ h) off))

-- an action that was accepted can be taken back
pub back_passes : (key : Key) (old : Option Rec) (a : Action) → refusal_by_key a (is_some old) ≡ None
    → refusal_by_key (action_back key old (record_after a)) (is_some (record_after a)) ≡ None
back_passes key None (add r) h = refl
back_passes key (Some old) (add r) h = cc
back_passes key None (delete k) h = cc
back_passes key (Some old) (delete k) h = refl
back_passes key None (modify r) h = cc
back_passes key (Some old) (modify r) h = refl

pub key_there : (a : Action) (c : Configuration) → get (config_after a c) (action_key a) ≡ record_after a
key_there a c = get_with_value keys_total keys_exact c (action_key a) (record_after a) (action_key a)
    ∙ ap (λ r. cond (is_eq r) (record_after a) (get c (action_key a))) (tied_itself keys_total (action_key a))

none_of_three : (a : Option Refused) (b : Bool) (r : Refused) (c : Option SubId) → a ≡ None → b ≡ false → c ≡ None
    → option_or a (option_or (cond b (Some r) None) (refusal_by_subchannel c)) ≡ None
none_of_three a b r c p q w = rw (p, q, w) refl

-- the inverses of a run give back its cells
pub run_back : (es : List Edit) (s u : State) → IsSound s → CarryFreeNumbers es s
    → HasConfigAndNumbersOf u (state_after_all es s)
    → state_after_all (inverses es s) u ≡ given s s.lives (cells_written_by_all es s).subchannels u
run_back [] s u sound free like =
    let lives : u.lives ≡ overlaid s.lives [] u.lives =
    same_map sub_ids_total sub_ids_exact _ _ (λ x. sym (overlaid_at s.lives [] u.lives x)) in
    λ i. record { config = like.config i; numbers = like.numbers i; lives = lives i }
run_back (e ∷ es) s u sound free like =
    let t = state_after e s in let later = (cells_written_by_all es t).subchannels in
    let v = given t t.lives later u in
    let lives : overlaid s.lives (altered_by e s) v.lives ≡ overlaid s.lives (altered_by e s ++ later) u.lives =
    same_map sub_ids_total sub_ids_exact _ _ (λ x.
    overlaid_at s.lives (altered_by e s) v.lives x
    ∙ ap (cond (list_any (eq_by_cmp sub_id_cmp x) (altered_by e s)) (get s.lives x))
    (overlaid_at t.lives later u.lives x)
    ∙ merged_by (list_any (eq_by_cmp sub_id_cmp x) (altered_by e s)) (list_any (eq_by_cmp sub_id_cmp x) later)
    (get s.lives x) (get t.lives x) (get u.lives x)
    (λ off. keeps_the_others e s x sound.lived off)
    ∙ ap (λ b. cond b (get s.lives x) (get u.lives x))
    (sym (list_any-append (eq_by_cmp sub_id_cmp x) (altered_by e s) later))
    ∙ sym (overlaid_at s.lives (altered_by e s ++ later) u.lives x)) in
    all_append (inverses es t) (inverse_of e s ∷ []) u
    ∙ ap (state_after (inverse_of e s)) (run_back es t u (sound_after e s sound free.0) free.1 like)
    ∙ one_back e s v sound (given_like t u later (lived_after e s sound.lived) (seen_like es t u like))
    ∙ (λ i. record { config = s.config; numbers = s.numbers; lives = lives i })

-- the inverse of an accepted edit is accepted where what it alters is quiet
inverse_accepted : (e : Edit) (s v : State) → IsSound s → refusal_of e s ≡ None
    → HasConfigAndNumbersOf v (state_after e s)
    → ((x : SubId) → list_any (eq_by_cmp sub_id_cmp x) (altered_by e s) ≡ true → is_not_quiet (get v.lives x) ≡ false)
    → refusal_of (inverse_of e s) v ≡ None
inverse_accepted e s v sound accepted like quiet =
    let t = state_after e s in let a = (inverse_of e s).action in let k = action_key e.action in
    let by_key : refusal_by_key a (contains_key v.config (action_key a)) ≡ None =
    (λ i. refusal_by_key a (contains_key (like.config i)
    (back_key k (get s.config k) (record_after e.action) (keyed_own s.config sound.keyed k) i)))
    ∙ ap (λ o. refusal_by_key a (is_some o)) (key_there e.action s.config)
    ∙ back_passes k (get s.config k) e.action (no_key_refusal e s accepted) in
    let config : config_after a v.config ≡ s.config =
    ap (config_after a) like.config ∙ config_back e.action s.config sound.keyed in
    let by_number : is_number_taken (config_after a v.config) v.numbers (inverse_of e s).places ≡ false =
    (λ i. is_number_taken (config i) (like.numbers i) (inverse_of e s).places)
    ∙ freed_are_not_taken s.config t.config e.places s.numbers sound.numbered in
    let there : state_after (inverse_of e s) v ≡ given s s.lives (altered_by e s) v = one_back e s v sound like in
    let same : (x : SubId) → list_any (eq_by_cmp sub_id_cmp x) (altered_by (inverse_of e s) v)
    ≡ list_any (eq_by_cmp sub_id_cmp x) (altered_by e s) =
    λ x. among_altered v (state_after (inverse_of e s) v) x
    ∙ (λ i. not (option_eq same_view (get (views_of (like.config i) (like.numbers i)) x) (seen_in (there i) x)))
    ∙ ap not (sight_turned (seen_in t x) (seen_in s x)) ∙ sym (among_altered s t x) in
    let by_busy : first_not_quiet v.lives (altered_by (inverse_of e s) v) ≡ None =
    find_none sub_id_cmp sub_ids_total sub_ids_exact (λ x. is_not_quiet (get v.lives x)) (altered_by (inverse_of e s) v)
    (λ x h. quiet x (sym (same x) ∙ h)) in
    none_of_three _ _ _ _ by_key by_number by_busy

-- and so are those of a run
pub inverses_accepted : InversesAreAccepted
inverses_accepted [] s u sound accepted like quiet = tt
inverses_accepted (e ∷ es) s u sound accepted like quiet =
    let t = state_after e s in let later = (cells_written_by_all es t).subchannels in
    let among : (x : SubId) → list_any (eq_by_cmp sub_id_cmp x) (altered_by e s ++ later)
    ≡ (list_any (eq_by_cmp sub_id_cmp x) (altered_by e s) || list_any (eq_by_cmp sub_id_cmp x) later) =
    λ x. list_any-append (eq_by_cmp sub_id_cmp x) (altered_by e s) later in
    let sound_t = sound_after e s sound (no_number_taken e s accepted.0) in
    let v = given t t.lives later u in
    let like_v : HasConfigAndNumbersOf v t = given_like t u later sound_t.lived (seen_like es t u like) in
    let quiet_v : (x : SubId) → list_any (eq_by_cmp sub_id_cmp x) (altered_by e s) ≡ true
    → is_not_quiet (get v.lives x) ≡ false =
    λ x h. ap is_not_quiet (overlaid_at t.lives later u.lives x)
    ∙ quiet_by (list_any (eq_by_cmp sub_id_cmp x) later) (get t.lives x) (get u.lives x)
    (λ l. altered_were_quiet es t x sound_t.lived accepted.1 l)
    (λ l. quiet x (among x ∙ ap (λ b. b || list_any (eq_by_cmp sub_id_cmp x) later) h)) in
    let there = run_back es t u sound_t (accepted_carry es t accepted.1) like in
    accepted_append (inverses es t) (inverse_of e s ∷ []) u
    (inverses_accepted es t u sound_t accepted.1 like
    (λ x h. quiet x (among x ∙ or_right (list_any (eq_by_cmp sub_id_cmp x) (altered_by e s)) _ h)))
    (ap (refusal_of (inverse_of e s)) there ∙ inverse_accepted e s v sound accepted.0 like_v quiet_v, tt)

pub run_goes_back : RunGoesBack
run_goes_back es s u sound free like =
    let w = cells_written_by_all es s in let t = state_after_all es s in
    let config = ap (with_cells (entries (cells_at s.config w.keys))) like.config
    ∙ with_cells_is keys_total keys_exact t.config s.config w.keys (off_keys es s) in
    let numbers = (λ i. numbering_of
    (with_cells (entries (cells_at (cells_of s.numbers) w.numbers)) (cells_of (like.numbers i))))
    ∙ ap numbering_of (with_cells_is cells_total cells_exact (cells_of t.numbers) (cells_of s.numbers) w.numbers
    (off_cells es s))
    ∙ cells_give_numbers s.config s.numbers sound.numbered in
    let effect : with_effect (values_in s w) u ≡ given s s.lives w.subchannels u =
    λ i. record { config = config i; numbers = numbers i; lives = overlaid s.lives w.subchannels u.lives } in
    run_back es s u sound free like ∙ sym effect
