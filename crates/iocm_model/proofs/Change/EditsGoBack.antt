-- What one edit alters, writes and leaves alone, and that its inverse takes it back.
use Rattle.std.proofs.Common.{◌≡◌, ℕ, Bool, true, false, cond, not, ◌||◌, nat_eq, eqb-true, List, [], ◌∷◌, Option, Some}
use Rattle.std.proofs.Common.{None, refl, sym, ap, ◌∙◌}
use Rattle.std.specs.List.{list_any}
use Rattle.std.specs.Option.{option_eq, is_some}
use Rattle.std.specs.Ordering.{eq_by_cmp}
use Rattle.std.specs.FinMap.{get, entries, same_map}
use Rattle.iocm_types.specs.declared.key.Key.{Key}
use Rattle.iocm_types.specs.declared.place.NumberCell.{NumberCell}
use Rattle.iocm_types.specs.declared.sub_id.SubId.{SubId}
use Rattle.iocm_types.specs.Key.{key_cmp}
use Rattle.iocm_types.specs.Place.{cell_cmp}
use Rattle.iocm_types.specs.SubId.{sub_id_cmp}
use Rattle.iocm_types.specs.KeyOrder.{keys_total, keys_exact, cells_total, cells_exact, sub_ids_total, sub_ids_exact}
use Rattle.iocm_types.proofs.Found.{same_key}
use Rattle.iocm_model.specs.Machine.Record.{Rec, key_of}
use Rattle.iocm_model.specs.Machine.Configuration.{Configuration, IsKeyed}
use Rattle.iocm_model.specs.Machine.Numbering.{Numbering, cells_of, numbering_of}
use Rattle.iocm_model.specs.Change.Renumbering.{numbers_after}
use Rattle.iocm_model.specs.Change.Maps.{with_value, with_cells, cells_at, differing}
use Rattle.iocm_model.specs.Operation.State.{State, Lives, views_of, views_in, seen_in, is_among, HasLives, IsSound}
use Rattle.iocm_model.specs.Operation.State.{HasConfigAndNumbersOf}
use Rattle.iocm_model.specs.Change.Edit.{Action, Edit, action_key, record_after, config_after, same_view}
use Rattle.iocm_model.specs.Change.Edit.{lives_after_edit, state_after, altered_between, altered_by, is_altered}
use Rattle.iocm_model.specs.Change.Inverse.{action_back, inverse_of}
use Rattle.iocm_model.specs.Change.Effect.{values_in, with_effect, cells_written}
use Rattle.iocm_model.specs.Laws.Edits.{AltersWhatDiffers, KeepsTheOthers}
use Rattle.iocm_model.specs.Laws.Runs.{HasSameKeys, GoesBack}
use Rattle.iocm_model.proofs.Maps.Cells.{get_with_value, get_with_cells_as, in_differing, get_retained}
use Rattle.iocm_model.proofs.Change.SameViews.{sight_is, sight_holds}
use Rattle.iocm_model.proofs.Change.Lives.{lives_after_edit_at, same_keeps, left_there, left_back}
use Rattle.iocm_model.proofs.Machine.OwnKeys.{keyed_own}
use Rattle.iocm_model.proofs.Numbers.Back.{renumbering_goes_back}
use Rattle.iocm_model.proofs.Numbers.Cells.{cells_give_numbers}
use Rattle.iocm_model.proofs.Maps.Overwriting.{with_cells_is}

-- a subchannel isn't one of these
abbrev pub IsNotAmong : SubId → List SubId → Type 0
IsNotAmong x xs = is_among x xs ≡ false

not_false : (b : Bool) → not b ≡ false → b ≡ true
not_false true h = refl
not_false false h = sym h

-- ---- what is altered

-- a subchannel is among those that differ exactly where what is seen there differs
pub among_altered : (s t : State) (x : SubId)
    → list_any (eq_by_cmp sub_id_cmp x) (altered_between s t) ≡ is_altered s t x
among_altered s t x = in_differing sub_ids_total sub_ids_exact same_view (views_in s) (views_in t) x

pub unaltered_sees : (s t : State) (x : SubId) → IsNotAmong x (altered_between s t) → seen_in s x ≡ seen_in t x
unaltered_sees s t x off = sight_is (seen_in s x) (seen_in t x) (not_false _ (sym (among_altered s t x) ∙ off))

pub alters_what_differs : AltersWhatDiffers
alters_what_differs e s x = (
  (λ off. unaltered_sees s (state_after e s) x off),
  (λ same. among_altered s (state_after e s) x ∙ ap not (sight_holds _ _ same)),
)

pub keeps_the_others : KeepsTheOthers
keeps_the_others e s x lived off = lives_after_edit_at (views_in s) (views_in (state_after e s)) e.lives s.lives x
    ∙ same_keeps (seen_in s x) (seen_in (state_after e s) x) (get e.lives x) (get s.lives x)
    (sight_holds _ _ (unaltered_sees s (state_after e s) x off)) (lived x)

-- there is a live record exactly where something is seen afterwards
pub lived_after : (e : Edit) (s : State) → HasLives s → HasLives (state_after e s)
lived_after e s lived x = ap is_some (lives_after_edit_at (views_in s) (views_in (state_after e s)) e.lives s.lives x)
    ∙ left_there (seen_in s x) (seen_in (state_after e s) x) (get e.lives x) (get s.lives x) (lived x)

-- ---- the configuration

pub back_key : (key : Key) (old after : Option Rec) → ((r : Rec) → old ≡ Some r → key_of r ≡ key)
    → action_key (action_back key old after) ≡ key
back_key key None after own = refl
back_key key (Some old) None own = own old refl
back_key key (Some old) (Some new) own = own old refl

pub back_record : (key : Key) (old after : Option Rec) → record_after (action_back key old after) ≡ old
back_record key None after = refl
back_record key (Some old) None = refl
back_record key (Some old) (Some new) = refl

restored : (b : Bool) (c : Configuration) (k q : Key) (new : Option Rec) → eq_by_cmp key_cmp q k ≡ b
    → cond b (get c k) (cond b new (get c q)) ≡ get c q
restored true c k q new e = ap (get c) (sym (same_key key_cmp keys_exact q k e))
restored false c k q new e = refl

-- the old record put back gives the old configuration
pub config_back : (a : Action) (c : Configuration) → IsKeyed c
    → config_after (action_back (action_key a) (get c (action_key a)) (record_after a)) (config_after a c) ≡ c
config_back a c own =
    let k = action_key a in
    (λ i. with_value (config_after a c) (back_key k (get c k) (record_after a) (keyed_own c own k) i)
    (back_record k (get c k) (record_after a) i))
    ∙ same_map keys_total keys_exact _ _ (λ q. get_with_value keys_total keys_exact (config_after a c) k (get c k) q
    ∙ ap (cond (eq_by_cmp key_cmp q k) (get c k)) (get_with_value keys_total keys_exact c k (record_after a) q)
    ∙ restored (eq_by_cmp key_cmp q k) c k q (record_after a) refl)

off_one : (b : Bool) (x y : Option Rec) → (b || false) ≡ false → cond b x y ≡ y
off_one true x y h = cc
off_one false x y h = refl

-- off the key of an edit the configuration stays
pub off_key : (a : Action) (c : Configuration) (q : Key) → list_any (eq_by_cmp key_cmp q) (action_key a ∷ []) ≡ false
    → get (config_after a c) q ≡ get c q
off_key a c q off = get_with_value keys_total keys_exact c (action_key a) (record_after a) q
    ∙ off_one (eq_by_cmp key_cmp q (action_key a)) (record_after a) (get c q) off

-- ---- the numbers

same_number : (a b : Option ℕ) → option_eq nat_eq a b ≡ true → a ≡ b
same_number None None h = refl
same_number None (Some y) h = cc
same_number (Some x) None h = cc
same_number (Some x) (Some y) h = ap Some (eqb-true x y h)

-- off the number cells that differ the same devices have the numbers
pub off_numbers : (n m : Numbering) (q : NumberCell)
    → list_any (eq_by_cmp cell_cmp q) (differing nat_eq (cells_of n) (cells_of m)) ≡ false
    → get (cells_of n) q ≡ get (cells_of m) q
off_numbers n m q off = same_number _ _
    (not_false _ (sym (in_differing cells_total cells_exact nat_eq (cells_of n) (cells_of m) q) ∙ off))

-- ---- there and back

-- the configuration and the numbers of a state, with some live records overwritten
abbrev pub given : State → Lives → List SubId → State → State
given s carried xs u = record
    { config = s.config; numbers = s.numbers; lives = with_cells (entries (cells_at carried xs)) u.lives }

lives_back : (e : Edit) (s u : State) (carried : Lives) → HasLives s
    → ((x : SubId) → is_some (get u.lives x) ≡ is_some (seen_in (state_after e s) x))
    → HasSameKeys carried (inverse_of e s).lives
    → lives_after_edit (views_in (state_after e s)) (views_in s) carried u.lives
    ≡ with_cells (entries (cells_at carried (altered_by e s))) u.lives
lives_back e s u carried lived here same = same_map sub_ids_total sub_ids_exact _ _ (λ x.
    lives_after_edit_at (views_in (state_after e s)) (views_in s) carried u.lives x
    ∙ left_back (seen_in s x) (seen_in (state_after e s) x) (get carried x) (get s.lives x) (get u.lives x) (lived x)
    (here x)
    (same x ∙ ap is_some (get_retained sub_ids_total sub_ids_exact s.lives (is_altered s (state_after e s)) x))
    ∙ ap (λ b. cond b (get carried x) (get u.lives x)) (sym (among_altered s (state_after e s) x))
    ∙ sym (get_with_cells_as sub_ids_total sub_ids_exact carried (altered_by e s) u.lives x))

here_of : (u t : State) → HasConfigAndNumbersOf u t → (x : SubId) → is_some (get u.lives x) ≡ is_some (seen_in t x)
here_of u t like x = like.lived x ∙ (λ i. is_some (get (views_of (like.config i) (like.numbers i)) x))

-- what the inverse does
pub inverse_gives : (e : Edit) (s u : State) (carried : Lives) → IsSound s → HasConfigAndNumbersOf u (state_after e s)
    → HasSameKeys carried (inverse_of e s).lives
    → state_after (record (inverse_of e s) { lives = carried }) u ≡ given s carried (altered_by e s) u
inverse_gives e s u carried sound like same =
    let a = (inverse_of e s).action in
    let config : config_after a u.config ≡ s.config =
    ap (config_after a) like.config ∙ config_back e.action s.config sound.keyed in
    let numbers : numbers_after (config_after a u.config) (inverse_of e s).places u.numbers ≡ s.numbers =
    (λ i. numbers_after (config i) (inverse_of e s).places (like.numbers i))
    ∙ renumbering_goes_back s.config (state_after e s).config e.places s.numbers sound.numbered in
    let lives = (λ i. lives_after_edit (views_of (like.config i) (like.numbers i)) (views_of (config i) (numbers i))
    carried u.lives)
    ∙ lives_back e s u carried sound.lived (here_of u (state_after e s) like) same in
    λ i. record { config = config i; numbers = numbers i; lives = lives i }

-- and what writing the cells does
effect_gives : (e : Edit) (s u : State) (carried : Lives) → IsSound s → HasConfigAndNumbersOf u (state_after e s)
    → with_effect (record (values_in s (cells_written e s)) { lives = cells_at carried (altered_by e s) }) u
    ≡ given s carried (altered_by e s) u
effect_gives e s u carried sound like =
    let t = state_after e s in
    let config = ap (with_cells (entries (cells_at s.config (action_key e.action ∷ [])))) like.config
    ∙ with_cells_is keys_total keys_exact t.config s.config (action_key e.action ∷ []) (off_key e.action s.config) in
    let differ = differing nat_eq (cells_of s.numbers) (cells_of t.numbers) in
    let numbers = (λ i. numbering_of
    (with_cells (entries (cells_at (cells_of s.numbers) differ)) (cells_of (like.numbers i))))
    ∙ ap numbering_of (with_cells_is cells_total cells_exact (cells_of t.numbers) (cells_of s.numbers) differ
    (λ q off. sym (off_numbers s.numbers t.numbers q off)))
    ∙ cells_give_numbers s.config s.numbers sound.numbered in
    λ i. record {
      config = config i;
      numbers = numbers i;
      lives = with_cells (entries (cells_at carried (altered_by e s))) u.lives;
    }

pub goes_back : GoesBack
goes_back e s u carried sound like same =
    inverse_gives e s u carried sound like same ∙ sym (effect_gives e s u carried sound like)
