-- One cell of a store, whichever kind it is of: what it has, what effects write to it, and that
-- stores that agree at each cell are equal.
use Rattle.std.proofs.Common.{◌≡◌, Bool, true, false, cond, ◌||◌, List, [], ◌∷◌, ℕ, Option, Some, None, is_some, refl}
use Rattle.std.proofs.Common.{sym, ap, ◌∙◌}
use Rattle.std.proofs.lemmas.Bool.{or_parts}
use Rattle.std.specs.List.{list_any}
use Rattle.std.specs.Option.{option_map, unwrap_or}
use Rattle.std.specs.Ordering.{eq_by_cmp}
use Rattle.std.specs.declared.cmp.Ordering.{Ordering}
use Rattle.std.specs.FinMap.{FinMap, IsAntisymmetric, get, entries, keys, empty, contains_key, contains_key-keys}
use Rattle.std.specs.FinMap.{get-empty, get-entries, get-insert, same_map}
use Rattle.iocm_types.specs.declared.key.Key.{Key}
use Rattle.iocm_types.specs.declared.live.Live.{Live}
use Rattle.iocm_types.specs.declared.place.NumberCell.{NumberCell}
use Rattle.iocm_types.specs.declared.sub_id.SubId.{SubId}
use Rattle.iocm_types.specs.Key.{key_cmp}
use Rattle.iocm_types.specs.Place.{cell_cmp}
use Rattle.iocm_types.specs.SubId.{sub_id_cmp}
use Rattle.iocm_types.specs.KeyOrder.{keys_total, keys_exact, cells_total, cells_exact, sub_ids_total, sub_ids_exact}
use Rattle.iocm_types.proofs.Found.{same_key}
use Rattle.iocm_model.specs.Machine.Record.{Rec}
use Rattle.iocm_model.specs.Machine.Numbering.{cells_of}
use Rattle.iocm_model.specs.Change.Effect.{Cells, Effect, values_in}
use Rattle.iocm_model.specs.Operation.State.{State, IsSound, is_among}
use Rattle.iocm_model.specs.Operation.Step.{Step}
use Rattle.iocm_model.proofs.Maps.Cells.{get_with_cells, get_cells_at}
use Rattle.iocm_model.proofs.Numbers.Cells.{cells_give_numbers}
use Rattle.iocm_history.specs.Entry.{no_effect}
use Rattle.iocm_history.specs.Store.{Store, store_of, state_of, store_with}
use Rattle.iocm_history.specs.Change.{Change, effect_of_change, cells_of_change, altered, share_a_cell}
use Rattle.iocm_history.specs.MarkedEntry.{step, effect_of_act}

-- a cell: that of a record, of a number, or of a live record
pub data Cell : Type 0 where
  at_key : Key → Cell
  at_number : NumberCell → Cell
  at_subchannel : SubId → Cell

-- what a cell may have
pub data Value : Type 0 where
  of_record : Option Rec → Value
  of_device : Option ℕ → Value
  of_live : Option Live → Value

-- what a store has at a cell
abbrev pub read : Store → Cell → Value
read m (at_key k) = of_record (get m.records k)
read m (at_number c) = of_device (get m.numbers c)
read m (at_subchannel x) = of_live (get m.lives x)

-- what an effect writes there, if it does
abbrev pub written : Effect → Cell → Option Value
written f (at_key k) = option_map of_record (get f.records k)
written f (at_number c) = option_map of_device (get f.numbers c)
written f (at_subchannel x) = option_map of_live (get f.lives x)

-- whether it is one of these
abbrev pub is_one_of : Cells → Cell → Bool
is_one_of w (at_key k) = list_any (eq_by_cmp key_cmp k) w.keys
is_one_of w (at_number c) = list_any (eq_by_cmp cell_cmp c) w.numbers
is_one_of w (at_subchannel x) = is_among x w.subchannels

-- ---- overwriting

unwrap_map : {A B : Type 0} (f : A → B) (o : Option A) (d : A) → f (unwrap_or o d) ≡ unwrap_or (option_map f o) (f d)
unwrap_map f None d = refl
unwrap_map f (Some x) d = refl

-- a store with an effect has at a cell what was written, and else what it had
pub read_with : (f : Effect) (m : Store) (q : Cell) → read (store_with f m) q ≡ unwrap_or (written f q) (read m q)
read_with f m (at_key k) =
    ap of_record (get_with_cells keys_total keys_exact (entries f.records) m.records k
    ∙ ap (λ o. unwrap_or o (get m.records k)) (sym (get-entries f.records k)))
    ∙ unwrap_map of_record (get f.records k) (get m.records k)
read_with f m (at_number c) =
    ap of_device (get_with_cells cells_total cells_exact (entries f.numbers) m.numbers c
    ∙ ap (λ o. unwrap_or o (get m.numbers c)) (sym (get-entries f.numbers c)))
    ∙ unwrap_map of_device (get f.numbers c) (get m.numbers c)
read_with f m (at_subchannel x) =
    ap of_live (get_with_cells sub_ids_total sub_ids_exact (entries f.lives) m.lives x
    ∙ ap (λ o. unwrap_or o (get m.lives x)) (sym (get-entries f.lives x)))
    ∙ unwrap_map of_live (get f.lives x) (get m.lives x)

map_cond : {A B : Type 0} (f : A → B) (b : Bool) (x : A)
    → option_map f (cond b (Some x) None) ≡ cond b (Some (f x)) None
map_cond f true x = refl
map_cond f false x = refl

-- the values of a state at some cells are what it has there
pub written_values : (s : State) (w : Cells) (q : Cell)
    → written (values_in s w) q ≡ cond (is_one_of w q) (Some (read (store_of s) q)) None
written_values s w (at_key k) =
    ap (option_map of_record) (get_cells_at keys_total keys_exact s.config w.keys k)
    ∙ map_cond of_record _ (get s.config k)
written_values s w (at_number c) =
    ap (option_map of_device) (get_cells_at cells_total cells_exact (cells_of s.numbers) w.numbers c)
    ∙ map_cond of_device _ (get (cells_of s.numbers) c)
written_values s w (at_subchannel x) =
    ap (option_map of_live) (get_cells_at sub_ids_total sub_ids_exact s.lives w.subchannels x)
    ∙ map_cond of_live _ (get s.lives x)

-- nothing is written by no effect
pub none_written : (q : Cell) → written no_effect q ≡ None
none_written (at_key k) = ap (option_map of_record) (get-empty key_cmp k)
none_written (at_number c) = ap (option_map of_device) (get-empty cell_cmp c)
none_written (at_subchannel x) = ap (option_map of_live) (get-empty sub_id_cmp x)

-- a step writes at its subchannel alone
pub step_writes : (x y : SubId) (made : Step) (l : Option Live)
    → written (effect_of_act (step x made l)) (at_subchannel y)
    ≡ cond (eq_by_cmp sub_id_cmp y x) (Some (of_live l)) None
step_writes x y made l =
    ap (option_map of_live) (get-insert sub_ids_total empty x l y
    ∙ ap (cond (eq_by_cmp sub_id_cmp y x) (Some l)) (get-empty sub_id_cmp y))
    ∙ map_cond of_live (eq_by_cmp sub_id_cmp y x) l

unwrap_by : {A : Type 0} (b : Bool) (x d : A) → unwrap_or (cond b (Some x) None) d ≡ cond b x d
unwrap_by true x d = refl
unwrap_by false x d = refl

-- cells overwritten as a state has them
pub read_values : (s : State) (w : Cells) (m : Store) (q : Cell)
    → read (store_with (values_in s w) m) q ≡ cond (is_one_of w q) (read (store_of s) q) (read m q)
read_values s w m q = read_with (values_in s w) m q ∙ ap (λ o. unwrap_or o (read m q)) (written_values s w q)
    ∙ unwrap_by (is_one_of w q) (read (store_of s) q) (read m q)

-- ---- equal stores

record_inner : (a b : Option Rec) → of_record a ≡ of_record b → a ≡ b
record_inner a b e = cc

device_inner : (a b : Option ℕ) → of_device a ≡ of_device b → a ≡ b
device_inner a b e = cc

live_inner : (a b : Option Live) → of_live a ≡ of_live b → a ≡ b
live_inner a b e = cc

-- what is read at a kind of cell
pub records_read : (m o : Store) → ((k : Key) → read m (at_key k) ≡ read o (at_key k)) → m.records ≡ o.records
records_read m o same = same_map keys_total keys_exact m.records o.records (λ k. record_inner _ _ (same k))

pub numbers_read : (m o : Store) → ((c : NumberCell) → read m (at_number c) ≡ read o (at_number c))
    → m.numbers ≡ o.numbers
numbers_read m o same = same_map cells_total cells_exact m.numbers o.numbers (λ c. device_inner _ _ (same c))

pub live_read : (m o : Store) (x : SubId) → read m (at_subchannel x) ≡ read o (at_subchannel x)
    → get m.lives x ≡ get o.lives x
live_read m o x same = live_inner _ _ same

-- stores that agree at each cell are equal
pub same_store : (m o : Store) → ((q : Cell) → read m q ≡ read o q) → m ≡ o
same_store m o same =
    let records = records_read m o (λ k. same (at_key k)) in
    let numbers = numbers_read m o (λ c. same (at_number c)) in
    let lives = same_map sub_ids_total sub_ids_exact m.lives o.lives (λ x. live_read m o x (same (at_subchannel x))) in
    λ i. record { records = records i; numbers = numbers i; lives = lives i }

-- the cells of a sound state are the state
pub state_of_store : (s : State) → IsSound s → state_of (store_of s) ≡ s
state_of_store s sound = let numbers = cells_give_numbers s.config s.numbers sound.numbered in
    λ i. record { config = s.config; numbers = numbers i; lives = s.lives }

-- ---- the cells of a change

there_by : {A : Type 0} (b : Bool) (x : A) → is_some (cond b (Some x) None) ≡ b
there_by true x = refl
there_by false x = refl

-- the subchannels of an effect are those that its edits altered
pub altered_cells : (c : Change) (x : SubId) → is_among x (altered c) ≡ is_among x (cells_of_change c).subchannels
altered_cells c x = sym (contains_key-keys (effect_of_change c).lives x)
    ∙ ap is_some (get_cells_at sub_ids_total sub_ids_exact _ (cells_of_change c).subchannels x)
    ∙ there_by (is_among x (cells_of_change c).subchannels) _

-- a change writes at a cell exactly where it is one of its cells
pub change_writes : (c : Change) (q : Cell) → is_some (written (effect_of_change c) q) ≡ is_one_of (cells_of_change c) q
change_writes c q = ap is_some (written_values _ (cells_of_change c) q) ∙ there_by (is_one_of (cells_of_change c) q) _

-- ---- effects that share no cell

module _ {K : Type 0} {R : K → K → Ordering} (exact : IsAntisymmetric R) where
  -- a test that fails at each of some keys fails at a key that is among them
  fails_among : (test : K → Bool) (ks : List K) (q : K) → list_any test ks ≡ false → list_any (eq_by_cmp R q) ks ≡ true
      → test q ≡ false
  fails_among test [] q none is = cc
  fails_among test (k ∷ ks) q none is =
      let both = or_parts _ _ none in
      by (eq_by_cmp R q k) refl is both.0 (λ more. fails_among test ks q both.1 more)
    where
      by : (b : Bool) → eq_by_cmp R q k ≡ b → (b || list_any (eq_by_cmp R q) ks) ≡ true → test k ≡ false
          → (list_any (eq_by_cmp R q) ks ≡ true → test q ≡ false) → test q ≡ false
      by true e is here more = ap test (same_key R exact q k e) ∙ here
      by false e is here more = more is

module _ {K X Y : Type 0} {R : K → K → Ordering} (exact : IsAntisymmetric R) where
  -- of two maps that share no key, one has none where the other has one
  not_both : (f : FinMap R X) (g : FinMap R Y) → list_any (contains_key g) (keys f) ≡ false → (q : K)
      → contains_key f q ≡ true → contains_key g q ≡ false
  not_both f g none q has = fails_among exact (contains_key g) (keys f) q none (sym (contains_key-keys f q) ∙ has)

map_some : {A B : Type 0} (f : A → B) (o : Option A) → is_some (option_map f o) ≡ is_some o
map_some f None = refl
map_some f (Some x) = refl

map_none : {A B : Type 0} (f : A → B) (o : Option A) → is_some o ≡ false → option_map f o ≡ None
map_none f None none = refl
map_none f (Some x) none = cc

-- of two effects that share no cell, one writes nothing where the other writes
pub not_shared : (f g : Effect) → share_a_cell f g ≡ false → (q : Cell) → is_some (written f q) ≡ true
    → written g q ≡ None
not_shared f g none (at_key k) has =
    let first = or_parts _ _ none in let parts =
    or_parts (list_any (contains_key g.records) (keys f.records)) _ first.0 in
    map_none of_record (get g.records k)
    (not_both keys_exact f.records g.records parts.0 k (sym (map_some of_record (get f.records k)) ∙ has))
not_shared f g none (at_number c) has =
    let first = or_parts _ _ none in let parts =
    or_parts (list_any (contains_key g.records) (keys f.records)) _ first.0 in
    map_none of_device (get g.numbers c)
    (not_both cells_exact f.numbers g.numbers parts.1 c (sym (map_some of_device (get f.numbers c)) ∙ has))
not_shared f g none (at_subchannel x) has =
    let first = or_parts _ _ none in
    map_none of_live (get g.lives x)
    (not_both sub_ids_exact f.lives g.lives first.1 x (sym (map_some of_live (get f.lives x)) ∙ has))
