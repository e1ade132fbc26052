-- Numbers that are made of rows at once: their cells and their bits are those of the rows.
use Rattle.std.proofs.Common.{◌≡◌, ℕ, ◌<◌, Bool, true, false, cond, ◌||◌, List, [], ◌∷◌, length, get_or, drop}
use Rattle.std.proofs.Common.{replicate, ◌+◌, Option, Some, None, is_some, refl, sym, ap, subst, ◌∙◌}
use Rattle.std.proofs.lemmas.List.{length-replicate}
use Rattle.std.specs.declared.cmp.Ordering.{Ordering}
use Rattle.std.specs.List.{IsDistinct, AllByRecursion}
use Rattle.std.specs.Map.{keys_of}
use Rattle.std.specs.Ordering.{eq_by_cmp}
use Rattle.std.specs.FinMap.{FinMap, find, get, from_entries, contains_key, get-from_entries, same_map}
use Rattle.std.proofs.lemmas.Map.Keys.{IsDistinct-tail, IsDistinct-head}
use Rattle.iocm_types.specs.declared.place.Place.{Place}
use Rattle.iocm_types.specs.declared.place.NumberCell.{NumberCell}
use Rattle.iocm_types.specs.Place.{place_cmp, cell_cmp}
use Rattle.iocm_types.specs.KeyOrder.{places_total, places_exact, cells_total, cells_exact}
use Rattle.iocm_types.proofs.Found.{same_key, ties_itself}
use Rattle.iocm_types.proofs.Lists.{drop-item}
use Rattle.iocm_table.specs.Slots.{Stored, rows}
use Rattle.iocm_model.specs.Machine.Numbering.{Numbering, cells_of}
use Rattle.iocm_model.proofs.Numbers.Cells.{IsApart, place, has_number, has_device}
use Rattle.iocm_numbers.specs.Bits.{is_bit_set}
use Rattle.iocm_numbers.specs.Numbered.{cell_at}
use Rattle.iocm_numbers.specs.TiedTables.{cells_in, bit_of, all_words, AreTied, AreNotedToo}
use Rattle.iocm_numbers.proofs.OneLess.{same_answer}
use Rattle.iocm_numbers.proofs.Tied.{none_set}

abbrev Rows : Type 0
Rows = List (Place × ℕ)

-- no place comes twice
abbrev AreDistinct : Rows → Type 0
AreDistinct es = IsDistinct (eq_by_cmp place_cmp) (keys_of es)

-- ---- look-ups among rows

-- a key that is told apart from all isn't found
missing : {K X : Type 0} (R : K → K → Ordering) (q : K) (es : List (K × X))
    → AllByRecursion (λ k. eq_by_cmp R q k ≡ false) (keys_of es) → find R q es ≡ None
missing R q [] apart = refl
missing R q (e ∷ es) apart = ap (λ b. cond b (Some e.1) (find R q es)) apart.0 ∙ missing R q es apart.1

-- the first row's place isn't behind it
first_gone : (e : Place × ℕ) (es : Rows) → AreDistinct (e ∷ es) → find place_cmp e.0 es ≡ None
first_gone e es apart = missing place_cmp e.0 es (IsDistinct-head (eq_by_cmp place_cmp) e.0 (keys_of es) apart)

-- what is found behind the first is found
later : (e : Place × ℕ) (es : Rows) → AreDistinct (e ∷ es) → (p : Place) (k : ℕ) → find place_cmp p es ≡ Some k
    → find place_cmp p (e ∷ es) ≡ Some k
later e es apart p k is = by (eq_by_cmp place_cmp p e.0) refl
  where
    by : (b : Bool) → eq_by_cmp place_cmp p e.0 ≡ b → cond b (Some e.1) (find place_cmp p es) ≡ Some k
    by false t = is
    by true t = let no : None ≡ Some k =
        sym (first_gone e es apart) ∙ ap (λ q. find place_cmp q es) (sym (same_key place_cmp places_exact p e.0 t))
        ∙ is in cc

-- ---- cells among rows

-- the device of a cell has its number
pub found_place : (es : Rows) → AreDistinct es → (q : NumberCell) (d : ℕ) → find cell_cmp q (cells_in es) ≡ Some d
    → find place_cmp (place q d) es ≡ Some q.number
found_place [] apart q d is = cc
found_place (e ∷ es) apart q d is =
    by (eq_by_cmp cell_cmp q (cell_at e.0 e.1)) refl is
    (λ h. found_place es (IsDistinct-tail (eq_by_cmp place_cmp) e.0 (keys_of es) apart) q d h)
  where
    value_or : Option ℕ → ℕ
    value_or (Some x) = x
    value_or None = 0

    by : (b : Bool) → eq_by_cmp cell_cmp q (cell_at e.0 e.1) ≡ b
        → cond b (Some e.0.device) (find cell_cmp q (cells_in es)) ≡ Some d
        → (find cell_cmp q (cells_in es) ≡ Some d → find place_cmp (place q d) es ≡ Some q.number)
        → find place_cmp (place q d) (e ∷ es) ≡ Some q.number
    by true t is more =
        let same : q ≡ cell_at e.0 e.1 = same_key cell_cmp cells_exact q (cell_at e.0 e.1) t in
        let device : e.0.device ≡ d = ap value_or is in
        let here : place q d ≡ e.0 = (λ i. record { css = (same i).css; set = (same i).set; device = sym device i }) in
        ap (λ b. cond b (Some e.1) (find place_cmp (place q d) es))
        (ap (λ p. eq_by_cmp place_cmp p e.0) here ∙ ties_itself place_cmp places_total e.0)
        ∙ ap (λ (c : NumberCell). Some c.number) (sym same)
    by false t is more = later e es apart (place q d) q.number (more is)

-- a number that is there has a cell
pub found_cell : (es : Rows) (p : Place) (k : ℕ) → find place_cmp p es ≡ Some k
    → is_some (find cell_cmp (cell_at p k) (cells_in es)) ≡ true
found_cell [] p k is = cc
found_cell (e ∷ es) p k is = by (eq_by_cmp place_cmp p e.0) refl is (λ h. found_cell es p k h)
  where
    value_or : Option ℕ → ℕ
    value_or (Some x) = x
    value_or None = 0

    or_later : (b : Bool) (o : Option ℕ) → is_some o ≡ true → is_some (cond b (Some e.0.device) o) ≡ true
    or_later true o h = refl
    or_later false o h = h

    by : (b : Bool) → eq_by_cmp place_cmp p e.0 ≡ b → cond b (Some e.1) (find place_cmp p es) ≡ Some k
        → (find place_cmp p es ≡ Some k → is_some (find cell_cmp (cell_at p k) (cells_in es)) ≡ true)
        → is_some (find cell_cmp (cell_at p k) (cells_in (e ∷ es))) ≡ true
    by true t is more =
        let same : p ≡ e.0 = same_key place_cmp places_exact p e.0 t in
        let number : e.1 ≡ k = ap value_or is in
        let here : cell_at p k ≡ cell_at e.0 e.1 = (λ i. cell_at (same i) (sym number i)) in
        ap (λ b. is_some (cond b (Some e.0.device) (find cell_cmp (cell_at p k) (cells_in es))))
        (ap (λ c. eq_by_cmp cell_cmp c (cell_at e.0 e.1)) here ∙ ties_itself cell_cmp cells_total (cell_at e.0 e.1))
    by false t is more = or_later (eq_by_cmp cell_cmp (cell_at p k) (cell_at e.0 e.1)) _ (more is)

-- the cells of rows are those of their numbers
pub cells_same : (es : Rows) → AreDistinct es → IsApart (from_entries es)
    → from_entries {R = cell_cmp} (cells_in es) ≡ cells_of (from_entries es)
cells_same es distinct apart = same_map cells_total cells_exact _ _ (λ q. same_answer _ _ (there q) (here q))
  where
    there : (q : NumberCell) (d : ℕ) → get (from_entries {R = cell_cmp} (cells_in es)) q ≡ Some d
        → get (cells_of (from_entries es)) q ≡ Some d
    there q d is = has_device (from_entries es) apart (place q d) q.number
        (get-from_entries places_total es (place q d)
        ∙ found_place es distinct q d (sym (get-from_entries cells_total (cells_in es) q) ∙ is))

    here : (q : NumberCell) (d : ℕ) → get (cells_of (from_entries es)) q ≡ Some d
        → is_some (get (from_entries {R = cell_cmp} (cells_in es)) q) ≡ true
    here q d is = ap is_some (get-from_entries cells_total (cells_in es) q)
        ∙ found_cell es (place q d) q.number
        (sym (get-from_entries places_total es (place q d)) ∙ has_number (from_entries es) q d is)

-- ---- no cell comes twice

-- where no number comes twice, as it is found among rows
abbrev ApartIn : Rows → Type 0
ApartIn es = (p q : Place) (k : ℕ) → p.css ≡ q.css → p.set ≡ q.set → find place_cmp p es ≡ Some k
    → find place_cmp q es ≡ Some k → p ≡ q

each_told : (q : NumberCell) (cs : List (NumberCell × ℕ)) → find cell_cmp q cs ≡ None
    → AllByRecursion (λ k. eq_by_cmp cell_cmp q k ≡ false) (keys_of cs)
each_told q [] none = tt
each_told q (c ∷ cs) none = by (eq_by_cmp cell_cmp q c.0) refl none (λ h. each_told q cs h)
  where
    by : (b : Bool) → eq_by_cmp cell_cmp q c.0 ≡ b → cond b (Some c.1) (find cell_cmp q cs) ≡ None
        → (find cell_cmp q cs ≡ None → AllByRecursion (λ k. eq_by_cmp cell_cmp q k ≡ false) (keys_of cs))
        → AllByRecursion (λ k. eq_by_cmp cell_cmp q k ≡ false) (c.0 ∷ keys_of cs)
    by true t none more = cc
    by false t none more = (t, more none)

pub cells_distinct : (es : Rows) → AreDistinct es → ApartIn es → IsDistinct (eq_by_cmp cell_cmp) (keys_of (cells_in es))
unfolding IsDistinct
cells_distinct [] distinct apart = tt
cells_distinct (e ∷ es) distinct apart =
    let rest : AreDistinct es = IsDistinct-tail (eq_by_cmp place_cmp) e.0 (keys_of es) distinct in (
      each_told (cell_at e.0 e.1) (cells_in es) (alone rest (find cell_cmp (cell_at e.0 e.1) (cells_in es)) refl),
      cells_distinct es rest (λ p q k css set a b.
          apart p q k css set (later e es distinct p k a) (later e es distinct q k b)),
    )
  where
    alone : AreDistinct es → (o : Option ℕ) → find cell_cmp (cell_at e.0 e.1) (cells_in es) ≡ o
        → find cell_cmp (cell_at e.0 e.1) (cells_in es) ≡ None
    alone rest None is = is
    alone rest (Some d) is =
        let behind : find place_cmp (place (cell_at e.0 e.1) d) es ≡ Some e.1 =
        found_place es rest (cell_at e.0 e.1) d is in
        let first : find place_cmp e.0 (e ∷ es) ≡ Some e.1 =
        ap (λ b. cond b (Some e.1) (find place_cmp e.0 es)) (ties_itself place_cmp places_total e.0) in
        let same : place (cell_at e.0 e.1) d ≡ e.0 =
        apart (place (cell_at e.0 e.1) d) e.0 e.1 refl refl
        (later e es distinct (place (cell_at e.0 e.1) d) e.1 behind) first in
        let no : None ≡ Some e.1 = sym (first_gone e es distinct) ∙ ap (λ p. find place_cmp p es) (sym same) ∙ behind in
        cc

-- the numbers of rows in which none comes twice
pub apart_in : (es : Rows) → IsApart (from_entries es) → ApartIn es
apart_in es apart p q k css set a b =
    apart p q k css set (get-from_entries places_total es p ∙ a) (get-from_entries places_total es q ∙ b)

-- ---- bits

-- what is noted with the rows that are left is noted with all
pub record IsNoting (es : Rows) (i : ℕ) (start now : List ℕ) : Type 0 where
  pub left : (new : List ℕ) → AreNotedToo (drop i es) now new → AreNotedToo es start new
  pub small : AllByRecursion (λ row. row.0.device < 65536) (drop i es) → AllByRecursion (λ row. row.0.device < 65536) es
  pub len : length now ≡ length start

pub notes_one : (es : Rows) (i : ℕ) (start now next : List ℕ) (row : Place × ℕ) → i < length es → row ≡ get_or es i row
    → IsNoting es i start now
    → AreNotedToo (row ∷ []) now next → row.0.device < 65536 → length next ≡ length now → IsNoting es (i + 1) start next
notes_one es i start now next row within item before noted small len = record {
  left = λ new rest. before.left new
      (subst (λ (rs : Rows). AreNotedToo rs now new) (sym (drop-item es i row within item))
      (λ css set number c6 low most. rest css set number c6 low most
      ∙ ap (λ b. b || is_some (find cell_cmp (record { css = css; set = set; number = number })
      (cells_in (drop (i + 1) es))))
      (noted css set number c6 low most) ∙ joined (is_bit_set now (bit_of css set number))
      (eq_by_cmp cell_cmp (record { css = css; set = set; number = number }) (cell_at row.0 row.1)) row.0.device _));
  small = λ rest. before.small
      (subst (AllByRecursion (λ (r : Place × ℕ). r.0.device < 65536)) (sym (drop-item es i row within item))
      (small, rest));
  len = len ∙ before.len;
}
  where
    joined : (a b : Bool) (d : ℕ) (o : Option ℕ)
        → ((a || is_some (cond b (Some d) None)) || is_some o) ≡ (a || is_some (cond b (Some d) o))
    joined true b d o = refl
    joined false true d o = refl
    joined false false d o = refl

-- before the first
pub notes_none : (es : Rows) (start : List ℕ) → IsNoting es 0 start start
notes_none es start = record { left = λ new h. h; small = λ h. h; len = refl }

-- ---- the three tables

-- a place that is found has a small device number
small_found : (es : Rows) → AllByRecursion (λ row. row.0.device < 65536) es → (p : Place) (k : ℕ)
    → find place_cmp p es ≡ Some k → p.device < 65536
small_found [] small p k is = cc
small_found (e ∷ es) small p k is = by (eq_by_cmp place_cmp p e.0) refl is (λ h. small_found es small.1 p k h)
  where
    by : (b : Bool) → eq_by_cmp place_cmp p e.0 ≡ b → cond b (Some e.1) (find place_cmp p es) ≡ Some k
        → (find place_cmp p es ≡ Some k → p.device < 65536) → p.device < 65536
    by true t is more = subst (λ (x : Place). x.device < 65536) (sym (same_key place_cmp places_exact p e.0 t)) small.0
    by false t is more = more is

-- the tables of rows say the same
pub tied_rows : (es : Rows) (places : Stored Place ℕ) (cells : Stored NumberCell ℕ) (clear words : List ℕ) (n : ℕ)
    → AreDistinct es → IsApart (from_entries es)
    → rows place_cmp places ≡ from_entries es → rows cell_cmp cells ≡ from_entries (cells_in es) → n ≡ all_words
    → clear ≡ replicate n 0
    → AreNotedToo es clear words → AllByRecursion (λ row. row.0.device < 65536) es → length words ≡ length clear
    → AreTied places cells words
tied_rows es places cells clear words n distinct apart places_are cells_are all zeros noted small len = record {
  same = cells_are ∙ cells_same es distinct apart ∙ ap cells_of (sym places_are);
  apart = subst IsApart (sym places_are) apart;
  small = λ p k has. small_found es small p k
      (sym (get-from_entries places_total es p) ∙ ap (λ (m : Numbering). get m p) (sym places_are) ∙ has);
  whole = len ∙ ap length zeros ∙ length-replicate {A = ℕ} n 0 ∙ all;
  bits = λ css set number c6 s4 most. noted css set number c6 s4 most
      ∙ ap (λ b. b || is_some (find cell_cmp (record { css = css; set = set; number = number }) (cells_in es)))
      (ap (λ (ws : List ℕ). is_bit_set ws (bit_of css set number)) zeros ∙ none_set n (bit_of css set number))
      ∙ ap is_some (sym (get-from_entries cells_total (cells_in es) (record { css = css; set = set; number = number })))
      ∙ ap (λ (m : FinMap cell_cmp ℕ). contains_key m (record { css = css; set = set; number = number }))
      (sym cells_are);
}
