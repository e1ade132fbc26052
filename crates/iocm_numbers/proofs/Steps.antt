-- The loops of renumbering: what is left to do gives what all would give, only those that come in
-- change, and what had room has it still.
use Rattle.std.proofs.Common.{◌≡◌, ℕ, ◌+◌, ◌<◌, Bool, true, false, cond, not, ◌&&◌, List, ◌∷◌, length, get_or, drop}
use Rattle.std.proofs.Common.{Option, Some, None, is_some, refl, sym, ap, subst, ◌∙◌}
use Rattle.std.proofs.lemmas.Bool.{or_parts}
use Rattle.std.specs.List.{fold, filter, list_any}
use Rattle.std.specs.Ordering.{eq_by_cmp}
use Rattle.std.specs.FinMap.{get, insert, contains_key}
use Rattle.iocm_types.specs.declared.place.Place.{Place}
use Rattle.iocm_types.specs.Place.{place_cmp}
use Rattle.iocm_types.specs.KeyOrder.{places_exact}
use Rattle.iocm_types.proofs.Lists.{drop-item}
use Rattle.iocm_types.proofs.Found.{same_key}
use Rattle.iocm_model.specs.Machine.Configuration.{Configuration}
use Rattle.iocm_model.specs.Machine.Numbering.{Numbering, is_reached_at, device_at}
use Rattle.iocm_model.specs.Change.Renumbering.{comes_in, without_leavers, with_carried, lowest_free}
use Rattle.iocm_model.specs.Change.Refusal.{is_number_taken, same_cell}
use Rattle.iocm_model.proofs.Numbers.Cells.{IsApart, place, has_number}
use Rattle.iocm_model.proofs.Numbers.Apart.{IsFreeFor, step_by, one_cell, free_for_carried}
use Rattle.iocm_model.proofs.Numbers.Changed.{comes_new, comes_reached, other_place}
use Rattle.iocm_numbers.specs.Numbered.{Numbered, cell_at, KeepsRoom}
use Rattle.iocm_numbers.specs.Renumbering.{filled_by, ChangesComersAlone}

-- one step more
fold_open : {A B : Type 0} (f : B → A → B) (b : B) (xs : List A) (i : ℕ) (x : A) → i < length xs → x ≡ get_or xs i x
    → fold f (f b x) (drop (i + 1) xs) ≡ fold f b (drop i xs)
fold_open f b xs i x within item = ap (fold f b) (sym (drop-item xs i x within item))

-- ---- those that come in

-- whether a place comes in
abbrev comes : Configuration → Numbering → Place → Bool
comes c n p = is_reached_at c p && not (contains_key n p)

-- a place that comes in now came in at the start
came_in : (c : Configuration) (start now : Numbering) (p q : Place) (k : ℕ) → ChangesComersAlone c start now
    → comes c start q ≡ false
    → (b : Bool) → comes c now p ≡ b → (t : Bool) → eq_by_cmp place_cmp q p ≡ t
    → get (cond b (insert now p k) now) q ≡ get start q
came_in c start now p q k others out false e t f = others q out
came_in c start now p q k others out true e false f = other_place now p q k f ∙ others q out
came_in c start now p q k others out true e true f =
    let same : q ≡ p = same_key place_cmp places_exact q p f in
    let here : comes c now q ≡ true = ap (comes c now) same ∙ e in
    let none : comes c start q ≡ true = ap (λ o. is_reached_at c q && not (is_some o)) (sym (others q out)) ∙ here in
    cc

-- only those that come in change with one more
pub others_more : (c : Configuration) (start now : Numbering) (p : Place) (k : ℕ) → ChangesComersAlone c start now
    → ChangesComersAlone c start (cond (comes c now p) (insert now p k) now)
others_more c start now p k others q out =
    came_in c start now p q k others out (comes c now p) refl (eq_by_cmp place_cmp q p) refl

-- to fill is to give the lowest free number to what comes in
pub fills : (c : Configuration) (n : Numbering) (p : Place)
    → filled_by c n p ≡ cond (comes c n p) (insert n p (lowest_free n p.css p.set)) n
fills c n p = by (is_reached_at c p) (contains_key n p)
  where
    by : (r t : Bool) → cond r (cond t n (insert n p (lowest_free n p.css p.set))) n
        ≡ cond (r && not t) (insert n p (lowest_free n p.css p.set)) n
    by true true = refl
    by true false = refl
    by false t = refl

pub record IsFilling (c : Configuration) (touched : List Place) (i : ℕ) (start now : Numbered) : Type 0 where
  pub left : fold (filled_by c) now.numbers (drop i touched) ≡ fold (filled_by c) start.numbers touched
  pub others : ChangesComersAlone c start.numbers now.numbers
  pub room : KeepsRoom start now

pub fills_one : (c : Configuration) (touched : List Place) (i : ℕ) (start now next : Numbered) (p : Place)
    → i < length touched → p ≡ get_or touched i p
    → IsFilling c touched i start now → next.numbers ≡ filled_by c now.numbers p → KeepsRoom now next
    → IsFilling c touched (i + 1) start next
fills_one c touched i start now next p within item before is room = record {
  left = ap (λ (m : Numbering). fold (filled_by c) m (drop (i + 1) touched)) is
      ∙ fold_open (filled_by c) now.numbers touched i p within item ∙ before.left;
  others = subst (ChangesComersAlone c start.numbers) (sym (is ∙ fills c now.numbers p))
      (others_more c start.numbers now.numbers p (lowest_free now.numbers p.css p.set) before.others);
  room = λ q k h. room q k (before.room q k h);
}

-- ---- carried numbers

pub record IsCarrying (c : Configuration) (carried : List (Place × ℕ)) (i : ℕ) (start now : Numbered) : Type 0 where
  pub left : fold (with_carried c) now.numbers (drop i carried) ≡ fold (with_carried c) start.numbers carried
  pub free : IsFreeFor c start.numbers now.numbers (drop i carried)
  pub others : ChangesComersAlone c start.numbers now.numbers
  pub room : KeepsRoom start now

-- before the first
pub carries_none : (c : Configuration) (carried : List (Place × ℕ)) (start : Numbered) → IsApart start.numbers
    → without_leavers c start.numbers ≡ start.numbers
    → is_number_taken c start.numbers carried ≡ false → IsCarrying c carried 0 start start
carries_none c carried start apart stay free = record {
  left = refl;
  free = subst (λ (m : Numbering). IsFreeFor c start.numbers m carried) stay
      (free_for_carried c start.numbers apart carried free);
  others = λ p out. refl;
  room = λ p k h. h;
}

-- those of the carried that come in
abbrev arriving : Configuration → Numbering → List (Place × ℕ) → List (Place × ℕ)
arriving c n xs = filter (comes_in c n) xs

-- no device has the cell of a carried number that comes in
pub free_cell : (c : Configuration) (n m : Numbering) (x : Place × ℕ) (xs : List (Place × ℕ)) → IsFreeFor c n m (x ∷ xs)
    → comes c m x.0 ≡ true
    → device_at m (cell_at x.0 x.1) ≡ None
free_cell c n m x xs h e = by (device_at m (cell_at x.0 x.1)) refl
  where
    by : (o : Option ℕ) → device_at m (cell_at x.0 x.1) ≡ o → device_at m (cell_at x.0 x.1) ≡ None
    by None is = is
    by (Some d) is =
        let in_reach : is_reached_at c x.0 ≡ true = comes_reached c m x e in
        let new : contains_key n x.0 ≡ false = h.old x.0 in_reach (comes_new c m x e) in
        let first : arriving c n (x ∷ xs) ≡ x ∷ arriving c n xs =
        ap (λ b. cond b (x ∷ arriving c n xs) (arriving c n xs)) (λ i. in_reach i && not (new i)) in
        let holder : Place = place (cell_at x.0 x.1) d in
        let none : same_cell (holder, x.1) x ≡ false =
        (or_parts _ _ (sym (ap (list_any (same_cell (holder, x.1))) first)
        ∙ h.free holder x.1 (has_number m (cell_at x.0 x.1) d is))).0 in
        let all : same_cell (holder, x.1) x ≡ true = one_cell (holder, x.1) x refl refl refl in
        cc

-- what is free for those that are left, the first of them in front
pub next_free : (c : Configuration) (n m : Numbering) (carried : List (Place × ℕ)) (i : ℕ) (x : Place × ℕ)
    → i < length carried → x ≡ get_or carried i x
    → IsFreeFor c n m (drop i carried) → IsFreeFor c n m (x ∷ drop (i + 1) carried)
next_free c n m carried i x within item = subst (IsFreeFor c n m) (drop-item carried i x within item)

pub carries_one : (c : Configuration) (carried : List (Place × ℕ)) (i : ℕ) (start now next : Numbered) (x : Place × ℕ)
    → i < length carried → x ≡ get_or carried i x
    → IsCarrying c carried i start now → next.numbers ≡ with_carried c now.numbers x → KeepsRoom now next
    → IsCarrying c carried (i + 1) start next
carries_one c carried i start now next x within item before is room = record {
  left = ap (λ (m : Numbering). fold (with_carried c) m (drop (i + 1) carried)) is
      ∙ fold_open (with_carried c) now.numbers carried i x within item ∙ before.left;
  free = subst (λ (m : Numbering). IsFreeFor c start.numbers m (drop (i + 1) carried)) (sym is)
      (step_by c start.numbers now.numbers x (drop (i + 1) carried) (comes c now.numbers x.0) refl
      (next_free c start.numbers now.numbers carried i x within item before.free));
  others = subst (ChangesComersAlone c start.numbers) (sym is)
      (others_more c start.numbers now.numbers x.0 x.1 before.others);
  room = λ q k h. room q k (before.room q k h);
}
