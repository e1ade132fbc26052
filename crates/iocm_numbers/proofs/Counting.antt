-- A set has no more devices than device numbers, so that one that has no number finds one free.
use Rattle.std.proofs.Common.{◌≡◌, ℕ, ◌<◌, ◌≤◌, Bool, true, false, cond, ◌&&◌, ◌⊎◌, inl, inr, nat_eq, eqb-true, suc}
use Rattle.std.proofs.Common.{List, [], ◌∷◌, map, length, T, Option, Some, None, refl, sym, ap, subst, ◌∙◌, arith}
use Rattle.std.proofs.lemmas.Bool.{and_parts, or_parts, or_cases}
use Rattle.std.proofs.lemmas.Map.Steps.{length-le_from_distinct_below}
use Rattle.std.specs.List.{filter, list_any, IsDistinct, AllByRecursion}
use Rattle.std.specs.FinMap.{get, entries, entries_sorted, get-entries, is_sorted}
use Rattle.std.specs.FinMap.Entries.{find, below_all}
use Rattle.iocm_types.specs.declared.place.Place.{Place}
use Rattle.iocm_types.specs.declared.place.NumberCell.{NumberCell}
use Rattle.iocm_types.specs.Place.{cell_cmp}
use Rattle.iocm_types.specs.KeyOrder.{cells_total, cells_exact}
use Rattle.iocm_types.proofs.Entries.{not_found}
use Rattle.iocm_types.proofs.Found.{IsPassing, passing, found_first, found_later}
use Rattle.iocm_types.proofs.Tests.{first_holds, second_holds}
use Rattle.iocm_model.specs.Machine.Numbering.{Numbering, cells_of}
use Rattle.iocm_model.specs.Change.Renumbering.{numbers_in}
use Rattle.iocm_model.proofs.Numbers.Cells.{place, has_number}
use Rattle.iocm_model.proofs.Numbers.Apart.{any_kept}

module _ (n : Numbering) (css set : ℕ) where
  abbrev Cells : Type 0
  Cells = List (NumberCell × ℕ)

  -- a cell of this channel subsystem and set
  abbrev in_set : NumberCell × ℕ → Bool
  in_set e = nat_eq e.0.css css && nat_eq e.0.set set

  -- the devices of these cells in the set
  abbrev devices : Cells → List ℕ
  devices es = map (λ (e : NumberCell × ℕ). e.1) (filter in_set es)

  -- these cells' devices have their numbers
  abbrev AreHeld : Cells → Type 0
  AreHeld es = (q : NumberCell) (d : ℕ) → find cell_cmp q es ≡ Some d → get n (place q d) ≡ Some q.number

  -- a device of the cells, with its cell
  device_there : (es : Cells) → T (is_sorted cell_cmp es) → (d : ℕ) → list_any (nat_eq d) (devices es) ≡ true
      → IsPassing cell_cmp (λ e. in_set e && nat_eq d e.1) es
  device_there es up d there = passing cell_cmp cells_total cells_exact (λ e. in_set e && nat_eq d e.1) es up
      (sym (any_kept (nat_eq d) (λ (e : NumberCell × ℕ). e.1) in_set es) ∙ there)

  -- what is found behind the first is found
  rest_held : (e : NumberCell × ℕ) (es : Cells) → T (is_sorted cell_cmp (e ∷ es)) → AreHeld (e ∷ es) → AreHeld es
  rest_held e es up held q d is =
      held q d (found_later cell_cmp cells_total cells_exact q e es d (first_holds _ _ up) is)

  -- a cell's device has no other cell in the set behind it
  no_other : (e : NumberCell × ℕ) (es : Cells) → T (below_all cell_cmp e.0 es) → in_set e ≡ true
      → get n (place e.0 e.1) ≡ Some e.0.number → AreHeld es
      → IsPassing cell_cmp (λ x. in_set x && nat_eq e.1 x.1) es → ⊥
  no_other e es below here its held other =
      let parts = and_parts (in_set (other.key, other.value)) (nat_eq e.1 other.value) other.passes in
      let theirs = and_parts (nat_eq other.key.css css) (nat_eq other.key.set set) parts.0 in
      let mine = and_parts (nat_eq e.0.css css) (nat_eq e.0.set set) here in
      let same_css : e.0.css ≡ other.key.css =
      eqb-true e.0.css css mine.0 ∙ sym (eqb-true other.key.css css theirs.0) in
      let same_set : e.0.set ≡ other.key.set =
      eqb-true e.0.set set mine.1 ∙ sym (eqb-true other.key.set set theirs.1) in
      let same_device : e.1 ≡ other.value = eqb-true e.1 other.value parts.1 in
      let numbers : Some e.0.number ≡ Some other.key.number =
      sym its ∙ (λ i. get n (record { css = same_css i; set = same_set i; device = same_device i }))
      ∙ held other.key other.value other.found in
      let cell : e.0 ≡ other.key =
      (λ i. record { css = same_css i; set = same_set i; number = ap value_or numbers i }) in
      let none : find cell_cmp other.key es ≡ None =
      ap (λ k. find cell_cmp k es) (sym cell) ∙ not_found cell_cmp e.0 es below in
      let no : None ≡ Some other.value = sym none ∙ other.found in
      cc
    where
      value_or : Option ℕ → ℕ
      value_or (Some x) = x
      value_or None = 0

  -- the first cell's device isn't behind it
  first_alone : (e : NumberCell × ℕ) (es : Cells) → T (is_sorted cell_cmp (e ∷ es)) → AreHeld (e ∷ es) → in_set e ≡ true
      → (b : Bool) → list_any (nat_eq e.1) (devices es) ≡ b → list_any (nat_eq e.1) (devices es) ≡ false
  first_alone e es up held here false is = is
  first_alone e es up held here true is =
      absurd (no_other e es (first_holds _ _ up) here (held e.0 e.1 (found_first cell_cmp cells_total cells_exact e es))
      (rest_held e es up held)
      (device_there es (second_holds _ _ up) e.1 is))

  -- a test that fails at all fails at each
  each_fails : (d : ℕ) (ds : List ℕ) → list_any (nat_eq d) ds ≡ false → AllByRecursion (λ x. nat_eq d x ≡ false) ds
  each_fails d [] none = tt
  each_fails d (x ∷ xs) none = let parts = or_parts (nat_eq d x) (list_any (nat_eq d) xs) none in
      (parts.0, each_fails d xs parts.1)

  distinct_by : (e : NumberCell × ℕ) (es : Cells) (b : Bool) → (b ≡ true → list_any (nat_eq e.1) (devices es) ≡ false)
      → IsDistinct nat_eq (devices es)
      → IsDistinct nat_eq (map (λ (x : NumberCell × ℕ). x.1) (cond b (e ∷ filter in_set es) (filter in_set es)))
  unfolding IsDistinct
  distinct_by e es true alone rest = (each_fails e.1 (devices es) (alone refl), rest)
  distinct_by e es false alone rest = rest

  -- no device has two cells of a set
  devices_distinct : (es : Cells) → T (is_sorted cell_cmp es) → AreHeld es → IsDistinct nat_eq (devices es)
  unfolding IsDistinct
  devices_distinct [] up held = tt
  devices_distinct (e ∷ es) up held =
      distinct_by e es (in_set e) (λ here. first_alone e es up held here (list_any (nat_eq e.1) (devices es)) refl)
      (devices_distinct es (second_holds _ _ up) (rest_held e es up held))

  -- as many devices as numbers
  as_many : (es : List (NumberCell × ℕ))
      → length (map (λ (e : NumberCell × ℕ). e.1) es) ≡ length (map (λ (e : NumberCell × ℕ). e.0.number) es)
  as_many [] = refl
  as_many (e ∷ es) = ap suc (as_many es)

  -- where a device has no number, fewer than 65,536 are given away: there are no more device
  -- numbers
  pub room_for_one : (p : Place) → p.css ≡ css → p.set ≡ set → get n p ≡ None → p.device < 65536
      → ((q : Place) (k : ℕ) → get n q ≡ Some k → q.device < 65536) → length (numbers_in n css set) < 65536
  unfolding IsDistinct
  room_for_one p c s none low small =
      let es = entries (cells_of n) in
      let up = entries_sorted (cells_of n) in
      let held : AreHeld es = λ q d is. has_number n q d (get-entries (cells_of n) q ∙ is) in
      let holder : (d : ℕ) → list_any (nat_eq d) (devices es) ≡ true
      → (k : ℕ) × (get n (record { css = css; set = set; device = d }) ≡ Some k) = λ d there.
      let it = device_there es up d there in
      let parts = and_parts (in_set (it.key, it.value)) (nat_eq d it.value) it.passes in
      let within = and_parts (nat_eq it.key.css css) (nat_eq it.key.set set) parts.0 in
      let css_is : it.key.css ≡ css = eqb-true it.key.css css within.0 in
      let set_is : it.key.set ≡ set = eqb-true it.key.set set within.1 in
      let device_is : d ≡ it.value = eqb-true d it.value parts.1 in (
        it.key.number,
        (λ i. get n (record { css = sym css_is i; set = sym set_is i; device = device_is i }))
            ∙ held it.key it.value it.found,
      ) in
      let alone : list_any (nat_eq p.device) (devices es) ≡ false =
      by p c s none holder (list_any (nat_eq p.device) (devices es)) refl in
      let most : length (p.device ∷ devices es) ≤ 65536 = length-le_from_distinct_below (p.device ∷ devices es) 65536
      (distinct_with p.device (devices es) alone (devices_distinct es up held))
      (λ q there. below p low q (or_cases (nat_eq q p.device) (list_any (nat_eq q) (devices es)) there)
      (λ h. small (record { css = css; set = set; device = q }) (holder q h).0 (holder q h).1)) in
      omega (arith, most, as_many (filter in_set es))
    where
      by : (p : Place) → p.css ≡ css → p.set ≡ set → get n p ≡ None
          → ((d : ℕ) → list_any (nat_eq d) (devices (entries (cells_of n))) ≡ true
          → (k : ℕ) × (get n (record { css = css; set = set; device = d }) ≡ Some k))
          → (b : Bool) → list_any (nat_eq p.device) (devices (entries (cells_of n))) ≡ b
          → list_any (nat_eq p.device) (devices (entries (cells_of n))) ≡ false
      by p c s none holder false is = is
      by p c s none holder true is =
          let there = holder p.device is in
          let no : None ≡ Some there.0 =
          sym none ∙ (λ i. get n (record { css = c i; set = s i; device = p.device })) ∙ there.1 in cc

      distinct_with : (d : ℕ) (ds : List ℕ) → list_any (nat_eq d) ds ≡ false → IsDistinct nat_eq ds
          → IsDistinct nat_eq (d ∷ ds)
      distinct_with d ds none rest = (each_fails d ds none, rest)

      below : (p : Place) → p.device < 65536 → (q : ℕ)
          → ((nat_eq q p.device ≡ true) ⊎ (list_any (nat_eq q) (devices (entries (cells_of n))) ≡ true))
          → (list_any (nat_eq q) (devices (entries (cells_of n))) ≡ true → q < 65536) → q < 65536
      below p low q (inl same) more = subst (λ x. x < 65536) (sym (eqb-true q p.device same)) low
      below p low q (inr there) more = more there
