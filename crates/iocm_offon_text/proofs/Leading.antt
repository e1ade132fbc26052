-- What is told of fields where one leads to devices, and where none does.
use Rattle.std.proofs.Common.{◌≡◌, ℕ, ◌==◌, ◌||◌, cond, Bool, true, false, List, [], ◌∷◌, filter, length, codes}
use Rattle.std.proofs.Common.{refl, sym, ap}
use Rattle.std.proofs.Math.Dec.{eqb-suc-zero}
use Rattle.std.proofs.lemmas.Bool.{false≢true}
use Rattle.std.specs.List.{flat_map, list_any}
use Rattle.iocm_objects.specs.Lines.{told_item, told_part}
use Rattle.iocm_objects.specs.declared.told.Told.{Told}

module _ (count : ℕ) where
  some_fields : (t : Told) (ts : List Told) → told_part count (t ∷ ts) ≡ flat_map (told_item count) (t ∷ ts)
  some_fields t ts =
      let some : (length (t ∷ ts) == 0) ≡ false = eqb-suc-zero (length ts) in
      ap (λ none. cond none (codes "written otherwise") (flat_map (told_item count) (t ∷ ts))) some

module _ (p : Told → Bool) (count : ℕ) where
  pub some_leads : (ts : List Told) → list_any p ts ≡ true
      → told_part count (filter p ts) ≡ flat_map (told_item count) (filter p ts)
  some_leads [] some = absurd (false≢true some)
  some_leads (t ∷ ts) some = by (p t) some (some_leads ts)
    where
      by : (b : Bool) → (b || list_any p ts) ≡ true
          → (list_any p ts ≡ true → told_part count (filter p ts) ≡ flat_map (told_item count) (filter p ts))
          → told_part count (cond b (t ∷ filter p ts) (filter p ts))
          ≡ flat_map (told_item count) (cond b (t ∷ filter p ts) (filter p ts))
      by true some rest = some_fields count t (filter p ts)
      by false some rest = rest some

  pub none_leads : (ts : List Told) → list_any p ts ≡ false
      → told_part count (filter p ts) ≡ codes "written otherwise"
  none_leads [] none = refl
  none_leads (t ∷ ts) none = by (p t) none (none_leads ts)
    where
      by : (b : Bool) → (b || list_any p ts) ≡ false
          → (list_any p ts ≡ false → told_part count (filter p ts) ≡ codes "written otherwise")
          → told_part count (cond b (t ∷ filter p ts) (filter p ts)) ≡ codes "written otherwise"
      by true none rest = absurd (false≢true (sym none))
      by false none rest = rest none
