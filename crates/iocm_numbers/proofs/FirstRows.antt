-- The rows of numbers, one device, set and channel subsystem after the other.
use Rattle.std.proofs.Common.{◌≡◌, ℕ, ◌+◌, ◌<◌, ◌≤◌, true, false, cond, List, [], ◌∷◌, ◌++◌, map, length, get_or, drop}
use Rattle.std.proofs.Common.{sym, ap, subst, ◌∙◌, arith, append_assoc}
use Rattle.std.proofs.lemmas.List.{append-nil}
use Rattle.std.proofs.Math.ListN.{drop_of_length-le}
use Rattle.std.specs.List.{flat_map, filter}
use Rattle.iocm_types.specs.declared.place.Place.{Place}
use Rattle.iocm_types.proofs.Lists.{drop-item, drop-range}
use Rattle.iocm_model.specs.Machine.Numbering.{numbers_from, sets, subsystems}
use Rattle.iocm_numbers.specs.declared.device_reach.DeviceReach.{DeviceReach}
use Rattle.iocm_numbers.specs.Opening.{is_numbered, numbered, RiseFrom}

-- ---- one device

-- a device that isn't numbered leaves the rest
pub numbered_past : (css set : ℕ) (ds : List DeviceReach) (i : ℕ) (d : DeviceReach) → i < length ds → d ≡ get_or ds i d
    → is_numbered css set d ≡ false
    → numbered css set (drop i ds) ≡ numbered css set (drop (i + 1) ds)
numbered_past css set ds i d within item other =
    ap (numbered css set) (drop-item ds i d within item)
    ∙ ap (λ b. map (λ (e : DeviceReach). e.number)
    (cond b (d ∷ filter (is_numbered css set) (drop (i + 1) ds)) (filter (is_numbered css set) (drop (i + 1) ds))))
    other

-- a device that is numbered is the first of the rest
pub numbered_here : (css set : ℕ) (ds : List DeviceReach) (i : ℕ) (d : DeviceReach) → i < length ds → d ≡ get_or ds i d
    → is_numbered css set d ≡ true
    → numbered css set (drop i ds) ≡ d.number ∷ numbered css set (drop (i + 1) ds)
numbered_here css set ds i d within item is =
    ap (numbered css set) (drop-item ds i d within item)
    ∙ ap (λ b. map (λ (e : DeviceReach). e.number)
    (cond b (d ∷ filter (is_numbered css set) (drop (i + 1) ds)) (filter (is_numbered css set) (drop (i + 1) ds)))) is

-- device numbers that rise from one on rise from each lower one on
pub rise_lower : (m n : ℕ) (ds : List ℕ) → m ≤ n → RiseFrom n ds → RiseFrom m ds
rise_lower m n [] low rise = tt
rise_lower m n (d ∷ ds) low rise = let above = rise.0 in (omega arith, rise.1)

-- ---- parts, one behind the other

-- the sets from one on, and the channel subsystems
pub set_at : (i : ℕ) → i < 4 → drop i sets ≡ i ∷ drop (i + 1) sets
set_at i h = drop-range 4 i h

pub subsystem_at : (i : ℕ) → i < 6 → drop i subsystems ≡ i ∷ drop (i + 1) subsystems
subsystem_at i h = drop-range 6 i h

module _ {X : Type 0} (f : ℕ → List X) (xs : List ℕ) (i : ℕ) where
  -- a part that is put behind what is there comes off what is left
  pub part_more : (old now : List X) (x : ℕ) → drop i xs ≡ i ∷ drop (i + 1) xs → x ≡ i → now ≡ old ++ f x
      → now ++ flat_map f (drop (i + 1) xs) ≡ old ++ flat_map f (drop i xs)
  part_more old now x here is more =
      ap (λ ys. ys ++ flat_map f (drop (i + 1) xs)) more
      ∙ append_assoc old (f x) (flat_map f (drop (i + 1) xs))
      ∙ ap (λ k. old ++ (f k ++ flat_map f (drop (i + 1) xs))) is
      ∙ sym (ap (λ ks. old ++ flat_map f ks) here)

  -- behind the last part nothing is left
  pub part_end : (now : List X) → length xs ≤ i → now ++ flat_map f (drop i xs) ≡ now
  part_end now past = ap (λ ks. now ++ flat_map f ks) (drop_of_length-le xs past) ∙ append-nil now

-- ---- one device more

-- the devices that are left rise from the next number on, and the rows so far with theirs are all
pub record IsSoFar (css set : ℕ) (left : List ℕ) (all rows : List (Place × ℕ)) (next : ℕ) : Type 0 where
  pub rise : RiseFrom next left
  pub rest : rows ++ numbers_from css set next left ≡ all

module _ (css set n : ℕ) (ds : List DeviceReach) (i : ℕ) (d : DeviceReach) (within : i < length ds)
    (item : d ≡ get_or ds i d) where
  module _ (all old now : List (Place × ℕ)) (next : ℕ)
      (so_far : IsSoFar css set (numbered css set (drop i ds)) all old n) where
    -- a device that isn't numbered changes nothing
    pub kept_past : is_numbered css set d ≡ false → now ≡ old → next ≡ n
        → IsSoFar css set (numbered css set (drop (i + 1) ds)) all now next
    kept_past other same no_more = rw (same, no_more, ← numbered_past css set ds i d within item other) so_far

    -- a device that is numbered takes the next number, and its row goes behind the others
    pub kept_here : is_numbered css set d ≡ true
        → now ≡ old ++ (record { css = css; set = set; device = d.number }, n) ∷ [] → next ≡ n + 1
        → IsSoFar css set (numbered css set (drop (i + 1) ds)) all now next
    kept_here is more one_more =
        let opened = numbered_here css set ds i d within item is in
        let rise : RiseFrom n (d.number ∷ numbered css set (drop (i + 1) ds)) = subst (RiseFrom n) opened so_far.rise in
        let low : n ≤ d.number = rise.0 in
        record {
          rise = rise_lower next (d.number + 1) (numbered css set (drop (i + 1) ds)) (omega arith) rise.1;
          rest = rw (more, one_more)
              (append_assoc old _ _ ∙ ap (λ xs. old ++ numbers_from css set n xs) (sym opened) ∙ so_far.rest);
        }
