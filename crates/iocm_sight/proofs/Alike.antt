-- Devices that are alike have the same set, control units and candidates.
use Rattle.std.proofs.Common.{◌≡◌, ◌+◌, ◌&&◌, ◌==◌, ℕ, nat_eq, Bool, true, Option, None, Some, List, [], ◌∷◌, refl, ap}
use Rattle.std.proofs.lemmas.Bool.{eqb-true, false≢true, and_parts}
use Rattle.std.specs.Cmp.Lexicographic.{pointwise}
use Rattle.std.specs.Str.{bytes_eq}
use Rattle.iocm_model.specs.Machine.Record.{DeviceRecord}
use Rattle.iocm_deck_writer.specs.Device.{Run, same_operand, same_candidates, are_alike, continues}

same_items : {X : Type 0} (E : X → X → Bool) → ((x y : X) → E x y ≡ true → x ≡ y) → (xs ys : List X)
    → pointwise E xs ys ≡ true → xs ≡ ys
same_items E same [] [] all = refl
same_items E same [] (y ∷ ys) all = absurd (false≢true all)
same_items E same (x ∷ xs) [] all = absurd (false≢true all)
same_items E same (x ∷ xs) (y ∷ ys) all =
    let parts = and_parts (E x y) (pointwise E xs ys) all in
    λ i. same x y parts.0 i ∷ same_items E same xs ys parts.1 i

candidates_alike : (a b : Option (List (List ℕ))) → same_candidates a b ≡ true → a ≡ b
candidates_alike None None same = refl
candidates_alike None (Some b) same = absurd (false≢true same)
candidates_alike (Some a) None same = absurd (false≢true same)
candidates_alike (Some a) (Some b) same = ap Some (same_items bytes_eq (same_items nat_eq eqb-true) a b same)

pub record SameSight (a b : DeviceRecord) : Type 0 where
  pub set : a.set ≡ b.set
  pub units : a.units ≡ b.units
  pub candidates : a.candidates ≡ b.candidates

pub same_sight : (a b : DeviceRecord) → are_alike a b ≡ true → SameSight a b
same_sight a b alike =
    let all =
    and_parts (a.set == b.set && pointwise nat_eq a.units b.units && same_candidates a.candidates b.candidates)
    (pointwise same_operand a.carried b.carried) alike in
    let three = and_parts (a.set == b.set && pointwise nat_eq a.units b.units)
    (same_candidates a.candidates b.candidates) all.0 in
    let two = and_parts (a.set == b.set) (pointwise nat_eq a.units b.units) three.0 in
    record {
      set = eqb-true a.set b.set two.0;
      units = same_items nat_eq eqb-true a.units b.units two.1;
      candidates = candidates_alike a.candidates b.candidates three.1;
    }

-- a device that continues a run is so to the first
pub continues_alike : (r : Run) (d : DeviceRecord) → continues r d ≡ true → SameSight r.first d
continues_alike r d goes_on = same_sight r.first d (and_parts
    (d.number == r.first.number + r.count && d.unit_address == r.first.unit_address + r.count)
    (are_alike r.first d) goes_on).1
