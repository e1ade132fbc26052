-- A device that continues a run is the one at the next place of the run.
use Rattle.std.proofs.Common.{◌≡◌, ◌+◌, ◌&&◌, ◌==◌, ℕ, nat_eq, Bool, true, Option, None, Some, List, [], ◌∷◌, refl, sym}
use Rattle.std.proofs.Common.{ap}
use Rattle.std.proofs.lemmas.Bool.{eqb-true, false≢true, and_parts}
use Rattle.std.specs.Cmp.Lexicographic.{pointwise}
use Rattle.std.specs.Str.{bytes_eq}
use Rattle.iocm_model.specs.Machine.Record.{CarriedOperand, DeviceRecord}
use Rattle.iocm_deck_writer.specs.Device.{Run, same_keyword, same_operand, same_candidates, are_alike, continues}
use Rattle.iocm_round_trip.specs.Running.{device_at}

-- ---- tests that all hold

all_three : (a b c : Bool) → (a && b && c) ≡ true → (a ≡ true) × (b ≡ true) × (c ≡ true)
all_three a b c all =
    let last = and_parts (a && b) c all in
    let first = and_parts a b last.0 in (first.0, first.1, last.1)

all_four : (a b c d : Bool) → (a && b && c && d) ≡ true → (a ≡ true) × (b ≡ true) × (c ≡ true) × (d ≡ true)
all_four a b c d all =
    let last = and_parts (a && b && c) d all in
    let first = all_three a b c last.0 in (first.0, first.1, first.2, last.1)

-- ---- items that a test finds the same

-- lists whose items a test finds the same in pairs are the same, where items that it finds the same
-- are
same_items : {X : Type 0} (E : X → X → Bool) → ((x y : X) → E x y ≡ true → x ≡ y) → (xs ys : List X)
    → pointwise E xs ys ≡ true → xs ≡ ys
same_items E same [] [] all = refl
same_items E same [] (y ∷ ys) all = absurd (false≢true all)
same_items E same (x ∷ xs) [] all = absurd (false≢true all)
same_items E same (x ∷ xs) (y ∷ ys) all =
    let parts = and_parts (E x y) (pointwise E xs ys) all in
    λ i. same x y parts.0 i ∷ same_items E same xs ys parts.1 i

same_bytes : (xs ys : List ℕ) → bytes_eq xs ys ≡ true → xs ≡ ys
same_bytes xs ys all = same_items nat_eq eqb-true xs ys all

-- ---- the fields of devices that are alike

keywords_alike : (a b : Option (List ℕ)) → same_keyword a b ≡ true → a ≡ b
keywords_alike None None same = refl
keywords_alike None (Some b) same = absurd (false≢true same)
keywords_alike (Some a) None same = absurd (false≢true same)
keywords_alike (Some a) (Some b) same = ap Some (same_bytes a b same)

operands_alike : (a b : CarriedOperand) → same_operand a b ≡ true → a ≡ b
operands_alike a b same =
    let parts = and_parts (same_keyword a.keyword b.keyword) (bytes_eq a.text b.text) same in
    let keyword = keywords_alike a.keyword b.keyword parts.0 in
    let text = same_bytes a.text b.text parts.1 in
    λ i. record { keyword = keyword i; text = text i }

candidates_alike : (a b : Option (List (List ℕ))) → same_candidates a b ≡ true → a ≡ b
candidates_alike None None same = refl
candidates_alike None (Some b) same = absurd (false≢true same)
candidates_alike (Some a) None same = absurd (false≢true same)
candidates_alike (Some a) (Some b) same = ap Some (same_items bytes_eq same_bytes a b same)

-- devices of which all but the numbers and unit addresses is the same
record AreAlike (a b : DeviceRecord) : Type 0 where
  pub set : a.set ≡ b.set
  pub units : a.units ≡ b.units
  pub candidates : a.candidates ≡ b.candidates
  pub carried : a.carried ≡ b.carried

devices_alike : (a b : DeviceRecord) → are_alike a b ≡ true → AreAlike a b
devices_alike a b alike =
    let parts = all_four (a.set == b.set) (pointwise nat_eq a.units b.units) (same_candidates a.candidates b.candidates)
    (pointwise same_operand a.carried b.carried) alike in
    record {
      set = eqb-true a.set b.set parts.0;
      units = same_bytes a.units b.units parts.1;
      candidates = candidates_alike a.candidates b.candidates parts.2;
      carried = same_items same_operand operands_alike a.carried b.carried parts.3;
    }

-- ---- the next device

pub next_device : (r : Run) (d : DeviceRecord) → continues r d ≡ true → device_at r.first r.count ≡ d
next_device r d goes_on =
    let parts = all_three (d.number == r.first.number + r.count) (d.unit_address == r.first.unit_address + r.count)
    (are_alike r.first d) goes_on in
    let number = eqb-true d.number (r.first.number + r.count) parts.0 in
    let address = eqb-true d.unit_address (r.first.unit_address + r.count) parts.1 in
    let alike = devices_alike r.first d parts.2 in
    λ i. record {
      set = alike.set i;
      number = sym number i;
      units = alike.units i;
      unit_address = sym address i;
      candidates = alike.candidates i;
      carried = alike.carried i;
    }
