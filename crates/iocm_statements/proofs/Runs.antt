-- Runs of a text, from a place to another.
use Rattle.std.proofs.Common.{◌≡◌, ℕ, ◌+◌, ◌-◌, ◌<◌, ◌≤◌, List, [], ◌∷◌, ◌++◌, length, get_or, drop, slice_range, refl}
use Rattle.std.proofs.Common.{arith}
use Rattle.std.proofs.lemmas.List.{take_more, get_or-drop, length-drop}

-- a run of a text with the byte behind it
pub run_grows : (text : List ℕ) (from i : ℕ) → from ≤ i → i < length text
    → slice_range text from i ++ get_or text i 0 ∷ [] ≡ slice_range text from (i + 1)
run_grows text from i begun within =
    let more : (i + 1) - from ≡ (i - from) + 1 = omega arith in
    let here : from + (i - from) ≡ i = omega arith in
    let left : i - from < length (drop from text) = rw (length-drop from text) (omega arith) in
    rw (more, take_more (drop from text) (i - from) 0 left, get_or-drop from text (i - from) 0, here) refl

-- a run of no bytes
pub run_begins : (text : List ℕ) (i : ℕ) → slice_range text i i ≡ []
run_begins text i = let none : i - i ≡ 0 = omega arith in rw none refl
