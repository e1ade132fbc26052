-- Devices that are read one after the other.
use Rattle.std.proofs.Common.{◌≡◌, ◌⊎◌, ◌≤◌, ◌<◌, ◌+◌, ℕ, zero, suc, arith, List, [], ◌∷◌, ◌++◌, Option, length}
use Rattle.std.proofs.Common.{slice_index_or, slice_set, refl, sym, ap, subst, inl, inr, Result, Ok, Err}
use Rattle.std.specs.Result.{IsErr, IsErrAnd, IfErr}
use Rattle.iocm_columns.specs.Device.{reads_of, IsWhole}
use Rattle.iocm_columns.specs.declared.device.Device.{Device}
use Rattle.iocm_answer.specs.declared.whole.Unanswered.{Unanswered}
use Rattle.iocm_answer.specs.declared.whole.Unanswered.TheVariants.{Refused, Unread}
use Rattle.iocm_answer.specs.Whole.{AreReadWithin, AreTextsOf, IsReadWithin, IsReady, IsTextOf, OneStopsWithin, StopsFor}
use Rattle.iocm_answer.specs.Whole.{StopsWithin}

module _ {R : Type 0} (remaining : R → Option (List ℕ)) (limit : ℕ) where
  -- those before a place were read to their ends, and gave these texts; the others are as they were
  abbrev pub AreReadTo : ℕ → (start now : List (Device R)) → List (List ℕ) → Type 0
  AreReadTo zero start now texts = (now ≡ start) × (texts ≡ [])
  AreReadTo (suc place) (d ∷ start) (e ∷ now) (t ∷ texts) =
      IsReadWithin limit d e × IsWhole e × IsTextOf remaining d t × AreReadTo place start now texts
  AreReadTo (suc place) _ _ _ = ⊥

  -- a device that wasn't read was read often enough
  within_itself : (d : Device R) → IsReadWithin limit d d
  within_itself d = omega arith

  pub none_read : (ds : List (Device R)) → AreReadWithin limit ds ds
  none_read [] = tt
  none_read (d ∷ ds) = (within_itself d, none_read ds)

  pub within : (place : ℕ) (start now : List (Device R)) (texts : List (List ℕ)) → AreReadTo place start now texts
      → AreReadWithin limit start now
  within zero start now texts are = subst (AreReadWithin limit start) (sym are.0) (none_read start)
  within (suc place) (d ∷ start) (e ∷ now) (t ∷ texts) are = (are.0, within place start now texts are.3)
  within (suc place) [] now texts are = absurd are
  within (suc place) (d ∷ start) [] texts are = absurd are
  within (suc place) (d ∷ start) (e ∷ now) [] are = absurd are

  -- the device at the place is as it was
  pub next_is : (place : ℕ) (start now : List (Device R)) (texts : List (List ℕ)) (d : Device R)
      → AreReadTo place start now texts → slice_index_or now place d ≡ slice_index_or start place d
  next_is zero start now texts d are = ap (λ ds. slice_index_or ds zero d) are.0
  next_is (suc place) (s ∷ start) (e ∷ now) (t ∷ texts) d are = next_is place start now texts d are.3
  next_is (suc place) [] now texts d are = absurd are
  next_is (suc place) (s ∷ start) [] texts d are = absurd are
  next_is (suc place) (s ∷ start) (e ∷ now) [] d are = absurd are

  -- when the device there is read, all are read often enough, and if it stops, one of all does
  pub read_there : (place : ℕ) (start now : List (Device R)) (texts : List (List ℕ)) (d e : Device R)
      → AreReadTo place start now texts → place < length now → IsReadWithin limit (slice_index_or now place d) e
      → AreReadWithin limit start (slice_set now place e)
  read_there zero start [] texts d e are there read = absurd (omega arith)
  read_there zero start (x ∷ now) texts d e are there read =
      subst (λ ds. AreReadWithin limit ds (e ∷ now)) are.0 (read, none_read now)
  read_there (suc place) (s ∷ start) (x ∷ now) (t ∷ texts) d e are there read =
      (are.0, read_there place start now texts d e are.3 (omega arith) read)
  read_there (suc place) [] now texts d e are there read = absurd are
  read_there (suc place) (s ∷ start) [] texts d e are there read = absurd are
  read_there (suc place) (s ∷ start) (x ∷ now) [] d e are there read = absurd are

  pub stops_there : (place : ℕ) (start now : List (Device R)) (texts : List (List ℕ)) (d e : Device R)
      → AreReadTo place start now texts → place < length now → StopsWithin limit (slice_index_or now place d) e
      → OneStopsWithin limit start (slice_set now place e)
  stops_there zero start [] texts d e are there stops = absurd (omega arith)
  stops_there zero start (x ∷ now) texts d e are there stops =
      subst (λ ds. OneStopsWithin limit ds (e ∷ now)) are.0 (inl stops)
  stops_there (suc place) (s ∷ start) (x ∷ now) (t ∷ texts) d e are there stops =
      inr (stops_there place start now texts d e are.3 (omega arith) stops)
  stops_there (suc place) [] now texts d e are there stops = absurd are
  stops_there (suc place) (s ∷ start) [] texts d e are there stops = absurd are
  stops_there (suc place) (s ∷ start) (x ∷ now) [] d e are there stops = absurd are

  -- when it is read to its end, one more is
  pub one_more : (place : ℕ) (start now : List (Device R)) (texts : List (List ℕ)) (d e : Device R) (t : List ℕ)
      → AreReadTo place start now texts → place < length now → IsReadWithin limit (slice_index_or now place d) e
      → IsWhole e → IsTextOf remaining (slice_index_or now place d) t
      → AreReadTo (suc place) start (slice_set now place e) (texts ++ t ∷ [])
  one_more zero start [] texts d e t are there read whole is = absurd (omega arith)
  one_more zero start (x ∷ now) texts d e t are there read whole is =
      subst (λ ds. AreReadTo 1 ds (e ∷ now) (texts ++ t ∷ [])) are.0
      (subst (λ ts. AreReadTo 1 (x ∷ now) (e ∷ now) (ts ++ t ∷ [])) (sym are.1) (read, whole, is, (refl, refl)))
  one_more (suc place) (s ∷ start) (x ∷ now) (u ∷ texts) d e t are there read whole is =
      (are.0, are.1, are.2, one_more place start now texts d e t are.3 (omega arith) read whole is)
  one_more (suc place) [] now texts d e t are there read whole is = absurd are
  one_more (suc place) (s ∷ start) [] texts d e t are there read whole is = absurd are
  one_more (suc place) (s ∷ start) (x ∷ now) [] d e t are there read whole is = absurd are

  -- all were read to their ends
  pub all_texts : (place : ℕ) (start now : List (Device R)) (texts : List (List ℕ)) → AreReadTo place start now texts
      → length now ≤ place → AreTextsOf remaining start texts
  all_texts zero start [] texts are all = subst (λ ts. AreTextsOf remaining start ts) (sym are.1)
      (subst (λ ds. AreTextsOf remaining ds []) are.0 tt)
  all_texts zero start (x ∷ now) texts are all = absurd (omega arith)
  all_texts (suc place) (s ∷ start) (e ∷ now) (t ∷ texts) are all =
      (are.2, all_texts place start now texts are.3 (omega arith))
  all_texts (suc place) [] now texts are all = absurd are
  all_texts (suc place) (s ∷ start) [] texts are all = absurd are
  all_texts (suc place) (s ∷ start) (e ∷ now) [] are all = absurd are

  pub all_whole : (place : ℕ) (start now : List (Device R)) (texts : List (List ℕ)) → AreReadTo place start now texts
      → length now ≤ place → (k : ℕ) (d : Device R) → k < length now → IsWhole (slice_index_or now k d)
  all_whole zero start now texts are all k d there = absurd (omega arith)
  all_whole (suc place) (s ∷ start) (e ∷ now) (t ∷ texts) are all zero d there = are.1
  all_whole (suc place) (s ∷ start) (e ∷ now) (t ∷ texts) are all (suc k) d there =
      all_whole place start now texts are.3 (omega arith) k d (omega arith)
  all_whole (suc place) [] now texts are all k d there = absurd are
  all_whole (suc place) (s ∷ start) [] texts are all k d there = absurd are
  all_whole (suc place) (s ∷ start) (e ∷ now) [] are all k d there = absurd are

-- the error that was handed on is for a reason that the first one has
stops_so : (Shorter Short : Type 0) (why : Unanswered) → (Shorter → Short) → StopsFor ⊥ Shorter why
    → StopsFor ⊥ Short why
stops_so Shorter Short (Refused r) so stops = stops
stops_so Shorter Short Unread so stops = so stops

pub stops_handed_on : {A : Type 0} {Shorter Short : Type 0} (given : Result A Unanswered) (why : Unanswered)
    → (Shorter → Short) → StopsFor ⊥ Shorter why → IsErr given × IsErrAnd given (λ e. e ≡ why)
    → IfErr given (StopsFor ⊥ Short)
stops_handed_on (Ok x) why so stops is = absurd is.1
stops_handed_on {Shorter = Shorter} {Short = Short} (Err e) why so stops is =
    subst (StopsFor ⊥ Short) (sym is.1) (stops_so Shorter Short why so stops)
