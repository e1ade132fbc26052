-- Devices that are deleted by number: one statement is read as all of them.
use Rattle.std.proofs.Common.{◌≡◌, ◌∙◌, ℕ, zero, suc, ◌≤◌, ◌<◌, ◌+◌, ◌==◌, nat_lt, ◌&&◌, Bool, true, false, None, List}
use Rattle.std.proofs.Common.{[], ◌∷◌, All, length, map, Ok, codes, refl, sym, ap, subst, arith, eqb-true}
use Rattle.std.proofs.lemmas.Bool.{false≢true}
use Rattle.std.proofs.lemmas.Bool.Decides.{nat_tests}
use Rattle.std.proofs.lemmas.List.Elements.{All-head, All-tail}
use Rattle.std.proofs.lemmas.List.FromFn.{length-map-range_with_len}
use Rattle.std.specs.List.{range_with_len}
use Rattle.iocm_types.specs.declared.fault.Fault.{Fault}
use Rattle.iocm_types.specs.declared.key.Key.TheVariants as key
use Rattle.iocm_types.specs.declared.rule.Rule.TheVariants.{S4}
use Rattle.iocm_types.specs.Fault as fault
use Rattle.iocm_types.specs.Print.{hex1}
use Rattle.iocm_model.specs.Change.Edit.{Action, add, delete, modify}
use Rattle.iocm_statements.specs.declared.operation.Operation.TheVariants.{Iodevice}
use Rattle.iocm_values.specs.Value.{word, value}
use Rattle.iocm_values.proofs.Levels.{plain_again}
use Rattle.iocm_values.proofs.Numerals.{hex1_plain}
use Rattle.iocm_operands.specs.declared.device.Devices.{Devices}
use Rattle.iocm_operands.specs.Again.{AreDevices}
use Rattle.iocm_operands.specs.Device.{devices_text}
use Rattle.iocm_operands.proofs.Operands.{devices_again, set_again}
use Rattle.iocm_tree.specs.Carried.{bare}
use Rattle.iocm_tree.specs.declared.verb.Verb.TheVariants.{Delete}
use Rattle.iocm_deck_writer.specs.Again.{placed}
use Rattle.iocm_deck_writer.specs.Device.{set_operand}
use Rattle.iocm_change_records.specs.Keys.{device_keys, key_fault, keys_given, keys_unless, keys_of}
use Rattle.iocm_round_trip.proofs.LeftOut.{IsInOneCss, names_one_css}
use Rattle.iocm_round_trip.proofs.OneSubsystem.{hex1_in_one, devices_in_one}
use Rattle.iocm_round_trip.proofs.OperandTexts.{devices_clean}
use Rattle.iocm_tree_writer.specs.Again.{as_read}
use Rattle.iocm_tree_writer.specs.Given.{IsGivenAction}
use Rattle.iocm_tree_writer.proofs.Reread.{verb_is_field}
use Rattle.iocm_difference_writer.specs.Runs.{goes_with}
use Rattle.iocm_difference_writer.specs.Written.{devices_statement, line_with}
use Rattle.iocm_difference_writer.proofs.Chains.{IsChain}
use Rattle.iocm_difference_writer.proofs.DevicesPut.{device_precedes, numbers_ordered}
use Rattle.iocm_difference_writer.proofs.Groups.{IsLineOf, AreRead, one_read}
use Rattle.iocm_difference_writer.proofs.Rising.{Precedes}
use Rattle.iocm_difference_writer.proofs.TwoOperands.{two_can, set_clean}

-- ---- the actions of a run

all_three : (a b c : Bool) → (a && b && c) ≡ true → (a ≡ true) × ((b ≡ true) × (c ≡ true))
all_three true true true is = (refl, (refl, refl))
all_three false b c is = absurd (false≢true is)
all_three true false c is = absurd (false≢true is)
all_three true true false is = absurd (false≢true is)

is_less : (m n : ℕ) → nat_lt m n ≡ true → m < n
is_less m n is = grind (arith, nat_tests)

abbrev gone : ℕ → ℕ → Action
gone set number = delete (key.Device set number)

-- the next device of the set, in a statement that may name it too
next_gone : (count set number : ℕ) (b : Action) → goes_with count (gone set number) b ≡ true
    → (b ≡ gone set (number + 1)) × (count < 4096)
next_gone count set number (add r) goes = absurd (false≢true goes)
next_gone count set number (modify r) goes = absurd (false≢true goes)
next_gone count set number (delete key.Id) goes = absurd (false≢true goes)
next_gone count set number (delete key.Resource) goes = absurd (false≢true goes)
next_gone count set number (delete (key.Image css mif)) goes = absurd (false≢true goes)
next_gone count set number (delete (key.Limit css its_set)) goes = absurd (false≢true goes)
next_gone count set number (delete (key.Path css path)) goes = absurd (false≢true goes)
next_gone count set number (delete (key.Unit unit)) goes = absurd (false≢true goes)
next_gone count set number (delete (key.Online css path name)) goes = absurd (false≢true goes)
next_gone count set number (delete (key.Device its_set its_number)) goes =
    let all = all_three (nat_lt count 4096) (its_set == set) (its_number == number + 1) goes in
    let same : its_set ≡ set = eqb-true its_set set all.1.0 in
    let next : its_number ≡ number + 1 = eqb-true its_number (number + 1) all.1.1 in
    (λ i. gone (same i) (next i), is_less count 4096 all.0)

gone_in_chain : (count set number : ℕ) (actions : List Action) → IsChain count (gone set number) actions
    → actions ≡ map (gone set) (range_with_len (number + 1) (length actions))
gone_in_chain count set number [] chain = refl
gone_in_chain count set number (b ∷ actions) chain =
    let next = (next_gone count set number b chain.0).0 in
    let rest = gone_in_chain (count + 1) set (number + 1) actions
    (subst (λ x. IsChain (count + 1) x actions) next chain.1) in
    λ i. next i ∷ rest i

gone_are_few : (count set number : ℕ) (actions : List Action) → count ≤ 4096 → IsChain count (gone set number) actions
    → count + length actions ≤ 4096
gone_are_few count set number [] few chain = omega arith
gone_are_few count set number (b ∷ actions) few chain =
    let next = next_gone count set number b chain.0 in
    let less = next.1 in
    let rest = gone_are_few (count + 1) set (number + 1) actions (omega (arith, less))
    (subst (λ x. IsChain (count + 1) x actions) next.0 chain.1) in
    omega (arith, rest)

gone_are_within : (count set number : ℕ) (actions : List Action) → IsChain count (gone set number) actions
    → All IsGivenAction (gone set number ∷ actions)
    → number + length actions < 65536
gone_are_within count set number [] chain given = let last = (All-head IsGivenAction (gone set number) [] given).last in
    omega (arith, last)
gone_are_within count set number (b ∷ actions) chain given =
    let next = (next_gone count set number b chain.0).0 in
    let others = All-tail IsGivenAction (gone set number) (b ∷ actions) given in
    let rest = gone_are_within (count + 1) set (number + 1) actions
    (subst (λ x. IsChain (count + 1) x actions) next chain.1)
    (subst (λ x. All IsGivenAction (x ∷ actions)) next others) in
    omega (arith, rest)

-- ---- their statement

-- a statement without a fault before its values are read, whose values give these keys
record GivesKeys (set : ℕ) (d : Devices) : Type 0 where
  pub no_fault : key_fault Iodevice (placed 0 (devices_statement set d.first d.count).operands) ≡ None
  pub gives : (f : Fault) → keys_given f Iodevice (placed 0 (devices_statement set d.first d.count).operands)
      ≡ Ok (device_keys set d)

set_is_word : (set : ℕ) → set ≤ 3 → value (hex1 set) ≡ word (hex1 set)
set_is_word set small = plain_again (hex1 set) (hex1_plain set (omega arith))

devices_given : (set : ℕ) (d : Devices) → set ≤ 3 → AreDevices d → GivesKeys set d
unfolding placed
devices_given set d small are = by (set == 0) refl
  where
    one_css : IsInOneCss (devices_text d)
    one_css = devices_in_one d are

    by : (none : Bool) → set == 0 ≡ none → GivesKeys set d
    by true zero_set = record {
      no_fault = rw (zero_set, names_one_css (devices_text d) one_css) refl;
      gives = λ f. rw (zero_set, devices_again d are) (ap (λ s. Ok (device_keys s d)) (sym (eqb-true set 0 zero_set)));
    }
    by false other = record {
      no_fault = rw (
        other,
        names_one_css (devices_text d) one_css,
        names_one_css (hex1 set) (hex1_in_one set (omega arith)),
        set_is_word set small,
      ) refl;
      gives = λ f. rw (other, devices_again d are, set_again set small) refl;
    }

keys_again : (line set : ℕ) (d : Devices) → set ≤ 3 → AreDevices d
    → keys_of (as_read line (line_with Delete (devices_statement set d.first d.count))) ≡ Ok (device_keys set d)
keys_again line set d small are =
    let given = devices_given set d small are in
    ap (λ found. keys_unless found (as_read line (line_with Delete (devices_statement set d.first d.count))))
    given.no_fault ∙ given.gives (fault.at S4 line)

-- ---- its line

-- numbers from one on, and places behind it
places_are : (set first from count : ℕ)
    → map (λ k. bare (delete k)) (map (λ place. key.Device set (first + place)) (range_with_len from count))
    ≡ map bare (map (gone set) (range_with_len (first + from) count))
places_are set first from zero = refl
places_are set first from (suc count) =
    let next : first + (from + 1) ≡ first + from + 1 = omega arith in
    ap (λ rest. bare (gone set (first + from)) ∷ rest)
    (places_are set first (from + 1) count ∙ ap (λ n. map bare (map (gone set) (range_with_len n count))) next)

line_of_devices : (set : ℕ) (d : Devices) → set ≤ 3 → AreDevices d
    → IsLineOf (line_with Delete (devices_statement set d.first d.count))
    (map (gone set) (range_with_len d.first d.count))
line_of_devices set d small are = record {
  can = record {
    field = verb_is_field Delete;
    statement = two_can Iodevice (codes "ADDRESS") (devices_text d) (codes "SCHSET") (set_operand set) refl refl refl
        (let some = are.some in let last = are.last in devices_clean d.first d.count (omega (arith, some, last))
        (omega (arith, last))) (set_clean set small);
  };
  of_records = tt;
  is_read = λ line.
      let same : d.first + 0 ≡ d.first = omega arith in
      ap (λ found. fault.◌>>=◌ found (λ keys. Ok (map (λ k. bare (delete k)) keys))) (keys_again line set d small are)
      ∙ ap Ok (places_are set d.first 0 d.count ∙ ap (λ n. map bare (map (gone set) (range_with_len n d.count))) same);
  group = record {
    some = let some = are.some in omega (arith, length-map-range_with_len (gone set) d.first d.count, some);
    rising = numbers_ordered Precedes (gone set) (device_precedes set) d.first d.count;
  };
}

-- a run that begins with a device that is deleted
pub gone_run_read : (set number : ℕ) (actions : List Action) → IsChain 1 (gone set number) actions
    → All IsGivenAction (gone set number ∷ actions)
    → AreRead (line_with Delete (devices_statement set number (length (gone set number ∷ actions))) ∷ [])
    (gone set number ∷ actions)
gone_run_read set number actions chain given =
    let d : Devices = record { first = number; count = length (gone set number ∷ actions) } in
    let few = gone_are_few 1 set number actions (omega arith) chain in
    let last = gone_are_within 1 set number actions chain given in
    let are : AreDevices d = record { some = omega arith; most = omega (arith, few); last = omega (arith, last) } in
    let small = (All-head IsGivenAction (gone set number) actions given).within in
    let same : gone set number ∷ actions ≡ map (gone set) (range_with_len number (length (gone set number ∷ actions))) =
    ap (λ rest. gone set number ∷ rest) (gone_in_chain 1 set number actions chain) in
    one_read (line_with Delete (devices_statement set number (length (gone set number ∷ actions))))
    (gone set number ∷ actions)
    (subst (IsLineOf (line_with Delete (devices_statement set number (length (gone set number ∷ actions))))) (sym same)
    (line_of_devices set d small are))
