-- What was there of a run can be written: the cards of its records are those of a deck.
use Rattle.std.proofs.Common.{◌≡◌, ◌∙◌, ℕ, ◌+◌, true, Option, Some, None, List, [], ◌∷◌, ◌++◌, All, map, refl, sym, ap}
use Rattle.std.proofs.Common.{subst, append-nil}
use Rattle.std.proofs.lemmas.Bool.{false≢true}
use Rattle.std.proofs.lemmas.List.Elements.{All-nil, All-cons, All-append, All-map}
use Rattle.std.proofs.lemmas.List.{map-append}
use Rattle.std.specs.FinMap.{get}
use Rattle.std.specs.List.{AllByRecursion, flat_map}
use Rattle.iocm_types.specs.declared.key.Key.{Key}
use Rattle.iocm_types.specs.declared.key.Key.TheVariants as key
use Rattle.iocm_model.specs.Change.Edit.{Action, add, delete, modify, action_key}
use Rattle.iocm_model.specs.Machine.Configuration.{Configuration, IsKeyed}
use Rattle.iocm_model.specs.Machine.Record.{Rec, CarriedOperand, DeviceRecord, OnlineRecord, id, resource, image, limit}
use Rattle.iocm_model.specs.Machine.Record.{path, unit, device, online, key_of}
use Rattle.iocm_model.proofs.Machine.OwnKeys.{keyed_own}
use Rattle.iocm_statements.specs.declared.operation.Operation.TheVariants.{Resource}
use Rattle.iocm_tree.specs.Carried.{verb_of}
use Rattle.iocm_tree.specs.declared.verb.Verb.{Verb}
use Rattle.iocm_tree.specs.declared.verb.Verb.TheVariants.{Add, Delete, Modify}
use Rattle.iocm_deck_writer.specs.Canonical.{canonical, id_statements, part_statements}
use Rattle.iocm_deck_writer.specs.Device.{iodevice_statement, devices_of, runs}
use Rattle.iocm_deck_writer.specs.Resource.{images_of, limits_of, resource_carried}
use Rattle.iocm_round_trip.specs.Given.{IsGiven, IsGivenDevice}
use Rattle.iocm_round_trip.specs.Stating.{CanBeWritten}
use Rattle.iocm_round_trip.proofs.Running.{are_given_runs}
use Rattle.iocm_round_trip.proofs.Stated.{iodevice_again}
use Rattle.iocm_tree_writer.specs.Leaves.{IsDeckRecord, record_statement}
use Rattle.iocm_tree_writer.proofs.Given.{record_again}
use Rattle.iocm_difference_writer.specs.Again.{HasGiven}
use Rattle.iocm_difference_writer.specs.Comments.{there_by, was_there}
use Rattle.iocm_difference_writer.specs.Runs.{are_put_together, are_deleted_together, goes_with}
use Rattle.iocm_difference_writer.proofs.Chains.{IsChain, IsRun}
use Rattle.iocm_difference_writer.proofs.DevicesPut.{canonical_devices}
use Rattle.iocm_difference_writer.proofs.RunsAgain.{IsAlone, none_goes}

-- ---- the kinds of keys

abbrev IsOfDevice : Key → Type 0
IsOfDevice (key.Device set number) = Unit {0}
IsOfDevice k = ⊥

abbrev IsOfPair : Key → Type 0
IsOfPair (key.Online css number name) = Unit {0}
IsOfPair k = ⊥

device_put : (k l : Key) → IsOfDevice k → are_put_together k l ≡ true → IsOfDevice l
device_put key.Id l is goes = absurd is
device_put key.Resource l is goes = absurd is
device_put (key.Image css mif) l is goes = absurd is
device_put (key.Limit css set) l is goes = absurd is
device_put (key.Path css number) l is goes = absurd is
device_put (key.Unit number) l is goes = absurd is
device_put (key.Device set number) key.Id is goes = absurd (false≢true goes)
device_put (key.Device set number) key.Resource is goes = absurd (false≢true goes)
device_put (key.Device set number) (key.Image its_css its_mif) is goes = absurd (false≢true goes)
device_put (key.Device set number) (key.Limit its_css its_set) is goes = absurd (false≢true goes)
device_put (key.Device set number) (key.Path its_css its_number) is goes = absurd (false≢true goes)
device_put (key.Device set number) (key.Unit its_number) is goes = absurd (false≢true goes)
device_put (key.Device set number) (key.Device its_set its_number) is goes = tt
device_put (key.Device set number) (key.Online its_css its_number its_name) is goes = absurd (false≢true goes)
device_put (key.Online css number name) l is goes = absurd is

device_deleted : (count : ℕ) (k l : Key) → IsOfDevice k → are_deleted_together count k l ≡ true → IsOfDevice l
device_deleted count key.Id l is goes = absurd is
device_deleted count key.Resource l is goes = absurd is
device_deleted count (key.Image css mif) l is goes = absurd is
device_deleted count (key.Limit css set) l is goes = absurd is
device_deleted count (key.Path css number) l is goes = absurd is
device_deleted count (key.Unit number) l is goes = absurd is
device_deleted count (key.Device set number) key.Id is goes = absurd (false≢true goes)
device_deleted count (key.Device set number) key.Resource is goes = absurd (false≢true goes)
device_deleted count (key.Device set number) (key.Image its_css its_mif) is goes = absurd (false≢true goes)
device_deleted count (key.Device set number) (key.Limit its_css its_set) is goes = absurd (false≢true goes)
device_deleted count (key.Device set number) (key.Path its_css its_number) is goes = absurd (false≢true goes)
device_deleted count (key.Device set number) (key.Unit its_number) is goes = absurd (false≢true goes)
device_deleted count (key.Device set number) (key.Device its_set its_number) is goes = tt
device_deleted count (key.Device set number) (key.Online its_css its_number its_name) is goes = absurd (false≢true goes)
device_deleted count (key.Online css number name) l is goes = absurd is

pair_put : (k l : Key) → IsOfPair k → are_put_together k l ≡ true → IsOfPair l
pair_put key.Id l is goes = absurd is
pair_put key.Resource l is goes = absurd is
pair_put (key.Image css mif) l is goes = absurd is
pair_put (key.Limit css set) l is goes = absurd is
pair_put (key.Path css number) l is goes = absurd is
pair_put (key.Unit number) l is goes = absurd is
pair_put (key.Device set number) l is goes = absurd is
pair_put (key.Online css number name) key.Id is goes = absurd (false≢true goes)
pair_put (key.Online css number name) key.Resource is goes = absurd (false≢true goes)
pair_put (key.Online css number name) (key.Image its_css its_mif) is goes = absurd (false≢true goes)
pair_put (key.Online css number name) (key.Limit its_css its_set) is goes = absurd (false≢true goes)
pair_put (key.Online css number name) (key.Path its_css its_number) is goes = absurd (false≢true goes)
pair_put (key.Online css number name) (key.Unit its_number) is goes = absurd (false≢true goes)
pair_put (key.Online css number name) (key.Device its_set its_number) is goes = absurd (false≢true goes)
pair_put (key.Online css number name) (key.Online its_css its_number its_name) is goes = tt

pair_deleted : (count : ℕ) (k l : Key) → IsOfPair k → are_deleted_together count k l ≡ true → IsOfPair l
pair_deleted count key.Id l is goes = absurd is
pair_deleted count key.Resource l is goes = absurd is
pair_deleted count (key.Image css mif) l is goes = absurd is
pair_deleted count (key.Limit css set) l is goes = absurd is
pair_deleted count (key.Path css number) l is goes = absurd is
pair_deleted count (key.Unit number) l is goes = absurd is
pair_deleted count (key.Device set number) l is goes = absurd is
pair_deleted count (key.Online css number name) key.Id is goes = absurd (false≢true goes)
pair_deleted count (key.Online css number name) key.Resource is goes = absurd (false≢true goes)
pair_deleted count (key.Online css number name) (key.Image its_css its_mif) is goes = absurd (false≢true goes)
pair_deleted count (key.Online css number name) (key.Limit its_css its_set) is goes = absurd (false≢true goes)
pair_deleted count (key.Online css number name) (key.Path its_css its_number) is goes = absurd (false≢true goes)
pair_deleted count (key.Online css number name) (key.Unit its_number) is goes = absurd (false≢true goes)
pair_deleted count (key.Online css number name) (key.Device its_set its_number) is goes = absurd (false≢true goes)
pair_deleted count (key.Online css number name) (key.Online its_css its_number its_name) is goes = tt

next_device : (count : ℕ) (a b : Action) → IsOfDevice (action_key a) → goes_with count a b ≡ true
    → IsOfDevice (action_key b)
next_device count (add r) (add s) is goes = device_put (key_of r) (key_of s) is goes
next_device count (add r) (delete k) is goes = absurd (false≢true goes)
next_device count (add r) (modify s) is goes = absurd (false≢true goes)
next_device count (delete k) (add s) is goes = absurd (false≢true goes)
next_device count (delete k) (delete l) is goes = device_deleted count k l is goes
next_device count (delete k) (modify s) is goes = absurd (false≢true goes)
next_device count (modify r) (add s) is goes = absurd (false≢true goes)
next_device count (modify r) (delete k) is goes = absurd (false≢true goes)
next_device count (modify r) (modify s) is goes = device_put (key_of r) (key_of s) is goes

next_pair : (count : ℕ) (a b : Action) → IsOfPair (action_key a) → goes_with count a b ≡ true → IsOfPair (action_key b)
next_pair count (add r) (add s) is goes = pair_put (key_of r) (key_of s) is goes
next_pair count (add r) (delete k) is goes = absurd (false≢true goes)
next_pair count (add r) (modify s) is goes = absurd (false≢true goes)
next_pair count (delete k) (add s) is goes = absurd (false≢true goes)
next_pair count (delete k) (delete l) is goes = pair_deleted count k l is goes
next_pair count (delete k) (modify s) is goes = absurd (false≢true goes)
next_pair count (modify r) (add s) is goes = absurd (false≢true goes)
next_pair count (modify r) (delete k) is goes = absurd (false≢true goes)
next_pair count (modify r) (modify s) is goes = pair_put (key_of r) (key_of s) is goes

-- all actions of a run are of the kind of the first
module _ (P : Key → Type 0)
    (next : (count : ℕ) (a b : Action) → P (action_key a) → goes_with count a b ≡ true → P (action_key b)) where
  all_of_kind : (count : ℕ) (a : Action) (actions : List Action) → P (action_key a) → IsChain count a actions
      → AllByRecursion (λ b. P (action_key b)) (a ∷ actions)
  all_of_kind count a [] is chain = (is, tt)
  all_of_kind count a (b ∷ actions) is chain =
      (is, all_of_kind (count + 1) b actions (next count a b is chain.0) chain.1)

-- ---- what is found under a key

module _ (c : Configuration) (keyed : IsKeyed c) (given : HasGiven c) where
  -- what was there of an action: nothing, or a record of its key that a deck gives
  was_there_is : (P : List Rec → Type 0) (a : Action) → P []
      → ((r : Rec) → key_of r ≡ action_key a → IsGiven r → P (r ∷ [])) → P (was_there c a)
  was_there_is P a none some = by (verb_of a) (get c (action_key a)) refl
    where
      by : (verb : Verb) (found : Option Rec) → get c (action_key a) ≡ found → P (there_by verb found)
      by Add found is = none
      by Delete None is = none
      by Delete (Some r) is = some r (keyed_own c keyed (action_key a) r is) (given (action_key a) r is)
      by Modify None is = none
      by Modify (Some r) is = some r (keyed_own c keyed (action_key a) r is) (given (action_key a) r is)

  -- ---- devices

  abbrev AreDevices : List Rec → Type 0
  AreDevices rs = (ds : List DeviceRecord) × ((rs ≡ map device ds) × All IsGivenDevice ds)

  one_device : (k : Key) → IsOfDevice k → (r : Rec) → key_of r ≡ k → IsGiven r → AreDevices (r ∷ [])
  one_device k is (id x) own r_is = absurd (subst IsOfDevice (sym own) is)
  one_device k is (resource x) own r_is = absurd (subst IsOfDevice (sym own) is)
  one_device k is (image x) own r_is = absurd (subst IsOfDevice (sym own) is)
  one_device k is (limit x) own r_is = absurd (subst IsOfDevice (sym own) is)
  one_device k is (path x) own r_is = absurd (subst IsOfDevice (sym own) is)
  one_device k is (unit x) own r_is = absurd (subst IsOfDevice (sym own) is)
  one_device k is (device d) own r_is = (d ∷ [], (refl, All-cons IsGivenDevice d [] r_is (All-nil IsGivenDevice)))
  one_device k is (online x) own r_is = absurd (subst IsOfDevice (sym own) is)

  devices_there : (actions : List Action) → AllByRecursion (λ b. IsOfDevice (action_key b)) actions
      → AreDevices (flat_map (was_there c) actions)
  devices_there [] are = ([], (refl, All-nil IsGivenDevice))
  devices_there (a ∷ actions) are =
      let first = was_there_is AreDevices a ([], (refl, All-nil IsGivenDevice))
      (λ r own r_is. one_device (action_key a) are.0 r own r_is) in
      let rest = devices_there actions are.1 in (
        first.0 ++ rest.0,
        (
          ap (λ x. x ++ flat_map (was_there c) actions) first.1.0 ∙ ap (λ x. map device first.0 ++ x) rest.1.0
              ∙ sym (map-append device first.0 rest.0),
          All-append IsGivenDevice first.0 rest.0 first.1.1 rest.1.1,
        ),
      )

  devices_can : (rs : List Rec) → AreDevices rs → All CanBeWritten (canonical rs)
  devices_can rs are =
      subst (All CanBeWritten) (sym (ap canonical are.1.0 ∙ canonical_devices are.0))
      (All-map CanBeWritten iodevice_statement (runs are.0)
      (λ k d within. (iodevice_again _ (are_given_runs are.0 are.1.1 k d within)).written))

  -- ---- pairs

  abbrev ArePairs : List Rec → Type 0
  ArePairs rs = (os : List OnlineRecord) × (rs ≡ map online os)

  one_pair : (k : Key) → IsOfPair k → (r : Rec) → key_of r ≡ k → ArePairs (r ∷ [])
  one_pair k is (id x) own = absurd (subst IsOfPair (sym own) is)
  one_pair k is (resource x) own = absurd (subst IsOfPair (sym own) is)
  one_pair k is (image x) own = absurd (subst IsOfPair (sym own) is)
  one_pair k is (limit x) own = absurd (subst IsOfPair (sym own) is)
  one_pair k is (path x) own = absurd (subst IsOfPair (sym own) is)
  one_pair k is (unit x) own = absurd (subst IsOfPair (sym own) is)
  one_pair k is (device x) own = absurd (subst IsOfPair (sym own) is)
  one_pair k is (online o) own = (o ∷ [], refl)

  pairs_there : (actions : List Action) → AllByRecursion (λ b. IsOfPair (action_key b)) actions
      → ArePairs (flat_map (was_there c) actions)
  pairs_there [] are = ([], refl)
  pairs_there (a ∷ actions) are =
      let first = was_there_is ArePairs a ([], refl) (λ r own r_is. one_pair (action_key a) are.0 r own) in
      let rest = pairs_there actions are.1 in (
        first.0 ++ rest.0,
        ap (λ x. x ++ flat_map (was_there c) actions) first.1 ∙ ap (λ x. map online first.0 ++ x) rest.1
            ∙ sym (map-append online first.0 rest.0),
      )

  nothing_of : {A : Type 0} (give : Rec → List A) → ((o : OnlineRecord) → give (online o) ≡ [])
      → (os : List OnlineRecord) → flat_map give (map online os) ≡ []
  nothing_of give none [] = refl
  nothing_of give none (o ∷ os) = ap (λ x. x ++ flat_map give (map online os)) (none o) ∙ nothing_of give none os

  no_cards : (os : List OnlineRecord) → canonical (map online os) ≡ []
  no_cards os =
      rw (
        nothing_of id_statements (λ o. refl) os,
        nothing_of images_of (λ o. refl) os,
        nothing_of limits_of (λ o. refl) os,
        nothing_of resource_carried (λ o. refl) os,
        nothing_of part_statements (λ o. refl) os,
        nothing_of devices_of (λ o. refl) os,
      ) refl

  pairs_can : (rs : List Rec) → ArePairs rs → All CanBeWritten (canonical rs)
  pairs_can rs are = subst (All CanBeWritten) (sym (ap canonical are.1 ∙ no_cards are.0)) (All-nil CanBeWritten)

  -- ---- any other record

  just : (r : Rec) → IsDeckRecord r → IsGiven r → canonical (r ∷ []) ≡ record_statement r ∷ []
      → All CanBeWritten (canonical (r ∷ []))
  just r deck is same = subst (All CanBeWritten) (sym same)
      (All-cons CanBeWritten (record_statement r) [] (record_again r deck is).written (All-nil CanBeWritten))

  resource_can : (carried : List CarriedOperand) → IsGiven (resource carried)
      → All CanBeWritten (canonical (resource carried ∷ []))
  resource_can [] is = absurd (is.some refl)
  resource_can (o ∷ os) is =
      just (resource (o ∷ os)) tt is
      (ap (λ x. record { operation = Resource; operands = x } ∷ []) (append-nil (o ∷ os)))

  record_can : (r : Rec) → IsGiven r → All CanBeWritten (canonical (r ∷ []))
  record_can (id x) is = just (id x) tt is refl
  record_can (resource x) is = resource_can x is
  record_can (image x) is = just (image x) tt is refl
  record_can (limit x) is = just (limit x) tt is refl
  record_can (path x) is = just (path x) tt is refl
  record_can (unit x) is = just (unit x) tt is refl
  record_can (device x) is = just (device x) tt is refl
  record_can (online x) is = All-nil CanBeWritten

  alone_can : (a : Action) (actions : List Action) → IsAlone (action_key a) → IsChain 1 a actions
      → All CanBeWritten (canonical (flat_map (was_there c) (a ∷ actions)))
  alone_can a [] is chain =
      subst (λ rs. All CanBeWritten (canonical rs)) (sym (append-nil (was_there c a)))
      (was_there_is (λ rs. All CanBeWritten (canonical rs)) a (All-nil CanBeWritten) (λ r own r_is. record_can r r_is))
  alone_can a (b ∷ actions) is chain = absurd (none_goes 1 a b is chain.0)

  -- ---- any run

  by_key : (k : Key) (a : Action) (actions : List Action) → action_key a ≡ k → IsChain 1 a actions
      → All CanBeWritten (canonical (flat_map (was_there c) (a ∷ actions)))
  by_key key.Id a actions own chain = alone_can a actions (subst IsAlone (sym own) tt) chain
  by_key key.Resource a actions own chain = alone_can a actions (subst IsAlone (sym own) tt) chain
  by_key (key.Image css mif) a actions own chain = alone_can a actions (subst IsAlone (sym own) tt) chain
  by_key (key.Limit css set) a actions own chain = alone_can a actions (subst IsAlone (sym own) tt) chain
  by_key (key.Path css number) a actions own chain = alone_can a actions (subst IsAlone (sym own) tt) chain
  by_key (key.Unit number) a actions own chain = alone_can a actions (subst IsAlone (sym own) tt) chain
  by_key (key.Device set number) a actions own chain =
      devices_can (flat_map (was_there c) (a ∷ actions))
      (devices_there (a ∷ actions)
      (all_of_kind IsOfDevice next_device 1 a actions (subst IsOfDevice (sym own) tt) chain))
  by_key (key.Online css number name) a actions own chain =
      pairs_can (flat_map (was_there c) (a ∷ actions))
      (pairs_there (a ∷ actions) (all_of_kind IsOfPair next_pair 1 a actions (subst IsOfPair (sym own) tt) chain))

  pub run_can : (run : List Action) → IsRun run → All CanBeWritten (canonical (flat_map (was_there c) run))
  run_can [] chain = absurd chain
  run_can (a ∷ actions) chain = by_key (action_key a) a actions refl chain
