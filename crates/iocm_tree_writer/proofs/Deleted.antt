-- What is deleted is read again: the statement of a key gives this key alone.
use Rattle.std.proofs.Common.{◌≡◌, ℕ, zero, suc, ◌<◌, ◌≤◌, ◌==◌, Bool, true, false, cond, Some, None, List, [], ◌∷◌}
use Rattle.std.proofs.Common.{All, map, Ok, codes, refl, sym, ap, ◌∙◌, arith, add-zero, eqb-true, ne_eqb}
use Rattle.std.proofs.lemmas.List.Elements.{All-nil, All-cons}
use Rattle.std.specs.List.{flat_map}
use Rattle.std.specs.Option.{option_map, option_and_then}
use Rattle.iocm_types.specs.declared.css_path.CssPath.{CssPath}
use Rattle.iocm_types.specs.declared.fault.Fault.{Fault}
use Rattle.iocm_types.specs.declared.key.Key.{Key}
use Rattle.iocm_types.specs.declared.key.Key.TheVariants as key
use Rattle.iocm_types.specs.declared.rule.Rule.TheVariants.{S4}
use Rattle.iocm_types.specs.Fault as fault
use Rattle.iocm_types.specs.Name.{is_name}
use Rattle.iocm_types.specs.Print.{hex1, hex4}
use Rattle.iocm_model.specs.Change.Edit.{delete}
use Rattle.iocm_model.specs.Machine.Record.{ImageRecord}
use Rattle.iocm_values.specs.CssLists.{in_css_order}
use Rattle.iocm_values.specs.NameSet.{name_item, names_text}
use Rattle.iocm_values.specs.Reading.{◌>>=◌, every}
use Rattle.iocm_values.specs.Texts.{list_text}
use Rattle.iocm_values.specs.Value.{word, value, items}
use Rattle.iocm_values.proofs.Levels.{plain_again, items_again, whole_items}
use Rattle.iocm_values.proofs.Numerals.{hex1_plain, hex1_again}
use Rattle.iocm_values.proofs.Pieces.{AllWhole, whole_plain}
use Rattle.iocm_operands.specs.declared.device.Devices.{Devices}
use Rattle.iocm_operands.specs.Again.{IsPath, AreDevices, IsLimit}
use Rattle.iocm_operands.specs.ChpidPath.{path_text}
use Rattle.iocm_operands.specs.Device.{devices_text}
use Rattle.iocm_operands.specs.Limits.{limits_text}
use Rattle.iocm_operands.specs.Resource.{mif_of, image_text, images_text}
use Rattle.iocm_operands.proofs.Grouped.{IsReadAgain, items_by_css_again}
use Rattle.iocm_operands.proofs.Names.{name_plain, name_again}
use Rattle.iocm_operands.proofs.Operands.{path_again, number_again, devices_again, set_again}
use Rattle.iocm_deck_writer.specs.Again.{placed}
use Rattle.iocm_change_records.specs.declared.image_keys.ImageKey.{ImageKey}
use Rattle.iocm_change_records.specs.Keys.{key_fault, keys_given, keys_unless, keys_of}
use Rattle.iocm_change_records.specs.ResourceKeys.{image_key, image_key_listed, image_keys, key_of_image}
use Rattle.iocm_round_trip.proofs.LeftOut.{IsInOneCss, names_one_css, plain_in_one, list_in_one}
use Rattle.iocm_round_trip.proofs.OneSubsystem.{hex1_in_one, hex4_in_one, path_in_one, names_one_path, names_in_one}
use Rattle.iocm_round_trip.proofs.OneSubsystem.{devices_in_one, by_css_in_one, limits_in_one}
use Rattle.iocm_tree_writer.specs.Again.{as_read}
use Rattle.iocm_tree_writer.specs.Given.{IsGivenKey, IsImagePlace, IsLimitPlace, IsDevicePlace, IsPair}
use Rattle.iocm_tree_writer.specs.Leaves.{key_statement}
use Rattle.iocm_tree_writer.specs.Written.{action_line}
use Rattle.iocm_tree_writer.proofs.LimitKeys.{no_limit, limit_keys_again}

-- a statement without a fault before its values are read, whose values give this key
record GivesKey (k : Key) : Type 0 where
  pub no_fault : key_fault (key_statement k).operation (placed 0 (key_statement k).operands) ≡ None
  pub gives : (f : Fault) → keys_given f (key_statement k).operation (placed 0 (key_statement k).operands) ≡ Ok (k ∷ [])

-- ---- what has no operands

id_given : GivesKey key.Id
unfolding placed
id_given = record { no_fault = refl; gives = λ f. refl }

resource_given : GivesKey key.Resource
unfolding placed
resource_given = record { no_fault = refl; gives = λ f. refl }

-- ---- a path, a control unit

path_given : (css number : ℕ) → IsPath (record { css = css; path = number }) → GivesKey (key.Path css number)
unfolding placed
path_given css number is =
    let p : CssPath = record { css = css; path = number } in
    record {
      no_fault = rw (names_one_css (path_text p) (path_in_one p is), names_one_path p is) refl;
      gives = λ f. rw (path_again p is) refl;
    }

unit_given : (number : ℕ) → number ≤ 65534 → GivesKey (key.Unit number)
unfolding placed
unit_given number is = record {
  no_fault = rw (names_one_css (hex4 number) (hex4_in_one number (omega arith))) refl;
  gives = λ f. rw (number_again number is) refl;
}

-- ---- a device

abbrev one_device : ℕ → Devices
one_device number = record { first = number; count = 1 }

one_is : (number : ℕ) → number < 65536 → AreDevices (one_device number)
one_is number small = record { some = omega arith; most = omega arith; last = omega arith }

set_is_word : (set : ℕ) → set ≤ 3 → value (hex1 set) ≡ word (hex1 set)
set_is_word set small = plain_again (hex1 set) (hex1_plain set (omega arith))

device_given : (set number : ℕ) → IsDevicePlace set number → GivesKey (key.Device set number)
unfolding placed
device_given set number is = by (set == 0) refl
  where
    first : Devices
    first = one_device number

    one_css : IsInOneCss (devices_text (one_device number))
    one_css = devices_in_one (one_device number) (one_is number is.last)

    by : (none : Bool) → set == 0 ≡ none → GivesKey (key.Device set number)
    by true zero_set = record {
      no_fault = rw (zero_set, names_one_css (devices_text (one_device number)) one_css) refl;
      gives = λ f. rw (
        zero_set,
        devices_again (one_device number) (one_is number is.last),
        add-zero number,
        sym (eqb-true set 0 zero_set),
      ) refl;
    }
    by false other = record {
      no_fault = rw (
        other,
        names_one_css (devices_text (one_device number)) one_css,
        names_one_css (hex1 set) (hex1_in_one set (let small = is.within in omega arith)),
        set_is_word set is.within,
      )
          refl;
      gives = λ f. rw (
        other,
        devices_again (one_device number) (one_is number is.last),
        set_again set is.within,
        add-zero number,
      ) refl;
    }

-- ---- that a path is online to an image

name_is_read : (name : List ℕ) → is_name name ≡ true → every name_item (value name ∷ []) ≡ Some (name ∷ [])
unfolding every
name_is_read name is =
    let again : name_item (value name) ≡ Some name =
    ap name_item (plain_again name (name_plain name is)) ∙ name_again name is in
    rw again refl

pub names_are_read : (name : List ℕ) → is_name name ≡ true
    → (items (value (names_text (name ∷ []))) >>= every name_item) ≡ Some (name ∷ [])
names_are_read name is =
    ap (λ found. found >>= every name_item) (items_again name [] (whole_plain name (name_plain name is), tt))
    ∙ name_is_read name is

one_name : (name : List ℕ) → is_name name ≡ true → All (λ n. is_name n ≡ true) (name ∷ [])
one_name name is = All-cons (λ n. is_name n ≡ true) name [] is (All-nil (λ n. is_name n ≡ true))

pub name_in_one : (name : List ℕ) → is_name name ≡ true → IsInOneCss (names_text (name ∷ []))
name_in_one name is = names_in_one (name ∷ []) (one_name name is)

pair_given : (css number : ℕ) (name : List ℕ) → IsPair css number name → GivesKey (key.Online css number name)
unfolding placed
pair_given css number name is =
    let p : CssPath = record { css = css; path = number } in
    record {
      no_fault = rw (
        names_one_css (path_text p) (path_in_one p is.path),
        names_one_path p is.path,
        names_one_css (names_text (name ∷ [])) (name_in_one name is.named),
      ) refl;
      gives = λ f. rw (path_again p is.path, names_are_read name is.named) refl;
    }

-- ---- an image

one_in_order : {A : Type 0} (css_of : A → ℕ) (x : A) → css_of x < 6 → in_css_order css_of (x ∷ []) ≡ x ∷ []
one_in_order {A} css_of x small = by (css_of x) small
  where
    by : (n : ℕ) → n < 6 → flat_map (λ css. cond (n == css) (x ∷ []) []) (0 ∷ 1 ∷ 2 ∷ 3 ∷ 4 ∷ 5 ∷ []) ≡ x ∷ []
    by zero less = refl
    by (suc zero) less = refl
    by (suc (suc zero)) less = refl
    by (suc (suc (suc zero))) less = refl
    by (suc (suc (suc (suc zero)))) less = refl
    by (suc (suc (suc (suc (suc zero))))) less = refl
    by (suc (suc (suc (suc (suc (suc n)))))) less = absurd (omega arith)

abbrev star_pair : ImageKey → List ℕ
star_pair i = list_text (codes "*" ∷ hex1 i.mif ∷ [])

mif_again : (mif : ℕ) → 1 ≤ mif → mif ≤ 15 → mif_of (hex1 mif) ≡ Some mif
mif_again mif some most =
    ap (option_and_then (λ m. cond (m == 0) None (Some m))) (hex1_again 15 1 mif (omega arith) most refl)
    ∙ ap (λ b. cond b None (Some mif)) (ne_eqb mif 0 (λ e. omega arith))

pair_whole : (i : ImageKey) → IsImagePlace i.css i.mif → AllWhole (codes "*" ∷ hex1 i.mif ∷ [])
pair_whole i is = let most = is.most in
    (whole_plain (codes "*") refl, (whole_plain (hex1 i.mif) (hex1_plain i.mif (omega arith)), tt))

image_key_again : (i : ImageKey) → IsImagePlace i.css i.mif → image_key i.css (value (star_pair i)) ≡ Some i
image_key_again i is =
    let most = is.most in
    ap (λ found. found >>= image_key_listed i.css) (items_again (codes "*") (hex1 i.mif ∷ []) (pair_whole i is))
    ∙ ap (λ v. image_key_listed i.css (word (codes "*") ∷ v ∷ []))
    (plain_again (hex1 i.mif) (hex1_plain i.mif (omega arith)))
    ∙ ap (option_map (λ mif. record { css = i.css; mif = mif })) (mif_again i.mif is.some most)

image_read : (i : ImageKey) → IsImagePlace i.css i.mif
    → IsReadAgain image_key (λ (k : ImageKey). k.css) star_pair (λ (k : ImageKey). k) i
image_read i is = record
    { whole = whole_items (codes "*" ∷ hex1 i.mif ∷ []) (pair_whole i is); again = image_key_again i is }

abbrev pub starred : ℕ → ℕ → ImageRecord
starred css mif = record { css = css; mif = mif; name = codes "*" }

image_keys_again : (css mif : ℕ) → IsImagePlace css mif
    → image_keys (value (images_text (starred css mif ∷ []))) ≡ Some (key.Image css mif ∷ [])
image_keys_again css mif is =
    let i : ImageKey = record { css = css; mif = mif } in
    let Read : ImageKey → Type 0 = IsReadAgain image_key (λ (k : ImageKey). k.css) star_pair (λ (k : ImageKey). k) in
    ap (option_map (map key_of_image))
    (items_by_css_again false image_key (λ (k : ImageKey). k.css) star_pair (λ (k : ImageKey). k) (i ∷ [])
    (λ none. cc) (All-cons Read i [] (image_read i is) (All-nil Read))
    (one_in_order (λ (k : ImageKey). k.css) i is.subsystem))

image_in_one : (css mif : ℕ) → IsImagePlace css mif → IsInOneCss (images_text (starred css mif ∷ []))
image_in_one css mif is =
    let most = is.most in
    let text = (image_text (starred css mif)).text in
    let digit : All IsInOneCss (hex1 mif ∷ []) =
    All-cons IsInOneCss (hex1 mif) [] (hex1_in_one mif (omega arith)) (All-nil IsInOneCss) in
    let one : IsInOneCss text =
    list_in_one (codes "*" ∷ hex1 mif ∷ [])
    (All-cons IsInOneCss (codes "*") (hex1 mif ∷ []) (plain_in_one (codes "*") refl) digit) in
    by_css_in_one (map image_text (starred css mif ∷ []))
    (All-cons (λ i. IsInOneCss i.text) (image_text (starred css mif)) [] one (All-nil (λ i. IsInOneCss i.text)))

image_given : (css mif : ℕ) → IsImagePlace css mif → GivesKey (key.Image css mif)
unfolding placed
image_given css mif is = record {
  no_fault = rw (names_one_css (images_text (starred css mif ∷ [])) (image_in_one css mif is)) refl;
  gives = λ f. rw (image_keys_again css mif is) refl;
}

-- ---- a limit

pub no_limit_is : (css set : ℕ) → IsLimitPlace css set → IsLimit (no_limit css set)
no_limit_is css set is = record { css = is.subsystem; set = is.within; limit = omega arith }

limit_given : (css set : ℕ) → IsLimitPlace css set → GivesKey (key.Limit css set)
unfolding placed
limit_given css set is =
    let all = All-cons IsLimit (no_limit css set) [] (no_limit_is css set is) (All-nil IsLimit) in
    record {
      no_fault = rw (names_one_css (limits_text (no_limit css set ∷ [])) (limits_in_one (no_limit css set ∷ []) all))
          refl;
      gives = λ f. rw (limit_keys_again css set is.subsystem is.within) refl;
    }

-- ---- each kind of key

key_given : (k : Key) → IsGivenKey k → GivesKey k
key_given key.Id is = id_given
key_given key.Resource is = resource_given
key_given (key.Image css mif) is = image_given css mif is
key_given (key.Limit css set) is = limit_given css set is
key_given (key.Path css number) is = path_given css number is
key_given (key.Unit number) is = unit_given number is
key_given (key.Device set number) is = device_given set number is
key_given (key.Online css number name) is = pair_given css number name is

pub key_again : (line : ℕ) (k : Key) → IsGivenKey k → keys_of (as_read line (action_line (delete k))) ≡ Ok (k ∷ [])
key_again line k is =
    let given = key_given k is in
    ap (λ found. keys_unless found (as_read line (action_line (delete k)))) given.no_fault
    ∙ given.gives (fault.at S4 line)
