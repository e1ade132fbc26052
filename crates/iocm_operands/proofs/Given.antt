-- What a reader gives is a value that its operand can have: paths, numbers, devices, units and
-- ranges.
use Rattle.std.proofs.Common.{◌≡◌, ◌≢◌, ℕ, ◌+◌, ◌<◌, ◌≤◌, ◌==◌, nat_le, Bool, true, false, cond, Option, Some, None}
use Rattle.std.proofs.Common.{List, [], ◌∷◌, map, All, refl, ◌∙◌, subst, arith, leb-true}
use Rattle.std.proofs.lemmas.Bool.{eqb-false}
use Rattle.std.proofs.lemmas.List.Elements.{All-nil, All-cons}
use Rattle.std.specs.Option.{option_map, option_and_then}
use Rattle.iocm_types.specs.declared.css_path.CssPath.{CssPath}
use Rattle.iocm_types.specs.declared.unit_range.UnitRange.{UnitRange}
use Rattle.iocm_statements.specs.declared.nesting.Nesting.{Nesting}
use Rattle.iocm_statements.specs.Nesting.{start, is_outside, step, cuts}
use Rattle.iocm_statements.specs.Pieces.{onto_first, pieces_from, pieces_of}
use Rattle.iocm_values.specs.CssLists.{inside_css, css_number}
use Rattle.iocm_values.specs.Digits.{hex_value, decimal_value, up_to, hex_of, decimal_of}
use Rattle.iocm_values.specs.Numbers.{path_number, unit_number, unit_address, count_of}
use Rattle.iocm_values.specs.Reading.{◌>>=◌, every}
use Rattle.iocm_values.specs.Value.{Value, word, list, value, values, items_or_one, word_text}
use Rattle.iocm_operands.specs.declared.device.Devices.{Devices}
use Rattle.iocm_operands.specs.Again.{IsPath, AreDevices, IsRange}
use Rattle.iocm_operands.specs.ChpidPath.{path_in, path_listed, path_of_items}
use Rattle.iocm_operands.specs.Device.{devices_within, devices_listed, unit_item}
use Rattle.iocm_operands.specs.Given.{GivesPath, GivesNumber, GivesCuadd, GivesFirstAddress, GivesSet, GivesDevices}
use Rattle.iocm_operands.specs.Given.{GivesUnits, GivesRanges}
use Rattle.iocm_operands.specs.Unit.{range_listed, range_of, ranges_listed}

-- ---- where something is given, each step has given something

pub no_value : {A B : Type 0} (x : A) → None ≡ Some x → B
no_value x e = absurd (cc)

pub same_value : {A : Type 0} (x y : A) → Some x ≡ Some y → x ≡ y
same_value x y e = cc

pub step_gave : {A B : Type 0} (o : Option A) (f : A → Option B) (y : B) → (o >>= f) ≡ Some y
    → (x : A) × (o ≡ Some x) × (f x ≡ Some y)
step_gave None f y e = no_value y e
step_gave (Some x) f y e = (x, refl, e)

pub then_gave : {A B : Type 0} (o : Option A) (f : A → Option B) (y : B) → option_and_then f o ≡ Some y
    → (x : A) × (o ≡ Some x) × (f x ≡ Some y)
then_gave None f y e = no_value y e
then_gave (Some x) f y e = (x, refl, e)

pub map_gave : {A B : Type 0} (o : Option A) (f : A → B) (y : B) → option_map f o ≡ Some y
    → (x : A) × (o ≡ Some x) × (f x ≡ y)
map_gave None f y e = no_value y e
map_gave (Some x) f y e = (x, refl, same_value (f x) y e)

pub test_gave : {A : Type 0} (b : Bool) (o : Option A) (y : A) → cond b o None ≡ Some y → (b ≡ true) × (o ≡ Some y)
test_gave true o y e = (refl, e)
test_gave false o y e = no_value y e

-- ---- numbers

up_to_small : (limit m n : ℕ) → up_to limit m ≡ Some n → n ≤ limit
up_to_small limit m n e =
    let gave = test_gave (nat_le m limit) (Some m) n e in
    let within : m ≤ limit = leb-true m limit gave.0 in
    subst (λ k. k ≤ limit) (same_value m n gave.1) within

pub hex_small : (limit width n : ℕ) (text : List ℕ) → hex_of limit width text ≡ Some n → n ≤ limit
hex_small limit width n text e = up_to_small limit (hex_value text) n (test_gave _ (up_to limit (hex_value text)) n e).1

pub decimal_small : (limit n : ℕ) (text : List ℕ) → decimal_of limit text ≡ Some n → n ≤ limit
decimal_small limit n text e =
    up_to_small limit (decimal_value text) n (test_gave _ (up_to limit (decimal_value text)) n e).1

pub not_zero : (m n : ℕ) → cond (m == 0) None (Some m) ≡ Some n → (m ≡ n) × (1 ≤ n)
not_zero m n e = by (m == 0) refl e
  where
    by : (b : Bool) → m == 0 ≡ b → cond b None (Some m) ≡ Some n → (m ≡ n) × (1 ≤ n)
    by true zero e = no_value n e
    by false other e =
        let same : m ≡ n = same_value m n e in
        let some : m ≢ 0 = eqb-false m 0 other in
        (same, subst (λ k. 1 ≤ k) same (omega arith))

pub count_small : (limit n : ℕ) (text : List ℕ) → count_of limit text ≡ Some n → (1 ≤ n) × (n ≤ limit)
count_small limit n text e =
    let gave = then_gave (decimal_of limit text) (λ m. cond (m == 0) None (Some m)) n e in
    let some = not_zero gave.0 n gave.2 in
    (some.1, subst (λ k. k ≤ limit) some.0 (decimal_small limit gave.0 text gave.1))

pub css_small : (n : ℕ) (text : List ℕ) → css_number text ≡ Some n → n < 6
css_small n text e =
    let gave = then_gave (inside_css text) (decimal_of 5) n e in
    let small = decimal_small 5 n gave.0 gave.2 in omega arith

-- ---- a list has an item

onto_some : (front : List ℕ) (ps : List (List ℕ)) → ps ≢ [] → onto_first front ps ≢ []
onto_some front [] some = λ _. some refl
onto_some front (x ∷ xs) some = λ e. cc

pub more_some : {A : Type 0} (x : A) (xs ys : List A) → x ∷ xs ≡ ys → ys ≢ []
more_some x xs ys e none = let same : x ∷ xs ≡ [] = e ∙ none in cc

pieces_some : (text : List ℕ) (p : Nesting) (ps : List (List ℕ)) → pieces_from p text ≡ Some ps → ps ≢ []
unfolding pieces_from
pieces_some [] p ps e = more_some [] [] ps (same_value ([] ∷ []) ps (test_gave (is_outside p) (Some ([] ∷ [])) ps e).1)
pieces_some (b ∷ bs) p ps e = by (cuts p b) e (pieces_some bs)
  where
    by : (cut : Bool)
        → cond cut (option_map (λ pieces. [] ∷ pieces) (pieces_from p bs))
        (option_and_then (λ q. option_map (onto_first (b ∷ [])) (pieces_from q bs)) (step p b)) ≡ Some ps
        → ((q : Nesting) (rest : List (List ℕ)) → pieces_from q bs ≡ Some rest → rest ≢ []) → ps ≢ []
    by true is others =
        let gave = map_gave (pieces_from p bs) (λ pieces. [] ∷ pieces) ps is in
        more_some [] gave.0 ps gave.2
    by false is others =
        let next = then_gave (step p b) (λ q. option_map (onto_first (b ∷ [])) (pieces_from q bs)) ps is in
        let gave = map_gave (pieces_from next.0 bs) (onto_first (b ∷ [])) ps next.2 in
        subst (λ xs. xs ≢ []) gave.2 (onto_some (b ∷ []) gave.0 (others next.0 gave.0 gave.1))

map_some : {A B : Type 0} (f : A → B) (xs : List A) → xs ≢ [] → map f xs ≢ []
map_some f [] some = λ _. some refl
map_some f (x ∷ xs) some = λ e. cc

pub values_some : (text : List ℕ) (vs : List Value) → values text ≡ Some vs → vs ≢ []
values_some text vs e =
    let gave = map_gave (pieces_of text) (map value) vs e in
    subst (λ xs. xs ≢ []) gave.2 (map_some value gave.0 (pieces_some text start gave.0 gave.1))

pub items_or_one_some : (v : Value) (vs : List Value) → items_or_one v ≡ Some vs → vs ≢ []
items_or_one_some (word text) vs e = more_some (word text) [] vs (same_value (word text ∷ []) vs e)
items_or_one_some (list inner) vs e = values_some inner vs e

-- each item that is read is such a one, and there is one where there is an item
pub every_gave : {A B : Type 0} (P : B → Type 0) (read : A → Option B) → ((x : A) (y : B) → read x ≡ Some y → P y)
    → (xs : List A) (ys : List B) → every read xs ≡ Some ys → All P ys × (xs ≢ [] → ys ≢ [])
unfolding every
every_gave P read is [] ys e = let same : [] ≡ ys = same_value [] ys e in
    (subst (All P) same (All-nil P), λ some. absurd (some refl))
every_gave P read is (x ∷ xs) ys e =
    let first = step_gave (read x) (λ y. every read xs >>= λ rest. Some (y ∷ rest)) ys e in
    let rest = step_gave (every read xs) (λ others. Some (first.0 ∷ others)) ys first.2 in
    let same : first.0 ∷ rest.0 ≡ ys = same_value (first.0 ∷ rest.0) ys rest.2 in
    let others = every_gave P read is xs rest.0 rest.1 in (
      subst (All P) same (All-cons P first.0 rest.0 (is x first.0 first.1) others.0),
      λ _.
          more_some first.0 rest.0 ys same,
    )

-- ---- PATH of CHPID

path_in_is : (css : ℕ) (number : List ℕ) (p : CssPath) → css < 6 → path_in css number ≡ Some p → IsPath p
path_in_is css number p small e =
    let gave = map_gave (path_number number) (λ path. record { css = css; path = path }) p e in
    let within = hex_small 255 2 gave.0 number gave.1 in
    subst IsPath gave.2 (record { css = small; path = omega arith })

path_listed_is : (vs : List Value) (p : CssPath) → path_listed vs ≡ Some p → IsPath p
path_listed_is [] p e = no_value p e
path_listed_is (list inner ∷ vs) p e = no_value p e
path_listed_is (word number ∷ []) p e = path_in_is 0 number p (omega arith) e
path_listed_is (word css ∷ list inner ∷ vs) p e = no_value p e
path_listed_is (word css ∷ word number ∷ v ∷ vs) p e = no_value p e
path_listed_is (word css ∷ word number ∷ []) p e =
    let gave = step_gave (css_number css) (λ n. path_in n number) p e in
    path_in_is gave.0 number p (css_small gave.0 css gave.1) gave.2

path_items_is : (vs : List Value) (p : CssPath) → path_of_items vs ≡ Some p → IsPath p
path_items_is [] p e = path_listed_is [] p e
path_items_is (word text ∷ vs) p e = path_listed_is (word text ∷ vs) p e
path_items_is (list inner ∷ v ∷ vs) p e = path_listed_is (list inner ∷ v ∷ vs) p e
path_items_is (list inner ∷ []) p e =
    let gave = step_gave (values inner) path_listed p e in path_listed_is gave.0 p gave.2

pub path_given : GivesPath
path_given v p e = let gave = step_gave (items_or_one v) path_of_items p e in path_items_is gave.0 p gave.2

-- ---- numbers alone

pub number_given : GivesNumber
number_given v number e = let gave = step_gave (word_text v) unit_number number e in
    hex_small 65534 4 number gave.0 gave.2

pub cuadd_given : GivesCuadd
cuadd_given v address e =
    let gave = step_gave (word_text v) unit_address address e in
    let within = hex_small 255 2 address gave.0 gave.2 in omega arith

pub first_address_given : GivesFirstAddress
first_address_given count v first e =
    let gave = step_gave (word_text v >>= hex_of 255 2) (λ n. cond (nat_le (n + count) 256) (Some n) None) first e in
    let fits = test_gave (nat_le (gave.0 + count) 256) (Some gave.0) first gave.2 in
    let same : gave.0 ≡ first = same_value gave.0 first fits.1 in
    let sum : gave.0 + count ≤ 256 = leb-true (gave.0 + count) 256 fits.0 in
    let text = step_gave (word_text v) (hex_of 255 2) gave.0 gave.1 in
    let within : gave.0 ≤ 255 = hex_small 255 2 gave.0 text.0 text.2 in
    (omega (arith, same, within), omega (arith, same, sum))

pub set_given : GivesSet
set_given v set e = let gave = step_gave (word_text v) (decimal_of 3) set e in decimal_small 3 set gave.0 gave.2

-- ---- ADDRESS of IODEVICE

within_are : (first count : ℕ) (d : Devices) → 1 ≤ count → count ≤ 4096 → devices_within first count ≡ Some d
    → AreDevices d
within_are first count d some most e =
    let gave = test_gave (nat_le (first + count) 65536) (Some (record { first = first; count = count })) d e in
    subst AreDevices (same_value (record { first = first; count = count }) d gave.1)
    (record { some = some; most = most; last = leb-true (first + count) 65536 gave.0 })

devices_listed_are : (vs : List Value) (d : Devices) → devices_listed vs ≡ Some d → AreDevices d
devices_listed_are [] d e = no_value d e
devices_listed_are (list inner ∷ vs) d e = no_value d e
devices_listed_are (word number ∷ []) d e =
    let gave = step_gave (hex_of 65535 4 number) (λ n. devices_within n 1) d e in
    within_are gave.0 1 d (omega arith) (omega arith) gave.2
devices_listed_are (word number ∷ list inner ∷ vs) d e = no_value d e
devices_listed_are (word number ∷ word count ∷ v ∷ vs) d e = no_value d e
devices_listed_are (word number ∷ word count ∷ []) d e =
    let gave = step_gave (hex_of 65535 4 number) (λ n. count_of 4096 count >>= devices_within n) d e in
    let many = step_gave (count_of 4096 count) (devices_within gave.0) d gave.2 in
    let fits = count_small 4096 many.0 count many.1 in
    within_are gave.0 many.0 d fits.0 fits.1 many.2

pub devices_given : GivesDevices
devices_given v d e = let gave = step_gave (items_or_one v) devices_listed d e in devices_listed_are gave.0 d gave.2

-- ---- CUNUMBR of IODEVICE

pub units_given : GivesUnits
units_given v units e =
    let gave = step_gave (items_or_one v) (every unit_item) units e in
    let each = every_gave (λ unit. unit ≤ 65534) unit_item number_given gave.0 units gave.2 in
    (each.1 (items_or_one_some v gave.0 gave.1), each.0)

-- ---- UNITADD of CNTLUNIT

range_listed_is : (vs : List Value) (r : UnitRange) → range_listed vs ≡ Some r → IsRange r
range_listed_is [] r e = no_value r e
range_listed_is (list inner ∷ vs) r e = no_value r e
range_listed_is (word number ∷ []) r e =
    let gave = map_gave (unit_address number) (λ n. record { start = n; count = 1 }) r e in
    let within = hex_small 255 2 gave.0 number gave.1 in
    subst IsRange gave.2 (record { start = omega arith; some = omega arith; most = omega arith })
range_listed_is (word number ∷ list inner ∷ vs) r e = no_value r e
range_listed_is (word number ∷ word count ∷ v ∷ vs) r e = no_value r e
range_listed_is (word number ∷ word count ∷ []) r e =
    let gave = step_gave (unit_address number) (λ n. count_of 256 count >>= λ c. Some (record { start = n; count = c }))
    r e in
    let many = step_gave (count_of 256 count) (λ c. Some (record { start = gave.0; count = c })) r gave.2 in
    let within = hex_small 255 2 gave.0 number gave.1 in
    let fits = count_small 256 many.0 count many.1 in
    subst IsRange (same_value (record { start = gave.0; count = many.0 }) r many.2)
    (record { start = omega arith; some = fits.0; most = fits.1 })

range_given : (v : Value) (r : UnitRange) → range_of v ≡ Some r → IsRange r
range_given v r e = let gave = step_gave (items_or_one v) range_listed r e in range_listed_is gave.0 r gave.2

one_range : (vs : List Value) (ranges : List UnitRange) → option_map (λ r. r ∷ []) (range_listed vs) ≡ Some ranges
    → (ranges ≢ []) × All IsRange ranges
one_range vs ranges e =
    let gave = map_gave (range_listed vs) (λ r. r ∷ []) ranges e in (
      more_some gave.0 [] ranges gave.2,
      subst (All IsRange) gave.2 (All-cons IsRange gave.0 [] (range_listed_is vs gave.0 gave.1) (All-nil IsRange)),
    )

ranges_listed_are : (vs : List Value) (ranges : List UnitRange) → ranges_listed vs ≡ Some ranges
    → (ranges ≢ []) × All IsRange ranges
ranges_listed_are [] ranges e = one_range [] ranges e
ranges_listed_are (word text ∷ vs) ranges e = one_range (word text ∷ vs) ranges e
ranges_listed_are (list inner ∷ vs) ranges e =
    let each = every_gave IsRange range_of range_given (list inner ∷ vs) ranges e in
    (each.1 (more_some (list inner) vs (list inner ∷ vs) refl), each.0)

pub ranges_given : GivesRanges
ranges_given v ranges e = let gave = step_gave (items_or_one v) ranges_listed ranges e in
    ranges_listed_are gave.0 ranges gave.2
