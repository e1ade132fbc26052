-- What is written of each operand is read again.
use Rattle.std.proofs.Common.{◌≡◌, ℕ, ◌+◌, ◌<◌, ◌≤◌, ◌^◌, nat_le, cond, Some, None, List, [], ◌∷◌, map, All, refl, sym}
use Rattle.std.proofs.Common.{ap, ◌∙◌, arith, le-leb}
use Rattle.std.proofs.lemmas.List.Elements.{All-head, All-tail}
use Rattle.std.specs.Fmt.{decimal}
use Rattle.std.specs.List.{join_with_byte}
use Rattle.std.specs.Option.{option_map}
use Rattle.iocm_types.specs.declared.unit_range.UnitRange.{UnitRange}
use Rattle.iocm_types.specs.Print.{hex1, hex2, hex4}
use Rattle.iocm_values.specs.Digits.{decimal_of}
use Rattle.iocm_values.specs.Numbers.{count_of}
use Rattle.iocm_values.specs.Reading.{◌>>=◌, every}
use Rattle.iocm_values.specs.Texts.{css_text}
use Rattle.iocm_values.specs.Value.{Value, word, list, value}
use Rattle.iocm_operands.specs.Again.{IsRange, ReadsPathAgain, ReadsNumberAgain, ReadsCuaddAgain}
use Rattle.iocm_operands.specs.Again.{ReadsFirstAddressAgain, ReadsSetAgain, ReadsDevicesAgain, ReadsUnitsAgain}
use Rattle.iocm_operands.specs.Again.{ReadsRangesAgain}
use Rattle.iocm_operands.specs.ChpidPath.{path_in, path_of_items}
use Rattle.iocm_operands.specs.Device.{devices_within, devices_listed, unit_item, first_address, set_of}
use Rattle.iocm_operands.specs.Unit.{number_of, cuadd_of, range_listed, range_of, range_text, ranges_listed}
use Rattle.iocm_values.proofs.Levels.{plain_again, items_or_one_again, whole_css, whole_items, css_word, css_again}
use Rattle.iocm_values.proofs.Levels.{list_again}
use Rattle.iocm_values.proofs.Numerals.{hex1_plain, hex2_plain, hex4_plain, hex2_again, hex4_again, hex1_decimal}
use Rattle.iocm_values.proofs.Numerals.{decimal_is, decimal_again, count_again}
use Rattle.iocm_values.proofs.Pieces.{IsWhole, AllWhole, whole_plain}

-- ---- words of numbers

pub hex2_word : (n : ℕ) → n < 256 → value (hex2 n) ≡ word (hex2 n)
hex2_word n small = plain_again (hex2 n) (hex2_plain n small)

pub hex4_word : (n : ℕ) → n < 65536 → value (hex4 n) ≡ word (hex4 n)
hex4_word n small = plain_again (hex4 n) (hex4_plain n small)

pub whole_hex2 : (n : ℕ) → n < 256 → IsWhole (hex2 n)
whole_hex2 n small = whole_plain (hex2 n) (hex2_plain n small)

pub whole_hex4 : (n : ℕ) → n < 65536 → IsWhole (hex4 n)
whole_hex4 n small = whole_plain (hex4 n) (hex4_plain n small)

decimal_word : (n : ℕ) → n < 2 ^ 64 → value (decimal n) ≡ word (decimal n)
decimal_word n small = let is = decimal_is n small in plain_again (decimal n) is.plain

whole_decimal : (n : ℕ) → n < 2 ^ 64 → IsWhole (decimal n)
whole_decimal n small = let is = decimal_is n small in whole_plain (decimal n) is.plain

-- ---- PATH of CHPID

pub path_again : ReadsPathAgain
path_again p is =
    let whole : AllWhole (css_text p.css ∷ hex2 p.path ∷ []) =
    (whole_css p.css (let small = is.css in omega arith), (whole_hex2 p.path is.path, tt)) in
    ap (λ found. found >>= path_of_items) (items_or_one_again (css_text p.css) (hex2 p.path ∷ []) whole)
    ∙ (λ i. path_of_items (css_word p.css i ∷ hex2_word p.path is.path i ∷ []))
    ∙ ap (λ found. found >>= λ n. path_in n (hex2 p.path)) (css_again p.css is.css)
    ∙ ap (option_map (λ path. record { css = p.css; path = path }))
    (hex2_again 255 2 p.path is.path (let small = is.path in omega arith) refl)

-- ---- numbers alone

pub number_again : ReadsNumberAgain
number_again number small =
    ap number_of (hex4_word number (omega arith)) ∙ hex4_again 65534 4 number (omega arith) small refl

pub cuadd_again : ReadsCuaddAgain
cuadd_again address small = ap cuadd_of (hex2_word address small) ∙ hex2_again 255 2 address small (omega arith) refl

pub first_address_again : ReadsFirstAddressAgain
first_address_again count first small last =
    ap (first_address count) (hex2_word first small)
    ∙ ap (λ found. found >>= λ n. cond (nat_le (n + count) 256) (Some n) None)
    (hex2_again 255 2 first small (omega arith) refl)
    ∙ ap (λ b. cond b (Some first) None) (le-leb (first + count) 256 last)

pub set_again : ReadsSetAgain
set_again set small =
    ap set_of (plain_again (hex1 set) (hex1_plain set (omega arith)))
    ∙ ap (decimal_of 3) (hex1_decimal set (omega arith)) ∙ decimal_again 3 set (omega arith) small

-- ---- ADDRESS of IODEVICE

pub devices_again : ReadsDevicesAgain
devices_again d is =
    let some = is.some in let most = is.most in let last = is.last in
    let first_small : d.first < 65536 = omega arith in
    let count_small : d.count < 2 ^ 64 = omega arith in
    ap (λ found. found >>= devices_listed)
    (items_or_one_again (hex4 d.first) (decimal d.count ∷ [])
    (whole_hex4 d.first first_small, (whole_decimal d.count count_small, tt)))
    ∙ (λ i. devices_listed (hex4_word d.first first_small i ∷ decimal_word d.count count_small i ∷ []))
    ∙ ap (λ found. found >>= λ n. count_of 4096 (decimal d.count) >>= devices_within n)
    (hex4_again 65535 4 d.first first_small (omega arith) refl)
    ∙ ap (λ found. found >>= devices_within d.first) (count_again 4096 d.count count_small some most)
    ∙ ap (λ b. cond b (Some d) None) (le-leb (d.first + d.count) 65536 last)

-- ---- CUNUMBR of IODEVICE

units_whole : (units : List ℕ) → All (λ unit. unit ≤ 65534) units → AllWhole (map hex4 units)
units_whole [] small = tt
units_whole (unit ∷ units) small =
    let first : unit ≤ 65534 = All-head (λ u. u ≤ 65534) unit units small in
    (whole_hex4 unit (omega arith), units_whole units (All-tail (λ u. u ≤ 65534) unit units small))

unit_again : (unit : ℕ) → unit ≤ 65534 → unit_item (value (hex4 unit)) ≡ Some unit
unit_again unit small = number_again unit small

units_each : (units : List ℕ) → All (λ unit. unit ≤ 65534) units
    → every unit_item (map value (map hex4 units)) ≡ Some units
unfolding every
units_each [] small = refl
units_each (unit ∷ units) small =
    rw (
      unit_again unit (All-head (λ u. u ≤ 65534) unit units small),
      units_each units (All-tail (λ u. u ≤ 65534) unit units small),
    ) refl

pub units_again : ReadsUnitsAgain
units_again [] some small = absurd (some refl)
units_again (unit ∷ units) some small =
    ap (λ found. found >>= every unit_item)
    (items_or_one_again (hex4 unit) (map hex4 units) (units_whole (unit ∷ units) small))
    ∙ units_each (unit ∷ units) small

-- ---- UNITADD of CNTLUNIT

range_whole : (r : UnitRange) → IsRange r → AllWhole (hex2 r.start ∷ decimal r.count ∷ [])
range_whole r is = (whole_hex2 r.start is.start, (whole_decimal r.count (let most = is.most in omega arith), tt))

range_again : (r : UnitRange) → IsRange r → range_of (value (range_text r)) ≡ Some r
range_again r is =
    let most = is.most in
    let count_small : r.count < 2 ^ 64 = omega arith in
    ap (λ found. found >>= range_listed) (items_or_one_again (hex2 r.start) (decimal r.count ∷ []) (range_whole r is))
    ∙ (λ i. range_listed (hex2_word r.start is.start i ∷ decimal_word r.count count_small i ∷ []))
    ∙ ap (λ found. found >>= λ n. count_of 256 (decimal r.count) >>= λ c. Some (record { start = n; count = c }))
    (hex2_again 255 2 r.start is.start (let small = is.start in omega arith) refl)
    ∙ ap (λ found. found >>= λ c. Some (record { start = r.start; count = c }))
    (count_again 256 r.count count_small is.some most)

ranges_whole : (ranges : List UnitRange) → All IsRange ranges → AllWhole (map range_text ranges)
ranges_whole [] are = tt
ranges_whole (r ∷ ranges) are = (
  whole_items (hex2 r.start ∷ decimal r.count ∷ []) (range_whole r (All-head IsRange r ranges are)),
  ranges_whole ranges (All-tail IsRange r ranges are),
)

ranges_each : (ranges : List UnitRange) → All IsRange ranges
    → every range_of (map value (map range_text ranges)) ≡ Some ranges
unfolding every
ranges_each [] are = refl
ranges_each (r ∷ ranges) are =
    rw (range_again r (All-head IsRange r ranges are), ranges_each ranges (All-tail IsRange r ranges are)) refl

-- the first is a list, so each is read as a range
first_is_list : (inner : List ℕ) (v : Value) (items : List Value) → v ≡ list inner
    → ranges_listed (v ∷ items) ≡ every range_of (v ∷ items)
first_is_list inner v items is =
    ap (λ first. ranges_listed (first ∷ items)) is ∙ ap (λ first. every range_of (first ∷ items)) (sym is)

pub ranges_again : ReadsRangesAgain
ranges_again [] some are = absurd (some refl)
ranges_again (r ∷ ranges) some are =
    let inner : List ℕ = join_with_byte 44 (hex2 r.start ∷ decimal r.count ∷ []) in
    ap (λ found. found >>= ranges_listed)
    (items_or_one_again (range_text r) (map range_text ranges) (ranges_whole (r ∷ ranges) are))
    ∙ first_is_list inner (value (range_text r)) (map value (map range_text ranges)) (list_again inner)
    ∙ ranges_each (r ∷ ranges) are
