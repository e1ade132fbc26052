-- The values of CNTLUNIT: number, paths, ranges of unit addresses, links, control unit address.
-- IOCP User's Guide, CNTLUNIT statement; the forms are own.
use Rattle.std.specs.Prelude.{ℕ, ◌==◌, false, if◌then◌else◌, Option, None, Some, List, [], ◌∷◌, map, length, codes}
use Rattle.std.specs.Option.{option_map}
use Rattle.std.specs.Fmt.{decimal}
use Rattle.std.specs.Str.{bytes_eq}
use Rattle.iocm_types.specs.Print.{hex2, hex4}
use Rattle.iocm_types.specs.declared.css_path.CssPath.{CssPath}
use Rattle.iocm_types.specs.declared.link.CssLink.{CssLink}
use Rattle.iocm_types.specs.declared.link.Link.{Link}
use Rattle.iocm_types.specs.declared.link.Link.TheVariants as link
use Rattle.iocm_types.specs.declared.unit_range.UnitRange.{UnitRange}
use Rattle.iocm_values.specs.declared.texts.CssText.{CssText}
use Rattle.iocm_values.specs.CssLists.{by_css}
use Rattle.iocm_values.specs.Digits.{hex_of}
use Rattle.iocm_values.specs.Numbers.{unit_number, path_number, unit_address, count_of}
use Rattle.iocm_values.specs.Reading.{◌>>=◌, every}
use Rattle.iocm_values.specs.Texts.{list_text, by_css_text}
use Rattle.iocm_values.specs.Value.{Value, word, list, items_or_one, word_text}

-- a unit's number, which stands alone
abbrev pub number_of : Value → Option ℕ
number_of v = word_text v >>= unit_number

-- cc
abbrev pub path_item : ℕ → Value → Option CssPath
path_item css v = word_text v >>= path_number >>= λ path. Some (record { css = css; path = path })

-- a list by channel subsystem of path numbers
abbrev pub paths_of : Value → Option (List CssPath)
paths_of v = by_css false path_item (λ (p : CssPath). p.css) v

abbrev pub short_link : List ℕ → Option Link
short_link text = option_map link.Short (hex_of 255 2 text)

abbrev pub long_link : List ℕ → Option Link
long_link text = option_map link.Long (hex_of 65535 4 text)

-- two digits and four digits are two links; ** is none
abbrev pub link_of : List ℕ → Option Link
link_of text =
    if bytes_eq text (codes "**") then Some link.None
    else if length text == 2 then short_link text
    else if length text == 4 then long_link text
    else None

abbrev pub link_item : ℕ → Value → Option CssLink
link_item css v = word_text v >>= link_of >>= λ l. Some (record { css = css; link = l })

-- a list by channel subsystem of links, or ** for none
abbrev pub links_of : Value → Option (List CssLink)
links_of v = by_css false link_item (λ (l : CssLink). l.css) v

-- (start) with one address, or (start,count)
abbrev pub range_listed : List Value → Option UnitRange
range_listed (word start ∷ []) = option_map (λ n. record { start = n; count = 1 }) (unit_address start)
range_listed (word start ∷ word count ∷ []) = unit_address start >>= λ n. count_of 256 count >>= λ c.
    Some (record { start = n; count = c })
range_listed _ = None

-- the same, or start alone
abbrev pub range_of : Value → Option UnitRange
range_of v = items_or_one v >>= range_listed

-- ranges where the first item is a list, else one range
abbrev pub ranges_listed : List Value → Option (List UnitRange)
ranges_listed (list inner ∷ items) = every range_of (list inner ∷ items)
ranges_listed items = option_map (λ range. range ∷ []) (range_listed items)

abbrev pub ranges_of : Value → Option (List UnitRange)
ranges_of v = items_or_one v >>= ranges_listed

-- without UNITADD a unit answers to all 256 addresses
abbrev pub all_addresses : List UnitRange
all_addresses = record { start = 0; count = 256 } ∷ []

-- the control unit address, one or two digits
abbrev pub cuadd_of : Value → Option ℕ
cuadd_of v = word_text v >>= unit_address

-- As they are written. A path in the group of its channel subsystem
abbrev pub path_item_text : CssPath → CssText
path_item_text p = record { css = p.css; text = hex2 p.path }

-- paths: ((CSS(0),50,51))
abbrev pub paths_text : List CssPath → List ℕ
paths_text paths = by_css_text (map path_item_text paths)

-- a range: (00,16)
abbrev pub range_text : UnitRange → List ℕ
range_text r = list_text (hex2 r.start ∷ decimal r.count ∷ [])

-- ranges: ((00,16),(20,8))
abbrev pub ranges_text : List UnitRange → List ℕ
ranges_text ranges = list_text (map range_text ranges)

-- a link: two digits, four digits, or ** for none
abbrev pub link_text : Link → List ℕ
link_text link.None = codes "**"
link_text (link.Short n) = hex2 n
link_text (link.Long n) = hex4 n

abbrev pub link_item_text : CssLink → CssText
link_item_text l = record { css = l.css; text = link_text l.link }

-- links: ((CSS(0),1A,**))
abbrev pub links_text : List CssLink → List ℕ
links_text links = by_css_text (map link_item_text links)
