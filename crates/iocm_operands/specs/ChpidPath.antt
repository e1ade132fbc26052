-- PATH of CHPID: cc in CSS 0, (cc), or (CSS(n),cc), with one outer pair of parentheses more or
-- without. IOCP User's Guide, CHPID statement; the forms are own.
use Rattle.std.specs.Prelude.{ℕ, Option, None, List, [], ◌∷◌}
use Rattle.std.specs.Option.{option_map}
use Rattle.iocm_types.specs.declared.css_path.CssPath.{CssPath}
use Rattle.iocm_types.specs.Print.{hex2}
use Rattle.iocm_values.specs.CssLists.{css_number}
use Rattle.iocm_values.specs.Numbers.{path_number}
use Rattle.iocm_values.specs.Reading.{◌>>=◌}
use Rattle.iocm_values.specs.Texts.{list_text, css_text}
use Rattle.iocm_values.specs.Value.{Value, word, list, values, items_or_one}

-- the path of this number in a channel subsystem
abbrev pub path_in : ℕ → List ℕ → Option CssPath
path_in css number = option_map (λ path. record { css = css; path = path }) (path_number number)

-- (cc) in CSS 0, or (CSS(n),cc)
abbrev pub path_listed : List Value → Option CssPath
path_listed (word number ∷ []) = path_in 0 number
path_listed (word css ∷ word number ∷ []) = css_number css >>= λ n. path_in n number
path_listed _ = None

-- the same, or one outer pair of parentheses more
abbrev pub path_of_items : List Value → Option CssPath
path_of_items (list inner ∷ []) = values inner >>= path_listed
path_of_items items = path_listed items

-- or cc alone
abbrev pub path_of : Value → Option CssPath
path_of v = items_or_one v >>= path_of_items

-- a path as it is written: (CSS(n),cc)
abbrev pub path_text : CssPath → List ℕ
path_text p = list_text (css_text p.css ∷ hex2 p.path ∷ [])
