-- The deck of a configuration, with what it doesn't say: where a path isn't online to the images of
-- its access list, or is online to others. Bytes by their codes: 10 ends a line.
use Rattle.std.specs.Prelude.{ℕ, Bool, true, List, [], ◌∷◌, ◌++◌, codes, map, if◌then◌else◌}
use Rattle.std.specs.List.{flat_map}
use Rattle.std.specs.FinMap.{contains_key, retain_keys}
use Rattle.iocm_types.specs.declared.key.Key.{Key}
use Rattle.iocm_types.specs.declared.key.Key.TheVariants.{Path, Online}
use Rattle.iocm_types.specs.Key.{key_text}
use Rattle.iocm_model.specs.Machine.Configuration.{Configuration, configuration_of, records_of}
use Rattle.iocm_model.specs.Machine.Record.{Rec, key_of, path, online}
use Rattle.iocm_model.specs.Change.Maps.{differing}
use Rattle.iocm_config.specs.OnlineLast.{is_online}
use Rattle.iocm_deck_writer.specs.Canonical.{canonical_deck}

-- what a deck says of a path: that it is online to each image of its access list
abbrev pub online_by : Rec → List Rec
online_by (path p) = map (λ name. online (record { css = p.css; path = p.number; name = name })) p.access
online_by _ = []

-- what is online by the access lists of a configuration, and what is online in it
abbrev pub online_by_lists : Configuration → Configuration
online_by_lists c = configuration_of (flat_map online_by (records_of c))

abbrev pub online_in : Configuration → Configuration
online_in c = retain_keys c is_online

-- the pairs of a path and an image of which the deck says otherwise, in the order of keys
abbrev pub pairs_untold : Configuration → List Key
pairs_untold c = differing (λ a b. true) (online_by_lists c) (online_in c)

-- the pairs of which access lists say that they are online
abbrev pub pairs_listed : List Rec → List Key
pairs_listed records = map key_of (flat_map online_by records)

-- the comment on a pair: * path 0.50 isn't online to LPB, or: * path 0.51 is online to LPB
abbrev pub is_or_not : Bool → List ℕ
is_or_not there = if there then codes "is" else codes "isn't"

abbrev pub remark_text : Key → Bool → List ℕ → List ℕ
remark_text path_key there name =
    codes "* " ++ (key_text path_key ++ (codes " " ++ (is_or_not there ++ (codes " online to " ++ name))))

-- its line, by whether it is online; and in a configuration
abbrev pub line_by : Bool → Key → List ℕ
line_by there (Online css number name) = remark_text (Path css number) there name ++ 10 ∷ []
line_by there _ = []

unfoldable pub remark_line : Configuration → Key → List ℕ
remark_line c pair = line_by (contains_key c pair) pair

-- the canonical deck, and behind it the comments
abbrev pub deck_text : Configuration → List ℕ
deck_text c = canonical_deck c ++ flat_map (remark_line c) (pairs_untold c)
