-- Online records that are looked for among the users of a path.
use Rattle.std.specs.Prelude.{◌≡◌, ℕ, ◌&&◌, ◌||◌, ◌==◌, not, Bool, true, false, if◌then◌else◌, Option, None, Some, List}
use Rattle.std.specs.Prelude.{[], ◌∷◌}
use Rattle.std.specs.List.{list_any}
use Rattle.iocm_types.specs.declared.key.Key.{Key}
use Rattle.iocm_types.specs.declared.key.Key.TheVariants.{Online, Path}
use Rattle.iocm_types.specs.declared.named.Named.TheVariants.{Record}
use Rattle.iocm_index.specs.Namings.{Namings, users_in}
use Rattle.iocm_model.specs.Machine.Record.{Rec, OnlineRecord, online}
use Rattle.iocm_model.specs.Machine.Configuration.{Configuration, Lookup, lookup_of}
use Rattle.iocm_model.specs.Machine.Sight.{record_lists}
use Rattle.iocm_model.specs.Rules.EachRule.{breaks_v4, is_exclusive, is_online_at, some_before}
use Rattle.iocm_lookup.specs.Among.{is_so_at}

-- an online record breaks V4 where this is what stands under the key of its path
abbrev pub is_wrong_on : Configuration → OnlineRecord → Option Rec → Bool
is_wrong_on c o found = not (record_lists o.name found)
    || (is_exclusive found && some_before c (online o) (is_online_at o.css o.path))

-- the key of an online record of a path
abbrev pub is_key_at_path : ℕ → ℕ → Key → Bool
is_key_at_path css number (Online own_css own_path name) = own_css == css && own_path == number
is_key_at_path css number _ = false

-- no online record breaks V4 but on the path of one of these keys
abbrev pub AreOnPathsOf : List Key → Configuration → Type 0
AreOnPathsOf keys c = (key : Key) (o : OnlineRecord) → lookup_of c key ≡ Some (online o) → breaks_v4 c (online o) ≡ true
    → list_any (is_key_at_path o.css o.path) keys ≡ true

-- of some keys the first whose record is so
abbrev pub first_so : (Rec → Bool) → Lookup → List Key → Option Key
first_so is_so c [] = None
first_so is_so c (k ∷ ks) = if is_so_at is_so c k then Some k else first_so is_so c ks

-- of what names the path of an online record's key the first that is so; of other keys none
abbrev pub first_on_path : (Rec → Bool) → Lookup → Namings → Key → Option Key
first_on_path is_so c index (Online css path name) = first_so is_so c (users_in (Record (Path css path)) index)
first_on_path is_so c index _ = None
