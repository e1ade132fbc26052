-- PARTITION of CHPID: the access and the candidate list of a path, in the group of its channel
-- subsystem or without. IOCP User's Guide, CHPID statement; the forms are own.
use Rattle.std.specs.Prelude.{ℕ, ◌==◌, ◌-◌, ◌||◌, Bool, true, false, if◌then◌else◌, Option}
use Rattle.std.specs.Prelude.{None, Some, List, [], ◌∷◌, length, take, slice_get, codes}
use Rattle.std.specs.List.{list_any}
use Rattle.std.specs.Option.{option_map_or}
use Rattle.std.specs.Str.{bytes_eq}
use Rattle.iocm_operands.specs.declared.chpid_partition.Partition.{Partition}
use Rattle.iocm_values.specs.CssLists.{begins_with_css, css_number}
use Rattle.iocm_values.specs.NameSet.{names_of, names_text}
use Rattle.iocm_values.specs.Reading.{◌>>=◌}
use Rattle.iocm_values.specs.Texts.{list_text}
use Rattle.iocm_values.specs.Value.{Value, word, list, values, items}

-- the word CSS(n) of a channel subsystem
abbrev pub is_own : ℕ → List ℕ → Bool
is_own css text = option_map_or (λ n. n == css) (css_number text) false

-- what stands behind CSS(n), if n is the path's own channel subsystem; there is one item or more
abbrev pub own_items : ℕ → List Value → Option (List Value)
own_items css (word text ∷ item ∷ items) = if is_own css text then Some (item ∷ items) else None
own_items css _ = None

-- the items, without the group (CSS(n),..) round them
abbrev pub without_group : ℕ → List Value → Option (List Value)
without_group css items = if begins_with_css items then own_items css items else Some items

-- the same where the group has parentheses of its own, ((CSS(n),..))
abbrev pub without_groups : ℕ → List Value → Option (List Value)
without_groups css (list inner ∷ []) = values inner >>= λ items.
    if begins_with_css items then own_items css items else Some (list inner ∷ [])
without_groups css items = without_group css items

-- a list, `0` or `=`
abbrev pub is_list_form : Value → Bool
is_list_form (word text) = bytes_eq text (codes "0") || bytes_eq text (codes "=")
is_list_form (list inner) = true

-- a name alone
abbrev pub names_alone : Value → Option (List (List ℕ))
names_alone v = names_of (v ∷ [])

-- a name alone, or `0` for none; a list of names, or (0) for none
abbrev pub names_listed : Value → Option (List (List ℕ))
names_listed (word text) = if bytes_eq text (codes "0") then Some [] else names_alone (word text)
names_listed (list inner) = if bytes_eq inner (codes "0") then Some [] else (values inner >>= names_of)

-- `=` or (=)
abbrev pub is_same_list : Value → Bool
is_same_list (word text) = bytes_eq text (codes "=")
is_same_list (list inner) = bytes_eq inner (codes "=")

-- the candidate list: `=` for the access list, else as an access list
abbrev pub candidates_listed : List (List ℕ) → Value → Option (List (List ℕ))
candidates_listed access v = if is_same_list v then Some access else names_listed v

-- an access list alone; an access and a candidate list
abbrev pub listed : Bool → List Value → Option Partition
listed rec (first ∷ []) = names_listed first >>= λ access.
    Some (record { access = access; candidates = None; is_reconfigurable = rec })
listed rec (first ∷ second ∷ []) = names_listed first >>= λ access. candidates_listed access second >>= λ candidates.
    Some (record { access = access; candidates = Some candidates; is_reconfigurable = rec })
listed rec _ = None

-- names alone are the access list
abbrev pub named : Bool → List Value → Option Partition
named rec items = names_of items >>= λ access.
    Some (record { access = access; candidates = None; is_reconfigurable = rec })

abbrev pub lists : Bool → List Value → Option Partition
lists rec items = if list_any is_list_form items then listed rec items else named rec items

abbrev pub is_rec : Value → Bool
is_rec (word text) = bytes_eq text (codes "REC")
is_rec (list inner) = false

-- the last item is REC
abbrev pub ends_with_rec : List Value → Bool
ends_with_rec items = option_map_or is_rec (slice_get items (length items - 1)) false

-- a last REC makes the path reconfigurable, and isn't of the lists
abbrev pub with_rec : List Value → Option Partition
with_rec items = if ends_with_rec items then lists true (take (length items - 1) items) else lists false items

-- the lists of a path of a channel subsystem; a word is none
abbrev pub partition_of : ℕ → Value → Option Partition
partition_of css v = items v >>= without_groups css >>= with_rec

-- the word REC of a reconfigurable path, as an item
abbrev pub rec_texts : Bool → List (List ℕ)
rec_texts is_reconfigurable = if is_reconfigurable then codes "REC" ∷ [] else []

-- the lists as they are written, always both: (access,candidates), or (access,candidates,REC)
abbrev pub partition_text : List (List ℕ) → List (List ℕ) → Bool → List ℕ
partition_text access candidates is_reconfigurable =
    list_text (names_text access ∷ names_text candidates ∷ rec_texts is_reconfigurable)
