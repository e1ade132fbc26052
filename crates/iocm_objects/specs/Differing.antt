-- How a field is told that differs: NAME OLD -> NEW, or of lists of names what went and came.
-- Bytes by their codes: 32 is a blank, 43 a plus sign, 45 a minus sign.
use Rattle.std.specs.Prelude.{ℕ, Bool, not, nat_eq, ◌==◌, if◌then◌else◌, Option, None, Some, List, ◌∷◌, ◌++◌, filter}
use Rattle.std.specs.Prelude.{length, codes}
use Rattle.std.specs.Cmp.Lexicographic.{pointwise}
use Rattle.std.specs.List.{flat_map, list_any}
use Rattle.iocm_objects.specs.declared.field.Value.{Value}
use Rattle.iocm_objects.specs.declared.field.Value.TheVariants as value
use Rattle.iocm_objects.specs.Values.{value_text}

-- UNIT 3390 -> 3592
abbrev pub arrow : List ℕ → List ℕ → List ℕ → List ℕ
arrow name old new = name ++ (32 ∷ (old ++ (codes " -> " ++ new)))

-- online -LPA +LPB
abbrev pub signed : ℕ → List (List ℕ) → List ℕ
signed sign items = flat_map (λ item. 32 ∷ sign ∷ item) items

abbrev pub went_and_came : List ℕ → List (List ℕ) → List (List ℕ) → List ℕ
went_and_came name went came = name ++ (signed 45 went ++ signed 43 came)

-- names that aren't among others
abbrev pub has_name : List (List ℕ) → List ℕ → Bool
has_name names name = list_any (λ other. pointwise nat_eq other name) names

abbrev pub without : List (List ℕ) → List (List ℕ) → List (List ℕ)
without others names = filter (λ name. not (has_name others name)) names

-- the names of a value of which is told what went and came; of PARTITION only where there are some
abbrev pub listed : Value → Option (List (List ℕ))
listed (value.Names names) = Some names
listed (value.Access names) = Some names
listed (value.AccessOnline names) = Some names
listed (value.Candidates names) = if length names == 0 then None else Some names
listed _ = None

abbrev pub change_with : List ℕ → Option (List (List ℕ)) → Option (List (List ℕ)) → List ℕ → List ℕ
change_with name (Some old) (Some new) other = went_and_came name (without new old) (without old new)
change_with name _ _ other = other

-- a field with one value before and another after
abbrev pub change_text : List ℕ → Value → Value → List ℕ
change_text name old new =
    change_with name (listed old) (listed new) (arrow name (value_text old) (value_text new))
