-- Words that are told in groups: those of which one text holds stand together, at the place of the
-- first.
use Rattle.std.specs.Prelude.{ℕ, Bool, if◌then◌else◌, List, [], ◌∷◌, ◌++◌, map, filter, fold}
use Rattle.std.specs.List.{list_any}
use Rattle.std.specs.Str.{bytes_eq}
use Rattle.iocm_words.specs.declared.groups.Member.{Member}

abbrev pub is_among : List (List ℕ) → List ℕ → Bool
is_among groups group = list_any (λ other. bytes_eq other group) groups

-- a group that isn't there yet stands behind the others
abbrev pub with_group : List (List ℕ) → List ℕ → List (List ℕ)
with_group groups group = if is_among groups group then groups else groups ++ group ∷ []

-- the groups of some words, each once
abbrev pub groups_of : List Member → List (List ℕ)
groups_of members = fold (λ groups (m : Member). with_group groups m.group) [] members

-- the words of a group
abbrev pub words_in : List Member → List ℕ → List (List ℕ)
words_in members group = map (λ (m : Member). m.word) (filter (λ (m : Member). bytes_eq m.group group) members)
