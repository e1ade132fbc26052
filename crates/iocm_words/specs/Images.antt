-- Images by how many paths they have online and installed: 4/4:PRD1,PRD2;0/4:DEV1, or 2/2:all.
-- Bytes by their codes: 44 is a comma, 47 a slash, 58 a colon, 59 a semicolon.
use Rattle.std.specs.Prelude.{ℕ, List, [], ◌∷◌, ◌++◌, map, codes}
use Rattle.std.specs.Fmt.{decimal}
use Rattle.std.specs.List.{join_with_byte}
use Rattle.iocm_words.specs.declared.groups.Member.{Member}
use Rattle.iocm_words.specs.declared.images.ImagePaths.{ImagePaths}
use Rattle.iocm_words.specs.Groups.{groups_of, words_in}
use Rattle.iocm_words.specs.Words.{joined_word}

abbrev pub counts_word : ImagePaths → List ℕ
counts_word i = decimal i.online ++ (47 ∷ decimal i.installed)

-- each image is told with those that have as many paths
abbrev pub members_of : List ImagePaths → List Member
members_of images = map (λ (i : ImagePaths). record { word = i.name; group = counts_word i }) images

-- the counts of a group, and its images
abbrev pub group_word : List Member → List ℕ → List ℕ
group_word members group = group ++ (58 ∷ join_with_byte 44 (words_in members group))

abbrev pub images_word : List ImagePaths → List ℕ
images_word images = joined_word 59 (map (group_word (members_of images)) (groups_of (members_of images)))

-- of all images of several that are one group the names aren't told
abbrev pub all_or : List (List ℕ) → List ℕ → List ℕ
all_or (group ∷ []) names = group ++ (58 ∷ codes "all")
all_or _ names = names

abbrev pub all_images_word : List ImagePaths → List ℕ
all_images_word images = all_or (groups_of (members_of images)) (images_word images)
