-- Records in the order of their keys stand by kind, as a canonical deck has them: the records of
-- its statements are those of its records.
use Rattle.std.proofs.Common.{◌≡◌, ℕ, ◌≤◌, Bool, true, false, cond, nat_le, List, [], ◌∷◌, ◌++◌, map, refl, sym, ap}
use Rattle.std.proofs.Common.{◌∙◌, append_assoc, arith}
use Rattle.std.proofs.lemmas.Bool.Decides.{nat_tests}
use Rattle.std.proofs.lemmas.List.{map-append}
use Rattle.std.specs.List.{AllByRecursion, flat_map}
use Rattle.iocm_model.specs.Machine.Record.{Rec, id, resource, image, limit, path, unit, device, online}
use Rattle.iocm_deck_writer.specs.Device.{devices_of}
use Rattle.iocm_deck_writer.specs.Resource.{images_of, limits_of}
use Rattle.iocm_round_trip.specs.Again.{expanded, deck_of}
use Rattle.iocm_round_trip.specs.Stating.{path_records}

-- each has this relation to those behind it
abbrev pub AreOrdered : {A : Type 0} → (A → A → Type 0) → List A → Type 0
AreOrdered R [] = Unit {0}
AreOrdered R (x ∷ xs) = AllByRecursion (R x) xs × AreOrdered R xs

-- the place of a record's kind, with which its key begins
abbrev pub kind_of : Rec → ℕ
kind_of (id carried) = 0
kind_of (resource carried) = 1
kind_of (image i) = 2
kind_of (limit l) = 3
kind_of (path p) = 4
kind_of (unit u) = 5
kind_of (device d) = 6
kind_of (online o) = 7

abbrev pub AreByKind : List Rec → Type 0
AreByKind rs = AreOrdered (λ a b. kind_of a ≤ kind_of b) rs

-- ---- parted behind a kind

-- what is given of the kinds up to this one, and of the others
abbrev low : ℕ → (Rec → List Rec) → Rec → List Rec
low k f r = cond (nat_le (kind_of r) k) (f r) []

abbrev high : ℕ → (Rec → List Rec) → Rec → List Rec
high k f r = cond (nat_le (kind_of r) k) [] (f r)

nothing_low : (k : ℕ) (f : Rec → List Rec) (rs : List Rec) → AllByRecursion (λ r. nat_le (kind_of r) k ≡ false) rs
    → flat_map (low k f) rs ≡ []
nothing_low k f [] above = refl
nothing_low k f (r ∷ rs) above = rw above.0 (nothing_low k f rs above.1)

above : (k n : ℕ) → nat_le n k ≡ false → (rs : List Rec) → AllByRecursion (λ r. n ≤ kind_of r) rs
    → AllByRecursion (λ r. nat_le (kind_of r) k ≡ false) rs
above k n past [] behind = tt
above k n past (r ∷ rs) behind = (higher (kind_of r) behind.0, above k n past rs behind.1)
  where
    higher : (m : ℕ) → n ≤ m → nat_le m k ≡ false
    higher m more = grind (arith, nat_tests)

parted : (k : ℕ) (f : Rec → List Rec) (rs : List Rec) → AreByKind rs
    → flat_map f rs ≡ flat_map (low k f) rs ++ flat_map (high k f) rs
parted k f [] ordered = refl
parted k f (r ∷ rs) ordered = by (nat_le (kind_of r) k) refl (parted k f rs ordered.1)
  where
    by : (b : Bool) → nat_le (kind_of r) k ≡ b → flat_map f rs ≡ flat_map (low k f) rs ++ flat_map (high k f) rs
        → flat_map f (r ∷ rs) ≡ flat_map (low k f) (r ∷ rs) ++ flat_map (high k f) (r ∷ rs)
    by true within rest = rw within
        (ap (λ more. f r ++ more) rest ∙ sym (append_assoc (f r) (flat_map (low k f) rs) (flat_map (high k f) rs)))
    by false past rest =
        let none : flat_map (low k f) rs ≡ [] = nothing_low k f rs (above k (kind_of r) past rs ordered.0) in
        rw (past, none) (ap (λ more. f r ++ more) (rest ∙ ap (λ lows. lows ++ flat_map (high k f) rs) none))

-- ---- the records of each kind

abbrev pub ids : Rec → List Rec
ids (id carried) = id carried ∷ []
ids _ = []

abbrev pub resources : Rec → List Rec
resources (resource carried) = resource carried ∷ []
resources _ = []

-- channel paths, each with its online records, and control units
abbrev pub parts : Rec → List Rec
parts (path p) = path_records p
parts (unit u) = unit u ∷ []
parts _ = []

abbrev image_records : Rec → List Rec
image_records r = map image (images_of r)

abbrev limit_records : Rec → List Rec
limit_records r = map limit (limits_of r)

abbrev device_records : Rec → List Rec
device_records r = map device (devices_of r)

each_alike : (f g : Rec → List Rec) → ((r : Rec) → f r ≡ g r) → (rs : List Rec) → flat_map f rs ≡ flat_map g rs
each_alike f g alike [] = refl
each_alike f g alike (r ∷ rs) = λ i. alike r i ++ each_alike f g alike rs i

-- the first of what is left, and what is left behind it
next : (k : ℕ) (f g : Rec → List Rec) → ((r : Rec) → low k f r ≡ g r) → (rs : List Rec) → AreByKind rs
    → flat_map f rs ≡ flat_map g rs ++ flat_map (high k f) rs
next k f g alike rs ordered =
    parted k f rs ordered ∙ ap (λ first. first ++ flat_map (high k f) rs) (each_alike (low k f) g alike rs)

id_first : (r : Rec) → low 0 expanded r ≡ ids r
id_first (id c) = refl
id_first (resource c) = refl
id_first (image i) = refl
id_first (limit l) = refl
id_first (path p) = refl
id_first (unit u) = refl
id_first (device d) = refl
id_first (online o) = refl

abbrev behind_ids : Rec → List Rec
behind_ids = high 0 expanded

resource_next : (r : Rec) → low 1 behind_ids r ≡ resources r
resource_next (id c) = refl
resource_next (resource c) = refl
resource_next (image i) = refl
resource_next (limit l) = refl
resource_next (path p) = refl
resource_next (unit u) = refl
resource_next (device d) = refl
resource_next (online o) = refl

abbrev behind_resources : Rec → List Rec
behind_resources = high 1 behind_ids

images_next : (r : Rec) → low 2 behind_resources r ≡ image_records r
images_next (id c) = refl
images_next (resource c) = refl
images_next (image i) = refl
images_next (limit l) = refl
images_next (path p) = refl
images_next (unit u) = refl
images_next (device d) = refl
images_next (online o) = refl

abbrev behind_images : Rec → List Rec
behind_images = high 2 behind_resources

limits_next : (r : Rec) → low 3 behind_images r ≡ limit_records r
limits_next (id c) = refl
limits_next (resource c) = refl
limits_next (image i) = refl
limits_next (limit l) = refl
limits_next (path p) = refl
limits_next (unit u) = refl
limits_next (device d) = refl
limits_next (online o) = refl

abbrev behind_limits : Rec → List Rec
behind_limits = high 3 behind_images

parts_next : (r : Rec) → low 5 behind_limits r ≡ parts r
parts_next (id c) = refl
parts_next (resource c) = refl
parts_next (image i) = refl
parts_next (limit l) = refl
parts_next (path p) = refl
parts_next (unit u) = refl
parts_next (device d) = refl
parts_next (online o) = refl

devices_last : (r : Rec) → high 5 behind_limits r ≡ device_records r
devices_last (id c) = refl
devices_last (resource c) = refl
devices_last (image i) = refl
devices_last (limit l) = refl
devices_last (path p) = refl
devices_last (unit u) = refl
devices_last (device d) = refl
devices_last (online o) = refl

map_of_each : {A : Type 0} (f : A → Rec) (g : Rec → List A) (rs : List Rec)
    → flat_map (λ r. map f (g r)) rs ≡ map f (flat_map g rs)
map_of_each f g [] = refl
map_of_each f g (r ∷ rs) =
    ap (λ more. map f (g r) ++ more) (map_of_each f g rs) ∙ sym (map-append f (g r) (flat_map g rs))

-- the records of the statements of a canonical deck, in their order
abbrev pub records_by_kind : List Rec → List Rec
records_by_kind rs =
    flat_map ids rs ++ ((flat_map resources rs
    ++ (map image (flat_map images_of rs) ++ map limit (flat_map limits_of rs)))
    ++ (flat_map parts rs ++ map device (flat_map devices_of rs)))

six_parts : (a b c d e f : List Rec) → a ++ (b ++ (c ++ (d ++ (e ++ f)))) ≡ a ++ ((b ++ (c ++ d)) ++ (e ++ f))
six_parts a b c d e f = ap (λ more. a ++ more)
    (ap (λ more. b ++ more) (sym (append_assoc c d (e ++ f))) ∙ sym (append_assoc b (c ++ d) (e ++ f)))

pub deck_by_kind : (rs : List Rec) → AreByKind rs → deck_of rs ≡ records_by_kind rs
deck_by_kind rs ordered =
    next 0 expanded ids id_first rs ordered
    ∙ ap (λ more. flat_map ids rs ++ more) (next 1 behind_ids resources resource_next rs ordered
    ∙ ap (λ more. flat_map resources rs ++ more) (next 2 behind_resources image_records images_next rs ordered
    ∙ (λ i. map_of_each image images_of rs i ++ (next 3 behind_images limit_records limits_next rs ordered
    ∙ (λ j. map_of_each limit limits_of rs j ++ (next 5 behind_limits parts parts_next rs ordered
    ∙ (λ k. flat_map parts rs
    ++ (each_alike (high 5 behind_limits) device_records devices_last rs ∙ map_of_each device devices_of rs) k)) j))
    i)))
    ∙ six_parts (flat_map ids rs) (flat_map resources rs) (map image (flat_map images_of rs))
    (map limit (flat_map limits_of rs))
    (flat_map parts rs) (map device (flat_map devices_of rs))
