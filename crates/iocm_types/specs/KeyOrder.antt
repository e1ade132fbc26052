-- The orders of keys, places, number cells and subchannels: the derived `cmp` is the definition,
-- each order is total, and only equal values tie.
use Rattle.std.proofs.Common.{◌≡◌, ℕ, List, [], ◌∷◌, get_or, nat_eq, cond, refl, sym, ap, subst, ◌∙◌}
use Rattle.std.specs.Ordering.{nat_cmp, ordering_then}
use Rattle.std.specs.declared.cmp.Ordering.{Ordering}
use Rattle.std.specs.declared.cmp.Ordering.TheVariants.{Less, Equal, Greater}
use Rattle.std.specs.Cmp.{IsTotalOrder, on_total, nat_cmp_total, then_total}
use Rattle.std.specs.Cmp.Lexicographic.{nat_list_cmp_total}
use Rattle.std.specs.FinMap.{IsAntisymmetric, nat_cmp-IsAntisymmetric, slice_cmp-IsAntisymmetric}
use Rattle.iocm_types.specs.declared.key.Key.{Key}
use Rattle.iocm_types.specs.declared.key.Key.TheVariants.{Id, Resource, Image, Limit, Path, Unit, Device, Online}
use Rattle.iocm_types.specs.declared.image.Image as images
use Rattle.iocm_types.specs.declared.place.Place.{Place}
use Rattle.iocm_types.specs.declared.place.NumberCell.{NumberCell}
use Rattle.iocm_types.specs.declared.sub_id.SubId.{SubId}
use Rattle.iocm_types.specs.SubId.{image_cmp, sub_id_cmp}
use Rattle.iocm_types.specs.Key.{numbers_of, key_cmp}
use Rattle.iocm_types.specs.Place.{place_cmp, cell_cmp}
use Rattle.iocm_types.specs.declared.named.Named.{Named}
use Rattle.iocm_types.specs.declared.named.Named.TheVariants as named
use Rattle.iocm_types.specs.declared.naming.Naming.{Naming}
use Rattle.iocm_types.specs.Naming.{numbers_of_named, named_cmp, naming_cmp}
use Rattle.iocm_types.specs.contracts.named.NamedOrd.TheImpl as of_named
use Rattle.iocm_types.specs.contracts.naming.NamingOrd.TheImpl as of_namings
use Rattle.iocm_types.specs.contracts.key.KeyOrd.TheImpl as of_keys
use Rattle.iocm_types.specs.contracts.place.PlaceOrd.TheImpl as of_places
use Rattle.iocm_types.specs.contracts.place.NumberCellOrd.TheImpl as of_cells
use Rattle.iocm_types.specs.contracts.sub_id.SubIdOrd.TheImpl as of_subchannels

-- of two comparisons that tie one after the other, the first ties
first_ties : (r s : Ordering) → ordering_then r s ≡ Equal → r ≡ Equal
first_ties Less s e = e
first_ties Equal s e = refl
first_ties Greater s e = e

-- and so does the second
second_ties : (r s : Ordering) → ordering_then r s ≡ Equal → s ≡ Equal
second_ties Less s e = cc
second_ties Equal s e = e
second_ties Greater s e = cc

then_equal : (r : Ordering) → r ≡ ordering_then r Equal
then_equal Less = refl
then_equal Equal = refl
then_equal Greater = refl

derived_at : (a b : Key) → of_keys.ghosts.cmp a b ≡ key_cmp a b
derived_at Id Id = refl
derived_at Resource Resource = refl
derived_at (Online a b c) (Online d e f) = refl
derived_at (Image a b) (Image c d) = ap (ordering_then (nat_cmp a c)) (then_equal (nat_cmp b d))
derived_at (Limit a b) (Limit c d) = ap (ordering_then (nat_cmp a c)) (then_equal (nat_cmp b d))
derived_at (Path a b) (Path c d) = ap (ordering_then (nat_cmp a c)) (then_equal (nat_cmp b d))
derived_at (Unit a) (Unit b) = then_equal (nat_cmp a b)
derived_at (Device a b) (Device c d) = ap (ordering_then (nat_cmp a c)) (then_equal (nat_cmp b d))
derived_at _ _ = refl

-- the derived order of keys is the definition
pub derived_cmp : ◌≡◌ {A = Key → Key → Ordering} of_keys.ghosts.cmp key_cmp
derived_cmp = λ i a b. derived_at a b i

pub keys_total : IsTotalOrder key_cmp
keys_total = on_total numbers_of nat_list_cmp_total

abbrev from_second : List ℕ → List ℕ
from_second [] = []
from_second (x ∷ xs) = xs

abbrev key_by : List ℕ → Key
key_by xs =
    let kind = get_or xs 0 0 in let a = get_or xs 1 0 in let b = get_or xs 2 0 in
    cond (nat_eq kind 0) Id (cond (nat_eq kind 1) Resource
    (cond (nat_eq kind 2) (Image a b) (cond (nat_eq kind 3) (Limit a b)
    (cond (nat_eq kind 4) (Path a b) (cond (nat_eq kind 5) (Unit a) (cond (nat_eq kind 6) (Device a b)
    (Online a b (from_second (from_second (from_second xs))))))))))

key_back : (k : Key) → key_by (numbers_of k) ≡ k
key_back Id = refl
key_back Resource = refl
key_back (Image css mif) = refl
key_back (Limit css set) = refl
key_back (Path css number) = refl
key_back (Unit number) = refl
key_back (Device set number) = refl
key_back (Online css path name) = refl

pub keys_exact : IsAntisymmetric key_cmp
keys_exact x y e =
    sym (key_back x)
    ∙ ap key_by (slice_cmp-IsAntisymmetric nat_cmp-IsAntisymmetric (numbers_of x) (numbers_of y) e)
    ∙ key_back y

same_numbers : (a b c d e f : ℕ) → ordering_then (nat_cmp a b) (ordering_then (nat_cmp c d) (nat_cmp e f)) ≡ Equal
    → (a ≡ b) × (c ≡ d) × (e ≡ f)
same_numbers a b c d e f is =
    let rest = second_ties _ _ is in (
      nat_cmp-IsAntisymmetric a b (first_ties _ _ is),
      nat_cmp-IsAntisymmetric c d (first_ties _ _ rest),
      nat_cmp-IsAntisymmetric e f (second_ties _ _ rest),
    )

-- the derived order of places is the definition
pub derived_place_cmp : ◌≡◌ {A = Place → Place → Ordering} of_places.ghosts.cmp place_cmp
derived_place_cmp = refl

pub places_total : IsTotalOrder place_cmp
places_total = then_total (on_total (λ (p : Place). p.css) nat_cmp_total)
    (then_total (on_total (λ (p : Place). p.set) nat_cmp_total) (on_total (λ (p : Place). p.device) nat_cmp_total))

pub places_exact : IsAntisymmetric place_cmp
places_exact x y e =
    let same = same_numbers x.css y.css x.set y.set x.device y.device e in
    λ i. record { css = same.0 i; set = same.1 i; device = same.2 i }

-- the derived order of number cells is the definition
pub derived_cell_cmp : ◌≡◌ {A = NumberCell → NumberCell → Ordering} of_cells.ghosts.cmp cell_cmp
derived_cell_cmp = refl

pub cells_total : IsTotalOrder cell_cmp
cells_total = then_total (on_total (λ (c : NumberCell). c.css) nat_cmp_total)
    (then_total (on_total (λ (c : NumberCell). c.set) nat_cmp_total)
    (on_total (λ (c : NumberCell). c.number) nat_cmp_total))

pub cells_exact : IsAntisymmetric cell_cmp
cells_exact x y e =
    let same = same_numbers x.css y.css x.set y.set x.number y.number e in
    λ i. record { css = same.0 i; set = same.1 i; number = same.2 i }

-- the derived order of subchannels is the definition
pub derived_sub_id_cmp : ◌≡◌ {A = SubId → SubId → Ordering} of_subchannels.ghosts.cmp sub_id_cmp
derived_sub_id_cmp = refl

pub images_total : IsTotalOrder image_cmp
images_total =
    then_total (on_total (λ (i : images.Image). i.css) nat_cmp_total)
    (on_total (λ (i : images.Image). i.mif) nat_cmp_total)

pub images_exact : IsAntisymmetric image_cmp
images_exact x y e =
    let css = nat_cmp-IsAntisymmetric x.css y.css (first_ties _ _ e) in
    let mif = nat_cmp-IsAntisymmetric x.mif y.mif (second_ties _ _ e) in
    λ i. record { css = css i; mif = mif i }

pub sub_ids_total : IsTotalOrder sub_id_cmp
sub_ids_total = then_total (on_total (λ (s : SubId). s.image) images_total)
    (then_total (on_total (λ (s : SubId). s.set) nat_cmp_total) (on_total (λ (s : SubId). s.number) nat_cmp_total))

pub sub_ids_exact : IsAntisymmetric sub_id_cmp
sub_ids_exact x y e =
    let image = images_exact x.image y.image (first_ties _ _ e) in
    let rest = second_ties _ _ e in
    let set = nat_cmp-IsAntisymmetric x.set y.set (first_ties _ _ rest) in
    let number = nat_cmp-IsAntisymmetric x.number y.number (second_ties _ _ rest) in
    λ i. record { image = image i; set = set i; number = number i }

-- only equal keys tie in the derived orders
pub derived_keys_exact : IsAntisymmetric of_keys.ghosts.cmp
derived_keys_exact = subst IsAntisymmetric (sym derived_cmp) keys_exact

pub derived_places_exact : IsAntisymmetric of_places.ghosts.cmp
derived_places_exact = subst IsAntisymmetric (sym derived_place_cmp) places_exact

pub derived_cells_exact : IsAntisymmetric of_cells.ghosts.cmp
derived_cells_exact = subst IsAntisymmetric (sym derived_cell_cmp) cells_exact

pub derived_sub_ids_exact : IsAntisymmetric of_subchannels.ghosts.cmp
derived_sub_ids_exact = subst IsAntisymmetric (sym derived_sub_id_cmp) sub_ids_exact

-- the derived orders of what is named and of namings are the definitions
derived_named_at : (a b : Named) → of_named.ghosts.cmp a b ≡ named_cmp a b
derived_named_at (named.Record a) (named.Record b) = derived_at a b
derived_named_at (named.Image a) (named.Image b) = refl
derived_named_at (named.Record a) (named.Image b) = refl
derived_named_at (named.Image a) (named.Record b) = refl
derived_named_at (named.Address a b) (named.Address c d) = ap (ordering_then (nat_cmp a c)) (then_equal (nat_cmp b d))
derived_named_at (named.Record a) (named.Address c d) = refl
derived_named_at (named.Image a) (named.Address c d) = refl
derived_named_at (named.Address a b) (named.Record c) = refl
derived_named_at (named.Address a b) (named.Image c) = refl

pub derived_naming_cmp : ◌≡◌ {A = Naming → Naming → Ordering} of_namings.ghosts.cmp naming_cmp
derived_naming_cmp = λ i a b. ordering_then (derived_named_at a.named b.named i) (derived_at a.user b.user i)

abbrev named_by_numbers : List ℕ → Named
named_by_numbers xs =
    cond (nat_eq (get_or xs 0 0) 0) (named.Record (key_by (from_second xs)))
    (cond (nat_eq (get_or xs 0 0) 1) (named.Image (from_second xs)) (named.Address (get_or xs 1 0) (get_or xs 2 0)))

named_back : (n : Named) → named_by_numbers (numbers_of_named n) ≡ n
named_back (named.Record key) = ap named.Record (key_back key)
named_back (named.Image name) = refl
named_back (named.Address unit address) = refl

pub named_exact : IsAntisymmetric named_cmp
named_exact x y e =
    let numbers = slice_cmp-IsAntisymmetric nat_cmp-IsAntisymmetric (numbers_of_named x) (numbers_of_named y) e in
    sym (named_back x) ∙ ap named_by_numbers numbers ∙ named_back y

pub namings_exact : IsAntisymmetric naming_cmp
namings_exact x y e =
    let what = named_exact x.named y.named (first_ties _ _ e) in
    let user = keys_exact x.user y.user (second_ties _ _ e) in
    λ i. record { named = what i; user = user i }

pub derived_namings_exact : IsAntisymmetric of_namings.ghosts.cmp
derived_namings_exact = subst IsAntisymmetric (sym derived_naming_cmp) namings_exact
