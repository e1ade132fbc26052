-- Configurations that agree at all keys but one: what a view depends on, and that it is the same
-- where the key is none of that.
use Rattle.std.proofs.Common.{◌≡◌, ℕ, ◌+◌, ◌/◌, Bool, true, false, cond, not, ◌&&◌, ◌||◌, nat_eq, eq-eqb, List, [], ◌∷◌}
use Rattle.std.proofs.Common.{◌++◌, take, drop, Option, Some, None, refl, sym, ap, ◌∙◌}
use Rattle.std.proofs.lemmas.List.{take-append-drop}
use Rattle.std.proofs.lemmas.List.Folds.{list_any-append}
use Rattle.std.specs.List.{flat_map, list_any}
use Rattle.std.specs.Option.{option_and_then}
use Rattle.iocm_types.specs.declared.key.Key.{Key}
use Rattle.iocm_types.specs.declared.key.Key.TheVariants.{Path, Unit, Device, Online}
use Rattle.iocm_types.specs.declared.view.View.{View}
use Rattle.iocm_model.specs.Machine.Record.{Rec, DeviceRecord, id, resource, image, limit, path, unit, device, online}
use Rattle.iocm_model.specs.Machine.Configuration.{Lookup, as_device}
use Rattle.iocm_model.specs.Machine.Mask.{mask_from, installed, available, is_online}
use Rattle.iocm_model.specs.Machine.Numbering.{is_empty, is_record_reached}
use Rattle.iocm_model.specs.Machine.PathList.{unit_record_paths, unit_paths, path_list}
use Rattle.iocm_model.specs.Machine.Sight.{record_lists, reaches, is_candidate}
use Rattle.iocm_model.specs.Machine.View.{view_if_seen, device_record}

pub or_first : (a b : Bool) → a ≡ true → (a || b) ≡ true
or_first true b h = refl
or_first false b h = cc

pub or_second : (a b : Bool) → b ≡ true → (a || b) ≡ true
or_second true b h = refl
or_second false b h = h

-- a number is in a list
abbrev pub IsIn : ℕ → List ℕ → Type 0
IsIn x xs = list_any (nat_eq x) xs ≡ true

pub own_number : (x : ℕ) → nat_eq x x ≡ true
own_number x = eq-eqb x x refl

pub in_front : (x : ℕ) (xs : List ℕ) → IsIn x (x ∷ xs)
in_front x xs = or_first (nat_eq x x) _ (own_number x)

pub behind : (y x : ℕ) (xs : List ℕ) → IsIn y xs → IsIn y (x ∷ xs)
behind y x xs h = or_second (nat_eq y x) _ h

-- what is among the first of a list is in it
pub in_all : (n : ℕ) (x : ℕ) (xs : List ℕ) → IsIn x (take n xs) → IsIn x xs
in_all n x xs h = sym (ap (list_any (nat_eq x)) (take-append-drop n xs))
    ∙ list_any-append (nat_eq x) (take n xs) (drop n xs) ∙ or_first _ _ h

-- ---- functions that agree on a list

flat_map_on : {A : Type 0} (f g : ℕ → List A) (xs : List ℕ) → ((x : ℕ) → IsIn x xs → f x ≡ g x)
    → flat_map f xs ≡ flat_map g xs
flat_map_on f g [] same = refl
flat_map_on f g (x ∷ xs) same = λ i. same x (in_front x xs) i ++ flat_map_on f g xs (λ y h. same y (behind y x xs h)) i

any_on : (f g : ℕ → Bool) (xs : List ℕ) → ((x : ℕ) → IsIn x xs → f x ≡ g x) → list_any f xs ≡ list_any g xs
any_on f g [] same = refl
any_on f g (x ∷ xs) same = λ i. same x (in_front x xs) i || any_on f g xs (λ y h. same y (behind y x xs h)) i

mask_on : (bit : ℕ) (f g : ℕ → Bool) (xs : List ℕ) → ((x : ℕ) → IsIn x xs → f x ≡ g x)
    → mask_from bit f xs ≡ mask_from bit g xs
mask_on bit f g [] same = refl
mask_on bit f g (x ∷ xs) same =
    λ i. cond (same x (in_front x xs) i) bit 0 + mask_on (bit / 2) f g xs (λ y h. same y (behind y x xs h)) i

-- ---- lookups that agree at all keys but one

abbrev pub AgreeBut : Key → Lookup → Lookup → Type 0
AgreeBut key c d = (q : Key) → (q ≡ key → ⊥) → c q ≡ d q

-- a key is that of no unit and of no online record on which it depends what the image of a name in
-- a channel subsystem sees of a device; and which paths of the device list the name stays
pub record IsApart (key : Key) (c d : Lookup) (css : ℕ) (name : List ℕ) (r : DeviceRecord) : Type 0 where
  pub units : (u : ℕ) → IsIn u r.units → Unit u ≡ key → ⊥
  pub paths : (n : ℕ) → IsIn n (path_list c css r.units)
      → record_lists name (c (Path css n)) ≡ record_lists name (d (Path css n))
  pub online : (n : ℕ) → IsIn n (path_list c css r.units) → Online css n name ≡ key → ⊥

module _ (key : Key) (c d : Lookup) (agree : AgreeBut key c d) (css : ℕ) where
  -- the path list of a device stays where no unit of it is changed
  pub same_paths : (units : List ℕ) → ((u : ℕ) → IsIn u units → Unit u ≡ key → ⊥)
      → path_list c css units ≡ path_list d css units
  same_paths units apart =
      flat_map_on (unit_paths c css) (unit_paths d css) units
      (λ u h. ap (unit_record_paths css) (agree (Unit u) (apart u h)))

  -- whether a device is reached stays
  pub same_reach : (o : Option Rec)
      → ((r : DeviceRecord) → o ≡ Some (device r) → (u : ℕ) → IsIn u r.units → Unit u ≡ key → ⊥)
      → is_record_reached c css o ≡ is_record_reached d css o
  same_reach None apart = refl
  same_reach (Some (device r)) apart = ap (λ ps. not (is_empty ps)) (same_paths r.units (apart r refl))
  same_reach (Some (id r)) apart = refl
  same_reach (Some (resource r)) apart = refl
  same_reach (Some (image r)) apart = refl
  same_reach (Some (limit r)) apart = refl
  same_reach (Some (path r)) apart = refl
  same_reach (Some (unit r)) apart = refl
  same_reach (Some (online r)) apart = refl

  module _ (name : List ℕ) where
    -- what is seen of a device stays
    pub same_if_seen : (r : DeviceRecord) → IsApart key c d css name r
        → view_if_seen c css name r ≡ view_if_seen d css name r
    same_if_seen r apart =
        let paths : path_list c css r.units ≡ path_list d css r.units = same_paths r.units apart.units in
        let first : List ℕ = take 8 (path_list c css r.units) in
        let any : list_any (reaches c css name) (path_list c css r.units)
        ≡ list_any (reaches d css name) (path_list c css r.units) =
        any_on (reaches c css name) (reaches d css name) (path_list c css r.units) (λ n h. apart.paths n h) in
        let pim : installed c css name first ≡ installed d css name first =
        mask_on 128 (reaches c css name) (reaches d css name) first
        (λ n h. apart.paths n (in_all 8 n (path_list c css r.units) h)) in
        let pam : available c css name first ≡ available d css name first =
        mask_on 128 (is_online c css name) (is_online d css name) first
        (λ n h. ap (λ (o : Option Rec). is_there o)
        (agree (Online css n name) (apart.online n (in_all 8 n (path_list c css r.units) h)))) in
        (λ i. shown r (any i) first (pim i) (pam i))
        ∙ (λ i. shown r (list_any (reaches d css name) (paths i)) (take 8 (paths i))
        (installed d css name (take 8 (paths i))) (available d css name (take 8 (paths i))))
      where
        is_there : Option Rec → Bool
        is_there None = false
        is_there (Some x) = true

        shown : DeviceRecord → Bool → List ℕ → ℕ → ℕ → Option View
        shown s any paths pim pam =
            cond (is_candidate name s.candidates && any)
            (Some (record { device = s.number; paths = paths; pim = pim; pam = pam })) None

    -- so does what is seen of a device of a number
    same_of_record : (o : Option Rec) → ((r : DeviceRecord) → o ≡ Some (device r) → IsApart key c d css name r)
        → option_and_then (view_if_seen c css name) (option_and_then as_device o)
        ≡ option_and_then (view_if_seen d css name) (option_and_then as_device o)
    same_of_record None apart = refl
    same_of_record (Some (device r)) apart = same_if_seen r (apart r refl)
    same_of_record (Some (id r)) apart = refl
    same_of_record (Some (resource r)) apart = refl
    same_of_record (Some (image r)) apart = refl
    same_of_record (Some (limit r)) apart = refl
    same_of_record (Some (path r)) apart = refl
    same_of_record (Some (unit r)) apart = refl
    same_of_record (Some (online r)) apart = refl

    pub same_view : (set number : ℕ) → (Device set number ≡ key → ⊥)
        → ((r : DeviceRecord) → c (Device set number) ≡ Some (device r) → IsApart key c d css name r)
        → option_and_then (view_if_seen c css name) (device_record c set number)
        ≡ option_and_then (view_if_seen d css name) (device_record d set number)
    same_view set number other apart = same_of_record (c (Device set number)) apart
        ∙ ap (λ (o : Option Rec). option_and_then (view_if_seen d css name) (option_and_then as_device o))
        (agree (Device set number) other)
