-- Of records those of a kind that pass a test: by their keys, and where only records of the kind are looked
-- through.
use Rattle.std.proofs.Common.{◌≡◌, ℕ, Bool, true, false, cond, nat_eq, Option, None, Some, List, [], ◌∷◌}
use Rattle.std.proofs.Common.{map, filter, refl, sym, ap, ◌∙◌}
use Rattle.std.specs.List.{cons_option, filter_map}
use Rattle.iocm_types.specs.declared.key.Key.{Key}
use Rattle.iocm_model.specs.Machine.Configuration.{as_device, as_image}
use Rattle.iocm_model.specs.Machine.Record.{Rec, DeviceRecord, UnitRecord, key_of}
use Rattle.iocm_model.specs.Machine.Record.{id, resource, image, limit, path, unit, device, online}
use Rattle.iocm_lookup.specs.Kinds.{kind_of, of_kind}
use Rattle.iocm_sight.specs.Connected.{as_path, as_unit, device_key, own_key, unit_number}

-- ---- by their keys

-- a kind of records, of which a key is told by a number
record IsTold {A B : Type 0} (as_one : Rec → Option A) (number : A → B) (told : Key → Option B) (r : Rec) : Type 0 where
  none : as_one r ≡ None → told (key_of r) ≡ None
  some : (x : A) → as_one r ≡ Some x → told (key_of r) ≡ Some (number x)

module _ {A B : Type 0} (as_one : Rec → Option A) (number : A → B) (told : Key → Option B)
    (tells : (r : Rec) → IsTold as_one number told r) (test : Rec → Bool) (of_one : A → Bool)
    (same : (r : Rec) (x : A) → as_one r ≡ Some x → test r ≡ of_one x) where
  other : (r : Rec) (b : Bool) (ks : List Rec) → told (key_of r) ≡ None
      → filter_map told (map key_of (cond b (r ∷ ks) ks)) ≡ filter_map told (map key_of ks)
  other r true ks none = ap (λ o. cons_option o (filter_map told (map key_of ks))) none
  other r false ks none = refl

  one : (r : Rec) (x : A) (b c : Bool) (ks : List Rec) (xs : List A) → b ≡ c → told (key_of r) ≡ Some (number x)
      → filter_map told (map key_of ks) ≡ map number xs
      → filter_map told (map key_of (cond b (r ∷ ks) ks)) ≡ map number (cond c (x ∷ xs) xs)
  one r x true true ks xs e is rest = λ i. cons_option (is i) (rest i)
  one r x true false ks xs e is rest = cc
  one r x false true ks xs e is rest = cc
  one r x false false ks xs e is rest = rest

  kept : (rs : List Rec)
      → filter_map told (map key_of (filter test rs)) ≡ map number (filter of_one (filter_map as_one rs))
  kept [] = refl
  kept (r ∷ rs) = by (as_one r) refl (kept rs)
    where
      by : (o : Option A) → as_one r ≡ o
          → filter_map told (map key_of (filter test rs)) ≡ map number (filter of_one (filter_map as_one rs))
          → filter_map told (map key_of (cond (test r) (r ∷ filter test rs) (filter test rs)))
          ≡ map number (filter of_one (cons_option o (filter_map as_one rs)))
      by None is rest = other r (test r) (filter test rs) ((tells r).none is) ∙ rest
      by (Some x) is rest = one r x (test r) (of_one x) (filter test rs) (filter of_one (filter_map as_one rs))
          (same r x is) ((tells r).some x is) rest

device_told : (r : Rec) → IsTold as_device own_key device_key r
device_told (id x) = record { none = λ e. refl; some = λ d e. cc }
device_told (resource x) = record { none = λ e. refl; some = λ d e. cc }
device_told (image x) = record { none = λ e. refl; some = λ d e. cc }
device_told (limit x) = record { none = λ e. refl; some = λ d e. cc }
device_told (path x) = record { none = λ e. refl; some = λ d e. cc }
device_told (unit x) = record { none = λ e. refl; some = λ d e. cc }
device_told (device x) = record {
  none = λ e. cc;
  some = λ d e. let same : x ≡ d = cc in ap (λ y. Some (own_key y)) same;
}
device_told (online x) = record { none = λ e. refl; some = λ d e. cc }

unit_told : (r : Rec) → IsTold as_unit (λ (u : UnitRecord). u.number) unit_number r
unit_told (id x) = record { none = λ e. refl; some = λ d e. cc }
unit_told (resource x) = record { none = λ e. refl; some = λ d e. cc }
unit_told (image x) = record { none = λ e. refl; some = λ d e. cc }
unit_told (limit x) = record { none = λ e. refl; some = λ d e. cc }
unit_told (path x) = record { none = λ e. refl; some = λ d e. cc }
unit_told (unit x) = record {
  none = λ e. cc;
  some = λ u e. let same : x ≡ u = cc in ap (λ (y : UnitRecord). Some y.number) same;
}
unit_told (device x) = record { none = λ e. refl; some = λ d e. cc }
unit_told (online x) = record { none = λ e. refl; some = λ d e. cc }

-- a test of records that is one of devices
device_alike : (test : Rec → Bool) (of_one : DeviceRecord → Bool) → ((d : DeviceRecord) → test (device d) ≡ of_one d)
    → (r : Rec) (x : DeviceRecord) → as_device r ≡ Some x → test r ≡ of_one x
device_alike test of_one same (id r) x e = cc
device_alike test of_one same (resource r) x e = cc
device_alike test of_one same (image r) x e = cc
device_alike test of_one same (limit r) x e = cc
device_alike test of_one same (path r) x e = cc
device_alike test of_one same (unit r) x e = cc
device_alike test of_one same (device r) x e = let own : r ≡ x = cc in same r ∙ ap of_one own
device_alike test of_one same (online r) x e = cc

unit_alike : (test : Rec → Bool) (of_one : UnitRecord → Bool) → ((u : UnitRecord) → test (unit u) ≡ of_one u)
    → (r : Rec) (x : UnitRecord) → as_unit r ≡ Some x → test r ≡ of_one x
unit_alike test of_one same (id r) x e = cc
unit_alike test of_one same (resource r) x e = cc
unit_alike test of_one same (image r) x e = cc
unit_alike test of_one same (limit r) x e = cc
unit_alike test of_one same (path r) x e = cc
unit_alike test of_one same (unit r) x e = let own : r ≡ x = cc in same r ∙ ap of_one own
unit_alike test of_one same (device r) x e = cc
unit_alike test of_one same (online r) x e = cc

-- the devices that pass a test, by the keys of the records that do
pub devices_kept : (test : Rec → Bool) (of_one : DeviceRecord → Bool)
    → ((d : DeviceRecord) → test (device d) ≡ of_one d) → (rs : List Rec)
    → filter_map device_key (map key_of (filter test rs)) ≡ map own_key (filter of_one (filter_map as_device rs))
devices_kept test of_one same =
    kept as_device own_key device_key device_told test of_one (device_alike test of_one same)

-- and the control units
pub units_kept : (test : Rec → Bool) (of_one : UnitRecord → Bool)
    → ((u : UnitRecord) → test (unit u) ≡ of_one u) → (rs : List Rec)
    → filter_map unit_number (map key_of (filter test rs))
    ≡ map (λ (u : UnitRecord). u.number) (filter of_one (filter_map as_unit rs))
units_kept test of_one same =
    kept as_unit (λ (u : UnitRecord). u.number) unit_number unit_told test of_one (unit_alike test of_one same)

-- ---- of a kind

module _ {A : Type 0} (as_one : Rec → Option A) (place : ℕ)
    (only : (r : Rec) → nat_eq (kind_of (key_of r)) place ≡ false → as_one r ≡ None) where
  of_kind_alone : (rs : List Rec) → filter_map as_one (of_kind place rs) ≡ filter_map as_one rs
  of_kind_alone [] = refl
  of_kind_alone (r ∷ rs) = by (nat_eq (kind_of (key_of r)) place) refl (of_kind_alone rs)
    where
      by : (b : Bool) → nat_eq (kind_of (key_of r)) place ≡ b
          → filter_map as_one (of_kind place rs) ≡ filter_map as_one rs
          → filter_map as_one (cond b (r ∷ of_kind place rs) (of_kind place rs))
          ≡ cons_option (as_one r) (filter_map as_one rs)
      by true is rest = ap (cons_option (as_one r)) rest
      by false is rest = rest ∙ ap (λ o. cons_option o (filter_map as_one rs)) (sym (only r is))

only_images : (r : Rec) → nat_eq (kind_of (key_of r)) 2 ≡ false → as_image r ≡ None
only_images (id x) e = refl
only_images (resource x) e = refl
only_images (image x) e = cc
only_images (limit x) e = refl
only_images (path x) e = refl
only_images (unit x) e = refl
only_images (device x) e = refl
only_images (online x) e = refl

only_paths : (r : Rec) → nat_eq (kind_of (key_of r)) 4 ≡ false → as_path r ≡ None
only_paths (id x) e = refl
only_paths (resource x) e = refl
only_paths (image x) e = refl
only_paths (limit x) e = refl
only_paths (path x) e = cc
only_paths (unit x) e = refl
only_paths (device x) e = refl
only_paths (online x) e = refl

only_units : (r : Rec) → nat_eq (kind_of (key_of r)) 5 ≡ false → as_unit r ≡ None
only_units (id x) e = refl
only_units (resource x) e = refl
only_units (image x) e = refl
only_units (limit x) e = refl
only_units (path x) e = refl
only_units (unit x) e = cc
only_units (device x) e = refl
only_units (online x) e = refl

-- images, paths and control units are among the records of their kinds
pub images_of_kind : (rs : List Rec) → filter_map as_image (of_kind 2 rs) ≡ filter_map as_image rs
images_of_kind = of_kind_alone as_image 2 only_images

pub paths_of_kind : (rs : List Rec) → filter_map as_path (of_kind 4 rs) ≡ filter_map as_path rs
paths_of_kind = of_kind_alone as_path 4 only_paths

pub units_of_kind : (rs : List Rec) → filter_map as_unit (of_kind 5 rs) ≡ filter_map as_unit rs
units_of_kind = of_kind_alone as_unit 5 only_units
