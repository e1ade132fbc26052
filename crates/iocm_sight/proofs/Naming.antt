-- What names a control unit, or a path: the devices on it, or the control units that have it.
use Rattle.std.proofs.Common.{◌≡◌, ℕ, Bool, true, false, ◌&&◌, ◌||◌, nat_eq, eqb-true, List, [], ◌∷◌, ◌++◌, map}
use Rattle.std.proofs.Common.{Option, Some, unwrap_or, refl, sym, ap, ◌∙◌, arith}
use Rattle.std.proofs.lemmas.List.Folds.{list_any-append}
use Rattle.std.proofs.lemmas.Bool.{and_parts}
use Rattle.std.proofs.lemmas.Bool.Decides.{nat_tests}
use Rattle.std.proofs.Math.Bool.{or-false}
use Rattle.std.specs.List.{list_any}
use Rattle.std.specs.Ordering.{eq_by_cmp}
use Rattle.iocm_types.specs.declared.css_path.CssPath.{CssPath}
use Rattle.iocm_types.specs.declared.key.Key.TheVariants as key
use Rattle.iocm_types.specs.declared.named.Named.{Named}
use Rattle.iocm_types.specs.declared.named.Named.TheVariants as thing
use Rattle.iocm_types.specs.KeyOrder.{named_exact}
use Rattle.iocm_types.specs.Naming.{named_cmp}
use Rattle.iocm_types.proofs.Found.{same_key, ties_itself}
use Rattle.iocm_model.specs.Machine.Naming.{address_named, image_named, path_named, unit_named}
use Rattle.iocm_model.specs.Machine.Record.{Rec, DeviceRecord, UnitRecord, device, unit}
use Rattle.iocm_index.proofs.Front.{named_total}
use Rattle.iocm_lookup.specs.Indexed.{names}
use Rattle.iocm_lookup.proofs.Members.{same_tests}
use Rattle.iocm_sight.specs.Connected.{has_path, is_on}

-- a thing is this one
abbrev is_it : Named → Named → Bool
is_it = eq_by_cmp named_cmp

any_map : {A : Type 0} (test : Named → Bool) (f : A → Named) (of : A → Bool) → ((x : A) → test (f x) ≡ of x)
    → (xs : List A) → list_any test (map f xs) ≡ list_any of xs
any_map test f of same [] = refl
any_map test f of same (x ∷ xs) = λ i. same x i || any_map test f of same xs i

none_map : {A : Type 0} (test : Named → Bool) (f : A → Named) → ((x : A) → test (f x) ≡ false) → (xs : List A)
    → list_any test (map f xs) ≡ false
none_map test f not [] = refl
none_map test f not (x ∷ xs) = λ i. not x i || none_map test f not xs i

-- ---- devices on a control unit

own_unit : (u v : ℕ) → thing.Record (key.Unit u) ≡ thing.Record (key.Unit v) → nat_eq u v ≡ true
own_unit u v e = let same : u ≡ v = cc in grind (arith, nat_tests)

unit_ties : (u v : ℕ) → is_it (thing.Record (key.Unit u)) (unit_named v) ≡ nat_eq u v
unit_ties u v = same_tests _ _ (λ e. own_unit u v (same_key named_cmp named_exact _ _ e))
    (λ e. ap (λ w. is_it (thing.Record (key.Unit u)) (thing.Record (key.Unit w))) (sym (eqb-true u v e))
    ∙ ties_itself named_cmp named_total (thing.Record (key.Unit u)))

device_names : (u : ℕ) (d : DeviceRecord)
    → names (thing.Record (key.Unit u)) (Some (device d)) ≡ list_any (nat_eq u) d.units
device_names u d =
    let test = is_it (thing.Record (key.Unit u)) in
    list_any-append test (map unit_named d.units ++ map (address_named d.unit_address) d.units)
    (map image_named (unwrap_or d.candidates []))
    ∙ ap (λ b. list_any test (map unit_named d.units ++ map (address_named d.unit_address) d.units) || b)
    (none_map test image_named (λ x. refl) (unwrap_or d.candidates []))
    ∙ or-false _
    ∙ list_any-append test (map unit_named d.units) (map (address_named d.unit_address) d.units)
    ∙ ap (λ b. list_any test (map unit_named d.units) || b)
    (none_map test (address_named d.unit_address) (λ x. refl) d.units)
    ∙ or-false _
    ∙ any_map test unit_named (nat_eq u) (unit_ties u) d.units

-- a record names one of these control units
abbrev pub names_one : List ℕ → Option Rec → Bool
names_one units r = list_any (λ u. names (thing.Record (key.Unit u)) r) units

pub device_is_on : (units : List ℕ) (d : DeviceRecord) → names_one units (Some (device d)) ≡ is_on units d
device_is_on units d = λ i. list_any (λ u. device_names u d i) units

-- ---- control units that have a path

own_path : (css n css' n' : ℕ) → thing.Record (key.Path css n) ≡ thing.Record (key.Path css' n')
    → (nat_eq css' css && nat_eq n n') ≡ true
own_path css n css' n' e =
    let same : css ≡ css' = cc in
    let number : n ≡ n' = cc in
    grind (arith, nat_tests)

path_ties : (css n : ℕ) (p : CssPath)
    → is_it (thing.Record (key.Path css n)) (path_named p) ≡ (nat_eq p.css css && nat_eq n p.path)
path_ties css n p = same_tests _ _ (λ e. own_path css n p.css p.path (same_key named_cmp named_exact _ _ e))
    (λ e. let parts = and_parts (nat_eq p.css css) (nat_eq n p.path) e in
    let own : p.css ≡ css = eqb-true p.css css parts.0 in
    let number : p.path ≡ n = sym (eqb-true n p.path parts.1) in
    (λ i. is_it (thing.Record (key.Path css n)) (thing.Record (key.Path (own i) (number i))))
    ∙ ties_itself named_cmp named_total (thing.Record (key.Path css n)))

pub unit_has : (css n : ℕ) (u : UnitRecord)
    → names (thing.Record (key.Path css n)) (Some (unit u)) ≡ has_path css n u
unit_has css n u = any_map (is_it (thing.Record (key.Path css n))) path_named
    (λ (p : CssPath). nat_eq p.css css && nat_eq n p.path) (path_ties css n) u.paths
