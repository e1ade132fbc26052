-- Who names whom on the way from a device to what it depends on: a device its units, a unit its
-- paths, a path the images that reach it.
use Rattle.std.proofs.Common.{◌≡◌, ℕ, Bool, true, false, cond, ◌||◌, nat_eq, eqb-true, List, [], ◌∷◌, ◌++◌, map, filter}
use Rattle.std.proofs.Common.{Option, Some, None, unwrap_or, refl, sym, ap, ◌∙◌}
use Rattle.std.proofs.lemmas.List.Folds.{list_any-append}
use Rattle.std.specs.Cmp.Lexicographic.{pointwise, same_text}
use Rattle.std.specs.List.{list_any, flat_map}
use Rattle.std.specs.Ordering.{eq_by_cmp}
use Rattle.iocm_types.specs.declared.css_path.CssPath.{CssPath}
use Rattle.iocm_types.specs.declared.key.Key.TheVariants as key
use Rattle.iocm_types.specs.declared.named.Named.TheVariants as thing
use Rattle.iocm_types.specs.Naming.{named_cmp}
use Rattle.iocm_types.proofs.Found.{ties_itself}
use Rattle.iocm_model.specs.Machine.Naming.{address_named, image_named, path_named, unit_named}
use Rattle.iocm_model.specs.Machine.PathList.{paths_in, unit_record_paths}
use Rattle.iocm_model.specs.Machine.Record.{Rec, DeviceRecord, id, resource, image, limit, path, unit, device, online}
use Rattle.iocm_model.specs.Machine.Sight.{has_name, record_lists}
use Rattle.iocm_index.proofs.Front.{named_total}
use Rattle.iocm_lookup.specs.Indexed.{names}
use Rattle.iocm_lookup.proofs.Anys.{any_weaker}
use Rattle.iocm_affected.proofs.Agreement.{or_first, or_second, IsIn, in_front, behind}

-- ---- tests of lists

pub any_map : {A B : Type 0} (test : B → Bool) (f : A → B) (xs : List A)
    → list_any test (map f xs) ≡ list_any (λ x. test (f x)) xs
any_map test f [] = refl
any_map test f (x ∷ xs) = ap (λ b. test (f x) || b) (any_map test f xs)

pub any_of_parts : {A B : Type 0} (test : B → Bool) (part : A → List B) (xs : List A)
    → list_any test (flat_map part xs) ≡ list_any (λ x. list_any test (part x)) xs
any_of_parts test part [] = refl
any_of_parts test part (x ∷ xs) =
    list_any-append test (part x) (flat_map part xs) ∙ ap (λ b. list_any test (part x) || b) (any_of_parts test part xs)

-- what follows from a number of a list that passes a test follows
pub any_number : {P : Type 0} (test : ℕ → Bool) (xs : List ℕ) → list_any test xs ≡ true
    → ((x : ℕ) → IsIn x xs → test x ≡ true → P) → P
any_number test [] any follows = cc
any_number {P} test (x ∷ xs) any follows =
    by (test x) refl any (λ h. any_number test xs h (λ y among passes. follows y (behind y x xs among) passes))
  where
    by : (b : Bool) → test x ≡ b → (b || list_any test xs) ≡ true → (list_any test xs ≡ true → P) → P
    by true is h more = follows x (in_front x xs) is
    by false is h more = more h

-- ---- what names what

-- a device names its units
pub device_names : (r : DeviceRecord) (u : ℕ) → IsIn u r.units
    → names (thing.Record (key.Unit u)) (Some (device r)) ≡ true
device_names r u h =
    let test = eq_by_cmp named_cmp (thing.Record (key.Unit u)) in
    list_any-append test (map unit_named r.units ++ map (address_named r.unit_address) r.units)
    (map image_named (unwrap_or r.candidates []))
    ∙ or_first _ _ (list_any-append test (map unit_named r.units) (map (address_named r.unit_address) r.units)
    ∙ or_first _ _ (any_map test unit_named r.units
    ∙ any_weaker (nat_eq u) (λ x. test (unit_named x))
    (λ x e. ap (λ y. test (unit_named y)) (sym (eqb-true u x e)) ∙ ties_itself named_cmp named_total (unit_named u))
    r.units h))

module _ (css n : ℕ) where
  abbrev is_it : CssPath → Bool
  is_it q = eq_by_cmp named_cmp (thing.Record (key.Path css n)) (path_named q)

  tie : (p : CssPath) → nat_eq p.css css ≡ true → nat_eq n p.path ≡ true → is_it p ≡ true
  tie p a b =
      let own : p.css ≡ css = eqb-true p.css css a in
      let number : p.path ≡ n = sym (eqb-true n p.path b) in
      (λ i. eq_by_cmp named_cmp (thing.Record (key.Path css n)) (thing.Record (key.Path (own i) (number i))))
      ∙ ties_itself named_cmp named_total (thing.Record (key.Path css n))

  paths_named : (ps : List CssPath) → IsIn n (paths_in css ps)
      → list_any (eq_by_cmp named_cmp (thing.Record (key.Path css n))) (map path_named ps) ≡ true
  paths_named [] h = cc
  paths_named (p ∷ ps) h = by (nat_eq p.css css) refl h (paths_named ps)
    where
      first : nat_eq p.css css ≡ true → (b : Bool) → nat_eq n p.path ≡ b
          → (b || list_any (nat_eq n) (paths_in css ps)) ≡ true
          → (IsIn n (paths_in css ps)
          → list_any (eq_by_cmp named_cmp (thing.Record (key.Path css n))) (map path_named ps) ≡ true)
          → (is_it p || list_any (eq_by_cmp named_cmp (thing.Record (key.Path css n))) (map path_named ps)) ≡ true
      first own true is k more = or_first _ _ (tie p own is)
      first own false is k more = or_second _ _ (more k)

      by : (b : Bool) → nat_eq p.css css ≡ b
          → IsIn n (map (λ (q : CssPath). q.path)
          (cond b (p ∷ filter (λ (q : CssPath). nat_eq q.css css) ps)
          (filter (λ (q : CssPath). nat_eq q.css css) ps)))
          → (IsIn n (paths_in css ps)
          → list_any (eq_by_cmp named_cmp (thing.Record (key.Path css n))) (map path_named ps) ≡ true)
          → (is_it p || list_any (eq_by_cmp named_cmp (thing.Record (key.Path css n))) (map path_named ps)) ≡ true
      by true is k more = first is (nat_eq n p.path) refl k more
      by false is k more = or_second _ _ (more k)

  -- a unit names its paths
  pub unit_names : (o : Option Rec) → IsIn n (unit_record_paths css o) → names (thing.Record (key.Path css n)) o ≡ true
  unit_names None h = cc
  unit_names (Some (unit r)) h = paths_named r.paths h
  unit_names (Some (id r)) h = cc
  unit_names (Some (resource r)) h = cc
  unit_names (Some (image r)) h = cc
  unit_names (Some (limit r)) h = cc
  unit_names (Some (path r)) h = cc
  unit_names (Some (device r)) h = cc
  unit_names (Some (online r)) h = cc

module _ (name : List ℕ) where
  images_named : (xs : List (List ℕ)) → has_name name xs ≡ true
      → list_any (eq_by_cmp named_cmp (thing.Image name)) (map image_named xs) ≡ true
  images_named xs h = any_map (eq_by_cmp named_cmp (thing.Image name)) image_named xs
      ∙ any_weaker (pointwise nat_eq name) (λ x. eq_by_cmp named_cmp (thing.Image name) (image_named x))
      (λ x e. ap (λ y. eq_by_cmp named_cmp (thing.Image name) (image_named y)) (sym (same_text name x (sym e)))
      ∙ ties_itself named_cmp named_total (image_named name)) xs h

  lists_named : (xs ys : List (List ℕ)) → (has_name name xs || has_name name ys) ≡ true
      → list_any (eq_by_cmp named_cmp (thing.Image name)) (map image_named xs ++ map image_named ys) ≡ true
  lists_named xs ys h = list_any-append (eq_by_cmp named_cmp (thing.Image name)) (map image_named xs)
      (map image_named ys) ∙ by (has_name name xs) refl h
    where
      by : (b : Bool) → has_name name xs ≡ b → (b || has_name name ys) ≡ true
          → (list_any (eq_by_cmp named_cmp (thing.Image name)) (map image_named xs)
          || list_any (eq_by_cmp named_cmp (thing.Image name)) (map image_named ys)) ≡ true
      by true is k = or_first _ _ (images_named xs is)
      by false is k = or_second _ _ (images_named ys k)

  -- a path names the images that reach it
  pub path_names : (o : Option Rec) → record_lists name o ≡ true → names (thing.Image name) o ≡ true
  path_names None h = cc
  path_names (Some (path r)) h = lists_named r.access r.candidates h
  path_names (Some (id r)) h = cc
  path_names (Some (resource r)) h = cc
  path_names (Some (image r)) h = cc
  path_names (Some (limit r)) h = cc
  path_names (Some (unit r)) h = cc
  path_names (Some (device r)) h = cc
  path_names (Some (online r)) h = cc
