-- What a key doesn't lead to is unaffected by a change of its record.
use Rattle.std.proofs.Common.{◌≡◌, ℕ, zero, suc, ◌<◌, Bool, true, false, not, cond, ◌&&◌, nat_eq, List, [], ◌∷◌, Option}
use Rattle.std.proofs.Common.{Some, None, is_some, refl, sym, ap, subst, ◌∙◌, arith}
use Rattle.std.proofs.lemmas.Bool.{false≢true}
use Rattle.std.proofs.lemmas.List.Folds.{list_any-append}
use Rattle.std.specs.Cmp.Lexicographic.{nat_list_eq_equiv}
use Rattle.std.specs.List.{list_any}
use Rattle.std.specs.Option.{option_and_then}
use Rattle.std.specs.Ordering.{eq_by_cmp}
use Rattle.std.specs.FinMap.{get}
use Rattle.iocm_types.specs.declared.image.Image as images
use Rattle.iocm_types.specs.declared.key.Key.{Key}
use Rattle.iocm_types.specs.declared.key.Key.TheVariants as key
use Rattle.iocm_types.specs.declared.naming.Naming.{Naming}
use Rattle.iocm_types.specs.declared.place.Place.{Place}
use Rattle.iocm_types.specs.declared.view.View.{View}
use Rattle.iocm_types.specs.Key.{key_cmp}
use Rattle.iocm_types.specs.KeyOrder.{keys_total, keys_exact, images_total}
use Rattle.iocm_types.specs.Place.{place_cmp}
use Rattle.iocm_types.specs.SubId.{image_cmp}
use Rattle.iocm_types.proofs.Found.{same_key, ties_itself}
use Rattle.iocm_types.proofs.Parts.{untied}
use Rattle.iocm_table.specs.Slots.{Stored}
use Rattle.iocm_model.specs.Change.Maps.{with_value}
use Rattle.iocm_model.specs.Machine.Record.{Rec, ImageRecord, DeviceRecord, key_of, id, resource, image, limit, path}
use Rattle.iocm_model.specs.Machine.Record.{unit, device, online}
use Rattle.iocm_model.specs.Machine.Configuration.{Configuration, IsKeyed, lookup_of, records_of, as_image, as_device}
use Rattle.iocm_model.specs.Machine.Numbering.{subsystems, is_empty, is_record_reached, is_reached_at}
use Rattle.iocm_model.specs.Machine.PathList.{path_list}
use Rattle.iocm_model.specs.Machine.Sight.{record_lists}
use Rattle.iocm_model.specs.Machine.View.{view_if_seen, device_record, image_view}
use Rattle.iocm_model.specs.Rules.EachRule.{same_name}
use Rattle.iocm_model.proofs.Machine.OwnKeys.{keyed_own, own_keyed}
use Rattle.iocm_model.proofs.Maps.Cells.{get_with_value}
use Rattle.iocm_model.proofs.Numbers.Opening.{reached_places_are_of_devices}
use Rattle.iocm_lookup.specs.Indexed.{IsIndexOf}
use Rattle.iocm_lookup.proofs.Members.{record_there}
use Rattle.iocm_affected.specs.Affected.{sight_at, image_at, AreAllAffected}
use Rattle.iocm_affected.specs.Listing.{Choice, all_images, image_named, is_one_alone, listed_otherwise, places_of_name}
use Rattle.iocm_affected.specs.Listing.{places_of_image, led_places, images_at, images_in, led_images}
use Rattle.iocm_affected.proofs.Agreement.{or_first, or_second, IsIn, own_number, AgreeBut, IsApart, same_if_seen}
use Rattle.iocm_affected.proofs.Agreement.{same_reach, same_view}
use Rattle.iocm_affected.proofs.Chains.{any_of_parts}
use Rattle.iocm_affected.proofs.InRange.{same_in_range}
use Rattle.iocm_affected.proofs.Leading.{IsAmong, device_led, unit_led, path_led, not_seen}

-- a channel subsystem of a machine is one of the six
subsystem_there : (css : ℕ) → css < 6 → IsIn css subsystems
subsystem_there zero low = refl
subsystem_there (suc zero) low = refl
subsystem_there (suc (suc zero)) low = refl
subsystem_there (suc (suc (suc zero))) low = refl
subsystem_there (suc (suc (suc (suc zero)))) low = refl
subsystem_there (suc (suc (suc (suc (suc zero))))) low = refl
subsystem_there (suc (suc (suc (suc (suc (suc css)))))) low = absurd (omega arith)

-- the record of a device
device_is : (o : Option Rec) (r : DeviceRecord) → option_and_then as_device o ≡ Some r → o ≡ Some (device r)
device_is None r h = cc
device_is (Some (device x)) r h = let same : x ≡ r = cc in ap (λ y. Some (device y)) same
device_is (Some (id x)) r h = cc
device_is (Some (resource x)) r h = cc
device_is (Some (image x)) r h = cc
device_is (Some (limit x)) r h = cc
device_is (Some (path x)) r h = cc
device_is (Some (unit x)) r h = cc
device_is (Some (online x)) r h = cc

-- the record of an image
image_is : (o : Option Rec) (r : ImageRecord) → option_and_then as_image o ≡ Some r → o ≡ Some (image r)
image_is None r h = cc
image_is (Some (image x)) r h = let same : x ≡ r = cc in ap (λ y. Some (image y)) same
image_is (Some (id x)) r h = cc
image_is (Some (resource x)) r h = cc
image_is (Some (device x)) r h = cc
image_is (Some (limit x)) r h = cc
image_is (Some (path x)) r h = cc
image_is (Some (unit x)) r h = cc
image_is (Some (online x)) r h = cc

-- what is made of a record alike, where there is one
chained : {A B : Type 0} (f g : A → Option B) (o : Option A) → ((x : A) → o ≡ Some x → f x ≡ g x)
    → option_and_then f o ≡ option_and_then g o
chained f g None same = refl
chained f g (Some x) same = same x refl

-- of which nothing is made
none_made : {A B : Type 0} (f : A → Option B) (o : Option A) → ((x : A) → o ≡ Some x → f x ≡ None)
    → option_and_then f o ≡ None
none_made f None none = refl
none_made f (Some x) none = none x refl

-- what follows from what is there follows where something is
there_is : {A P : Type 0} (o : Option A) → is_some o ≡ true → ((x : A) → o ≡ Some x → P) → P
there_is None is follows = cc
there_is (Some x) is follows = follows x refl

-- an image of a configuration is among those of each choice that it is of
image_there : (c : Configuration) (choice : Choice) (k : Key) (r : ImageRecord) → lookup_of c k ≡ Some (image r)
    → choice r.css r.name ≡ true
    → list_any (eq_by_cmp image_cmp (record { css = r.css; mif = r.mif })) (images_in choice c) ≡ true
image_there c choice k r there is =
    let m : images.Image = record { css = r.css; mif = r.mif } in
    any_of_parts (eq_by_cmp image_cmp m) (images_at choice) (records_of c)
    ∙ record_there c (λ x. list_any (eq_by_cmp image_cmp m) (images_at choice x)) k (image r) there
    (ap (λ b. list_any (eq_by_cmp image_cmp m) (cond b (m ∷ []) [])) is
    ∙ or_first (eq_by_cmp image_cmp m m) false (ties_itself image_cmp images_total m))

module _ (c : Configuration) (changed : Key) (after : Option Rec) (keyed : IsKeyed c)
    (own : (r : Rec) → after ≡ Some r → key_of r ≡ changed) where
  -- the configuration after the change
  abbrev then : Configuration
  then = with_value c changed after

  agree : AgreeBut changed (lookup_of c) (lookup_of then)
  agree q other = sym (get_with_value keys_total keys_exact c changed after q
      ∙ ap (λ b. cond b after (get c q)) (untied key_cmp keys_exact q changed other))

  now_there : lookup_of then changed ≡ after
  now_there = get_with_value keys_total keys_exact c changed after changed
      ∙ ap (λ b. cond b after (get c changed)) (ties_itself key_cmp keys_total changed)

  keyed_then : IsKeyed then
  keyed_then = own_keyed then (λ k r h.
      by k r (eq_by_cmp key_cmp k changed) refl (sym (get_with_value keys_total keys_exact c changed after k) ∙ h))
    where
      by : (k : Key) (r : Rec) (b : Bool) → eq_by_cmp key_cmp k changed ≡ b → cond b after (get c k) ≡ Some r
          → key_of r ≡ k
      by k r true is h = own r h ∙ sym (same_key key_cmp keys_exact k changed is)
      by k r false is h = keyed_own c keyed k r h

  -- an image that is found at a place's key is of its channel subsystem
  image_css : (e : Configuration) → IsKeyed e → (p : Place) (mif : ℕ) (r : ImageRecord)
      → lookup_of e (key.Image p.css mif) ≡ Some (image r) → r.css ≡ p.css
  image_css e has p mif r h = let same : key.Image r.css r.mif ≡ key.Image p.css mif =
      keyed_own e has (key.Image p.css mif) (image r) h in cc

  image_mif : (p : Place) (mif : ℕ) (r : ImageRecord) → lookup_of c (key.Image p.css mif) ≡ Some (image r) → r.mif ≡ mif
  image_mif p mif r h = let same : key.Image r.css r.mif ≡ key.Image p.css mif =
      keyed_own c keyed (key.Image p.css mif) (image r) h in cc

  -- what the image of a name sees of the device at a place
  abbrev seen : Configuration → Place → List ℕ → Option View
  seen e p name = option_and_then (view_if_seen (lookup_of e) p.css name) (device_record (lookup_of e) p.set p.device)

  seen_by : (e : Configuration) → IsKeyed e → (p : Place) (mif : ℕ) (r : ImageRecord)
      → lookup_of e (key.Image p.css mif) ≡ Some (image r)
      → image_view (lookup_of e) r p.set p.device ≡ seen e p r.name
  seen_by e has p mif r h =
      ap (λ css. option_and_then (view_if_seen (lookup_of e) css r.name) (device_record (lookup_of e) p.set p.device))
      (image_css e has p mif r h)

  -- what an image that isn't changed sees, where what its name sees stays
  same_sight : (p : Place) (mif : ℕ) → (key.Image p.css mif ≡ changed → ⊥)
      → ((r : ImageRecord) → lookup_of c (key.Image p.css mif) ≡ Some (image r) → seen c p r.name ≡ seen then p r.name)
      → sight_at c mif p ≡ sight_at then mif p
  same_sight p mif other same =
      let here = agree (key.Image p.css mif) other in
      chained (λ (r : ImageRecord). image_view (lookup_of c) r p.set p.device)
      (λ (r : ImageRecord). image_view (lookup_of then) r p.set p.device)
      (option_and_then as_image (lookup_of c (key.Image p.css mif)))
      (λ r is. let there = image_is (lookup_of c (key.Image p.css mif)) r is in
      seen_by c keyed p mif r there ∙ same r there ∙ sym (seen_by then keyed_then p mif r (sym here ∙ there)))
      ∙ ap (λ (o : Option Rec).
      option_and_then (λ (r : ImageRecord). image_view (lookup_of then) r p.set p.device)
      (option_and_then as_image o)) here

  -- no image sees a device whose name doesn't lead to it
  no_sight : (e : Configuration) → IsKeyed e → (p : Place) (mif : ℕ)
      → ((r : ImageRecord) → lookup_of e (key.Image p.css mif) ≡ Some (image r) → seen e p r.name ≡ None)
      → sight_at e mif p ≡ None
  no_sight e has p mif none = none_made (λ (r : ImageRecord). image_view (lookup_of e) r p.set p.device)
      (option_and_then as_image (lookup_of e (key.Image p.css mif)))
      (λ r is. let there = image_is (lookup_of e (key.Image p.css mif)) r is in seen_by e has p mif r there
      ∙ none r there)

  -- what the image of a name sees stays where the key is none of what it depends on
  same_seen : (p : Place) (name : List ℕ) → (key.Device p.set p.device ≡ changed → ⊥)
      → ((r : DeviceRecord) → lookup_of c (key.Device p.set p.device) ≡ Some (device r)
      → IsApart changed (lookup_of c) (lookup_of then) p.css name r) → seen c p name ≡ seen then p name
  same_seen p name other apart =
      same_view changed (lookup_of c) (lookup_of then) agree p.css name p.set p.device other apart

  -- whether a place is reached stays where the key is neither that of its device nor that of a unit
  -- of it
  same_place : (p : Place) → p.css < 6 → p.set < 4 → (key.Device p.set p.device ≡ changed → ⊥)
      → ((r : DeviceRecord) → lookup_of c (key.Device p.set p.device) ≡ Some (device r) → (u : ℕ) → IsIn u r.units
      → key.Unit u ≡ changed → ⊥)
      → is_reached_at c p ≡ is_reached_at then p
  same_place p low few other apart = reached_places_are_of_devices c p keyed low few
      ∙ same_reach changed (lookup_of c) (lookup_of then) agree p.css (lookup_of c (key.Device p.set p.device)) apart
      ∙ ap (is_record_reached (lookup_of then) p.css) (agree (key.Device p.set p.device) other)
      ∙ sym (reached_places_are_of_devices then p keyed_then low few)

  -- ---- places that the key doesn't lead to

  module _ (t : Stored Naming (Unit {0})) (of : IsIndexOf c t) (p : Place) (low : p.css < 6)
      (out : IsAmong p (led_places t changed (lookup_of c changed) after) → ⊥) where
    -- a key that leads to the place is not the changed one
    not_changed : (k : Key) → IsAmong p (led_places t k (lookup_of c changed) after) → k ≡ changed → ⊥
    not_changed k among is = out (subst (λ (q : Key). IsAmong p (led_places t q (lookup_of c changed) after)) is among)

    inside : IsIn p.css subsystems
    inside = subsystem_there p.css low

    other_device : key.Device p.set p.device ≡ changed → ⊥
    other_device = not_changed (key.Device p.set p.device) (device_led p subsystems inside)

    apart : (r : DeviceRecord) → lookup_of c (key.Device p.set p.device) ≡ Some (device r) → (name : List ℕ)
        → IsApart changed (lookup_of c) (lookup_of then) p.css name r
    apart r there name = record {
      units = λ u among. not_changed (key.Unit u) (unit_led c t of p r there subsystems inside u among);
      paths = λ n among. ap (record_lists name)
          (agree (key.Path p.css n) (not_changed (key.Path p.css n) (path_led c t of p r there n among)));
      online = λ n among. not_changed (key.Online p.css n name) (path_led c t of p r there n among);
    }

    pub reached_off : p.set < 4 → is_reached_at c p ≡ is_reached_at then p
    reached_off few = same_place p low few other_device (λ r there. (apart r there []).units)

    seen_off : (name : List ℕ) → seen c p name ≡ seen then p name
    seen_off name = same_seen p name other_device (λ r there. apart r there name)

    none_seen : (name : List ℕ) → (IsAmong p (places_of_name t p.css name) → ⊥) → seen c p name ≡ None
    none_seen name far = none_made (view_if_seen (lookup_of c) p.css name) (device_record (lookup_of c) p.set p.device)
        (λ r is. not_seen c t of p r (device_is (lookup_of c (key.Device p.set p.device)) r is) name far)

    module _ (mif : ℕ) where
      -- the name that the changed image had or gets doesn't lead to the place
      far_before : key.Image p.css mif ≡ changed → (r : ImageRecord) → lookup_of c changed ≡ Some (image r)
          → IsAmong p (places_of_name t p.css r.name) → ⊥
      far_before is r had among = not_changed (key.Image p.css mif)
          (list_any-append (eq_by_cmp place_cmp p) (places_of_image t p.css (lookup_of c changed))
          (places_of_image t p.css after)
          ∙ or_first _ _ (ap (λ (o : Option Rec). list_any (eq_by_cmp place_cmp p) (places_of_image t p.css o)) had
          ∙ among)) is

      far_after : key.Image p.css mif ≡ changed → (r : ImageRecord) → after ≡ Some (image r)
          → IsAmong p (places_of_name t p.css r.name) → ⊥
      far_after is r gets among = not_changed (key.Image p.css mif)
          (list_any-append (eq_by_cmp place_cmp p) (places_of_image t p.css (lookup_of c changed))
          (places_of_image t p.css after)
          ∙ or_second _ _ (ap (λ (o : Option Rec). list_any (eq_by_cmp place_cmp p) (places_of_image t p.css o)) gets
          ∙ among)) is

      changed_image : key.Image p.css mif ≡ changed → sight_at c mif p ≡ sight_at then mif p
      changed_image is =
          no_sight c keyed p mif (λ r had. none_seen r.name (far_before is r (sym (ap (lookup_of c) is) ∙ had)))
          ∙ sym (no_sight then keyed_then p mif
          (λ r gets. sym (seen_off r.name)
          ∙ none_seen r.name (far_after is r (sym now_there ∙ sym (ap (lookup_of then) is) ∙ gets))))

      pub sight_off : sight_at c mif p ≡ sight_at then mif p
      sight_off = by (eq_by_cmp key_cmp (key.Image p.css mif) changed) refl
        where
          by : (b : Bool) → eq_by_cmp key_cmp (key.Image p.css mif) changed ≡ b → sight_at c mif p ≡ sight_at then mif p
          by true is = changed_image (same_key key_cmp keys_exact (key.Image p.css mif) changed is)
          by false is = same_sight p mif
              (λ e. false≢true (sym is ∙ ap (eq_by_cmp key_cmp (key.Image p.css mif)) (sym e)
              ∙ ties_itself key_cmp keys_total (key.Image p.css mif)))
              (λ r there. seen_off r.name)

  -- ---- images that don't look at the record of the key

  module _ (p : Place) (mif : ℕ)
      (out : list_any (eq_by_cmp image_cmp (image_at mif p)) (led_images c changed (lookup_of c changed) after) ≡ true
      → ⊥) where
    -- a key whose record the image looks at is not the changed one
    looks_not : (k : Key) → list_any (eq_by_cmp image_cmp (image_at mif p)) (led_images c k (lookup_of c changed) after)
        ≡ true → k ≡ changed → ⊥
    looks_not k among is = out
        (subst (λ (q : Key). list_any (eq_by_cmp image_cmp (image_at mif p))
        (led_images c q (lookup_of c changed) after) ≡ true) is among)

    module _ (r : ImageRecord) (there : lookup_of c (key.Image p.css mif) ≡ Some (image r)) where
      in_choice : (choice : Choice) → choice r.css r.name ≡ true
          → list_any (eq_by_cmp image_cmp (image_at mif p)) (images_in choice c) ≡ true
      in_choice choice is =
          let css : r.css ≡ p.css = image_css c keyed p mif r there in
          let number : r.mif ≡ mif = image_mif p mif r there in
          sym (λ i. list_any (eq_by_cmp image_cmp (record { css = css i; mif = number i })) (images_in choice c))
          ∙ image_there c choice (key.Image p.css mif) r there is

      own_css : nat_eq r.css p.css ≡ true
      own_css = ap (λ css. nat_eq css p.css) (image_css c keyed p mif r there) ∙ own_number p.css

      own_name : same_name r.name r.name ≡ true
      own_name = nat_list_eq_equiv.refl r.name

      -- a path lists the name of the image as before
      listed_as_before : (n : ℕ)
          → record_lists r.name (lookup_of c (key.Path p.css n))
          ≡ record_lists r.name (lookup_of then (key.Path p.css n))
      listed_as_before n = by (eq_by_cmp key_cmp (key.Path p.css n) changed) refl
        where
          alike : (a b : Bool) → (is_one_alone a b ≡ true → ⊥) → a ≡ b
          alike true true not_alone = refl
          alike true false not_alone = absurd (not_alone refl)
          alike false true not_alone = absurd (not_alone refl)
          alike false false not_alone = refl

          by : (b : Bool) → eq_by_cmp key_cmp (key.Path p.css n) changed ≡ b
              → record_lists r.name (lookup_of c (key.Path p.css n))
              ≡ record_lists r.name (lookup_of then (key.Path p.css n))
          by true is =
              let it : key.Path p.css n ≡ changed = same_key key_cmp keys_exact (key.Path p.css n) changed is in
              ap (λ k. record_lists r.name (lookup_of c k)) it
              ∙ alike (record_lists r.name (lookup_of c changed)) (record_lists r.name after)
              (λ alone. looks_not (key.Path p.css n)
              (in_choice (listed_otherwise p.css (lookup_of c changed) after) (λ i. own_css i && alone i)) it)
              ∙ ap (record_lists r.name) (sym now_there) ∙ ap (λ k. record_lists r.name (lookup_of then k)) (sym it)
          by false is = ap (record_lists r.name) (agree (key.Path p.css n)
              (λ e. false≢true (sym is ∙ ap (eq_by_cmp key_cmp (key.Path p.css n)) (sym e)
              ∙ ties_itself key_cmp keys_total (key.Path p.css n))))

      seen_elsewhere : seen c p r.name ≡ seen then p r.name
      seen_elsewhere = same_seen p r.name (looks_not (key.Device p.set p.device) (in_choice all_images refl))
          (λ d here. record {
            units = λ u among. looks_not (key.Unit u) (in_choice all_images refl);
            paths = λ n among. listed_as_before n;
            online = λ n among. looks_not (key.Online p.css n r.name)
                (in_choice (image_named p.css r.name) ((λ i. own_css i && own_name i)));
          })

    pub sight_elsewhere : sight_at c mif p ≡ sight_at then mif p
    sight_elsewhere = same_sight p mif
        (looks_not (key.Image p.css mif)
        (or_first (eq_by_cmp image_cmp (image_at mif p) (image_at mif p)) false
        (ties_itself image_cmp images_total (image_at mif p))))
        seen_elsewhere

    -- where the image is there, whether the place is reached stays
    pub reached_elsewhere : is_some (option_and_then as_image (lookup_of c (key.Image p.css mif))) ≡ true
        → is_reached_at c p ≡ is_reached_at then p
    reached_elsewhere found = there_is (option_and_then as_image (lookup_of c (key.Image p.css mif))) found (λ r is.
        let all : list_any (eq_by_cmp image_cmp (image_at mif p)) (images_in all_images c) ≡ true =
        in_choice r (image_is (lookup_of c (key.Image p.css mif)) r is) all_images refl in
        same_in_range c then p (λ low few.
        same_place p low few (looks_not (key.Device p.set p.device) all)
        (λ d here u among. looks_not (key.Unit u) all)))

  -- ---- a device that keeps its control units and candidates

  module _ (old new : DeviceRecord) (was : lookup_of c changed ≡ Some (device old)) (is : after ≡ Some (device new))
      (units : old.units ≡ new.units) (candidates : old.candidates ≡ new.candidates) where
    its_key : changed ≡ key.Device old.set old.number
    its_key = sym (keyed_own c keyed changed (device old) was)

    same_number : old.number ≡ new.number
    same_number = let same : key.Device new.set new.number ≡ key.Device old.set old.number =
        own (device new) is ∙ its_key in cc

    no_unit : (u : ℕ) → key.Unit u ≡ changed → ⊥
    no_unit u e = let bad : key.Unit u ≡ key.Device old.set old.number = e ∙ its_key in cc

    no_part : (css : ℕ) (name : List ℕ) (r : DeviceRecord) → IsApart changed (lookup_of c) (lookup_of then) css name r
    no_part css name r = record {
      units = λ u among e. no_unit u e;
      paths = λ n among. ap (record_lists name)
          (agree (key.Path css n) (λ e. let bad : key.Path css n ≡ key.Device old.set old.number = e ∙ its_key in cc));
      online = λ n among e. let bad : key.Online css n name ≡ key.Device old.set old.number = e ∙ its_key in cc;
    }

    -- what is seen depends on the control units, the candidates and the number alone
    seen_with : ℕ → List ℕ → List ℕ → Option (List (List ℕ)) → ℕ → Option View
    seen_with css name us cs n =
        view_if_seen (lookup_of then) css name
        (record {
          set = old.set;
          number = n;
          units = us;
          unit_address = old.unit_address;
          candidates = cs;
          carried = old.carried;
        })

    seen_changed : (p : Place) → key.Device p.set p.device ≡ changed → (name : List ℕ)
        → seen c p name ≡ seen then p name
    unfolding seen_with
    seen_changed p e name =
        ap (λ (o : Option Rec). option_and_then (view_if_seen (lookup_of c) p.css name) (option_and_then as_device o))
        (ap (lookup_of c) e ∙ was)
        ∙ same_if_seen changed (lookup_of c) (lookup_of then) agree p.css name old (no_part p.css name old)
        ∙ (λ i. seen_with p.css name (units i) (candidates i) (same_number i))
        ∙ sym (ap (λ (o : Option Rec).
        option_and_then (view_if_seen (lookup_of then) p.css name) (option_and_then as_device o))
        (ap (lookup_of then) e ∙ now_there ∙ is))

    seen_same : (p : Place) (name : List ℕ) → seen c p name ≡ seen then p name
    seen_same p name = by (eq_by_cmp key_cmp (key.Device p.set p.device) changed) refl
      where
        by : (b : Bool) → eq_by_cmp key_cmp (key.Device p.set p.device) changed ≡ b → seen c p name ≡ seen then p name
        by true e = seen_changed p (same_key key_cmp keys_exact (key.Device p.set p.device) changed e) name
        by false e = same_seen p name
            (λ q. false≢true (sym e ∙ ap (eq_by_cmp key_cmp (key.Device p.set p.device)) (sym q)
            ∙ ties_itself key_cmp keys_total (key.Device p.set p.device)))
            (λ r there. no_part p.css name r)

    sight_same : (p : Place) (mif : ℕ) → sight_at c mif p ≡ sight_at then mif p
    sight_same p mif = same_sight p mif
        (λ e. let bad : key.Image p.css mif ≡ key.Device old.set old.number = e ∙ its_key in cc)
        (λ r there. seen_same p r.name)

    reached_changed : (p : Place) → p.css < 6 → p.set < 4 → key.Device p.set p.device ≡ changed
        → is_reached_at c p ≡ is_reached_at then p
    reached_changed p low few e = reached_places_are_of_devices c p keyed low few
        ∙ ap (is_record_reached (lookup_of c) p.css) (ap (lookup_of c) e ∙ was)
        ∙ same_reach changed (lookup_of c) (lookup_of then) agree p.css (Some (device old))
        (λ r there u among q. no_unit u q)
        ∙ ap (λ us. not (is_empty (path_list (lookup_of then) p.css us))) units
        ∙ sym (ap (is_record_reached (lookup_of then) p.css) (ap (lookup_of then) e ∙ now_there ∙ is))
        ∙ sym (reached_places_are_of_devices then p keyed_then low few)

    reached_same : (p : Place) → is_reached_at c p ≡ is_reached_at then p
    reached_same p = same_in_range c
        then p (λ low few. by low few (eq_by_cmp key_cmp (key.Device p.set p.device) changed) refl)
      where
        by : p.css < 6 → p.set < 4 → (b : Bool) → eq_by_cmp key_cmp (key.Device p.set p.device) changed ≡ b
            → is_reached_at c p ≡ is_reached_at then p
        by low few true e = reached_changed p low few
            (same_key key_cmp keys_exact (key.Device p.set p.device) changed e)
        by low few false e = same_place p low few
            (λ q. false≢true (sym e ∙ ap (eq_by_cmp key_cmp (key.Device p.set p.device)) (sym q)
            ∙ ties_itself key_cmp keys_total (key.Device p.set p.device)))
            (λ r there u among q. no_unit u q)

    pub none_affected : AreAllAffected c then [] []
    none_affected = record {
      reached = λ p out. reached_same p;
      off_places = λ p mif low out. sight_same p mif;
      off_images = λ p mif out. sight_same p mif;
      stays = λ p mif out found. reached_same p;
    }

  -- all that may be affected is listed
  pub all_affected : (t : Stored Naming (Unit {0})) → IsIndexOf c t → (places : List Place) (seeing : List images.Image)
      → ((p : Place) → list_any (eq_by_cmp place_cmp p) places
      ≡ list_any (eq_by_cmp place_cmp p) (led_places t changed (lookup_of c changed) after))
      → seeing ≡ led_images c changed (lookup_of c changed) after → AreAllAffected c then places seeing
  all_affected t of places seeing same looking = record {
    reached = λ p out. same_in_range c
        then p (λ low few. reached_off t of p low (λ among. false≢true (sym out ∙ same p ∙ among)) few);
    off_places = λ p mif low out. sight_off t of p low (λ among. false≢true (sym out ∙ same p ∙ among)) mif;
    off_images = λ p mif out. sight_elsewhere p mif
        (λ among. false≢true (sym out ∙ ap (list_any (eq_by_cmp image_cmp (image_at mif p))) looking ∙ among));
    stays = λ p mif out found. reached_elsewhere p mif
        (λ among. false≢true (sym out ∙ ap (list_any (eq_by_cmp image_cmp (image_at mif p))) looking ∙ among)) found;
  }
