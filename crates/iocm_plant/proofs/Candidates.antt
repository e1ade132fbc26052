-- Where neither a place nor an image that may be affected is looked at, the same is seen: so all
-- that is seen differently is among the candidates.
use Rattle.std.proofs.Common.{◌≡◌, ℕ, ◌<◌, ◌==◌, Bool, true, false, cond, ◌||◌, List, [], ◌∷◌, map, Option, Some, None}
use Rattle.std.proofs.Common.{is_some, eq-eqb, eqb-true, nat_eq, arith, ◌⊎◌, inl, inr, refl, sym, ap, subst, ◌∙◌}
use Rattle.std.specs.List.{list_any, filter, flat_map, AllByRecursion}
use Rattle.std.specs.Option.{option_and_then, option_eq}
use Rattle.std.specs.Ordering.{eq_by_cmp}
use Rattle.std.specs.FinMap.{get}
use Rattle.std.proofs.lemmas.Bool.{or_right, or_cases}
use Rattle.std.proofs.lemmas.List.Folds.{list_any-append}
use Rattle.iocm_types.specs.declared.image.Image as images
use Rattle.iocm_types.specs.declared.key.Key.TheVariants.{Image}
use Rattle.iocm_types.specs.declared.place.Place.{Place}
use Rattle.iocm_types.specs.declared.place.NumberCell.{NumberCell}
use Rattle.iocm_types.specs.declared.sub_id.SubId.{SubId}
use Rattle.iocm_types.specs.declared.view.View.{View}
use Rattle.iocm_types.specs.SubId.{sub_id_cmp, image_cmp}
use Rattle.iocm_types.specs.Place.{place_cmp, cell_cmp}
use Rattle.iocm_types.specs.KeyOrder.{sub_ids_total, images_exact, cells_exact}
use Rattle.iocm_types.proofs.Found.{same_key, ties_itself}
use Rattle.iocm_types.proofs.Tests.{absent}
use Rattle.iocm_model.specs.Machine.Record.{ImageRecord}
use Rattle.iocm_model.specs.Machine.Configuration.{Configuration, lookup_of, as_image}
use Rattle.iocm_model.specs.Machine.Numbering.{Numbering, AreNumbersOf, is_reached_at, device_at, subsystems, sets}
use Rattle.iocm_model.specs.Machine.Numbering.{reached_devices}
use Rattle.iocm_model.specs.Machine.View.{image_view, view_at}
use Rattle.iocm_model.specs.Change.Edit.{same_view}
use Rattle.iocm_model.specs.Operation.State.{is_among}
use Rattle.iocm_model.proofs.Change.SameViews.{sight_holds}
use Rattle.iocm_model.proofs.Numbers.Cells.{has_number, has_device}
use Rattle.iocm_model.proofs.Numbers.InOrder.{is_at}
use Rattle.iocm_affected.specs.Affected.{sight_at, AreAllAffected}
use Rattle.iocm_seats.specs.Changes.{subchannel_at, candidates}

-- ---- a subchannel of an image and a cell that are looked at is a candidate

pub or_first : (a b : Bool) → a ≡ true → (a || b) ≡ true
or_first true b h = refl
or_first false b h = cc

-- one image at one cell of its channel subsystem
among_one : (i : images.Image) (cell : NumberCell) (cells : List NumberCell) → i.css ≡ cell.css
    → list_any (eq_by_cmp cell_cmp cell) cells ≡ true
    → is_among (subchannel_at i cell) (map (subchannel_at i) (filter (λ (c : NumberCell). c.css == i.css) cells)) ≡ true
among_one i cell [] same among = cc
among_one i cell (c ∷ cells) same among =
    by (eq_by_cmp cell_cmp cell c) refl (c.css == i.css) refl among (among_one i cell cells same)
  where
    rest : List SubId
    rest = map (subchannel_at i) (filter (λ (d : NumberCell). d.css == i.css) cells)

    by : (b : Bool) → eq_by_cmp cell_cmp cell c ≡ b → (t : Bool) → (c.css == i.css) ≡ t
        → (b || list_any (eq_by_cmp cell_cmp cell) cells) ≡ true
        → (list_any (eq_by_cmp cell_cmp cell) cells ≡ true → is_among (subchannel_at i cell) rest ≡ true)
        → is_among (subchannel_at i cell) (map (subchannel_at i)
        (cond t (c ∷ filter (λ (d : NumberCell). d.css == i.css) cells)
        (filter (λ (d : NumberCell). d.css == i.css) cells))) ≡ true
    by true tied true own h more =
        let is : cell ≡ c = same_key cell_cmp cells_exact cell c tied in
        or_first (eq_by_cmp sub_id_cmp (subchannel_at i cell) (subchannel_at i c))
        (is_among (subchannel_at i cell) rest)
        (ap (λ z. eq_by_cmp sub_id_cmp (subchannel_at i cell) (subchannel_at i z)) (sym is)
        ∙ ties_itself sub_id_cmp sub_ids_total (subchannel_at i cell))
    by true tied false own h more =
        let is : cell ≡ c = same_key cell_cmp cells_exact cell c tied in
        absurd (no (sym own ∙ eq-eqb c.css i.css (ap (λ (z : NumberCell). z.css) (sym is) ∙ sym same)))
      where
        no : false ≡ true → ⊥
        no e = cc
    by false tied true own h more =
        or_right (eq_by_cmp sub_id_cmp (subchannel_at i cell) (subchannel_at i c))
        (is_among (subchannel_at i cell) rest) (more h)
    by false tied false own h more = more h

among_candidates : (i : images.Image) (cell : NumberCell) (seeing : List images.Image) (cells : List NumberCell)
    → i.css ≡ cell.css
    → list_any (eq_by_cmp image_cmp i) seeing ≡ true → list_any (eq_by_cmp cell_cmp cell) cells ≡ true
    → is_among (subchannel_at i cell) (candidates seeing cells) ≡ true
among_candidates i cell [] cells same image among = cc
among_candidates i cell (j ∷ seeing) cells same image among =
    list_any-append (eq_by_cmp sub_id_cmp (subchannel_at i cell))
    (map (subchannel_at j) (filter (λ (c : NumberCell). c.css == j.css) cells))
    (candidates seeing cells)
    ∙ by (eq_by_cmp image_cmp i j) refl image (λ h. among_candidates i cell seeing cells same h among)
  where
    here : List SubId
    here = map (subchannel_at j) (filter (λ (c : NumberCell). c.css == j.css) cells)

    by : (b : Bool) → eq_by_cmp image_cmp i j ≡ b → (b || list_any (eq_by_cmp image_cmp i) seeing) ≡ true
        → (list_any (eq_by_cmp image_cmp i) seeing ≡ true
        → is_among (subchannel_at i cell) (candidates seeing cells) ≡ true)
        → (is_among (subchannel_at i cell) here || is_among (subchannel_at i cell) (candidates seeing cells)) ≡ true
    by true tied h more =
        let is : i ≡ j = same_key image_cmp images_exact i j tied in
        or_first (is_among (subchannel_at i cell) here) (is_among (subchannel_at i cell) (candidates seeing cells))
        (subst (λ (z : images.Image).
        is_among (subchannel_at i cell) (map (subchannel_at z) (filter (λ (c : NumberCell). c.css == z.css) cells))
        ≡ true) is
        (among_one i cell cells same among))
    by false tied h more = or_right (is_among (subchannel_at i cell) here)
        (is_among (subchannel_at i cell) (candidates seeing cells)) (more h)

-- ---- what is seen at a subchannel, by the device of its number

-- the number cell of a subchannel, the place of a device there, and its image, if it is there
abbrev cell_of : SubId → NumberCell
cell_of x = record { css = x.image.css; set = x.set; number = x.number }

abbrev place_of : SubId → ℕ → Place
place_of x device = record { css = x.image.css; set = x.set; device = device }

abbrev pub image_there : Configuration → SubId → Option ImageRecord
image_there c x = option_and_then as_image (lookup_of c (Image x.image.css x.image.mif))

seen_at : (c : Configuration) (n : Numbering) (x : SubId) (device : ℕ) → device_at n (cell_of x) ≡ Some device
    → view_at c n x ≡ sight_at c x.image.mif (place_of x device)
seen_at c n x device is =
    ap (λ o. option_and_then (λ (i : ImageRecord). option_and_then (image_view (lookup_of c) i x.set) o)
    (image_there c x)) is

abbrev nothing : Option View
nothing = None

nothing_of : (o : Option ImageRecord) → option_and_then (λ (i : ImageRecord). nothing) o ≡ nothing
nothing_of None = refl
nothing_of (Some i) = refl

seen_none : (c : Configuration) (n : Numbering) (x : SubId) → device_at n (cell_of x) ≡ None → view_at c n x ≡ None
seen_none c n x is =
    ap (λ o. option_and_then (λ (i : ImageRecord). option_and_then (image_view (lookup_of c) i x.set) o)
    (image_there c x)) is
    ∙ nothing_of (image_there c x)

-- no image sees anything
blind : (c : Configuration) (x : SubId) (device : ℕ) → image_there c x ≡ None
    → sight_at c x.image.mif (place_of x device) ≡ None
blind c x device none = ap (λ o. option_and_then (λ (i : ImageRecord). image_view (lookup_of c) i x.set device) o) none

-- ---- places that are reached are in their ranges

-- the places of devices of one channel subsystem and set
abbrev places_at : ℕ → ℕ → List ℕ → List Place
places_at css set ds = map (λ d. record { css = css; set = set; device = d }) ds

part_of : (part : ℕ → List Place) (is : List ℕ) (p : Place) → list_any (eq_by_cmp place_cmp p) (flat_map part is) ≡ true
    → (i : ℕ) × (list_any (nat_eq i) is ≡ true) × (list_any (eq_by_cmp place_cmp p) (part i) ≡ true)
part_of part [] p h = cc
part_of part (i ∷ is) p h =
    by (or_cases _ _ (sym (list_any-append (eq_by_cmp place_cmp p) (part i) (flat_map part is)) ∙ h))
    (part_of part is p)
  where
    by : ((list_any (eq_by_cmp place_cmp p) (part i) ≡ true)
        ⊎ (list_any (eq_by_cmp place_cmp p) (flat_map part is) ≡ true))
        → (list_any (eq_by_cmp place_cmp p) (flat_map part is) ≡ true
        → (j : ℕ) × (list_any (nat_eq j) is ≡ true) × (list_any (eq_by_cmp place_cmp p) (part j) ≡ true))
        → (j : ℕ) × (list_any (nat_eq j) (i ∷ is) ≡ true) × (list_any (eq_by_cmp place_cmp p) (part j) ≡ true)
    by (inl e) more = (i, or_first (nat_eq i i) (list_any (nat_eq i) is) (eq-eqb i i refl), e)
    by (inr e) more = let rest = more e in
        (rest.0, or_right (nat_eq rest.0 i) (list_any (nat_eq rest.0) is) rest.1, rest.2)

below_of : (most : ℕ) (is : List ℕ) → AllByRecursion (λ i. i < most) is → (i : ℕ) → list_any (nat_eq i) is ≡ true
    → i < most
below_of most [] all i h = cc
below_of most (j ∷ is) all i h = by (or_cases _ _ h) (below_of most is all.1 i)
  where
    by : ((nat_eq i j ≡ true) ⊎ (list_any (nat_eq i) is ≡ true)) → (list_any (nat_eq i) is ≡ true → i < most) → i < most
    by (inl e) more = subst (λ k. k < most) (sym (eqb-true i j e)) all.0
    by (inr e) more = more e

range_of : (c : Configuration) (p : Place) → is_reached_at c p ≡ true → (p.css < 6) × (p.set < 4)
range_of c p h =
    let css = part_of (λ css. flat_map (λ set. places_at css set (reached_devices c css set)) sets) subsystems p h in
    let set = part_of (λ set. places_at css.0 set (reached_devices c css.0 set)) sets p css.2 in
    let at = is_at css.0 set.0 (reached_devices c css.0 set.0) p set.2 in (
      subst (λ k. k < 6) (sym at.css_is) (below_of 6 subsystems
          (omega arith, (omega arith, (omega arith, (omega arith, (omega arith, (omega arith, tt)))))) css.0 css.1),
      subst (λ k. k < 4) (sym at.set_is)
          (below_of 4 sets (omega arith, (omega arith, (omega arith, (omega arith, tt)))) set.0 set.1),
    )

-- ---- two configurations with their numbers

-- a device that stays keeps its number
abbrev pub Stay : Configuration → Numbering → Numbering → Type 0
Stay d n m = (p : Place) (k : ℕ) → is_reached_at d p ≡ true → get n p ≡ Some k → get m p ≡ Some k

-- each number at these places, before and after, has its cell among these
pub record AreLookedAt (n m : Numbering) (places : List Place) (cells : List NumberCell) : Type 0 where
  pub before : (p : Place) (k : ℕ) → list_any (eq_by_cmp place_cmp p) places ≡ true → get n p ≡ Some k
      → list_any (eq_by_cmp cell_cmp (record { css = p.css; set = p.set; number = k })) cells ≡ true
  pub after : (p : Place) (k : ℕ) → list_any (eq_by_cmp place_cmp p) places ≡ true → get m p ≡ Some k
      → list_any (eq_by_cmp cell_cmp (record { css = p.css; set = p.set; number = k })) cells ≡ true

there : {A : Type 0} (o : Option A) (a : A) → o ≡ Some a → is_some o ≡ true
there o a is = ap is_some is

some_there : {A : Type 0} (o : Option A) → is_some o ≡ true → (a : A) × (o ≡ Some a)
some_there None h = cc
some_there (Some a) h = (a, refl)

module _ (c d : Configuration) (n m : Numbering) (numbered : AreNumbersOf c n) (renumbered : AreNumbersOf d m)
    (stay : Stay d n m) (x : SubId) where
  -- at the places that have the subchannel's number, before or after, devices are reached and seen
  -- as before
  pub IsSameThere : Type 0
  IsSameThere = (device : ℕ) → (get n (place_of x device) ≡ Some x.number) ⊎ (get m (place_of x device) ≡ Some x.number)
      → (is_reached_at c (place_of x device) ≡ is_reached_at d (place_of x device))
      × (sight_at c x.image.mif (place_of x device) ≡ sight_at d x.image.mif (place_of x device))

  came_from : (device : ℕ) → is_reached_at c (place_of x device) ≡ is_reached_at d (place_of x device)
      → get m (place_of x device) ≡ Some x.number
      → get n (place_of x device) ≡ Some x.number
  came_from device same is =
      let now : is_reached_at d (place_of x device) ≡ true =
      sym (renumbered.exact (place_of x device)) ∙ there (get m (place_of x device)) x.number is in
      let had = some_there (get n (place_of x device)) (numbered.exact (place_of x device) ∙ same ∙ now) in
      let stays : get m (place_of x device) ≡ Some had.0 = stay (place_of x device) had.0 now had.1 in
      had.1 ∙ ap Some (inner (sym stays ∙ is))
    where
      inner : {a b : ℕ} → Some a ≡ Some b → a ≡ b
      inner e = cc

  -- so the same is seen
  pub seen_same : IsSameThere → view_at c n x ≡ view_at d m x
  unfolding IsSameThere
  seen_same same = by (device_at n (cell_of x)) refl (device_at m (cell_of x)) refl
    where
      by : (a : Option ℕ) → device_at n (cell_of x) ≡ a → (b : Option ℕ) → device_at m (cell_of x) ≡ b
          → view_at c n x ≡ view_at d m x
      by (Some device) before b after =
          let had : get n (place_of x device) ≡ Some x.number = has_number n (cell_of x) device before in
          let both = same device (inl had) in
          let now : is_reached_at d (place_of x device) ≡ true =
          sym both.0 ∙ sym (numbered.exact (place_of x device)) ∙ there (get n (place_of x device)) x.number had in
          let has : device_at m (cell_of x) ≡ Some device =
          has_device m renumbered.apart (place_of x device) x.number (stay (place_of x device) x.number now had) in
          seen_at c n x device before ∙ both.1 ∙ sym (seen_at d m x device has)
      by None before (Some device) after =
          let has : get m (place_of x device) ≡ Some x.number = has_number m (cell_of x) device after in
          let had : get n (place_of x device) ≡ Some x.number = came_from device (same device (inr has)).0 has in
          absurd (no (sym before ∙ has_device n numbered.apart (place_of x device) x.number had))
        where
          no : {a : ℕ} → None ≡ Some a → ⊥
          no e = cc
      by None before None after = seen_none c n x before ∙ sym (seen_none d m x after)

-- ---- what is affected is among the candidates

module _ (c d : Configuration) (n m : Numbering) (numbered : AreNumbersOf c n) (renumbered : AreNumbersOf d m)
    (stay : Stay d n m)
    (places : List Place) (seeing : List images.Image) (cells : List NumberCell)
    (affected : AreAllAffected c d places seeing) (looked : AreLookedAt n m places cells) (x : SubId) where
  image_of : images.Image
  image_of = x.image

  -- a device that has the number has a place in the ranges
  in_range : (device : ℕ) → (get n (place_of x device) ≡ Some x.number) ⊎ (get m (place_of x device) ≡ Some x.number)
      → (x.image.css < 6) × (x.set < 4)
  in_range device (inl had) =
      range_of c (place_of x device)
      (sym (numbered.exact (place_of x device)) ∙ there (get n (place_of x device)) x.number had)
  in_range device (inr has) =
      range_of d (place_of x device)
      (sym (renumbered.exact (place_of x device)) ∙ there (get m (place_of x device)) x.number has)

  -- at a number cell that isn't looked at
  off_cell : list_any (eq_by_cmp cell_cmp (cell_of x)) cells ≡ false → view_at c n x ≡ view_at d m x
  unfolding IsSameThere
  off_cell out = seen_same c d n m numbered renumbered stay x same
    where
      off : (device : ℕ) → (get n (place_of x device) ≡ Some x.number) ⊎ (get m (place_of x device) ≡ Some x.number)
          → (b : Bool) → list_any (eq_by_cmp place_cmp (place_of x device)) places ≡ b → b ≡ false
      off device (inl had) true among = sym (looked.before (place_of x device) x.number among had) ∙ out
      off device (inr has) true among = sym (looked.after (place_of x device) x.number among has) ∙ out
      off device either false among = refl

      same : IsSameThere c d n m numbered renumbered stay x
      same device either =
          let range = in_range device either in
          let not_there : list_any (eq_by_cmp place_cmp (place_of x device)) places ≡ false =
          ap (λ b. b) (off device either (list_any (eq_by_cmp place_cmp (place_of x device)) places) refl) in (
            affected.reached (place_of x device) not_there,
            affected.off_places (place_of x device) x.image.mif range.0 not_there,
          )

  -- of an image that isn't looked at
  off_image : list_any (eq_by_cmp image_cmp x.image) seeing ≡ false → view_at c n x ≡ view_at d m x
  unfolding IsSameThere
  off_image out = by (is_some (image_there c x)) refl
    where
      by : (b : Bool) → is_some (image_there c x) ≡ b → view_at c n x ≡ view_at d m x
      by true here = seen_same c d n m numbered renumbered stay x same
        where
          same : IsSameThere c d n m numbered renumbered stay x
          same device either = (
            affected.stays (place_of x device) x.image.mif out here,
            affected.off_images (place_of x device) x.image.mif out,
          )
      by false gone = blind_both (device_at m (cell_of x)) refl
        where
          none_before : (device : ℕ) → sight_at c x.image.mif (place_of x device) ≡ None
          none_before device = blind c x device (absent (image_there c x) gone)

          before : (o : Option ℕ) → device_at n (cell_of x) ≡ o → view_at c n x ≡ None
          before None is = seen_none c n x is
          before (Some device) is = seen_at c n x device is ∙ none_before device

          blind_both : (o : Option ℕ) → device_at m (cell_of x) ≡ o → view_at c n x ≡ view_at d m x
          blind_both None is = before (device_at n (cell_of x)) refl ∙ sym (seen_none d m x is)
          blind_both (Some device) is = before (device_at n (cell_of x)) refl
              ∙ sym (seen_at d m x device is ∙ sym (affected.off_images (place_of x device) x.image.mif out)
              ∙ none_before device)

  pub looked_for : option_eq same_view (view_at c n x) (view_at d m x) ≡ false
      → is_among x (candidates seeing cells) ≡ true
  looked_for differ = by (list_any (eq_by_cmp image_cmp x.image) seeing) refl
      (list_any (eq_by_cmp cell_cmp (cell_of x)) cells) refl
    where
      no : {A : Type 0} → view_at c n x ≡ view_at d m x → A
      no same = absurd (bad (sym differ ∙ sight_holds (view_at c n x) (view_at d m x) same))
        where
          bad : false ≡ true → ⊥
          bad e = cc

      by : (b : Bool) → list_any (eq_by_cmp image_cmp x.image) seeing ≡ b → (t : Bool)
          → list_any (eq_by_cmp cell_cmp (cell_of x)) cells ≡ t
          → is_among x (candidates seeing cells) ≡ true
      by true image true cell = among_candidates x.image (cell_of x) seeing cells refl image cell
      by false image t cell = no (off_image image)
      by true image false cell = no (off_cell cell)
