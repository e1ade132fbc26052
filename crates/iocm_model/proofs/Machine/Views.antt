-- The list of views: it rises, and has at each subchannel its view.
use Rattle.std.proofs.Common.{◌≡◌, ℕ, Bool, true, false, cond, ◌&&◌, nat_eq, eqb-true, List, [], ◌∷◌, ◌++◌, Option}
use Rattle.std.proofs.Common.{Some, None, T, refl, sym, ap, subst, ◌∙◌}
use Rattle.std.proofs.lemmas.Bool.{eqb-false}
use Rattle.std.specs.List.{filter, filter_map, flat_map, cons_option}
use Rattle.std.specs.Option.{option_map, option_and_then, option_or}
use Rattle.std.specs.Ordering.{nat_cmp, is_eq, is_lt, eq_by_cmp, ordering_then}
use Rattle.std.specs.declared.cmp.Ordering.{Ordering}
use Rattle.std.specs.declared.cmp.Ordering.TheVariants.{Less, Equal, Greater}
use Rattle.std.specs.Cmp.{Equal-is, nat_cmp_total, tied_itself}
use Rattle.std.specs.FinMap.{find, entries, entries_sorted, is_sorted, get-entries}
use Rattle.std.specs.FinMap.Entries.{below_all}
use Rattle.iocm_types.specs.declared.key.Key.{Key}
use Rattle.iocm_types.specs.declared.key.Key.TheVariants.{Image}
use Rattle.iocm_types.specs.declared.place.NumberCell.{NumberCell}
use Rattle.iocm_types.specs.declared.sub_id.SubId.{SubId}
use Rattle.iocm_types.specs.declared.image.Image as images
use Rattle.iocm_types.specs.declared.view.View.{View}
use Rattle.iocm_types.specs.Key.{key_cmp}
use Rattle.iocm_types.specs.Place.{cell_cmp}
use Rattle.iocm_types.specs.SubId.{sub_id_cmp, image_cmp}
use Rattle.iocm_types.specs.KeyOrder.{keys_total, keys_exact, cells_exact, sub_ids_exact}
use Rattle.iocm_types.proofs.Parts.{or_none, untied, find_append}
use Rattle.iocm_types.proofs.Tests.{first_holds, second_holds, both_hold}
use Rattle.iocm_types.proofs.Orderings.{ties}
use Rattle.iocm_types.proofs.Entries.{not_found, below_rest}
use Rattle.iocm_model.specs.Machine.Record.{Rec, ImageRecord, key_of, id, resource, image, limit, path, unit, device}
use Rattle.iocm_model.specs.Machine.Record.{online}
use Rattle.iocm_model.specs.Machine.Configuration.{Configuration, Lookup, lookup_of, IsKeyed, with_keys, records_of}
use Rattle.iocm_model.specs.Machine.Configuration.{as_image}
use Rattle.iocm_model.specs.Machine.Numbering.{Numbering, cells_of}
use Rattle.iocm_model.specs.Machine.View.{image_view, row_at, views, IsListOfViews}

less_after : (r q s : Ordering) → r ≡ Equal → s ≡ Equal → T (is_lt (ordering_then r q)) → T (is_lt (ordering_then s q))
less_after r q s a b h =
    subst (λ t. T (is_lt (ordering_then t q))) (sym b) (subst (λ t. T (is_lt (ordering_then t q))) a h)

ties_after : (r q s : Ordering) → r ≡ Equal → s ≡ Equal → is_eq (ordering_then r q) ≡ is_eq (ordering_then s q)
ties_after r q s a b = ap (λ t. is_eq (ordering_then t q)) (a ∙ sym b)

less_first : (r q : Ordering) → T (is_lt r) → T (is_lt (ordering_then r q))
less_first Less q h = tt
less_first Equal q h = absurd h
less_first Greater q h = absurd h

less_pair : (r q : Ordering) → T (is_lt (ordering_then r (ordering_then q Equal))) → T (is_lt (ordering_then r q))
less_pair Less q h = tt
less_pair Equal Less h = tt
less_pair Equal Equal h = absurd h
less_pair Equal Greater h = absurd h
less_pair Greater q h = absurd h

module _ (c : Lookup) where
  -- ---- the rows of one image

  abbrev whose : ImageRecord → images.Image
  whose i = record { css = i.css; mif = i.mif }

  abbrev sub : ImageRecord → NumberCell → SubId
  sub i a = record { image = whose i; set = a.set; number = a.number }

  abbrev rows : ImageRecord → List (NumberCell × ℕ) → List (SubId × View)
  rows i es = filter_map (row_at c i) (filter (λ (e : NumberCell × ℕ). nat_eq e.0.css i.css) es)

  image_tie : (m : images.Image) → image_cmp m m ≡ Equal
  image_tie m = ap (λ r. ordering_then r (nat_cmp m.mif m.mif)) (tied_itself nat_cmp_total m.css)
      ∙ tied_itself nat_cmp_total m.mif

  below_row : (x : SubId) (k : SubId) (o : Option View) (rest : List (SubId × View)) → T (is_lt (sub_id_cmp x k))
      → T (below_all sub_id_cmp x rest)
      → T (below_all sub_id_cmp x (cons_option (option_map (λ (v : View). (k, v)) o) rest))
  below_row x k None rest h below = below
  below_row x k (Some v) rest h below = both_hold _ _ h below

  below_by : (i : ImageRecord) (x : SubId) (e : NumberCell × ℕ) (es : List (NumberCell × ℕ)) (b : Bool)
      → (b ≡ true → T (is_lt (sub_id_cmp x (sub i e.0))))
      → T (below_all sub_id_cmp x (filter_map (row_at c i) es))
      → T (below_all sub_id_cmp x (filter_map (row_at c i) (cond b (e ∷ es) es)))
  below_by i x e es true less below =
      below_row x (sub i e.0) (image_view c i e.0.set e.1) (filter_map (row_at c i) es) (less refl) below
  below_by i x e es false less below = below

  -- a cell of the image's channel subsystem that is below others there
  rows_below : (i : ImageRecord) (a : NumberCell) (es : List (NumberCell × ℕ)) → a.css ≡ i.css
      → T (below_all cell_cmp a es) → T (below_all sub_id_cmp (sub i a) (rows i es))
  rows_below i a [] own below = tt
  rows_below i a (e ∷ es) own below =
      below_by i (sub i a) e (filter (λ (f : NumberCell × ℕ). nat_eq f.0.css i.css) es) (nat_eq e.0.css i.css)
      (λ its. less_after (nat_cmp a.css e.0.css) (ordering_then (nat_cmp a.set e.0.set) (nat_cmp a.number e.0.number))
      (image_cmp (whose i) (whose i))
      (ties a.css e.0.css (own ∙ sym (eqb-true e.0.css i.css its))) (image_tie (whose i)) (first_holds _ _ below))
      (rows_below i a es own (second_holds _ _ below))

  -- ---- rows of images, one behind the other

  -- the image is below those of all rows
  abbrev above_all : images.Image → List (SubId × View) → Bool
  above_all m [] = true
  above_all m (e ∷ es) = is_lt (image_cmp m e.0.image) && above_all m es

  above_append : (m : images.Image) (xs ys : List (SubId × View)) → T (above_all m xs) → T (above_all m ys)
      → T (above_all m (xs ++ ys))
  above_append m [] ys h k = k
  above_append m (x ∷ xs) ys h k = both_hold _ _ (first_holds _ _ h) (above_append m xs ys (second_holds _ _ h) k)

  below_append : (x : SubId) (xs ys : List (SubId × View)) → T (below_all sub_id_cmp x xs)
      → T (below_all sub_id_cmp x ys) → T (below_all sub_id_cmp x (xs ++ ys))
  below_append x [] ys h k = k
  below_append x (e ∷ xs) ys h k = both_hold _ _ (first_holds _ _ h) (below_append x xs ys (second_holds _ _ h) k)

  above_below : (x : SubId) (ys : List (SubId × View)) → T (above_all x.image ys) → T (below_all sub_id_cmp x ys)
  above_below x [] h = tt
  above_below x (e ∷ ys) h =
      both_hold _ _ (less_first (image_cmp x.image e.0.image) _ (first_holds _ _ h))
      (above_below x ys (second_holds _ _ h))

  above_row : (m : images.Image) (k : SubId) (o : Option View) (rest : List (SubId × View))
      → T (is_lt (image_cmp m k.image)) → T (above_all m rest)
      → T (above_all m (cons_option (option_map (λ (v : View). (k, v)) o) rest))
  above_row m k None rest h above = above
  above_row m k (Some v) rest h above = both_hold _ _ h above

  above_by : (m : images.Image) (i : ImageRecord) (e : NumberCell × ℕ) (es : List (NumberCell × ℕ)) (b : Bool)
      → T (is_lt (image_cmp m (whose i)))
      → T (above_all m (filter_map (row_at c i) es)) → T (above_all m (filter_map (row_at c i) (cond b (e ∷ es) es)))
  above_by m i e es true less above =
      above_row m (sub i e.0) (image_view c i e.0.set e.1) (filter_map (row_at c i) es) less above
  above_by m i e es false less above = above

  above_rows : (m : images.Image) (i : ImageRecord) (es : List (NumberCell × ℕ)) → T (is_lt (image_cmp m (whose i)))
      → T (above_all m (rows i es))
  above_rows m i [] less = tt
  above_rows m i (e ∷ es) less =
      above_by m i e (filter (λ (f : NumberCell × ℕ). nat_eq f.0.css i.css) es) (nat_eq e.0.css i.css) less
      (above_rows m i es less)

  rise_row : (k : SubId) (o : Option View) (rest ys : List (SubId × View)) → T (below_all sub_id_cmp k (rest ++ ys))
      → T (is_sorted sub_id_cmp (rest ++ ys))
      → T (is_sorted sub_id_cmp (cons_option (option_map (λ (v : View). (k, v)) o) rest ++ ys))
  rise_row k None rest ys below up = up
  rise_row k (Some v) rest ys below up = both_hold _ _ below up

  rise_by : (i : ImageRecord) (e : NumberCell × ℕ) (es : List (NumberCell × ℕ)) (ys : List (SubId × View)) (b : Bool)
      → (b ≡ true → T (below_all sub_id_cmp (sub i e.0) (filter_map (row_at c i) es ++ ys)))
      → T (is_sorted sub_id_cmp (filter_map (row_at c i) es ++ ys))
      → T (is_sorted sub_id_cmp (filter_map (row_at c i) (cond b (e ∷ es) es) ++ ys))
  rise_by i e es ys true below up =
      rise_row (sub i e.0) (image_view c i e.0.set e.1) (filter_map (row_at c i) es) ys (below refl) up
  rise_by i e es ys false below up = up

  rows_rise : (i : ImageRecord) (es : List (NumberCell × ℕ)) (ys : List (SubId × View)) → T (is_sorted cell_cmp es)
      → T (is_sorted sub_id_cmp ys) → T (above_all (whose i) ys)
      → T (is_sorted sub_id_cmp (rows i es ++ ys))
  rows_rise i [] ys up rise above = rise
  rows_rise i (e ∷ es) ys up rise above =
      rise_by i e (filter (λ (f : NumberCell × ℕ). nat_eq f.0.css i.css) es) ys (nat_eq e.0.css i.css)
      (λ its. below_append (sub i e.0) (rows i es) ys
      (rows_below i e.0 es (eqb-true e.0.css i.css its) (first_holds _ _ up)) (above_below (sub i e.0) ys above))
      (rows_rise i es ys (second_holds _ _ up) rise above)

  abbrev table : List (NumberCell × ℕ) → List Rec → List (SubId × View)
  table es rs = flat_map (λ i. rows i es) (filter_map as_image rs)

  above_table : (m : images.Image) (es : List (NumberCell × ℕ)) (rs : List Rec)
      → T (below_all key_cmp (Image m.css m.mif) (with_keys rs)) → T (above_all m (table es rs))
  above_table m es [] below = tt
  above_table m es (image i ∷ rs) below =
      above_append m (rows i es) (table es rs)
      (above_rows m i es (less_pair (nat_cmp m.css i.css) (nat_cmp m.mif i.mif) (first_holds _ _ below)))
      (above_table m es rs (second_holds _ _ below))
  above_table m es (id y ∷ rs) below =
      above_table m es rs (below_rest key_cmp (Image m.css m.mif) (key_of (id y), id y) (with_keys rs) below)
  above_table m es (resource y ∷ rs) below =
      above_table m es rs (below_rest key_cmp (Image m.css m.mif) (key_of (resource y), resource y) (with_keys rs)
      below)
  above_table m es (limit y ∷ rs) below =
      above_table m es rs (below_rest key_cmp (Image m.css m.mif) (key_of (limit y), limit y) (with_keys rs) below)
  above_table m es (path y ∷ rs) below =
      above_table m es rs (below_rest key_cmp (Image m.css m.mif) (key_of (path y), path y) (with_keys rs) below)
  above_table m es (unit y ∷ rs) below =
      above_table m es rs (below_rest key_cmp (Image m.css m.mif) (key_of (unit y), unit y) (with_keys rs) below)
  above_table m es (device y ∷ rs) below =
      above_table m es rs (below_rest key_cmp (Image m.css m.mif) (key_of (device y), device y) (with_keys rs) below)
  above_table m es (online y ∷ rs) below =
      above_table m es rs (below_rest key_cmp (Image m.css m.mif) (key_of (online y), online y) (with_keys rs) below)

  pub table_rises : (es : List (NumberCell × ℕ)) (rs : List Rec) → T (is_sorted cell_cmp es)
      → T (is_sorted key_cmp (with_keys rs)) → T (is_sorted sub_id_cmp (table es rs))
  table_rises es [] up rise = tt
  table_rises es (image i ∷ rs) up rise =
      rows_rise i es (table es rs) up (table_rises es rs up (second_holds _ _ rise))
      (above_table (whose i) es rs (first_holds _ _ rise))
  table_rises es (id y ∷ rs) up rise = table_rises es rs up (second_holds _ _ rise)
  table_rises es (resource y ∷ rs) up rise = table_rises es rs up (second_holds _ _ rise)
  table_rises es (limit y ∷ rs) up rise = table_rises es rs up (second_holds _ _ rise)
  table_rises es (path y ∷ rs) up rise = table_rises es rs up (second_holds _ _ rise)
  table_rises es (unit y ∷ rs) up rise = table_rises es rs up (second_holds _ _ rise)
  table_rises es (device y ∷ rs) up rise = table_rises es rs up (second_holds _ _ rise)
  table_rises es (online y ∷ rs) up rise = table_rises es rs up (second_holds _ _ rise)

  -- ---- what is found there

  same : {A : Type 0} (b : Bool) (x : A) → cond b x x ≡ x
  same true x = refl
  same false x = refl

  find_row : (s k : SubId) (o : Option View) (rest : List (SubId × View))
      → find sub_id_cmp s (cons_option (option_map (λ (v : View). (k, v)) o) rest)
      ≡ cond (eq_by_cmp sub_id_cmp s k) (option_or o (find sub_id_cmp s rest)) (find sub_id_cmp s rest)
  find_row s k None rest = sym (same (eq_by_cmp sub_id_cmp s k) (find sub_id_cmp s rest))
  find_row s k (Some v) rest = refl

  seen_by : (t : Bool) (o r : Option View) (g : ℕ → Option View) (x : ℕ) (f : Option ℕ) → r ≡ option_and_then g f
      → (t ≡ true → g x ≡ o) → (t ≡ true → f ≡ None)
      → cond t (option_or o r) r ≡ option_and_then g (cond t (Some x) f)
  seen_by true o r g x f is here none =
      ap (option_or o) (is ∙ ap (option_and_then g) (none refl)) ∙ or_none o ∙ sym (here refl)
  seen_by false o r g x f is here none = is

  found_by : (i : ImageRecord) (set number : ℕ) (e : NumberCell × ℕ) (es : List (NumberCell × ℕ))
      (fs : List (NumberCell × ℕ)) (b : Bool) → nat_eq e.0.css i.css ≡ b
      → T (below_all cell_cmp e.0 es)
      → find sub_id_cmp (sub i (record { css = i.css; set = set; number = number })) (filter_map (row_at c i) fs)
      ≡ option_and_then (image_view c i set) (find cell_cmp (record { css = i.css; set = set; number = number }) es)
      → find sub_id_cmp (sub i (record { css = i.css; set = set; number = number }))
      (filter_map (row_at c i) (cond b (e ∷ fs) fs))
      ≡ option_and_then (image_view c i set)
      (find cell_cmp (record { css = i.css; set = set; number = number }) (e ∷ es))
  found_by i set number e es fs true its below more =
      let q : NumberCell = record { css = i.css; set = set; number = number } in
      let ties : eq_by_cmp sub_id_cmp (sub i q) (sub i e.0) ≡ eq_by_cmp cell_cmp q e.0 =
      ties_after (image_cmp (whose i) (whose i)) (ordering_then (nat_cmp set e.0.set) (nat_cmp number e.0.number))
      (nat_cmp i.css e.0.css)
      (image_tie (whose i)) (ties i.css e.0.css (sym (eqb-true e.0.css i.css its))) in
      find_row (sub i q) (sub i e.0) (image_view c i e.0.set e.1) (filter_map (row_at c i) fs)
      ∙ ap (λ t. cond t (option_or (image_view c i e.0.set e.1)
      (find sub_id_cmp (sub i q) (filter_map (row_at c i) fs)))
      (find sub_id_cmp (sub i q) (filter_map (row_at c i) fs))) ties
      ∙ seen_by (eq_by_cmp cell_cmp q e.0) (image_view c i e.0.set e.1)
      (find sub_id_cmp (sub i q) (filter_map (row_at c i) fs)) (image_view c i set) e.1 (find cell_cmp q es) more
      (λ t. ap (λ (a : NumberCell). image_view c i a.set e.1) (cells_exact q e.0 ((Equal-is _).0 t)))
      (λ t. ap (λ (a : NumberCell). find cell_cmp a es) (cells_exact q e.0 ((Equal-is _).0 t))
      ∙ not_found cell_cmp e.0 es below)
  found_by i set number e es fs false other below more =
      let q : NumberCell = record { css = i.css; set = set; number = number } in
      let apart : eq_by_cmp cell_cmp q e.0 ≡ false =
      untied cell_cmp cells_exact q e.0
      (λ is. eqb-false e.0.css i.css other (sym (ap (λ (a : NumberCell). a.css) is))) in
      more ∙ ap (λ t. option_and_then (image_view c i set) (cond t (Some e.1) (find cell_cmp q es))) (sym apart)

  -- at a subchannel of the image: the device of its number, as the image sees it
  found_rows : (i : ImageRecord) (set number : ℕ) (es : List (NumberCell × ℕ)) → T (is_sorted cell_cmp es)
      → find sub_id_cmp (sub i (record { css = i.css; set = set; number = number })) (rows i es)
      ≡ option_and_then (image_view c i set) (find cell_cmp (record { css = i.css; set = set; number = number }) es)
  found_rows i set number [] up = refl
  found_rows i set number (e ∷ es) up =
      found_by i set number e es (filter (λ (f : NumberCell × ℕ). nat_eq f.0.css i.css) es) (nat_eq e.0.css i.css) refl
      (first_holds _ _ up) (found_rows i set number es (second_holds _ _ up))

  no_by : (i : ImageRecord) (s : SubId) (e : NumberCell × ℕ) (fs : List (NumberCell × ℕ)) (b : Bool)
      → (s.image ≡ whose i → ⊥)
      → find sub_id_cmp s (filter_map (row_at c i) fs) ≡ None
      → find sub_id_cmp s (filter_map (row_at c i) (cond b (e ∷ fs) fs)) ≡ None
  no_by i s e fs true other none =
      let apart : eq_by_cmp sub_id_cmp s (sub i e.0) ≡ false =
      untied sub_id_cmp sub_ids_exact s (sub i e.0) (λ is. other (ap (λ (t : SubId). t.image) is)) in
      find_row s (sub i e.0) (image_view c i e.0.set e.1) (filter_map (row_at c i) fs)
      ∙ ap (λ t. cond t (option_or (image_view c i e.0.set e.1) (find sub_id_cmp s (filter_map (row_at c i) fs)))
      (find sub_id_cmp s (filter_map (row_at c i) fs))) apart ∙ none
  no_by i s e fs false other none = none

  -- no row of the image is another image's
  no_rows : (i : ImageRecord) (s : SubId) (es : List (NumberCell × ℕ)) → (s.image ≡ whose i → ⊥)
      → find sub_id_cmp s (rows i es) ≡ None
  no_rows i s [] other = refl
  no_rows i s (e ∷ es) other =
      no_by i s e (filter (λ (f : NumberCell × ℕ). nat_eq f.0.css i.css) es) (nat_eq e.0.css i.css) other
      (no_rows i s es other)

  abbrev cell : SubId → NumberCell
  cell s = record { css = s.image.css; set = s.set; number = s.number }

  -- what the image of a record sees there
  abbrev seen : List (NumberCell × ℕ) → SubId → Option Rec → Option View
  seen es s r = option_and_then
      (λ (i : ImageRecord). option_and_then (image_view c i s.set) (find cell_cmp (cell s) es))
      (option_and_then as_image r)

  image_by : (es : List (NumberCell × ℕ)) (s : SubId) (i : ImageRecord) (rs : List Rec) (b : Bool)
      → eq_by_cmp key_cmp (Image s.image.css s.image.mif) (Image i.css i.mif) ≡ b
      → T (is_sorted cell_cmp es) → T (below_all key_cmp (Image i.css i.mif) (with_keys rs))
      → find sub_id_cmp s (table es rs) ≡ seen es s (find key_cmp (Image s.image.css s.image.mif) (with_keys rs))
      → option_or (find sub_id_cmp s (rows i es)) (find sub_id_cmp s (table es rs))
      ≡ seen es s (cond b (Some (image i)) (find key_cmp (Image s.image.css s.image.mif) (with_keys rs)))
  image_by es s i rs true e up below more =
      let keys : Image s.image.css s.image.mif ≡ Image i.css i.mif = keys_exact _ _ ((Equal-is _).0 e) in
      let css : s.image.css ≡ i.css = cc in
      let mif : s.image.mif ≡ i.mif = cc in
      let at : s ≡ sub i (record { css = i.css; set = s.set; number = s.number }) =
      λ j. record { image = record { css = css j; mif = mif j }; set = s.set; number = s.number } in
      let none : find sub_id_cmp s (table es rs) ≡ None =
      more ∙ ap (seen es s) (ap (λ (q : Key). find key_cmp q (with_keys rs)) keys
      ∙ not_found key_cmp (Image i.css i.mif) (with_keys rs) below) in
      ap (option_or (find sub_id_cmp s (rows i es))) none ∙ or_none (find sub_id_cmp s (rows i es))
      ∙ ap (λ (t : SubId). find sub_id_cmp t (rows i es)) at ∙ found_rows i s.set s.number es up
      ∙ ap (λ k. option_and_then (image_view c i s.set)
      (find cell_cmp (record { css = k; set = s.set; number = s.number }) es)) (sym css)
  image_by es s i rs false e up below more =
      ap (λ a. option_or a (find sub_id_cmp s (table es rs))) (no_rows i s es (λ is.
      let tie : eq_by_cmp key_cmp (Image s.image.css s.image.mif) (Image i.css i.mif) ≡ true =
      ap (λ (m : images.Image). eq_by_cmp key_cmp (Image m.css m.mif) (Image i.css i.mif)) is
      ∙ ap is_eq (tied_itself keys_total (Image i.css i.mif)) in
      let no : true ≡ false = sym tie ∙ e in cc))
      ∙ more

  pub table_found : (es : List (NumberCell × ℕ)) (rs : List Rec) (s : SubId) → T (is_sorted cell_cmp es)
      → T (is_sorted key_cmp (with_keys rs))
      → find sub_id_cmp s (table es rs) ≡ seen es s (find key_cmp (Image s.image.css s.image.mif) (with_keys rs))
  table_found es [] s up rise = refl
  table_found es (image i ∷ rs) s up rise =
      find_append sub_id_cmp s (rows i es) (table es rs)
      ∙ image_by es s i rs (eq_by_cmp key_cmp (Image s.image.css s.image.mif) (Image i.css i.mif)) refl up
      (first_holds _ _ rise) (table_found es rs s up (second_holds _ _ rise))
  table_found es (id y ∷ rs) s up rise = table_found es rs s up (second_holds _ _ rise)
  table_found es (resource y ∷ rs) s up rise = table_found es rs s up (second_holds _ _ rise)
  table_found es (limit y ∷ rs) s up rise = table_found es rs s up (second_holds _ _ rise)
  table_found es (path y ∷ rs) s up rise = table_found es rs s up (second_holds _ _ rise)
  table_found es (unit y ∷ rs) s up rise = table_found es rs s up (second_holds _ _ rise)
  table_found es (device y ∷ rs) s up rise = table_found es rs s up (second_holds _ _ rise)
  table_found es (online y ∷ rs) s up rise = table_found es rs s up (second_holds _ _ rise)

-- the list of views rises, and has at each subchannel its view
pub views_listed : (c : Configuration) (n : Numbering) → IsKeyed c → IsListOfViews c n (views c n)
views_listed c n keys =
    let rise = subst (λ (es : List (Key × Rec)). T (is_sorted key_cmp es)) keys (entries_sorted c) in
    record {
      rising = table_rises (lookup_of c) (entries (cells_of n)) (records_of c) (entries_sorted (cells_of n)) rise;
      exact = λ s. table_found (lookup_of c) (entries (cells_of n)) (records_of c) s (entries_sorted (cells_of n)) rise
          ∙ (λ j. option_and_then (λ (i : ImageRecord). option_and_then (image_view (lookup_of c) i s.set)
          (sym (get-entries (cells_of n) (record { css = s.image.css; set = s.set; number = s.number })) j))
          (option_and_then as_image
          ((ap (find key_cmp (Image s.image.css s.image.mif)) (sym keys)
          ∙ sym (get-entries c (Image s.image.css s.image.mif))) j)));
    }
