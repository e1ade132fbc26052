-- Rows that meet live records: what is found in them then, and that they stand in order still.
use Rattle.std.proofs.Common.{◌≡◌, Bool, true, false, cond, ◌&&◌, ◌||◌, List, [], ◌∷◌, map, Option, Some, None, is_some}
use Rattle.std.proofs.Common.{T, refl}
use Rattle.std.proofs.Common.{sym, ap, ◌∙◌}
use Rattle.std.proofs.lemmas.Bool.{or_right, and_parts}
use Rattle.std.specs.Map.{keys_of}
use Rattle.std.specs.Option.{unwrap_or}
use Rattle.std.specs.Ordering.{eq_by_cmp, is_lt}
use Rattle.std.specs.FinMap.{get, find, is_sorted, from_sorted, retain_keys, same_map, get-from_sorted}
use Rattle.std.specs.FinMap.Entries.{below_all}
use Rattle.iocm_types.specs.declared.live.Live.{Live}
use Rattle.iocm_types.specs.declared.sub_id.SubId.{SubId}
use Rattle.iocm_types.specs.SubId.{sub_id_cmp}
use Rattle.iocm_types.specs.KeyOrder.{sub_ids_total, sub_ids_exact}
use Rattle.iocm_types.proofs.Found.{same_key}
use Rattle.iocm_types.proofs.Tests.{first_holds, second_holds, both_hold}
use Rattle.iocm_model.specs.Operation.State.{Lives, is_among}
use Rattle.iocm_model.proofs.Maps.Cells.{get_retained}
use Rattle.iocm_seats.specs.Exchange.{met}

module _ (lives : Lives) where
  -- a row among rows with their live records
  found_by : (row : SubId × Live) (rest : Option Live) (x : SubId) (b among : Bool) → eq_by_cmp sub_id_cmp x row.0 ≡ b
      → (b ≡ true → is_some (get lives x) ≡ true)
      → rest ≡ cond among (get lives x) None
      → cond b (Some (unwrap_or (get lives row.0) row.1)) rest ≡ cond (b || among) (get lives x) None
  found_by row rest x true among tied has more =
      ap (λ z. Some (unwrap_or (get lives z) row.1)) (sym (same_key sub_id_cmp sub_ids_exact x row.0 tied))
      ∙ back (get lives x) (has refl)
    where
      back : (o : Option Live) → is_some o ≡ true → Some (unwrap_or o row.1) ≡ o
      back None h = cc
      back (Some l) h = refl
  found_by row rest x false among tied has more = more

  -- at one of them its live record is found, elsewhere none
  found_met : (rows : List (SubId × Live)) (x : SubId)
      → (is_among x (keys_of rows) ≡ true → is_some (get lives x) ≡ true)
      → find sub_id_cmp x (map (met lives) rows) ≡ cond (is_among x (keys_of rows)) (get lives x) None
  found_met [] x has = refl
  found_met (row ∷ rows) x has = found_by row (find sub_id_cmp x (map (met lives) rows)) x
      (eq_by_cmp sub_id_cmp x row.0) (is_among x (keys_of rows)) refl
      (λ tied. has (ap (λ b. b || is_among x (keys_of rows)) tied))
      (found_met rows x (λ h. has (or_right (eq_by_cmp sub_id_cmp x row.0) (is_among x (keys_of rows)) h)))

  -- what stands before rows stands before them with their live records
  below_met : (k : SubId) (rows : List (SubId × Live)) → T (below_all sub_id_cmp k rows)
      → T (below_all sub_id_cmp k (map (met lives) rows))
  below_met k [] below = tt
  below_met k (row ∷ rows) below =
      both_hold (is_lt (sub_id_cmp k row.0)) (below_all sub_id_cmp k (map (met lives) rows)) (first_holds _ _ below)
      (below_met k rows (second_holds _ _ below))

  -- rows stand in order with their live records too
  pub met_sorted : (rows : List (SubId × Live)) → T (is_sorted sub_id_cmp rows)
      → T (is_sorted sub_id_cmp (map (met lives) rows))
  met_sorted [] up = tt
  met_sorted (row ∷ rows) up =
      both_hold (below_all sub_id_cmp row.0 (map (met lives) rows)) (is_sorted sub_id_cmp (map (met lives) rows))
      (below_met row.0 rows (first_holds _ _ up))
      (met_sorted rows (second_holds _ _ up))

  -- a live record, if it is there, is itself
  own_by : (o : Option Live) → cond (is_some o) o None ≡ o
  own_by None = refl
  own_by (Some l) = refl

  -- where none is there, none is kept
  kept_by : (altered there : Bool) (o : Option Live) → is_some o ≡ there
      → cond (altered && there) o None ≡ cond altered o None
  kept_by true there o is = ap (λ b. cond b o None) (sym is) ∙ own_by o
  kept_by false there o is = refl

  -- the live records of those that are altered and there are those that a test keeps
  pub met_are_retained : (rows : List (SubId × Live)) (test there : SubId → Bool) → T (is_sorted sub_id_cmp rows)
      → ((x : SubId) → is_among x (keys_of rows) ≡ (test x && there x))
      → ((x : SubId) → is_some (get lives x) ≡ there x)
      → from_sorted (map (met lives) rows) ≡ retain_keys lives test
  met_are_retained rows test there up exactly lived = same_map sub_ids_total sub_ids_exact _ _ (λ x.
      get-from_sorted sub_id_cmp (map (met lives) rows) x (met_sorted rows up)
      ∙ found_met rows x (λ h. lived x ∙ (and_parts (test x) (there x) (sym (exactly x) ∙ h)).1)
      ∙ ap (λ b. cond b (get lives x) None) (exactly x) ∙ kept_by (test x) (there x) (get lives x) (lived x)
      ∙ sym (get_retained sub_ids_total sub_ids_exact lives test x))
