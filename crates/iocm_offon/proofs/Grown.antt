-- Reasons under the keys of their objects, one more.
use Rattle.std.proofs.Common.{◌≡◌, cond, Bool, true, false, List, [], ◌∷◌, ◌++◌, Some, None, append-nil, append_assoc}
use Rattle.std.proofs.Common.{refl, sym, ap, ◌∙◌}
use Rattle.std.specs.FinMap.{FinMap, get, insert, remove, empty, get-empty, get-insert, get-remove}
use Rattle.std.specs.Ordering.{eq_by_cmp}
use Rattle.iocm_types.specs.Key.{key_cmp}
use Rattle.iocm_types.specs.KeyOrder.{keys_exact, keys_total}
use Rattle.iocm_types.specs.declared.key.Key.{Key}
use Rattle.iocm_types.proofs.Found.{same_key}
use Rattle.iocm_offon.specs.UnderKeys.{group_or_none, is_under, reasons_under}
use Rattle.iocm_offon.specs.declared.reason.Reason.{Reason}

module _ (m : FinMap key_cmp (List Reason)) (r : Reason) where
  abbrev own : List Reason
  own = group_or_none (get m r.object)

  pub grown : (k : Key) → group_or_none (get (insert (remove m r.object) r.object (own ++ r ∷ [])) k)
      ≡ group_or_none (get m k) ++ reasons_under k (r ∷ [])
  grown k = ap group_or_none (get-insert keys_total (remove m r.object) r.object (own ++ r ∷ []) k)
      ∙ by (is_under k r) refl
    where
      by : (b : Bool) → is_under k r ≡ b
          → group_or_none (cond b (Some (own ++ r ∷ [])) (get (remove m r.object) k))
          ≡ group_or_none (get m k) ++ cond b (r ∷ []) []
      by true is = ap (λ q. group_or_none (get m q) ++ r ∷ []) (sym (same_key key_cmp keys_exact k r.object is))
      by false is = ap group_or_none (get-remove keys_total m r.object k ∙ ap (λ b. cond b None (get m k)) is)
          ∙ sym (append-nil (group_or_none (get m k)))

pub none_under : (k : Key) → group_or_none (get (empty {X = List Reason} {R = key_cmp}) k) ≡ []
none_under k = ap group_or_none (get-empty key_cmp k)
