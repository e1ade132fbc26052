-- Of a configuration and itself nothing is told.
use Rattle.std.proofs.Common.{◌≡◌, ℕ, ◌+◌, ◌/◌, nat_eq, nat_lt, ◌==◌, ◌&&◌, ◌||◌, Bool, true, false, not, cond}
use Rattle.std.proofs.Common.{is_some, count_ones, List, [], ◌∷◌, Option, Some, None, refl, sym, ap, ◌∙◌, arith}
use Rattle.std.specs.List.{list_any}
use Rattle.std.specs.FinMap.{get}
use Rattle.std.specs.Cmp.Derive.{both_true}
use Rattle.std.proofs.lemmas.Bool.{and_parts, false≢true}
use Rattle.std.proofs.lemmas.Bool.Decides.{nat_tests}
use Rattle.iocm_types.specs.declared.view.View.{View}
use Rattle.iocm_model.specs.Machine.Mask.{is_online, mask_from}
use Rattle.iocm_model.specs.Machine.Record.{Rec}
use Rattle.iocm_model.specs.Machine.Sight.{sees}
use Rattle.iocm_model.specs.Machine.View.{view_of}
use Rattle.iocm_model.proofs.Change.SameViews.{own_sight}
use Rattle.iocm_difference.specs.Same.{same_record}
use Rattle.iocm_difference.proofs.SameRecords.{own_names, own_number, own_option, own_record}
use Rattle.iocm_plan.specs.Effects.{changed, gone, interrupted, keeps_a_path, offon, stays_on}
use Rattle.iocm_plan.specs.Laws.{NoObjectDiffers, PlanOfItself}
use Rattle.iocm_plan.specs.Objects.{is_of_object, online_at}
use Rattle.iocm_plan.specs.Routes.{has_one_route}
use Rattle.iocm_plan.specs.Seen.{Side, is_on, on, paths_of, seen, view_in}
use Rattle.iocm_plan.proofs.Lists.{any_passes, passes_near}
use Rattle.iocm_plan.proofs.OwnRoute.{own_route}

-- ---- what is seen

own_gone : (v : Option View) → gone v v ≡ false
own_gone None = refl
own_gone (Some v) = refl

own_changed : (v : Option View) → changed v v ≡ false
own_changed None = refl
own_changed (Some v) = ap not (own_sight (Some v))

no_number : (n : ℕ) → (nat_lt 0 n && (n == 0)) ≡ false
no_number n = grind (arith, nat_tests)

not_fewer : (n : ℕ) → (nat_lt 1 n && (n == 1)) ≡ false
not_fewer n = grind (arith, nat_tests)

-- ---- routes

and_false : (a : Bool) → (a && false) ≡ false
and_false true = refl
and_false false = refl

none_fails : {A : Type 0} (test : A → Bool) → ((x : A) → test x ≡ false) → (xs : List A) → list_any test xs ≡ false
none_fails test fails [] = refl
none_fails test fails (x ∷ xs) = ap (λ b. b || list_any test xs) (fails x) ∙ none_fails test fails xs

one_route : (s : Side) (p : ℕ) → has_one_route (Some s) (Some s) p ≡ true
one_route s p = own_route s p

own_offon : (s : Option Side) → offon s s ≡ false
own_offon None = refl
own_offon (Some s) = none_fails (λ p. stays_on (Some s) (Some s) p && not (has_one_route (Some s) (Some s) p))
    (λ p. ap (λ b. stays_on (Some s) (Some s) p && not b) (one_route s p) ∙ and_false (stays_on (Some s) (Some s) p))
    (paths_of (view_in s))

-- ---- where no path is online, none is in the mask

no_mask : (test : ℕ → Bool) (bit : ℕ) (ps : List ℕ) → list_any test ps ≡ false → mask_from bit test ps ≡ 0
no_mask test bit [] h = refl
no_mask test bit (p ∷ ps) h = by (test p) (no_mask test (bit / 2) ps) h
  where
    by : (b : Bool) → (list_any test ps ≡ false → mask_from (bit / 2) test ps ≡ 0)
        → (b || list_any test ps) ≡ false → (cond b bit 0 + mask_from (bit / 2) test ps) ≡ 0
    by true none bad = absurd (false≢true (sym bad))
    by false none rest = ap (λ n. 0 + n) (none rest)

-- a path that is online stays so by one route
module _ (s : Side) where
  abbrev is_online_here : ℕ → Bool
  is_online_here = is_online s.records s.image.css s.image.name

  twice : (b : Bool) → b ≡ true → (b && b) ≡ true
  twice b h = both_true h h

  on_here : (p : ℕ) → (is_online_here p && list_any (nat_eq p) (paths_of (view_in s))) ≡ true
      → is_on (Some s) p ≡ true
  on_here p h = let q = and_parts (is_online_here p) (list_any (nat_eq p) (paths_of (view_in s))) h in both_true q.1 q.0

  kept : (p : ℕ) → (is_online_here p && list_any (nat_eq p) (paths_of (view_in s))) ≡ true
      → (stays_on (Some s) (Some s) p && has_one_route (Some s) (Some s) p) ≡ true
  kept p h = both_true (twice (is_on (Some s) p) (on_here p h)) (one_route s p)

  keeps : list_any is_online_here (paths_of (view_in s)) ≡ true → keeps_a_path (Some s) (Some s) ≡ true
  keeps h = any_passes (λ p. is_online_here p && list_any (nat_eq p) (paths_of (view_in s)))
      (λ p. stays_on (Some s) (Some s) p && has_one_route (Some s) (Some s) p) kept (paths_of (view_in s))
      (passes_near nat_eq own_number is_online_here (paths_of (view_in s)) h)

  -- no path is online in what is seen
  none_on_if : (is_seen : Bool) (v : View) → v.pam ≡ mask_from 128 is_online_here v.paths
      → list_any is_online_here (paths_of (cond is_seen (Some v) None)) ≡ false → on (cond is_seen (Some v) None) ≡ 0
  unfolding lib.Count.ones
  none_on_if true v mask none = ap count_ones (mask ∙ no_mask is_online_here 128 v.paths none)
  none_on_if false v mask none = refl

  none_on : list_any is_online_here (paths_of (view_in s)) ≡ false → on (view_in s) ≡ 0
  none_on none = none_on_if (sees s.records s.image.css s.image.name s.device)
      (view_of s.records s.image.css s.image.name s.device) refl none

  own_interrupted_by : (any : Bool) → list_any is_online_here (paths_of (view_in s)) ≡ any
      → interrupted (Some s) (Some s) ≡ false
  own_interrupted_by true is = ap (λ k. nat_lt 0 (on (view_in s)) && nat_lt 0 (on (view_in s)) && not k) (keeps is)
      ∙ and_false (nat_lt 0 (on (view_in s)) && nat_lt 0 (on (view_in s)))
  own_interrupted_by false is = ap (λ n. nat_lt 0 n && nat_lt 0 n && not (keeps_a_path (Some s) (Some s)))
      (none_on is)

own_interrupted : (s : Option Side) → interrupted s s ≡ false
own_interrupted None = refl
own_interrupted (Some s) = own_interrupted_by s _ refl

pub told_of_itself : PlanOfItself
told_of_itself s = record {
  not_gone = own_gone (seen s);
  not_come = own_gone (seen s);
  not_changed = own_changed (seen s);
  not_lost = no_number (on (seen s));
  not_one_path = not_fewer (on (seen s));
  not_off_and_on = own_offon s;
  not_interrupted = own_interrupted s;
  not_affected = (λ i. (not (own_sight (seen s) i) || own_interrupted s i) || own_offon s i);
}

-- ---- objects

own_added : (a : Bool) (r : Option Rec) → (a && not (is_some r) && is_some r) ≡ false
own_added true None = refl
own_added true (Some r) = refl
own_added false r = refl

pub no_object_of_itself : NoObjectDiffers
no_object_of_itself c key = record {
  not_added = own_added (is_of_object key) (get c key);
  not_deleted = own_added (is_of_object key) (get c key);
  not_changed = ap (λ b. is_of_object key && is_some (get c key) && is_some (get c key) && not b)
      (both_true (own_option same_record own_record (get c key)) (own_names (online_at c key)))
      ∙ and_false (is_of_object key && is_some (get c key) && is_some (get c key));
}
