-- Where an image or a device is there before alone, no path stays online.
use Rattle.std.proofs.Common.{◌≡◌, ℕ, nat_lt, ◌&&◌, ◌||◌, Bool, true, false, not, List, [], ◌∷◌, Option, Some, None}
use Rattle.std.proofs.Common.{refl, ap, ◌∙◌}
use Rattle.std.specs.List.{list_any}
use Rattle.iocm_types.specs.declared.view.View.{View}
use Rattle.iocm_plan.specs.Effects.{effect_between, keeps_a_path, stays_on}
use Rattle.iocm_plan.specs.Routes.{has_one_route}
use Rattle.iocm_plan.specs.Seen.{Side, is_on, on, paths_of, view_in}
use Rattle.iocm_plan.specs.declared.effect.Effect.{Effect}

and_false : (a : Bool) → (a && false) ≡ false
and_false true = refl
and_false false = refl

none_fails : {A : Type 0} (test : A → Bool) → ((x : A) → test x ≡ false) → (xs : List A) → list_any test xs ≡ false
none_fails test fails [] = refl
none_fails test fails (x ∷ xs) = ap (λ b. b || list_any test xs) (fails x) ∙ none_fails test fails xs

-- it can't be online after
none_stays : (s : Side) (p : ℕ) → (stays_on (Some s) None p && not (has_one_route (Some s) None p)) ≡ false
none_stays s p = ap (λ b. b && not (has_one_route (Some s) None p)) (and_false (is_on (Some s) p))

-- what is seen before alone
abbrev pub seen_before : Option View → Effect
seen_before v = record { before = v; after = None; interrupted = false; offon = false }

pub alone_before : (s : Side) → effect_between (Some s) None ≡ seen_before (view_in s)
alone_before s = λ i. record {
  before = view_in s;
  after = None;
  interrupted = and_false (nat_lt 0 (on (view_in s))) i && not (keeps_a_path (Some s) None);
  offon = none_fails (λ p. stays_on (Some s) None p && not (has_one_route (Some s) None p)) (none_stays s)
      (paths_of (view_in s)) i;
}
