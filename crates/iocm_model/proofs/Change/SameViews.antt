-- Views that are one by the test are equal, and the other way round.
use Rattle.std.proofs.Common.{◌≡◌, Bool, true, false, eqb-true, eq-eqb, Option, Some, None, refl, sym, ap, ◌∙◌}
use Rattle.std.specs.Option.{option_eq}
use Rattle.std.specs.Cmp.Lexicographic.{same_text}
use Rattle.std.proofs.lemmas.Bool.{and_parts}
use Rattle.std.specs.Cmp.Derive.{both_true}
use Rattle.std.proofs.lemmas.Cmp.{nat_list_eq_equiv}
use Rattle.iocm_types.specs.declared.view.View.{View}
use Rattle.iocm_model.specs.Change.Edit.{same_view}

view_is : (a b : View) → same_view a b ≡ true → a ≡ b
view_is a b h =
    let p = and_parts _ _ h in let q = and_parts _ _ p.0 in let r = and_parts _ _ q.0 in
    λ i. record {
      device = eqb-true a.device b.device r.0 i;
      paths = same_text a.paths b.paths (sym r.1) i;
      pim = eqb-true a.pim b.pim q.1 i;
      pam = eqb-true a.pam b.pam p.1 i;
    }

own_view : (a : View) → same_view a a ≡ true
own_view a = both_true (both_true (both_true (eq-eqb a.device a.device refl) (nat_list_eq_equiv.refl a.paths))
    (eq-eqb a.pim a.pim refl)) (eq-eqb a.pam a.pam refl)

-- what is seen is equal where the test holds
pub sight_is : (v w : Option View) → option_eq same_view v w ≡ true → v ≡ w
sight_is None None h = refl
sight_is None (Some b) h = cc
sight_is (Some a) None h = cc
sight_is (Some a) (Some b) h = ap Some (view_is a b h)

pub own_sight : (v : Option View) → option_eq same_view v v ≡ true
own_sight None = refl
own_sight (Some a) = own_view a

-- the test holds where what is seen is equal
pub sight_holds : (v w : Option View) → v ≡ w → option_eq same_view v w ≡ true
sight_holds v w e = ap (λ z. option_eq same_view v z) (sym e) ∙ own_sight v

by_truth : (a b : Bool) → (a ≡ true → b ≡ true) → (b ≡ true → a ≡ true) → a ≡ b
by_truth true b f g = sym (f refl)
by_truth false true f g = g refl
by_truth false false f g = refl

-- the test goes both ways
pub sight_turned : (v w : Option View) → option_eq same_view v w ≡ option_eq same_view w v
sight_turned v w = by_truth (option_eq same_view v w) (option_eq same_view w v)
    (λ h. sight_holds w v (sym (sight_is v w h))) (λ h. sight_holds v w (sym (sight_is w v h)))
