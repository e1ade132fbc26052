-- A step that is answered alike at a subchannel with the same live record leaves the same there.
use Rattle.std.proofs.Common.{◌≡◌, ℕ, Bool, true, false, cond, eqb, Option, Some, None, is_some, refl, sym, ap, ◌∙◌}
use Rattle.std.specs.Option.{option_zip}
use Rattle.std.specs.Ordering.{eq_by_cmp}
use Rattle.std.specs.FinMap.{get, get-insert}
use Rattle.iocm_types.specs.declared.answer.Answer.TheVariants as answers
use Rattle.iocm_types.specs.declared.live.Live.{Live}
use Rattle.iocm_types.specs.declared.order.Order.{Order}
use Rattle.iocm_types.specs.declared.order.Order.TheVariants.{Start, Halt, Clear, Cancel, Test, Store, Modify}
use Rattle.iocm_types.specs.declared.order.Io.{Io}
use Rattle.iocm_types.specs.declared.order.Io.TheVariants.{Code}
use Rattle.iocm_types.specs.declared.sub_id.SubId.{SubId}
use Rattle.iocm_types.specs.declared.view.View.{View}
use Rattle.iocm_types.specs.SubId.{sub_id_cmp}
use Rattle.iocm_types.specs.KeyOrder.{sub_ids_total}
use Rattle.iocm_model.specs.Operation.Orders.{code_of, answer_if_accepted, live_if_accepted}
use Rattle.iocm_model.specs.Operation.State.{State, Lives, IsSound, seen_in}
use Rattle.iocm_model.specs.Operation.Step.{Step, order, device_begin, device_end, live_after_step, lives_after_step}
use Rattle.iocm_model.specs.Operation.Step.{step_answer, after_step, answer_in}

-- an order that is accepted isn't answered as one with another condition code
code_0 : (k : ℕ) → Code 0 ≡ Code k → eqb k 0 ≡ false → ⊥
code_0 k e other = let is : 0 ≡ k = cc in let no : true ≡ false = ap (λ j. eqb j 0) is ∙ other in cc

not_accepted : (o : Order) (v : View) (l : Live) (k : ℕ) → eqb k 0 ≡ false → answer_if_accepted o v l ≡ Code k → ⊥
not_accepted Start v l k other is = code_0 k is other
not_accepted Halt v l k other is = code_0 k is other
not_accepted Clear v l k other is = code_0 k is other
not_accepted Cancel v l k other is = code_0 k is other
not_accepted (Modify s) v l k other is = code_0 k is other
not_accepted Test v l k other is = cc
not_accepted Store v l k other is = cc

module _ (o : Order) (v w : View) (l : Live) where
  by_code : (j k : ℕ) (b d : Bool) → eqb j 0 ≡ b → eqb k 0 ≡ d
      → cond b (answer_if_accepted o v l) (Code j) ≡ cond d (answer_if_accepted o w l) (Code k)
      → cond b (live_if_accepted o l) l ≡ cond d (live_if_accepted o l) l
  by_code j k true true p q same = refl
  by_code j k false false p q same = refl
  by_code j k true false p q same = absurd (not_accepted o v l k q same)
  by_code j k false true p q same = absurd (not_accepted o w l j p (sym same))

io_inner : (x y : Io) → answers.Io x ≡ answers.Io y → x ≡ y
io_inner x y e = cc

-- a live record after a step that is answered alike
live_alike : (made : Step) (v w : View) (l : Live) → step_answer made (Some (v, l)) ≡ step_answer made (Some (w, l))
    → live_after_step made v l ≡ live_after_step made w l
live_alike (order o) v w l same = by_code o v w l (code_of o v l) (code_of o w l) _ _ refl refl (io_inner _ _ same)
live_alike device_begin v w l same = refl
live_alike device_end v w l same = refl

-- what a step leaves at its subchannel
there_by : (x : SubId) (made : Step) (lives : Lives) (v : View) (l : Live)
    → get (lives_after_step x made (Some (v, l)) lives) x
    ≡ cond (eq_by_cmp sub_id_cmp x x) (Some (live_after_step made v l)) (get lives x)
there_by x made lives v l = get-insert sub_ids_total lives x (live_after_step made v l) x

module _ (x : SubId) (made : Step) (m o : Lives) (same : get m x ≡ get o x) where
  left_alike : (p q : Option View) (k l : Option Live) → get m x ≡ k → get o x ≡ l → is_some k ≡ is_some p
      → is_some l ≡ is_some q
      → step_answer made (option_zip p k) ≡ step_answer made (option_zip q l)
      → get (lives_after_step x made (option_zip p k) m) x ≡ get (lives_after_step x made (option_zip q l) o) x
  left_alike (Some v) (Some w) (Some k) (Some l) at_k at_l both other answer =
      let is : k ≡ l = inner (sym at_k ∙ same ∙ at_l) in
      there_by x made m v k
      ∙ (λ i. cond (eq_by_cmp sub_id_cmp x x) (Some (left is i)) (same i))
      ∙ sym (there_by x made o w l)
    where
      inner : {k l : Live} → Some k ≡ Some l → k ≡ l
      inner e = cc

      left : k ≡ l → live_after_step made v k ≡ live_after_step made w l
      left is = live_alike made v w k (answer ∙ ap (λ z. step_answer made (Some (w, z))) (sym is))
          ∙ ap (live_after_step made w) is
  left_alike None None None None at_k at_l both other answer = same
  left_alike (Some v) q None l at_k at_l both other answer = cc
  left_alike None q (Some k) l at_k at_l both other answer = cc
  left_alike p (Some w) k None at_k at_l both other answer = cc
  left_alike p None k (Some l) at_k at_l both other answer = cc
  left_alike (Some v) None (Some k) None at_k at_l both other answer = let no : Some k ≡ None =
      sym at_k ∙ same ∙ at_l in cc
  left_alike None (Some w) None (Some l) at_k at_l both other answer = let no : None ≡ Some l =
      sym at_k ∙ same ∙ at_l in cc

-- a step leaves the same at its subchannel in two sound states in which it has the same live record
-- there and is answered alike
pub leaves_alike : (s u : State) (x : SubId) (made : Step) → IsSound s → IsSound u → get s.lives x ≡ get u.lives x
    → answer_in s x made ≡ answer_in u x made
    → get (after_step x made s).lives x ≡ get (after_step x made u).lives x
leaves_alike s u x made sound_s sound_u same answer =
    left_alike x made s.lives u.lives same (seen_in s x) (seen_in u x) (get s.lives x) (get u.lives x) refl refl
    (sound_s.lived x) (sound_u.lived x) answer
