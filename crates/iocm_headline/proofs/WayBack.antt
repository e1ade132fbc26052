-- An edit that is taken back directly after it was performed leaves the state before it.
use Rattle.std.proofs.Common.{◌≡◌, refl, sym, subst, ◌∙◌}
use Rattle.iocm_types.specs.KeyOrder.{sub_ids_total, sub_ids_exact}
use Rattle.iocm_model.specs.Operation.State.{State, IsSound, HasConfigAndNumbersOf}
use Rattle.iocm_model.specs.Change.Edit.{Edit, state_after, altered_by}
use Rattle.iocm_model.specs.Change.Inverse.{inverse_of}
use Rattle.iocm_model.proofs.Maps.Overwriting.{with_cells_is}
use Rattle.iocm_model.proofs.Change.EditsGoBack.{keeps_the_others, lived_after}
use Rattle.iocm_model.proofs.Change.RunsGoBack.{one_back}
use Rattle.iocm_plant.specs.Operating.{KeepsRoom}
use Rattle.iocm_headline.specs.WayBack.{PerformedEditsGoBackWhole, UnappliedEditsGoBackWhole}

-- the inverse of an edit, at the state that the edit left
back_at_once : (e : Edit) (s : State) → IsSound s → state_after (inverse_of e s) (state_after e s) ≡ s
back_at_once e s sound =
    let t = state_after e s in
    let like : HasConfigAndNumbersOf t t =
    record { config = refl; numbers = refl; lived = lived_after e s sound.lived } in
    let lives = with_cells_is sub_ids_total sub_ids_exact t.lives s.lives (altered_by e s)
    (λ x off. keeps_the_others e s x sound.lived off) in
    one_back e s t sound like ∙ (λ i. record { config = s.config; numbers = s.numbers; lives = lives i })

pub performed_edits_go_back_whole : PerformedEditsGoBackWhole
performed_edits_go_back_whole e i back p q r sound first second =
    let state : r.state ≡ p.state =
    second.state ∙ (λ k. state_after (first.inverse k) (first.state k)) ∙ back_at_once e p.state sound in record {
      whole = λ k. record { state = state k; room = second.room k };
      room = subst (KeepsRoom p.room) (sym second.room) first.room;
    }

pub unapplied_edits_go_back_whole : UnappliedEditsGoBackWhole
unapplied_edits_go_back_whole i j back p q r sound first second =
    let state : r.state ≡ p.state =
    second.state ∙ (λ k. state_after (first.inverse k) (first.state k)) ∙ back_at_once i.edit p.state sound in
    let room : r.room ≡ p.room = second.room ∙ first.room in
    λ k. record { state = state k; room = room k }
