-- The steps together are the numbers after the change; where memory ran out, what came in is taken
-- back, and what left is put back.
use Rattle.std.proofs.Common.{◌≡◌, sym, ap, subst, ◌∙◌}
use Rattle.std.specs.List.{fold}
use Rattle.std.specs.FinMap.{remove}
use Rattle.iocm_model.specs.Machine.Numbering.{Numbering}
use Rattle.iocm_model.specs.Change.Renumbering.{without_leavers, with_carried, numbers_after}
use Rattle.iocm_model.specs.Change.Inverse.{freed_numbers}
use Rattle.iocm_model.specs.Change.Refusal.{is_number_taken}
use Rattle.iocm_numbers.specs.Exchange.{without_rows}
use Rattle.iocm_numbers.specs.Renumbering.{filled_by, unreached, unnumbered, ChangesComersAlone}
use Rattle.iocm_numbers.specs.PutBack.{numbers_at, put_in, FitIn, HaveRoom}
use Rattle.iocm_numbers.proofs.Restored.{AreOldBut, old_fit, old_back, rows_have_room}
use Rattle.iocm_numbers.proofs.StepsTogether.{left_once, taken_same, risen_apart, room_in}
use Rattle.iocm_numbers.proofs.Differing.{some_rise, freed_is, given_is}
use Rattle.iocm_numbers.proofs.Sifting.{gone_is, numbered_has, back, old_but}
use Rattle.iocm_numbers.proofs.InPlaces.{filled_in_places}
use Rattle.iocm_numbers.proofs.numbers.Numbers.renumber.Goals as goal

pub give_listed-requires-clause-stay : goal.give_listed-requires-clause-stay
give_listed-requires-clause-stay g c =
    let cfg = c.args.config.now.records in let n = c.args.self.now.numbers in
    let left : c.free_rows.new.self.numbers ≡ without_leavers cfg n =
    c.free_rows.ensures.numbers ∙ ap (without_rows n) (c.as_slice.ensures.value ∙ c.in_ok-sifted.ensures.leaving)
    ∙ gone_is cfg n c.args.touched.now c.requires.all in
    ap (without_leavers cfg) left ∙ left_once cfg n ∙ sym left

pub give_listed-requires-clause-free : goal.give_listed-requires-clause-free
give_listed-requires-clause-free g c =
    let cfg = c.args.config.now.records in let n = c.args.self.now.numbers in
    ap (λ (m : Numbering). is_number_taken cfg m c.args.carried.now)
    (c.free_rows.ensures.numbers ∙ ap (without_rows n) (c.as_slice.ensures.value ∙ c.in_ok-sifted.ensures.leaving)
    ∙ gone_is cfg n c.args.touched.now c.requires.all)
    ∙ taken_same cfg n c.args.carried.now ∙ c.requires.free

pub returns-in-Ok-clause-numbers : goal.returns-in-Ok-clause-numbers
returns-in-Ok-clause-numbers g c =
    let cfg = c.args.config.now.records in let n = c.args.self.now.numbers in
    let left : c.free_rows.new.self.numbers ≡ without_leavers cfg n =
    c.free_rows.ensures.numbers ∙ ap (without_rows n) (c.as_slice.ensures.value ∙ c.in_ok-sifted.ensures.leaving)
    ∙ gone_is cfg n c.args.touched.now c.requires.all in
    c.in-Ok.ensures.numbers
    ∙ (λ i. fold (filled_by cfg) (fold (with_carried cfg) (left i) c.args.carried.now)
    ((c.as_slice-unnumbered.ensures.value ∙ c.in_ok-sifted.ensures.unnumbered) i))
    ∙ filled_in_places cfg c.has_own_keys.ensures (fold (with_carried cfg) (without_leavers cfg n) c.args.carried.now)
    (unnumbered n c.args.touched.now)
    (some_rise _ c.args.touched.now c.requires.rise)
    (numbered_has cfg n c.args.touched.now c.requires.all c.args.carried.now)

pub place_all-requires-clause-room : goal.place_all-requires-clause-room
place_all-requires-clause-room g c =
    let cfg = c.args.config.now.records in
    subst (HaveRoom c.free_all.new.self) (sym (c.as_slice-in-Err.ensures.value ∙ c.in_ok-sifted.ensures.leaving))
    (rows_have_room c.args.self.now c.free_all.new.self
    (λ p k has. room_in c.free_all.new.self c.give_listed.new.self c.free_all.ensures.room p k
    (c.give_listed.ensures.room p k
    (room_in c.free_rows.new.self c.args.self.now c.free_rows.ensures.room p k (c.have_room.ensures p k has))))
    (unreached cfg c.args.touched.now))

pub place_all-requires-clause-fit : goal.place_all-requires-clause-fit
place_all-requires-clause-fit g c =
    let cfg = c.args.config.now.records in let n = c.args.self.now.numbers in
    let left : c.free_rows.new.self.numbers ≡ without_leavers cfg n =
    c.free_rows.ensures.numbers ∙ ap (without_rows n) (c.as_slice.ensures.value ∙ c.in_ok-sifted.ensures.leaving)
    ∙ gone_is cfg n c.args.touched.now c.requires.all in
    let others : ChangesComersAlone cfg (without_leavers cfg n) c.give_listed.new.self.numbers =
    subst (λ (m : Numbering). ChangesComersAlone cfg m c.give_listed.new.self.numbers) left
    c.give_listed.ensures.others in
    let freed : c.free_all.new.self.numbers
    ≡ back cfg n c.args.touched.now c.requires.all c.give_listed.new.self.numbers others =
    c.free_all.ensures.numbers
    ∙ ap (fold remove c.give_listed.new.self.numbers)
    (c.as_slice-unnumbered.ensures.value ∙ c.in_ok-sifted.ensures.unnumbered) in
    let old : AreOldBut n c.free_all.new.self.numbers (unreached cfg c.args.touched.now) =
    subst (λ (m : Numbering). AreOldBut n m (unreached cfg c.args.touched.now)) (sym freed)
    (old_but cfg n c.args.touched.now c.requires.all c.give_listed.new.self.numbers others) in
    subst (FitIn c.free_all.new.self.numbers) (sym (c.as_slice-in-Err.ensures.value ∙ c.in_ok-sifted.ensures.leaving))
    (old_fit n c.are_apart.ensures.apart (unreached cfg c.args.touched.now)
    (risen_apart (unreached cfg c.args.touched.now) (some_rise _ c.args.touched.now c.requires.rise))
    c.free_all.new.self.numbers old)

pub returns-in-Err-clause-same : goal.returns-in-Err-clause-same
returns-in-Err-clause-same g c =
    let cfg = c.args.config.now.records in let n = c.args.self.now.numbers in
    let left : c.free_rows.new.self.numbers ≡ without_leavers cfg n =
    c.free_rows.ensures.numbers ∙ ap (without_rows n) (c.as_slice.ensures.value ∙ c.in_ok-sifted.ensures.leaving)
    ∙ gone_is cfg n c.args.touched.now c.requires.all in
    let others : ChangesComersAlone cfg (without_leavers cfg n) c.give_listed.new.self.numbers =
    subst (λ (m : Numbering). ChangesComersAlone cfg m c.give_listed.new.self.numbers) left
    c.give_listed.ensures.others in
    let freed : c.free_all.new.self.numbers
    ≡ back cfg n c.args.touched.now c.requires.all c.give_listed.new.self.numbers others =
    c.free_all.ensures.numbers
    ∙ ap (fold remove c.give_listed.new.self.numbers)
    (c.as_slice-unnumbered.ensures.value ∙ c.in_ok-sifted.ensures.unnumbered) in
    let old : AreOldBut n c.free_all.new.self.numbers (unreached cfg c.args.touched.now) =
    subst (λ (m : Numbering). AreOldBut n m (unreached cfg c.args.touched.now)) (sym freed)
    (old_but cfg n c.args.touched.now c.requires.all c.give_listed.new.self.numbers others) in
    c.place_all.ensures.numbers
    ∙ ap (fold put_in c.free_all.new.self.numbers)
    (c.as_slice-in-Err.ensures.value ∙ c.in_ok-sifted.ensures.leaving)
    ∙ old_back n c.are_apart.ensures.apart (unreached cfg c.args.touched.now)
    (risen_apart (unreached cfg c.args.touched.now) (some_rise _ c.args.touched.now c.requires.rise))
    c.free_all.new.self.numbers old

pub returns-in-Ok-clause-freed : goal.returns-in-Ok-clause-freed
returns-in-Ok-clause-freed g c =
    let cfg = c.args.config.now.records in let n = c.args.self.now.numbers in
    let is : c.give_listed.new.self.numbers ≡ numbers_after cfg c.args.carried.now n =
    returns-in-Ok-clause-numbers g c in
    c.in_ok-sifted.ensures.leaving ∙ freed_is cfg c.args.carried.now n c.args.touched.now c.requires.rise c.requires.all
    ∙ ap (freed_numbers n) (sym is)

pub returns-in-Ok-clause-given : goal.returns-in-Ok-clause-given
returns-in-Ok-clause-given g c =
    let cfg = c.args.config.now.records in let n = c.args.self.now.numbers in
    let is : c.give_listed.new.self.numbers ≡ numbers_after cfg c.args.carried.now n =
    returns-in-Ok-clause-numbers g c in
    c.in-Ok.ensures.listed ∙ (λ i.
    numbers_at (is i) ((c.as_slice-unnumbered.ensures.value ∙ c.in_ok-sifted.ensures.unnumbered) i))
    ∙ given_is cfg c.args.carried.now n c.args.touched.now c.requires.rise c.requires.all
    ∙ ap (λ (m : Numbering). freed_numbers m n) (sym is)
