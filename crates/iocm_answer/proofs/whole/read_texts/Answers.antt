-- One text more is read, or all are.
use Rattle.std.proofs.Common.{◌≡◌, ◌+◌, ◌<◌, ◌≤◌, ℕ, suc, arith, List, [], ◌∷◌, Vec, Global, length, map, slice_set, sym, ap, subst, ◌∙◌}
use Rattle.std.proofs.lemmas.List.{map-append}
use Rattle.iocm_answer.specs.Whole.{IsReady}
use Rattle.iocm_answer.proofs.Reading.{all_texts, all_whole, next_is, one_more, read_there, stops_handed_on, stops_there}
use Rattle.iocm_answer.proofs.Reading.{within, AreReadTo}
use Rattle.iocm_answer.proofs.whole.read_texts.Goals as goal

pub read_text-requires : goal.read_text-requires
read_text-requires g c =
    let start = c.args.devices.now in
    let place = c.loop-place.place in
    let d = c.index-devices-place.result in
    subst (λ e. IsReady c.args.limit e)
    (sym (next_is g.R.Read.remaining c.args.limit place start c.loop-place.devices _ d c.loop-place.invariant))
    (c.requires place d c.loop-place-test.true)

pub returns-in_err-text-clause-reads : goal.returns-in_err-text-clause-reads
returns-in_err-text-clause-reads g c =
    read_there g.R.Read.remaining c.args.limit c.loop-place.place c.args.devices.now c.loop-place.devices _
    c.index-devices-place.result c.read_text.new.device c.loop-place.invariant
    (subst (λ n. c.loop-place.place < n) (sym c.loop-place.auto.devices) c.loop-place-test.true) c.read_text.ensures.reads

pub returns-in_err-text-clause-stops : goal.returns-in_err-text-clause-stops
returns-in_err-text-clause-stops g c = stops_handed_on c.from_residual.result c.in_err-text.field-0.0
    (stops_there g.R.Read.remaining c.args.limit c.loop-place.place c.args.devices.now c.loop-place.devices _
    c.index-devices-place.result c.read_text.new.device c.loop-place.invariant
    (subst (λ n. c.loop-place.place < n) (sym c.loop-place.auto.devices) c.loop-place-test.true))
    c.in_err-text.ensures.stops c.from_residual.ensures

pub returns-in_default-clause-reads : goal.returns-in_default-clause-reads
returns-in_default-clause-reads g c =
    read_there g.R.Read.remaining c.args.limit c.loop-place.place c.args.devices.now c.loop-place.devices _
    c.index-devices-place.result c.read_text.new.device c.loop-place.invariant
    (subst (λ n. c.loop-place.place < n) (sym c.loop-place.auto.devices) c.loop-place-test.true) c.read_text.ensures.reads

pub loop-place-preserved : goal.loop-place-preserved
loop-place-preserved g c =
    let items : Vec ℕ Global → List ℕ = λ t. t.items in
    let next = slice_set c.loop-place.devices c.loop-place.place c.read_text.new.device in
    subst (λ n. AreReadTo g.R.Read.remaining c.args.limit n c.args.devices.now next (map items c.push.new.self.items))
    (let one : suc c.loop-place.place ≡ c.loop-place.place + 1 = omega arith in one)
    (subst (AreReadTo g.R.Read.remaining c.args.limit (suc c.loop-place.place) c.args.devices.now next)
    (sym (ap (map items) c.in-Ok.ensures.items ∙ map-append items c.loop-place.texts.items (c.in_ok-text.text ∷ [])))
    (one_more g.R.Read.remaining c.args.limit c.loop-place.place c.args.devices.now c.loop-place.devices _
    c.index-devices-place.result c.read_text.new.device c.in_ok-text.text.items c.loop-place.invariant
    (subst (λ n. c.loop-place.place < n) (sym c.loop-place.auto.devices) c.loop-place-test.true) c.read_text.ensures.reads
    c.in_ok-text.ensures.text.1 c.in_ok-text.ensures.text.0))

pub returns-clause-texts : goal.returns-clause-texts
returns-clause-texts g c =
    all_texts g.R.Read.remaining c.args.limit c.loop-place.place c.args.devices.now c.loop-place.devices _
    c.loop-place.invariant (subst (λ n. n ≤ c.loop-place.place) (sym c.loop-place.auto.devices) c.loop-place-test.false)

pub returns-clause-whole : goal.returns-clause-whole
returns-clause-whole g c =
    all_whole g.R.Read.remaining c.args.limit c.loop-place.place c.args.devices.now c.loop-place.devices _
    c.loop-place.invariant (subst (λ n. n ≤ c.loop-place.place) (sym c.loop-place.auto.devices) c.loop-place-test.false)

pub returns-clause-reads : goal.returns-clause-reads
returns-clause-reads g c =
    within g.R.Read.remaining c.args.limit c.loop-place.place c.args.devices.now c.loop-place.devices _
    c.loop-place.invariant
