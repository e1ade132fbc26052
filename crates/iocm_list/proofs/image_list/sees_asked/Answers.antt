use Rattle.std.proofs.Common.{◌≡◌, ◌==◌, ◌||◌, true, false, not, List, [], ◌∷◌, length, filter, refl, sym, ap, ◌∙◌}
use Rattle.std.specs.List.{list_any}
use Rattle.iocm_model.specs.Machine.Configuration.{devices_of, lookup_of}
use Rattle.iocm_model.specs.Machine.Sight.{sees}
use Rattle.iocm_filter.specs.Wanted.{asks}
use Rattle.iocm_deck_writer.specs.Device.{Run}
use Rattle.iocm_sight.specs.WantedRows.{wants_number}
use Rattle.iocm_sight.proofs.RunSums.{any}
use Rattle.iocm_sight.proofs.SightTests.{sees_of_sight}
use Rattle.iocm_list.proofs.image_list.sees_asked.Goals as goal

asks_some : {X : Type 0} (xs : List X) → false ≡ (length xs == 0) → asks xs ≡ true
asks_some [] none = none
asks_some (x ∷ xs) some = refl

pub returns : goal.returns
returns c =
    let w = c.args.listed.now.filters.now in
    let m = c.args.listed.now.config.now.records in
    let ds = filter (wants_number w) (devices_of m) in
    let at = lookup_of m in
    c.sees_any.ensures.seen
    ∙ (λ j. let s = c.new-sight.ensures j in
    list_any (λ (r : Run). sees (lookup_of s.records) s.image.css s.image.name r.first) (c.deref.ensures.value j))
    ∙ ap (list_any (λ (r : Run). sees at c.args.css c.args.name r.first)) c.args.listed.now.in_ranges
    ∙ any (sees at c.args.css c.args.name) (sees_of_sight at c.args.css c.args.name) ds
    ∙ sym (ap (λ b. not b || list_any (sees at c.args.css c.args.name) ds)
    (ap asks (sym c.devices.ensures) ∙ asks_some c.devices.result.now c.if-is_empty.ensures))
