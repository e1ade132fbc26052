-- What is told of one edit is in order, and its values are those of the state as it is.
use Rattle.std.proofs.Common.{map, ap, ◌∙◌, rules}
use Rattle.iocm_types.specs.Place.{cell_cmp}
use Rattle.iocm_types.specs.SubId.{sub_id_cmp}
use Rattle.iocm_activate.specs.Cells.{cells_in}
use Rattle.iocm_activate.specs.OnlyEdit.{holder_after, live_at}
use Rattle.iocm_activate.proofs.OnlyEdit.{holders_listed, holders_rise, live_if_seen, lives_listed, lives_rise}
use Rattle.iocm_activate.proofs.only_edit.effect_of_one.Goals as goal

pub list_lives-requires : goal.list_lives-requires
list_lives-requires c = live_if_seen c.args.plant.now.state c.requires.told.views_before c.as_slice-2.result.now
    (c.as_slice-2.ensures.value ∙ c.requires.told.views) c.is_sound.ensures.lived

pub of-requires : goal.of-requires
of-requires c = holders_rise c.requires.told.numbers_before c.args.plant.now.state.numbers
    c.args.touched.now.numbers.items c.requires.told.numbers
    c.in_ok-numbers.numbers.items (c.in_ok-numbers.ensures ∙ ap (map holder_after) c.as_slice.ensures.value)

pub of-requires-2 : goal.of-requires-2
of-requires-2 c = lives_rise c.args.plant.now.state c.requires.told.views_before c.args.touched.now.subchannels.items
    c.requires.told.views
    c.in_ok-lives.lives.items
    (c.in_ok-lives.ensures ∙ ap (map (live_at c.args.plant.now.state.lives)) c.as_slice-2.ensures.value)

pub returns : goal.returns
returns c =
    let numbers = ap (λ cells. cells_in cell_cmp cells) c.of.ensures
    ∙ holders_listed c.requires.told.numbers_before c.args.plant.now.state.numbers c.args.touched.now.numbers.items
    c.requires.told.numbers
    c.in_ok-numbers.numbers.items (c.in_ok-numbers.ensures ∙ ap (map holder_after) c.as_slice.ensures.value) in
    let lives = ap (λ cells. cells_in sub_id_cmp cells) c.of-2.ensures
    ∙ lives_listed c.args.plant.now.state c.requires.told.views_before c.args.touched.now.subchannels.items
    c.requires.told.views
    c.in_ok-lives.lives.items
    (c.in_ok-lives.ensures ∙ ap (map (live_at c.args.plant.now.state.lives)) c.as_slice-2.ensures.value) in
    search rules
