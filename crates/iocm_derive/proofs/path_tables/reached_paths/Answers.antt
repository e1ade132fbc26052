-- From the first path on, one row after the other, to the end or to the first row that isn't of a
-- path.
use Rattle.std.proofs.Common.{arith, ap, sym, ◌∙◌, refl, ◌&&◌, nat_eq, Some}
use Rattle.std.specs.FinMap.{entries}
use Rattle.iocm_types.specs.Key.{key_cmp}
use Rattle.iocm_types.specs.declared.key.Key.TheVariants.{Path}
use Rattle.iocm_table.specs.Slots.{rows_from}
use Rattle.iocm_model.specs.Machine.Configuration.{lookup_of}
use Rattle.iocm_model.specs.Machine.Sight.{reaches, record_lists}
use Rattle.iocm_derive.proofs.PathKeys.{first_path, behind_paths, ties_with_path}
use Rattle.iocm_derive.proofs.Tables.{fill_begins, fill_more, fill_stops}
use Rattle.iocm_derive.proofs.path_tables.reached_paths.Goals as goal

pub loop-key-init : goal.loop-key-init
loop-key-init g c = fill_begins (Path c.args.css 0) (Path c.args.css) (record_lists c.args.name) refl
    c.args.config.now.records
    (reaches (lookup_of c.args.config.now.records) c.args.css c.args.name) (first_path c.args.css) (λ n. refl) _
    (c.into_iter-key-iterator.ensures.into_iter_gives ∙ c.walk_from-key-items.ensures.entries
    ∙ ap (λ n. rows_from key_cmp (Path c.args.css n) (entries c.args.config.now.records)) c.new.ensures)

pub returns-in_default : goal.returns-in_default
returns-in_default g c = fill_stops (Path c.args.css 0) (Path c.args.css) (record_lists c.args.name) refl
    (reaches (lookup_of c.args.config.now.records) c.args.css c.args.name) c.loop-key.reached
    (c.in-Some.key.now, c.in-Some.entry.now) c.loop-key.key-iterator c.next.new.self
    c.loop-key.invariant c.in-Some.ensures.steps
    (λ n. behind_paths c.args.css n c.in-Some.key.now (sym c.path_of.ensures ∙ c.in_default.is))

pub loop-key-preserved : goal.loop-key-preserved
loop-key-preserved g c = fill_more (Path c.args.css 0) (Path c.args.css) (record_lists c.args.name) refl
    (reaches (lookup_of c.args.config.now.records) c.args.css c.args.name) c.loop-key.reached _
    (c.in-Some.key.now, c.in-Some.entry.now) c.loop-key.key-iterator c.next.new.self
    c.from.result c.lists_image.result c.loop-key.invariant c.in-Some.ensures.steps
    (omega (arith, c.from.ensures, c.number.type_inv)) refl
    (λ n. ap (λ b. b && record_lists c.args.name (Some c.in-Some.entry.now))
    (ties_with_path c.args.css c.in-Some-path_of.path c.in-Some.key.now (sym c.path_of.ensures ∙ c.in-Some-path_of.is)
    n)
    ∙ ap (λ p. nat_eq n p && record_lists c.args.name (Some c.in-Some.entry.now))
    (sym (c.from.ensures ∙ c.number.ensures))
    ∙ ap (λ b. nat_eq n c.from.result && b) (sym c.lists_image.ensures))
