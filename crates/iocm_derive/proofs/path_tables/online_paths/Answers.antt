-- From the first path on, one row after the other, to the end or to the first row that isn't of an
-- online path.
use Rattle.std.proofs.Common.{arith, ap, sym, ◌∙◌, refl, ◌&&◌, nat_eq, is_some}
use Rattle.std.specs.Cmp.Lexicographic.{pointwise}
use Rattle.std.specs.Ordering.{eq_by_cmp}
use Rattle.std.specs.FinMap.{entries}
use Rattle.iocm_types.specs.Key.{key_cmp}
use Rattle.iocm_types.specs.declared.key.Key.TheVariants.{Online}
use Rattle.iocm_table.specs.Slots.{rows_from}
use Rattle.iocm_model.specs.Machine.Configuration.{lookup_of}
use Rattle.iocm_model.specs.Machine.Mask.{is_online}
use Rattle.iocm_derive.proofs.PathKeys.{first_online, behind_online, ties_with_online, ends}
use Rattle.iocm_derive.proofs.Tables.{fill_begins, fill_more, fill_stops}
use Rattle.iocm_derive.proofs.path_tables.online_paths.Goals as goal

pub loop-key-init : goal.loop-key-init
loop-key-init g c = fill_begins (Online c.args.css 0 c.args.name) (λ n. Online c.args.css n c.args.name) is_some refl
    c.args.config.now.records
    (is_online (lookup_of c.args.config.now.records) c.args.css c.args.name) (first_online c.args.css c.args.name)
    (λ n. refl) _
    (c.into_iter-key-iterator.ensures.into_iter_gives ∙ c.walk_from-key-items.ensures.entries
    ∙ ap (λ n. rows_from key_cmp (Online c.args.css n c.args.name) (entries c.args.config.now.records)) c.new.ensures)

pub returns-in_default : goal.returns-in_default
returns-in_default g c = fill_stops (Online c.args.css 0 c.args.name) (λ n. Online c.args.css n c.args.name) is_some
    refl
    (is_online (lookup_of c.args.config.now.records) c.args.css c.args.name) c.loop-key.online
    (c.in-Some.key.now, c.in-Some.field-0-1.now) c.loop-key.key-iterator c.next.new.self
    c.loop-key.invariant c.in-Some.ensures.steps
    (λ n. behind_online c.args.css c.args.name n c.in-Some.key.now (sym c.online_of.ensures ∙ c.in_default.is))

pub loop-key-preserved : goal.loop-key-preserved
loop-key-preserved g c = fill_more (Online c.args.css 0 c.args.name) (λ n. Online c.args.css n c.args.name) is_some refl
    (is_online (lookup_of c.args.config.now.records) c.args.css c.args.name) c.loop-key.online _
    (c.in-Some.key.now, c.in-Some.field-0-1.now) c.loop-key.key-iterator c.next.new.self
    c.from.result c.eq.result c.loop-key.invariant c.in-Some.ensures.steps
    (omega (arith, c.from.ensures, c.number.type_inv)) refl
    (λ n. ends (eq_by_cmp key_cmp (Online c.args.css n c.args.name) c.in-Some.key.now)
    ∙ ties_with_online c.args.css c.args.name c.in-Some-online_of.row c.in-Some.key.now
    (sym c.online_of.ensures ∙ c.in-Some-online_of.is) n
    ∙ ap (λ p. nat_eq n p && pointwise nat_eq c.args.name c.in-Some-online_of.row.name)
    (sym (c.from.ensures ∙ c.number.ensures))
    ∙ ap (λ b. nat_eq n c.from.result && b) (sym c.eq.ensures))
