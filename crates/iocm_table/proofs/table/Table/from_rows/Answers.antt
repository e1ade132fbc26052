use Rattle.std.proofs.Common.{◌≡◌, refl, sym, ap, subst, ◌∙◌}
use Rattle.std.specs.List.{IsDistinct}
use Rattle.std.specs.Map.{keys_of}
use Rattle.std.specs.Ordering.{eq_by_cmp}
use Rattle.std.specs.Vec.{vec_items}
use Rattle.std.specs.FinMap.{len, from_entries}
use Rattle.iocm_table.specs.Slots.{rows}
use Rattle.iocm_table.proofs.Building.{built, len_apart, all_full}
use Rattle.iocm_table.proofs.Lookups.{seen_of, len_of_rows, entries_of_rows}
use Rattle.iocm_table.proofs.table.Table.from_rows.Goals as goal

pub invariant_of-result : goal.invariant_of-result
invariant_of-result g c =
    let apart : IsDistinct (eq_by_cmp g.K.Ord.cmp) (keys_of (vec_items c.args.listed)) =
    subst (λ r. IsDistinct (eq_by_cmp r) (keys_of (vec_items c.args.listed))) (sym g.met.K.TableKey.is_cmp)
    c.requires in
    let made = c.in_ok-slots.ensures in
    record {
      rise = made.1;
      counted = c.len-len.ensures ∙ c.args.listed.ok.0
          ∙ sym (len_apart g.met.K.Ord.total (vec_items c.args.listed) apart)
          ∙ ap len (sym (built g.met.K.Ord.total g.met.K.TableKey.exact (vec_items c.args.listed) c.in_ok-slots.slots
          apart made))
          ∙ len_of_rows refl c.in_ok-slots.slots (seen_of c.in_ok-slots.slots) refl made.1;
    }

pub returns-clause-rows : goal.returns-clause-rows
returns-clause-rows g c =
    let apart : IsDistinct (eq_by_cmp g.K.Ord.cmp) (keys_of (vec_items c.args.listed)) =
    subst (λ r. IsDistinct (eq_by_cmp r) (keys_of (vec_items c.args.listed))) (sym g.met.K.TableKey.is_cmp)
    c.requires in
    subst (λ r. rows r (seen_of c.in_ok-slots.slots) ≡ from_entries {R = r} (vec_items c.args.listed))
    g.met.K.TableKey.is_cmp
    (built g.met.K.Ord.total g.met.K.TableKey.exact (vec_items c.args.listed) c.in_ok-slots.slots apart
    c.in_ok-slots.ensures)

pub returns-clause-places : goal.returns-clause-places
returns-clause-places g c =
    let apart : IsDistinct (eq_by_cmp g.K.Ord.cmp) (keys_of (vec_items c.args.listed)) =
    subst (λ r. IsDistinct (eq_by_cmp r) (keys_of (vec_items c.args.listed))) (sym g.met.K.TableKey.is_cmp)
    c.requires in
    let made = c.in_ok-slots.ensures in
    sym (ap keys_of (entries_of_rows g.met.K.TableKey.is_cmp c.in_ok-slots.slots (seen_of c.in_ok-slots.slots) refl
    made.1)
    ∙ all_full g.met.K.Ord.total g.met.K.TableKey.exact (vec_items c.args.listed) c.in_ok-slots.slots apart made)
