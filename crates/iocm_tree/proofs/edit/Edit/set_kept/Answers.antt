use Rattle.std.proofs.Common.{sym, subst, ◌∙◌}
use Rattle.std.specs.FinMap.{entries-from_sorted}
use Rattle.iocm_types.specs.SubId.{sub_id_cmp}
use Rattle.iocm_tree.specs.Carried.{AreInOrder}
use Rattle.iocm_tree.proofs.Kept.{same_subchannels, others_in_order}
use Rattle.iocm_tree.proofs.Ordered.{same_keys_length}
use Rattle.iocm_tree.proofs.edit.Edit.set_kept.Goals as goal

pub copy_from_slice-requires : goal.copy_from_slice-requires
copy_from_slice-requires g c = c.self.inside.parts.kept.ok.0
    ∙ same_keys_length c.self.inside.parts.kept.items c.args.rows.now
    (same_subchannels c.self.inside.parts c.args.self.now c.self.invariant c.self.view_is c.args.rows.now c.requires)

pub invariant_of-self : goal.invariant_of-self
invariant_of-self g c = record {
  kept_rise = subst AreInOrder (sym c.copy_from_slice.ensures.items)
      (others_in_order c.self.inside.parts c.args.self.now c.self.invariant c.self.view_is c.args.rows.now c.requires);
  meets_rise = c.self.invariant.meets_rise;
}

pub returns-clause-lives : goal.returns-clause-lives
returns-clause-lives g c = entries-from_sorted sub_id_cmp c.copy_from_slice.new.self.items
    (subst AreInOrder (sym c.copy_from_slice.ensures.items)
    (others_in_order c.self.inside.parts c.args.self.now c.self.invariant c.self.view_is c.args.rows.now c.requires))
    ∙ c.copy_from_slice.ensures.items
