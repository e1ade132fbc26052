-- Parts with no rows make the edit of their action alone.
use Rattle.std.proofs.Common.{◌≡◌, [], ap, ◌∙◌}
use Rattle.std.specs.Map.{keys_of}
use Rattle.std.specs.FinMap.{from_sorted}
use Rattle.iocm_types.specs.SubId.{sub_id_cmp}
use Rattle.iocm_tree.specs.declared.edit.Parts.{Parts}
use Rattle.iocm_tree.specs.Carried.{action_of, bare, carried_of}
use Rattle.iocm_tree.proofs.Ordered.{none_sorted}

-- parts have no rows
pub record HasNoRows {A : Type 0} (p : Parts A) : Type 0 where
  pub no_places : p.places.items ≡ []
  pub no_kept : p.kept.items ≡ []
  pub no_frees : p.frees.items ≡ []
  pub no_meets : p.meets.items ≡ []

-- they make the edit of their action alone
pub bare_edit : {A : Type 0} (p : Parts A) → HasNoRows p → carried_of p ≡ bare (action_of p.action)
bare_edit p none = λ i. record {
  edit = record {
    action = action_of p.action;
    places = none.no_places i;
    lives = (ap (from_sorted {R = sub_id_cmp}) none.no_kept ∙ none_sorted sub_id_cmp) i;
  };
  frees = none.no_frees i;
  meets = keys_of (none.no_meets i);
}
