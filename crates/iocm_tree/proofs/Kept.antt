-- The live records that come along with an edit: the rows of its parts, and others of the same
-- subchannels.
use Rattle.std.proofs.Common.{◌≡◌, List, sym, ap, ◌∙◌}
use Rattle.std.specs.Map.{keys_of}
use Rattle.std.specs.FinMap.{entries, keys, entries-from_sorted}
use Rattle.iocm_types.specs.declared.live.Live.{Live}
use Rattle.iocm_types.specs.declared.sub_id.SubId.{SubId}
use Rattle.iocm_types.specs.SubId.{sub_id_cmp}
use Rattle.iocm_tree.specs.declared.edit.Parts.{Parts}
use Rattle.iocm_tree.specs.Carried.{Carried, carried_of, AreInOrder, HasOrder}
use Rattle.iocm_tree.proofs.Ordered.{same_keys_sorted}

module _ {A : Type 0} (parts : Parts A) (edit : Carried) (order : HasOrder parts) (is : carried_of parts ≡ edit) where
  -- the live records of an edit are the rows of its parts
  pub kept_rows : entries edit.edit.lives ≡ parts.kept.items
  kept_rows = ap (λ (e : Carried). entries e.edit.lives) (sym is)
      ∙ entries-from_sorted sub_id_cmp parts.kept.items order.kept_rise

  -- rows of the subchannels that an edit has live records for are of those of its parts
  pub same_subchannels : (rows : List (SubId × Live)) → keys_of rows ≡ keys edit.edit.lives
      → keys_of rows ≡ keys_of parts.kept.items
  same_subchannels rows same = same ∙ ap keys_of kept_rows

  -- and stand in order
  pub others_in_order : (rows : List (SubId × Live)) → keys_of rows ≡ keys edit.edit.lives → AreInOrder rows
  others_in_order rows same =
      same_keys_sorted sub_id_cmp parts.kept.items rows (same_subchannels rows same) order.kept_rise
