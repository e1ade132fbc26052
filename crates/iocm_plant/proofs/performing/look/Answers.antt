use Rattle.std.proofs.Common.{sym, subst, subst₂}
use Rattle.std.specs.List.Sorted.{IsStrictlySortedBy}
use Rattle.iocm_types.specs.Place.{place_cmp}
use Rattle.iocm_types.specs.SubId.{image_cmp}
use Rattle.iocm_model.specs.Change.Edit.{config_after}
use Rattle.iocm_affected.specs.Affected.{AreAllAffected}
use Rattle.iocm_plant.proofs.PutAlike.{nothing_affected, nothing_rises}
use Rattle.iocm_plant.proofs.performing.look.Goals as goal

pub returns-in-Alike-clause-affected : goal.returns-in-Alike-clause-affected
returns-in-Alike-clause-affected c =
    subst₂ (AreAllAffected c.args.config.now.records
    (config_after c.args.edit.now.edit.action c.args.config.now.records))
    (sym c.nowhere.ensures.places) (sym c.nowhere.ensures.images)
    (nothing_affected c.args.config.now.records c.args.edit.now.edit.action c.has_own_keys.ensures
    (c.requires.alike c.in-Alike.is))

pub returns-in-Alike-clause-places : goal.returns-in-Alike-clause-places
returns-in-Alike-clause-places c =
    subst (IsStrictlySortedBy place_cmp) (sym c.nowhere.ensures.places) (nothing_rises place_cmp)

pub returns-in-Alike-clause-images : goal.returns-in-Alike-clause-images
returns-in-Alike-clause-images c =
    subst (IsStrictlySortedBy image_cmp) (sym c.nowhere.ensures.images) (nothing_rises image_cmp)
