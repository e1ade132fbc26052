-- A small machine, by hand, and what its images have of a path; and what the table of a
-- configuration is to the one after a change.
use Rattle.std.specs.Prelude.{◌≡◌, ℕ, true, false, List, [], ◌∷◌, codes}
use Rattle.std.specs.FinMap.{find, insert, remove}
use Rattle.iocm_types.specs.declared.key.Key.{Key}
use Rattle.iocm_types.specs.declared.path_kind.PathKind.TheVariants.{Shared}
use Rattle.iocm_types.specs.Key.{key_cmp}
use Rattle.iocm_model.specs.Machine.Record.{Rec, image, path, online}
use Rattle.iocm_model.specs.Machine.Configuration.{Configuration, Lookup, with_keys}
use Rattle.iocm_reach.specs.declared.image_path.ImagePath.{ImagePath}
use Rattle.iocm_reach.specs.Reached.{reached_by, online_to}
use Rattle.iocm_reach.specs.Tabled.{IsReachOf, WasReach}

abbrev pub image_record : ℕ → ℕ → List ℕ → Rec
image_record css mif name = image (record { css = css; mif = mif; name = name })

abbrev pub online_record : ℕ → ℕ → List ℕ → Rec
online_record css number name = online (record { css = css; path = number; name = name })

-- path 50 of channel subsystem 0: LPA is in its access list, LPB in its candidate list
abbrev pub path_50 : Rec
path_50 = path (record {
  css = 0;
  number = 0x50;
  kind = Shared;
  access = codes "LPA" ∷ [];
  candidates = codes "LPB" ∷ [];
  carried = [];
})

-- LPA, LPB and LPC in channel subsystem 0, another LPA in 1; path 50 is online to LPB and, against
-- the rules, to LPC, and in channel subsystem 1, where it isn't there, to LPA
abbrev pub small_records : List Rec
small_records =
    image_record 0 1 (codes "LPA") ∷ image_record 0 2 (codes "LPB") ∷ image_record 0 3 (codes "LPC")
    ∷ image_record 1 1 (codes "LPA") ∷ path_50
    ∷ online_record 0 0x50 (codes "LPB") ∷ online_record 0 0x50 (codes "LPC")
    ∷ online_record 1 0x50 (codes "LPA") ∷ []

-- the record of a key among them
abbrev pub small : Lookup
small key = find key_cmp key (with_keys small_records)

-- what its images have of path 50
pub record IsWorkedOut : Type 0 where
  pub in_access_list : reached_by small 0 0x50 1 ≡ true
  pub a_candidate : reached_by small 0 0x50 2 ≡ true
  pub in_no_list : reached_by small 0 0x50 3 ≡ false
  pub no_image : reached_by small 0 0x50 4 ≡ false
  pub no_path : reached_by small 1 0x50 1 ≡ false
  pub not_online : online_to small 0 0x50 1 ≡ false
  pub is_online : online_to small 0 0x50 2 ≡ true
  pub online_unreached : online_to small 0 0x50 3 ≡ true
  pub online_to_no_image : online_to small 0 0x50 4 ≡ false
  pub online_without_path : online_to small 1 0x50 1 ≡ true

-- a table of a configuration is what a table has to be that follows a record that is put under a
-- key, in place of another or not, or is taken away
pub record IsFollowed (m : Configuration) (key : Key) (table : List ImagePath) : Type 0 where
  pub put : (r : Rec) → WasReach key (insert m key r) table
  pub taken : WasReach key (remove m key) table

abbrev pub ChangesAreFollowed : Type 0
ChangesAreFollowed = (m : Configuration) (key : Key) (table : List ImagePath) → IsReachOf m table
    → IsFollowed m key table
