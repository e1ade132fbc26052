-- The fields of records that come, go or change, and what is told of them, as they are worked by hand.
use Rattle.std.specs.Prelude.{◌≡◌, ℕ, Option, None, Some, List, [], ◌∷◌, map, codes}
use Rattle.iocm_types.specs.declared.css_path.CssPath.{CssPath}
use Rattle.iocm_types.specs.declared.link.CssLink.{CssLink}
use Rattle.iocm_types.specs.declared.link.Link.{Link}
use Rattle.iocm_types.specs.declared.link.Link.TheVariants as link
use Rattle.iocm_types.specs.declared.path_kind.PathKind.{PathKind}
use Rattle.iocm_types.specs.declared.path_kind.PathKind.TheVariants.{Dedicated, Shared, Reconfigurable}
use Rattle.iocm_model.specs.Machine.Record.{CarriedOperand}
use Rattle.iocm_objects.specs.declared.field.Field.{Field}
use Rattle.iocm_objects.specs.declared.object.Change.TheVariants.{Added, Deleted, Changed}
use Rattle.iocm_objects.specs.Carried.{carried_fields}
use Rattle.iocm_objects.specs.Fields.{device_fields, limit_fields, name_fields, path_fields, unit_fields}
use Rattle.iocm_objects.specs.Lines.{told_text}
use Rattle.iocm_objects.specs.Told.{told_of}

-- ---- records

abbrev pub lpa : List ℕ
lpa = codes "LPA"

abbrev pub lpb : List ℕ
lpb = codes "LPB"

abbrev pub operand : List ℕ → List ℕ → CarriedOperand
operand keyword text = record { keyword = Some keyword; text = text }

abbrev pub bare : List ℕ → CarriedOperand
bare text = record { keyword = None; text = text }

-- a path with these lists, and who is online
abbrev pub path_with : PathKind → List (List ℕ) → List (List ℕ) → List (List ℕ) → List Field
path_with kind access candidates online = path_fields (record {
  css = 0;
  number = 0x40;
  kind = kind;
  access = access;
  candidates = candidates;
  carried = [];
}) online

abbrev pub at : ℕ → ℕ → CssPath
at css path = record { css = css; path = path }

abbrev pub by : ℕ → Link → CssLink
by css l = record { css = css; link = l }

-- a control unit with these paths, links and CUADD, and with unit addresses up to this count
abbrev pub unit_with : List CssPath → List CssLink → ℕ → Option ℕ → List Field
unit_with paths links count cuadd = unit_fields (record {
  number = 0x2000;
  paths = paths;
  ranges = record { start = 0; count = count } ∷ record { start = 0x20; count = 1 } ∷ [];
  links = links;
  cuadd = cuadd;
  carried = [];
})

-- with these paths and links alone
abbrev pub cabled : List CssPath → List CssLink → List Field
cabled paths links = unit_with paths links 16 None

abbrev pub device_with : List ℕ → ℕ → Option (List (List ℕ)) → List Field
device_with units address candidates = device_fields (record {
  set = 0;
  number = 0x1000;
  units = units;
  unit_address = address;
  candidates = candidates;
  carried = [];
})

-- a device with these candidates
abbrev pub kept_for : Option (List (List ℕ)) → List Field
kept_for candidates = device_with (0x1000 ∷ []) 5 candidates

-- ---- what is told

abbrev pub added : List Field → List (List ℕ)
added fields = map (told_text 1) (told_of Added [] fields)

abbrev pub deleted : List Field → List (List ℕ)
deleted fields = map (told_text 1) (told_of Deleted fields [])

abbrev pub changed : List Field → List Field → List (List ℕ)
changed before after = map (told_text 1) (told_of Changed before after)

-- objects that are added or deleted
pub record FieldsAreAsWorked : Type 0 where
  -- operands in order, and the bare words at the place of the first
  pub carried : added (carried_fields (operand (codes "MSG1") (codes "'IODF10'") ∷ bare (codes "SPECIAL")
      ∷ operand (codes "TOK") (codes "('A',1)") ∷ bare (codes "OLD") ∷ []))
      ≡ codes "MSG1 'IODF10'" ∷ codes "words SPECIAL,OLD" ∷ codes "TOK ('A',1)" ∷ []
  pub image : added (name_fields lpa) ≡ codes "name LPA" ∷ []
  pub limit : deleted (limit_fields 16) ≡ codes "limit 16" ∷ []
  -- an access list of those that are online isn't told
  pub path : added (path_with Shared (lpa ∷ []) (lpa ∷ lpb ∷ []) (lpa ∷ []))
      ≡ codes "SHARED" ∷ codes "online LPA" ∷ codes "candidates LPA,LPB" ∷ []
  pub access : deleted (path_with Reconfigurable (lpb ∷ []) (lpa ∷ []) [])
      ≡ codes "REC" ∷ codes "online none" ∷ codes "candidates LPA,LPB" ∷ codes "access LPB" ∷ []
  pub dedicated : added (path_with Dedicated [] [] []) ≡ codes "DEDICATED" ∷ codes "online none" ∷ codes "candidates none" ∷ []
  -- channel subsystems with equal paths together, each path with its link
  pub unit : added (unit_with (at 0 0x40 ∷ at 0 0x41 ∷ at 1 0x40 ∷ at 1 0x41 ∷ at 2 0x50 ∷ [])
      (by 0 (link.Long 0x6512) ∷ by 1 (link.Long 0x6512) ∷ by 2 link.None ∷ []) 16 (Some 1))
      ≡ codes "PATH 0,1:40/6512,41;2:50/**" ∷ codes "UNITADD 00-0F,20" ∷ codes "CUADD 01" ∷ []
  pub device : added (device_with (0x1000 ∷ 0x2000 ∷ []) 5 None) ≡ codes "CUNUMBR 1000,2000" ∷ codes "UNITADD 05" ∷ []
  pub candidates : added (device_with [] 5 (Some (lpa ∷ [])))
      ≡ codes "CUNUMBR none" ∷ codes "UNITADD 05" ∷ codes "PARTITION LPA" ∷ []
  pub no_candidate : deleted (kept_for (Some [])) ≡ codes "CUNUMBR 1000" ∷ codes "UNITADD 05" ∷ codes "PARTITION 0" ∷ []

-- objects that are changed
pub record ChangesAreAsWorked : Type 0 where
  -- what was there before in its order, then what came
  pub operands : changed
      (carried_fields (operand (codes "UNIT") (codes "3390") ∷ operand (codes "SWITCH") (codes "62") ∷ []))
      (carried_fields (operand (codes "SYSTEM") (codes "(3931,1)") ∷ operand (codes "UNIT") (codes "3592") ∷ []))
      ≡ codes "UNIT 3390 -> 3592" ∷ codes "SWITCH 62 -> none" ∷ codes "SYSTEM none -> (3931,1)" ∷ []
  pub words : changed (carried_fields (bare (codes "SPECIAL") ∷ bare (codes "OLD") ∷ []))
      (carried_fields (bare (codes "SPECIAL") ∷ [])) ≡ codes "words SPECIAL,OLD -> SPECIAL" ∷ []
  -- nothing where operands are in another order
  pub otherwise : changed
      (carried_fields (operand (codes "UNIT") (codes "3390") ∷ operand (codes "STADET") (codes "Y") ∷ []))
      (carried_fields (operand (codes "STADET") (codes "Y") ∷ operand (codes "UNIT") (codes "3390") ∷ [])) ≡ []
  pub image : changed (name_fields lpa) (name_fields lpb) ≡ codes "name LPA -> LPB" ∷ []
  pub limit : changed (limit_fields 16) (limit_fields 32) ≡ codes "limit 16 -> 32" ∷ []
  pub other_use : changed (path_with Shared [] (lpa ∷ []) []) (path_with Reconfigurable [] (lpa ∷ []) [])
      ≡ codes "use SHARED -> REC" ∷ []
  pub online : changed (path_with Shared (lpa ∷ lpb ∷ []) [] (lpa ∷ [])) (path_with Shared (lpa ∷ lpb ∷ []) [] (lpb ∷ []))
      ≡ codes "online -LPA +LPB" ∷ []
  pub candidates : changed (path_with Shared [] (lpa ∷ []) []) (path_with Shared [] (lpb ∷ []) [])
      ≡ codes "candidates -LPA +LPB" ∷ []
  pub access : changed (path_with Shared [] (lpa ∷ lpb ∷ []) []) (path_with Shared (lpb ∷ []) (lpa ∷ lpb ∷ []) [])
      ≡ codes "access +LPB" ∷ []
  -- an access list that goes along with who is online isn't told
  pub access_online : changed (path_with Shared (lpa ∷ []) (lpa ∷ []) (lpa ∷ [])) (path_with Shared [] (lpa ∷ []) [])
      ≡ codes "online -LPA" ∷ []
  pub moved : changed (cabled (at 0 0x40 ∷ at 0 0x41 ∷ []) (by 0 (link.Long 0x6512) ∷ []))
      (cabled (at 0 0x44 ∷ at 0 0x41 ∷ []) (by 0 (link.Long 0x6512) ∷ [])) ≡ codes "PATH -0.40/6512 +0.44/6512" ∷ []
  -- paths that stay in another order
  pub turned : changed (cabled (at 0 0x40 ∷ at 0 0x41 ∷ []) (by 0 (link.Short 0x61) ∷ by 0 (link.Short 0x62) ∷ []))
      (cabled (at 0 0x41 ∷ at 0 0x40 ∷ []) (by 0 (link.Short 0x62) ∷ by 0 (link.Short 0x61) ∷ []))
      ≡ codes "PATH 0:40/61,41/62 -> 0:41/62,40/61" ∷ []
  -- links of paths that stay: of one number in two channel subsystems together
  pub links : changed (cabled (at 0 0x43 ∷ at 1 0x43 ∷ []) (by 0 (link.Long 0x6613) ∷ by 1 (link.Long 0x6613) ∷ []))
      (cabled (at 0 0x43 ∷ at 1 0x43 ∷ []) (by 0 (link.Long 0x6614) ∷ by 1 (link.Long 0x6614) ∷ []))
      ≡ codes "LINK 0,1.43 6613 -> 6614" ∷ []
  -- a link that is written as none isn't one that isn't written
  pub no_links : changed (cabled (at 0 0x40 ∷ at 0 0x41 ∷ []) (by 0 link.None ∷ []))
      (cabled (at 0 0x40 ∷ at 0 0x42 ∷ []) []) ≡ codes "PATH -0.41 +0.42" ∷ codes "LINK 0.40 ** -> none" ∷ []
  pub unit : changed (unit_with [] [] 16 (Some 0)) (unit_with [] [] 32 None)
      ≡ codes "UNITADD 00-0F,20 -> 00-1F,20" ∷ codes "CUADD 00 -> none" ∷ []
  pub device : changed (device_with (0x1000 ∷ []) 2 None) (device_with (0x2000 ∷ []) 8 None)
      ≡ codes "CUNUMBR 1000 -> 2000" ∷ codes "UNITADD 02 -> 08" ∷ []
  -- without a list all images are candidates
  pub listed : changed (kept_for None) (kept_for (Some (lpa ∷ []))) ≡ codes "PARTITION all -> LPA" ∷ []
  pub unlisted : changed (kept_for (Some [])) (kept_for None) ≡ codes "PARTITION 0 -> all" ∷ []
  pub other_list : changed (kept_for (Some (lpa ∷ []))) (kept_for (Some (lpb ∷ []))) ≡ codes "PARTITION -LPA +LPB" ∷ []
  pub emptied : changed (kept_for (Some (lpa ∷ []))) (kept_for (Some [])) ≡ codes "PARTITION LPA -> 0" ∷ []
  -- what stays isn't told
  pub same : changed (kept_for (Some (lpa ∷ []))) (kept_for (Some (lpa ∷ []))) ≡ []
