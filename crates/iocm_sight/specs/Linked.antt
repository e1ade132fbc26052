-- The paths of a control unit with their links, by channel subsystem.
-- IOCP User's Guide, CNTLUNIT statement, LINK: the links of a channel subsystem stand in the order of its paths.
use Rattle.std.specs.Prelude.{ℕ, None, Some, List, [], ◌∷◌}
use Rattle.std.specs.List.{flat_map}
use Rattle.iocm_types.specs.declared.link.Link.{Link}
use Rattle.iocm_model.specs.Machine.Numbering.{subsystems}
use Rattle.iocm_model.specs.Machine.PathList.{paths_in}
use Rattle.iocm_model.specs.Machine.Record.{UnitRecord}
use Rattle.iocm_model.specs.Rules.EachRule.{links_in}
use Rattle.iocm_words.specs.declared.paths.LinkedPath.{LinkedPath}

-- the paths of a channel subsystem, each with the link at its place among the links there, if it has one
abbrev pub with_their_links : ℕ → List ℕ → List Link → List LinkedPath
with_their_links css [] links = []
with_their_links css (p ∷ ps) [] = record { css = css; path = p; link = None } ∷ with_their_links css ps []
with_their_links css (p ∷ ps) (l ∷ ls) = record { css = css; path = p; link = Some l } ∷ with_their_links css ps ls

abbrev pub linked_in : UnitRecord → ℕ → List LinkedPath
linked_in u css = with_their_links css (paths_in css u.paths) (links_in css u.links)

abbrev pub linked_paths : UnitRecord → List LinkedPath
linked_paths u = flat_map (linked_in u) subsystems
