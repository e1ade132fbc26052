-- Links of units on their paths. IOCP User's Guide, CNTLUNIT statement, LINK keyword; which of them
-- are refused is own.
use Rattle.std.specs.Prelude.{ℕ, ◌==◌, ◌&&◌, Bool, not, List, length}
use Rattle.std.specs.List.{list_any}
use Rattle.iocm_types.specs.declared.css_path.CssPath.{CssPath}
use Rattle.iocm_types.specs.declared.link.CssLink.{CssLink}
use Rattle.iocm_types.specs.declared.link.Link.{Link}
use Rattle.iocm_model.specs.Machine.PathList.{paths_in}
use Rattle.iocm_model.specs.Machine.Record.{UnitRecord}
use Rattle.iocm_model.specs.Rules.EachRule.{links_in, linked_paths, same_link}

-- a unit is on a path of a channel subsystem with the same link
abbrev pub is_on_link : ℕ → UnitRecord → ℕ × Link → Bool
is_on_link css u p = list_any (λ (q : ℕ × Link). (p.0 == q.0) && same_link p.1 q.1) (linked_paths css u)

-- two units have the path of this number of a channel subsystem with the same link
abbrev pub share_link_on : ℕ → ℕ → UnitRecord → UnitRecord → Bool
share_link_on css number a b =
    list_any (λ (p : ℕ × Link). (number == p.0) && is_on_link css b p) (linked_paths css a)

-- there are links in a channel subsystem, and other than as many as paths
abbrev pub has_other_links : List CssPath → List CssLink → ℕ → Bool
has_other_links paths links css =
    not (length (links_in css links) == 0) && not (length (links_in css links) == length (paths_in css paths))
