-- What decks give: the conditions that each record meets which was read from a deck. Under them it
-- can be written and is read again. IOCP User's Guide, the statements; the limits are those of the
-- operands.
use Rattle.std.specs.Prelude.{◌≡◌, ◌≢◌, ◌≤◌, ◌<◌, ℕ, true, IsTrue, Some, List, [], ◌∷◌, ◌++◌, All}
use Rattle.std.specs.List.{list_all}
use Rattle.iocm_types.specs.declared.css_path.CssPath.{CssPath}
use Rattle.iocm_types.specs.declared.link.CssLink.{CssLink}
use Rattle.iocm_columns.specs.Cards.{is_printable}
use Rattle.iocm_columns.specs.Part.{is_quoting}
use Rattle.iocm_model.specs.Machine.Record.{Rec, CarriedOperand, PathRecord, UnitRecord, DeviceRecord}
use Rattle.iocm_model.specs.Machine.Record.{id, resource, image, limit, path, unit, device, online}
use Rattle.iocm_statements.specs.declared.operation.Operation.{Operation}
use Rattle.iocm_statements.specs.declared.operation.Operation.TheVariants.{Id, Resource, Chpid, Cntlunit, Iodevice}
use Rattle.iocm_statements.specs.Operands.{Operand}
use Rattle.iocm_keywords.specs.Known.{is_carried}
use Rattle.iocm_operands.specs.Again.{IsPath, IsRange, IsNameSet, AreByCss, IsLink, IsImage, IsLimit}
use Rattle.iocm_deck_writer.specs.Again.{key_at, ArePlaceable}

-- a text as it stands in the columns of a deck: printable, with its blanks inside quotes
pub record IsInColumns (text : List ℕ) : Type 0 where
  pub printable : IsTrue (list_all is_printable text)
  pub blanks : (before after : List ℕ) → text ≡ before ++ 32 ∷ after → IsTrue (is_quoting before)

-- a carried operand as an operand of its statement
abbrev pub as_operand : CarriedOperand → Operand
as_operand o = (key_at 0 o.keyword, o.text)

-- operands that a statement of this operation carries: they can stand in one operand part and in
-- columns, and the statement knows none
pub record AreCarriedBy (operation : Operation) (operands : List CarriedOperand) : Type 0 where
  pub placeable : ArePlaceable operands
  pub texts : All (λ (o : CarriedOperand). IsInColumns o.text) operands
  pub unknown : All (λ (o : CarriedOperand). is_carried operation (as_operand o) ≡ true) operands

-- a channel path
pub record IsGivenPath (p : PathRecord) : Type 0 where
  pub path : IsPath (record { css = p.css; path = p.number })
  pub access : IsNameSet p.access
  pub candidates : IsNameSet p.candidates
  pub carried : AreCarriedBy Chpid p.carried

-- a control unit: it may have no paths and no links, but has a range
pub record IsGivenUnit (u : UnitRecord) : Type 0 where
  pub number : u.number ≤ 65534
  pub paths : u.paths ≢ [] → AreByCss (λ (p : CssPath). p.css) IsPath u.paths
  pub some_range : u.ranges ≢ []
  pub ranges : All IsRange u.ranges
  pub links : u.links ≢ [] → AreByCss (λ (l : CssLink). l.css) IsLink u.links
  pub cuadd : (address : ℕ) → u.cuadd ≡ Some address → address < 256
  pub carried : AreCarriedBy Cntlunit u.carried

-- a device
pub record IsGivenDevice (d : DeviceRecord) : Type 0 where
  pub set : d.set ≤ 3
  pub number : d.number < 65536
  pub units : All (λ unit. unit ≤ 65534) d.units
  pub unit_address : d.unit_address < 256
  pub candidates : (names : List (List ℕ)) → d.candidates ≡ Some names → IsNameSet names
  pub carried : AreCarriedBy Iodevice d.carried

-- what a RESOURCE statement carries is a record where there is any
pub record IsGivenResource (operands : List CarriedOperand) : Type 0 where
  pub some : operands ≢ []
  pub carried : AreCarriedBy Resource operands

-- a record of a deck; that a path is online says nothing, for it is the path's access list that is
-- written
abbrev pub IsGiven : Rec → Type 0
IsGiven (id carried) = AreCarriedBy Id carried
IsGiven (resource carried) = IsGivenResource carried
IsGiven (image i) = IsImage i
IsGiven (limit l) = IsLimit l
IsGiven (path p) = IsGivenPath p
IsGiven (unit u) = IsGivenUnit u
IsGiven (device d) = IsGivenDevice d
IsGiven (online o) = Unit {0}
