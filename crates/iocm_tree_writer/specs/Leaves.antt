-- The statement that is written of a leaf: of the record that an edit adds or modifies, or of the
-- key that it deletes. The operands stand in the canonical form; the forms of what is deleted are
-- own.
use Rattle.std.specs.Prelude.{ℕ, Some, List, [], ◌∷◌, ◌++◌, codes}
use Rattle.std.specs.Option.{option_map_or}
use Rattle.iocm_types.specs.declared.key.Key.{Key}
use Rattle.iocm_types.specs.declared.key.Key.TheVariants as key
use Rattle.iocm_types.specs.Print.{hex4}
use Rattle.iocm_model.specs.Change.Edit.{Action, action_key, record_after}
use Rattle.iocm_model.specs.Machine.Record.{Rec, id, resource, image, limit, path, unit, device, online}
use Rattle.iocm_statements.specs.declared.operation.Operation.TheVariants.{Id, Resource, Chpid, Cntlunit}
use Rattle.iocm_statements.specs.declared.operation.Operation.TheVariants.{Iodevice, Online}
use Rattle.iocm_tree.specs.declared.verb.Verb.{Verb}
use Rattle.iocm_tree.specs.declared.verb.Verb.TheVariants.{Add, Delete, Modify}
use Rattle.iocm_operands.specs.ChpidPath.{path_text}
use Rattle.iocm_operands.specs.Device.{devices_text}
use Rattle.iocm_values.specs.NameSet.{names_text}
use Rattle.iocm_deck_writer.specs.Canonical.{chpid_statement, cntlunit_statement}
use Rattle.iocm_deck_writer.specs.Device.{iodevice_statement, set_operand}
use Rattle.iocm_deck_writer.specs.Resource.{resource_operands}
use Rattle.iocm_deck_writer.specs.Statement.{Statement, valued}

-- that a path is online to an image: PATH=(CSS(0),50),PARTITION=(LPA)
abbrev pub online_statement : ℕ → ℕ → List ℕ → Statement
online_statement css number name = record {
  operation = Online;
  operands =
      valued (codes "PATH") (Some (path_text (record { css = css; path = number })))
      ++ valued (codes "PARTITION") (Some (names_text (name ∷ [])));
}

-- the statement of one record, in the canonical form
abbrev pub record_statement : Rec → Statement
record_statement (id carried) = record { operation = Id; operands = carried }
record_statement (resource carried) = record { operation = Resource; operands = carried }
record_statement (image i) = record { operation = Resource; operands = resource_operands (i ∷ []) [] }
record_statement (limit l) = record { operation = Resource; operands = resource_operands [] (l ∷ []) }
record_statement (path p) = chpid_statement p
record_statement (unit u) = cntlunit_statement u
record_statement (device d) = iodevice_statement (record { first = d; count = 1 })
record_statement (online o) = online_statement o.css o.path o.name

-- a record that a configuration deck writes by a statement of its own; an Online record stands
-- there in the lists of its path
abbrev pub IsDeckRecord : Rec → Type 0
IsDeckRecord (online o) = ⊥
IsDeckRecord r = Unit {0}

-- the statement of a key alone: a deleted image is (*,digit), a deleted limit 0, a deleted device
-- (number,1)
abbrev pub key_statement : Key → Statement
key_statement key.Id = record { operation = Id; operands = [] }
key_statement key.Resource = record { operation = Resource; operands = [] }
key_statement (key.Image css mif) = record_statement (image (record { css = css; mif = mif; name = codes "*" }))
key_statement (key.Limit css set) = record_statement (limit (record { css = css; set = set; limit = 0 }))
key_statement (key.Path css number) = record {
  operation = Chpid;
  operands = valued (codes "PATH") (Some (path_text (record { css = css; path = number })));
}
key_statement (key.Unit number) = record {
  operation = Cntlunit;
  operands = valued (codes "CUNUMBR") (Some (hex4 number));
}
key_statement (key.Device set number) = record {
  operation = Iodevice;
  operands =
      valued (codes "ADDRESS") (Some (devices_text (record { first = number; count = 1 })))
      ++ valued (codes "SCHSET") (set_operand set);
}
key_statement (key.Online css number name) = online_statement css number name

-- the statement of an action: of the record that it leaves, or of its key where it leaves none
abbrev pub action_statement : Action → Statement
action_statement a = option_map_or record_statement (record_after a) (key_statement (action_key a))

-- the word of a verb, which stands in the name field
abbrev pub verb_name : Verb → List ℕ
verb_name Add = codes "ADD"
verb_name Delete = codes "DELETE"
verb_name Modify = codes "MODIFY"
