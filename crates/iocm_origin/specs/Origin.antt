-- Whether a text is refused so, and where in it the refusal comes from.
use Rattle.std.specs.Prelude.{◌≡◌, ℕ, zero, suc, ◌==◌, if◌then◌else◌, length, ⊤, Option, None, Some, List, []}
use Rattle.std.specs.Prelude.{Result, Ok, Err}
use Rattle.std.specs.List.{slice_get}
use Rattle.std.specs.Str.Lines.{lines, strip_carriage_return}
use Rattle.iocm_types.specs.declared.fault.Fault.{Fault}
use Rattle.iocm_types.specs.Fault.{◌>>=◌}
use Rattle.iocm_statements.specs.declared.statement.Statement.{Statement}
use Rattle.iocm_tree.specs.Trees.{CarriedTree}
use Rattle.iocm_tree_reader.specs.Reading.{read_tree}
use Rattle.iocm_script.specs.Scripts.{script_in}
use Rattle.iocm_console.specs.declared.refusal.About.{About}
use Rattle.iocm_console.specs.declared.refusal.About.TheVariants as about
use Rattle.iocm_console.specs.declared.refusal.Refusal.{Refusal}
use Rattle.iocm_console.specs.Opening.{opened_deck, statements_in}
use Rattle.iocm_console.specs.Refusal.{or_refused}
use Rattle.iocm_origin.specs.declared.origin.Origin.{Origin}
use Rattle.iocm_origin.specs.declared.origin.Origin.TheVariants.{Line, End, Whole}
use Rattle.iocm_origin.specs.Keys.{line_of_key}
use Rattle.iocm_origin.specs.Nodes.{line_of_node}

-- ---- where

-- the line of this number, or the end
abbrev pub line_or_end : Option ℕ → Origin
line_or_end (Some line) = Line line
line_or_end None = End

-- the line that a refusal is about, or the whole text
abbrev pub line_or_whole : About → Origin
line_or_whole (about.Line line) = Line line
line_or_whole _ = Whole

-- the statements of a text, none if it has a fault
abbrev pub if_read : Result (List Statement) Fault → List Statement
if_read (Ok ss) = ss
if_read (Err fault) = []

abbrev pub statements_of : List ℕ → List Statement
statements_of text = if_read (statements_in text)

-- a refusal of a deck comes from the statement that brings the key that it is about, or from its line
abbrev pub place_in_deck : List ℕ → About → Origin
place_in_deck deck (about.Key key) = line_or_end (line_of_key (statements_of deck) key)
place_in_deck deck other = line_or_whole other

-- the statement that gives a node; the end if none does, as for the Row round all of them; the whole
-- text if no node is named
abbrev pub place_of_node : List Statement → Option ℕ → Origin
place_of_node ss (Some node) = line_or_end (line_of_node ss node)
place_of_node ss None = Whole

-- a refusal of a change comes from its line if it is about one, else from its node
abbrev pub place_in_change : List ℕ → Option ℕ → About → Origin
place_in_change change n (about.Line line) = Line line
place_in_change change n _ = place_of_node (statements_of change) n

-- ---- a text is refused so, and the refusal comes from there

pub record IsOriginInDeck (deck : List ℕ) (why : Refusal) (origin : Origin) : Type 0 where
  pub refusal : opened_deck deck ≡ Err why
  pub place : origin ≡ place_in_deck deck why.about

-- the tree of a change deck, or its first fault
abbrev pub change_in : List ℕ → Result CarriedTree Fault
change_in change = statements_in change >>= read_tree

-- what a refusal of a change is about: about a line it is the deck's first fault, and about a key it
-- names a node, since the rules of a whole configuration are those of its deck
abbrev pub MayBeOfChange : List ℕ → Refusal → Option ℕ → About → Type 0
MayBeOfChange change why n (about.Line line) = or_refused (change_in change) ≡ Err why
MayBeOfChange change why None (about.Key key) = ⊥
MayBeOfChange change why n _ = ⊤

abbrev pub IsOfChange : List ℕ → Refusal → Type 0
IsOfChange change why = MayBeOfChange change why why.node why.about

pub record IsOriginInChange (change : List ℕ) (why : Refusal) (origin : Origin) : Type 0 where
  pub refusal : IsOfChange change why
  pub place : origin ≡ place_in_change change why.node why.about

-- of a script, for so many change decks
pub record IsOriginInScript (changes : ℕ) (script : List ℕ) (why : Refusal) (origin : Origin) : Type 0 where
  pub refusal : or_refused (script_in changes script) ≡ Err why
  pub place : origin ≡ line_or_whole why.about

-- ---- a line

-- the line of this number, counted from 1, without its line end
abbrev pub line_of : List ℕ → ℕ → Option (List ℕ)
line_of text zero = None
line_of text (suc n) = slice_get (lines text) n

-- a line by what stands there between line feeds, and what stands behind it
abbrev pub line_at : Option (List ℕ) → Option (List ℕ) → Option (List ℕ)
line_at None next = None
line_at (Some part) None = if length part == 0 then None else Some part
line_at (Some part) (Some next) = Some (strip_carriage_return part)
