-- How `clap` walks over words that name a command, words that don't begin with a hyphen, and options.
use Rattle.std.proofs.Common.{◌≡◌, ◌==◌, ◌∙◌, ℕ, Bool, true, false, List, [], ◌∷◌, ◌++◌, Option, None, Some, fold}
use Rattle.std.proofs.Common.{is_some, map, option_map, refl, sym, ap, ap₂}
use Rattle.std.specs.Option.{option_map_or}
use Rattle.std.specs.Prelude.{find, if◌then◌else◌}
use Rattle.clap.specs.Faults.{check_fault, defaults_fault, entered_fault, level_fault, settle_fault, step_fault}
use Rattle.clap.specs.Faults.{turn_fault, walk_fault}
use Rattle.clap.specs.Kinds.{or_else}
use Rattle.clap.specs.Simple.{Shape, built, entered, label_of, names_of, rows_at}
use Rattle.clap.specs.Walk.{Held, Names, Rule, Step, Waiting, Walk, after_step, answers_to, finished, idle}
use Rattle.clap.specs.Walk.{nothing_held}
use Rattle.clap.specs.Walk.{plain_word, positional, settled, value, walk, walk_from, walked}
use Rattle.clap.specs.Walk.{option as waits}
use Rattle.clap.specs.Words.{Kinds, Row, Text, fault_of, subcommand_of}
use Rattle.clap.proofs.FaultLemmas.{stopped_fault}
use Rattle.clap.proofs.OnLiterals.{clap_on_literals}
use Rattle.clap.proofs.WalkLemmas.{walk_stopped}
use Rattle.iocm_command.specs.CommandLine.{Meant, meant_by, outcome, understood_in}
use Rattle.iocm_command.specs.Plain.{IsPlainName, Mean, plainly}
use Rattle.iocm_command.specs.Program.{iocm_app}

abbrev pub top : Shape
top = (built iocm_app).top

abbrev pub names : Names
names = names_of (built iocm_app)

-- the walk over the name of a command and words after it stops there, and leaves them to the command
abbrev pub stopped_at : Text → List Text → Walk
stopped_at name words = record (walk_from nothing_held) { stopped = Some (name, words) }

-- a command of the program has this shape
pub record Leaf (shape : Shape) : Type 0 where
  pub walks : walked top.rules names (walk_from nothing_held) shape.name ≡ stopped_at shape.name []
  pub passes : turn_fault top names (walk_from nothing_held) shape.name ≡ []
  pub found : find (λ s. answers_to shape.name (label_of s)) (built iocm_app).subs ≡ Some shape

-- ---- words of a command

-- a word that doesn't begin with a hyphen, and an option that is written out
pub data Said : Type 0 where
  plain : Text → Said
  option : Text → Said

abbrev pub text_of : Said → Text
text_of (plain text) = text
text_of (option text) = text

abbrev pub ArePlain : List Said → Type 0
ArePlain [] = Unit {0}
ArePlain (plain text ∷ words) = IsPlainName text × ArePlain words
ArePlain (option text ∷ words) = ArePlain words

-- what a plain word is met as: a value of the option that waits for one, or of an argument by its place
abbrev met : List Rule → Walk → Text → Held × Step
met rules w text = if w.is_trailing then (w.held, value) else plain_word rules w.waiting text w.held

-- the walk after one more word, and its mistakes; what a plain word begins with isn't looked at
abbrev went_on : List Rule → Option (Text × List Text) → Walk → Text → Walk
went_on rules (Some p) w text = record w { stopped = Some (p.0, p.1 ++ text ∷ []) }
went_on rules None w text = after_step rules text w (met rules w text).0 (met rules w text).1

abbrev pub goes : List Rule → Walk → Said → Walk
goes rules w (plain text) = went_on rules w.stopped w text
goes rules w (option text) = walked rules [] w text

abbrev fault_at : Shape → Walk → Said → Kinds
fault_at s w (plain text) =
    if is_some w.stopped then [] else step_fault s w.position (met s.rules w text).0 (met s.rules w text).1
fault_at s w (option text) = turn_fault s [] w text

abbrev pub faults : Shape → Walk → List Said → Kinds
faults s w [] = []
faults s w (word ∷ words) = or_else (fault_at s w word) (faults s (goes s.rules w word) words)

-- a plain word is met in this way
abbrev at : Held → Waiting → ℕ → Bool → Option (Text × List Text) → Walk
at h waiting position trailing stopped =
    record { held = h; waiting = waiting; position = position; is_trailing = trailing; stopped = stopped }

plain_goes : (s : Shape) (h : Held) (waiting : Waiting) (position : ℕ) (trailing : Bool)
    (stopped : Option (Text × List Text)) (d : ℕ) (ds : List ℕ) → (d == 45) ≡ false
    → let w = at h waiting position trailing stopped in
    (walked s.rules [] w (d ∷ ds) ≡ goes s.rules w (plain (d ∷ ds)))
    × (turn_fault s [] w (d ∷ ds) ≡ fault_at s w (plain (d ∷ ds)))
unfolding clap_on_literals
plain_goes s h waiting position trailing (Some p) d ds dh = (refl, refl)
plain_goes s h waiting position true None d ds dh = (refl, refl)
plain_goes s h idle position false None d ds dh = (simp dh, simp dh)
plain_goes s h (waits id) position false None d ds dh = (simp dh, simp dh)
plain_goes s h positional position false None d ds dh = (simp dh, simp dh)

plain_is_met : (s : Shape) (w : Walk) (text : Text) → IsPlainName text
    → (walked s.rules [] w text ≡ goes s.rules w (plain text)) × (turn_fault s [] w text ≡ fault_at s w (plain text))
plain_is_met s w text (d, ds, is, dh) =
    rw is (plain_goes s w.held w.waiting w.position w.is_trailing w.stopped d ds dh)

-- and so are all words
all_go : (s : Shape) (words : List Said) → ArePlain words → (w : Walk)
    → (fold (walked s.rules []) w (map text_of words) ≡ fold (goes s.rules) w words)
    × (walk_fault s [] w (map text_of words) ≡ faults s w words)
unfolding walk_fault
all_go s [] are w = (refl, refl)
all_go s (plain text ∷ words) are w =
    let (goes_on, passes) = plain_is_met s w text are.0 in
    let rest = all_go s words are.1 (goes s.rules w (plain text)) in (
      ap (λ (v : Walk). fold (walked s.rules []) v (map text_of words)) goes_on ∙ rest.0,
      ap₂ or_else passes (ap (λ (v : Walk). walk_fault s [] v (map text_of words)) goes_on ∙ rest.1),
    )
all_go s (option text ∷ words) are w =
    let rest = all_go s words are (walked s.rules [] w text) in
    (rest.0, ap (or_else (turn_fault s [] w text)) rest.1)

-- the mistakes from a place of the walk on, by those of the words and by what is held after them
abbrev mistakes_by : Shape → Kinds → Held → Kinds
mistakes_by s walked end = or_else walked (or_else (settle_fault s.rules s.args_override_self end)
    (or_else (defaults_fault (settled s.rules end).rows s.rules) (check_fault s (finished s.rules end) false)))

-- words from a place of the walk on have none, and ask for this command
abbrev pub Asks : Shape → Walk → List Said → Meant → Type 0
Asks s w words command = (mistakes_by s (faults s w words) (fold (goes s.rules) w words).held ≡ [])
    × (understood_in (Some (s.name, finished s.rules (fold (goes s.rules) w words).held))
    ≡ Some (plainly command))

-- ---- a command and its words

module _ (shape : Shape) (leaf : Leaf shape) where
  top_walk : (words : List Text) → walk top.rules names nothing_held (shape.name ∷ words) ≡ stopped_at shape.name words
  top_walk words = ap (λ (w : Walk). fold (walked top.rules names) w words) leaf.walks
      ∙ sym (walk_stopped top.rules names (walk_from nothing_held) shape.name [] words)

  top_faults : (words : List Text) → walk_fault top names (walk_from nothing_held) (shape.name ∷ words) ≡ []
  unfolding walk_fault
  top_faults words = ap₂ or_else leaf.passes (ap (λ (w : Walk). walk_fault top names w words) leaf.walks
      ∙ stopped_fault top names (walk_from nothing_held) (shape.name, []) words)

  -- the mistakes by those of the walk over the program's own words and by where that ends
  abbrev mistakes_above : Kinds → Walk → Kinds
  mistakes_above walked end = or_else walked (or_else (entered_fault (built iocm_app) end.stopped)
      (or_else (settle_fault top.rules top.args_override_self end.held)
      (or_else (defaults_fault (settled top.rules end.held).rows top.rules)
      (check_fault top (finished top.rules end.held) (is_some (entered (built iocm_app) end.stopped))))))

  -- the same by the command that has the name
  abbrev mistakes_of : List Text → Option Shape → Kinds
  mistakes_of words command = or_else
      (option_map_or (λ s. level_fault s [] nothing_held words false []) command [])
      (or_else (settle_fault top.rules top.args_override_self nothing_held)
      (or_else (defaults_fault (settled top.rules nothing_held).rows top.rules)
      (check_fault top (finished top.rules nothing_held) (is_some (option_map (λ s. rows_at s words) command)))))

  -- so the mistakes in words after the name are those that the command finds in them
  found_below : (program : Text) (words : List Text)
      → fault_of iocm_app (program ∷ shape.name ∷ words)
      ≡ or_else (level_fault shape [] nothing_held words false []) []
  unfolding clap_on_literals
  found_below program words =
      ap₂ mistakes_above (top_faults words) (top_walk words) ∙ ap (mistakes_of words) leaf.found

  -- and the command that they name is this one, with what it makes of them
  named_below : (program : Text) (words : List Text)
      → subcommand_of iocm_app (program ∷ shape.name ∷ words)
      ≡ Some (shape.name, finished shape.rules (walk shape.rules [] nothing_held words).held)
  unfolding clap_on_literals
  named_below program words = ap (λ (w : Walk). entered (built iocm_app) w.stopped) (top_walk words)
      ∙ ap (option_map (λ (s : Shape). rows_at s words)) leaf.found

  -- words that ask for a command mean it
  abbrev named : Walk → Option (Text × List Row)
  named w = Some (shape.name, finished shape.rules w.held)

  pub is_read : (program : Text) (words : List Said) (command : Meant) → ArePlain words
      → Asks shape (walk_from nothing_held) words command → Mean (program ∷ shape.name ∷ map text_of words) command
  is_read program words command are asks =
      let (ended, passes) = all_go shape words are (walk_from nothing_held) in
      ap₂ meant_by
      (found_below program (map text_of words) ∙ ap (λ (kinds : Kinds). or_else kinds [])
      (ap₂ (mistakes_by shape) passes (ap (λ (w : Walk). w.held) ended) ∙ asks.0))
      (named_below program (map text_of words) ∙ ap named ended)
      ∙ ap (outcome [] (named (fold (goes shape.rules) (walk_from nothing_held) words))) asks.1
