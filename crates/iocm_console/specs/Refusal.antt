-- Refusals: what each kind of them is about, and how they are printed.
use Rattle.std.specs.Prelude.{◌≡◌, ◌⊎◌, ℕ, Bool, true, false, List, [], ◌∷◌, ◌++◌, codes, Option, None, Some, Result}
use Rattle.std.specs.Prelude.{Ok, Err, if◌then◌else◌}
use Rattle.std.specs.Fmt.{digits}
use Rattle.iocm_types.specs.declared.fault.Fault.{Fault}
use Rattle.iocm_types.specs.declared.rule.Rule.{Rule}
use Rattle.iocm_types.specs.declared.rule.Rule.TheVariants.{M1}
use Rattle.iocm_types.specs.declared.refused.At.{At}
use Rattle.iocm_types.specs.declared.refused.At.TheVariants as at
use Rattle.iocm_types.specs.declared.refused.Refused.{Refused}
use Rattle.iocm_types.specs.Key.{key_text}
use Rattle.iocm_types.specs.Rule.{rule_text}
use Rattle.iocm_lines.specs.Members.{subchannel_name}
use Rattle.iocm_model.specs.Rules.FirstBreach.{Breach}
use Rattle.iocm_console.specs.declared.refusal.About.{About}
use Rattle.iocm_console.specs.declared.refusal.About.TheVariants.{Line, Key, Subchannel, Change, Nothing}
use Rattle.iocm_console.specs.declared.refusal.Refusal.{Refusal}

-- ---- what is refused

-- a refusal that names no node
abbrev pub refusal_about : Rule → About → Refusal
refusal_about number about = record { number = number; node = None; about = about }

-- memory is missing
abbrev pub no_memory : Refusal
no_memory = refusal_about M1 Nothing

-- the fault of a text at its line; lack of memory has none
abbrev pub is_memory : Rule → Bool
is_memory M1 = true
is_memory _ = false

abbrev pub of_fault : Fault → Refusal
of_fault fault = refusal_about fault.rule (if is_memory fault.rule then Nothing else Line fault.line)

-- a rule that a record breaks
abbrev pub of_breach : Breach → Refusal
of_breach b = refusal_about b.rule (Key b.key)

-- a change that isn't made, or a machine that isn't opened
abbrev pub about_of : At → About
about_of (at.Key key) = Key key
about_of (at.Subchannel s) = Subchannel s
about_of (at.Change number) = Change number
about_of at.Nothing = Nothing

abbrev pub of_change : Refused → Refusal
of_change why = record { number = why.rule; node = why.node; about = about_of why.at }

-- ---- go on, or be refused

-- what was read, or the refusal of its fault
abbrev pub or_refused : {A : Type 0} → Result A Fault → Result A Refusal
or_refused (Ok x) = Ok x
or_refused (Err fault) = Err (of_fault fault)

-- go on with what there is, or answer the refusal
infixl 10 ◌>>-◌
abbrev pub ◌>>-◌ : {A B : Type 0} → Result A Refusal → (A → Result B Refusal) → Result B Refusal
(Ok x) >>- f = f x
(Err why) >>- f = Err why

-- what there is, as it is shown, or the refusal, just as was to be given; lack of memory may come instead
abbrev pub Decides : {X Y : Type 0} → (X → Y) → Result X Refusal → Result Y Refusal → Type 0
Decides view (Ok x) due = due ≡ Ok (view x)
Decides view (Err why) due = (why ≡ no_memory) ⊎ (due ≡ Err why)

-- ---- how it is printed

-- where in a change tree it came, in decimal
abbrev pub node_text : Option ℕ → List ℕ
node_text None = []
node_text (Some node) = codes " node " ++ digits 10 false node

-- what it is about
abbrev pub about_text : About → List ℕ
about_text (Line line) = codes " line " ++ digits 10 false line
about_text (Key key) = codes " " ++ key_text key
about_text (Subchannel s) = codes " subchannel " ++ subchannel_name s
about_text (Change number) = codes " change " ++ digits 10 false number
about_text Nothing = []

-- its number, the node of the change tree, and what it is about, as far as it names them
abbrev pub refusal_text : Refusal → List ℕ
refusal_text why =
    codes "refused " ++ (rule_text why.number ++ (node_text why.node ++ about_text why.about))

-- its line, with its end
abbrev pub refusal_line : Refusal → List ℕ
refusal_line why = refusal_text why ++ 10 ∷ []
