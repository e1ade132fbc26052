-- What clap's clauses say of the command line.
use Rattle.std.proofs.Common.{◌≡◌, ◌∙◌, ℕ, Bool, true, false, List, [], ◌∷◌, Option, None, Some, Result, Ok, Err}
use Rattle.std.proofs.Common.{MatchResult, IsErr, option_map, refl, sym, ap, subst, inl, inr}
use Rattle.std.proofs.lemmas.Bool.{false≢true}
use Rattle.std.specs.Prelude.{Box, if◌then◌else◌}
use Rattle.std.specs.Result.{IsErrAnd}
use Rattle.std.specs.Box.{box_value}
use Rattle.clap.specs.ValueTests.{accepts}
use Rattle.clap.specs.Words.{App, HasKind, HasMatchesOf, Kinds, Row, Text, fault_of}
use Rattle.clap.specs.Words.{subcommand_of, subcommand_rows, subcommand_rows_of, is_simple, is_simple_and_free}
use Rattle.clap.specs.declared.builder.value_parser.ValueParser.TheVariants.{Unsigned}
use Rattle.clap.specs.declared.parser.matches.ArgMatches.{ArgMatches}
use Rattle.clap.specs.declared.parser.matches.ArgMatches.TheViews.{out-SubCommand}
use Rattle.clap.specs.declared.parser.matches.SubCommand.{SubCommand}
use Rattle.clap.specs.declared.error.Error.{Error}
use Rattle.clap.proofs.OnLiterals.{clap_on_literals}
use Rattle.clap.proofs.ValueTestLemmas.{Accepts-accepts, accepts-Accepts}
use Rattle.iocm_statements.specs.Unread.{Refuses}
use Rattle.iocm_statements.specs.declared.unread.Unread.{Unread}
use Rattle.iocm_statements.specs.declared.unread.Unread.TheVariants.{Memory, Malformed}
use Rattle.iocm_values.specs.Reading.{◌>>=◌}
use Rattle.iocm_command.specs.CommandLine.{kinds_of, meant_by, mistakes, number_of, size_of}
use Rattle.iocm_command.specs.CommandLine.{GivesSize, IsSizeText}
use Rattle.iocm_command.specs.Program.{heap_parser, iocm_app}

-- ---- the program's command

-- clap states the mistakes of this program exactly
is_stated : is_simple_and_free iocm_app ≡ true
unfolding clap_on_literals
is_stated = refl

-- so an error of its call is of a kind that is stated for the words
pub is_mistaken : (app : App) (words : List Text) (e : Error) → app ≡ iocm_app
    → (is_simple_and_free app ≡ true → HasKind (fault_of app words) e) → HasKind (mistakes words) e
is_mistaken app words e same kinds =
    subst (λ (a : App). HasKind (fault_of a words) e) same (kinds (ap is_simple_and_free same ∙ is_stated))

-- and words that it takes have no mistake
pub is_accepted : (app : App) (words : List Text) → app ≡ iocm_app
    → (is_simple_and_free app ≡ true → fault_of app words ≡ []) → mistakes words ≡ []
is_accepted app words same kinds =
    ap (λ (a : App). fault_of a words) (sym same) ∙ kinds (ap is_simple_and_free same ∙ is_stated)

-- the program's command is simple
is_plain : is_simple iocm_app ≡ true
unfolding clap_on_literals
is_plain = refl

-- so the command that the words name is the one that clap entered, with its arguments
pub is_entered : (app : App) (words : List Text) (m : ArgMatches) → app ≡ iocm_app → HasMatchesOf app words m
    → subcommand_rows_of m ≡ subcommand_of iocm_app words
is_entered app words m same has = (has (ap is_simple same ∙ is_plain)).1 ∙ ap (λ (a : App). subcommand_of a words) same

-- ---- the command that was entered

-- the name and the rows of the subcommand that was used
pub used : {Z : Type 0} (o : Option (Box SubCommand Z)) (name : Text) (rows : List Row)
    → Some name ≡ option_map (λ b. (out-SubCommand (box_value b)).name.now) o
    → Some rows ≡ option_map (λ (p : Text × List Row). p.1) (subcommand_rows o) → subcommand_rows o ≡ Some (name, rows)
used None name rows named has = cc
used (Some b) name rows named has = cc

-- none was
pub none_used : (o : Option (Text × List Row)) → None ≡ option_map (λ (p : Text × List Row). p.1) o → o ≡ None
none_used None is = refl
none_used (Some p) is = cc

-- ---- the size of a heap

-- a text that gives a size passes the parser
pub size_passes : (text : Text) → IsSizeText text → accepts false heap_parser text ≡ true
unfolding heap_parser
size_passes text sized = Accepts-accepts false (Unsigned 16 16777216) text sized

-- and only such a text does
size_passed : (text : Text) → accepts false heap_parser text ≡ true → IsSizeText text
unfolding heap_parser
size_passed text passes = accepts-Accepts false (Unsigned 16 16777216) text passes

pub size_found : (text : Text) → accepts false heap_parser text ≡ true → size_of text ≡ Some (number_of text)
size_found text passes = ap (λ (b : Bool). if b then Some (number_of text) else None) passes

pub size_given : (text : Text) (size : ℕ) → GivesSize text size → size_of text ≡ Some size
size_given text size gives = size_found text (size_passes text gives.0) ∙ ap Some (sym gives.1)

pub size_missing : (text : Text) → (IsSizeText text → false ≡ true) → size_of text ≡ None
size_missing text never = go (accepts false heap_parser text) refl
  where
    go : (b : Bool) → accepts false heap_parser text ≡ b → size_of text ≡ None
    go false is = ap (λ (b : Bool). if b then Some (number_of text) else None) is
    go true is = absurd (false≢true (never (size_passed text is)))

-- ---- what a call answers

-- where there is nothing to go on with, there is nothing
pub refuses_on : {A B : Type 0} (why : Unread) (read : Option A) (f : A → Option B) → Refuses why read
    → Refuses why (read >>= f)
refuses_on {A = A} Memory read f refuses = tt
refuses_on {A = A} Malformed read f refuses = ap (λ (o : Option A). o >>= f) refuses

-- words that clap refuses have one of its kinds
pub is_of_kind : (kinds : Kinds) (named : Option (Text × List Row)) (e : Error) → HasKind kinds e
    → HasKind (kinds_of (meant_by kinds named)) e
is_of_kind [] named e (inl memory) = inl memory
is_of_kind [] named e (inr among) = elim among [ ]
is_of_kind (kind ∷ kinds) named e has = has

-- an error that a call passes on has what it had
pub passed_on : {X : Type 0} (result : Result X Error) (given : Error) (P : X → Type 0) (Q : Error → Type 0) → Q given
    → IsErr result × IsErrAnd result (λ e. e ≡ given) → MatchResult result P Q
passed_on (Ok x) given P Q has is = let bad : false ≡ true = is.0 in cc
passed_on (Err e) given P Q has is = subst Q (sym is.1) has
