-- What `vary` prints: a change deck that takes paths offline for images, or online.
use Rattle.std.specs.Prelude.{ℕ, ◌==◌, ◌&&◌, Bool, true, false, not, List, [], ◌∷◌, ◌++◌, Option, None, Some, is_some}
use Rattle.std.specs.Prelude.{if◌then◌else◌}
use Rattle.std.specs.List.{flat_map, list_any}
use Rattle.iocm_types.specs.declared.key.Key.TheVariants as key
use Rattle.iocm_model.specs.Change.Edit.{Action, add, delete}
use Rattle.iocm_model.specs.Machine.Configuration.{Configuration, lookup_of, records_of}
use Rattle.iocm_model.specs.Machine.Record.{Rec, PathRecord, image, path, online}
use Rattle.iocm_model.specs.Rules.EachRule.{same_name}
use Rattle.iocm_list.specs.PathRows.{users_of}
use Rattle.iocm_lookup.specs.Kinds.{of_kind}
use Rattle.iocm_filter.specs.Wanted.{Wanted, means_path, one_if_asked}
use Rattle.iocm_filter.specs.declared.meant.ImageWord.{ImageWord}
use Rattle.iocm_filter.specs.declared.meant.ImageWord.TheVariants as word
use Rattle.iocm_filter.specs.declared.meant.PathWord.{PathWord}
use Rattle.iocm_difference_writer.specs.Text.{difference_text}
use Rattle.iocm_command.specs.declared.table.Varied.{Varied}
use Rattle.iocm_command.specs.declared.table.Varied.TheVariants as to
use Rattle.iocm_console.specs.Shown.{Shown, done}

-- ---- the images of a path that are asked for

-- a record is that of an image of this name
abbrev pub has_own_name : List ℕ → Option Rec → Bool
has_own_name name (Some (image i)) = same_name name i.name
has_own_name name _ = false

-- a word means the image of this name in a channel subsystem: by the name, or by its place
abbrev pub is_named_by : Configuration → ℕ → List ℕ → ImageWord → Bool
is_named_by c css name (word.Named own) = same_name name own
is_named_by c css name (word.Place at) = at.css == css && has_own_name name (lookup_of c (key.Image at.css at.mif))

-- no image is asked for, or this one is
abbrev pub wants_name : Wanted → Configuration → ℕ → List ℕ → Bool
wants_name w c css name = one_if_asked (is_named_by c css name) w.images

-- ---- what is done

-- a path is taken offline for an image to which it is online, and brought online for one to which it isn't
abbrev pub action_from : Varied → Bool → PathRecord → List ℕ → List Action
action_from to.Offline true p name = delete (key.Online p.css p.number name) ∷ []
action_from to.Online false p name = add (online (record { css = p.css; path = p.number; name = name })) ∷ []
action_from _ _ p name = []

abbrev pub is_online : Configuration → PathRecord → List ℕ → Bool
is_online c p name = is_some (lookup_of c (key.Online p.css p.number name))

-- what is done with a path for one of its images
abbrev pub pair_actions : Varied → Wanted → Configuration → PathRecord → List ℕ → List Action
pair_actions to w c p name =
    if wants_name w c p.css name then action_from to (is_online c p name) p name else []

-- a word means a path, and no word before it does
abbrev pub means : PathWord → PathRecord → Bool
means word p = means_path word p.css p.number

abbrev pub is_first_to_mean : List PathWord → PathWord → PathRecord → Bool
is_first_to_mean before word p = means word p && not (list_any (λ other. means other p) before)

-- what is done with the path of a record, if a word is the first to mean it
abbrev pub record_actions : Varied → Wanted → Configuration → List PathWord → PathWord → Rec → List Action
record_actions to w c before word (path p) =
    if is_first_to_mean before word p then flat_map (pair_actions to w c p) (users_of p) else []
record_actions to w c before word _ = []

-- what is done with the paths that a word means, in the order of keys, behind words before it
abbrev pub word_actions : Varied → Wanted → Configuration → List PathWord → PathWord → List Action
word_actions to w c before word = flat_map (record_actions to w c before word) (of_kind 4 (records_of c))

-- what is done word by word, behind words before them
abbrev pub in_turn : Varied → Wanted → Configuration → List PathWord → List PathWord → List Action
in_turn to w c before [] = []
in_turn to w c before (word ∷ words) =
    word_actions to w c before word ++ in_turn to w c (before ++ word ∷ []) words

-- what is done with all paths that are asked for
abbrev pub varied_actions : Varied → Wanted → Configuration → List Action
varied_actions to w c = in_turn to w c [] w.paths

-- its change deck
abbrev pub varied_of : Varied → Wanted → Configuration → Shown
varied_of to w c = done (difference_text None (varied_actions to w c))
