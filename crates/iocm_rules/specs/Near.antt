-- Configurations that keep the rules but for some devices and online records: only these were
-- changed since the rules held.
use Rattle.std.specs.Prelude.{◌≡◌, Bool, true, false, None, List, map}
use Rattle.std.specs.FinMap.{get}
use Rattle.iocm_types.specs.declared.key.Key.{Key}
use Rattle.iocm_types.specs.declared.key.Key.TheVariants.{Device, Online}
use Rattle.iocm_types.specs.declared.place.Place.{Place}
use Rattle.iocm_model.specs.Machine.Configuration.{Configuration, IsKeyed, lookup_of}
use Rattle.iocm_model.specs.Machine.Numbering.{Numbering}
use Rattle.iocm_model.specs.Rules.FirstBreach.{first_breach}
use Rattle.iocm_model.specs.Operation.State.{State, IsSound}
use Rattle.iocm_model.specs.Change.Edit.{Edit, action_key}
use Rattle.iocm_model.specs.Change.Runs.{state_after_all}
use Rattle.iocm_lookup.specs.Among.{is_one_of}

-- the key of a device, or of an online record
abbrev pub is_near_key : Key → Bool
is_near_key (Device set number) = true
is_near_key (Online css path name) = true
is_near_key _ = false

-- each of these is the key of a device, or of an online record
abbrev pub AreNear : List Key → Type 0
AreNear keys = (key : Key) → is_one_of key keys ≡ true → is_near_key key ≡ true

-- before some change the configuration kept the rules; since then only records at these keys, of
-- devices and online, were added, deleted or modified, and no number of another device
pub record KeptBut (keys : List Key) (c : Configuration) (n : Numbering) : Type 0 where
  pub before : Configuration
  pub numbers_before : Numbering
  pub keyed_before : IsKeyed before
  pub held : first_breach before numbers_before ≡ None
  pub near : AreNear keys
  pub elsewhere : (key : Key) → is_one_of key keys ≡ false → lookup_of c key ≡ lookup_of before key
  pub numbers_elsewhere : (p : Place) → is_one_of (Device p.set p.device) keys ≡ false → get n p ≡ get numbers_before p

-- the keys of edits
abbrev pub keys_edited : List Edit → List Key
keys_edited es = map (λ (e : Edit). action_key e.action) es

-- edits of devices and online records alone leave it so but for their keys
abbrev pub NearEditsKeepTheRest : Type 0
NearEditsKeepTheRest = (es : List Edit) (s : State) (keys : List Key) → IsSound s
    → first_breach s.config s.numbers ≡ None → keys ≡ keys_edited es → AreNear keys
    → KeptBut keys (state_after_all es s).config (state_after_all es s).numbers
