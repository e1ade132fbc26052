-- What a record that is put or taken away leaves of a table.
use Rattle.std.proofs.Common.{◌∙◌, Bool, cond, List, None, Some, ap}
use Rattle.std.specs.FinMap.{get, insert, remove, get-insert, get-remove}
use Rattle.iocm_types.specs.declared.key.Key.{Key}
use Rattle.iocm_types.specs.Key.{key_cmp}
use Rattle.iocm_types.specs.KeyOrder.{keys_total, keys_exact}
use Rattle.iocm_types.proofs.Parts.{untied}
use Rattle.iocm_model.specs.Machine.Record.{Rec}
use Rattle.iocm_model.specs.Machine.Configuration.{Configuration}
use Rattle.iocm_reach.specs.declared.image_path.ImagePath.{ImagePath}
use Rattle.iocm_reach.specs.Tabled.{IsReachOf, WasReach}

pub was_put : (m : Configuration) (key : Key) (r : Rec) (table : List ImagePath) → IsReachOf m table
    → WasReach key (insert m key r) table
was_put m key r table reach = record {
  before = m;
  same = λ other apart. get-insert keys_total m key r other
      ∙ ap (λ (b : Bool). cond b (Some r) (get m other)) (untied key_cmp keys_exact other key apart);
  reach = reach;
}

pub was_taken : (m : Configuration) (key : Key) (table : List ImagePath) → IsReachOf m table
    → WasReach key (remove m key) table
was_taken m key table reach = record {
  before = m;
  same = λ other apart. get-remove keys_total m key other
      ∙ ap (λ (b : Bool). cond b None (get m other)) (untied key_cmp keys_exact other key apart);
  reach = reach;
}
