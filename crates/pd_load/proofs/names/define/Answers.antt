use Rattle.std.proofs.Common.{◌≡◌, string_bytes}
use Rattle.std.proofs.lemmas.Map.Text.{btree_map_updates_text}
use Rattle.std.proofs.lemmas.Result.{IfOk-at_ok}
use Rattle.pd_load.proofs.Tables.{gains_one}
use Rattle.pd_load.proofs.names.define.Goals as goal

pub returns : goal.returns
returns c =
    let key = IfOk-at_ok (λ s. string_bytes s ≡ c.args.name.now) c.in_ok-key.was c.from_str.ensures.ok in
    let sets = btree_map_updates_text (string_bytes c.in_ok-key.key) c.args.table.now c.insert.new.self _ c.in_ok-insert.ensures.updates in
    gains_one c.args.name.now c.args.item c.args.table.now c.insert.new.self (rw key at sets)
