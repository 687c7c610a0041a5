use Rattle.core_edit.proofs.Updated.{put_is, on_ok}
use Rattle.core_edit.proofs.apply.put_change.Goals as goal

pub returns : goal.returns
returns c = on_ok c.replace.result _ _ (λ puts. put_is c.args.new.now c.replace.new.self c.args.change.now.name c.in_ok-value.value c.args.change.now.value c.in_ok-value.ensures puts) c.replace.ensures.ok
