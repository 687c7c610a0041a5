use Rattle.std.proofs.Common.{sym, subst}
use Rattle.edit_planner.proofs.MovieEdit.{put_all, set_all}
use Rattle.edit_planner.proofs.carried.carried.Goals as goal

pub carriers-requires-clause-can_set : goal.carriers-requires-clause-can_set
carriers-requires-clause-can_set g c = set_all c.in-Ok.users.items c.deref.result.now _ c.in-Ok.ensures c.deref.ensures.value c.requires.users

pub carriers-requires-clause-can_put : goal.carriers-requires-clause-can_put
carriers-requires-clause-can_put g c = put_all c.in-Ok-key_changes.keys.items c.deref-2.result.now _ c.in-Ok-key_changes.ensures c.deref-2.ensures.value c.requires.keys
