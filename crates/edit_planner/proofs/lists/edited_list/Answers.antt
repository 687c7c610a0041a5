use Rattle.std.proofs.Common.{◌∙◌, ap}
use Rattle.info_list.specs.Changes.{changes_of}
use Rattle.edit_planner.proofs.InfoLists.{changed_readable}
use Rattle.edit_planner.proofs.lists.edited_list.Goals as goal

pub spelled_list-requires : goal.spelled_list-requires
spelled_list-requires c = record {
  readable = changed_readable c.args.homed.now c.args.n c.args.list.now c.put_all.new.self (changes_of c.deref.result.now) c.requires.info (ap changes_of c.deref.ensures.value ∙ c.in-Ok.ensures) c.requires.readable c.in-Ok-put_all.ensures.put c.in-Ok-put_all.ensures.rest;
}
