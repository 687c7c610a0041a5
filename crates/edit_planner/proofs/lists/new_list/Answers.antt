use Rattle.std.proofs.Common.{◌∙◌, ap}
use Rattle.info_list.specs.Changes.{changes_of}
use Rattle.edit_planner.specs.Lists.{part_in}
use Rattle.edit_planner.proofs.InfoLists.{new_is}
use Rattle.edit_planner.proofs.lists.new_list.Goals as goal

pub returns-clause-content : goal.returns-clause-content
returns-clause-content c =
    new_is (part_in 0 c.args.homed.now) (changes_of c.deref.result.now) c.new-list.result c.in-Ok-edited_list.content c.sets_value.result (ap changes_of c.deref.ensures.value ∙ c.in-Ok.ensures) c.sets_value.ensures c.if-not-sets_value.false
    c.new-list.ensures.items c.new-list.ensures.rest c.in-Ok-edited_list.ensures.content
