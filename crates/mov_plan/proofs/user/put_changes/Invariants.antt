use Rattle.std.proofs.Common.{◌≡◌, drop, map}
use Rattle.container_model.specs.Items.{put_all}
use Rattle.qt_text.specs.User.{user_items}
use Rattle.mov_plan.specs.Users.{changes_of, chunk_of}
use Rattle.mov_plan.proofs.user.put_changes.Given as goal

-- what the changes that are left make of the items is the whole
abbrev pub invariant-changes : goal.invariant-changes
invariant-changes l = put_all user_items (changes_of (drop l.change-index l.changes)) (map chunk_of l.items.items) ≡ put_all user_items (changes_of l.changes) (map chunk_of l.fn.items.items)
