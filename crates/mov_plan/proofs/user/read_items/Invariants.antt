use Rattle.std.proofs.Common.{◌-◌, ◌≡◌, ◌++◌, length, map}
use Rattle.container_model.specs.Sizes.{user}
use Rattle.qt_atoms.specs.Walk.{row}
use Rattle.qt_atoms.specs.declared.header.Parent.TheVariants.{UserData}
use Rattle.mov_plan.specs.Users.{chunk_of, opened}
use Rattle.mov_plan.proofs.user.read_items.Given as goal

-- what is read so far and what is still to be read are the whole
abbrev pub invariant-atoms : goal.invariant-atoms
invariant-atoms l = let rest = row user l.body l.walker.at l.walker.end in let whole = opened l.body in record {
  end : l.walker.end ≡ length l.body;
  parent : l.walker.parent ≡ UserData;
  items : map chunk_of l.items.items ++ rest.chunks ≡ whole.chunks;
  left : rest.left ≡ whole.left;
}

abbrev pub decreases-atoms : goal.decreases-atoms
decreases-atoms l = l.walker.end - l.walker.at
