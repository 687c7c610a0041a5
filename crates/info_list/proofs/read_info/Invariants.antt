use Rattle.std.proofs.Common.{◌-◌, ◌+◌, ◌≡◌, ◌++◌, length, map}
use Rattle.container_model.specs.Chunk.{spell_all}
use Rattle.riff_form.specs.Walk.{row}
use Rattle.info_list.specs.Info.{item_of, items_run}
use Rattle.info_list.proofs.read_info.Given as goal

-- what is read so far and what is still to be read are the whole
abbrev pub invariant-loop-fault : goal.invariant-loop-fault
invariant-loop-fault l = let rest = row l.body l.walker.at l.walker.end in let whole = items_run l.body in record {
  end : l.walker.end ≡ length l.body;
  items : l.items.items ++ map item_of rest.chunks ≡ map item_of whole.chunks;
  place : l.walker.at + length (spell_all rest.chunks) ≡ length (spell_all whole.chunks);
  stop : rest.stop ≡ whole.stop;
  left : rest.left ≡ whole.left;
}

abbrev pub decreases-loop-fault : goal.decreases-loop-fault
decreases-loop-fault l = l.walker.end - l.walker.at
