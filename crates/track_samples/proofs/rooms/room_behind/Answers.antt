use Rattle.std.proofs.Common.{◌∙◌, sym}
use Rattle.track_samples.proofs.Ranged.{room_last}
use Rattle.track_samples.proofs.rooms.room_behind.Goals as goal

pub returns : goal.returns
returns c = c.last_room.ensures ∙ sym (room_last 0 c.args.spans.now c.args.place c.begun-count.result c.requires.in_order c.begun-count.ensures.bound c.begun-count.ensures.cut)
