use Rattle.std.proofs.Common.{arith}
use Rattle.wave_plan.proofs.Frames.{frame_is}
use Rattle.wave_plan.proofs.frame.read_frame.Goals as goal

pub returns-clause-frame : goal.returns-clause-frame
returns-clause-frame g c = λ b holds bytes from.
    frame_is b c.args.form c.in_ok-wide.wide c.pad_of-pad.result bytes (c.requires.form b holds) (c.in_ok-wide.ensures.wide b holds bytes from) c.pad_of-pad.ensures

pub returns-clause-round : goal.returns-clause-round
returns-clause-round g c = λ end low high.
    record {
      small = c.requires.sound.small;
      inside = omega (arith, c.requires.sound.low, c.pad_of-pad.ensures, c.requires.sound.inside);
      low = low;
      table = c.in_ok-wide.ensures.table;
      high = omega (arith, c.requires.sound.low, high);
    }
