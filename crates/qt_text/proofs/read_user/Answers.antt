use Rattle.std.proofs.Common.{arith}
use Rattle.qt_text.proofs.Texts.{texts_step}
use Rattle.qt_text.proofs.read_user.Goals as goal

pub texts-preserved : goal.texts-preserved
texts-preserved c =
    record {
      inside = omega (arith, c.in-Some.ensures.inside);
      left = texts_step c.args.body.now c.texts.at c.in-Some.len c.texts.texts.items c.push.new.self.items c.in_ok-text.text (omega arith) c.in-Some.ensures.len c.in_ok-text.ensures c.in-Ok.ensures.items c.texts.invariant.left;
    }
