use Rattle.std.proofs.Common.{arith}
use Rattle.unit_plan.proofs.Spliced.{inside_more, total_more}
use Rattle.avi_plan.proofs.Made.{all_based, all_bytes, all_named}
use Rattle.avi_plan.proofs.segments.Rewritten.push.Goals as goal

pub returns-clause-bytes : goal.returns-clause-bytes
returns-clause-bytes c = λ ms b. all_bytes ms b c.args.self.now.segments.items c.push.new.self.items c.args.segment c.in-Ok.ensures.items

pub returns-clause-sound : goal.returns-clause-sound
returns-clause-sound c = λ b based inside made. record {
  total = omega (arith, total_more c.args.self.now.segments.items c.push.new.self.items c.args.segment c.in-Ok.ensures.items, made.total, c.requires, c.in-Some.is);
  based = all_based c.args.self.now.segments.items c.push.new.self.items c.args.segment c.in-Ok.ensures.items made.based based;
  inside = inside_more b c.args.self.now.segments.items c.push.new.self.items c.args.segment c.in-Ok.ensures.items made.inside inside;
}

pub returns-clause-named : goal.returns-clause-named
returns-clause-named c = λ ms b named all. all_named ms b c.args.self.now.segments.items c.push.new.self.items c.args.segment c.in-Ok.ensures.items all named
