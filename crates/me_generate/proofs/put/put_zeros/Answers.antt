use Rattle.std.proofs.Common.{arith, rules, ◌≡◌, ◌++◌, ◌∷◌, []}
use Rattle.me_generate.proofs.Zeros.{zero_more, zeros_all}
use Rattle.me_generate.proofs.put.put_zeros.Goals as goal

pub loop-preserved : goal.loop-preserved
loop-preserved c =
    let put : c.push.new.self.items ≡ c.loop.out.items ++ 0 ∷ [] = search rules in
    zero_more c.args.out.now.items c.loop.out.items c.push.new.self.items c.loop.counter c.loop.invariant put

pub returns : goal.returns
returns c = zeros_all c.args.out.now.items c.loop.out.items c.loop.counter c.args.n c.loop.invariant (omega arith)
