use Rattle.std.proofs.Common.{◌≡◌, ◌++◌, take, rules}
use Rattle.me_generate.proofs.Zeros.{padded_is}
use Rattle.me_generate.proofs.put.put_padded.Goals as goal

pub returns : goal.returns
returns c =
    let front : c.put.new.out.items ≡ c.args.out.now.items ++ take c.min-kept.result c.args.text.now = search rules in
    padded_is c.put_zeros.result c.args.out.now.items c.put.new.out.items c.put_zeros.new.out.items c.args.text.now c.args.width c.min-kept.result (search rules) front c.put_zeros.ensures
