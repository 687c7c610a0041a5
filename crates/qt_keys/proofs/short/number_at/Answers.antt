use Rattle.std.proofs.Common.{arith, ap, ◌≡◌, ◌∙◌, take, drop}
use Rattle.std.specs.Int.{w32, from_be_bytes}
use Rattle.qt_keys.proofs.short.number_at.Goals as goal

pub returns : goal.returns
returns c =
    let is : c.copy_from_slice.new.self ≡ take 4 (drop c.args.at c.args.bytes.now) = grind arith in
    c.from_be_bytes.ensures ∙ ap (from_be_bytes w32) is
