use Rattle.std.proofs.Common.{arith, ap, ◌≡◌, ◌+◌, ◌∙◌, sym, take, drop}
use Rattle.std.proofs.lemmas.List.{drop-drop}
use Rattle.qt_keys.proofs.short.kind_of.Goals as goal

pub returns : goal.returns
returns c =
    let is : c.copy_from_slice.new.self ≡ take 4 (drop (c.args.at + 4) c.args.bytes.now) = grind arith in
    is ∙ ap (take 4) (sym (drop-drop 4 c.args.at c.args.bytes.now))
