use Rattle.std.proofs.Common.{sym, ◌∙◌}
use Rattle.mov_file.proofs.Astray.{held_at}
use Rattle.mov_file.proofs.chunks.holds.Goals as goal

pub returns-then-near-mdats : goal.returns-then-near-mdats
returns-then-near-mdats c = λ yes. held_at c.args.mdats.now c.args.near _ c.args.place c.if-near-mdats.true (sym c.lies_in.ensures ∙ yes)
