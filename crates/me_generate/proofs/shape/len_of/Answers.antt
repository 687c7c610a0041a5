use Rattle.std.proofs.Common.{length, sym, ap, ◌∙◌}
use Rattle.part_tree.specs.declared.names.Kind.{Kind}
use Rattle.me_generate.specs.Stated.{stated}
use Rattle.me_generate.proofs.Lengths.{avi_len, other_len, wave_len}
use Rattle.me_generate.proofs.shape.len_of.Goals as goal

pub returns-in-Wave : goal.returns-in-Wave
returns-in-Wave c = sym (ap (λ (k : Kind). length (stated k c.args.n)) c.in-Wave.is ∙ wave_len c.args.n)

pub returns-in-Avi : goal.returns-in-Avi
returns-in-Avi c = sym (ap (λ (k : Kind). length (stated k c.args.n)) c.in-Avi.is ∙ avi_len c.args.n)

pub returns-in-Mov : goal.returns-in-Mov
returns-in-Mov c = sym (other_len c.args.kind c.args.n c.in-Mov.is)
