use Rattle.std.proofs.Common.{arith, rules, ◌∙◌}
use Rattle.std.specs.Prelude.{◌||◌}
use Rattle.wave_file.proofs.Fronts.{short_kind, kind_told}
use Rattle.wave_file.proofs.form.read_front.Goals as goal

pub returns-then-len-lt12-clause-front : goal.returns-then-len-lt12-clause-front
returns-then-len-lt12-clause-front g c = λ b holds. short_kind b (omega (arith, c.if-len-lt12.true, c.requires.whole b holds))

pub returns-then-is-big-clause-front : goal.returns-then-is-big-clause-front
returns-then-is-big-clause-front g c = λ b holds. record { tests = search rules; big = search rules; kind = c.kind_by-kind.ensures ∙ kind_told b (c.is.result || c.is-bw64.result) c.is-bw64.result (search rules) (search rules); field = search rules; long = search rules }
